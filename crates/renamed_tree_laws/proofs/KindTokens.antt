-- Tokens whose kind is asked: primary expressions, type names, and names in an identifier list.
use Rattle.std.proofs.Common.{ℕ, ◌+◌, ◌<◌, ◌≡◌, Bool, true, false, ◌&&◌, ◌||◌, not, if◌then◌else◌, ◌==◌, ◌%◌, List, length, Ok, Err, refl, sym, ap, subst, ◌∙◌, arith}
use Rattle.std.proofs.lemmas.Bool.{false≢true, and_from}
use Rattle.c99_grammar.specs.declared.dialects.Dialect.TheVariants.{Iso}
use Rattle.c99_grammar.specs.declared.dialects.Edition.{Edition}
use Rattle.cs_base.specs.Token.{Token}
use Rattle.cs_base.proofs.BoolLemmas.{declarator_form as refuted}
use Rattle.c99_tree.specs.Tree.{count_of}
use Rattle.c99_tree.specs.declared.production.Label.{Label}
use Rattle.c99_tree.specs.declared.production.Production.{Production}
use Rattle.c99_tree.specs.declared.production.Production.TheVariants.{Main, Mod, Params, Primary}
use Rattle.c99_grammar.specs.Classes.{among}
use Rattle.c99_grammar.specs.Items.{Item, one, part, act, ◌·◌, many, own, name}
use Rattle.c99_grammar.specs.Standard.{iso}
use Rattle.c99_read.specs.State.{State, base_at, is_identifier, is_typedef_at, class_at, declaration, in_innermost, acted, opened}
use Rattle.c99_read.specs.Reading.{Goal, repeat, Step, and_then, take_one, may, step}
use Rattle.tree_laws.proofs.Private.{Class}
use Rattle.tree_laws.proofs.TypedefClasses.{identifiers, typedef_names}
use Rattle.tree_laws.proofs.Outline.{Outline, outlined, typedef_among, token_agrees}
use Rattle.tree_laws.proofs.Matching.{Bounds, bounds_within, bounds_sooner, same_typedef}
use Rattle.tree_laws.proofs.Places.{count_leaf}
use Rattle.tree_laws.proofs.Rules.{labelled}
use Rattle.tree_laws.proofs.Goes.{After, with_token, IsIn, Fits, Goes, token_goes}
use Rattle.tree_laws.proofs.TypedefSteps.{Reads, taken, goes_step, opened_in}
use Rattle.tree_laws.proofs.Taking.{if_held, some_typedef}
use Rattle.tree_laws.proofs.Declaring.{outer_declared}
use Rattle.tree_laws.proofs.Listing.{listing, IsEven, IsOdd, more_listed, comma, listed_items, Listed, listed_named, listed_goes, listed_count, listed_step, comma_goes, more_step, many_listed, even_next, odd_next}
use Rattle.renamed_tree_laws.proofs.Bases.{base_so}
use Rattle.renamed_tree_laws.specs.Along.{along_rest}
use Rattle.renamed_tree_laws.specs.Respelled.{is_kind_so}
use Rattle.renamed_tree_laws.proofs.Asking.{of_token, of_node, Asks, asks_still, asks_further, asks_then, token_asks, along, Asked, asks_step, BodyAsks, asks_body}

pub bare_of : (c t u : Bool) → t ≡ u → not u ≡ true → (not c || not t) ≡ true
bare_of true t u e h = ap not e ∙ h
bare_of false t u e h = refl

no_name_of : (c t : Bool) → c ≡ false → (not c || not t) ≡ true
no_name_of c t e = ap (λ x. not x || not t) e

-- ---- A comma is no identifier

comma_case : (x y : Class) (i t : Bool) → (among comma y ≡ true → i ≡ false) → among comma x ≡ false → among comma (if i && t then x else y) ≡ true → i ≡ false
comma_case x y true true h gone e = absurd (false≢true (sym gone ∙ e))
comma_case x y true false h gone e = h e
comma_case x y false t h gone e = refl

opened_count : (p : Production) (n : ℕ) (s : State) → count_of (opened p n s).built.under ≡ 0
unfolding opened
opened_count p n s = refl

module _ (std : Edition) where
  pub comma_is : (s : State) (k : ℕ) → among comma (class_at (iso std) s k) ≡ true → is_identifier (base_at (iso std) s.toks k) ≡ false
  unfolding class_at
  comma_is s k e =
      comma_case _ (base_at (iso std) s.toks k) (is_identifier (base_at (iso std) s.toks k)) (is_typedef_at s.toks s.names.scopes k)
      (λ h. refuted _ _ (base_so (Iso std) (λ c. not (among comma c) || not (is_identifier c)) refl s.toks k) h) refl e

  module _ (a b : List Token) where
    module _ (l : Label) (s : State) where
      -- the reader's scopes say of a name of the second text what the outline says
      pub next_same : (o : Outline) (ends : List ℕ) → Bounds (s.at + 1) o.scope.to s.names.scopes ends → Fits std a l s ends o
          → is_typedef_at b s.names.scopes s.at ≡ typedef_among std b s.at (outlined s.built.under o).entries
      next_same o ends bounds f =
          (same_typedef std) b s.at s.at s.names.scopes ends (outlined s.built.under o).entries (omega arith)
          (bounds_within (s.at + 1) o.scope.to s.names.scopes ends bounds) f.matches

    kind_in : (l : Label) (first : ℕ) (s : State) → IsIn l first s → of_token std a b s ≡ is_kind_so (Iso std) b l.production l.alternative s.names.scopes s.at
    kind_in l first s i = ap (λ (m : Label). is_kind_so (Iso std) b m.production m.alternative s.names.scopes s.at) i.label

    -- ---- Primary expressions (6.5.1)

    pub primary_asks : (s : State) → After (BodyAsks std a b Primary 1 (of_node std a b Primary 1 s && of_token std a b (opened Primary 1 s)) s) (take_one (iso std) identifiers (opened Primary 1 s))
    primary_asks s =
        (taken std) (BodyAsks std a b Primary 1 (of_node std a b Primary 1 s && of_token std a b (opened Primary 1 s)) s) identifiers (opened Primary 1 s)
        (λ c more. asks_body std a b Primary 1 (of_token std a b (opened Primary 1 s)) s (with_token (opened Primary 1 s)) refl refl
        (token_asks std a b (labelled Primary 1) (opened Primary 1 s) (of_token std a b (opened Primary 1 s))
        (λ o ends bounds f t.
        kind_in (labelled Primary 1) s.at (opened Primary 1 s) (opened_in std a Primary 1 s)
        ∙ bare_of (is_identifier (base_at (iso std) b (opened Primary 1 s).at)) _ _ (next_same (labelled Primary 1) (opened Primary 1 s) o ends bounds f) t)))

    -- ---- Type names (6.7.2)

    type_held : (k i : ℕ) (o : Outline) → k ≡ 0 → token_agrees std b Main 4 k i o.entries ≡ true → typedef_among std b i o.entries ≡ true
    type_held k i o e h = sym (ap (λ n. if n == 0 then typedef_among std b i o.entries else true) e) ∙ h

    module _ (below : ℕ → Goal → State → Step) (along_below : ℕ → Goal → State → Bool) (reads : Reads std a below) (asked : Asked std a b below along_below) (depth : ℕ) where
      abbrev type_items : Item
      type_items = one typedef_names · many own (part Mod)

      abbrev type_label : Label
      type_label = labelled Main 4

      type_goes : (s : State) → After (Goes std a type_label s.at (opened Main 4 s)) (take_one (iso std) typedef_names (opened Main 4 s))
      type_goes s =
          (taken std) (Goes std a type_label s.at (opened Main 4 s)) typedef_names (opened Main 4 s)
          (λ c more. token_goes std a type_label s.at (opened Main 4 s) more
          (λ o ends bounds f. (
            refl,
            (if_held std) a ((outlined (opened Main 4 s).built.under o).nth == 0) (typedef_among std a (opened Main 4 s).at (outlined (opened Main 4 s).built.under o).entries)
                (some_typedef std a type_label (opened Main 4 s) o ends c bounds f),
          )))

      type_asks : (s : State) → After (Asks std a b type_label (of_token std a b (opened Main 4 s)) (opened Main 4 s)) (take_one (iso std) typedef_names (opened Main 4 s))
      type_asks s =
          (taken std) (Asks std a b type_label (of_token std a b (opened Main 4 s)) (opened Main 4 s)) typedef_names (opened Main 4 s)
          (λ c more. token_asks std a b type_label (opened Main 4 s) (of_token std a b (opened Main 4 s))
          (λ o ends bounds f t.
          kind_in type_label s.at (opened Main 4 s) (opened_in std a Main 4 s)
          ∙ (next_same type_label (opened Main 4 s) o ends bounds f
          ∙ type_held (outlined (opened Main 4 s).built.under o).nth (opened Main 4 s).at (outlined (opened Main 4 s).built.under o) (f.nth ∙ opened_count Main 4 s) t)))

      pub main_asks : (s : State)
          → After (BodyAsks std a b Main 4 (of_node std a b Main 4 s && along std a b below along_below depth type_items (opened Main 4 s)) s)
          (step (iso std) below depth type_items (opened Main 4 s))
      main_asks s =
          by (step (iso std) below depth type_items (opened Main 4 s))
          (asks_then std a b type_label s.at (opened Main 4 s) (of_token std a b (opened Main 4 s)) (along std a b below along_below depth (many own (part Mod)))
          (take_one (iso std) typedef_names (opened Main 4 s)) (step (iso std) below depth (many own (part Mod))) (opened_in std a Main 4 s) (type_goes s) (type_asks s)
          (λ s' i. goes_step std a below reads (many own (part Mod)) type_label s.at depth s' refl i)
          (λ s' i. asks_step std a b below along_below reads asked (many own (part Mod)) type_label s.at depth s' refl i))
        where
          by : (r : Step) → After (Asks std a b type_label (along std a b below along_below depth type_items (opened Main 4 s)) (opened Main 4 s)) r
              → After (BodyAsks std a b Main 4 (of_node std a b Main 4 s && along std a b below along_below depth type_items (opened Main 4 s)) s) r
          by (Err stop) m = tt
          by (Ok s') m = asks_body std a b Main 4 (along std a b below along_below depth type_items (opened Main 4 s)) s s' refl refl m

    -- ---- Identifier lists (6.7.5.3 paragraph 3)

    list_held : (k i : ℕ) (o : Outline) → (k % 2 == 0) ≡ true → token_agrees std b Params 1 k i o.entries ≡ true → not (typedef_among std b i o.entries) ≡ true
    list_held k i o e h = sym (ap (λ c. if c then not (typedef_among std b i o.entries) else true) e) ∙ h

    module _ (same : (k : ℕ) → base_at (iso std) a k ≡ base_at (iso std) b k) (below : ℕ → Goal → State → Step) (along_below : ℕ → Goal → State → Bool) where
      -- a name of the list, which is declared
      name_asks : (first : ℕ) (s : State) (c : among identifiers (class_at (iso std) s s.at) ≡ true) (more : s.at < length s.toks) (even : IsEven s) → IsIn listing first s
          → Asks std a b listing (of_token std a b s && true) s (acted (iso std) name (with_token s))
      name_asks first s c more even i =
          subst (Asks std a b listing (of_token std a b s && true) s) (sym (listed_named std a first s c more even))
          (λ o ends bounds f agree. (
          let sooner = bounds_sooner (s.at + 1) (s.at + 1) o.scope.to s.names.scopes (in_innermost s.names.scopes (declaration s.at false)) ends f.opens (omega arith)
          (outer_declared s.names.scopes (declaration s.at false)) bounds in
          let r = token_asks std a b listing s (of_token std a b s)
          (λ o ends bounds f t.
          kind_in listing first s i
          ∙ bare_of (is_identifier (base_at (iso std) b s.at)) _ _ (next_same listing s o ends bounds f)
          (list_held (outlined s.built.under o).nth s.at (outlined s.built.under o) (ap (λ n. n % 2 == 0) f.nth ∙ even) t))
          o ends sooner f agree in
          (r.0, and_from (of_token std a b s) true r.1 refl)))

      abbrev Named : State → Step → Type 0
      Named s r = After (λ s'. (s' ≡ with_token s) × ((among identifiers (class_at (iso std) s s.at) ≡ true) × (s.at < length s.toks))) r

      listed_asks : (first depth : ℕ) (s : State) → IsEven s → IsIn listing first s
          → After (Asks std a b listing (along std a b below along_below depth listed_items s) s) (step (iso std) below depth listed_items s)
      listed_asks first depth s even i =
          by (take_one (iso std) identifiers s)
          (taken std (λ s'. (s' ≡ with_token s) × ((among identifiers (class_at (iso std) s s.at) ≡ true) × (s.at < length s.toks))) identifiers s (λ c more. (refl, (c, more))))
        where
          by : (r : Step) → Named s r
              → After (Asks std a b listing (of_token std a b s && along_rest r (along std a b below along_below depth (act name))) s) (and_then r (λ s'. Ok (acted (iso std) name s')))
          by (Err stop) m = tt
          by (Ok s') m = subst (λ x. Asks std a b listing (of_token std a b s && true) s (acted (iso std) name x)) (sym m.0) (name_asks first s m.1.0 m.1.1 even i)

      comma_asks : (first : ℕ) (s : State) → among comma (class_at (iso std) s s.at) ≡ true → IsIn listing first s → Asks std a b listing (of_token std a b s) s (with_token s)
      comma_asks first s c i =
          (token_asks std) a b listing s (of_token std a b s)
          (λ o ends bounds f t.
          kind_in listing first s i
          ∙ no_name_of (is_identifier (base_at (iso std) b s.at)) (is_typedef_at b s.names.scopes s.at)
          (sym (ap is_identifier (same s.at)) ∙ (ap (λ x. is_identifier (base_at (iso std) x s.at)) (sym f.text) ∙ comma_is s s.at c)))

      even_behind : (s : State) → IsOdd s → IsEven (with_token s)
      even_behind s odd = ap (λ n. n % 2 == 0) (count_behind s) ∙ even_next std a (count_of s.built.under) odd
        where
          count_behind : (s : State) → count_of (with_token s).built.under ≡ count_of s.built.under + 1
          count_behind s = count_leaf s.built.under s.at

      -- a comma and a name
      more_asks : (first depth : ℕ) (s : State) → IsOdd s → IsIn listing first s
          → After (Asks std a b listing (along std a b below along_below depth more_listed s) s) (step (iso std) below depth more_listed s)
      more_asks first depth s odd i =
          by (take_one (iso std) comma s) (taken std (λ s'. (s' ≡ with_token s) × ((among comma (class_at (iso std) s s.at) ≡ true) × (s.at < length s.toks))) comma s (λ c more. (refl, (c, more))))
        where
          second : (r : Step) → (among comma (class_at (iso std) s s.at) ≡ true) → s.at < length s.toks → After (Listed std a first (with_token s)) r
              → After (Asks std a b listing (along std a b below along_below depth listed_items (with_token s)) (with_token s)) r
              → After (Asks std a b listing (of_token std a b s && along std a b below along_below depth listed_items (with_token s)) s) r
          second (Err stop) c more g k = tt
          second (Ok s') c more g k =
              (asks_further std) a b listing first s (with_token s) s' (of_token std a b s) (along std a b below along_below depth listed_items (with_token s))
              (comma_goes std a first s more odd) g.0.outer g.0.later (comma_asks first s c i) k

          by : (r : Step) → After (λ s'. (s' ≡ with_token s) × ((among comma (class_at (iso std) s s.at) ≡ true) × (s.at < length s.toks))) r
              → After (Asks std a b listing (of_token std a b s && along_rest r (along std a b below along_below depth listed_items)) s) (and_then r (step (iso std) below depth listed_items))
          by (Err stop) m = tt
          by (Ok s') m =
              subst (λ x. After (Asks std a b listing (of_token std a b s && along std a b below along_below depth listed_items x) s) (step (iso std) below depth listed_items x)) (sym m.0)
              (second (step (iso std) below depth listed_items (with_token s)) m.1.0 m.1.1 (listed_step std a below first depth (with_token s) (even_behind s odd))
              (listed_asks first depth (with_token s) (even_behind s odd) ((comma_goes std a first s m.1.1 odd).inside i)))

      module _ (again : (depth first : ℕ) (s : State) → IsOdd s → After (Goes std a listing first s) (below depth (repeat own more_listed) s))
          (again_asks : (depth first : ℕ) (s : State) → IsOdd s → IsIn listing first s
          → After (Asks std a b listing (along_below depth (repeat own more_listed) s) s) (below depth (repeat own more_listed) s)) where
        pub many_asks : (first depth : ℕ) (s : State) → IsOdd s → IsIn listing first s
            → After (Asks std a b listing (along std a b below along_below depth (many own more_listed) s) s) (step (iso std) below depth (many own more_listed) s)
        many_asks first depth s odd i =
            choose (may (iso std) own more_listed s) (by (step (iso std) below depth more_listed s) (more_step std a below first depth s odd) (more_asks first depth s odd i))
          where
            onward : (s' : State) (r : Step) → Goes std a listing first s s' → Asks std a b listing (along std a b below along_below depth more_listed s) s s'
                → After (Goes std a listing first s') r → After (Asks std a b listing (along_below depth (repeat own more_listed) s') s') r
                → After (Asks std a b listing (along std a b below along_below depth more_listed s && along_below depth (repeat own more_listed) s') s) r
            onward s' (Err stop) g k h m = tt
            onward s' (Ok s'') g k h m =
                (asks_further std) a b listing first s s' s'' (along std a b below along_below depth more_listed s) (along_below depth (repeat own more_listed) s') g h.outer h.later k m

            by : (r : Step) → After (λ s'. Goes std a listing first s s' × IsOdd s') r → After (Asks std a b listing (along std a b below along_below depth more_listed s) s) r
                → After (Asks std a b listing (along std a b below along_below depth more_listed s && along_rest r (along_below depth (repeat own more_listed))) s)
                (and_then r (below depth (repeat own more_listed)))
            by (Err stop) g k = tt
            by (Ok s') g k =
                onward s' (below depth (repeat own more_listed) s') g.0 k (again depth first s' g.1) (again_asks depth first s' g.1 (g.0.inside i))

            choose : (c : Bool)
                → After (Asks std a b listing (along std a b below along_below depth more_listed s && along_rest (step (iso std) below depth more_listed s) (along_below depth (repeat own more_listed))) s)
                (and_then (step (iso std) below depth more_listed s) (below depth (repeat own more_listed)))
                → After (Asks std a b listing (if c then along std a b below along_below depth more_listed s && along_rest (step (iso std) below depth more_listed s) (along_below depth (repeat own more_listed)) else true) s)
                (if c then and_then (step (iso std) below depth more_listed s) (below depth (repeat own more_listed)) else Ok s)
            choose true m = m
            choose false m = asks_still std a b listing s

        opened_even : (s : State) → IsEven (opened Params 1 s)
        unfolding opened
        opened_even s = refl

        abbrev all_listed : Item
        all_listed = one identifiers · (act name · many own more_listed)

        pub list_asks : (depth : ℕ) (s : State)
            → After (BodyAsks std a b Params 1 (of_node std a b Params 1 s && along std a b below along_below depth all_listed (opened Params 1 s)) s)
            (step (iso std) below depth all_listed (opened Params 1 s))
        list_asks depth s =
            by (take_one (iso std) identifiers (opened Params 1 s))
            (taken std (λ s'. (s' ≡ with_token (opened Params 1 s)) × ((among identifiers (class_at (iso std) (opened Params 1 s) (opened Params 1 s).at) ≡ true) × ((opened Params 1 s).at < length (opened Params 1 s).toks)))
            identifiers (opened Params 1 s) (λ c more. (refl, (c, more))))
          where
            last_names : (s1 : State) (v w : Bool) (r : Step) → Goes std a listing s.at (opened Params 1 s) s1 → Asks std a b listing v (opened Params 1 s) s1
                → After (Goes std a listing s.at s1) r → After (Asks std a b listing w s1) r
                → After (BodyAsks std a b Params 1 (of_node std a b Params 1 s && (v && w)) s) r
            last_names s1 v w (Err stop) g k h m = tt
            last_names s1 v w (Ok s') g k h m =
                (asks_body std) a b Params 1 (v && w) s s' refl refl (asks_further std a b listing s.at (opened Params 1 s) s1 s' v w g h.outer h.later k m)

            shorter : (v : Bool) → (v && true) ≡ v
            shorter true = refl
            shorter false = refl

            from_first : (among identifiers (class_at (iso std) (opened Params 1 s) (opened Params 1 s).at) ≡ true) → (opened Params 1 s).at < length (opened Params 1 s).toks
                → After (BodyAsks std a b Params 1 (of_node std a b Params 1 s && (of_token std a b (opened Params 1 s) && along std a b below along_below depth (many own more_listed) (acted (iso std) name (with_token (opened Params 1 s))))) s)
                (step (iso std) below depth (many own more_listed) (acted (iso std) name (with_token (opened Params 1 s))))
            from_first c more =
                let g = listed_goes std a s.at (opened Params 1 s) c more (opened_even s) in
                let odd : IsOdd (acted (iso std) name (with_token (opened Params 1 s))) =
                ap (λ n. n % 2 == 0) (listed_count std a s.at (opened Params 1 s) c more (opened_even s)) ∙ odd_next std a (count_of (opened Params 1 s).built.under) (opened_even s) in
                last_names (acted (iso std) name (with_token (opened Params 1 s))) (of_token std a b (opened Params 1 s))
                (along std a b below along_below depth (many own more_listed) (acted (iso std) name (with_token (opened Params 1 s))))
                (step (iso std) below depth (many own more_listed) (acted (iso std) name (with_token (opened Params 1 s)))) g
                (subst (λ v. Asks std a b listing v (opened Params 1 s) (acted (iso std) name (with_token (opened Params 1 s)))) (shorter (of_token std a b (opened Params 1 s)))
                (name_asks s.at (opened Params 1 s) c more (opened_even s) (opened_in std a Params 1 s)))
                (many_listed std a below again s.at depth (acted (iso std) name (with_token (opened Params 1 s))) odd)
                (many_asks s.at depth (acted (iso std) name (with_token (opened Params 1 s))) odd (g.inside (opened_in std a Params 1 s)))

            by : (r : Step) → Named (opened Params 1 s) r
                → After (BodyAsks std a b Params 1 (of_node std a b Params 1 s && (of_token std a b (opened Params 1 s) && along_rest r (along std a b below along_below depth (act name · many own more_listed)))) s)
                (and_then r (step (iso std) below depth (act name · many own more_listed)))
            by (Err stop) m = tt
            by (Ok s') m =
                subst (λ x. After (BodyAsks std a b Params 1 (of_node std a b Params 1 s && (of_token std a b (opened Params 1 s) && along std a b below along_below depth (many own more_listed) (acted (iso std) name x))) s)
                (step (iso std) below depth (many own more_listed) (acted (iso std) name x))) (sym m.0) (from_first m.1.0 m.1.1)
