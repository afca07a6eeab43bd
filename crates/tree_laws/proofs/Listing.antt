-- Names that are declared where they stand: in an identifier list, and at the end of an enumerator.
use Rattle.std.proofs.Common.{ℕ, ◌+◌, ◌<◌, ◌≡◌, true, false, not, if◌then◌else◌, ◌==◌, ◌%◌, List, length, Option, None, Some, Ok, Err, refl, sym, ap, subst, ◌∙◌, arith}
use Rattle.std.proofs.lemmas.Bool.{eqb-false, eqb-true, eq-eqb, ne_eqb}
use Rattle.c99_grammar.specs.declared.dialects.Edition.{Edition}
use Rattle.cs_base.specs.Token.{Token}
use Rattle.c99_tree.specs.Tree.{Forest, none, token, node, Node, leaf, inner, put, count_of}
use Rattle.c99_tree.specs.declared.production.Label.{Label}
use Rattle.c99_tree.specs.declared.production.Production.TheVariants.{Params}
use Rattle.c99_grammar.specs.Classes.{among}
use Rattle.c99_grammar.specs.Items.{Item, one, act, ◌·◌, many, own, name}
use Rattle.c99_grammar.specs.Standard.{c99, iso}
use Rattle.c99_read.specs.State.{State, base_at, is_identifier, class_at, last_identifier, declaration, in_innermost, acted, opened}
use Rattle.c99_read.specs.Reading.{Goal, repeat, Step, and_then, take_one, may, step}
use Rattle.scope_bind.specs.Named.{Scope}
use Rattle.tree_laws.proofs.Private.{Class}
use Rattle.tree_laws.proofs.Parts.{first_body, rest_of, front_of, inside_of, classes_of}
use Rattle.tree_laws.proofs.TypedefClasses.{identifiers, identifier_is}
use Rattle.tree_laws.proofs.Outline.{Outline, added, is_listing, stepped, outlined, token_agrees, typedef_among}
use Rattle.tree_laws.proofs.Matching.{Matches, Bounds, matches_later, outer_open, bounds_sooner}
use Rattle.tree_laws.proofs.Places.{ends_leaf, count_leaf, outlined_leaf, agree_leaf}
use Rattle.tree_laws.proofs.Rules.{labelled, hold_leaf}
use Rattle.tree_laws.proofs.Goes.{After, with_token, Fits, Goes, goes_still, goes_further, token_goes, Body}
use Rattle.tree_laws.proofs.TypedefSteps.{after_if, taken, goes_body}
use Rattle.tree_laws.proofs.Taking.{no_typedef, if_held}
use Rattle.tree_laws.proofs.Declaring.{naming, outer_declared, put_matches}

-- ---- Identifier lists (6.7.5.3 paragraph 3)

abbrev pub listing : Label
listing = labelled Params 1

-- a name of the list is next, where an even number of children stands before it
abbrev pub IsEven : State → Type 0
IsEven s = (count_of s.built.under % 2 == 0) ≡ true

abbrev pub IsOdd : State → Type 0
IsOdd s = (count_of s.built.under % 2 == 0) ≡ false

abbrev pub more_listed : Item
more_listed = inside_of (rest_of (rest_of (first_body (c99.table Params))))

abbrev pub comma : List Class
comma = classes_of (front_of more_listed)

abbrev pub listed_items : Item
listed_items = one identifiers · act name

module _ (std : Edition) where
  -- ---- The last identifier among some children

  pub last_put : (toks : List Token) (f : Forest) (i : ℕ) (found : Option ℕ) → is_identifier (base_at (iso std) toks i) ≡ true
      → last_identifier (iso std) toks (put f (leaf i)) found ≡ Some i
  last_put toks none i found h = ap (λ c. if c then Some i else found) h
  last_put toks (token j rest) i found h = last_put toks rest i _ h
  last_put toks (node l first under rest) i found h = last_put toks rest i found h

  pub last_other : (toks : List Token) (f : Forest) (i : ℕ) (found : Option ℕ) → is_identifier (base_at (iso std) toks i) ≡ false
      → last_identifier (iso std) toks (put f (leaf i)) found ≡ last_identifier (iso std) toks f found
  last_other toks none i found h = ap (λ c. if c then Some i else found) h
  last_other toks (token j rest) i found h = last_other toks rest i _ h
  last_other toks (node l first under rest) i found h = last_other toks rest i found h

  pub last_node : (toks : List Token) (f : Forest) (n : Node) (found : Option ℕ) → last_identifier (iso std) toks (put f (inner n)) found ≡ last_identifier (iso std) toks f found
  last_node toks none n found = refl
  last_node toks (token j rest) n found = last_node toks rest n _
  last_node toks (node l first under rest) n found = last_node toks rest n found

  pub named_is : (s : State) (i : ℕ) → last_identifier (iso std) s.toks s.built.under None ≡ Some i → acted (iso std) name s ≡ naming s (Some i) false
  unfolding acted
  named_is s i e = ap (λ o. naming s o false) e

  module _ (toks : List Token) where
    module _ (first : ℕ) (s : State) (c : among identifiers (class_at (iso std) s s.at) ≡ true) (more_toks : s.at < length s.toks) (even : IsEven s) where
      abbrev after_name : State
      after_name = naming (with_token s) (Some s.at) false

      listed_fits : (o : Outline) (ends : List ℕ) → Bounds (s.at + 1) o.scope.to (in_innermost s.names.scopes (declaration s.at false)) ends
          → Fits std toks listing s ends o → Fits std toks listing after_name ends o
      listed_fits o ends b f =
          let here : Outline = outlined s.built.under o in
          let before : Bounds (s.at + 1) o.scope.to s.names.scopes ends =
          bounds_sooner (s.at + 1) (s.at + 1) o.scope.to s.names.scopes (in_innermost s.names.scopes (declaration s.at false)) ends f.opens (omega arith)
          (outer_declared s.names.scopes (declaration s.at false)) b in
          let more : outlined (put s.built.under (leaf s.at)) o ≡ stepped s.at here = outlined_leaf s.built.under s.at o in
          let place : (here.nth % 2 == 0) ≡ true = ap (λ n. n % 2 == 0) f.nth ∙ even in
          let is_listed : is_listing here.label.production here.label.alternative here.nth ≡ true =
          ap (λ (m : Label). is_listing m.production m.alternative here.nth) f.label ∙ place in
          let entries : (outlined (put s.built.under (leaf s.at)) o).entries ≡ added here s.at false s.at here.entries =
          ap (λ (x : Outline). x.entries) more ∙ ap (λ x. if x then added here s.at false s.at here.entries else here.entries) is_listed in
          record {
            text = f.text;
            matches = subst (Matches (s.at + 1) (in_innermost s.names.scopes (declaration s.at false)) ends) (sym entries)
                (put_matches (s.at + 1) (s.at + 1) s.at (s.at + 1) here.scope.to here.scope.depth false s.names.scopes ends here.entries
                (subst (λ (x : Scope). Bounds (s.at + 1) x.to s.names.scopes ends) (sym f.scope) before) (omega arith)
                (matches_later s.at (s.at + 1) s.names.scopes ends here.entries (omega arith) f.matches));
            near = ap (λ (x : Outline). x.typedef) more ∙ f.near;
            label = ap (λ (x : Outline). x.label) more ∙ f.label;
            nth = ap (λ (x : Outline). x.nth) more ∙ (ap (λ n. n + 1) f.nth ∙ sym (count_leaf s.built.under s.at));
            scope = ap (λ (x : Outline). x.scope) more ∙ f.scope;
            agree = agree_leaf std toks s.built.under s.at o f.agree
                (ap (λ (m : Label). token_agrees std toks m.production m.alternative here.nth s.at here.entries) f.label
                ∙ if_held std toks (here.nth % 2 == 0) (not (typedef_among std toks s.at here.entries)) (ap not (no_typedef std toks listing s o ends c before f)));
            opens = outer_open s.names.scopes (in_innermost s.names.scopes (declaration s.at false)) f.opens (outer_declared s.names.scopes (declaration s.at false));
          }

      pub listed_named : acted (iso std) name (with_token s) ≡ after_name
      listed_named = named_is (with_token s) s.at (last_put s.toks s.built.under s.at None (identifier_is std s s.at c).0)

      pub listed_goes : Goes std toks listing first s (acted (iso std) name (with_token s))
      listed_goes = subst (Goes std toks listing first s) (sym listed_named) (record {
        same_text = refl;
        later = omega arith;
        within = λ h. omega arith;
        outer = outer_declared s.names.scopes (declaration s.at false);
        inside = λ h. record { label = h.label; begins = h.begins };
        ends = λ h. ends_leaf first s.built.under s.at;
        holds = λ h. hold_leaf Params s.built.under s.at h;
        fits = λ o ends b f. listed_fits o ends b f;
      })

      pub listed_count : count_of (acted (iso std) name (with_token s)).built.under ≡ count_of s.built.under + 1
      unfolding acted
      listed_count = count_leaf s.built.under s.at

    -- one name of the list; an odd number of children stands behind it
    abbrev pub Listed : ℕ → State → State → Type 0
    Listed first s s' = Goes std toks listing first s s' × (count_of s'.built.under ≡ count_of s.built.under + 1)

    pub listed_step : (below : ℕ → Goal → State → Step) (first depth : ℕ) (s : State) → IsEven s → After (Listed first s) (step (iso std) below depth listed_items s)
    listed_step below first depth s even =
        by (take_one (iso std) identifiers s) (taken std (λ s'. (s' ≡ with_token s) × ((among identifiers (class_at (iso std) s s.at) ≡ true) × (s.at < length s.toks))) identifiers s (λ c more. (refl, (c, more))))
      where
        by : (r : Step) → After (λ s'. (s' ≡ with_token s) × ((among identifiers (class_at (iso std) s s.at) ≡ true) × (s.at < length s.toks))) r
            → After (Listed first s) (and_then r (λ s'. Ok (acted (iso std) name s')))
        by (Err stop) m = tt
        by (Ok s') m = subst (λ x. Listed first s (acted (iso std) name x)) (sym m.0) (listed_goes first s m.1.0 m.1.1 even, listed_count first s m.1.0 m.1.1 even)

    pub even_next : (n : ℕ) → (n % 2 == 0) ≡ false → ((n + 1) % 2 == 0) ≡ true
    even_next n h = eq-eqb ((n + 1) % 2) 0 (let k = eqb-false (n % 2) 0 h in omega (arith, k))

    pub odd_next : (n : ℕ) → (n % 2 == 0) ≡ true → ((n + 1) % 2 == 0) ≡ false
    odd_next n h = ne_eqb ((n + 1) % 2) 0 (λ e. (let k : n % 2 ≡ 0 = eqb-true (n % 2) 0 h in omega arith))

    pub comma_goes : (first : ℕ) (s : State) → s.at < length s.toks → IsOdd s → Goes std toks listing first s (with_token s)
    comma_goes first s more odd =
        (token_goes std) toks listing first s more
        (λ o ends b f. (
        let place : ((outlined s.built.under o).nth % 2 == 0) ≡ false = ap (λ n. n % 2 == 0) f.nth ∙ odd in
        (place, ap (λ c. if c then not (typedef_among std toks s.at (outlined s.built.under o).entries) else true) place)))

    -- what the items of a list make, name by name
    module _ (below : ℕ → Goal → State → Step) where
      pub more_step : (first depth : ℕ) (s : State) → IsOdd s
          → After (λ s'. Goes std toks listing first s s' × IsOdd s') (step (iso std) below depth more_listed s)
      more_step first depth s odd =
          by (take_one (iso std) comma s) (taken std (λ s'. (s' ≡ with_token s) × (s.at < length s.toks)) comma s (λ c more. (refl, more)))
        where
          even : IsEven (with_token s)
          even = ap (λ n. n % 2 == 0) (count_leaf s.built.under s.at) ∙ even_next (count_of s.built.under) odd

          second : (r : Step) → s.at < length s.toks → After (Listed first (with_token s)) r → After (λ s'. Goes std toks listing first s s' × IsOdd s') r
          second (Err stop) more m = tt
          second (Ok s') more m = (
            (goes_further std) toks listing first s (with_token s) s' (comma_goes first s more odd) m.0,
            ap (λ n. n % 2 == 0) m.1 ∙ odd_next (count_of (with_token s).built.under) even,
          )

          by : (r : Step) → After (λ s'. (s' ≡ with_token s) × (s.at < length s.toks)) r
              → After (λ s'. Goes std toks listing first s s' × IsOdd s') (and_then r (step (iso std) below depth listed_items))
          by (Err stop) m = tt
          by (Ok s') m =
              subst (λ x. After (λ s''. Goes std toks listing first s s'' × IsOdd s'') (step (iso std) below depth listed_items x)) (sym m.0)
              (second (step (iso std) below depth listed_items (with_token s)) m.1 (listed_step below first depth (with_token s) even))

      module _ (again : (depth first : ℕ) (s : State) → IsOdd s → After (Goes std toks listing first s) (below depth (repeat own more_listed) s)) where
        pub many_listed : (first depth : ℕ) (s : State) → IsOdd s → After (Goes std toks listing first s) (step (iso std) below depth (many own more_listed) s)
        many_listed first depth s odd =
            after_if (Goes std toks listing first s) (may (iso std) own more_listed s) _ _ (by (step (iso std) below depth more_listed s) (more_step first depth s odd))
            (goes_still std toks listing first s)
          where
            onward : (s' : State) (r : Step) → Goes std toks listing first s s' → After (Goes std toks listing first s') r → After (Goes std toks listing first s) r
            onward s' (Err stop) g m = tt
            onward s' (Ok s'') g m = goes_further std toks listing first s s' s'' g m

            by : (r : Step) → After (λ s'. Goes std toks listing first s s' × IsOdd s') r → After (Goes std toks listing first s) (and_then r (below depth (repeat own more_listed)))
            by (Err stop) m = tt
            by (Ok s') m = onward s' (below depth (repeat own more_listed) s') m.0 (again depth first s' m.1)

        opened_even : (s : State) → IsEven (opened Params 1 s)
        unfolding opened
        opened_even s = refl

        pub list_body : (depth : ℕ) (s : State)
            → After (Body std toks Params 1 s) (step (iso std) below depth (one identifiers · (act name · many own more_listed)) (opened Params 1 s))
        list_body depth s =
            by (take_one (iso std) identifiers (opened Params 1 s))
            (taken std (λ s'. (s' ≡ with_token (opened Params 1 s)) × ((among identifiers (class_at (iso std) (opened Params 1 s) (opened Params 1 s).at) ≡ true) × ((opened Params 1 s).at < length (opened Params 1 s).toks))) identifiers (opened Params 1 s) (λ c more. (refl, (c, more))))
          where
            last_names : (s1 : State) (r : Step) → Goes std toks listing s.at (opened Params 1 s) s1 → After (Goes std toks listing s.at s1) r → After (Body std toks Params 1 s) r
            last_names s1 (Err stop) g m = tt
            last_names s1 (Ok s') g m = goes_body std toks Params 1 s s' refl refl (goes_further std toks listing s.at (opened Params 1 s) s1 s' g m)

            from_first : (among identifiers (class_at (iso std) (opened Params 1 s) (opened Params 1 s).at) ≡ true) → (opened Params 1 s).at < length (opened Params 1 s).toks
                → After (Body std toks Params 1 s) (step (iso std) below depth (many own more_listed) (acted (iso std) name (with_token (opened Params 1 s))))
            from_first c more =
                last_names (acted (iso std) name (with_token (opened Params 1 s))) _ (listed_goes s.at (opened Params 1 s) c more (opened_even s))
                (many_listed s.at depth (acted (iso std) name (with_token (opened Params 1 s)))
                (ap (λ n. n % 2 == 0) (listed_count s.at (opened Params 1 s) c more (opened_even s)) ∙ odd_next (count_of (opened Params 1 s).built.under) (opened_even s)))

            by : (r : Step) → After (λ s'. (s' ≡ with_token (opened Params 1 s)) × ((among identifiers (class_at (iso std) (opened Params 1 s) (opened Params 1 s).at) ≡ true) × ((opened Params 1 s).at < length (opened Params 1 s).toks))) r
                → After (Body std toks Params 1 s) (and_then r (step (iso std) below depth (act name · many own more_listed)))
            by (Err stop) m = tt
            by (Ok s') m =
                subst (λ x. After (Body std toks Params 1 s) (step (iso std) below depth (many own more_listed) (acted (iso std) name x))) (sym m.0) (from_first m.1.0 m.1.1)
