-- The names of a text in which type names alone are spelled by the empty word, and each other one as no other token, agree
-- with its tree behind a typedef of that word.
use Rattle.std.proofs.Common.{ℕ, ◌+◌, ◌<◌, ◌≤◌, ◌≡◌, Bool, true, false, ◌&&◌, ◌||◌, not, if◌then◌else◌, ◌==◌, ◌%◌, List, [], ◌∷◌, ◌++◌, length, Option, None, Some, nat_lt, refl, sym, ap, subst, ◌∙◌, arith, append_assoc}
use Rattle.std.specs.Prelude.{find}
use Rattle.std.specs.Option.{option_map_or}
use Rattle.std.specs.Str.{bytes_eq}
use Rattle.std.proofs.lemmas.Bool.{false≢true, and_parts, and_from, eqb-true, ltb-true, lt-ltb}
use Rattle.std.proofs.lemmas.Slice.Eq.{bytes_eq-Decides}
use Rattle.c99_grammar.specs.declared.dialects.Edition.{Edition}
use Rattle.cs_base.specs.Token.{Token}
use Rattle.cs_base.proofs.BoolLemmas.{and_none, no_case}
use Rattle.c99_tree.specs.Tree.{Forest, none, token, node, Node}
use Rattle.c99_tree.specs.declared.production.Label.{Label}
use Rattle.c99_tree.specs.declared.production.Production.{Production}
use Rattle.c99_tree.specs.declared.production.Production.TheVariants.{TranslationUnit, ExtRest, FunBody, InitDecl, Main, Params, Primary, Pdirect, Enumerator, Declarator, Param, Pdecl}
use Rattle.c99_grammar.specs.Standard.{iso}
use Rattle.c99_read.specs.State.{base_at, spelling_at, is_identifier}
use Rattle.scope_bind.specs.Named.{is_plain_role}
use Rattle.scope_bind.specs.Roles.{role_if, role_of}
use Rattle.c_types.specs.Trees.{is_node, is_at, has_name, holds_name, name_below, last_token}
use Rattle.c_types.specs.Declarations.{alike}
use Rattle.tree_laws.specs.TreesOfTexts.{token_count, AreFrom, begins_with_token, has_form, have_forms, is_name_place}
use Rattle.renamed_tree_laws.specs.Loose.{is_enclosed}
use Rattle.name_chains.specs.Frames.{at_first as before}
use Rattle.tree_laws.specs.Agreeing.{agrees}
use Rattle.tree_laws.proofs.Outline.{Entry, entry, Outline, added, is_listing, stepped, copies, kept_entries, entries_in, begun, named_entries, in_declaration, in_parameter, entries_after, ended, outlined, is_open, token_agrees, node_agrees, all_agree}
use Rattle.tree_laws.proofs.Outlines.{agrees_same}
use Rattle.reordered_text_laws.specs.ByClasses.{joined}
use Rattle.reordered_text_laws.specs.Fronted.{fronted, used, up, raised, labelled_as, front_forest, with_front}
use Rattle.reordered_text_laws.proofs.FrontAgrees.{up_outline}
use Rattle.reordered_text_laws.proofs.FrontClasses.{base_up, other_way}
use Rattle.reordered_text_laws.proofs.FrontOutlines.{start, front_agrees, any_place}
use Rattle.reordered_text_laws.proofs.FrontSteps.{lt_up}
use Rattle.reordered_text_laws.proofs.MarkedTokens.{AllAt, Told}
use Rattle.reordered_text_laws.proofs.Reworded.{keyed, length-keyed, keyed_used, keyed_apart, named_within}

-- ---- Labels

pub typed_place : (a k : ℕ) → ((a == 4) && (k == 0)) ≡ true → is_name_place (labelled_as Main a) k ≡ true
typed_place a k e = ap (λ b. not (is_plain_role (role_if b (role_of Main 4 0))) || (has_name (labelled_as Main a) || is_node (labelled_as Main a) Enumerator && (k == 0))) e

pub primary_place : (a k : ℕ) → (a == 1) ≡ true → is_name_place (labelled_as Primary a) k ≡ true
primary_place a k e = ap (λ b. not (is_plain_role (role_if b (role_of Primary 1 0))) || (has_name (labelled_as Primary a) || is_node (labelled_as Primary a) Enumerator && (k == 0))) e

pub listed_place : (a k : ℕ) → ((a == 1) && (k % 2 == 0)) ≡ true → is_name_place (labelled_as Params a) k ≡ true
listed_place a k e = ap (λ b. not (is_plain_role (role_if b (role_of Params 1 0))) || (has_name (labelled_as Params a) || is_node (labelled_as Params a) Enumerator && (k == 0))) e

listing_apart : (p : Production) (a k : ℕ) → is_listing p a k ≡ true → is_at (labelled_as p a) Main 4 ≡ false
listing_apart Params a k e = refl
listing_apart _ a k e = absurd (false≢true e)

name_apart : (p : Production) (a : ℕ) → has_name (labelled_as p a) ≡ true → is_at (labelled_as p a) Main 4 ≡ false
name_apart Main a e = absurd (false≢true e)
name_apart _ a e = refl

-- what is so of each node below, and of the first token of it
abbrev pub AllNodes : (Label → ℕ → Type 0) → Forest → Type 0
AllNodes N none = Unit {0}
AllNodes N (token i rest) = AllNodes N rest
AllNodes N (node m first under rest) = N m first × (AllNodes N under × AllNodes N rest)

module _ (s : Edition) (q : ℕ → Bool) (old : List Token) where
  abbrev u : List Token
  u = keyed s q old

  abbrev named : ℕ → Bool
  named i = is_identifier (base_at (iso s) old i)

  -- A token is marked where it is a type name by itself, and is an identifier where a name stands.
  abbrev pub Known : Label → ℕ → ℕ → Type 0
  Known l k i = (Told q l k i × (is_name_place l k ≡ true → named i ≡ true)) × (i < length old)

  abbrev Apart : ℕ → Type 0
  Apart i = (used u i ≡ false) × ((j : ℕ) → alike u i j ≡ true → i ≡ j)

  -- a name directly behind the parenthesis that begins a parameter's declarator is spelled as no other token (6.7.5.3
  -- paragraph 11)
  abbrev pub Enclosed : Label → ℕ → Type 0
  Enclosed m first = is_enclosed s u m first ≡ true → Apart (first + 1)

  other_used : (i : ℕ) → i < length old → q i ≡ false → used u i ≡ false
  other_used i lt e = keyed_used s q old i lt ∙ and_none (named i) (q i) e

  typed_used : (i : ℕ) → i < length old → named i ≡ true → q i ≡ true → used u i ≡ true
  typed_used i lt n e = keyed_used s q old i lt ∙ (ap (λ b. b && q i) n ∙ e)

  pub own_apart : (i : ℕ) → named i ≡ true → q i ≡ false → Apart i
  own_apart i n e = (other_used i (named_within s q old i n) e, λ j same. keyed_apart s q old i j n e same)

  -- ---- Declarations before a token

  abbrev front_entry : Entry
  front_entry = entry 2 true 0 3 (up (length u))

  -- its name stands before the token, and is spelled by another word
  abbrev Later : ℕ → Entry → Type 0
  Later j e = (x : ℕ) × ((e.name_at ≡ up x) × ((x < j) × (used u x ≡ false)))

  abbrev AllLater : ℕ → List Entry → Type 0
  AllLater j [] = Unit {0}
  AllLater j (e ∷ es) = Later j e × AllLater j es

  -- all but the first one are so
  record Behind (j : ℕ) (all : List Entry) : Type 0 where
    es : List Entry
    is : all ≡ es ++ (front_entry ∷ [])
    later : AllLater j es

  later_on : (j k : ℕ) → j ≤ k → (es : List Entry) → AllLater j es → AllLater k es
  later_on j k le [] h = tt
  later_on j k le (e ∷ es) h = ((h.0.0, (h.0.1.0, (let lt : h.0.0 < j = h.0.1.1.0 in omega (arith, le, lt), h.0.1.1.1))), later_on j k le es h.1)

  behind_on : (j k : ℕ) → j ≤ k → (all : List Entry) → Behind j all → Behind k all
  behind_on j k le all b = record { es = b.es; is = b.is; later = later_on j k le b.es b.later }

  behind_more : (j : ℕ) (e : Entry) (all : List Entry) → Later j e → Behind j all → Behind j (e ∷ all)
  behind_more j e all h b = record { es = e ∷ b.es; is = ap (λ (xs : List Entry). e ∷ xs) b.is; later = (h, b.later) }

  abbrev typedefs : ℕ → List Entry → Bool
  typedefs i es = option_map_or (λ (e : Entry). e.typedef) (find (λ e. alike (fronted u) (up i) e.name_at && is_open (up i) e) es) false

  front_open : (i : ℕ) → i < length u → is_open (up i) front_entry ≡ true
  front_open i lt =
      ap (λ b. not b && nat_lt (up i) (up (length u))) (no_case (nat_lt (up i) 3) (λ h. (let less : up i < 3 = ltb-true (up i) 3 h in omega (arith, less))))
      ∙ (lt_up i (length u) ∙ lt-ltb i (length u) lt)

  alike_at : (i x : ℕ) (e : Entry) → e.name_at ≡ up x → alike (fronted u) (up i) e.name_at ≡ alike u i x
  alike_at i x e same = ap (alike (fronted u) (up i)) same

  -- the empty word denotes the typedef
  typed_among : (i j : ℕ) (es : List Entry) → i < length u → used u i ≡ true → AllLater j es → typedefs i (es ++ (front_entry ∷ [])) ≡ true
  typed_among i j [] lt e h =
      let none : spelling_at u i ≡ [] = sym ((bytes_eq-Decides [] (spelling_at u i)).0 e) in
      ap (λ b. option_map_or (λ (x : Entry). x.typedef) (if b then Some front_entry else None) false)
      (and_from (bytes_eq (spelling_at u i) []) (is_open (up i) front_entry) (ap (λ w. bytes_eq w []) none) (front_open i lt))
  typed_among i j (x ∷ es) lt e h =
      let none : spelling_at u i ≡ [] = sym ((bytes_eq-Decides [] (spelling_at u i)).0 e) in
      let other : alike (fronted u) (up i) x.name_at ≡ false = alike_at i h.0.0 x h.0.1.0 ∙ (ap (λ w. bytes_eq w (spelling_at u h.0.0)) none ∙ h.0.1.1.1) in
      ap (λ b. option_map_or (λ (y : Entry). y.typedef) (if b && is_open (up i) x then Some x else find (λ y. alike (fronted u) (up i) y.name_at && is_open (up i) y) (es ++ (front_entry ∷ []))) false) other
      ∙ typed_among i j es lt e h.1

  -- a word of its own denotes nothing before it
  none_among : (i j : ℕ) (es : List Entry) → j ≤ i → Apart i → AllLater j es → typedefs i (es ++ (front_entry ∷ [])) ≡ false
  none_among i j [] le a h =
      ap (λ b. option_map_or (λ (x : Entry). x.typedef) (if b && is_open (up i) front_entry then Some front_entry else None) false) (other_way (spelling_at u i) a.0)
  none_among i j (x ∷ es) le a h =
      let other : alike (fronted u) (up i) x.name_at ≡ false =
      alike_at i h.0.0 x h.0.1.0 ∙ no_case (alike u i h.0.0) (λ same. (let is : i ≡ h.0.0 = a.1 h.0.0 same in let lt : h.0.0 < j = h.0.1.1.0 in omega (arith, is, lt, le))) in
      ap (λ b. option_map_or (λ (y : Entry). y.typedef) (if b && is_open (up i) x then Some x else find (λ y. alike (fronted u) (up i) y.name_at && is_open (up i) y) (es ++ (front_entry ∷ []))) false) other
      ∙ none_among i j es le a h.1

  -- ---- What is asked

  in_text : (i : ℕ) → i < length old → i < length u
  in_text i lt = (let long : length u ≡ length old = length-keyed s q old in omega (arith, lt, long))

  if_true : (c x : Bool) → (c ≡ true → x ≡ true) → (if c then x else true) ≡ true
  if_true true x f = f refl
  if_true false x f = refl

  token_so : (p : Production) (a k i : ℕ) (all : List Entry) → Known (labelled_as p a) k i → Behind i all → token_agrees s (fronted u) p a k (up i) all ≡ true
  token_so Main a k i all h b =
      if_true ((a == 4) && (k == 0)) _
      (λ c.
      let at = and_parts (a == 4) (k == 0) c in
      ap (typedefs i) b.is
      ∙ typed_among i i b.es (in_text i h.1) (typed_used i h.1 (h.0.1 (typed_place a k c)) (h.0.0 ∙ at.0)) b.later)
  token_so Primary a k i all h b =
      if_true (a == 1) _
      (λ c. ap (λ x. not (typedefs i x)) b.is ∙ ap not (none_among i i b.es (omega arith) (own_apart i (h.0.1 (primary_place a k c)) h.0.0) b.later))
  token_so Params a k i all h b =
      if_true ((a == 1) && (k % 2 == 0)) _
      (λ c. ap (λ x. not (typedefs i x)) b.is ∙ ap not (none_among i i b.es (omega arith) (own_apart i (h.0.1 (listed_place a k c)) h.0.0) b.later))
  token_so _ a k i all h b = refl

  one_up : (k : ℕ) → up k + 1 ≡ up (k + 1)
  one_up k = omega arith

  node_so : (m : Label) (first : ℕ) (all : List Entry) → Enclosed m first → Behind first all → node_agrees s (fronted u) m (up first) all ≡ true
  node_so m first all h b =
      ap (λ k. if is_at m Pdirect 2 then not (is_identifier (base_at (iso s) (fronted u) k)) || not (typedefs_at k all) else true) (one_up first)
      ∙ (ap (λ c. if is_at m Pdirect 2 then not (is_identifier c) || not (typedefs (first + 1) all) else true) (base_up u (iso s) (first + 1))
      ∙ if_true (is_at m Pdirect 2) _ (λ c. by (is_identifier (base_at (iso s) u (first + 1))) (λ n. h (and_from (is_at m Pdirect 2) _ c n))))
    where
      typedefs_at : ℕ → List Entry → Bool
      typedefs_at k es = option_map_or (λ (e : Entry). e.typedef) (find (λ e. alike (fronted u) k e.name_at && is_open k e) es) false

      by : (c : Bool) → (c ≡ true → Apart (first + 1)) → (not c || not (typedefs (first + 1) all)) ≡ true
      by true f = ap (λ x. not (typedefs (first + 1) x)) b.is ∙ ap not (none_among (first + 1) first b.es (omega arith) (f refl) b.later)
      by false f = refl

  -- ---- Declarations

  pub used_at : (l : Label) (k i : ℕ) → Known l k i → is_at l Main 4 ≡ false → used u i ≡ false
  used_at l k i h e = other_used i h.1 (h.0.0 ∙ e)

  listed_behind : (i : ℕ) (o : Outline) → Known o.label o.nth i → Behind i o.entries → Behind (i + 1) (stepped (up i) o).entries
  listed_behind i o h b = by (is_listing o.label.production o.label.alternative o.nth) refl
    where
      by : (c : Bool) → is_listing o.label.production o.label.alternative o.nth ≡ c → Behind (i + 1) (if c then added o (up i) false (up i) o.entries else o.entries)
      by true e =
          behind_more (i + 1) (entry (up i) false o.scope.depth (up i + 1) o.scope.to) o.entries
          (i, (refl, (omega arith, used_at o.label o.nth i h (listing_apart o.label.production o.label.alternative o.nth e))))
          (behind_on i (i + 1) (omega arith) o.entries b)
      by false e = behind_on i (i + 1) (omega arith) o.entries b

  -- the name of a declarator, if there is one, is a token below, and no type name
  abbrev IsBelow : ℕ → Option ℕ → Type 0
  IsBelow top None = Unit {0}
  IsBelow top (Some i) = (x : ℕ) × ((i ≡ up x) × ((x < top) × (used u x ≡ false)))

  below_on : (j k : ℕ) → j ≤ k → (o : Option ℕ) → IsBelow j o → IsBelow k o
  below_on j k le None h = tt
  below_on j k le (Some i) h = (h.0, (h.1.0, (let lt : h.0 < j = h.1.1.0 in omega (arith, le, lt), h.1.1.1)))

  below_so : (l : Label) (k : ℕ) (f : Forest) (j : ℕ) → AreFrom j f → AllAt Known l k f → IsBelow (j + token_count f) (name_below l (raised f))
  below_so l k none j from h = tt
  below_so l k (token i rest) j from h =
      by (has_name l) refl
      (below_on ((j + 1) + token_count rest) (j + (token_count rest + 1)) (omega arith) (name_below l (raised rest)) (below_so l (k + 1) rest (j + 1) from.1 h.1))
    where
      by : (c : Bool) → has_name l ≡ c → IsBelow (j + (token_count rest + 1)) (name_below l (raised rest)) → IsBelow (j + (token_count rest + 1)) (if c then Some (up i) else name_below l (raised rest))
      by true e m = (i, (refl, (let is : i ≡ j = from.0 in omega (arith, is), used_at l k i h.0 (name_apart l.production l.alternative e))))
      by false e m = m
  below_so l k (node m first under rest) j from h =
      by (holds_name m.production)
      (below_on (j + token_count under) (j + (token_count under + token_count rest)) (omega arith) (name_below m (raised under)) (below_so m 0 under j from.1 h.0))
      (below_on ((j + token_count under) + token_count rest) (j + (token_count under + token_count rest)) (omega arith) (name_below l (raised rest))
      (below_so l (k + 1) rest (j + token_count under) from.2 h.1))
    where
      by : (c : Bool) → IsBelow (j + (token_count under + token_count rest)) (name_below m (raised under)) → IsBelow (j + (token_count under + token_count rest)) (name_below l (raised rest))
          → IsBelow (j + (token_count under + token_count rest)) (if c then name_below m (raised under) else name_below l (raised rest))
      by true m n = m
      by false m n = n

  named_behind : (o : Outline) (i : Option ℕ) (f : Forest) (top : ℕ) (all : List Entry) → IsBelow top i → Behind top all → Behind top (named_entries o i f all)
  named_behind o None f top all h b = b
  named_behind o (Some i) f top all h b = behind_more top (entry i o.typedef o.scope.depth (last_token f i + 1) o.scope.to) all h b

  -- ---- The names of a list, once more

  no_front : (depth : ℕ) → (0 == depth + 1) ≡ false
  no_front depth = no_case (0 == depth + 1) (λ e. (let same : 0 ≡ depth + 1 = eqb-true 0 (depth + 1) e in omega (arith, same)))

  front_apart : (list depth from to : ℕ) → copies list (depth + 1) from to (front_entry ∷ []) ≡ []
  front_apart list depth from to =
      ap (λ c. if c then (record front_entry { from = from; to = to } ∷ []) else [])
      (ap (λ b. (up (length u) == list) && (b && true)) (no_front depth) ∙ and_none (up (length u) == list) false refl)

  copies_later : (list depth from to j : ℕ) (es : List Entry) → AllLater j es → AllLater j (copies list (depth + 1) from to es)
  copies_later list depth from to j [] h = tt
  copies_later list depth from to j (e ∷ es) h = by ((e.to == list) && ((e.depth == depth + 1) && not e.member)) (copies_later list depth from to j es h.1)
    where
      by : (c : Bool) → AllLater j (copies list (depth + 1) from to es)
          → AllLater j (if c then (record e { from = from; to = to } ∷ copies list (depth + 1) from to es) else copies list (depth + 1) from to es)
      by true m = (h.0, m)
      by false m = m

  copies_front : (list depth from to : ℕ) (es : List Entry) → copies list (depth + 1) from to (es ++ (front_entry ∷ [])) ≡ copies list (depth + 1) from to es
  copies_front list depth from to [] = front_apart list depth from to
  copies_front list depth from to (e ∷ es) =
      ap (λ (xs : List Entry). if (e.to == list) && ((e.depth == depth + 1) && not e.member) then (record e { from = from; to = to } ∷ xs) else xs) (copies_front list depth from to es)

  kept_behind : (kept : Option ℕ) (depth from to j : ℕ) (all : List Entry) → Behind j all → Behind j (kept_entries kept (depth + 1) from to all)
  kept_behind None depth from to j all b = b
  kept_behind (Some list) depth from to j all b = record {
    es = copies list (depth + 1) from to b.es ++ b.es;
    is = ap (λ (xs : List Entry). copies list (depth + 1) from to xs ++ xs) b.is
        ∙ (ap (λ (xs : List Entry). xs ++ (b.es ++ (front_entry ∷ []))) (copies_front list depth from to b.es)
        ∙ sym (append_assoc (copies list (depth + 1) from to b.es) b.es (front_entry ∷ [])));
    later = more (copies list (depth + 1) from to b.es) (copies_later list depth from to j b.es b.later);
  }
    where
      more : (xs : List Entry) → AllLater j xs → AllLater j (xs ++ b.es)
      more [] h = b.later
      more (x ∷ xs) h = (h.0, more xs h.1)

  in_behind : (p : Production) (first : ℕ) (f : Forest) (kept : Option ℕ) (depth j : ℕ) (all : List Entry) → Behind j all → Behind j (entries_in p first f kept depth all)
  in_behind FunBody first f kept depth j all b = kept_behind kept depth first (last_token f 0) j all b
  in_behind _ first f kept depth j all b = b

  -- ---- Along the tree

  declaration_behind : (p : Production) (o : Outline) (l : Label) (f : Forest) (top : ℕ) (all : List Entry) → IsBelow top (name_below l f) → Behind top all
      → Behind top (in_declaration p o l f all)
  declaration_behind ExtRest o l f top all h b = named_behind o (name_below l f) f top all h b
  declaration_behind InitDecl o l f top all h b = named_behind o (name_below l f) f top all h b
  declaration_behind _ o l f top all h b = b

  parameter_behind : (p : Production) (o : Outline) (l : Label) (f : Forest) (top : ℕ) (all : List Entry) → IsBelow top (name_below l f) → Behind top all
      → Behind top (in_parameter p o l f all)
  parameter_behind Param o l f top all h b = named_behind o (name_below l f) f top all h b
  parameter_behind _ o l f top all h b = b

  -- an enumerator begins with its name (6.7.2.2)
  constant_so : (a : ℕ) (f : Forest) (j : ℕ) → begins_with_token f ≡ true → AreFrom j f → AllAt Known (labelled_as Enumerator a) 0 f → (j < j + token_count f) × (used u j ≡ false)
  constant_so a none j e from h = absurd (false≢true e)
  constant_so a (token i rest) j e from h = (omega arith, subst (λ n. used u n ≡ false) from.0 (used_at (labelled_as Enumerator a) 0 i h.0 refl))
  constant_so a (node m first under rest) j e from h = absurd (false≢true e)

  after_behind : (p : Production) (a first : ℕ) (o : Outline) (f : Forest) (all : List Entry) → AreFrom first f → has_form p f ≡ true → AllAt Known (labelled_as p a) 0 f
      → Behind (first + token_count f) all → Behind (first + token_count f) (entries_after p (up first) o (labelled_as p a) (raised f) all)
  after_behind Declarator a first o f all from form h b =
      declaration_behind o.label.production o (labelled_as Declarator a) (raised f) (first + token_count f) all (below_so (labelled_as Declarator a) 0 f first from h) b
  after_behind Pdecl a first o f all from form h b =
      parameter_behind o.label.production o (labelled_as Pdecl a) (raised f) (first + token_count f) all (below_so (labelled_as Pdecl a) 0 f first from h) b
  after_behind Enumerator a first o f all from form h b =
      let c = constant_so a f first form from h in
      behind_more (first + token_count f) (entry (up first) false o.scope.depth (last_token (raised f) (up first) + 1) o.scope.to) all (first, (refl, c)) b
  after_behind _ a first o f all from form h b = b

  outlined_behind : (f : Forest) (o : Outline) (j : ℕ) → AreFrom j f → have_forms f ≡ true → AllAt Known o.label o.nth f → Behind j o.entries
      → Behind (j + token_count f) (outlined (raised f) o).entries
  outlined_behind none o j from forms h b = behind_on j (j + 0) (omega arith) o.entries b
  outlined_behind (token i rest) o j from forms h b =
      let here : Behind i o.entries = subst (λ n. Behind n o.entries) (sym from.0) b in
      let more = outlined_behind rest (stepped (up i) o) (j + 1) from.1 forms h.1 (subst (λ n. Behind (n + 1) (stepped (up i) o).entries) from.0 (listed_behind i o h.0 here)) in
      behind_on ((j + 1) + token_count rest) (j + (token_count rest + 1)) (omega arith) (outlined (raised rest) (stepped (up i) o)).entries more
  outlined_behind (node l first under rest) o j from forms h b =
      let a = and_parts (has_form l.production under) (have_forms under && have_forms rest) forms in
      let c = and_parts (have_forms under) (have_forms rest) a.1 in
      let into : Outline = begun l (up first) (raised under) o in
      let inside = outlined_behind under into j from.1 c.0 h.0 (in_behind l.production (up first) (raised under) o.kept o.scope.depth j o.entries b) in
      let behind : Outline = ended l (up first) (raised under) o (outlined (raised under) into) in
      let after : Behind (j + token_count under) behind.entries =
      subst (λ n. Behind (n + token_count under) behind.entries) from.0
      (after_behind l.production l.alternative first o under (outlined (raised under) into).entries (subst (λ n. AreFrom n under) (sym from.0) from.1) a.0 h.0
      (subst (λ n. Behind (n + token_count under) (outlined (raised under) into).entries) (sym from.0) inside)) in
      behind_on ((j + token_count under) + token_count rest) (j + (token_count under + token_count rest)) (omega arith) (outlined (raised rest) behind).entries
      (outlined_behind rest behind (j + token_count under) from.2 c.1 h.1 after)

  keyed_agrees : (f : Forest) (o : Outline) (j : ℕ) → AreFrom j f → have_forms f ≡ true → AllAt Known o.label o.nth f → AllNodes Enclosed f → Behind j o.entries
      → all_agree s (fronted u) (raised f) o ≡ true
  keyed_agrees none o j from forms h e b = refl
  keyed_agrees (token i rest) o j from forms h e b =
      let here : Behind i o.entries = subst (λ n. Behind n o.entries) (sym from.0) b in
      and_from (token_agrees s (fronted u) o.label.production o.label.alternative o.nth (up i) o.entries) (all_agree s (fronted u) (raised rest) (stepped (up i) o))
      (token_so o.label.production o.label.alternative o.nth i o.entries h.0 here)
      (keyed_agrees rest (stepped (up i) o) (j + 1) from.1 forms h.1 e (subst (λ n. Behind (n + 1) (stepped (up i) o).entries) from.0 (listed_behind i o h.0 here)))
  keyed_agrees (node l first under rest) o j from forms h e b =
      let a = and_parts (has_form l.production under) (have_forms under && have_forms rest) forms in
      let c = and_parts (have_forms under) (have_forms rest) a.1 in
      let into : Outline = begun l (up first) (raised under) o in
      let entered : Behind j into.entries = in_behind l.production (up first) (raised under) o.kept o.scope.depth j o.entries b in
      let inside = outlined_behind under into j from.1 c.0 h.0 entered in
      let behind : Outline = ended l (up first) (raised under) o (outlined (raised under) into) in
      let after : Behind (j + token_count under) behind.entries =
      subst (λ n. Behind (n + token_count under) behind.entries) from.0
      (after_behind l.production l.alternative first o under (outlined (raised under) into).entries (subst (λ n. AreFrom n under) (sym from.0) from.1) a.0 h.0
      (subst (λ n. Behind (n + token_count under) (outlined (raised under) into).entries) (sym from.0) inside)) in
      and_from (node_agrees s (fronted u) l (up first) o.entries) (all_agree s (fronted u) (raised under) into && all_agree s (fronted u) (raised rest) behind)
      (node_so l first o.entries e.0 (subst (λ n. Behind n o.entries) (sym from.0) b))
      (and_from (all_agree s (fronted u) (raised under) into) (all_agree s (fronted u) (raised rest) behind)
      (keyed_agrees under into j from.1 c.0 h.0 e.1.0 entered)
      (keyed_agrees rest behind (j + token_count under) from.2 c.1 h.1 e.1.1 after))

  -- the whole tree
  pub front_keyed : (tree : Node) → AreFrom 0 tree.under → have_forms tree.under ≡ true → AllAt Known (labelled_as TranslationUnit 1) 0 tree.under → AllNodes Enclosed tree.under
      → agrees s (fronted u) (with_front s tree).under (before (length (fronted u))) ≡ true
  front_keyed tree from forms h e =
      let o : Outline = up_outline (length u) (start (length u)) in
      agrees_same s (fronted u) (joined (front_forest s) (raised tree.under)) (before (length (fronted u)))
      ∙ (front_agrees s u (raised tree.under) ∙ (any_place s (fronted u) (raised tree.under) o.entries 1 0 o.scope false None
      ∙ keyed_agrees tree.under o 0 from forms h e (record { es = []; is = refl; later = tt })))
