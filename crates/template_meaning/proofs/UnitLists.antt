-- The lists of the functions in a unit, as its tree has them: each has so many items.
use Rattle.std.proofs.Common.{ℕ, suc, ◌+◌, ◌<◌, ◌≡◌, inl, inr, Bool, true, false, if◌then◌else◌, Ok, List, [], ◌∷◌, ◌++◌, length, map, cond, get_or, Option, Some, refl, sym, ap, subst, ◌∙◌, arith}
use Rattle.std.specs.Prelude.{◌==◌, AllPairs, slice_get, find, filter}
use Rattle.std.specs.List.{list_any}
use Rattle.std.specs.Option.{option_map_or}
use Rattle.std.proofs.lemmas.Bool.{cases_Bool, false≢true, and_parts, or_cases, eqb-true, eq-eqb}
use Rattle.cs_base.specs.declared.positions.Part.{Part}
use Rattle.c99_grammar.specs.declared.dialects.Edition.{Edition}
use Rattle.cs_base.specs.Token.{Token}
use Rattle.c99_tree.specs.Tree.{Forest, none, token, node}
use Rattle.c99_tree.specs.declared.production.Label.{Label}
use Rattle.c99_tree.specs.declared.production.Production.TheVariants.{Post, Args, Params}
use Rattle.c99_grammar.specs.Standard.{iso}
use Rattle.c_types.specs.declared.lists.List.{List as NameList}
use Rattle.c_types.specs.declared.parameters.ParameterList.{ParameterList}
use Rattle.c_types.specs.Lists.{list_of, lists_in}
use Rattle.c_types.specs.Parameters.{parameters_of, parameters_in}
use Rattle.c_types.specs.Trees.{is_at, is_list, first_token}
use Rattle.c_types.specs.Declarations.{Facts}
use Rattle.c_types.proofs.ParameterLemmas.{of-name as parameters_named}
use Rattle.scope_bind.specs.Bound.{Bound, is_of_function, names_of, bound_of, facts_of, binding_of}
use Rattle.tree_laws.specs.ReadTexts.{Reads, ReadParameterListsAreInOrder}
use Rattle.tree_laws.specs.TreesOfTexts.{AreFrom, IsTreeOf}
use Rattle.tree_laws.proofs.HeldNames.{binding_is}
use Rattle.tree_laws.proofs.Lookups.{In}
use Rattle.tree_laws.proofs.OfTexts.{trees_of_texts}
use Rattle.list_cuts.specs.Cuts.{AreOf}
use Rattle.reordered_tree_laws.specs.Premises.{is_bracketed}
use Rattle.reordered_tree_laws.specs.Reordered.{is_parenthesised, is_among}
use Rattle.analysis.specs.Analysis.{UnitAnalysis}
use Rattle.template_rules.specs.Functions.{names_function}
use Rattle.template_rules.specs.Lists.{declarations_in, arguments_of, parameters_at}
use Rattle.template_rules.specs.Lists as lists
use Rattle.template_meaning.specs.Children.{children, EachNode, IsOfAlternative}
use Rattle.template_meaning.specs.Clear.{IsOwn}
use Rattle.template_meaning.specs.Forms.{IsBracketed}
use Rattle.reordered.specs.Reordered.{begins_with, begins_list, unit_cut}
use Rattle.template_meaning.proofs.Children.{children_of_alternatives, each_below}
use Rattle.template_meaning.proofs.Bracketed.{call_bracketed, list_bracketed}
use Rattle.template_meaning.proofs.Counted.{ListHas, InnerHave, call_have, list_have, tree_has}
use Rattle.template_meaning.proofs.Forms.{IsPair, call_pair, list_pair}
use Rattle.template_meaning.proofs.Leading.{leads, unit_leads, behind_first}
use Rattle.template_meaning.proofs.Parens.{in_first, in_last, in_map, map_in, Entry, entry, entry_of, entries, begins, Begins, one_entry, is_call, calls_listed, Pair, list_by, parameters_by, pairs_in, lists_paired, parameters_paired, pairs_entries}

-- ---- Lists

pub any_in : {X : Type 0} (test : X → Bool) (xs : List X) → list_any test xs ≡ true → (x : X) × (In x xs × (test x ≡ true))
any_in test [] h = absurd (false≢true h)
any_in test (x ∷ xs) h = elim (or_cases (test x) (list_any test xs) h) [
  | inl here ↦ (x, (inl refl, here))
  | inr later ↦ let r = any_in test xs later in (r.0, (inr r.1.0, r.1.1))
]

pub index_of : {X : Type 0} (x : X) (xs : List X) → In x xs → (k : ℕ) × (slice_get xs k ≡ Some x)
index_of x [] w = absurd w
index_of x (y ∷ xs) (inl same) = (0, ap (λ (z : _). Some z) same)
index_of x (y ∷ xs) (inr w) = let r = index_of x xs w in (suc r.0, r.1)

filtered_by : {X : Type 0} (p : X → Bool) (x y : X) (xs ys : List X) (b : Bool) → p y ≡ b → (In x ys → In x xs × (p x ≡ true)) → In x (cond b (y ∷ ys) ys) → In x (y ∷ xs) × (p x ≡ true)
filtered_by p x y xs ys true e later (inl same) = (inl same, ap p (sym same) ∙ e)
filtered_by p x y xs ys true e later (inr v) = let r = later v in (inr r.0, r.1)
filtered_by p x y xs ys false e later v = let r = later v in (inr r.0, r.1)

pub in_filtered : {X : Type 0} (p : X → Bool) (x : X) (xs : List X) → In x (filter p xs) → In x xs × (p x ≡ true)
in_filtered p x [] w = absurd w
in_filtered p x (y ∷ xs) w = filtered_by p x y xs (filter p xs) (p y) refl (in_filtered p x xs) w

kept_by : {X : Type 0} (p : X → Bool) (x y : X) (xs ys : List X) (b : Bool) → p y ≡ b → p x ≡ true → (In x xs → In x ys) → In x (y ∷ xs) → In x (cond b (y ∷ ys) ys)
kept_by p x y xs ys true e h later (inl same) = inl same
kept_by p x y xs ys true e h later (inr v) = inr (later v)
kept_by p x y xs ys false e h later (inl same) = absurd (false≢true (sym e ∙ ap p same ∙ h))
kept_by p x y xs ys false e h later (inr v) = later v

pub filtered_in : {X : Type 0} (p : X → Bool) (x : X) (xs : List X) → In x xs → p x ≡ true → In x (filter p xs)
filtered_in p x [] w h = absurd w
filtered_in p x (y ∷ xs) w h = kept_by p x y xs (filter p xs) (p y) refl h (λ v. filtered_in p x xs v h) w

-- what is found first, where something passes
pub record IsFound {X : Type 0} (p : X → Bool) (xs : List X) : Type 0 where
  pub one : X
  pub found : find p xs ≡ Some one
  pub there : In one xs
  pub passes : p one ≡ true

found_by : {X : Type 0} (p : X → Bool) (x y : X) (xs : List X) (b : Bool) → p y ≡ b → p x ≡ true → find p (y ∷ xs) ≡ cond b (Some y) (find p xs) → (In x xs → IsFound p xs) → In x (y ∷ xs) → IsFound p (y ∷ xs)
found_by p x y xs true e h first later v = record { one = y; found = first; there = inl refl; passes = e }
found_by p x y xs false e h first later (inl same) = absurd (false≢true (sym e ∙ ap p same ∙ h))
found_by p x y xs false e h first later (inr v) = let r = later v in record { one = r.one; found = first ∙ r.found; there = inr r.there; passes = r.passes }

pub find_some : {X : Type 0} (p : X → Bool) (xs : List X) (x : X) → In x xs → p x ≡ true → IsFound p xs
find_some p [] x w h = absurd w
find_some {X = X} p (y ∷ xs) x w h = elim (cases_Bool (p y)) [
  | inl e ↦ found_by p x y xs true e h (rw e refl) (λ v. find_some p xs x v h) w
  | inr e ↦ found_by p x y xs false e h (rw e refl) (λ v. find_some p xs x v h) w
]

at_in : {X : Type 0} (x d : X) (xs : List X) → In x xs → (j : ℕ) × (j < length xs) × (get_or xs j d ≡ x)
at_in x d [] w = absurd w
at_in x d (y ∷ xs) (inl same) = (0, omega arith, same)
at_in x d (y ∷ xs) (inr w) = let r = at_in x d xs w in (suc r.0, omega (arith, r.1), r.2)

abbrev Before : NameList → NameList → Type 0
Before l m = l.name < m.name

first_before : (z : NameList) (xs : List NameList) → AllPairs Before (z ∷ xs) → (t : NameList) → In t xs → z.name < t.name
first_before z xs h t u =
    let at = at_in t z xs u in
    let pair : Before z (get_or xs at.0 z) = h 0 (suc at.0) z (omega arith) (omega (arith, at.1)) in
    subst (Before z) at.2 pair

-- of two lists in order of their names, with one name
one_name : (xs : List NameList) → AllPairs Before xs → (x y : NameList) → In x xs → In y xs → x.name ≡ y.name → x ≡ y
one_name [] h x y v w e = absurd v
one_name (z ∷ xs) h x y v w e = elim v [
  | inl p ↦ elim w [
    | inl q ↦ sym p ∙ q
    | inr q ↦ let before = first_before z xs h y q in let same : z.name ≡ x.name = ap (λ (l : NameList). l.name) p in absurd (omega (arith, before, same, e))
  ]
  | inr p ↦ elim w [
    | inl q ↦ let before = first_before z xs h x p in let same : z.name ≡ y.name = ap (λ (l : NameList). l.name) q in absurd (omega (arith, before, same, e))
    | inr q ↦ one_name xs (λ i j d lt within. h (suc i) (suc j) d (omega (arith, lt)) (omega (arith, within))) x y p q e
  ]
]

pub each_map : (P Q : Label → Forest → Type 0) (f : Forest) → ((l : Label) (under : Forest) → P l under → Q l under) → EachNode P f → EachNode Q f
each_map P Q none g each = tt
each_map P Q (token i rest) g each = each_map P Q rest g each
each_map P Q (node l first under rest) g each = (g l under each.0, each_map P Q under g each.1, each_map P Q rest g each.2)

pair_begins : (p : _) (under : Forest) → IsPair p under → begins under ≡ true
pair_begins p under (inl q) = ap begins q.is
pair_begins p under (inr q) = ap begins q.is

-- ---- A unit

module _ (s : Edition) (members : List Part) (u : UnitAnalysis) (n : ℕ) (reads : Reads (iso s) u.text.toks u.tree) (binds : binding_of u.text.toks u.tree ≡ Ok u.bound)
    (in_order : ReadParameterListsAreInOrder)
    (of_declarators : (l : NameList) → In l u.bound.declarators → IsOwn members u l → lists.parameters_of (parameters_in u.tree.under) l.name ≡ n)
    (of_calls : (l : NameList) → In l u.bound.calls → IsOwn members u l → arguments_of l ≡ n) where
  abbrev pub T : Forest
  T = u.tree.under

  abbrev pub toks : List Token
  toks = u.text.toks

  abbrev pub facts : Facts
  facts = facts_of toks T

  pub bound_is : u.bound ≡ bound_of T facts
  bound_is = binding_is toks u.tree u.bound binds

  pub each_of : EachNode (IsOfAlternative (iso s)) T
  each_of = each_below s toks u.tree reads

  pub each_begins : EachNode Begins T
  each_begins = each_map (IsOfAlternative (iso s)) Begins T begin_it each_of
    where
      begin_it : (l : Label) (under : Forest) → IsOfAlternative (iso s) l under → Begins l under
      begin_it l under x par = elim (or_cases (is_at l Post 2) (is_list l) par) [
        | inl call ↦ pair_begins Args under (call_pair s l under x call)
        | inr list ↦ pair_begins Params under (list_pair s l under x list)
      ]

  pub of_text : IsTreeOf (length toks) u.tree
  of_text = trees_of_texts s toks u.tree reads

  pub one_of : (x y : Entry) → In x (entries T) → In y (entries T) → x.begin ≡ y.begin → x ≡ y
  one_of = one_entry T 0 of_text.tokens each_begins

  -- a parameter list of a function by its name
  pub declarator_is : (l : NameList) → In l u.bound.declarators → (p : Pair) × (In p (pairs_in T)) × (list_by p ≡ l) × (is_of_function (names_of facts) l.name ≡ true)
  declarator_is l w =
      let declared : In l (filter (λ (m : NameList). is_of_function (names_of facts) m.name) (lists_in T)) =
      subst (λ (b : Bound). In l b.declarators) bound_is w in
      let parts = in_filtered (λ (m : NameList). is_of_function (names_of facts) m.name) l (lists_in T) declared in
      let mapped : In l (map list_by (pairs_in T)) = subst (λ (ls : List NameList). In l ls) (lists_paired T) parts.0 in
      let p = in_map list_by (pairs_in T) l mapped in
      (p.0, p.1.0, p.1.1, parts.1)

  -- what its parameters are found by
  pub parameters_found : (l : NameList) → In l u.bound.declarators → (p : Pair) → In p (pairs_in T) → list_by p ≡ l → is_of_function (names_of facts) l.name ≡ true
      → parameters_at (parameters_in T) l.name ≡ Some (parameters_by p)
  parameters_found l w p there is of_function =
      let named : p.name ≡ l.name = ap (λ (m : NameList). m.name) is in
      let own : (parameters_by p).name ≡ l.name = parameters_named p.name p.under ∙ named in
      let r = find_some (λ (q : ParameterList). q.name == l.name) (parameters_in T) (parameters_by p)
      (subst (λ (qs : List ParameterList). In (parameters_by p) qs) (sym (parameters_paired T)) (map_in parameters_by (pairs_in T) p there))
      (eq-eqb (parameters_by p).name l.name own) in
      let q = in_map parameters_by (pairs_in T) r.one (subst (λ (qs : List ParameterList). In r.one qs) (parameters_paired T) r.there) in
      let q_named : q.0.name ≡ l.name = sym (parameters_named q.0.name q.0.under) ∙ (ap (λ (m : ParameterList). m.name) q.1.1 ∙ eqb-true r.one.name l.name r.passes) in
      let q_function : is_of_function (names_of facts) q.0.name ≡ true = ap (λ (k : ℕ). is_of_function (names_of facts) k) q_named ∙ of_function in
      let q_listed : In (list_by q.0) (lists_in T) = subst (λ (ls : List NameList). In (list_by q.0) ls) (sym (lists_paired T)) (map_in list_by (pairs_in T) q.0 q.1.0) in
      let q_there : In (list_by q.0) u.bound.declarators = subst (λ (b : Bound). In (list_by q.0) b.declarators) (sym bound_is)
      (filtered_in (λ (m : NameList). is_of_function (names_of facts) m.name) (list_by q.0) (lists_in T) q_listed q_function) in
      let same_list : list_by q.0 ≡ l = one_name u.bound.declarators (in_order s toks u.tree u.bound reads binds) (list_by q.0) l q_there w q_named in
      let e = pairs_entries T q.0 q.1.0 in
      let f = pairs_entries T p there in
      let begin : first_token q.0.under 0 ≡ first_token p.under 0 = ap (λ (m : NameList). m.begin) (same_list ∙ sym is) in
      let one = one_of (entry e.label q.0.under) (entry f.label p.under) e.there f.there begin in
      let unders : q.0.under ≡ p.under = ap (λ (x : Entry). x.under) one in
      let found : parameters_by q.0 ≡ parameters_by p = ap (λ (k : ℕ). parameters_of k q.0.under) (q_named ∙ sym named) ∙ ap (λ (g : Forest). parameters_of p.name g) unders in
      r.found ∙ ap (λ (x : ParameterList). Some x) (sym q.1.1 ∙ found)

  module _ (l : Label) (under : Forest) (there : In (entry l under) (entries T)) (x : IsOfAlternative (iso s) l under) (each : EachNode (IsOfAlternative (iso s)) under)
      (k : ℕ) (tokens : AreFrom k under) where
    -- it is the list of a call
    by_call : (m : NameList) → In m u.bound.calls → IsOwn members u m → m.begin ≡ first_token under 0 → InnerHave n under
    by_call m w own at =
        let c = calls_listed T m (subst (λ (b : Bound). In m b.calls) bound_is w) in
        let begin : first_token c.under 0 ≡ first_token under 0 = ap (λ (q : NameList). q.begin) c.is ∙ at in
        let e = c.entered in
        let one = one_of (entry e.label c.under) (entry l under) e.there there begin in
        let labels : e.label ≡ l = ap (λ (y : Entry). y.label) one in
        let unders : c.under ≡ under = ap (λ (y : Entry). y.under) one in
        call_have s n l k m.name under (ap is_call (sym labels) ∙ e.passes) x each tokens
        (ap (λ (g : Forest). arguments_of (list_of m.name g)) (sym unders) ∙ (ap arguments_of c.is ∙ of_calls m w own))

    -- it is that of a declarator
    by_declarator : (m : NameList) → In m u.bound.declarators → IsOwn members u m → m.begin ≡ first_token under 0 → InnerHave n under
    by_declarator m w own at =
        let d = declarator_is m w in
        let p = d.0 in
        let e = pairs_entries T p d.1 in
        let begin : first_token p.under 0 ≡ first_token under 0 = ap (λ (q : NameList). q.begin) d.2 ∙ at in
        let one = one_of (entry e.label p.under) (entry l under) e.there there begin in
        let labels : e.label ≡ l = ap (λ (y : Entry). y.label) one in
        let unders : p.under ≡ under = ap (λ (y : Entry). y.under) one in
        let found = parameters_found m w p d.1 d.2 d.3 in
        let many : declarations_in (parameters_by p) ≡ n = sym (ap (λ (o : Option ParameterList). option_map_or declarations_in o 0) found) ∙ of_declarators m w own in
        list_have s n l p.name under (ap is_list (sym labels) ∙ e.passes) x each (ap (λ (g : Forest). declarations_in (parameters_of p.name g)) (sym unders) ∙ many)

    declarator_bracketed : 0 < n → is_list l ≡ true → (m : NameList) → In m u.bound.declarators → IsOwn members u m → m.begin ≡ first_token under 0 → is_bracketed under ≡ true
    declarator_bracketed some list m w own at =
        let d = declarator_is m w in
        let p = d.0 in
        let e = pairs_entries T p d.1 in
        let begin : first_token p.under 0 ≡ first_token under 0 = ap (λ (q : NameList). q.begin) d.2 ∙ at in
        let one = one_of (entry e.label p.under) (entry l under) e.there there begin in
        let unders : p.under ≡ under = ap (λ (y : Entry). y.under) one in
        let found = parameters_found m w p d.1 d.2 d.3 in
        let many : declarations_in (parameters_by p) ≡ n = sym (ap (λ (o : Option ParameterList). option_map_or declarations_in o 0) found) ∙ of_declarators m w own in
        list_bracketed s n some l p.name under list x each (ap (λ (g : Forest). declarations_in (parameters_of p.name g)) (sym unders) ∙ many)

    call_label : (m : NameList) → In m u.bound.calls → m.begin ≡ first_token under 0 → is_at l Post 2 ≡ true
    call_label m w at =
        let c = calls_listed T m (subst (λ (b : Bound). In m b.calls) bound_is w) in
        let begin : first_token c.under 0 ≡ first_token under 0 = ap (λ (q : NameList). q.begin) c.is ∙ at in
        let e = c.entered in
        let one = one_of (entry e.label c.under) (entry l under) e.there there begin in
        let labels : e.label ≡ l = ap (λ (y : Entry). y.label) one in
        ap is_call (sym labels) ∙ e.passes

    has_many : ListHas n (begins_list members u) l under
    has_many among =
        let both = and_parts (is_parenthesised l) _ among in
        let begun = (and_parts (begins_list members u (first_token under 0)) _ both.1).0 in
        elim (or_cases (list_any (begins_with members toks u.bound.names (first_token under 0)) u.bound.declarators)
        (list_any (begins_with members toks u.bound.names (first_token under 0)) u.bound.calls) begun) [
          | inl declared ↦
              let m = any_in (begins_with members toks u.bound.names (first_token under 0)) u.bound.declarators declared in
              let parts = and_parts (names_function members toks u.bound.names m.0.name) (m.0.begin == first_token under 0) m.1.1 in
              by_declarator m.0 m.1.0 parts.0 (eqb-true m.0.begin (first_token under 0) parts.1)
          | inr called ↦
              let m = any_in (begins_with members toks u.bound.names (first_token under 0)) u.bound.calls called in
              let parts = and_parts (names_function members toks u.bound.names m.0.name) (m.0.begin == first_token under 0) m.1.1 in
              by_call m.0 m.1.0 parts.0 (eqb-true m.0.begin (first_token under 0) parts.1)
        ]

    -- and where lists have some items, it is bracketed
    has_brackets : 0 < n → IsBracketed (begins_list members u) l under
    has_brackets some among =
        let both = and_parts (is_parenthesised l) _ among in
        elim (or_cases (is_at l Post 2) (is_list l) both.0) [
          | inl call ↦ call_bracketed s l under call x each
          | inr list ↦
              let begun = (and_parts (begins_list members u (first_token under 0)) _ both.1).0 in
              elim (or_cases (list_any (begins_with members toks u.bound.names (first_token under 0)) u.bound.declarators)
              (list_any (begins_with members toks u.bound.names (first_token under 0)) u.bound.calls) begun) [
                | inl declared ↦
                    let m = any_in (begins_with members toks u.bound.names (first_token under 0)) u.bound.declarators declared in
                    let parts = and_parts (names_function members toks u.bound.names m.0.name) (m.0.begin == first_token under 0) m.1.1 in
                    declarator_bracketed some list m.0 m.1.0 parts.0 (eqb-true m.0.begin (first_token under 0) parts.1)
                | inr called ↦
                    let m = any_in (begins_with members toks u.bound.names (first_token under 0)) u.bound.calls called in
                    let parts = and_parts (names_function members toks u.bound.names m.0.name) (m.0.begin == first_token under 0) m.1.1 in
                    call_bracketed s l under (call_label m.0 m.1.0 (eqb-true m.0.begin (first_token under 0) parts.1)) x each
              ]
        ]

  -- what is true of each such list is true of each node
  module _ (Q : Label → Forest → Type 0)
      (each_list : (l : Label) (under : Forest) → In (entry l under) (entries T) → IsOfAlternative (iso s) l under → EachNode (IsOfAlternative (iso s)) under → (k : ℕ) → AreFrom k under
      → is_among (begins_list members u) l under ≡ true → Q l under) where
    abbrev IfAmong : Label → Forest → Type 0
    IfAmong l under = is_among (begins_list members u) l under ≡ true → Q l under

    in_own : (l : Label) (under : Forest) (b : Bool) → b ≡ true → In (entry l under) (if b then entry l under ∷ [] else [])
    in_own l under true h = inl refl
    in_own l under false h = absurd (false≢true h)

    each_among : (f : Forest) (k : ℕ) → ((x : Entry) → In x (entries f) → In x (entries T)) → AreFrom k f → EachNode (IsOfAlternative (iso s)) f → EachNode IfAmong f
    each_among none k into tokens each = tt
    each_among (token i rest) k into tokens each = each_among rest (k + 1) into tokens.1 each
    each_among (node l first under rest) k into tokens each = (
      λ among.
          let par = (and_parts (is_parenthesised l) _ among).0 in
          let there = into (entry l under) (in_first (entry l under) (entry_of l under) (entries under ++ entries rest) (in_own l under (is_parenthesised l) par)) in
          each_list l under there each.0 each.1 k tokens.1 among,
      each_among under k (λ x w. into x (in_last x (entry_of l under) (entries under ++ entries rest) (in_first x (entries under) (entries rest) w))) tokens.1 each.1,
      each_among rest _ (λ x w. into x (in_last x (entry_of l under) (entries under ++ entries rest) (in_last x (entries under) (entries rest) w))) tokens.2 each.2,
    )

  pub unit_many : AreOf n (unit_cut members u)
  unit_many =
      tree_has n (begins_list members u) u.tree
      (each_among (λ l under. InnerHave n under) (λ l under there x each k tokens among. has_many l under there x each k tokens among) T 0 (λ x w. w) of_text.tokens each_of)

  pub unit_brackets : 0 < n → EachNode (IsBracketed (begins_list members u)) T
  unit_brackets some =
      each_among (λ l under. is_bracketed under ≡ true) (λ l under there x each k tokens among. has_brackets l under there x each k tokens some among) T 0 (λ x w. w) of_text.tokens each_of

  -- no list of the functions begins the unit
  pub unit_first : begins_list members u 0 ≡ false
  unit_first = elim (cases_Bool (begins_list members u 0)) [
    | inl begun ↦ absurd (elim (or_cases (list_any (begins_with members toks u.bound.names 0) u.bound.declarators) (list_any (begins_with members toks u.bound.names 0) u.bound.calls) begun) [
      | inl declared ↦
          let m = any_in (begins_with members toks u.bound.names 0) u.bound.declarators declared in
          let zero_ = eqb-true m.0.begin 0 (and_parts (names_function members toks u.bound.names m.0.name) (m.0.begin == 0) m.1.1).1 in
          let d = declarator_is m.0 m.1.0 in
          let p = d.0 in
          let e = pairs_entries T p d.1 in
          let begin : first_token p.under 0 ≡ 0 = ap (λ (q : NameList). q.begin) d.2 ∙ zero_ in
          let later = behind_first s T 0 of_text.tokens each_of each_begins leads_unit (entry e.label p.under) e.there in
          omega (arith, begin, later)
      | inr called ↦
          let m = any_in (begins_with members toks u.bound.names 0) u.bound.calls called in
          let zero_ = eqb-true m.0.begin 0 (and_parts (names_function members toks u.bound.names m.0.name) (m.0.begin == 0) m.1.1).1 in
          let c = calls_listed T m.0 (subst (λ (b : Bound). In m.0 b.calls) bound_is m.1.0) in
          let e = c.entered in
          let begin : first_token c.under 0 ≡ 0 = ap (λ (q : NameList). q.begin) c.is ∙ zero_ in
          let later = behind_first s T 0 of_text.tokens each_of each_begins leads_unit (entry e.label c.under) e.there in
          omega (arith, begin, later)
    ])
    | inr other ↦ other
  ]
    where
      leads_unit : leads (children T) ≡ true
      leads_unit =
          let unit = children_of_alternatives s toks u.tree reads in
          let whole = unit.1 in
          unit_leads s u.tree.label T whole.0 unit.0
