-- Lists in parentheses, each by the token that begins it: no two of a tree begin with one.
use Rattle.std.proofs.Common.{ℕ, ◌+◌, ◌<◌, ◌≤◌, ◌≡◌, ◌⊎◌, inl, inr, Bool, true, false, ◌&&◌, if◌then◌else◌, List, [], ◌∷◌, ◌++◌, map, Option, None, Some, refl, sym, ap, subst, ◌∙◌, arith}
use Rattle.std.specs.Option.{option_or}
use Rattle.std.proofs.lemmas.Bool.{false≢true, and_parts}
use Rattle.std.proofs.lemmas.List.{map-append}
use Rattle.std.proofs.lemmas.Option.{same_Some}
use Rattle.cs_base.proofs.BoolLemmas.{or_first as or_left_is, or_right as or_right_is}
use Rattle.c99_tree.specs.Tree.{Forest, none, token, node}
use Rattle.c99_tree.specs.declared.production.Label.{Label}
use Rattle.c99_tree.specs.declared.production.Production.TheVariants.{Declarator, Suffix, Pointer, Unary, Primary, Post}
use Rattle.c_types.specs.declared.lists.List.{List as NameList}
use Rattle.c_types.specs.declared.parameters.ParameterList.{ParameterList}
use Rattle.c_types.specs.Lists.{list_of, call_in, calls_in, nearest_of, own_list, declarator_in, is_declaring, lists_in}
use Rattle.c_types.specs.Parameters.{parameters_of, own_parameters, declarator_parameters, parameters_in}
use Rattle.c_types.specs.Trees.{is_node, is_at, is_list, is_aside, name_below, first_token}
use Rattle.tree_laws.specs.TreesOfTexts.{token_count, AreFrom}
use Rattle.tree_laws.proofs.Lookups.{In}
use Rattle.reordered_tree_laws.specs.Reordered.{is_parenthesised}
use Rattle.template_meaning.specs.Children.{EachNode}

-- ---- Lists

pub in_first : {X : Type 0} (x : X) (xs ys : List X) → In x xs → In x (xs ++ ys)
in_first x [] ys w = absurd w
in_first x (y ∷ xs) ys (inl s) = inl s
in_first x (y ∷ xs) ys (inr w) = inr (in_first x xs ys w)

pub in_last : {X : Type 0} (x : X) (xs ys : List X) → In x ys → In x (xs ++ ys)
in_last x [] ys w = w
in_last x (y ∷ xs) ys w = inr (in_last x xs ys w)

pub in_split : {X : Type 0} (x : X) (xs ys : List X) → In x (xs ++ ys) → In x xs ⊎ In x ys
in_split x [] ys w = inr w
in_split x (y ∷ xs) ys (inl s) = inl (inl s)
in_split x (y ∷ xs) ys (inr w) = elim (in_split x xs ys w) [ inl v ↦ inl (inr v) | inr v ↦ inr v ]

pub in_map : {X Y : Type 0} (f : X → Y) (xs : List X) (y : Y) → In y (map f xs) → (x : X) × (In x xs × (f x ≡ y))
in_map f [] y w = absurd w
in_map f (x ∷ xs) y (inl s) = (x, (inl refl, s))
in_map f (x ∷ xs) y (inr w) = let r = in_map f xs y w in (r.0, (inr r.1.0, r.1.1))

pub map_in : {X Y : Type 0} (f : X → Y) (xs : List X) (x : X) → In x xs → In (f x) (map f xs)
map_in f [] x w = absurd w
map_in f (y ∷ xs) x (inl s) = inl (ap f s)
map_in f (y ∷ xs) x (inr w) = inr (map_in f xs x w)

in_if : {X : Type 0} (c : Bool) (x y : X) → In x (if c then y ∷ [] else []) → (c ≡ true) × (y ≡ x)
in_if true x y (inl s) = (refl, s)
in_if true x y (inr w) = absurd w
in_if false x y w = absurd w

if_in : {X : Type 0} (c : Bool) (y : X) → c ≡ true → In y (if c then y ∷ [] else [])
if_in true y e = inl refl
if_in false y e = absurd (false≢true e)

in_lists : {X : Type 0} (c : Bool) (x : X) (ys : List X) → In x (if c then ys else []) → In x ys
in_lists true x ys w = w
in_lists false x ys w = absurd w

-- ---- Entries

-- a list in parentheses: its label, the token that begins it, and its children
pub record Entry : Type 0 where
  pub label : Label
  pub begin : ℕ
  pub under : Forest

abbrev pub entry : Label → Forest → Entry
entry l under = record { label = l; begin = first_token under 0; under = under }

abbrev pub entry_of : Label → Forest → List Entry
entry_of l under = if is_parenthesised l then entry l under ∷ [] else []

abbrev pub entries : Forest → List Entry
entries none = []
entries (token i rest) = entries rest
entries (node l first under rest) = entry_of l under ++ (entries under ++ entries rest)

-- such a list begins with a token
abbrev pub begins : Forest → Bool
begins (token i rest) = true
begins _ = false

abbrev pub Begins : Label → Forest → Type 0
Begins l under = is_parenthesised l ≡ true → begins under ≡ true

-- ---- Where they begin

abbrev IsWithin : ℕ → ℕ → ℕ → Type 0
IsWithin k n i = (k ≤ i) × (i < k + n)

begins_at : (k : ℕ) (under : Forest) → AreFrom k under → begins under ≡ true → (first_token under 0 ≡ k) × (1 ≤ token_count under)
begins_at k none w b = absurd (false≢true b)
begins_at k (token i rest) w b = (w.0, omega arith)
begins_at k (node l first under rest) w b = absurd (false≢true b)

pub within : (f : Forest) (k : ℕ) → AreFrom k f → EachNode Begins f → (x : Entry) → In x (entries f) → IsWithin k (token_count f) x.begin
within none k w each x v = absurd v
within (token i rest) k w each x v =
    let h = within rest (k + 1) w.1 each x v in (omega (arith, h.0), omega (arith, h.1))
within (node l first under rest) k w each x v = elim (in_split x (entry_of l under) (entries under ++ entries rest) v) [
  | inl u ↦
      let is = in_if (is_parenthesised l) x (entry l under) u in
      let at = begins_at k under w.1 (each.0 is.0) in
      let same : x.begin ≡ k = ap (λ (y : Entry). y.begin) (sym is.1) ∙ at.0 in
      (omega (arith, same), omega (arith, same, at.1))
  | inr u ↦ elim (in_split x (entries under) (entries rest) u) [
    | inl b ↦ let h = within under k w.1 each.1 x b in (h.0, omega (arith, h.1))
    | inr b ↦ let h = within rest (k + token_count under) w.2 each.2 x b in (omega (arith, h.0), omega (arith, h.1))
  ]
]

-- those below such a list begin behind its first token
inside : (k : ℕ) (under : Forest) → AreFrom k under → begins under ≡ true → EachNode Begins under → (x : Entry) → In x (entries under) → k < x.begin
inside k none w b each x v = absurd v
inside k (token i rest) w b each x v = let h = within rest (k + 1) w.1 each x v in omega (arith, h.0)
inside k (node l first under rest) w b each x v = absurd (false≢true b)

-- the list itself, and one below it or behind it
own_other : (l : Label) (under rest : Forest) (k : ℕ) → AreFrom k under → AreFrom (k + token_count under) rest → Begins l under → EachNode Begins under → EachNode Begins rest → (z t : Entry)
    → In z (entry_of l under) → In t (entries under) ⊎ In t (entries rest) → z.begin ≡ t.begin → ⊥
own_other l under rest k w v begin each more z t own (inl below) e =
    let is = in_if (is_parenthesised l) z (entry l under) own in
    let at = begins_at k under w (begin is.0) in
    let z_at : z.begin ≡ k = ap (λ (a : Entry). a.begin) (sym is.1) ∙ at.0 in
    let h = inside k under w (begin is.0) each t below in
    omega (arith, z_at, h, e)
own_other l under rest k w v begin each more z t own (inr behind) e =
    let is = in_if (is_parenthesised l) z (entry l under) own in
    let at = begins_at k under w (begin is.0) in
    let z_at : z.begin ≡ k = ap (λ (a : Entry). a.begin) (sym is.1) ∙ at.0 in
    let h = within rest (k + token_count under) v more t behind in
    omega (arith, z_at, at.1, h.0, e)

below_behind : (under rest : Forest) (k : ℕ) → AreFrom k under → AreFrom (k + token_count under) rest → EachNode Begins under → EachNode Begins rest → (z t : Entry)
    → In z (entries under) → In t (entries rest) → z.begin ≡ t.begin → ⊥
below_behind under rest k w v each more z t below behind e =
    let a = within under k w each z below in
    let b = within rest (k + token_count under) v more t behind in
    omega (arith, a.1, b.0, e)

-- two that begin with one token are one
pub one_entry : (f : Forest) (k : ℕ) → AreFrom k f → EachNode Begins f → (x y : Entry) → In x (entries f) → In y (entries f) → x.begin ≡ y.begin → x ≡ y
one_entry none k w each x y v u same = absurd v
one_entry (token i rest) k w each x y v u same = one_entry rest (k + 1) w.1 each x y v u same
one_entry (node l first under rest) k w each x y v u same =
    let of_y = in_split y (entry_of l under) (entries under ++ entries rest) u in
    elim (in_split x (entry_of l under) (entries under ++ entries rest) v) [
      | inl a ↦ elim of_y [
        | inl b ↦ sym ((in_if (is_parenthesised l) x (entry l under) a).1) ∙ (in_if (is_parenthesised l) y (entry l under) b).1
        | inr b ↦ absurd (own_other l under rest k w.1 w.2 each.0 each.1 each.2 x y a (in_split y (entries under) (entries rest) b) same)
      ]
      | inr a ↦
          let x_in = in_split x (entries under) (entries rest) a in
          elim of_y [
            | inl b ↦ absurd (own_other l under rest k w.1 w.2 each.0 each.1 each.2 y x b x_in (sym same))
            | inr b ↦
                let y_in = in_split y (entries under) (entries rest) b in
                elim x_in [
                  | inl c ↦ elim y_in [
                    | inl d ↦ one_entry under k w.1 each.1 x y c d same
                    | inr d ↦ absurd (below_behind under rest k w.1 w.2 each.1 each.2 x y c d same)
                  ]
                  | inr c ↦ elim y_in [
                    | inl d ↦ absurd (below_behind under rest k w.1 w.2 each.1 each.2 y x d c (sym same))
                    | inr d ↦ one_entry rest (k + token_count under) w.2 each.2 x y c d same
                  ]
                ]
          ]
    ]

-- ---- Calls

-- a list in parentheses with a label that passes, and these children
pub record IsEntry (test : Label → Bool) (f : Forest) (under : Forest) : Type 0 where
  pub label : Label
  pub passes : test label ≡ true
  pub there : In (entry label under) (entries f)

entered : (test : Label → Bool) (f g under : Forest) → ((x : Entry) → In x (entries f) → In x (entries g)) → IsEntry test f under → IsEntry test g under
entered test f g under into h = record { label = h.label; passes = h.passes; there = into (entry h.label under) h.there }

abbrev pub is_call : Label → Bool
is_call l = is_at l Post 2

-- a list of a name, and what stands in its parentheses
pub record IsListOf (test : Label → Bool) (f : Forest) (l : NameList) : Type 0 where
  pub under : Forest
  pub entered : IsEntry test f under
  pub is : list_of l.name under ≡ l

listed : (test : Label → Bool) (f g : Forest) (l : NameList) → ((x : Entry) → In x (entries f) → In x (entries g)) → IsListOf test f l → IsListOf test g l
listed test f g l into h = record { under = h.under; entered = entered test f g h.under into h.entered; is = h.is }

call_entry : (under : Forest) (l : NameList) → In l (call_in under) → IsListOf is_call under l
call_entry (node m first (token i none) (node n begin list rest)) l w =
    let is = in_if (is_at m Primary 1 && is_at n Post 2) l (list_of i list) w in
    let post = (and_parts (is_at m Primary 1) (is_at n Post 2) is.0).1 in
    let own : In (entry n list) (entry_of n list) = if_in (is_parenthesised n) (entry n list) (or_left_is (is_at n Post 2) (is_list n) post) in
    let named : i ≡ l.name = ap (λ (k : NameList). k.name) is.1 in
    record {
      under = list;
      entered = record {
        label = n;
        passes = post;
        there = in_last (entry n list) (entry_of m (token i none)) (entry_of n list ++ (entries list ++ entries rest)) (in_first (entry n list) (entry_of n list) (entries list ++ entries rest) own);
      };
      is = ap (λ (k : ℕ). list_of k list) (sym named) ∙ is.1;
    }
call_entry _ l w = absurd w

below_in : (m : Label) (first : ℕ) (under rest : Forest) (x : Entry) → In x (entries under) → In x (entries (node m first under rest))
below_in m first under rest x w = in_last x (entry_of m under) (entries under ++ entries rest) (in_first x (entries under) (entries rest) w)

behind_in : (m : Label) (first : ℕ) (under rest : Forest) (x : Entry) → In x (entries rest) → In x (entries (node m first under rest))
behind_in m first under rest x w = in_last x (entry_of m under) (entries under ++ entries rest) (in_last x (entries under) (entries rest) w)

pub calls_listed : (f : Forest) (l : NameList) → In l (calls_in f) → IsListOf is_call f l
calls_listed none l w = absurd w
calls_listed (token i rest) l w = let r = calls_listed rest l w in record { under = r.under; entered = record { label = r.entered.label; passes = r.entered.passes; there = r.entered.there }; is = r.is }
calls_listed (node m first under rest) l w = elim (in_split l ((if is_node m Unary then call_in under else []) ++ calls_in under) (calls_in rest) w) [
  | inl v ↦ elim (in_split l (if is_node m Unary then call_in under else []) (calls_in under) v) [
    | inl b ↦ listed is_call under (node m first under rest) l (below_in m first under rest) (call_entry under l (in_lists (is_node m Unary) l (call_in under) b))
    | inr b ↦ listed is_call under (node m first under rest) l (below_in m first under rest) (calls_listed under l b)
  ]
  | inr v ↦ listed is_call rest (node m first under rest) l (behind_in m first under rest) (calls_listed rest l v)
]

-- ---- Declarators

-- a name of a declarator, and the children of its own list
pub record Pair : Type 0 where
  pub name : ℕ
  pub under : Forest

abbrev pub list_by : Pair → NameList
list_by p = list_of p.name p.under

abbrev pub parameters_by : Pair → ParameterList
parameters_by p = parameters_of p.name p.under

abbrev pub own_pair : Option ℕ → Option (Option Forest) → List Pair
own_pair (Some name) (Some (Some list)) = record { name = name; under = list } ∷ []
own_pair _ _ = []

abbrev pub pair_in : Forest → List Pair
pair_in (node l first under rest) = if is_node l Declarator then own_pair (name_below l under) (nearest_of under) else []
pair_in _ = []

abbrev pub pairs_in : Forest → List Pair
pairs_in none = []
pairs_in (token i rest) = pairs_in rest
pairs_in (node l first under rest) = ((if is_declaring l then pair_in under else []) ++ pairs_in under) ++ pairs_in rest

own_listed : (o : Option ℕ) (n : Option (Option Forest)) → own_list o n ≡ map list_by (own_pair o n)
own_listed None n = refl
own_listed (Some name) None = refl
own_listed (Some name) (Some None) = refl
own_listed (Some name) (Some (Some list)) = refl

own_told : (o : Option ℕ) (n : Option (Option Forest)) → own_parameters o n ≡ map parameters_by (own_pair o n)
own_told None n = refl
own_told (Some name) None = refl
own_told (Some name) (Some None) = refl
own_told (Some name) (Some (Some list)) = refl

map_if : {X Y : Type 0} (c : Bool) (f : X → Y) (xs : List X) (ys : List Y) → ys ≡ map f xs → (if c then ys else []) ≡ map f (if c then xs else [])
map_if true f xs ys e = e
map_if false f xs ys e = refl

declarator_listed : (f : Forest) → declarator_in f ≡ map list_by (pair_in f)
declarator_listed none = refl
declarator_listed (token i rest) = refl
declarator_listed (node l first under rest) =
    map_if (is_node l Declarator) list_by (own_pair (name_below l under) (nearest_of under)) (own_list (name_below l under) (nearest_of under)) (own_listed (name_below l under) (nearest_of under))

declarator_told : (f : Forest) → declarator_parameters f ≡ map parameters_by (pair_in f)
declarator_told none = refl
declarator_told (token i rest) = refl
declarator_told (node l first under rest) =
    map_if (is_node l Declarator) parameters_by (own_pair (name_below l under) (nearest_of under)) (own_parameters (name_below l under) (nearest_of under))
    (own_told (name_below l under) (nearest_of under))

three_mapped : {X Y : Type 0} (f : X → Y) (xs ys zs : List X) (us vs ws : List Y) → us ≡ map f xs → vs ≡ map f ys → ws ≡ map f zs → (us ++ vs) ++ ws ≡ map f ((xs ++ ys) ++ zs)
three_mapped f xs ys zs us vs ws a b c =
    ap (λ (u : List _). (u ++ vs) ++ ws) a ∙ (ap (λ (v : List _). (map f xs ++ v) ++ ws) b ∙ (ap (λ (w : List _). (map f xs ++ map f ys) ++ w) c
    ∙ sym (map-append f (xs ++ ys) zs ∙ ap (λ (u : List _). u ++ map f zs) (map-append f xs ys))))

pub lists_paired : (f : Forest) → lists_in f ≡ map list_by (pairs_in f)
lists_paired none = refl
lists_paired (token i rest) = lists_paired rest
lists_paired (node l first under rest) =
    three_mapped list_by (if is_declaring l then pair_in under else []) (pairs_in under) (pairs_in rest) (if is_declaring l then declarator_in under else []) (lists_in under) (lists_in rest)
    (map_if (is_declaring l) list_by (pair_in under) (declarator_in under) (declarator_listed under)) (lists_paired under) (lists_paired rest)

pub parameters_paired : (f : Forest) → parameters_in f ≡ map parameters_by (pairs_in f)
parameters_paired none = refl
parameters_paired (token i rest) = parameters_paired rest
parameters_paired (node l first under rest) =
    three_mapped parameters_by (if is_declaring l then pair_in under else []) (pairs_in under) (pairs_in rest) (if is_declaring l then declarator_parameters under else [])
    (parameters_in under) (parameters_in rest)
    (map_if (is_declaring l) parameters_by (pair_in under) (declarator_parameters under) (declarator_told under)) (parameters_paired under) (parameters_paired rest)

-- the list that stands nearest to a name is one in parentheses
nearest_node : (l : Label) (first : ℕ) (under rest list : Forest) (near : Option (Option Forest)) → (near ≡ Some (Some list) → IsEntry is_list under list)
    → (nearest_of rest ≡ Some (Some list) → IsEntry is_list rest list) → (c b d : Bool) → is_list l ≡ b
    → (if c then Some (if b then Some under else None) else (if d then option_or (nearest_of rest) (Some None) else option_or near (nearest_of rest))) ≡ Some (Some list)
    → IsEntry is_list (node l first under rest) list
nearest_node l first under rest list near of_under of_rest true true d is same =
    let there : In (entry l under) (entry_of l under) = if_in (is_parenthesised l) (entry l under) (or_right_is (is_at l Post 2) (is_list l) is) in
    let whole : IsEntry is_list (node l first under rest) under = record { label = l; passes = is; there = in_first (entry l under) (entry_of l under) (entries under ++ entries rest) there } in
    subst (IsEntry is_list (node l first under rest)) (same_Some under list (same_Some (Some under) (Some list) same)) whole
nearest_node l first under rest list near of_under of_rest true false d is same = absurd (cc)
nearest_node l first under rest list near of_under of_rest false b true is same = by (nearest_of rest) refl same
  where
    by : (o : Option (Option Forest)) → nearest_of rest ≡ o → option_or o (Some None) ≡ Some (Some list) → IsEntry is_list (node l first under rest) list
    by None at e = absurd (cc)
    by (Some z) at e = entered is_list rest (node l first under rest) list (behind_in l first under rest) (of_rest (at ∙ e))
nearest_node l first under rest list near of_under of_rest false b false is same = by near refl same
  where
    by : (o : Option (Option Forest)) → near ≡ o → option_or o (nearest_of rest) ≡ Some (Some list) → IsEntry is_list (node l first under rest) list
    by None at e = entered is_list rest (node l first under rest) list (behind_in l first under rest) (of_rest e)
    by (Some z) at e = entered is_list under (node l first under rest) list (below_in l first under rest) (of_under (at ∙ e))

pub nearest_entry : (f list : Forest) → nearest_of f ≡ Some (Some list) → IsEntry is_list f list
nearest_entry none list e = absurd (cc)
nearest_entry (token i rest) list e = let r = nearest_entry rest list e in record { label = r.label; passes = r.passes; there = r.there }
nearest_entry (node l first under rest) list e =
    nearest_node l first under rest list (if is_aside l then None else nearest_of under) (by (is_aside l) (nearest_entry under list)) (nearest_entry rest list)
    (is_node l Suffix) (is_list l) (is_node l Pointer) refl e
  where
    by : (c : Bool) → (nearest_of under ≡ Some (Some list) → IsEntry is_list under list) → (if c then None else nearest_of under) ≡ Some (Some list) → IsEntry is_list under list
    by true h at = absurd (cc)
    by false h at = h at

own_entry : (o : Option ℕ) (n : Option (Option Forest)) (p : Pair) → In p (own_pair o n) → n ≡ Some (Some p.under)
own_entry None n p w = absurd w
own_entry (Some name) None p w = absurd w
own_entry (Some name) (Some None) p w = absurd w
own_entry (Some name) (Some (Some list)) p (inl same) = ap (λ (q : Pair). Some (Some q.under)) same
own_entry (Some name) (Some (Some list)) p (inr w) = absurd w

pair_entry : (f : Forest) (p : Pair) → In p (pair_in f) → IsEntry is_list f p.under
pair_entry none p w = absurd w
pair_entry (token i rest) p w = absurd w
pair_entry (node l first under rest) p w =
    entered is_list under (node l first under rest) p.under (below_in l first under rest)
    (nearest_entry under p.under (own_entry (name_below l under) (nearest_of under) p (in_lists (is_node l Declarator) p (own_pair (name_below l under) (nearest_of under)) w)))

pub pairs_entries : (f : Forest) (p : Pair) → In p (pairs_in f) → IsEntry is_list f p.under
pairs_entries none p w = absurd w
pairs_entries (token i rest) p w = let r = pairs_entries rest p w in record { label = r.label; passes = r.passes; there = r.there }
pairs_entries (node l first under rest) p w = elim (in_split p ((if is_declaring l then pair_in under else []) ++ pairs_in under) (pairs_in rest) w) [
  | inl v ↦ elim (in_split p (if is_declaring l then pair_in under else []) (pairs_in under) v) [
    | inl b ↦ entered is_list under (node l first under rest) p.under (below_in l first under rest) (pair_entry under p (in_lists (is_declaring l) p (pair_in under) b))
    | inr b ↦ entered is_list under (node l first under rest) p.under (below_in l first under rest) (pairs_entries under p b)
  ]
  | inr v ↦ entered is_list rest (node l first under rest) p.under (behind_in l first under rest) (pairs_entries rest p v)
]
