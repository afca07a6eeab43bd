-- Nodes of a tree, found by their lists; and tokens among children.
use Rattle.std.proofs.Common.{◌≡◌, ℕ, suc, ◌+◌, ◌-◌, ◌<◌, ◌≤◌, ◌⊎◌, inl, inr, Bool, true, false, ◌&&◌, ◌||◌, if◌then◌else◌, List, [], ◌∷◌, ◌++◌, refl, subst, arith}
use Rattle.std.specs.Prelude.{◌==◌, ◌%◌, nat_le}
use Rattle.std.proofs.lemmas.Bool.{false≢true, and_parts, eq-eqb, eqb-true, leb-true}
use Rattle.c99_tree.specs.Tree.{Forest, none, token, node}
use Rattle.c99_tree.specs.declared.production.Label.{Label}
use Rattle.c99_grammar.specs.declared.classes.Class.TheVariants.{Comma}
use Rattle.c99_grammar.specs.Standard.{Grammar}
use Rattle.c99_read.specs.State.{base_at}
use Rattle.cs_base.specs.Token.{Token}
use Rattle.cs_base.proofs.NumberLemmas.{even_next, odd_next}
use Rattle.c_types.specs.Lists.{odd_tokens}
use Rattle.c_types.specs.Trees.{first_token, last_token}
use Rattle.tree_laws.proofs.Lookups.{In}
use Rattle.list_cuts.specs.Cuts.{Cut, done, keep, list, span_of}
use Rattle.expansion_laws.specs.Arranging.{in_lists}
use Rattle.reordered_text_laws.specs.Marks.{marks_of, marks_in, ends_of, first_of, last_of, IsMarked, Each}
use Rattle.reordered_text_laws.proofs.MarkLemmas.{items_last}
use Rattle.reordered_text_laws.specs.Trees.{IsAmong}
use Rattle.reordered_text_laws.specs.Trees as marked
use Rattle.reordered_text_laws.specs.Classes as classes
use Rattle.reordered_tree_laws.specs.Reordered.{is_parenthesised}
use Rattle.template_meaning.specs.Children.{EachNode}
use Rattle.template_meaning.proofs.Parens.{Entry, entry, entry_of, entries, in_split}

-- ---- lists

pub each_in : {X : Type 0} (P : X → Type 0) (xs : List X) → ((x : X) → In x xs → P x) → Each P xs
each_in P [] f = tt
each_in P (x ∷ xs) f = (f x (inl refl), each_in P xs (λ y i. f y (inr i)))

pub each_at : {X : Type 0} (P : X → Type 0) (xs : List X) (x : X) → Each P xs → IsAmong xs x → P x
each_at P [] x h i = absurd i
each_at P (y ∷ xs) x h (inl e) = subst P e h.0
each_at P (y ∷ xs) x h (inr i) = each_at P xs x h.1 i

pub in_among : {X : Type 0} (xs : List X) (x : X) → In x xs → IsAmong xs x
in_among [] x i = i
in_among (y ∷ xs) x (inl e) = inl e
in_among (y ∷ xs) x (inr i) = inr (in_among xs x i)

pub among_in : {X : Type 0} (xs : List X) (x : X) → IsAmong xs x → In x xs
among_in [] x i = i
among_in (y ∷ xs) x (inl e) = inl e
among_in (y ∷ xs) x (inr i) = inr (among_in xs x i)

-- ---- nodes

own_entry : (b : Bool) (l : Label) (under : Forest) (x : Entry) → In x (if b then entry l under ∷ [] else []) → entry l under ≡ x
own_entry true l under x (inl e) = e
own_entry true l under x (inr i) = absurd i
own_entry false l under x i = absurd i

pub entry_each : (P : Label → Forest → Type 0) (f : Forest) → EachNode P f → (x : Entry) → In x (entries f) → P x.label x.under × EachNode P x.under
entry_each P none each x i = absurd i
entry_each P (token j rest) each x i = entry_each P rest each x i
entry_each P (node l first under rest) each x i = elim (in_split x (entry_of l under) (entries under ++ entries rest) i) [
  | inl v ↦ subst (λ (y : Entry). P y.label y.under × EachNode P y.under) (own_entry (is_parenthesised l) l under x v) (each.0, each.1)
  | inr v ↦ elim (in_split x (entries under) (entries rest) v) [ inl a ↦ entry_each P under each.1 x a | inr b ↦ entry_each P rest each.2 x b ]
]

pub entry_marked : (P : Label → Forest → Type 0) (f : Forest) → marked.EachNode P f → (x : Entry) → In x (entries f) → P x.label x.under × marked.EachNode P x.under
entry_marked P none each x i = absurd i
entry_marked P (token j rest) each x i = entry_marked P rest each x i
entry_marked P (node l first under rest) each x i = elim (in_split x (entry_of l under) (entries under ++ entries rest) i) [
  | inl v ↦ subst (λ (y : Entry). P y.label y.under × marked.EachNode P y.under) (own_entry (is_parenthesised l) l under x v) (each.0, each.1)
  | inr v ↦ elim (in_split x (entries under) (entries rest) v) [ inl a ↦ entry_marked P under each.1 x a | inr b ↦ entry_marked P rest each.2 x b ]
]

-- ---- children with their tokens

pub first_child : (f : Forest) (i : ℕ) (w : List classes.Child) → classes.children f ≡ classes.a_token i ∷ w → first_token f 0 ≡ i
first_child none i w e = absurd (cc)
first_child (token j rest) i w e = cc
first_child (node l first under rest) i w e = absurd (cc)

pub last_child : (f : Forest) (d j : ℕ) (w : List classes.Child) → classes.children f ≡ w ++ classes.a_token j ∷ [] → last_token f d ≡ j
last_child none d j [] e = absurd (cc)
last_child none d j (c ∷ w) e = absurd (cc)
last_child (token i none) d j [] e = cc
last_child (token i (token k rest)) d j [] e = absurd (cc)
last_child (token i (node l first under rest)) d j [] e = absurd (cc)
last_child (token i rest) d j (c ∷ w) e = let more : classes.children rest ≡ w ++ classes.a_token j ∷ [] = cc in last_child rest i j w more
last_child (node l first under rest) d j [] e = absurd (cc)
last_child (node l first under rest) d j (c ∷ w) e = let more : classes.children rest ≡ w ++ classes.a_token j ∷ [] = cc in last_child rest (last_token under d) j w more

-- behind the first item: a comma before each further one, and one before `...`
abbrev pub AreCommas : Grammar → List Token → List classes.Child → Type 0
AreCommas g toks [] = Unit {0}
AreCommas g toks (classes.a_token i ∷ []) = ⊥
AreCommas g toks (classes.a_token i ∷ classes.a_node ∷ w) = (base_at g toks i ≡ Comma) × AreCommas g toks w
AreCommas g toks (classes.a_token i ∷ classes.a_token j ∷ w) = (base_at g toks i ≡ Comma) × (w ≡ [])
AreCommas g toks (classes.a_node ∷ w) = ⊥

not_odd : (k : ℕ) → k % 2 ≡ 0 → (k % 2 == 1) ≡ false
not_odd k e = by (k % 2 == 1) refl
  where
    by : (b : Bool) → (k % 2 == 1) ≡ b → b ≡ false
    by false h = refl
    by true h = let one = eqb-true (k % 2) 1 h in absurd (omega (arith, e, one))

pub commas_odd : (g : Grammar) (toks : List Token) (f : Forest) (k : ℕ) → k % 2 ≡ 1 → AreCommas g toks (classes.children f) → Each (λ i. base_at g toks i ≡ Comma) (odd_tokens k f)
commas_odd g toks none k odd h = tt
commas_odd g toks (node l first under rest) k odd h = absurd h
commas_odd g toks (token i none) k odd h = absurd h
commas_odd g toks (token i (node l first under rest)) k odd h =
    let here : (k % 2 == 1) ≡ true = eq-eqb (k % 2) 1 odd in
    rw here (h.0, commas_odd g toks rest (k + 1 + 1) (odd_next (k + 1) (even_next k odd)) h.1)
commas_odd g toks (token i (token j none)) k odd h =
    let here : (k % 2 == 1) ≡ true = eq-eqb (k % 2) 1 odd in
    let next : ((k + 1) % 2 == 1) ≡ false = not_odd (k + 1) (even_next k odd) in
    rw (here, next) (h.0, tt)
commas_odd g toks (token i (token j (token m rest))) k odd h = let no = h.1 in absurd (cc)
commas_odd g toks (token i (token j (node l first under rest))) k odd h = let no = h.1 in absurd (cc)

-- ---- lists of a cut, and the tokens put out before something

or_both : (a b : Bool) → (a || b) ≡ true → (a ≡ true) ⊎ (b ≡ true)
or_both true b h = inl refl
or_both false b h = inr h

pub in_some_list : (from at limit before : ℕ) (c : Cut) → IsMarked from at limit c → in_lists at c before ≡ true
    → (t : List ℕ) × IsAmong (marks_of at c) t × (first_of t < before) × (before ≤ last_of t)
unfolding marks_of in_lists
in_some_list from at limit before done w h = absurd (false≢true h)
in_some_list from at limit before (keep (suc k) (list is c)) w h =
    elim (or_both (nat_le (at + suc k) before && nat_le before (at + suc k + span_of is)) (in_lists (at + suc k + span_of is) c before) h) [
      | inl own ↦
          let both = and_parts (nat_le (at + suc k) before) (nat_le before (at + suc k + span_of is)) own in
          let low = leb-true (at + suc k) before both.0 in
          let high = leb-true before (at + suc k + span_of is) both.1 in
          let last = items_last (at + suc k - 1) (at + suc k) is w.1 w.2 in
          ((at + suc k - 1) ∷ ends_of (at + suc k) is, inl refl, omega (arith, low), omega (arith, last, high))
      | inr later ↦
          let r = in_some_list (at + suc k + span_of is + 1) (at + suc k + span_of is) limit before c w.4 later in
          (r.0, inr (among_later (marks_in (at + suc k) is) (marks_of (at + suc k + span_of is) c) r.0 r.1), r.2, r.3)
    ]
  where
    among_later : (xs ys : List (List ℕ)) (t : List ℕ) → IsAmong ys t → IsAmong (xs ++ ys) t
    among_later [] ys t i = i
    among_later (x ∷ xs) ys t i = inr (among_later xs ys t i)
in_some_list from at limit before c w h = absurd w
