-- A list whose items are in a new order is a list of these items.
use Rattle.std.proofs.Common.{ℕ, suc, ◌≡◌, ◌⊎◌, List, [], ◌∷◌, ◌++◌, length, map, get_or, refl, sym, ap, subst, ◌∙◌, inl, inr, arith}
use Rattle.std.specs.Prelude.{IsPermutation, ◌-◌}
use Rattle.std.proofs.lemmas.List.{length-map}
use Rattle.std.proofs.lemmas.List.Sorted.{IsPermutation-map}
use Rattle.c99_tree.specs.Tree.{Forest, none, token, node, Node}
use Rattle.c99_grammar.specs.declared.classes.Class.{Class}
use Rattle.reordered_tree_laws.specs.Reordered.{nodes_in, refilled, no_node, picked_nodes, shuffled}
use Rattle.reordered_tree_laws.proofs.SameForms.{nodes_permute}
use Rattle.list_cuts.specs.Cuts.{IsOrder}
use Rattle.reordered_text_laws.specs.ByClasses.{joined}
use Rattle.reordered_text_laws.specs.Lists.{Others, others_of, items_in, AreCommas, listed_with}

-- the node by itself
abbrev pub alone : Node → Forest
alone n = node n.label n.first n.under none

abbrev pub IsNode : Forest → Type 0
IsNode f = (n : Node) × (f ≡ alone n)

abbrev pub AllNodes : Others → Type 0
AllNodes [] = Unit {0}
AllNodes (x ∷ more) = IsNode x.1 × AllNodes more

-- these nodes in place of the items behind their commas
abbrev refilled_others : List Node → Others → Others
refilled_others ns [] = []
refilled_others [] (x ∷ more) = x ∷ more
refilled_others (n ∷ ns) (x ∷ more) = (x.0, alone n) ∷ refilled_others ns more

unfilled : (f : Forest) (ns : List Node) → nodes_in f ≡ [] → refilled ns f ≡ f
unfilled none ns e = refl
unfilled (token i rest) ns e = ap (token i) (unfilled rest ns e)
unfilled (node l first under rest) ns e = absurd (let long : suc (length (nodes_in rest)) ≡ 0 = ap length e in omega (arith, long))

pub unshuffled : (order : List ℕ) (f : Forest) → nodes_in f ≡ [] → shuffled order f ≡ f
unshuffled order f e = unfilled f (picked_nodes order (nodes_in f)) e

pub nodes-joined : (f g : Forest) → nodes_in (joined f g) ≡ nodes_in f ++ nodes_in g
nodes-joined none g = refl
nodes-joined (token i rest) g = nodes-joined rest g
nodes-joined (node l first under rest) g = ap (λ (ns : List Node). record { label = l; first = first; under = under } ∷ ns) (nodes-joined rest g)

-- ---- Items behind their commas

module _ (tail : Forest) (last : nodes_in tail ≡ []) where
  abbrev behind : Others → Forest
  behind more = joined (others_of more) tail

  behind-cons : (x : ℕ × Forest) (more : Others) (n : Node) → x.1 ≡ alone n → behind (x ∷ more) ≡ token x.0 (node n.label n.first n.under (behind more))
  behind-cons x more n e = ap (λ f. token x.0 (joined (joined f (others_of more)) tail)) e

  refilled-others : (more : Others) (ns : List Node) → AllNodes more → length ns ≡ length more → refilled ns (behind more) ≡ behind (refilled_others ns more)
  refilled-others [] ns h e = unfilled tail ns last
  refilled-others (x ∷ more) [] h e = absurd (omega (arith, e))
  refilled-others (x ∷ more) (n ∷ ns) h e =
      ap (refilled (n ∷ ns)) (behind-cons x more h.0.0 h.0.1)
      ∙ ap (λ f. token x.0 (node n.label n.first n.under f)) (refilled-others more ns h.1 (omega (arith, e)))

  nodes-others : (more : Others) → AllNodes more → map alone (nodes_in (behind more)) ≡ map (λ (x : ℕ × Forest). x.1) more
  nodes-others [] h = ap (map alone) last
  nodes-others (x ∷ more) h =
      ap (λ f. map alone (nodes_in f)) (behind-cons x more h.0.0 h.0.1)
      ∙ (ap (λ (fs : List Forest). alone h.0.0 ∷ fs) (nodes-others more h.1) ∙ ap (λ (f : Forest). f ∷ map (λ (y : ℕ × Forest). y.1) more) (sym h.0.1))

others-refilled : (more : Others) (ns : List Node) → length ns ≡ length more → map alone ns ≡ map (λ (x : ℕ × Forest). x.1) (refilled_others ns more)
others-refilled [] [] e = refl
others-refilled [] (n ∷ ns) e = absurd (omega (arith, e))
others-refilled (x ∷ more) [] e = absurd (omega (arith, e))
others-refilled (x ∷ more) (n ∷ ns) e = ap (λ (fs : List Forest). alone n ∷ fs) (others-refilled more ns (omega (arith, e)))

commas-refilled : (class_of : ℕ → Class) (more : Others) (ns : List Node) → AreCommas class_of more → AreCommas class_of (refilled_others ns more)
commas-refilled class_of [] ns h = tt
commas-refilled class_of (x ∷ more) [] h = h
commas-refilled class_of (x ∷ more) (n ∷ ns) h = (h.0, commas-refilled class_of more ns h.1)

-- ---- The list

-- a list in the new order
pub record InOrder (class_of : ℕ → Class) (order : List ℕ) (first : Forest) (more : Others) (tail : Forest) : Type 0 where
  pub other : Forest
  pub others : Others
  pub same : shuffled order (listed_with first more tail) ≡ listed_with other others tail
  pub moved : IsPermutation (items_in first more) (items_in other others)
  pub commas : AreCommas class_of others

module _ (class_of : ℕ → Class) (order : List ℕ) (first : Forest) (more : Others) (tail : Forest) (last : nodes_in tail ≡ []) (one : IsNode first) (all : AllNodes more)
    (commas : AreCommas class_of more) where
  abbrev whole : Forest
  whole = listed_with first more tail

  abbrev opened : Forest
  opened = node one.0.label one.0.first one.0.under (joined (others_of more) tail)

  whole-is : whole ≡ opened
  whole-is = ap (λ f. joined f (joined (others_of more) tail)) one.1

  items-are : map alone (nodes_in opened) ≡ items_in first more
  items-are = ap (λ (fs : List Forest). alone one.0 ∷ fs) (nodes-others tail last more all) ∙ ap (λ (f : Forest). f ∷ map (λ (x : ℕ × Forest). x.1) more) (sym one.1)

  as-long : suc (length more) ≡ length (nodes_in opened)
  as-long = sym (sym (length-map (nodes_in opened) alone) ∙ (ap length items-are ∙ ap suc (length-map more (λ (x : ℕ × Forest). x.1))))

  filled : (ns : List Node) → length ns ≡ suc (length more) → refilled ns opened ≡ shuffled order opened → IsPermutation (nodes_in opened) ns → InOrder class_of order first more tail
  filled [] e same moved = absurd (omega (arith, e))
  filled (n ∷ ns) e same moved =
      let few : length ns ≡ length more = omega (arith, e) in record {
        other = alone n;
        others = refilled_others ns more;
        same = ap (shuffled order) whole-is ∙ (sym same ∙ ap (node n.label n.first n.under) (refilled-others tail last more ns all few));
        moved = subst (λ fs. IsPermutation fs (alone n ∷ map (λ (x : ℕ × Forest). x.1) (refilled_others ns more))) items-are
            (subst (λ fs. IsPermutation (map alone (nodes_in opened)) fs) (ap (λ (fs : List Forest). alone n ∷ fs) (others-refilled more ns few))
            (IsPermutation-map alone (nodes_in opened) (n ∷ ns) moved));
        commas = commas-refilled class_of more ns commas;
      }

  pub in_new_order : IsOrder (length order) order → (length (nodes_in whole) ≡ length order) ⊎ (length (nodes_in whole) ≡ 0) → InOrder class_of order first more tail
  in_new_order is (inr few) =
      absurd (let long : suc (length (nodes_in (joined (others_of more) tail))) ≡ 0 = sym (ap (λ f. length (nodes_in f)) whole-is) ∙ few in omega (arith, long))
  in_new_order is (inl many) =
      let ns : List Node = picked_nodes order (nodes_in opened) in
      let many' : length (nodes_in opened) ≡ length order = sym (ap (λ f. length (nodes_in f)) whole-is) ∙ many in
      let long : length ns ≡ length order = length-map order (λ k. get_or (nodes_in opened) (k - 1) no_node) in
      filled ns (long ∙ (sym many' ∙ sym as-long)) refl (nodes_permute order (nodes_in opened) (subst (λ k. IsOrder k order) (sym many') is))
