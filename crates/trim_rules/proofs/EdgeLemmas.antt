-- Marks on the tokens of a unit.
use Rattle.std.proofs.Common.{◌≡◌, ℕ, ◌+◌, ◌<◌, ◌≤◌, ◌==◌, ◌&&◌, ◌||◌, Bool, true, false, nat_lt, List, [], ◌∷◌, ◌++◌, Option, Some, None, length, set, get_or, replicate, refl, sym, ap, subst, ◌∙◌, inl, inr, arith}
use Rattle.std.proofs.lemmas.Bool.{cases_Bool, eqb-true, eqb-false}
use Rattle.std.proofs.lemmas.Bool.Decides.{nat_tests}
use Rattle.std.proofs.lemmas.List.{get_or-set_same, get_or-set_other, get_or-replicate, get_or_past}
use Rattle.std.proofs.Math.ListN.{length-set, length-replicate}
use Rattle.analysis.specs.Below.c99_tree.Tree.{Forest, none}
use Rattle.trim_rules.specs.Defining.{begins_node, is_edge}
use Rattle.trim_rules.specs.Walks.{is_first, is_marked, Marks, AreSoFar, AreEdges}
use Rattle.trim_rules.proofs.NumberLemmas.{less-or-not}

-- ---- one mark

pub mark-set : (k : ℕ) (old new : List Bool) → new ≡ set old k true → Marks (Some k) old new
mark-set k old new is = record {
  many = ap length is ∙ length-set old k true;
  each = λ j below. ap (λ (ms : List Bool). get_or ms j false) is ∙ elim (cases_Bool (k == j)) [
    | inl same ↦
        let own : k ≡ j = eqb-true k j same in
        let here : get_or (set old k true) k false ≡ true = get_or-set_same old k true false (omega (arith, own, below)) in
        rw same (subst (λ (i : ℕ). get_or (set old k true) i false ≡ true) own here)
    | inr apart ↦ rw apart (get_or-set_other old k j true false (λ e. absurd (eqb-false k j apart (sym e))))
  ];
}

pub mark-none : (old : List Bool) → Marks None old old
mark-none old = record { many = refl; each = λ j below. refl }

-- ---- all edges

or-swap : (a b c : Bool) → ((a || b) || c) ≡ (b || (a || c))
or-swap true true c = refl
or-swap true false c = refl
or-swap false true c = refl
or-swap false false c = refl

pub edges-begin : (tree : Forest) (count : ℕ) (blank marks : List Bool) → blank ≡ replicate (count + 1) false → Marks (Some count) blank marks
    → AreSoFar tree tree count marks
edges-begin tree count blank marks is m =
    let many : length blank ≡ count + 1 = ap length is ∙ length-replicate (count + 1) false in
    record {
      many = m.many ∙ many;
      each = λ j within.
          let below : j < count + 1 = omega (arith, within) in
          let none : is_marked blank j ≡ false = ap (λ (ms : List Bool). get_or ms j false) is ∙ get_or-replicate (count + 1) j false false below in
          let told : is_marked marks j ≡ ((count == j) || is_marked blank j) = m.each j (omega (arith, many, within)) in
          let here : is_marked marks j ≡ (j == count) = told ∙ ap (λ (b : Bool). (count == j) || b) none ∙ turned j count in
          ap (λ (b : Bool). b || begins_node j tree) here;
    }
  where
    turned : (j count : ℕ) → ((count == j) || false) ≡ (j == count)
    turned j count = grind (arith, nat_tests)

pub edges-next : (tree rest more : Forest) (count : ℕ) (first : Option ℕ) (old new : List Bool) → AreSoFar tree rest count old
    → ((j : ℕ) → begins_node j rest ≡ (is_first j first || begins_node j more)) → Marks first old new → AreSoFar tree more count new
edges-next tree rest more count first old new h step m = record {
  many = m.many ∙ h.many;
  each = λ j within.
      ap (λ (b : Bool). b || begins_node j more) (m.each j (omega (arith, h.many, within)))
      ∙ or-swap (is_first j first) (is_marked old j) (begins_node j more)
      ∙ ap (λ (b : Bool). is_marked old j || b) (sym (step j))
      ∙ h.each j within;
}

pub edges-all : (tree rest : Forest) (count : ℕ) (marks : List Bool) → rest ≡ none → AreSoFar tree rest count marks → AreEdges tree count marks
edges-all tree rest count marks empty h = record {
  each = λ j. elim (less-or-not count j) [
    | inl past ↦ get_or_past marks j false (omega (arith, past.1, h.many)) ∙ sym (no_edge j past.1 (begins_node j tree))
    | inr within ↦
        let all : (is_marked marks j || begins_node j rest) ≡ ((j == count) || begins_node j tree) = h.each j within.1 in
        let here : (is_marked marks j || begins_node j none) ≡ ((j == count) || begins_node j tree) = subst (λ (f : Forest). (is_marked marks j || begins_node j f) ≡ ((j == count) || begins_node j tree)) empty all in
        or-none (is_marked marks j) ∙ here ∙ below j within.1 (begins_node j tree)
  ];
}
  where
    no_edge : (j : ℕ) → count < j → (b : Bool) → ((j == count) || (nat_lt j count && b)) ≡ false
    no_edge j past b = grind (arith, nat_tests, past)

    or-none : (a : Bool) → a ≡ (a || false)
    or-none true = refl
    or-none false = refl

    below : (j : ℕ) → j ≤ count → (b : Bool) → ((j == count) || b) ≡ ((j == count) || (nat_lt j count && b))
    below j within b = grind (arith, nat_tests, within)
