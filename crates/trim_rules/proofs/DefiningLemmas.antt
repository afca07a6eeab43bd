-- Which tokens of a unit name what other units may use.
use Rattle.std.proofs.Common.{◌≡◌, ℕ, ◌+◌, ◌<◌, ◌≤◌, ◌&&◌, ◌||◌, not, Bool, true, false, cond, nat_lt, List, [], ◌∷◌, ◌++◌, length, get_or, refl, sym, ap, subst, ◌∙◌, inl, inr, arith, length-append}
use Rattle.std.specs.Prelude.{MatchBool}
use Rattle.std.proofs.lemmas.Bool.Decides.{nat_tests}
use Rattle.std.proofs.lemmas.List.{get_or_append_left, get_or_past}
use Rattle.std.proofs.Math.Seq.{get_or-append_seam}
use Rattle.analysis.specs.Below.c99_tree.declared.production.Label.{Label}
use Rattle.analysis.specs.Below.c99_tree.Tree.{Forest, none, token, node}
use Rattle.c_types.specs.Children.{from_child}
use Rattle.trim_rules.specs.Defining.{goes_behind, only_declares, only_declared}
use Rattle.trim_rules.specs.Walks.{front_declares, is_marked, IsPast, IsOver, IsBefore}
use Rattle.trim_rules.proofs.NumberLemmas.{less-or-not}

-- a child that does not begin behind a token does not begin behind a later one
behind-later : (k j : ℕ) (f : Forest) → k ≤ j → goes_behind k f ≡ false → goes_behind j f ≡ false
behind-later k j none le h = absurd (cc)
behind-later k j (token i rest) le h = behind-later k j rest le h
behind-later k j (node l first under rest) le h = grind (arith, nat_tests, le, h)

module _ (tree : Forest) (child k : ℕ) where
  -- no child, or a token
  pub before-end : from_child child tree ≡ from_child (child + 1) tree → IsBefore tree child k
  before-end same j le = ap (only_declared j) (sym same)

  pub before-token : (i : ℕ) → from_child child tree ≡ token i (from_child (child + 1) tree) → IsBefore tree child k
  before-token i here j le = sym (ap (only_declared j) here)

  -- a node
  pub over-node : (l : Label) (first : ℕ) (under : Forest) → from_child child tree ≡ node l first under (from_child (child + 1) tree) → (b : Bool)
      → b ≡ goes_behind k (from_child (child + 1) tree) → MatchBool b (IsOver tree child k) (IsBefore tree child k)
  over-node l first under here true is =
      let rest = from_child (child + 1) tree in
      ap (only_declared k) here ∙ ap (λ (b : Bool). cond b (only_declares under) (only_declared k rest)) (sym is) ∙ sym (ap front_declares here)
  over-node l first under here false is = λ j le.
      let rest = from_child (child + 1) tree in
      let later : goes_behind j rest ≡ false = behind-later k j rest le (sym is) in
      sym (ap (only_declared j) here ∙ ap (λ (b : Bool). cond b (only_declares under) (only_declared j rest)) later)

  pub past-next : IsPast tree child k → IsBefore tree child k → IsPast tree (child + 1) k
  past-next past before j le = before j le ∙ past j le

  pub over-end : from_child child tree ≡ none → IsOver tree child k
  over-end empty = ap (only_declared k) empty ∙ sym (ap front_declares empty)

  -- what stands over the token
  pub over-declares : IsPast tree child k → IsOver tree child k → (b : Bool) → b ≡ front_declares (from_child child tree) → not b ≡ not (only_declared k tree)
  over-declares past over b is = ap not (is ∙ sym over ∙ past k (omega arith))

  pub past-later : IsPast tree child k → IsPast tree child (k + 1)
  past-later past j le = past j (omega (arith, le))

pub past-begin : (tree : Forest) → IsPast tree 0 0
past-begin tree j le = refl

-- ---- marks, one behind another

pub record AreMarks (is : ℕ → Bool) (k : ℕ) (marks : List Bool) : Type 0 where
  pub many : length marks ≡ k
  pub each : (j : ℕ) → j < k → is_marked marks j ≡ is j

pub marks-begin : (is : ℕ → Bool) (marks : List Bool) → marks ≡ [] → AreMarks is 0 marks
marks-begin is marks empty = record { many = ap length empty; each = λ j below. absurd (omega (arith, below)) }

pub marks-next : (is : ℕ → Bool) (k : ℕ) (old new : List Bool) (b : Bool) → AreMarks is k old → new ≡ old ++ b ∷ [] → b ≡ is k → AreMarks is (k + 1) new
marks-next is k old new b h more told = record {
  many = ap length more ∙ length-append old (b ∷ []) ∙ ap (λ (n : ℕ). n + 1) h.many;
  each = λ j below. elim (less-or-not j k) [
    | inl less ↦
        let here : j < k = less.1 in
        ap (λ (ms : List Bool). get_or ms j false) more ∙ get_or_append_left old (b ∷ []) false j (omega (arith, here, h.many)) ∙ h.each j here
    | inr past ↦
        let same : length old ≡ j = omega (arith, past.1, below, h.many) in
        let last : get_or (old ++ b ∷ []) j false ≡ b = subst (λ (n : ℕ). get_or (old ++ b ∷ []) n false ≡ b) same (get_or-append_seam old b [] false) in
        let own : k ≡ j = omega (arith, same, h.many) in
        ap (λ (ms : List Bool). get_or ms j false) more ∙ last ∙ told ∙ ap is own
  ];
}

pub marks-all : (is : ℕ → Bool) (k count : ℕ) (marks : List Bool) → k ≡ count → AreMarks is k marks → (j : ℕ) → is_marked marks j ≡ (nat_lt j count && is j)
marks-all is k count marks all h j = elim (less-or-not j count) [
  | inl less ↦ rw less.0 (h.each j (omega (arith, less.1, all)))
  | inr past ↦ rw past.0 (get_or_past marks j false (omega (arith, past.1, all, h.many)))
]
