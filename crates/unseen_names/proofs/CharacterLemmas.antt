-- Marks on characters that are set one after another.
use Rattle.std.proofs.Common.{◌≡◌, ℕ, ◌+◌, ◌<◌, ◌≤◌, Bool, false, ◌||◌, List, [], Some, length, get_or, take, slice_get, sym, ap, subst, ◌∙◌, arith}
use Rattle.std.specs.List.{list_any}
use Rattle.std.proofs.Math.Bool.{or_assoc, or-false}
use Rattle.std.proofs.lemmas.List.{take_all}
use Rattle.std.proofs.lemmas.List.Folds.{list_any_more}
use Rattle.std.proofs.lemmas.Option.{slice_get_within, get_or_from_slice_get}
use Rattle.cs_base.specs.declared.positions.Part.{Part}
use Rattle.cs_base.specs.declared.positions.Pos.{Pos}
use Rattle.unseen_names.specs.Characters.{is_marked, Adds, AnyMarked, HoldsMark}

-- ---- parts

pub not_here : (marks : List (List Bool)) (parts : List Part) (k : ℕ) (d : Part) → (HoldsMark marks (get_or parts k d) → ⊥)
    → (x : Part) → slice_get parts k ≡ Some x → HoldsMark marks x → ⊥
not_here marks parts k d none x at holds = none (subst (HoldsMark marks) (sym (get_or_from_slice_get parts k x d at)) holds)

pub nowhere : (marks : List (List Bool)) (parts : List Part) (k : ℕ) → length parts ≤ k
    → ((j : ℕ) → j < k → (x : Part) → slice_get parts j ≡ Some x → HoldsMark marks x → ⊥) → AnyMarked marks parts → ⊥
nowhere marks parts k past none some =
    let within = slice_get_within parts some.number some.part some.at in
    none some.number (omega (arith, within, past)) some.part some.at some.holds

-- ---- several

-- marks that begin blank
pub from_blank : (test : Pos → Bool) (blank new : List (List Bool)) → blank ≡ [] → Adds test blank new → (p : Pos) → is_marked new p ≡ test p
from_blank test blank new is adds p = adds.each p ∙ ap (λ (ms : List (List Bool)). is_marked ms p || test p) is

pub adds_none : (test : Pos → Bool) (marks : List (List Bool)) → ((p : Pos) → test p ≡ false) → Adds test marks marks
adds_none test marks none = record { each = λ p. sym (or-false (is_marked marks p)) ∙ ap (λ (b : Bool). is_marked marks p || b) (sym (none p)) }

pub adds_same : (test other : Pos → Bool) (old new : List (List Bool)) → Adds test old new → ((p : Pos) → test p ≡ other p) → Adds other old new
adds_same test other old new adds same = record { each = λ p. adds.each p ∙ ap (λ (b : Bool). is_marked old p || b) (same p) }

pub adds_both : (test other : Pos → Bool) (old mid new : List (List Bool)) → Adds test old mid → Adds other mid new
    → Adds (λ p. test p || other p) old new
adds_both test other old mid new first second = record {
  each = λ p.
      second.each p ∙ ap (λ (b : Bool). b || other p) (first.each p) ∙ or_assoc (is_marked old p) (test p) (other p);
}

-- one element of a list more
pub adds_more : {X : Type 0} (test : Pos → X → Bool) (xs : List X) (k : ℕ) (d : X) (old mid new : List (List Bool)) → k < length xs
    → Adds (λ p. list_any (test p) (take k xs)) old mid → Adds (λ p. test p (get_or xs k d)) mid new
    → Adds (λ p. list_any (test p) (take (k + 1) xs)) old new
adds_more {X = X} test xs k d old mid new within before here =
    adds_same (λ p. list_any (test p) (take k xs) || test p (get_or xs k d)) (λ p. list_any (test p) (take (k + 1) xs)) old new
    (adds_both (λ p. list_any (test p) (take k xs)) (λ p. test p (get_or xs k d)) old mid new before here)
    (λ p. sym (list_any_more (test p) xs k d within))

pub adds_all : {X : Type 0} (test : Pos → X → Bool) (xs : List X) (k : ℕ) (old new : List (List Bool)) → length xs ≤ k
    → Adds (λ p. list_any (test p) (take k xs)) old new → Adds (λ p. list_any (test p) xs) old new
adds_all {X = X} test xs k old new past adds =
    adds_same (λ p. list_any (test p) (take k xs)) (λ p. list_any (test p) xs) old new adds
    (λ p. ap (λ (ys : List X). list_any (test p) ys) (take_all k xs past))
