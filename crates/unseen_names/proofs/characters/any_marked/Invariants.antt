use Rattle.std.proofs.Common.{◌≡◌, ℕ, ◌<◌, Some, slice_get}
use Rattle.cs_base.specs.declared.positions.Part.{Part}
use Rattle.unseen_names.specs.Characters.{HoldsMark}
use Rattle.unseen_names.proofs.characters.any_marked.Given as goal

abbrev pub invariant-loop-part : goal.invariant-loop-part
invariant-loop-part l = (k : ℕ) → k < l.part-index → (x : Part) → slice_get l.parts k ≡ Some x → HoldsMark l.marks x → ⊥
