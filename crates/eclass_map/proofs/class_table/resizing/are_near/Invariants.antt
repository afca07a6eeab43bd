use Rattle.std.proofs.Common.{ℕ, ◌<◌, ◌≡◌, Some}
use Rattle.std.specs.Prelude.{slice_get}
use Rattle.eclass_map.specs.declared.token_list.Added.{Added}
use Rattle.eclass_map.specs.Resized.{IsNear}
use Rattle.eclass_map.proofs.class_table.resizing.are_near.Given as goal

abbrev pub invariant-loop-token : goal.invariant-loop-token
invariant-loop-token l = (j : ℕ) (r : Added) → j < l.token-index → slice_get l.tokens j ≡ Some r → IsNear l.more r
