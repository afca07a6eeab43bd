use Rattle.std.proofs.Common.{◌≡◌, false, take}
use Rattle.std.specs.List.{list_any}
use Rattle.unnamed_places.specs.Unnamed.{is_name_over}
use Rattle.unnamed_places.proofs.steps.any_over.Given as goal

abbrev pub invariant-loop-tok : goal.invariant-loop-tok
invariant-loop-tok l = list_any (is_name_over l.p) (take l.tok-index l.toks) ≡ false
