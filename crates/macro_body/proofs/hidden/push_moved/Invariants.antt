use Rattle.std.proofs.Common.{◌≡◌, ◌++◌, map, take}
use Rattle.macro_body.specs.Substitution.{moved_in}
use Rattle.macro_body.proofs.hidden.push_moved.Given as goal

abbrev pub invariant-loop-h : goal.invariant-loop-h
invariant-loop-h l = l.all.items ≡ l.initial.all.items ++ map moved_in (take l.h-index l.argument)
