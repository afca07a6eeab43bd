use Rattle.std.proofs.Common.{◌≡◌, ◌++◌, drop}
use Rattle.part_respell.specs.Respelled.{spelled, spelled_from}
use Rattle.rename_rules.proofs.spelling.spelled.Given as goal

abbrev pub invariant-loop-k : goal.invariant-loop-k
invariant-loop-k l = l.out.items ++ spelled_from l.class.members l.name (drop l.k l.tok.origins) (drop l.k l.tok.text) ≡ spelled l.class.members l.name l.tok
