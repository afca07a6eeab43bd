use Rattle.std.proofs.Common.{◌≡◌, drop}
use Rattle.template_meaning.specs.Compared.{bytes_for}
use Rattle.template_plan.proofs.second.bytes_for.Given as goal

abbrev pub invariant-loop-k : goal.invariant-loop-k
invariant-loop-k l = bytes_for l.path (drop l.k l.edits) ≡ bytes_for l.path l.edits
