use Rattle.offences.specs.Class.{class_over}
use Rattle.template_rules.proofs.FunctionLemmas.{AreBefore}
use Rattle.template_rules.proofs.functions.named_functions.Given as goal

abbrev pub invariant-loop-k : goal.invariant-loop-k
invariant-loop-k l = AreBefore (class_over l.all l.members) l.units.items l.k
