use Rattle.trim_rules.specs.Defining.{names_for_others}
use Rattle.trim_rules.specs.Walks.{IsPast}
use Rattle.trim_rules.proofs.DefiningLemmas.{AreMarks}
use Rattle.trim_rules.proofs.defining.defining.Given as goal

abbrev pub invariant-loop-k : goal.invariant-loop-k
invariant-loop-k l = AreMarks (names_for_others l.tree.under l.bound.names l.bound.functions) l.k l.marks.items × IsPast l.tree.under l.child l.k
