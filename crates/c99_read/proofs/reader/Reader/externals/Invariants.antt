use Rattle.std.proofs.Common.{◌≡◌}
use Rattle.c99_tree.specs.Tree.{Forest}
use Rattle.c99_read.specs.Fronts.{behind_children, IsSameNode}
use Rattle.c99_read.specs.Reading.{tokens_left}
use Rattle.c99_read.proofs.FrontLemmas.{left}
use Rattle.c99_read.proofs.reader.Reader.externals.Given as goal

-- what is left is read as from the beginning, behind whatever children
abbrev pub invariant-turns : goal.invariant-turns
invariant-turns l =
    (l.self.dialect ≡ l.dialect)
    × ((f : Forest) → left l.dialect (behind_children f l.self.state) ≡ left l.dialect (behind_children f l.fn.self.state))
    × IsSameNode l.fn.self.state.built l.self.state.built

abbrev pub decreases-turns : goal.decreases-turns
decreases-turns l = tokens_left l.self.state
