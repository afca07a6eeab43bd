use Rattle.analysis.specs.Listing.{AreListed}
use Rattle.analysis.proofs.class_lists.lists.Given as goal

abbrev pub invariant-loop-class : goal.invariant-loop-class
invariant-loop-class l = AreListed l.a l.classes l.class l.lists
