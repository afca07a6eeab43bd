use Rattle.std.proofs.Common.{◌≡◌, Some}
use Rattle.std.specs.Prelude.{IfSome, slice_get}
use Rattle.include_tree.specs.declared.fronts.Front.{Front}
use Rattle.include_tree.specs.Fronts.{Fits}
use Rattle.include_tree.proofs.fronts.Fronts.place.Given as goal

abbrev pub invariant-loop-k : goal.invariant-loop-k
invariant-loop-k l = IfSome l.best (λ f. (front : Front) × (slice_get l.self.all.items f ≡ Some front) × Fits l.unit l.pseudo l.leads l.most front)
