use Rattle.std.proofs.Common.{◌≡◌, ℕ, ◌<◌, false}
use Rattle.eclass_map.specs.Positions.{along}
use Rattle.unseen_names.specs.Characters.{is_marked}
use Rattle.unseen_names.proofs.characters.holds_mark.Given as goal

abbrev pub invariant-loop-k : goal.invariant-loop-k
invariant-loop-k l = (o : ℕ) → o < l.k → is_marked l.marks (along l.part.start o) ≡ false
