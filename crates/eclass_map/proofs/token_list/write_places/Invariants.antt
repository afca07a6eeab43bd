use Rattle.std.proofs.Common.{◌≡◌, ℕ, ◌+◌, ◌<◌, ◌≤◌, ◌⊎◌, length, Some}
use Rattle.std.specs.Prelude.{slice_get}
use Rattle.eclass_map.specs.Positions.{along}
use Rattle.eclass_map.proofs.token_list.write_places.Given as goal

abbrev pub invariant-loop-offset : goal.invariant-loop-offset
invariant-loop-offset l = record {
  long : length l.places ≡ length l.initial.places;
  placed : (o : ℕ) → o < l.offset → slice_get l.places (l.token.first + o) ≡ Some (along l.token.place.start o);
  others : (i : ℕ) → (i < l.token.first) ⊎ (l.token.first + l.token.place.len ≤ i) → slice_get l.places i ≡ slice_get l.initial.places i;
}
