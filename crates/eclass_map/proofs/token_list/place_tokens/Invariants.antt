use Rattle.std.proofs.Common.{◌≡◌, ℕ, ◌+◌, ◌<◌, length, Some}
use Rattle.std.specs.Prelude.{slice_get}
use Rattle.eclass_map.specs.declared.token_list.Added.{Added}
use Rattle.eclass_map.specs.Positions.{along}
use Rattle.eclass_map.proofs.token_list.place_tokens.Given as goal

abbrev pub invariant-loop-index : goal.invariant-loop-index
invariant-loop-index l = record {
  long : length l.places.items ≡ l.count;
  placed : (k : ℕ) (r : Added) (o : ℕ) → k < l.index → slice_get l.tokens k ≡ Some r → o < r.place.len → slice_get l.places.items (r.first + o) ≡ Some (along r.place.start o);
}
