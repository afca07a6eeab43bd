use Rattle.std.proofs.Common.{◌≡◌, ℕ, ◌≤◌, ◌++◌, drop, length, vec_len, Some}
use Rattle.std.specs.Prelude.{slice_get, vec_capacity}
use Rattle.eclass_map.specs.declared.token_list.Added.{Added}
use Rattle.eclass_map.specs.Settled.{no_text, settled}
use Rattle.eclass_map.proofs.token_list.settle.Given as goal

abbrev pub invariant-loop-index : goal.invariant-loop-index
invariant-loop-index l = record {
  rest : l.all.items ++ settled l.numbers l.from l.to (drop l.index l.tokens) ≡ settled l.numbers no_text 0 l.tokens;
  long : vec_len l.all ≡ l.index;
  room : length l.tokens ≤ vec_capacity l.all;
  behind : (k : ℕ) (r : Added) → l.index ≤ k → slice_get l.tokens k ≡ Some r → l.from.file ≡ r.place.start.file → l.from.at ≤ r.place.start.at;
}
