use Rattle.std.proofs.Common.{◌≡◌, ◌≤◌, ◌++◌, drop, length, vec_len}
use Rattle.std.specs.Prelude.{vec_capacity}
use Rattle.class_labels.specs.Regrown.{place, regrown_links}
use Rattle.class_labels.proofs.regrowth.new_links.Given as goal

abbrev pub invariant-loop-index : goal.invariant-loop-index
invariant-loop-index l = record {
  rest : l.all.items ++ regrown_links l.class l.len l.numbers (drop l.index l.spots) (drop l.index l.nexts) ≡ regrown_links l.class l.len l.numbers l.spots l.nexts;
  long : vec_len l.all ≡ place l.class l.len l.spots l.index;
  room : place l.class l.len l.spots (length l.spots) ≤ vec_capacity l.all;
}
