use Rattle.std.proofs.Common.{◌≡◌, ◌+◌, ◌-◌, ◌≤◌, ◌++◌, replicate, vec_len}
use Rattle.std.specs.Vec.{vec_capacity}
use Rattle.eclass_map.proofs.file_hints.add_hints.Given as goal

abbrev pub invariant-loop : goal.invariant-loop
invariant-loop l = record {
  items : l.files.items ≡ l.initial.files.items ++ replicate l.counter l.index;
  room : vec_len l.files + (l.more - l.counter) ≤ vec_capacity l.files;
}
