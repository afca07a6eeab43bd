use Rattle.std.proofs.Common.{◌≡◌, ◌++◌, take}
use Rattle.std.specs.List.{flat_map}
use Rattle.unseen_names.specs.Unseen.{unseen_line}
use Rattle.unseen_names.proofs.place_lines.push_lines.Given as goal

abbrev pub invariant-loop-place : goal.invariant-loop-place
invariant-loop-place l = l.text.items ≡ l.initial.text.items ++ flat_map (unseen_line l.a.value l.part) (take l.place-index l.places)
