use Rattle.std.proofs.Common.{◌≡◌, ◌+◌, ◌-◌, ◌≤◌, length, drop}
use Rattle.class_labels.specs.Labels.{joined, joined_parts}
use Rattle.eclass_map.specs.Positions.{numbers, Begins}
use Rattle.class_labels.specs.Walk.{AtPlace, Forced}
use Rattle.eclass_map.proofs.class_table.join_characters.Given as goal

abbrev pub invariant-loop-at : goal.invariant-loop-at
invariant-loop-at g l = record {
  rest : joined 0 (drop l.at (numbers l.tokens l.x.origins)) (drop l.at (numbers l.tokens l.y.origins)) l.labels ≡ joined 0 (numbers l.tokens l.x.origins) (numbers l.tokens l.y.origins) l.initial.labels;
  ticks : l.steps + joined_parts 0 (drop l.at (numbers l.tokens l.x.origins)) (drop l.at (numbers l.tokens l.y.origins)) l.labels ≡ l.initial.steps + joined_parts 0 (numbers l.tokens l.x.origins) (numbers l.tokens l.y.origins) l.initial.labels;
  place : AtPlace (Begins l.tokens) (Forced (numbers l.tokens l.x.origins) (numbers l.tokens l.y.origins) l.initial.labels) (length l.initial.labels.spots) 0 (drop l.at (numbers l.tokens l.x.origins)) (drop l.at (numbers l.tokens l.y.origins)) l.labels;
  within : l.at ≤ length l.x.origins;
}

abbrev pub decreases-loop-at : goal.decreases-loop-at
decreases-loop-at g l = l.len - l.at
