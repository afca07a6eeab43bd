use Rattle.std.proofs.Common.{◌≡◌, ◌-◌, ◌≤◌, ◌++◌, length}
use Rattle.line_shape.specs.Items.{items_of}
use Rattle.line_shape.specs.Walk.{rest_items}
use Rattle.line_shape.proofs.walk.shape.Given as goal

abbrev pub invariant-items : goal.invariant-items
invariant-items l = record {
  rest : l.items.items ++ rest_items l.toks l.text.firsts l.from ≡ items_of l.toks l.text.firsts;
  within : l.from ≤ length l.toks;
}

abbrev pub decreases-items : goal.decreases-items
decreases-items l = length l.toks - l.from
