use Rattle.std.proofs.Common.{◌≡◌, ◌+◌, ◌*◌, ◌-◌, ◌<◌, ◌≤◌, length}
use Rattle.cond_eval.specs.Walk.{Part, walk_rest, walk_binary, walk_enclosed}
use Rattle.cond_eval.proofs.walk.+walk.Given as goal

-- What may still open counts most, then the level: a procedure calls those with a smaller number.
abbrev pub decreases-conditional : goal.decreases-conditional
decreases-conditional l = 32 * l.room + 25

abbrev pub decreases-branches : goal.decreases-branches
decreases-branches l = 32 * l.room + 3

abbrev pub decreases-binary : goal.decreases-binary
decreases-binary l = 32 * l.room + 2 * l.level + 4

abbrev pub decreases-joined : goal.decreases-joined
decreases-joined l = 32 * l.room + 2 * l.level + 5

abbrev pub decreases-operand : goal.decreases-operand
decreases-operand l = 32 * l.room + 3

abbrev pub decreases-signed_operand : goal.decreases-signed_operand
decreases-signed_operand l = 32 * l.room + 2

abbrev pub decreases-enclosed_expression : goal.decreases-enclosed_expression
decreases-enclosed_expression l = 32 * l.room + 1

abbrev pub decreases-enclosed_operand : goal.decreases-enclosed_operand
decreases-enclosed_operand l = 32 * l.room + 1

-- The operators that are left give what all of them give.
abbrev pub invariant-binary-operands : goal.invariant-binary-operands
invariant-binary-operands l =
    let part : Part = walk_binary (walk_enclosed l.toks l.room) l.toks (l.level - 1) in
    record {
      rest : walk_rest part l.toks l.live l.level l.left ≡ walk_rest part l.toks l.live l.level l.initial.left;
      before : l.at < l.left.next;
      inside : l.left.next ≤ length l.toks;
    }

abbrev pub decreases-binary-operands : goal.decreases-binary-operands
decreases-binary-operands l = length l.toks - l.left.next
