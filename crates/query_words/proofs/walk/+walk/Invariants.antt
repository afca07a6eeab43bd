use Rattle.std.proofs.Common.{◌+◌, ◌*◌, ◌≤◌, length}
use Rattle.query_words.specs.Queries.{Both, Either}
use Rattle.query_words.specs.Reading.{both, either, enclosed, negation, ampersand, bar}
use Rattle.query_words.proofs.WalkLemmas.{GoesOn}
use Rattle.query_words.proofs.walk.+walk.Given as goal

-- What may still be open counts most: a procedure calls those with a smaller number.
abbrev pub decreases-either : goal.decreases-either
decreases-either l = 8 * l.room + 4

abbrev pub decreases-both : goal.decreases-both
decreases-both l = 8 * l.room + 3

abbrev pub decreases-negation : goal.decreases-negation
decreases-negation l = 8 * l.room + 2

abbrev pub decreases-enclosed : goal.decreases-enclosed
decreases-enclosed l = 8 * l.room + 1

-- The signs that are left give what all of them give.
abbrev pub invariant-either-loop-sign : goal.invariant-either-loop-sign
invariant-either-loop-sign l =
    record {
      rest : GoesOn Either bar (both (enclosed l.text l.room) l.text) l.text l._sign l.fn.steps.items l.steps.items l.next (either (enclosed l.text l.room) l.text l.at);
      within : l.next ≤ length l.text;
    }

abbrev pub invariant-both-loop-sign : goal.invariant-both-loop-sign
invariant-both-loop-sign l =
    record {
      rest : GoesOn Both ampersand (negation (enclosed l.text l.room) l.text) l.text l._sign l.fn.steps.items l.steps.items l.next (both (enclosed l.text l.room) l.text l.at);
      within : l.next ≤ length l.text;
    }
