use Rattle.std.proofs.Common.{◌≡◌, [], take}
use Rattle.query_words.specs.Steps.{run}
use Rattle.query_words.proofs.compiled.Compiled.satisfied.Given as goal

-- The steps so far made this row.
abbrev pub invariant-loop-step : goal.invariant-loop-step
invariant-loop-step l = l.room.values.items ≡ run l.facts l.spelling (take l.step-index l.self.steps.items) []
