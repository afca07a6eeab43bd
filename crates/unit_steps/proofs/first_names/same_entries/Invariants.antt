use Rattle.std.proofs.Common.{◌≡◌, ◌++◌}
use Rattle.unit_steps.specs.FirstNames.{rows_of}
use Rattle.unit_steps.proofs.first_names.same_entries.Given as goal

abbrev pub invariant-loop-text : goal.invariant-loop-text
invariant-loop-text l = rows_of (λ k. k.items) l.all.entries ++ rows_of (λ k. k.items) l.text-iterator ≡ rows_of (λ k. k.items) l.names.entries
