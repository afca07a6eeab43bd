use Rattle.std.proofs.Common.{◌≡◌, ℕ, List, take}
use Rattle.unit_steps.specs.Names.{spelled_in}
use Rattle.unit_steps.proofs.first_names.FirstNames.of.Given as goal

abbrev pub invariant-loop-tok : goal.invariant-loop-tok
invariant-loop-tok l = (text : List ℕ) → spelled_in l.names text ≡ spelled_in (take l.tok-index l.toks) text
