use Rattle.std.proofs.Common.{◌-◌, ◌≤◌, take}
use Rattle.std.specs.List.{flat_map}
use Rattle.cs_base.specs.declared.causes.Cause.TheVariants as cause
use Rattle.list_cuts.specs.Cuts.{numbers}
use Rattle.offences.specs.First.{standing, FirstThen}
use Rattle.template_rules.specs.LineOffences.{odd_positions}
use Rattle.template_rules.specs.OddLines.{odds_by_token}
use Rattle.template_rules.proofs.odd_tokens.odd_by_tokens.Given as goal

abbrev pub invariant-loop-k : goal.invariant-loop-k
invariant-loop-k l =
    (l.begin ≤ l.k)
    × FirstThen l.a.value.table (standing cause.OddToken (flat_map (odds_by_token l.a.value.table (odd_positions l.a.value.table) l.toks) (take (l.k - l.begin) (numbers l.begin (l.close - l.begin))))) l.initial.now l.now
