use Rattle.std.proofs.Common.{◌+◌, ◌-◌, ◌≤◌, ◌<◌, arith}
use Rattle.cs_base.specs.declared.causes.Cause.TheVariants as cause
use Rattle.template_rules.specs.LineOffences.{odd_positions}
use Rattle.template_rules.specs.OddLines.{odds_by_token}
use Rattle.template_rules.proofs.NumberLemmas.{then_number, then_numbers, then_first_number}
use Rattle.template_rules.proofs.odd_tokens.odd_by_tokens.Goals as goal

pub loop-k-init : goal.loop-k-init
loop-k-init c =
    let table = c.args.a.now.value.table in (
      omega arith,
      then_first_number table cause.OddToken (odds_by_token table (odd_positions table) c.args.toks.now) c.args.begin (c.args.close - c.args.begin) c.args.first,
    )

pub loop-k-preserved : goal.loop-k-preserved
loop-k-preserved c =
    let table = c.args.a.now.value.table in
    let low : c.args.begin ≤ c.loop-k.k = c.loop-k.invariant.0 in
    let high : c.loop-k.k < c.args.begin + (c.args.close - c.args.begin) = omega (arith, low, c.loop-k-test.true) in (
      omega (arith, low),
      then_number table cause.OddToken (odds_by_token table (odd_positions table) c.args.toks.now) c.args.begin (c.args.close - c.args.begin) c.loop-k.k
          c.args.first c.loop-k.now c.odd_by_token-now.result low high c.loop-k.invariant.1 c.odd_by_token-now.ensures,
    )

pub returns : goal.returns
returns c =
    let table = c.args.a.now.value.table in
    let low : c.args.begin ≤ c.loop-k.k = c.loop-k.invariant.0 in
    then_numbers table cause.OddToken (odds_by_token table (odd_positions table) c.args.toks.now) c.args.begin (c.args.close - c.args.begin) c.loop-k.k
    c.args.first c.loop-k.now (omega (arith, low, c.loop-k-test.false)) c.loop-k.invariant.1
