use Rattle.std.proofs.Common.{Some, None}
use Rattle.offences.proofs.FirstLemmas.{then_none}
use Rattle.template_rules.specs.LineOffences.{odd_positions}
use Rattle.template_rules.proofs.LineOddsLemmas.{are_placed, odds_first}
use Rattle.template_rules.proofs.odd_tokens.odd_among.Goals as goal

pub first_among-requires : goal.first_among-requires
first_among-requires c =
    let table = c.args.a.now.value.table in
    are_placed table (odd_positions table) c.args.lines.now c.requires

pub returns-in-Some : goal.returns-in-Some
returns-in-Some c =
    let table = c.args.a.now.value.table in
    odds_first table (odd_positions table) c.args.lines.now c.requires c.args.from c.args.to (Some c.in-Some.p) c.args.first c.first_with.result
    c.in-Some.ensures c.first_with.ensures

pub returns-in-None : goal.returns-in-None
returns-in-None c =
    let table = c.args.a.now.value.table in
    odds_first table (odd_positions table) c.args.lines.now c.requires c.args.from c.args.to None c.args.first c.args.first
    c.in-None.ensures (then_none table c.args.first)
