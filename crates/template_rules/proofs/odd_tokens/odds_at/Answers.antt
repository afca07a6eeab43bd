use Rattle.std.proofs.Common.{[]}
use Rattle.std.specs.Prelude.{cond}
use Rattle.template_rules.specs.LineOffences.{odd_positions}
use Rattle.template_rules.specs.OddLines.{odds_among_list, odds_by_list}
use Rattle.template_rules.proofs.LineOddsLemmas.{odds_told, then_places}
use Rattle.template_rules.proofs.odd_tokens.odds_at.Goals as goal

pub returns : goal.returns
returns c =
    let table = c.args.a.now.value.table in
    let odds = odd_positions table in
    let text = c.args.unit.now.text.now in
    let l = c.args.list.now in
    let direct = c.is_whole.result in
    odds_told table odds text l direct c.args.first c.odd_inside.result c.is_whole.ensures
    (then_places table (odds_by_list table odds text.toks l) (cond direct (odds_among_list table odds text.toks l) []) c.args.first c.odd_by_list-now.result
    c.odd_inside.result (rw c.toks-toks.ensures at c.odd_by_list-now.ensures) (rw c.toks-toks.ensures at c.odd_inside.ensures))
