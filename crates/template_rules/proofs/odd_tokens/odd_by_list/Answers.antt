use Rattle.std.proofs.Common.{◌-◌, ◌++◌, sym}
use Rattle.std.specs.List.{flat_map}
use Rattle.list_cuts.specs.Cuts.{numbers}
use Rattle.template_rules.specs.LineOffences.{odd_positions}
use Rattle.template_rules.specs.OddLines.{odds_by_token}
use Rattle.template_rules.proofs.LineOddsLemmas.{then_places}
use Rattle.template_rules.proofs.odd_tokens.odd_by_list.Goals as goal

pub returns : goal.returns
returns c =
    let table = c.args.a.now.value.table in
    let l = c.args.list.now in
    let by = odds_by_token table (odd_positions table) c.args.toks.now in
    let inner = flat_map by (numbers l.begin (l.close - l.begin)) in
    then_places table (by l.name) (by l.close ++ inner) c.args.first c.odd_by_token-named.result c.odd_by_tokens.result c.odd_by_token-named.ensures
    (then_places table (by l.close) inner c.odd_by_token-named.result c.odd_by_token-closed.result c.odd_by_tokens.result
    c.odd_by_token-closed.ensures c.odd_by_tokens.ensures)
