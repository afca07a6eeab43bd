use Rattle.std.proofs.Common.{◌≡◌, Some, sym, ap, ◌∙◌, slice_get, arith}
use Rattle.std.proofs.lemmas.Option.{slice_get-get_or}
use Rattle.template_rules.specs.LineOffences.{odd_positions}
use Rattle.template_rules.proofs.LineOddsLemmas.{by_token-at, by_token-past}
use Rattle.template_rules.proofs.odd_tokens.odd_by_token.Goals as goal

pub returns-then-k-toks : goal.returns-then-k-toks
returns-then-k-toks c =
    let table = c.args.a.now.value.table in
    let toks = c.args.toks.now in
    let tok = c.index-toks-k.result in
    let at : slice_get toks c.args.k ≡ Some tok = slice_get-get_or toks c.args.k tok c.if-k-toks.true ∙ ap Some (sym c.index-toks-k.is) in
    by_token-at table (odd_positions table) toks c.args.k tok c.at-at.result c.args.first c.odd_among.result at c.at-at.ensures c.odd_among.ensures

pub returns-else-k-toks : goal.returns-else-k-toks
returns-else-k-toks c =
    let table = c.args.a.now.value.table in
    by_token-past table (odd_positions table) c.args.toks.now c.args.k c.args.first c.if-k-toks.false
