use Rattle.std.proofs.Common.{◌-◌, ◌<◌, Some, length, ap, sym, ◌∙◌, arith}
use Rattle.std.proofs.lemmas.Option.{slice_get-get_or}
use Rattle.analysis.proofs.TokenSearchLemmas.{Halved, over_not}
use Rattle.analysis.proofs.token_search.token_over.Goals as goal

pub returns-else-holds : goal.returns-else-holds
returns-else-holds c =
    let toks = c.args.toks.now in
    let count = c.count_begun-count.result in
    let token = c.index-toks-count.result in
    let within : count - 1 < length toks = omega (arith, c.count_begun-count.ensures.within, c.if-count-eq0.false) in
    let halved : Halved toks c.args.pos count = record { before = c.count_begun-count.ensures.before; behind = c.count_begun-count.ensures.behind } in
    over_not toks c.args.pos count token c.requires halved (omega (arith, c.if-count-eq0.false))
    (slice_get-get_or toks (count - 1) token within ∙ ap Some (sym c.index-toks-count.is)) (sym c.holds.ensures ∙ c.if-holds.false)
