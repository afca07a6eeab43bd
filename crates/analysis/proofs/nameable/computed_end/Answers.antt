use Rattle.std.proofs.Common.{◌<◌, length, Some, ap, sym, ◌∙◌, arith}
use Rattle.std.proofs.lemmas.Option.{slice_get-get_or}
use Rattle.analysis.proofs.NameableLemmas.{computed_none}
use Rattle.analysis.proofs.nameable.computed_end.Goals as goal

pub returns-then-is_header-clause-answer : goal.returns-then-is_header-clause-answer
returns-then-is_header-clause-answer c =
    let toks = c.args.toks.now in
    let token = c.index-toks-from.result in
    let within : c.args.from < length toks = omega (arith, c.if-from-to.true, c.requires) in
    computed_none toks c.args.from c.args.to token c.if-from-to.true
    (slice_get-get_or toks c.args.from token within ∙ ap Some (sym c.index-toks-from.is)) (sym c.is_header.ensures ∙ c.if-is_header.true)
