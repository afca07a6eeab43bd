use Rattle.std.proofs.Common.{◌∙◌}
use Rattle.macro_body.proofs.DefiningLemmas.{if_ok-more}
use Rattle.macro_body.proofs.PredefinedLemmas.{number-no_longer, number-traced, number-made}
use Rattle.macro_body.proofs.predefined.number_token.Goals as goal

pub new-requires-clause-no_longer : goal.new-requires-clause-no_longer
new-requires-clause-no_longer c =
    number-no_longer _ c.as_bytes-text.result.now c.deref.result.now (c.deref.ensures.value ∙ c.in_ok-origins.ensures)

pub new-requires-clause-traced : goal.new-requires-clause-traced
new-requires-clause-traced c = λ _.
    number-traced _ c.as_bytes-text.result.now c.deref.result.now (c.deref.ensures.value ∙ c.in_ok-origins.ensures)

pub returns : goal.returns
returns c =
    if_ok-more c.new.result c.new.ensures.answer (λ t is.
    number-made c.args.name.now t c.args.number c.line.result c.as_bytes-text.result.now c.deref.result.now c.gap.result c.at.result
    c.line.ensures c.gap.ensures c.at.ensures (c.as_bytes-text.ensures.value ∙ c.format.ensures.text) (c.deref.ensures.value ∙ c.in_ok-origins.ensures) is)
