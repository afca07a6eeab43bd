use Rattle.std.proofs.Common.{◌∙◌}
use Rattle.macro_body.proofs.DefiningLemmas.{if_ok-more}
use Rattle.macro_body.proofs.PredefinedLemmas.{path_string-made}
use Rattle.macro_body.proofs.predefined.path_string.Goals as goal

pub returns : goal.returns
returns c =
    if_ok-more c.new.result c.new.ensures.answer (λ t is.
    path_string-made c.args.path.now c.args.name.now t c.deref.result.now c.gap.result c.at.result c.line.result
    (c.deref.ensures.value ∙ c.in_ok-text.ensures) c.gap.ensures c.at.ensures c.line.ensures is)
