use Rattle.std.proofs.Common.{sym, ◌∙◌}
use Rattle.unit_steps.proofs.DefiningLemmas.{use-other}
use Rattle.unit_steps.proofs.directives.link_use.Goals as goal

pub returns-else-is_name : goal.returns-else-is_name
returns-else-is_name c =
    use-other c.args.text.now c.args.tok.now c.args.params.now (sym c.is_name.ensures ∙ c.if-is_name.false)
