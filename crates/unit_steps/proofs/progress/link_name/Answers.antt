use Rattle.std.proofs.Common.{sym, ap, ◌∙◌}
use Rattle.unit_steps.specs.Names.{spelled_in}
use Rattle.unit_steps.proofs.NamingLemmas.{link-none}
use Rattle.unit_steps.proofs.progress.link_name.Goals as goal

pub returns-in-None : goal.returns-in-None
returns-in-None c =
    link-none c.args.text.now c.args.name.now c.args.names.now (sym (c.in-None.ensures ∙ ap (spelled_in c.args.names.now) c.text.ensures.answer))
