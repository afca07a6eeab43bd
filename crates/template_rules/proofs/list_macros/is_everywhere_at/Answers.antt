use Rattle.std.proofs.Common.{sym, ◌∙◌}
use Rattle.template_rules.proofs.AskLemmas.{everywhere_some, everywhere_none}
use Rattle.template_rules.proofs.list_macros.is_everywhere_at.Goals as goal

pub returns-in-Some : goal.returns-in-Some
returns-in-Some c =
    c.is_served.ensures
    ∙ everywhere_some c.args.functions.now.members c.args.functions.now.analysis.value c.args.toks.now c.args.reached.now c.args.list.now c.args.number c.requires.run
    c.in-Some.item (sym c.in-Some.ensures)

pub returns-in-None : goal.returns-in-None
returns-in-None c =
    everywhere_none c.args.functions.now.members c.args.functions.now.analysis.value c.args.toks.now c.args.reached.now c.args.list.now c.args.number c.requires.run
    (sym c.in-None.ensures)
