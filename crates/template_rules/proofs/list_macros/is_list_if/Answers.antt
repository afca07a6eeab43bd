use Rattle.std.proofs.Common.{sym}
use Rattle.template_rules.proofs.ItemLemmas.{through_none}
use Rattle.template_rules.proofs.list_macros.is_list_if.Goals as goal

pub returns-then-not-some : goal.returns-then-not-some
returns-then-not-some c =
    sym (through_none c.args.unit.now.class.members c.args.toks.now c.args.list.now c.args.asked c.args.item c.args.unit.now.text.now c.args.unit.now.bound.now
    (c.requires c.if-not-some.true))
