use Rattle.std.proofs.Common.{sym, ◌∙◌}
use Rattle.template_rules.proofs.KnownLemmas.{served_alike}
use Rattle.template_rules.proofs.known_lists.is_alike.Goals as goal

pub returns : goal.returns
returns c class served is =
    served_alike class c.args.toks.now c.args.list.now c.args.other.now c.args.of c.args.item (sym c.if-not-is_item.ensures) (sym c.is_same_list.ensures ∙ is) served
