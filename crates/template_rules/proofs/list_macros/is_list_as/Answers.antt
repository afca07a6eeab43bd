use Rattle.std.proofs.Common.{sym}
use Rattle.template_rules.proofs.AskLemmas.{asks_yes}
use Rattle.template_rules.proofs.list_macros.is_list_as.Goals as goal

pub returns-then-not-is_item_at : goal.returns-then-not-is_item_at
returns-then-not-is_item_at c =
    let other = rw c.reached.ensures at c.if-not-is_item_at.ensures in
    rw (← other) (sym (asks_yes c.args.asked c.args.list.now))

pub returns : goal.returns
returns c =
    let same = rw c.reached.ensures at c.if-not-is_item_at.ensures in
    rw (← same) c.are_lists_in.ensures
