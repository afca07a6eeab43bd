use Rattle.rename_rules.proofs.UnitLemmas.{holders_are}
use Rattle.rename_rules.proofs.held_tokens.holders.Goals as goal

pub returns : goal.returns
returns c =
    holders_are c.args.class.now.analysis.value c.args.class.now.members c.push_files.new.out.items c.push_all.new.out.items c.push_pasted.new.out.items
    (rw c.new-out.ensures.items at c.in_ok-push_files.ensures)
    (rw (c.numbers_brought.ensures, c.analysis.ensures) at c.in_ok-push_all.ensures) c.in_ok-push_pasted.ensures
