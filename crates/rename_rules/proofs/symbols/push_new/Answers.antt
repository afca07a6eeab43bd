use Rattle.std.proofs.Common.{sym}
use Rattle.rename_rules.proofs.GnuLemmas.{add_known}
use Rattle.rename_rules.proofs.symbols.push_new.Goals as goal

pub returns-then-is_known : goal.returns-then-is_known
returns-then-is_known c =
    add_known c.args.olds.now.items c.args.tok.now.text (rw (c.deref.ensures.value, c.text.ensures.answer) at (sym c.if-is_known.ensures))
