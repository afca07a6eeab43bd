use Rattle.std.proofs.Common.{sym}
use Rattle.rename_rules.specs.Respellings.{respelling}
use Rattle.rename_rules.proofs.RespellingLemmas.{adds_known}
use Rattle.rename_rules.proofs.respelling_table.add.Goals as goal

pub returns-then-is_known : goal.returns-then-is_known
returns-then-is_known c =
    adds_known (respelling c.args.old.now c.args.new.items) c.args.table.now.items (rw (c.deref.ensures.value, c.deref-2.ensures.value) at (sym c.if-is_known.ensures))
