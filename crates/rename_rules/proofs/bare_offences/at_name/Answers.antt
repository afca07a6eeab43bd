use Rattle.std.proofs.Common.{sym}
use Rattle.rename_rules.proofs.bare_offences.at_name.Goals as goal

pub returns-then-is_old_spelling : goal.returns-then-is_old_spelling
returns-then-is_old_spelling c =
    rw (rw c.text.ensures.answer at (sym c.if-is_shadow_of.ensures), rw c.text-then-is_shadow_of.ensures.answer at (sym c.if-is_old_spelling.ensures)) c.at_first.ensures
