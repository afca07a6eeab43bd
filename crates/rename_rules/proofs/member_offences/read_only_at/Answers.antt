use Rattle.std.proofs.Common.{sym}
use Rattle.rename_rules.proofs.member_offences.read_only_at.Goals as goal

pub returns-then-read_only : goal.returns-then-read_only
returns-then-read_only c = rw (sym c.if-read_only.ensures) c.first_with.ensures
