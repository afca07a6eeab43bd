use Rattle.rename_rules.proofs.SizeLemmas.{full_here}
use Rattle.rename_rules.proofs.sizes.full_at.Goals as goal

pub returns-then-total-gt-MOST_BYTES_OF_ALL : goal.returns-then-total-gt-MOST_BYTES_OF_ALL
returns-then-total-gt-MOST_BYTES_OF_ALL c = λ name is.
    full_here c.args.a.now.value name c.args.members.now c.args.total c.args.first c.first_with.result c.in-len1-up.len_at_least is c.if-total-gt-MOST_BYTES_OF_ALL.true c.first_with.ensures
