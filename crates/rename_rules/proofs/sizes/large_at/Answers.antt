use Rattle.rename_rules.proofs.SizeLemmas.{large_here}
use Rattle.rename_rules.proofs.sizes.large_at.Goals as goal

pub returns-then-size-gt-MOST_BYTES : goal.returns-then-size-gt-MOST_BYTES
returns-then-size-gt-MOST_BYTES c = λ name is.
    large_here c.args.a.now.value name c.args.run.now c.args.size c.args.first c.first_with.result c.in-len1-up.len_at_least is c.if-size-gt-MOST_BYTES.true c.first_with.ensures
