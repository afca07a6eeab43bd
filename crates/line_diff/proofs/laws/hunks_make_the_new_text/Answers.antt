use Rattle.line_diff.proofs.AppliedLemmas.{hunks-applied}
use Rattle.line_diff.proofs.laws.hunks_make_the_new_text.Goals as goal

pub returns : goal.returns
returns c = hunks-applied
