use Rattle.std.proofs.Common.{ℕ, ◌≡◌, ◌<◌, false}
use Rattle.rename_rules.specs.GnuTexts.{is_free}
use Rattle.rename_rules.proofs.words_and_texts.none_is_free.Given as goal

abbrev pub invariant-loop-k : goal.invariant-loop-k
invariant-loop-k l = (j : ℕ) → j < l.k → is_free l.class.members l.bound.names l.toks j ≡ false
