use Rattle.std.proofs.Common.{◌≡◌, ◌++◌, length}
use Rattle.unseen_names.specs.Pragmas.{pragma_words}
use Rattle.unseen_names.proofs.pragmas.push_pragmas.Given as goal

abbrev pub invariant-tokens : goal.invariant-tokens
invariant-tokens l = l.out.items ++ pragma_words l.name l.rest ≡ l.initial.out.items ++ pragma_words l.name l.toks

abbrev pub decreases-tokens : goal.decreases-tokens
decreases-tokens l = length l.rest
