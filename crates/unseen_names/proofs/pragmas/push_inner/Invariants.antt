use Rattle.std.proofs.Common.{◌≡◌, ◌++◌, drop}
use Rattle.unseen_names.specs.Pragmas.{inner_words, words_behind}
use Rattle.unseen_names.proofs.pragmas.push_inner.Given as goal

abbrev pub invariant-loop-k : goal.invariant-loop-k
invariant-loop-k l = l.out.items ++ words_behind l.name l.tok l.k (drop l.k l.tok.text) ≡ l.initial.out.items ++ inner_words l.name l.tok
