use Rattle.std.proofs.Common.{◌≡◌, ◌++◌, take}
use Rattle.std.specs.List.{flat_map}
use Rattle.unseen_names.specs.Words.{word}
use Rattle.unseen_names.proofs.words.push_words.Given as goal

abbrev pub invariant-loop-tok : goal.invariant-loop-tok
invariant-loop-tok l = l.out.items ≡ l.initial.out.items ++ flat_map (word l.name) (take l.tok-index l.toks)
