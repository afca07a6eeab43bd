use Rattle.std.proofs.Common.{◌≡◌, ◌++◌, drop}
use Rattle.unseen_names.specs.Words.{edited_words, found_from, words_of}
use Rattle.unseen_names.proofs.words.words_of.Given as goal

abbrev pub invariant-loop-number : goal.invariant-loop-number
invariant-loop-number l =
    l.out.items ++ found_from (edited_words l.a.value l.source l.name) l.number (drop l.number l.a.value.table) ≡ words_of l.a.value l.source l.name
