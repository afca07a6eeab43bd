use Rattle.std.proofs.Common.{take}
use Rattle.std.specs.List.{flat_map}
use Rattle.cs_base.specs.declared.causes.Cause.TheVariants as cause
use Rattle.offences.specs.First.{standing, FirstThen}
use Rattle.rename_rules.specs.GnuTexts.{word_place_in}
use Rattle.rename_rules.proofs.words_and_texts.in_words.Given as goal

abbrev pub invariant-loop-k : goal.invariant-loop-k
invariant-loop-k l =
    FirstThen l.a.value.table (standing cause.Reserved (flat_map (word_place_in l.class.members l.bound.names l.toks) (take l.k-index l.places))) l.initial.now l.now
