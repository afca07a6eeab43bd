use Rattle.std.proofs.Common.{Option}
use Rattle.std.specs.List.{flat_map}
use Rattle.cs_base.specs.declared.causes.Cause.TheVariants as cause
use Rattle.offences.specs.declared.firsts.Offence.{Offence}
use Rattle.offences.specs.First.{standing, FirstThen}
use Rattle.offences.proofs.FirstLemmas.{then_both}
use Rattle.rename_rules.specs.GnuTexts.{text_place_in, told_in, word_place_in}
use Rattle.rename_rules.proofs.FailingLemmas.{if_ok}
use Rattle.rename_rules.proofs.words_and_texts.in_lists.Goals as goal

pub returns : goal.returns
returns c =
    let class = c.args.renaming.now.class in
    let name = c.args.renaming.now.name in
    let table = c.args.a.now.value.table in
    let names = c.args.bound.now.names in
    let toks = c.args.toks.now in
    let lists = c.args.lists.now in
    let words = rw (c.class.ensures, c.places.ensures) at c.in_words-words.ensures in
    if_ok c.in_texts.result
    (FirstThen table (standing cause.AssemblerText (flat_map (text_place_in class.members name c.args.olds.now toks) c.texts.result.now)) c.in_words-words.result)
    (FirstThen table (told_in class.members name c.args.olds.now names toks lists) c.args.first)
    (λ (now : Option Offence) here.
    then_both table (standing cause.Reserved (flat_map (word_place_in class.members names toks) lists.places))
    (standing cause.AssemblerText (flat_map (text_place_in class.members name c.args.olds.now toks) lists.texts)) c.args.first c.in_words-words.result now words (rw c.texts.ensures at here))
    c.in_texts.ensures
