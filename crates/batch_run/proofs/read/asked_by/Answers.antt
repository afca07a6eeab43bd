use Rattle.std.proofs.Common.{◌≡◌, ◌∙◌, true, false, sym, refl, arith}
use Rattle.std.specs.Prelude.{codes, bytes_eq}
use Rattle.batch_run.specs.Reading.{renaming_of, asked_by}
use Rattle.batch_run.specs.Taking.{texts_of}
use Rattle.batch_run.proofs.WordLemmas.{word_at, asked_by-five, asked_by-other, second_utf8}
use Rattle.batch_run.proofs.read.asked_by.Goals as goal

pub returns-then-words-ne5 : goal.returns-then-words-ne5
returns-then-words-ne5 c = sym (asked_by-other c.args.words.now c.if-words-ne5.true c.if-words-eq6.false)

pub returns-then-not-is_text : goal.returns-then-not-is_text
returns-then-not-is_text c =
    let other : bytes_eq (word_at c.args.words.now 0) (codes "rename") ≡ false = sym c.is_text.ensures ∙ c.if-not-is_text.true in
    sym (asked_by-five c.args.words.now c.if-words-ne5.false ∙ rw other refl)

pub renaming_of-requires : goal.renaming_of-requires
renaming_of-requires c = second_utf8 c.args.words.now (omega (arith, c.if-words-ne5.false)) c.requires

pub returns : goal.returns
returns c =
    let same : bytes_eq (word_at c.args.words.now 0) (codes "rename") ≡ true = sym c.is_text.ensures ∙ c.if-not-is_text.false in
    let asks : asked_by (texts_of c.args.words.now) ≡ renaming_of (word_at c.args.words.now 1) (word_at c.args.words.now 2) (word_at c.args.words.now 3) (word_at c.args.words.now 4) false =
    asked_by-five c.args.words.now c.if-words-ne5.false ∙ rw same refl in
    rw asks c.renaming_of.ensures
