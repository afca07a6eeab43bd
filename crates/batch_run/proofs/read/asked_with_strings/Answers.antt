use Rattle.std.proofs.Common.{◌≡◌, ◌∙◌, true, false, sym, refl, arith}
use Rattle.std.specs.Prelude.{codes, bytes_eq}
use Rattle.batch_run.specs.Reading.{renaming_of, asked_by}
use Rattle.batch_run.specs.Taking.{texts_of}
use Rattle.batch_run.proofs.WordLemmas.{word_at, asked_by-six, second_utf8}
use Rattle.batch_run.proofs.read.asked_with_strings.Goals as goal

pub returns-then-not-asks : goal.returns-then-not-asks
returns-then-not-asks c =
    let other : bytes_eq (word_at c.args.words.now 0) (codes "rename") ≡ false = sym c.is_text-asks.ensures ∙ c.if-not-asks.true in
    sym (asked_by-six c.args.words.now c.requires.six ∙ rw other refl)

pub returns-then-not-follows : goal.returns-then-not-follows
returns-then-not-follows c =
    let same : bytes_eq (word_at c.args.words.now 0) (codes "rename") ≡ true = sym c.is_text-asks.ensures ∙ c.if-not-asks.false in
    let other : bytes_eq (word_at c.args.words.now 5) (codes "strings") ≡ false = sym c.is_text-follows.ensures ∙ c.if-not-follows.true in
    sym (asked_by-six c.args.words.now c.requires.six ∙ rw same (rw other refl))

pub renaming_of-requires : goal.renaming_of-requires
renaming_of-requires c = second_utf8 c.args.words.now (omega (arith, c.requires.six)) c.requires.text

pub returns : goal.returns
returns c =
    let same : bytes_eq (word_at c.args.words.now 0) (codes "rename") ≡ true = sym c.is_text-asks.ensures ∙ c.if-not-asks.false in
    let with : bytes_eq (word_at c.args.words.now 5) (codes "strings") ≡ true = sym c.is_text-follows.ensures ∙ c.if-not-follows.false in
    let asks : asked_by (texts_of c.args.words.now) ≡ renaming_of (word_at c.args.words.now 1) (word_at c.args.words.now 2) (word_at c.args.words.now 3) (word_at c.args.words.now 4) true =
    asked_by-six c.args.words.now c.requires.six ∙ rw same (rw with refl) in
    rw asks c.renaming_of.ensures
