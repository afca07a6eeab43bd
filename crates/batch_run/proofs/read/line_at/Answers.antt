use Rattle.std.proofs.Common.{◌≡◌, ◌+◌, true, length, ap, sym, ◌∙◌, arith}
use Rattle.std.specs.List.{list_all}
use Rattle.std.specs.Prelude.{nat_lt}
use Rattle.std.specs.Str.{is_utf8}
use Rattle.batch_run.specs.Reading.{line_at, words_of, without_return, asked_by}
use Rattle.batch_run.specs.Taking.{texts_of}
use Rattle.batch_run.proofs.WordLemmas.{words_utf8, without_return_utf8, line_at-words}
use Rattle.batch_run.proofs.read.line_at.Goals as goal

pub asked_by-requires : goal.asked_by-requires
asked_by-requires c =
    let line = c.args.line.now in
    let text : is_utf8 line ≡ true = sym c.is_utf8.ensures ∙ c.if-not-is_utf8.false in
    let ended = nat_lt (c.args.start + length line) c.args.size in
    let are = words_utf8 (without_return ended line) (without_return_utf8 ended line text) in
    let words : texts_of c.as_slice.result.now ≡ words_of (without_return ended line) =
    ap texts_of c.as_slice.ensures.value ∙ c.in_ok-words.ensures ∙ ap words_of c.without_return.ensures in
    ap (list_all is_utf8) words ∙ are

pub returns-clause-answer : goal.returns-clause-answer
returns-clause-answer c =
    let line = c.args.line.now in
    let text : is_utf8 line ≡ true = sym c.is_utf8.ensures ∙ c.if-not-is_utf8.false in
    let is = line_at-words c.args.size c.args.start line (omega arith) text in
    let words : texts_of c.as_slice.result.now ≡ words_of (without_return (nat_lt (c.args.start + length line) c.args.size) line) =
    ap texts_of c.as_slice.ensures.value ∙ c.in_ok-words.ensures ∙ ap words_of c.without_return.ensures in
    let asks : line_at c.args.size c.args.start line ≡ asked_by (texts_of c.as_slice.result.now) = is ∙ ap asked_by (sym words) in
    rw asks c.asked_by.ensures
