use Rattle.std.proofs.Common.{◌≡◌, ◌+◌, ◌<◌, ◌≤◌, ℕ, false, true, inl, inr, sym, ap, ◌∙◌, arith}
use Rattle.std.specs.Prelude.{nat_lt, is_some}
use Rattle.std.proofs.lemmas.Bool.{cases_Bool}
use Rattle.std.proofs.lemmas.Bool.Decides.{nat_tests}
use Rattle.analysis.specs.Below.lexer.Lines.{byte_offset_of}
use Rattle.template_rules.specs.LineOffences.{is_line_feed_at}
use Rattle.template_rules.proofs.OddLemmas.{no_line_feed_behind, feeds_more}
use Rattle.template_rules.proofs.odd_lines.line_end.Goals as goal

pub returns-then-is_line_feed_at : goal.returns-then-is_line_feed_at
returns-then-is_line_feed_at c =
    (c.line.invariant.0, sym c.is_line_feed_at.ensures ∙ c.if-is_line_feed_at.true, c.line.invariant.1)

pub line-preserved : goal.line-preserved
line-preserved c =
    let here : is_line_feed_at c.args.file.now.bytes c.line.end ≡ false = sym c.is_line_feed_at.ensures ∙ c.if-is_line_feed_at.false in
    feeds_more c.args.file.now.bytes c.args.at c.line.end c.line.invariant here

pub returns : goal.returns
returns c =
    let none : is_some (byte_offset_of c.args.file.now.bytes c.line.end) ≡ false = sym c.is_character.ensures.answer ∙ c.line-test.false in
    no_line_feed_behind c.args.file.now.bytes c.args.at c.line.end c.line.invariant.1 none
