use Rattle.lexer.specs.FileText.{text_value}
use Rattle.lexer.proofs.GoneLemmas.{gone_of-table}
use Rattle.lexer.proofs.LineLemmas.{line_starts-table}
use Rattle.lexer.proofs.ScanLemmas.{firsts_of-each}
use Rattle.lexer.proofs.TextLemmas.{file_text-ok, file_text-too_large, file_text-refused}
use Rattle.lexer.proofs.lex.Goals as goal

pub returns-then-bytes-gt-MOST_BYTES-clause-answer : goal.returns-then-bytes-gt-MOST_BYTES-clause-answer
returns-then-bytes-gt-MOST_BYTES-clause-answer c =
    file_text-too_large c.args.file c.args.bytes.now c.if-bytes-gt-MOST_BYTES.true

pub invariant_of-result : goal.invariant_of-result
invariant_of-result c =
    rw (c.in_ok-gone_offsets.ensures, c.in_ok-gone_marks.ensures, c.in_ok-starts.ensures)
    (rw (c.in-Ok.ensures.toks, c.in-Ok.ensures.firsts, c.in-Ok.ensures.len) (record {
      each = firsts_of-each c.args.file c.args.bytes.now;
      lines = line_starts-table c.args.bytes.now c.if-bytes-gt-MOST_BYTES.false;
      bytes = gone_of-table c.args.bytes.now c.if-bytes-gt-MOST_BYTES.false;
    }))

pub returns-clause-answer : goal.returns-clause-answer
unfolding text_value
returns-clause-answer c =
    rw (c.in-Ok.ensures.toks, c.in-Ok.ensures.firsts, c.in-Ok.ensures.len, c.in_ok-starts.ensures, c.in_ok-gone_offsets.ensures, c.in_ok-gone_marks.ensures)
    (file_text-ok c.args.file c.args.bytes.now c.if-bytes-gt-MOST_BYTES.false c.in-Ok.ensures.closed)

pub returns-in-Err-clause-answer : goal.returns-in-Err-clause-answer
returns-in-Err-clause-answer c =
    file_text-refused c.args.file c.args.bytes.now c.in-Err.refusal c.if-bytes-gt-MOST_BYTES.false c.in-Err.ensures
