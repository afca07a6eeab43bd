use Rattle.std.proofs.Common.{sym, ◌∙◌, ap}
use Rattle.template_rules.proofs.OddLemmas.{no_line_feed, line_feed_within, line_feed_at}
use Rattle.template_rules.proofs.odd_lines.is_line_feed_at.Goals as goal

pub bounds-bytes-byte : goal.bounds-bytes-byte
bounds-bytes-byte c =
    let bytes = c.args.file.now.bytes in
    rw c.bytes.ensures (line_feed_within bytes c.args.at c.in-Some.byte (sym (c.in-Some.ensures.answer c.args.file.now.number bytes c.text.ensures)))

pub returns-in-Some : goal.returns-in-Some
returns-in-Some c =
    let bytes = c.args.file.now.bytes in
    rw c.bytes.ensures (sym (line_feed_at bytes c.args.at c.in-Some.byte (sym (c.in-Some.ensures.answer c.args.file.now.number bytes c.text.ensures))))

pub returns-in-None : goal.returns-in-None
returns-in-None c =
    let bytes = c.args.file.now.bytes in
    sym (no_line_feed bytes c.args.at (sym (c.in-None.ensures.answer c.args.file.now.number bytes c.text.ensures)))
