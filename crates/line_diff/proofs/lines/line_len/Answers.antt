use Rattle.std.proofs.Common.{◌+◌, refl, arith}
use Rattle.cs_base.proofs.ListLemmas.{prefix_len_le as prefix_len-le}
use Rattle.line_diff.specs.Lines.{is_no_feed}
use Rattle.line_diff.proofs.LineLemmas.{lines_of-first}
use Rattle.line_diff.proofs.lines.line_len.Goals as goal

pub returns-then-before-text-clause-first : goal.returns-then-before-text-clause-first
returns-then-before-text-clause-first c =
    lines_of-first c.args.text.now c.feed_at-before.result (c.feed_at-before.result + 1) c.feed_at-before.ensures (λ less. refl) (λ all. omega arith)
    c.requires

pub returns-else-before-text-clause-within : goal.returns-else-before-text-clause-within
returns-else-before-text-clause-within c =
    let within = prefix_len-le is_no_feed c.args.text.now in
    rw c.feed_at-before.ensures within

pub returns-else-before-text-clause-first : goal.returns-else-before-text-clause-first
returns-else-before-text-clause-first c =
    lines_of-first c.args.text.now c.feed_at-before.result c.feed_at-before.result c.feed_at-before.ensures (λ less. omega arith) (λ all. refl)
    c.requires
