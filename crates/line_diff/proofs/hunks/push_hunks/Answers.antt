use Rattle.std.proofs.Common.{◌≤◌, ◌∙◌, ◌++◌, ℕ, List, [], length, ap, sym, arith}
use Rattle.std.specs.Prelude.{if◌then◌else◌}
use Rattle.std.proofs.lemmas.List.{append-nil, append_assoc}
use Rattle.line_diff.specs.FileText.{hunk_text}
use Rattle.line_diff.specs.Pairs.{hunk_at, rows_in}
use Rattle.line_diff.proofs.PushLemmas.{text_from, text_from-end, text_from-start, text_from-step}
use Rattle.line_diff.proofs.hunks.push_hunks.Goals as goal

pub loop-k-preserved : goal.loop-k-preserved
loop-k-preserved c =
    let step =
    text_from-step c.args.olds.now c.args.news.now c.loop-k.k c.stretch_end-end.result c.is_near-near.result (omega arith) c.stretch_end-end.ensures.cut in
    ap (λ (t : List ℕ). t ++ text_from c.args.olds.now c.args.news.now c.stretch_end-end.result) c.in_ok-push_stretch.ensures
    ∙ append_assoc c.loop-k.text.items (if c.is_near-near.result then hunk_text (hunk_at c.args.olds.now c.args.news.now c.loop-k.k c.stretch_end-end.result) else [])
    (text_from c.args.olds.now c.args.news.now c.stretch_end-end.result)
    ∙ ap (λ (t : List ℕ). c.loop-k.text.items ++ t) (sym step) ∙ c.loop-k.invariant

pub returns : goal.returns
returns c =
    let past : length (rows_in c.args.olds.now c.args.news.now) ≤ c.loop-k.k = omega arith in
    sym (append-nil c.loop-k.text.items)
    ∙ ap (λ (t : List ℕ). c.loop-k.text.items ++ t) (sym (text_from-end c.args.olds.now c.args.news.now c.loop-k.k past))
    ∙ c.loop-k.invariant ∙ ap (λ (t : List ℕ). c.args.text.now.items ++ t) (text_from-start c.args.olds.now c.args.news.now)
