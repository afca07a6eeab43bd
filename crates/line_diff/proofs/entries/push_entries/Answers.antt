use Rattle.std.proofs.Common.{◌≡◌, ◌∙◌, ◌++◌, ℕ, List, ap, sym, arith}
use Rattle.line_diff.proofs.TellingLemmas.{entries-end, entries-start}
use Rattle.line_diff.proofs.entries.push_entries.Goals as goal

pub loop-j-preserved : goal.loop-j-preserved
loop-j-preserved c =
    (c.in_ok-told.ensures.within, c.in_ok-told.ensures.left c.args.end (omega arith) ∙ c.loop-j.invariant.1)

pub returns : goal.returns
returns c =
    let last : c.loop-j.j ≡ c.args.end = omega arith in
    let all = c.loop-j.invariant.1 in
    c.in_ok-push_gains.ensures
    ∙ ap (λ (t : List ℕ). c.loop-j.text.items ++ t) (sym (entries-end c.args.olds.now c.args.news.now c.loop-j.told c.args.end))
    ∙ rw last at all
    ∙ ap (λ (t : List ℕ). c.args.text.now.items ++ t) (entries-start c.args.olds.now c.args.news.now c.args.k c.args.end)
