use Rattle.std.proofs.Common.{◌≡◌, inl, inr, ap, sym, ◌∙◌, arith}
use Rattle.std.proofs.lemmas.Bool.{cases_lt}
use Rattle.line_diff.specs.Rows.{is_near}
use Rattle.line_diff.specs.Pairs.{rows_in}
use Rattle.line_diff.proofs.StretchLemmas.{alike-is, stretch-at}
use Rattle.line_diff.proofs.rows.stretch_end.Goals as goal

pub loop-end-init : goal.loop-end-init
loop-end-init c =
    let rows = rows_in c.args.olds.now c.args.news.now in (
      omega arith,
      omega arith,
      λ j at less. let same : j ≡ c.args.k = omega arith in ap (is_near rows) same ∙ sym c.requires.same,
    )

pub loop-end-preserved : goal.loop-end-preserved
loop-end-preserved c =
    let rows = rows_in c.args.olds.now c.args.news.now in
    let here : is_near rows c.loop-end.end ≡ c.args.near = alike-is c.args.near (is_near rows c.loop-end.end) (sym c.if-not-goes_on.ensures) in (
      omega arith,
      omega arith,
      λ j at less.
          elim (cases_lt j c.loop-end.end) [
            | inl before ↦ c.loop-end.invariant.2 j at before
            | inr last ↦ let same : j ≡ c.loop-end.end = omega arith in ap (is_near rows) same ∙ here
          ],
    )

pub returns-then-not-goes_on-clause-cut : goal.returns-then-not-goes_on-clause-cut
returns-then-not-goes_on-clause-cut c =
    let rows = rows_in c.args.olds.now c.args.news.now in
    stretch-at (is_near rows) c.args.k c.loop-end.end c.args.near rows c.loop-end.invariant.0 (omega arith) c.loop-end.invariant.2
    (λ less. sym c.if-not-goes_on.ensures)

pub returns-clause-cut : goal.returns-clause-cut
returns-clause-cut c =
    let rows = rows_in c.args.olds.now c.args.news.now in
    stretch-at (is_near rows) c.args.k c.loop-end.end c.args.near rows c.loop-end.invariant.0 (omega arith) c.loop-end.invariant.2
    (λ less. absurd (omega arith))
