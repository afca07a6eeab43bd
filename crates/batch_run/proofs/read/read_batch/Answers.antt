use Rattle.std.proofs.Common.{◌≡◌, ◌∷◌, [], ℕ, List, length, refl, sym, ap, ◌∙◌, arith}
use Rattle.std.specs.Prelude.{Err}
use Rattle.std.proofs.lemmas.Bool.{eqb-true}
use Rattle.std.proofs.lemmas.Result.{err_from_is_err_and}
use Rattle.ws_file.specs.Lines.{lines_of}
use Rattle.batch_run.specs.Line.{LineValue}
use Rattle.batch_run.specs.Reading.{line_at, taken_with, read_lines, batch_of}
use Rattle.batch_run.specs.Refusal.{bad_line_of}
use Rattle.batch_run.proofs.ReadLemmas.{read_lines-taken, read_lines-bad, read_lines-end, IfSome-weaker}
use Rattle.batch_run.proofs.read.read_batch.Invariants.{IsReadOn}
use Rattle.batch_run.proofs.read.read_batch.Goals as goal

read_on-first : (bytes : List ℕ) (taken : List LineValue) → taken ≡ [] → IsReadOn bytes bytes 1 0 taken
unfolding batch_of
read_on-first bytes taken first = record {
  same = ap (λ (now : List LineValue). read_lines (length bytes) 1 0 (lines_of bytes) now) first;
  numbered = omega arith;
  within = omega arith;
}

empty : (bytes : List ℕ) → length bytes ≡ 0 → bytes ≡ []
empty [] none = refl
empty (b ∷ bytes) none = absurd (omega arith)

pub lines-init : goal.lines-init
lines-init c = read_on-first c.args.bytes.now c.new-taken.result.items c.new-taken.ensures.items

pub lines-preserved : goal.lines-preserved
lines-preserved c =
    let line = c.first_line.result.0.now in
    let more = c.first_line.result.1.now in
    let now = c.lines.invariant in
    let size = length c.args.bytes.now in
    let taken = read_lines-taken size c.lines.number c.lines.start line (lines_of more) c.lines.taken.items c.take_line.new.taken.items c.in_ok-take_line.ensures.answer in
    let split = ap (λ (lines : List (List ℕ)). read_lines size c.lines.number c.lines.start lines c.lines.taken.items) c.first_line.ensures.lines in
    record {
      same = sym taken ∙ sym split ∙ now.same;
      numbered = omega arith;
      within = omega (arith, c.in_ok-take_line.ensures.within);
    }

pub returns-in_err-take_line : goal.returns-in_err-take_line
returns-in_err-take_line c =
    let line = c.first_line.result.0.now in
    let more = c.first_line.result.1.now in
    let size = length c.args.bytes.now in
    let split = ap (λ (lines : List (List ℕ)). read_lines size c.lines.number c.lines.start lines c.lines.taken.items) c.first_line.ensures.lines in
    let step : (n : ℕ) → taken_with c.lines.number c.lines.taken.items (line_at size c.lines.start line) ≡ Err n → batch_of c.args.bytes.now ≡ Err n =
    λ n h. sym c.lines.invariant.same ∙ split ∙ read_lines-bad size c.lines.number c.lines.start line (lines_of more) c.lines.taken.items n h in
    let p = err_from_is_err_and c.from_residual.result c.from_residual.ensures.1 in
    record {
      answer =
          rw (p.1, p.2)
          (IfSome-weaker (bad_line_of c.in_err-take_line.field-0.0)
          (λ n. taken_with c.lines.number c.lines.taken.items (line_at size c.lines.start line) ≡ Err n)
          (λ n. batch_of c.args.bytes.now ≡ Err n) step c.in_err-take_line.ensures.answer);
    }

pub returns : goal.returns
returns c =
    let none = empty c.lines.rest.now (eqb-true (length c.lines.rest.now) 0 (sym c.lines-test.ensures)) in
    let last = read_lines-end (length c.args.bytes.now) c.lines.number c.lines.start c.lines.taken.items in
    record { answer = sym c.lines.invariant.same ∙ rw none last }
