use Rattle.std.proofs.Common.{◌≡◌, ◌∷◌, [], ℕ, List, length, refl, sym, ap, ◌∙◌, arith}
use Rattle.std.specs.Prelude.{Err}
use Rattle.std.proofs.lemmas.Bool.{eqb-true}
use Rattle.std.proofs.lemmas.Result.{err_from_is_err_and}
use Rattle.ws_file.specs.Lines.{lines_of}
use Rattle.ws_file.specs.Reading.{Reading, WsFault, with_line, checked, read_lines, workspace_of, at_first}
use Rattle.ws_file.specs.Refusal.{fault_of}
use Rattle.ws_file.proofs.ReadLemmas.{read_lines-taken, read_lines-refused, read_lines-end, IfSome-weaker}
use Rattle.ws_file.proofs.read.read_ws.Invariants.{IsReadOn}
use Rattle.ws_file.proofs.read.read_ws.Goals as goal

read_on-first : (bytes : List ℕ) (r : Reading) → r ≡ at_first → IsReadOn bytes bytes 1 0 r
unfolding workspace_of
read_on-first bytes r first = record {
  same = ap (λ (now : Reading). read_lines 1 0 (lines_of bytes) now) first;
  numbered = omega arith;
  within = omega arith;
  few = rw first (omega arith);
}

empty : (bytes : List ℕ) → length bytes ≡ 0 → bytes ≡ []
empty [] none = refl
empty (b ∷ bytes) none = absurd (omega arith)

pub lines-init : goal.lines-init
lines-init c = read_on-first c.args.bytes.now c.in_ok-reader.reader c.in_ok-reader.ensures

pub lines-preserved : goal.lines-preserved
lines-preserved c =
    let line = c.first_line.result.0.now in
    let more = c.first_line.result.1.now in
    let now = c.lines.invariant in
    let taken = read_lines-taken c.lines.number c.lines.start line (lines_of more) c.lines.reader c.take_line.new.reader c.in_ok-take_line.ensures.answer in
    let split = ap (λ (lines : List (List ℕ)). read_lines c.lines.number c.lines.start lines c.lines.reader) c.first_line.ensures.lines in
    record {
      same = sym taken ∙ sym split ∙ now.same;
      numbered = omega arith;
      within = omega (arith, c.in_ok-take_line.ensures.within);
      few = c.in_ok-take_line.ensures.few;
    }

pub returns-in_err-take_line : goal.returns-in_err-take_line
returns-in_err-take_line c =
    let line = c.first_line.result.0.now in
    let more = c.first_line.result.1.now in
    let split = ap (λ (lines : List (List ℕ)). read_lines c.lines.number c.lines.start lines c.lines.reader) c.first_line.ensures.lines in
    let step : (f : WsFault) → checked c.lines.number (with_line c.lines.start line c.lines.reader) ≡ Err f → workspace_of c.args.bytes.now ≡ Err f =
    λ f h. sym c.lines.invariant.same ∙ split ∙ read_lines-refused c.lines.number c.lines.start line (lines_of more) c.lines.reader f h in
    let p = err_from_is_err_and c.from_residual-in_err-take_line.result c.from_residual-in_err-take_line.ensures.1 in
    record {
      answer =
          rw (p.1, p.2)
          (IfSome-weaker (fault_of c.in_err-take_line.field-0.0)
          (λ f. checked c.lines.number (with_line c.lines.start line c.lines.reader) ≡ Err f)
          (λ f. workspace_of c.args.bytes.now ≡ Err f) step c.in_err-take_line.ensures.answer);
    }

pub returns : goal.returns
returns c =
    let none = empty c.lines.rest.now (eqb-true (length c.lines.rest.now) 0 (sym c.lines-test.ensures)) in
    let last = read_lines-end c.lines.number c.lines.start c.lines.reader in
    record { answer = sym c.lines.invariant.same ∙ rw (none, c.finish.ensures) last }
