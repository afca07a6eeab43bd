use Rattle.std.proofs.Common.{◌≡◌, ◌++◌, ◌∙◌, List, ℕ, ap, sym}
use Rattle.query_report.specs.Skipped.{file_lines, lines_at}
use Rattle.query_report.specs.Marks.{is_marked}
use Rattle.query_report.proofs.SequenceLemmas.{lines-told, on_ok-then}
use Rattle.query_report.proofs.skipped.push_lines.Goals as goal

pub returns-in-Some : goal.returns-in-Some
returns-in-Some c =
    let lines : file_lines c.path.result.now (is_marked c.args.marks.now c.args.number) c.items_in.result.now ≡ lines_at c.args.t.now c.args.number =
    rw (c.path.ensures, c.items_in.ensures)
    (lines-told c.args.t.now c.args.marks.now c.args.number c.in-Some.file.now c.requires (sym c.in-Some.ensures)) in
    on_ok-then c.push_file.result _ _ c.push_file.ensures
    (λ added. added ∙ ap (λ (l : List ℕ). c.args.text.now.items ++ l) lines)
