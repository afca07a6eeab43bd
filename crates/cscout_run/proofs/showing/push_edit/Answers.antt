use Rattle.std.specs.Prelude.{slice_get}
use Rattle.cscout_run.specs.declared.stops.Stop.TheVariants as stop
use Rattle.cscout_run.proofs.ShowLemmas.{diff-pushed, handed_edit, handed_late, handed_memory, handed_reads}
use Rattle.cscout_run.proofs.showing.push_edit.Goals as goal

pub returns-in_err-old-clause-text : goal.returns-in_err-old-clause-text
returns-in_err-old-clause-text g c =
    handed_edit (g.F.Files.told c.args.files.now).held (slice_get c.args.edits.now c.args.k) c.in_err-old.field-0.0 c.from_residual.result _
    c.from_residual.ensures.1

pub returns-in_err-old-clause-stops : goal.returns-in_err-old-clause-stops
returns-in_err-old-clause-stops g c = handed_late c.in_err-old.field-0.0 c.from_residual.result c.from_residual.ensures.1 c.in_err-old.ensures.stops

pub returns-in_err-old-clause-faults : goal.returns-in_err-old-clause-faults
returns-in_err-old-clause-faults g c =
    handed_reads (g.F.Files.told c.args.files.now) (g.F.Files.told c.held_text.new.files) c.in_err-old.field-0.0 c.from_residual.result
    c.from_residual.ensures.1 c.in_err-old.ensures.faults

pub returns-in_err-push_diff-clause-text : goal.returns-in_err-push_diff-clause-text
returns-in_err-push_diff-clause-text g c =
    handed_edit (g.F.Files.told c.args.files.now).held (slice_get c.args.edits.now c.args.k) stop.Memory c.from_residual-in_err-push_diff.result _
    c.from_residual-in_err-push_diff.ensures.1

pub returns-in_err-push_diff-clause-stops : goal.returns-in_err-push_diff-clause-stops
returns-in_err-push_diff-clause-stops g c =
    handed_late stop.Memory c.from_residual-in_err-push_diff.result c.from_residual-in_err-push_diff.ensures.1 tt

pub returns-in_err-push_diff-clause-faults : goal.returns-in_err-push_diff-clause-faults
returns-in_err-push_diff-clause-faults g c =
    handed_memory (g.F.Files.told c.args.files.now) (g.F.Files.told c.held_text.new.files) c.from_residual-in_err-push_diff.result
    c.from_residual-in_err-push_diff.ensures.1 c.in_ok-old.ensures.faults

pub returns-clause-text : goal.returns-clause-text
returns-clause-text g c =
    diff-pushed (g.F.Files.told c.args.files.now).held (slice_get c.args.edits.now c.args.k) c.path_text.result.now c.path.result.now c.in_ok-old.old.items
    c.bytes.result.now c.args.text.now.items c.push_diff.new.text.items c.path_text.ensures c.path.ensures.answer c.bytes.ensures c.in_ok-old.ensures.text
    (rw c.as_slice.ensures.value at c.in_ok-push_diff.ensures)

pub returns-clause-faults : goal.returns-clause-faults
returns-clause-faults g c = c.in_ok-old.ensures.faults
