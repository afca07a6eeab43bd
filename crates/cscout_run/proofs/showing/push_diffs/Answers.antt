use Rattle.std.proofs.Common.{arith}
use Rattle.cs_base.specs.Outside.{FilesTold, NoneFailed}
use Rattle.cscout_run.specs.Stopping.{stop_reads}
use Rattle.cscout_run.proofs.ShowLemmas.{diffs-all, diffs-more, diffs-none, handed_done, handed_late, handed_reads, reads-none, reads_on, same-held}
use Rattle.cscout_run.proofs.showing.push_diffs.Goals as goal

pub loop-k-init : goal.loop-k-init
loop-k-init g c = (diffs-none (g.F.Files.told c.args.files.now).held c.args.text.now.items c.args.edits.now, reads-none (g.F.Files.told c.args.files.now))

pub loop-k-preserved : goal.loop-k-preserved
loop-k-preserved g c =
    let a : FilesTold = g.F.Files.told c.args.files.now in
    let b : FilesTold = g.F.Files.told c.loop-k.files in
    let d : FilesTold = g.F.Files.told c.push_edit.new.files in (
      diffs-more a.held c.args.edits.now c.loop-k.k c.args.text.now.items c.loop-k.text.items c.push_edit.new.text.items (omega arith) c.loop-k.invariant.0
          (same-held a b _ c.loop-k.invariant.1 c.in_ok-push_edit.ensures.text),
      reads_on a b d NoneFailed c.loop-k.invariant.1 c.in_ok-push_edit.ensures.faults,
    )

pub returns-in_err-push_edit-clause-text : goal.returns-in_err-push_edit-clause-text
returns-in_err-push_edit-clause-text g c =
    handed_done (g.F.Files.told c.args.files.now).held c.in_err-push_edit.field-0.0 c.from_residual.result _ c.from_residual.ensures.1

pub returns-in_err-push_edit-clause-stops : goal.returns-in_err-push_edit-clause-stops
returns-in_err-push_edit-clause-stops g c =
    handed_late c.in_err-push_edit.field-0.0 c.from_residual.result c.from_residual.ensures.1 c.in_err-push_edit.ensures.stops

pub returns-in_err-push_edit-clause-faults : goal.returns-in_err-push_edit-clause-faults
returns-in_err-push_edit-clause-faults g c =
    let a : FilesTold = g.F.Files.told c.args.files.now in
    let b : FilesTold = g.F.Files.told c.loop-k.files in
    let d : FilesTold = g.F.Files.told c.push_edit.new.files in
    handed_reads a d c.in_err-push_edit.field-0.0 c.from_residual.result c.from_residual.ensures.1
    (reads_on a b d (stop_reads c.in_err-push_edit.field-0.0) c.loop-k.invariant.1 c.in_err-push_edit.ensures.faults)

pub returns-clause-text : goal.returns-clause-text
returns-clause-text g c =
    diffs-all (g.F.Files.told c.args.files.now).held c.args.edits.now c.loop-k.k c.args.text.now.items c.loop-k.text.items (omega arith) c.loop-k.invariant.0

pub returns-clause-faults : goal.returns-clause-faults
returns-clause-faults g c = c.loop-k.invariant.1
