use Rattle.std.proofs.Common.{◌≡◌, ◌++◌}
use Rattle.std.specs.List.{flat_map}
use Rattle.cs_base.specs.Outside.{FileMap}
use Rattle.cscout_run.specs.declared.preparing.Ready.{Ready}
use Rattle.cscout_run.specs.Shown.{diff_of}
use Rattle.cscout_run.proofs.ShowLemmas.{handed_late, handed_none, handed_reads, handed_text}
use Rattle.cscout_run.proofs.showing.as_shown.Goals as goal

pub returns-in_err-push_diffs-clause-text : goal.returns-in_err-push_diffs-clause-text
returns-in_err-push_diffs-clause-text g c =
    handed_text (g.F.Files.told c.args.files.now).held c.in_err-push_diffs.field-0.0 c.from_residual.result
    (λ (fs : FileMap) (shown : Ready). shown.text.items ≡ c.args.ready.text.items ++ flat_map (diff_of fs) c.args.ready.edits) c.from_residual.ensures.1

pub returns-in_err-push_diffs-clause-none : goal.returns-in_err-push_diffs-clause-none
returns-in_err-push_diffs-clause-none g c = handed_none c.in_err-push_diffs.field-0.0 c.from_residual.result _ c.from_residual.ensures.1

pub returns-in_err-push_diffs-clause-refused : goal.returns-in_err-push_diffs-clause-refused
returns-in_err-push_diffs-clause-refused g c = handed_none c.in_err-push_diffs.field-0.0 c.from_residual.result _ c.from_residual.ensures.1

pub returns-in_err-push_diffs-clause-stops : goal.returns-in_err-push_diffs-clause-stops
returns-in_err-push_diffs-clause-stops g c =
    handed_late c.in_err-push_diffs.field-0.0 c.from_residual.result c.from_residual.ensures.1 c.in_err-push_diffs.ensures.stops

pub returns-in_err-push_diffs-clause-faults : goal.returns-in_err-push_diffs-clause-faults
returns-in_err-push_diffs-clause-faults g c =
    handed_reads (g.F.Files.told c.args.files.now) (g.F.Files.told c.push_diffs.new.files) c.in_err-push_diffs.field-0.0 c.from_residual.result
    c.from_residual.ensures.1 c.in_err-push_diffs.ensures.faults

pub returns-clause-text : goal.returns-clause-text
returns-clause-text g c = c.in_ok-push_diffs.ensures.text
