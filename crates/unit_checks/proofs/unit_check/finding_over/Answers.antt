use Rattle.std.proofs.Common.{◌≡◌, ◌<◌, ◌^◌, arith, subst}
use Rattle.cs_base.specs.Outside.{ReadsOnly}
use Rattle.include_tree.specs.Below.unit_steps.Texts.{UnitTextValue}
use Rattle.unit_checks.specs.Findings.{unit_finding}
use Rattle.unit_checks.proofs.HeldLemmas.{before_reads, handed_held, memory_reads}
use Rattle.unit_checks.proofs.UnitLemmas.{fault_over, text_over}
use Rattle.unit_checks.proofs.unit_check.finding_over.Goals as goal

pub returns-in_ok-text_finding-in-Ok-clause-answer : goal.returns-in_ok-text_finding-in-Ok-clause-answer
returns-in_ok-text_finding-in-Ok-clause-answer g c =
    let few : c.args.number < 2 ^ 32 = omega arith in
    text_over (g.F.Files.told c.args.files.now).held c.args.number c.args.unit.now c.args.cache.now c.preprocess.new.cache c.requires few c.in-Ok.ensures.found
    c.in-Ok.text _ c.in-Ok.ensures.answer c.in_ok-text_finding-in-Ok.ensures

pub returns-in_err-text_finding-in-Ok-clause-answer : goal.returns-in_err-text_finding-in-Ok-clause-answer
returns-in_err-text_finding-in-Ok-clause-answer g c =
    handed_held (g.F.Files.told c.args.files.now).held (λ source f. f ≡ unit_finding source c.args.number c.args.unit.now) _ c.from_residual.result
    c.from_residual.ensures.1

pub returns-in_err-text_finding-in-Ok-clause-faults : goal.returns-in_err-text_finding-in-Ok-clause-faults
returns-in_err-text_finding-in-Ok-clause-faults g c =
    memory_reads (g.F.Files.told c.args.files.now) (g.F.Files.told c.preprocess.new.files) c.from_residual.result c.from_residual.ensures.1
    c.in-Ok.ensures.faults

pub returns-in-Err-clause-answer : goal.returns-in-Err-clause-answer
returns-in-Err-clause-answer g c =
    let few : c.args.number < 2 ^ 32 = omega arith in
    rw c.fault_finding.ensures
    (fault_over (g.F.Files.told c.args.files.now).held c.args.number c.args.unit.now c.args.cache.now c.preprocess.new.cache c.requires few
    c.in-Err.ensures.found c.in-Err.fault c.in-Err.ensures.answer)

pub returns-in-Err-clause-faults : goal.returns-in-Err-clause-faults
returns-in-Err-clause-faults g c =
    rw c.fault_finding.ensures
    (subst (ReadsOnly (g.F.Files.told c.args.files.now) (g.F.Files.told c.preprocess.new.files)) (before_reads UnitTextValue c.in-Err.fault)
    c.in-Err.ensures.faults)
