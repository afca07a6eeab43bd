use Rattle.std.proofs.Common.{◌≡◌, ◌++◌, Option, [], ap, ◌∙◌}
use Rattle.std.specs.Prelude.{if◌then◌else◌, is_none}
use Rattle.std.specs.Option.{option_map_or}
use Rattle.unit_checks.specs.declared.findings.Finding.{Finding}
use Rattle.unit_checks.specs.Checked.{finding_line, unit_count, unit_line}
use Rattle.unit_checks.specs.Findings.{unit_finding}
use Rattle.unit_checks.proofs.CountLemmas.{one_of}
use Rattle.unit_checks.proofs.HeldLemmas.{handed_held, handed_reads, held_then, memory_reads}
use Rattle.unit_checks.proofs.checking.push_unit.Goals as goal

pub returns-in_err-found-clause-line : goal.returns-in_err-found-clause-line
returns-in_err-found-clause-line g c =
    handed_held (g.F.Files.told c.args.files.now).held (λ source count. c.args.text.now.items ≡ c.args.text.now.items ++ unit_line source c.args.number c.args.unit.now)
    _ c.from_residual.result c.from_residual.ensures.1

pub returns-in_err-found-clause-count : goal.returns-in_err-found-clause-count
returns-in_err-found-clause-count g c =
    handed_held (g.F.Files.told c.args.files.now).held (λ source count. count ≡ unit_count source c.args.number c.args.unit.now) _ c.from_residual.result
    c.from_residual.ensures.1

pub returns-in_err-found-clause-faults : goal.returns-in_err-found-clause-faults
returns-in_err-found-clause-faults g c =
    handed_reads (g.F.Files.told c.args.files.now) (g.F.Files.told c.unit_finding.new.files) _ c.from_residual.result c.from_residual.ensures.1
    c.in_err-found.ensures.faults

pub returns-in_err-count-clause-line : goal.returns-in_err-count-clause-line
returns-in_err-count-clause-line g c =
    handed_held (g.F.Files.told c.args.files.now).held (λ source count. c.push_found.new.text.items ≡ c.args.text.now.items ++ unit_line source c.args.number c.args.unit.now)
    _ c.from_residual-in_err-count.result c.from_residual-in_err-count.ensures.1

pub returns-in_err-count-clause-count : goal.returns-in_err-count-clause-count
returns-in_err-count-clause-count g c =
    handed_held (g.F.Files.told c.args.files.now).held (λ source count. count ≡ unit_count source c.args.number c.args.unit.now) _ c.from_residual-in_err-count.result
    c.from_residual-in_err-count.ensures.1

pub returns-in_err-count-clause-faults : goal.returns-in_err-count-clause-faults
returns-in_err-count-clause-faults g c =
    memory_reads (g.F.Files.told c.args.files.now) (g.F.Files.told c.unit_finding.new.files) c.from_residual-in_err-count.result c.from_residual-in_err-count.ensures.1
    c.in_ok-found.ensures.faults

pub returns-clause-line : goal.returns-clause-line
returns-clause-line g c =
    held_then (g.F.Files.told c.args.files.now).held (λ source. c.in_ok-found.found ≡ unit_finding source c.args.number c.args.unit.now)
    (λ source. c.push_found.new.text.items ≡ c.args.text.now.items ++ unit_line source c.args.number c.args.unit.now) c.in_ok-found.ensures.answer
    (λ source is.
    c.in_ok-count.ensures.line
    ∙ ap (λ (o : Option Finding). c.args.text.now.items ++ option_map_or (finding_line c.args.number c.args.unit.now.path) o []) is)

pub returns-clause-count : goal.returns-clause-count
returns-clause-count g c =
    held_then (g.F.Files.told c.args.files.now).held (λ source. c.in_ok-found.found ≡ unit_finding source c.args.number c.args.unit.now)
    (λ source. c.in_ok-count.count ≡ unit_count source c.args.number c.args.unit.now) c.in_ok-found.ensures.answer
    (λ source is. c.in_ok-count.ensures.count ∙ ap (λ (o : Option Finding). if is_none o then 1 else 0) is)

pub returns-clause-one : goal.returns-clause-one
returns-clause-one g c = one_of (is_none c.in_ok-found.found) c.in_ok-count.count c.in_ok-count.ensures.count

pub returns-clause-faults : goal.returns-clause-faults
returns-clause-faults g c = c.in_ok-found.ensures.faults
