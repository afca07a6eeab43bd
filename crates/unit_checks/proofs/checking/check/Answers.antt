use Rattle.std.proofs.Common.{◌≡◌, ◌++◌, length}
use Rattle.std.specs.Prelude.{nat_lt}
use Rattle.unit_checks.specs.Checked.{check_text, count_from, lines_from, some_refused}
use Rattle.unit_checks.proofs.CountLemmas.{whole_refused, whole_text}
use Rattle.unit_checks.proofs.HeldLemmas.{handed_held, handed_reads, held_both, held_then, memory_reads}
use Rattle.unit_checks.proofs.checking.check.Goals as goal

pub returns-clause-text : goal.returns-clause-text
returns-clause-text g c =
    let units = c.units-units.result.now in
    held_both (g.F.Files.told c.args.files.now).held
    (λ source. c.push_units.new.text.items ≡ c.new-text.result.items ++ lines_from source 1 units)
    (λ source. c.in_ok-accepted.accepted ≡ count_from source 1 units)
    (λ source. c.push_accepted.new.text.items ≡ check_text source c.args.ws.now) c.in_ok-accepted.ensures.lines c.in_ok-accepted.ensures.count
    (λ source lines count.
    whole_text c.args.ws.now units source c.new-text.result.items c.push_units.new.text.items c.push_accepted.new.text.items c.in_ok-accepted.accepted
    c.units-units.ensures.answer c.new-text.ensures.items lines count c.in_ok-push_accepted.ensures)

pub returns-clause-refused : goal.returns-clause-refused
returns-clause-refused g c =
    let units = c.units-units.result.now in
    held_then (g.F.Files.told c.args.files.now).held (λ source. c.in_ok-accepted.accepted ≡ count_from source 1 units)
    (λ source. nat_lt c.in_ok-accepted.accepted (length units) ≡ some_refused source c.args.ws.now) c.in_ok-accepted.ensures.count
    (λ source count. whole_refused c.args.ws.now units source c.in_ok-accepted.accepted c.units-units.ensures.answer count)

pub returns-clause-faults : goal.returns-clause-faults
returns-clause-faults g c = c.in_ok-accepted.ensures.faults

pub returns-in_err-accepted-clause-text : goal.returns-in_err-accepted-clause-text
returns-in_err-accepted-clause-text g c =
    handed_held (g.F.Files.told c.args.files.now).held (λ source d. d.text.items ≡ check_text source c.args.ws.now) _ c.from_residual.result c.from_residual.ensures.1

pub returns-in_err-accepted-clause-refused : goal.returns-in_err-accepted-clause-refused
returns-in_err-accepted-clause-refused g c =
    handed_held (g.F.Files.told c.args.files.now).held (λ source d. d.refused ≡ some_refused source c.args.ws.now) _ c.from_residual.result
    c.from_residual.ensures.1

pub returns-in_err-accepted-clause-faults : goal.returns-in_err-accepted-clause-faults
returns-in_err-accepted-clause-faults g c =
    handed_reads (g.F.Files.told c.args.files.now) (g.F.Files.told c.push_units.new.files) _ c.from_residual.result c.from_residual.ensures.1
    c.in_err-accepted.ensures.faults

pub returns-in_err-push_accepted-clause-text : goal.returns-in_err-push_accepted-clause-text
returns-in_err-push_accepted-clause-text g c =
    handed_held (g.F.Files.told c.args.files.now).held (λ source d. d.text.items ≡ check_text source c.args.ws.now) _ c.from_residual-in_err-push_accepted.result c.from_residual-in_err-push_accepted.ensures.1

pub returns-in_err-push_accepted-clause-refused : goal.returns-in_err-push_accepted-clause-refused
returns-in_err-push_accepted-clause-refused g c =
    handed_held (g.F.Files.told c.args.files.now).held (λ source d. d.refused ≡ some_refused source c.args.ws.now) _ c.from_residual-in_err-push_accepted.result
    c.from_residual-in_err-push_accepted.ensures.1

pub returns-in_err-push_accepted-clause-faults : goal.returns-in_err-push_accepted-clause-faults
returns-in_err-push_accepted-clause-faults g c =
    memory_reads (g.F.Files.told c.args.files.now) (g.F.Files.told c.push_units.new.files) c.from_residual-in_err-push_accepted.result c.from_residual-in_err-push_accepted.ensures.1
    c.in_ok-accepted.ensures.faults
