use Rattle.std.proofs.Common.{◌≡◌, ◌+◌, ◌++◌, ◌∙◌, drop, refl, arith}
use Rattle.unit_checks.specs.Checked.{count_from, lines_from, unit_count, unit_line}
use Rattle.unit_checks.proofs.CountLemmas.{count_end, count_next, lines_end, lines_next}
use Rattle.unit_checks.proofs.HeldLemmas.{handed_held, handed_reads, held_all, held_both, held_then}
use Rattle.unit_checks.proofs.checking.push_units.Goals as goal

pub loop-i-init : goal.loop-i-init
loop-i-init g c =
    let told = (g.F.Files.told c.args.files.now).held in
    let text = c.args.text.now.items in
    let units = c.args.units.now in
    record {
      told = refl;
      few = omega arith;
      lines = held_all told (λ source. text ++ lines_from source 1 units ≡ text ++ lines_from source 1 units) (λ source. refl);
      count = held_all told (λ source. 0 + count_from source 1 units ≡ count_from source 1 units) (λ source. omega arith);
    }

pub loop-i-preserved : goal.loop-i-preserved
loop-i-preserved g c =
    let i = c.loop-i.invariant in
    let told = (g.F.Files.told c.args.files.now).held in
    let units = c.args.units.now in
    let k = c.loop-i.i in
    let unit = c.index-units-i.result in
    let line = rw i.told at c.in_ok-count.ensures.line in
    let count = rw i.told at c.in_ok-count.ensures.count in
    record {
      told = c.in_ok-count.ensures.faults.told ∙ i.told;
      few = omega (arith, i.few, c.in_ok-count.ensures.one);
      lines = held_both told
          (λ source. c.loop-i.text.items ++ lines_from source (k + 1) (drop k units) ≡ c.args.text.now.items ++ lines_from source 1 units)
          (λ source. c.push_unit.new.text.items ≡ c.loop-i.text.items ++ unit_line source (k + 1) unit)
          (λ source. c.push_unit.new.text.items ++ lines_from source (k + 1 + 1) (drop (k + 1) units) ≡ c.args.text.now.items ++ lines_from source 1 units)
          i.lines line
          (λ source so_far here.
          lines_next source units k unit c.loop-i-test.true c.index-units-i.is c.loop-i.text.items c.push_unit.new.text.items
          (c.args.text.now.items ++ lines_from source 1 units) so_far here);
      count = held_both told (λ source. c.loop-i.accepted + count_from source (k + 1) (drop k units) ≡ count_from source 1 units)
          (λ source. c.in_ok-count.count ≡ unit_count source (k + 1) unit)
          (λ source. (c.loop-i.accepted + c.in_ok-count.count) + count_from source (k + 1 + 1) (drop (k + 1) units) ≡ count_from source 1 units) i.count count
          (λ source so_far here.
          count_next source units k unit c.loop-i-test.true c.index-units-i.is c.loop-i.accepted c.in_ok-count.count (count_from source 1 units) so_far here);
    }

pub returns-clause-lines : goal.returns-clause-lines
returns-clause-lines g c =
    let units = c.args.units.now in
    let k = c.loop-i.i in
    held_then (g.F.Files.told c.args.files.now).held
    (λ source. c.loop-i.text.items ++ lines_from source (k + 1) (drop k units) ≡ c.args.text.now.items ++ lines_from source 1 units)
    (λ source. c.loop-i.text.items ≡ c.args.text.now.items ++ lines_from source 1 units) c.loop-i.invariant.lines
    (λ source so_far. lines_end source units k c.loop-i-test.false c.loop-i.text.items (c.args.text.now.items ++ lines_from source 1 units) so_far)

pub returns-clause-count : goal.returns-clause-count
returns-clause-count g c =
    let units = c.args.units.now in
    let k = c.loop-i.i in
    held_then (g.F.Files.told c.args.files.now).held (λ source. c.loop-i.accepted + count_from source (k + 1) (drop k units) ≡ count_from source 1 units)
    (λ source. c.loop-i.accepted ≡ count_from source 1 units) c.loop-i.invariant.count
    (λ source so_far. count_end source units k c.loop-i-test.false c.loop-i.accepted (count_from source 1 units) so_far)

pub returns-in_err-count-clause-lines : goal.returns-in_err-count-clause-lines
returns-in_err-count-clause-lines g c =
    handed_held (g.F.Files.told c.args.files.now).held (λ source count. c.push_unit.new.text.items ≡ c.args.text.now.items ++ lines_from source 1 c.args.units.now) _
    c.from_residual.result c.from_residual.ensures.1

pub returns-in_err-count-clause-count : goal.returns-in_err-count-clause-count
returns-in_err-count-clause-count g c =
    handed_held (g.F.Files.told c.args.files.now).held (λ source count. count ≡ count_from source 1 c.args.units.now) _ c.from_residual.result
    c.from_residual.ensures.1

pub returns-in_err-count-clause-faults : goal.returns-in_err-count-clause-faults
returns-in_err-count-clause-faults g c =
    let reads = rw c.loop-i.invariant.told at c.in_err-count.ensures.faults in
    handed_reads (g.F.Files.told c.args.files.now) (g.F.Files.told c.push_unit.new.files) _ c.from_residual.result c.from_residual.ensures.1 reads
