use Rattle.std.proofs.Common.{◌≡◌, ◌+◌, ◌≤◌, ◌++◌, drop}
use Rattle.unit_checks.specs.Answers.{OverHeld}
use Rattle.unit_checks.specs.Checked.{count_from, lines_from}
use Rattle.unit_checks.proofs.checking.push_units.Given as goal

abbrev pub invariant-loop-i : goal.invariant-loop-i
invariant-loop-i g l = record {
  told : g.F.Files.told l.files ≡ g.F.Files.told l.fn.files;
  few : l.accepted ≤ l.i;
  lines : OverHeld (g.F.Files.told l.fn.files).held (λ source.
      l.text.items ++ lines_from source (l.i + 1) (drop l.i l.units) ≡ l.initial.text.items ++ lines_from source 1 l.units);
  count : OverHeld (g.F.Files.told l.fn.files).held (λ source. l.accepted + count_from source (l.i + 1) (drop l.i l.units) ≡ count_from source 1 l.units);
}
