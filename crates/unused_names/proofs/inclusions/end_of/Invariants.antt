use Rattle.std.proofs.Common.{◌≡◌, ◌≤◌, drop}
use Rattle.unused_names.specs.Inclusions.{end_from, end_of}
use Rattle.unused_names.proofs.inclusions.end_of.Given as goal

abbrev pub invariant-loop-number : goal.invariant-loop-number
invariant-loop-number l = record {
  rest : end_from l.number l.inner (drop l.number l.events) ≡ end_of l.events l.k;
  few : l.inner ≤ l.number;
}
