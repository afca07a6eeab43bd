use Rattle.std.proofs.Common.{◌≡◌, ◌++◌, length}
use Rattle.std.specs.List.{flat_map}
use Rattle.rename_rules.specs.Runs.{edit_of, runs, AreApart}
use Rattle.rename_rules.specs.FileOrder.{AreByPath, ComeBehind}
use Rattle.rename_rules.proofs.edits.edit_files.Given as goal

abbrev pub invariant-files : goal.invariant-files
invariant-files l = record {
  apart : AreApart l.rest;
  by_path : AreByPath l.a.value.table l.rest;
  behind : ComeBehind l.a.value.table l.edits l.rest;
  made : l.edits ++ flat_map (edit_of l.a.value l.name) (runs l.rest) ≡ flat_map (edit_of l.a.value l.name) (runs l.members);
}

abbrev pub decreases-files : goal.decreases-files
decreases-files l = length l.rest
