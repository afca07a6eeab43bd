use Rattle.std.proofs.Common.{◌≡◌, ◌+◌, ◌≤◌, length}
use Rattle.std.specs.Prelude.{min, Option}
use Rattle.std.specs.List.{flat_map}
use Rattle.cs_base.specs.declared.causes.Cause.TheVariants as cause
use Rattle.offences.specs.declared.firsts.Offence.{Offence}
use Rattle.offences.specs.First.{standing, FirstThen}
use Rattle.rename_rules.specs.Offences.{large_place}
use Rattle.rename_rules.specs.Runs.{most_size, new_sizes, runs, AreApart}
use Rattle.rename_rules.proofs.sizes.with_runs.Given as goal

abbrev pub invariant-files : goal.invariant-files
invariant-files l =
    record {
      apart : AreApart l.rest;
      within : l.now.total ≤ most_size;
      total : min (l.now.total + new_sizes l.a.value l.name (runs l.rest)) most_size ≡ min (l.initial.now.total + new_sizes l.a.value l.name (runs l.members)) most_size;
      first : (last : Option Offence)
          → FirstThen l.a.value.table (standing cause.TooLarge (flat_map (large_place l.a.value l.name) (runs l.rest))) l.now.first last
          → FirstThen l.a.value.table (standing cause.TooLarge (flat_map (large_place l.a.value l.name) (runs l.members))) l.initial.now.first last;
    }

abbrev pub decreases-files : goal.decreases-files
decreases-files l = length l.rest
