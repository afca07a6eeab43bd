use Rattle.std.proofs.Common.{◌≡◌, ◌+◌, drop, length}
use Rattle.std.specs.Prelude.{IfSome}
use Rattle.include_tree.specs.Below.source_files.Files.{Source, source_of}
use Rattle.include_tree.specs.Below.source_files.Tables.{AreFound, HasEachOnce}
use Rattle.include_tree.specs.Fronts.{AreFronts}
use Rattle.analysis.specs.Analysis.{analysed_from}
use Rattle.analysis.specs.Accepting.{units_of}
use Rattle.analysis.specs.Carrying.{IsFresh}
use Rattle.analysis.specs.MadeAgain.{AreTaken, all_units}
use Rattle.analysis.proofs.UnitsLemmas.{behind}
use Rattle.analysis.proofs.accepting.accepted_units.Given as goal

abbrev pub invariant-loop-i : goal.invariant-loop-i
invariant-loop-i g l = record {
  told : g.F.Files.told l.files ≡ g.F.Files.told l.fn.files;
  each : length l.taken.kept.items + l.taken.others ≡ l.i;
  fresh : IsFresh (l.i + 1) l.cache.table;
  once : HasEachOnce l.cache.table;
  found : IfSome (g.F.Files.told l.fn.files).held (λ held. AreFound (source_of held) l.cache.table);
  fronts : AreFronts l.cache.table l.shared.all.items;
  taken : AreTaken l.cache.table l.units l.taken.kept.items l.taken.others l.taken.begins.items l.taken.brought.items;
  rest : (source : Source) → AreFound source l.cache.table → behind (all_units l.cache.table l.units l.taken.kept.items l.taken.others) (analysed_from source (l.i + 1) (drop l.i l.units) l.cache) ≡ units_of source l.units;
}
