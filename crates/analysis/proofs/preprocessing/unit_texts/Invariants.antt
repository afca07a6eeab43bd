use Rattle.std.proofs.Common.{◌≡◌, ◌+◌, drop, length}
use Rattle.std.specs.Prelude.{IfSome}
use Rattle.include_tree.specs.Below.source_files.Files.{Source, source_of}
use Rattle.include_tree.specs.Below.source_files.Tables.{AreFound, HasEachOnce}
use Rattle.analysis.specs.Texts.{texts_from, texts_of}
use Rattle.include_tree.specs.Fronts.{AreFronts}
use Rattle.analysis.specs.Carrying.{IsFresh}
use Rattle.analysis.proofs.TextsLemmas.{behind}
use Rattle.analysis.proofs.preprocessing.unit_texts.Given as goal

abbrev pub invariant-loop-i : goal.invariant-loop-i
invariant-loop-i g l = record {
  told : g.F.Files.told l.files ≡ g.F.Files.told l.fn.files;
  each : length l.all.items ≡ l.i;
  fresh : IsFresh (l.i + 1) l.cache.table;
  once : HasEachOnce l.cache.table;
  found : IfSome (g.F.Files.told l.fn.files).held (λ held. AreFound (source_of held) l.cache.table);
  fronts : AreFronts l.cache.table l.fronts.all.items;
  rest : (source : Source) → AreFound source l.cache.table → behind l.all.items (texts_from source (l.i + 1) (drop l.i l.units) l.cache) ≡ texts_of source l.units;
}
