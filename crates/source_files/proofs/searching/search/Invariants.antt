use Rattle.std.proofs.Common.{◌≡◌, drop}
use Rattle.source_files.specs.Files.{Source}
use Rattle.source_files.specs.Tables.{AreFound, OnlyAsks}
use Rattle.source_files.specs.Search.{search}
use Rattle.source_files.proofs.searching.search.Given as goal

abbrev pub invariant-loop-i : goal.invariant-loop-i
invariant-loop-i g l = record {
  told : g.F.Files.told l.files ≡ g.F.Files.told l.fn.files;
  answer : (source : Source) → AreFound source l.cache.table → search source l.paths l.fn.cache.table ≡ search source (drop l.i l.paths) l.cache.table;
  only : OnlyAsks (g.F.Files.told l.fn.files).held l.fn.cache.table l.cache.table;
  toks : l.cache.toks ≡ l.fn.cache.toks;
}
