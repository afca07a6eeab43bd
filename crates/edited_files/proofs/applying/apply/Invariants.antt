use Rattle.std.proofs.Common.{◌≡◌, take}
use Rattle.std.specs.Option.{option_map}
use Rattle.cs_base.specs.Edit.{with_edits}
use Rattle.edited_files.proofs.applying.apply.Given as goal

abbrev pub invariant-loop-k : goal.invariant-loop-k
invariant-loop-k g l = record {
  held : (g.F.Files.told l.files).held ≡ option_map (with_edits (take l.k l.edits)) (g.F.Files.told l.initial.files).held;
  reads : (g.F.Files.told l.files).reads ≡ (g.F.Files.told l.initial.files).reads;
  puts : (g.F.Files.told l.files).puts ≡ (g.F.Files.told l.initial.files).puts;
  last : (g.F.Files.told l.files).last ≡ (g.F.Files.told l.initial.files).last;
}
