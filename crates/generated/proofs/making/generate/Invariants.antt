use Rattle.std.proofs.Common.{◌≡◌, ◌∷◌}
use Rattle.cs_base.specs.World.{empty_world}
use Rattle.generated.specs.Generated.{header_path, header_text, units_to, workspace_text}
use Rattle.generated.proofs.making.generate.Given as goal

abbrev pub invariant-loop-k : goal.invariant-loop-k
invariant-loop-k l = record {
  files : l.files ≡ record empty_world { files = (header_path, header_text) ∷ units_to l.k };
  lines : l.lines.items ≡ workspace_text l.k;
}
