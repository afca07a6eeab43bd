-- Lines, and files in which they are null directives, as code holds them.
use Rattle.std.specs.Prelude.{ℕ, ◌≡◌, ◌≤◌, ◌<◌, ◌+◌, Bool, Option, Some, None, List, [], ◌∷◌}
use Rattle.cs_base.specs.declared.positions.Pos.{Pos}
use Rattle.cs_base.specs.Edit.{Edit, edit}
use Rattle.analysis.specs.Below.source_files.KeptFiles.{KeptValue}
use Rattle.trim_rules.specs.declared.trimming.TrimmedFile.{TrimmedFile}
use Rattle.trim_rules.specs.Trimmed.{is_line}

-- a set has the positions of these lines
abbrev pub AgreeOn : (Pos → Bool) → List Pos → Type 0
AgreeOn has lines = (p : Pos) → has p ≡ is_line lines p

-- the edit that new bytes make of a file
abbrev pub edit_made : KeptValue → Option TrimmedFile → List Edit
edit_made f None = []
edit_made f (Some t) = edit f.path t.bytes.items t.count ∷ []
