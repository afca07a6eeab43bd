use Rattle.std.proofs.Common.{◌≡◌, ℕ, List, take}
use Rattle.std.specs.List.{list_any}
use Rattle.std.specs.Str.{bytes_eq}
use Rattle.line_shape.specs.MacroLine.{spellings}
use Rattle.macro_body.specs.Hides.{hides_name}
use Rattle.macro_body.proofs.name_parts.known_among.Given as goal

abbrev pub invariant-loop-name : goal.invariant-loop-name
invariant-loop-name l = (name : List ℕ) → list_any (λ k. bytes_eq name k.items) l.known.keys ≡ hides_name (spellings (take l.name-index l.names)) name
