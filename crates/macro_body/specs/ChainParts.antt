-- Parts of chains, as the program has them.
use Rattle.std.specs.Prelude.{List, [], ◌∷◌}
use Rattle.macro_body.specs.Bodies.{Part}
use Rattle.macro_body.specs.declared.chains.Parts.{Parts}
use Rattle.macro_body.specs.declared.chains.Parts.TheVariants as parts

-- the parts of a chain, one of which lies in it
abbrev pub parts_in : Parts → List Part
parts_in (parts.Lone p) = p ∷ []
parts_in (parts.Joined ps) = ps.items
