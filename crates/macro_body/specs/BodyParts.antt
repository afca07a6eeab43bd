-- Parts of replacement lists, as the program has them.
use Rattle.std.specs.Prelude.{Bool, true, false, if◌then◌else◌, List, [], ◌∷◌, ◌++◌}
use Rattle.cs_base.specs.Token.{Token}
use Rattle.macro_body.specs.Bodies.{Part, Plain, Param, Quote, Paste, Rest, is_operator, chains_in}
use Rattle.macro_body.specs.declared.chains.PartRole.{PartRole}
use Rattle.macro_body.specs.declared.chains.PartRole.TheVariants as role

-- a token in this role
abbrev pub part_as : Token → PartRole → Part
part_as t role.Plain = Plain t
part_as t (role.Param i) = Param t i
part_as t (role.Quote i) = Quote t i
part_as t role.Paste = Paste t
part_as t (role.Rest i) = Rest t i

-- chains that go on with a chain that ends in a `##`
abbrev pub goes_on : List Part → List (List Part) → List (List Part)
goes_on chain [] = chain ∷ []
goes_on chain (c ∷ cs) = (chain ++ c) ∷ cs

-- the same with the last of the chains that were read
abbrev pub onto_last : List (List Part) → List (List Part) → List (List Part)
onto_last [] more = more
onto_last (c ∷ []) more = goes_on c more
onto_last (c ∷ d ∷ cs) more = c ∷ onto_last (d ∷ cs) more

-- the chains that were read, the last of which ends in an operand, and what these parts add
abbrev pub behind_operand : List (List Part) → List Part → List (List Part)
behind_operand chains [] = chains
behind_operand chains (p ∷ ps) = if is_operator p then onto_last chains (chains_in ps) else chains ++ chains_in (p ∷ ps)

-- the chains that were read, and what these parts add: the first of them is an operand, or it stands
-- behind one
abbrev pub with_parts : Bool → List (List Part) → List Part → List (List Part)
with_parts true chains ps = onto_last chains (chains_in ps)
with_parts false chains ps = behind_operand chains ps
