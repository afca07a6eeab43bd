-- Replacement lists of which nothing is made a string and nothing is pasted.
use Rattle.std.specs.Prelude.{Bool, true, false, List, [], ◌∷◌}
use Rattle.cs_base.specs.Token.{Token}
use Rattle.macro_body.specs.Hides.{Hidden}
use Rattle.macro_body.specs.Bodies.{Part, Quote, Rest}
use Rattle.macro_body.specs.Costs.{arguments}
use Rattle.macro_body.specs.Substitution.{tokens_for}

-- no string is made of a part, and it is none of the variable arguments as they stand
abbrev pub is_kept : Part → Bool
is_kept (Quote t i) = false
is_kept (Rest t i) = false
is_kept _ = true

-- a chain is one such part
abbrev pub is_plain : List Part → Bool
is_plain (p ∷ []) = is_kept p
is_plain _ = false

-- what stands for the part of such a chain, the arguments being expanded
abbrev pub plain_for : Token → List (List Hidden) → List Part → List Hidden
plain_for name full (p ∷ []) = tokens_for name (arguments [] full) true p
plain_for name full _ = []
