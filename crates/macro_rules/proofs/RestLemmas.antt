-- The name of a rest, once some tokens of a parameter list are read.
use Rattle.std.proofs.Common.{◌≡◌, Bool, false, ◌&&◌, List, [], ◌∷◌, refl}
use Rattle.cs_base.specs.Token.{Token}
use Rattle.line_shape.specs.MacroLine.{ends_in_rest, has_named_rest}
use Rattle.line_shape.specs.Signs.{is_ellipsis, is_name}

-- what is left ends in a rest behind a name, or, where nothing is, what was read does; the last token was a name
abbrev pub ends_or : Bool → Bool → List Token → Bool
ends_or ends named [] = ends
ends_or ends named (t ∷ toks) = ends_in_rest named (t ∷ toks)

pub ends_next : (ends named : Bool) (t : Token) (toks : List Token) → ends_or ends named (t ∷ toks) ≡ ends_or (is_ellipsis t && named) (is_name t) toks
ends_next ends named t [] = refl
ends_next ends named t (u ∷ toks) = refl

pub ends_first : (toks : List Token) → ends_or false false toks ≡ has_named_rest toks
ends_first [] = refl
ends_first (t ∷ toks) = refl
