-- The tokens that mean something in a directive line (ISO/IEC 9899:1999, 6.10, 6.10.3, 6.4.6).
use Rattle.std.specs.Prelude.{ℕ, Bool, true, false, ◌&&◌, ◌||◌, List, codes}
use Rattle.std.specs.Str.{bytes_eq}
use Rattle.cs_base.specs.declared.tokens.Kind.{Kind}
use Rattle.cs_base.specs.declared.tokens.Kind.TheVariants.{Ident, Punct}
use Rattle.cs_base.specs.Token.{Token}

abbrev pub is_identifier : Kind → Bool
is_identifier Ident = true
is_identifier _ = false

abbrev pub is_punctuator : Kind → Bool
is_punctuator Punct = true
is_punctuator _ = false

-- an identifier (6.4.2)
abbrev pub is_name : Token → Bool
is_name t = is_identifier t.kind

-- an identifier with this spelling
abbrev pub is_word : List ℕ → Token → Bool
is_word spelling t = is_identifier t.kind && bytes_eq t.text spelling

-- a punctuator with this spelling (6.4.6)
abbrev pub is_sign : List ℕ → Token → Bool
is_sign spelling t = is_punctuator t.kind && bytes_eq t.text spelling

-- `#`, or the digraph that behaves as it does (6.4.6 paragraph 3)
unfoldable pub is_hash : Token → Bool
is_hash t = is_sign (codes "#") t || is_sign (codes "%:") t

-- `##`, or the digraph that behaves as it does (6.4.6 paragraph 3)
unfoldable pub is_paste : Token → Bool
is_paste t = is_sign (codes "##") t || is_sign (codes "%:%:") t

unfoldable pub is_open : Token → Bool
is_open t = is_sign (codes "(") t

unfoldable pub is_close : Token → Bool
is_close t = is_sign (codes ")") t

unfoldable pub is_comma : Token → Bool
is_comma t = is_sign (codes ",") t

-- `...` in a parameter list (6.10.3 paragraph 10)
unfoldable pub is_ellipsis : Token → Bool
is_ellipsis t = is_sign (codes "...") t

-- `__VA_ARGS__`, which stands for the arguments at `...` (6.10.3 paragraph 5, 6.10.3.1 paragraph 2)
unfoldable pub is_va_args : Token → Bool
is_va_args t = is_word (codes "__VA_ARGS__") t

-- an identifier that is no macro's name (6.10.8 paragraph 4, 6.10.3 paragraph 5)
unfoldable pub is_unfit_name : Token → Bool
is_unfit_name t = is_word (codes "defined") t || is_va_args t
