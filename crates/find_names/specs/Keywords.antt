-- Keywords of the standards of a workspace's units (ISO/IEC 9899:1999, 6.4.1; ISO/IEC 9899:2011, 6.4.1); GNU C has the
-- words of both, and more.
use Rattle.std.specs.Prelude.{ℕ, ◌||◌, Bool, List}
use Rattle.std.specs.List.{list_any}
use Rattle.std.specs.Str.{bytes_eq}
use Rattle.cs_base.specs.declared.ws_units.Standard.{Standard}
use Rattle.cs_base.specs.declared.ws_units.Standard.TheVariants.{C99, C11, Gnu99, Gnu11}
use Rattle.cs_base.specs.Reserved.{is_word_of_gnu, keywords_of_c11, keywords_to_end, keywords_to_if, keywords_to_struct}
use Rattle.cs_base.specs.Units.{UnitValue}

-- a keyword of either standard. `unfoldable`, since the table would stand in every goal above.
unfoldable pub is_old_keyword : List ℕ → Bool
is_old_keyword text =
    list_any (bytes_eq text) keywords_to_if
    || list_any (bytes_eq text) keywords_to_struct
    || list_any (bytes_eq text) keywords_to_end

abbrev pub is_keyword_of : List ℕ → Standard → Bool
is_keyword_of text C99 = is_old_keyword text
is_keyword_of text C11 = is_old_keyword text || list_any (bytes_eq text) keywords_of_c11
is_keyword_of text Gnu99 = is_old_keyword text || list_any (bytes_eq text) keywords_of_c11 || is_word_of_gnu text
is_keyword_of text Gnu11 = is_old_keyword text || list_any (bytes_eq text) keywords_of_c11 || is_word_of_gnu text

-- a keyword of the standard of some unit
abbrev pub is_keyword : List UnitValue → List ℕ → Bool
is_keyword units text = list_any (λ (u : UnitValue). is_keyword_of text u.standard) units
