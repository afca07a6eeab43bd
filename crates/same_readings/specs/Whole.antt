-- Texts of which one spelling becomes another wherever it stands (this project's).
use Rattle.std.specs.Prelude.{ℕ, Bool, true, false, ◌&&◌, ◌||◌, not, if◌then◌else◌, List, [], ◌∷◌, ◌==◌}
use Rattle.std.specs.Char.{is_ascii_alphabetic}
use Rattle.std.specs.Str.{bytes_eq}
use Rattle.cs_base.specs.declared.tokens.Kind.{Kind}
use Rattle.cs_base.specs.declared.tokens.Kind.TheVariants.{Ident}
use Rattle.cs_base.specs.Reserved.{is_reserved_in}
use Rattle.cs_base.specs.Token.{Token}
use Rattle.gnu_bind.specs.Words.{is_word_attribute}

-- it begins as an identifier does (ISO/IEC 9899:1999, 6.4.2.1)
abbrev pub begins_as_name : List ℕ → Bool
begins_as_name [] = false
begins_as_name (c ∷ more) = is_ascii_alphabetic c || c == 95

-- A spelling that neither reading nor binding asks for by itself: it begins so, is not reserved, and is no name of an
-- attribute whose first argument is a word.
abbrev pub is_free : List ℕ → Bool
is_free text = begins_as_name text && (not (is_reserved_in true text) && not (is_word_attribute text))

abbrev pub is_identifier_kind : Kind → Bool
is_identifier_kind Ident = true
is_identifier_kind _ = false

-- An identifier of the old spelling gets the new one; each other token keeps its own, which is not the new one.
abbrev pub goes_along : List ℕ → List ℕ → Token → Token → Bool
goes_along old new t u =
    if bytes_eq t.text old then is_identifier_kind t.kind && bytes_eq u.text new
    else bytes_eq u.text t.text && not (bytes_eq t.text new)

-- so it is with each token of two texts
abbrev pub all_go : List ℕ → List ℕ → List Token → List Token → Bool
all_go old new [] [] = true
all_go old new [] (u ∷ us) = false
all_go old new (t ∷ ts) [] = false
all_go old new (t ∷ ts) (u ∷ us) = goes_along old new t u && all_go old new ts us

module _ (before after : List Token) where
  -- the one spelling becomes the other wherever it stands, and both are free
  abbrev pub goes_as : List ℕ → List ℕ → Bool
  goes_as old new = is_free old && (is_free new && all_go old new before after)

  -- it is so with the first spelling that changes among these tokens, if one does
  abbrev pub whole_from : List Token → List Token → Bool
  whole_from [] [] = true
  whole_from [] (u ∷ us) = false
  whole_from (t ∷ ts) [] = false
  whole_from (t ∷ ts) (u ∷ us) = if bytes_eq t.text u.text then whole_from ts us else goes_as t.text u.text

-- No token of a text is respelled, or one spelling becomes another wherever it stands, that stood nowhere.
abbrev pub goes_whole : List Token → List Token → Bool
goes_whole before after = whole_from before after before after
