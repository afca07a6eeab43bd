-- What is no word of GNU C is no keyword of any standard.
use Rattle.std.proofs.Common.{◌≡◌, ℕ, Bool, true, false, ◌||◌, List, [], ◌∷◌, refl, sym}
use Rattle.std.specs.List.{list_any}
use Rattle.std.specs.Str.{bytes_eq}
use Rattle.std.proofs.lemmas.Bool.{false≢true}
use Rattle.cs_base.specs.declared.ws_units.Standard.{Standard}
use Rattle.cs_base.specs.declared.ws_units.Standard.TheVariants.{C99, C11, Gnu99, Gnu11}
use Rattle.cs_base.specs.Reserved.{is_word_of_gnu, keywords_of_c11}
use Rattle.cs_base.specs.Units.{UnitValue}
use Rattle.find_names.specs.Keywords.{is_keyword, is_keyword_of, is_old_keyword}

none_of : (a b c : Bool) → (a || b || c) ≡ false → (a ≡ false) × (b ≡ false)
none_of true b c h = absurd (false≢true (sym h))
none_of false true c h = absurd (false≢true (sym h))
none_of false false c h = (refl, refl)

no_word : (text : List ℕ) (standard : Standard) → is_keyword_of text Gnu11 ≡ false → is_keyword_of text standard ≡ false
no_word text C99 none = (none_of (is_old_keyword text) (list_any (bytes_eq text) keywords_of_c11) (is_word_of_gnu text) none).0
no_word text C11 none =
    let parts = none_of (is_old_keyword text) (list_any (bytes_eq text) keywords_of_c11) (is_word_of_gnu text) none in
    rw (parts.0, parts.1) refl
no_word text Gnu99 none = none
no_word text Gnu11 none = none

pub no_keyword : (units : List UnitValue) (text : List ℕ) → is_keyword_of text Gnu11 ≡ false → is_keyword units text ≡ false
no_keyword [] text none = refl
no_keyword (u ∷ units) text none = rw (no_word text u.standard none) (no_keyword units text none)
