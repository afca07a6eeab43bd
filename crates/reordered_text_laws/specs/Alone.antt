-- Texts that are read by the classes of their tokens alone, since no name in them is a use of another one (ISO/IEC
-- 9899:1999, 6.7.7).
use Rattle.std.specs.Prelude.{ℕ, ◌≡◌, ◌-◌, true, List, length, Option, None, Some, Ok, Err}
use Rattle.std.specs.Str.{bytes_eq}
use Rattle.cs_base.specs.Token.{Token}
use Rattle.c99_tree.specs.declared.production.Production.TheVariants.{TranslationUnit}
use Rattle.c99_grammar.specs.Standard.{Grammar}
use Rattle.c99_read.specs.State.{base_at, spelling_at, is_identifier}
use Rattle.c99_read.specs.Reading.{Step, produce, read_within, at_first}
use Rattle.reordered_text_laws.specs.ByClasses.{Taken, untold, numbers_from, read_by_classes}

-- each identifier is spelled as no other token
abbrev pub AreAlone : Grammar → List Token → Type 0
AreAlone g toks = (i j : ℕ) → is_identifier (base_at g toks i) ≡ true → bytes_eq (spelling_at toks i) (spelling_at toks j) ≡ true → i ≡ j

-- Both stop; or both have read the same children, and the tokens behind them are left.
abbrev pub IsReadAlike : List Token → Step → Option Taken → Type 0
IsReadAlike toks (Ok s) (Some t) = (untold s.built.under ≡ t.read) × (t.left ≡ numbers_from s.at (length toks - s.at))
IsReadAlike toks (Ok s) None = ⊥
IsReadAlike toks (Err stop) (Some t) = ⊥
IsReadAlike toks (Err stop) None = Unit {0}

-- By any grammar such a text is read as the classes of its tokens are, in as many steps.
abbrev pub TextsAloneAreReadByClasses : Type 0
TextsAloneAreReadByClasses =
    (g : Grammar) (toks : List Token) → AreAlone g toks → (fuel : ℕ)
    → IsReadAlike toks (read_within g fuel 0 (produce TranslationUnit) (at_first toks))
    (read_by_classes g (base_at g toks) fuel 0 (produce TranslationUnit) (numbers_from 0 (length toks)))
