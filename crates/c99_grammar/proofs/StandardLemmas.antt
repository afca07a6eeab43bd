-- What holds for each dialect.
use Rattle.std.proofs.Common.{◌≡◌, Bool, true, false, ◌&&◌, ◌++◌, refl, sym, ap, ◌∙◌}
use Rattle.std.specs.List.{list_all}
use Rattle.std.proofs.lemmas.Bool.{false≢true, and_parts}
use Rattle.std.proofs.lemmas.List.Folds.{list_all-append}
use Rattle.cs_base.specs.declared.ws_units.Standard.{Standard}
use Rattle.cs_base.specs.declared.ws_units.Standard.TheVariants as standard
use Rattle.cs_base.specs.Units.{is_gnu}
use Rattle.c99_grammar.specs.declared.dialects.Dialect.{Dialect}
use Rattle.c99_grammar.specs.declared.dialects.Dialect.TheVariants.{Iso, Gnu}
use Rattle.c99_grammar.specs.declared.dialects.Edition.{Edition}
use Rattle.c99_grammar.specs.declared.dialects.Edition.TheVariants.{C99, C11}
use Rattle.c99_grammar.specs.declared.classes.Class.{Class}
use Rattle.c99_grammar.specs.Dialects.{edition, dialect}
use Rattle.c99_grammar.specs.Spellings.{keywords, keywords_added, keywords_of}

-- what is true for each is true for any
pub by_edition : (P : Edition → Type 0) → P C99 → P C11 → (s : Edition) → P s
by_edition P c99 c11 C99 = c99
by_edition P c99 c11 C11 = c11

pub by_dialect : (P : Dialect → Type 0) → ((s : Edition) → P (Iso s)) → P Gnu → (d : Dialect) → P d
by_dialect P iso gnu (Iso s) = iso s
by_dialect P iso gnu Gnu = gnu

-- what is true of the classes of all keywords is true of those of an edition
pub keywords_fit : (P : Class → Bool) → list_all (λ w. P w.1) (keywords_of C11) ≡ true → (s : Edition) → list_all (λ w. P w.1) (keywords_of s) ≡ true
keywords_fit P h C99 =
    (and_parts (list_all (λ w. P w.1) keywords) (list_all (λ w. P w.1) keywords_added)
    (sym (list_all-append (λ w. P w.1) keywords keywords_added) ∙ h)).0
keywords_fit P h C11 = h

-- a standard of ISO/IEC 9899 is read by the grammar of its edition
pub dialect_of_edition : (s : Standard) → is_gnu s ≡ false → dialect s ≡ Iso (edition s)
dialect_of_edition standard.C99 h = refl
dialect_of_edition standard.C11 h = refl
dialect_of_edition standard.Gnu99 h = absurd (false≢true (sym h))
dialect_of_edition standard.Gnu11 h = absurd (false≢true (sym h))
