-- What stands against a `define` line, and the ends of a replacement list by number.
use Rattle.std.proofs.Common.{◌≡◌, ℕ, zero, suc, ◌+◌, ◌<◌, Bool, false, List, [], ◌∷◌, length, get_or, drop, refl, ap, sym, ◌∙◌, inl, inr, arith}
use Rattle.std.specs.Prelude.{Option, Some, None, is_none}
use Rattle.std.proofs.lemmas.Bool.{cases_Bool}
use Rattle.cs_base.specs.Token.{Token}
use Rattle.cs_base.specs.declared.causes.Cause.{Cause}
use Rattle.cs_base.specs.declared.causes.Cause.TheVariants.{BadParameters, BadHash, BadPaste, BadVaArgs}
use Rattle.line_shape.specs.declared.items.ItemKind.TheVariants.{Define, Undef}
use Rattle.line_shape.specs.Signs.{is_name, is_paste, is_unfit_name}
use Rattle.line_shape.specs.MacroLine.{MacroParts, macro_of}
use Rattle.line_shape.specs.BadLines.{begins_with, ends_with, has_end_paste, has_bad_hash, has_bad_va_args, has, first_of, cause_on}
use Rattle.line_shape.specs.Walk.{body_cause, definition_cause}

begins_with-get_or : (test : Token → Bool) (xs : List Token) (d : Token) → 0 < length xs → begins_with test xs ≡ test (get_or xs 0 d)
begins_with-get_or test [] d some = absurd (omega arith)
begins_with-get_or test (x ∷ xs) d some = refl

ends_with-get_or : (test : Token → Bool) (xs : List Token) (k : ℕ) (d : Token) → k + 1 ≡ length xs → ends_with test xs ≡ test (get_or xs k d)
ends_with-get_or test [] k d last = absurd (omega arith)
ends_with-get_or test (x ∷ []) zero d last = refl
ends_with-get_or test (x ∷ []) (suc k) d last = absurd (omega arith)
ends_with-get_or test (x ∷ y ∷ xs) zero d last = absurd (omega arith)
ends_with-get_or test (x ∷ y ∷ xs) (suc k) d last = ends_with-get_or test (y ∷ xs) k d (omega arith)

-- the first token is no `##`, so the last one decides
pub has_end_paste-last : (body : List Token) (k : ℕ) (first last : Token) → k + 1 ≡ length body
    → first ≡ get_or body 0 first → is_paste first ≡ false → last ≡ get_or body k last → has_end_paste body ≡ is_paste last
has_end_paste-last body k first last end first_is other last_is =
    let begins : begins_with is_paste body ≡ false = begins_with-get_or is_paste body first (omega arith) ∙ ap is_paste (sym first_is) ∙ other in
    rw begins (ends_with-get_or is_paste body k last end ∙ ap is_paste (sym last_is))

-- ---- what stands against a `define` line

-- the rows of a macro definition, behind those of its name
abbrev definition_rows : Option MacroParts → List (Cause × Bool)
definition_rows m =
    (BadParameters, is_none m) ∷ (BadHash, has has_bad_hash m) ∷ (BadPaste, has (λ (p : MacroParts). has_end_paste p.body) m)
    ∷ (BadVaArgs, has has_bad_va_args m) ∷ []

first_of-definition : (m : Option MacroParts) → first_of (definition_rows m) ≡ definition_cause m
unfolding body_cause
first_of-definition None = refl
first_of-definition (Some m) = refl

-- what stands against an `undef` line stands against a `define` line, and else what stands against the definition
pub cause_on-define : (operands : List Token) → cause_on Undef operands ≡ None
    → cause_on Define operands ≡ definition_cause (macro_of (drop 1 operands))
unfolding cause_on
cause_on-define operands h =
    elim (cases_Bool (begins_with is_name operands)) [
      | inr other ↦ absurd (let bad = rw other at h in cc)
      | inl name ↦ elim (cases_Bool (begins_with is_unfit_name operands)) [
        | inl unfit ↦ absurd (let bad = rw (name, unfit) at h in cc)
        | inr fit ↦ rw (name, fit) (first_of-definition (macro_of (drop 1 operands)))
      ]
    ]
