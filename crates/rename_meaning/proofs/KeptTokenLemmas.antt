-- Each token of a kept file is kept.
use Rattle.std.proofs.Common.{◌≡◌, ℕ, suc, true, false, codes, List, [], ◌∷◌, inl, inr, refl, sym, ap, ◌∙◌}
use Rattle.std.specs.Str.{bytes_eq}
use Rattle.std.proofs.lemmas.Bool.{cases_Bool, both_ways, false_from_ne_true}
use Rattle.cs_base.proofs.FileMapLemmas.{bytes_eq-equal}
use Rattle.cs_base.specs.declared.positions.Part.{Part}
use Rattle.cs_base.specs.Reserved.{is_reserved_text}
use Rattle.cs_base.specs.Token.{Token}
use Rattle.lexer.specs.Tokens.{tokens_of}
use Rattle.line_shape.specs.Signs.{is_identifier, is_name, is_va_args}
use Rattle.unit_steps.specs.Below.macro_expand.Renaming.{Renaming}
use Rattle.unit_steps.specs.Below.macro_expand.Renaming as macros
use Rattle.part_respell.specs.Respelled.{spelled}
use Rattle.analysis.specs.Analysed.{Analysed}
use Rattle.offences.specs.Tokens.{holds_member}
use Rattle.edited_unit_laws.specs.Lines.{Each, KeepsToken}
use Rattle.edited_unit_laws.proofs.FitLemmas.{fixed-other, word-back}
use Rattle.rename_meaning.specs.Allowed.{IsAllowed}
use Rattle.rename_meaning.specs.KeptTokens.{Spells, TokensAreKept, PastedTokensAreKept}
use Rattle.edited_unit_laws.proofs.ListLemmas.{In}
use Rattle.rename_meaning.proofs.NoneLemmas.{NoneStand, none_stand, holder, holder_free, holder_name}
use Rattle.rename_meaning.proofs.ApartLemmas.{IsParted, parted_of, parted_stays, file_told, pasted_parted}

defined_reserved : is_reserved_text (codes "defined") ≡ true
unfolding is_reserved_text
defined_reserved = refl

va_args_reserved : is_reserved_text (codes "__VA_ARGS__") ≡ true
unfolding is_reserved_text
va_args_reserved = refl

va_opt_reserved : is_reserved_text (codes "__VA_OPT__") ≡ true
unfolding is_reserved_text
va_opt_reserved = refl

header_reserved : is_reserved_text (codes "__has_include") ≡ true
unfolding is_reserved_text
header_reserved = refl

next_reserved : is_reserved_text (codes "__has_include_next") ≡ true
unfolding is_reserved_text
next_reserved = refl

-- a text that is not reserved is none that is
pub other_word : (word text : List ℕ) → is_reserved_text word ≡ true → is_reserved_text text ≡ false → bytes_eq text word ≡ false
other_word word text reserved free =
    false_from_ne_true (bytes_eq text word) (λ same.
    both_ways (is_reserved_text text) free (ap is_reserved_text (bytes_eq-equal text word same) ∙ reserved))

module _ (a : Analysed) (members : List Part) (name : List ℕ) (r : Renaming) (h : IsAllowed a members name) (spells : Spells members name r) where
  none : NoneStand a.value members name
  none = none_stand a.value members name h.first

  new_text : (t : Token) → IsParted a.value members t → macros.spelled r t ≡ spelled members name t
  new_text t told = spells t told.each

  -- what holds no member stays
  pub free_same : (t : Token) → IsParted a.value members t → holds_member members t ≡ false → macros.spelled r t ≡ t.text
  free_same t told free = new_text t told ∙ parted_stays a.value members name none t told free

  -- a reserved word stays, and none is made
  reserved_kept : (word : List ℕ) (t : Token) → is_reserved_text word ≡ true → IsParted a.value members t
      → bytes_eq (macros.spelled r t) word ≡ bytes_eq t.text word
  reserved_kept word t reserved told = elim (cases_Bool (holds_member members t)) [
    | inl held ↦
        let free = holder_free a.value members name none t (holder a.value members name none t (told.parted held) held) held in
        ap (λ (w : List ℕ). bytes_eq w word) (new_text t told) ∙ other_word word (spelled members name t) reserved free.1
        ∙ sym (other_word word t.text reserved free.0)
    | inr free ↦ ap (λ (w : List ℕ). bytes_eq w word) (free_same t told free)
  ]

  pub other_same : (t : Token) → IsParted a.value members t → is_name t ≡ false → macros.spelled r t ≡ t.text
  other_same t told other = elim (cases_Bool (holds_member members t)) [
    | inl held ↦
        absurd (both_ways (is_name t) other (holder_name a.value members name none t (holder a.value members name none t (told.parted held) held) held))
    | inr free ↦ free_same t told free
  ]

  pub told_kept : (t : Token) → IsParted a.value members t → KeepsToken r t
  unfolding is_va_args
  told_kept t told = record {
    others = λ fixed. other_same t told (fixed-other t.kind fixed);
    asks = word-back (is_identifier t.kind) (bytes_eq (macros.spelled r t) (codes "defined")) (bytes_eq t.text (codes "defined")) (reserved_kept (codes "defined") t defined_reserved told);
    rest = word-back (is_identifier t.kind) (bytes_eq (macros.spelled r t) (codes "__VA_ARGS__")) (bytes_eq t.text (codes "__VA_ARGS__")) (reserved_kept (codes "__VA_ARGS__") t va_args_reserved told);
    opts = word-back (is_identifier t.kind) (bytes_eq (macros.spelled r t) (codes "__VA_OPT__")) (bytes_eq t.text (codes "__VA_OPT__")) (reserved_kept (codes "__VA_OPT__") t va_opt_reserved told);
    header = word-back (is_identifier t.kind) (bytes_eq (macros.spelled r t) (codes "__has_include")) (bytes_eq t.text (codes "__has_include")) (reserved_kept (codes "__has_include") t header_reserved told);
    next = word-back (is_identifier t.kind) (bytes_eq (macros.spelled r t) (codes "__has_include_next")) (bytes_eq t.text (codes "__has_include_next")) (reserved_kept (codes "__has_include_next") t next_reserved told);
  }

-- a fact of each element, in the words of laws of texts
pub each_of : {X : Type 0} (P : X → Type 0) (xs : List X) → ((x : X) → In x xs → P x) → Each P xs
each_of P [] h = tt
each_of P (x ∷ xs) h = (h x (0, refl), each_of P xs (λ y i. h y (suc i.0, i.1)))

pub tokens_are_kept : TokensAreKept
tokens_are_kept = λ a members name r h spells n f is.
    each_of (KeepsToken r) (tokens_of f.number f.bytes) (λ t i. told_kept a members name r h spells t (parted_of a.value members t (file_told a members name h n f is t i)))

pub pasted_tokens_are_kept : PastedTokensAreKept
pasted_tokens_are_kept = λ a members name r h spells t p. told_kept a members name r h spells t (pasted_parted a members name h t p)
