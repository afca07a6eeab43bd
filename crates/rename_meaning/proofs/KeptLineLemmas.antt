-- Each line of a kept file is kept.
use Rattle.std.proofs.Common.{◌≡◌, ◌&&◌, ◌||◌, ℕ, Bool, true, false, cond, List, [], ◌∷◌, drop, None, inl, inr, refl, sym, ap, ◌∙◌}
use Rattle.std.specs.Prelude.{◌⊎◌}
use Rattle.std.specs.Str.{bytes_eq}
use Rattle.std.proofs.lemmas.Bool.{cases_Bool, both_ways, false_from_ne_true, and_from}
use Rattle.cs_base.proofs.FileMapLemmas.{bytes_eq-equal, bytes_eq-same}
use Rattle.cs_base.specs.declared.positions.Part.{Part}
use Rattle.cs_base.specs.Token.{Token}
use Rattle.lexer.specs.Tokens.{tokens_of, firsts_of}
use Rattle.line_shape.specs.Directives.{directive_spelled, directive_named}
use Rattle.line_shape.specs.Items.{lines_of}
use Rattle.line_shape.specs.MacroLine.{is_function_like, before_close, params_in}
use Rattle.line_shape.specs.Signs.{is_name, is_close}
use Rattle.unit_steps.specs.Below.macro_expand.Renaming.{Renaming, renamed}
use Rattle.unit_steps.specs.Below.macro_expand.Renaming as macros
use Rattle.part_respell.specs.Respelled.{spelled}
use Rattle.offences.specs.Tokens.{holds_member}
use Rattle.source_files.specs.HeaderNames.{begins_header}
use Rattle.edited_unit_laws.specs.Lines.{Each, KeepsLine, KeepsParameters, NamesAsBefore, parameters_of, asks_next, begins_pragma}
use Rattle.edited_unit_laws.proofs.StandingLemmas.{header_at-same, once-same}
use Rattle.analysis.specs.Analysed.{Analysed}
use Rattle.rename_meaning.specs.Allowed.{IsAllowed}
use Rattle.rename_meaning.specs.KeptFiles.{WordIsFree}
use Rattle.rename_meaning.specs.KeptLines.{UsesStayAlike, LineStaysAlike, LinesAreKept}
use Rattle.rename_meaning.specs.KeptTokens.{Spells}
use Rattle.edited_unit_laws.proofs.ListLemmas.{AllOf, all_of}
use Rattle.rename_meaning.proofs.NoneLemmas.{none_stand}
use Rattle.rename_meaning.proofs.ApartLemmas.{IsTold, apart, file_told, parted_of}
use Rattle.rename_meaning.proofs.KeptTokenLemmas.{free_same}
use Rattle.rename_meaning.proofs.WordLemmas.{lines_all}

-- a fact of each element in one spelling and the other
pub from_each : {X : Type 0} (P : X → Type 0) (xs : List X) → Each P xs → AllOf P xs
from_each P [] h = tt
from_each P (x ∷ xs) h = (h.0, from_each P xs h.1)

to_each : {X : Type 0} (P : X → Type 0) (xs : List X) → AllOf P xs → Each P xs
to_each P [] h = tt
to_each P (x ∷ xs) h = (h.0, to_each P xs h.1)

drop_each : {X : Type 0} (P : X → Type 0) (xs : List X) → Each P xs → Each P (drop 1 xs)
drop_each P [] h = tt
drop_each P (x ∷ xs) h = h.1

before_each : (P : Token → Type 0) (ts : List Token) → Each P ts → Each P (before_close ts)
before_each P [] h = tt
before_each P (t ∷ ts) h = elim (cases_Bool (is_close t)) [
  | inl closes ↦ rw closes tt
  | inr on ↦ rw on (h.0, before_each P ts h.1)
]

names_each : (P : Token → Type 0) (ts : List Token) → Each P ts → Each P (params_in ts)
names_each P [] h = tt
names_each P (t ∷ ts) h = elim (cases_Bool (is_name t)) [
  | inl named ↦ rw named (h.0, names_each P ts h.1)
  | inr other ↦ rw other (names_each P ts h.1)
]

-- one of two tests passes
either_true : (a b : Bool) → (a ≡ true) ⊎ (b ≡ true) → (a || b) ≡ true
either_true true b h = refl
either_true false b (inl h) = absurd (cc)
either_true false b (inr h) = h

-- facts of pairs, from what is known of each, and of those spelled alike
each_both : (P Q R : Token → Type 0) (ts : List Token) → Each P ts → Each Q ts → ((t : Token) → P t → Q t → R t) → Each R ts
each_both P Q R [] h k both = tt
each_both P Q R (t ∷ ts) h k both = (both t h.0 k.0, each_both P Q R ts h.1 k.1 both)

module _ (a : Analysed) (members : List Part) (name : List ℕ) (r : Renaming) (h : IsAllowed a members name) (spells : Spells members name r) where
  abbrev Told : Token → Type 0
  Told t = IsTold a.value members t

  new_text : (t : Token) → Told t → macros.spelled r t ≡ spelled members name t
  new_text t told = spells t told.each

  named_as : (p t : Token) → Told p → Told t → (t.text ≡ p.text → spelled members name t ≡ spelled members name p) → NamesAsBefore r p t
  named_as p t told_p told_t alike = λ named. elim (cases_Bool (bytes_eq t.text p.text)) [
    | inl same ↦
        let new : macros.spelled r t ≡ macros.spelled r p = new_text t told_t ∙ alike (bytes_eq-equal t.text p.text same) ∙ sym (new_text p told_p) in
        ap (λ (w : List ℕ). bytes_eq w (macros.spelled r p)) new ∙ bytes_eq-same (macros.spelled r p) ∙ sym same
    | inr other ↦
        false_from_ne_true (bytes_eq (macros.spelled r t) (macros.spelled r p)) (λ same.
        let new : spelled members name t ≡ spelled members name p =
        sym (new_text t told_t) ∙ bytes_eq-equal (macros.spelled r t) (macros.spelled r p) same ∙ new_text p told_p in
        let old = apart a.value members name (none_stand a.value members name h.first) t p told_t told_p new in
        both_ways (bytes_eq t.text p.text) other (ap (λ (w : List ℕ). bytes_eq w p.text) old ∙ bytes_eq-same p.text))
        ∙ sym other
  ]

  parameters_told : (toks : List Token) → Each Told toks → Each Told (parameters_of toks)
  parameters_told toks told = elim (cases_Bool (is_function_like toks)) [
    | inl function ↦ rw function (names_each Told (before_close (drop 1 toks)) (before_each Told (drop 1 toks) (drop_each Told toks told)))
    | inr object ↦ rw object tt
  ]

  parameters_kept : (toks : List Token) → Each Told toks → UsesStayAlike members name toks → KeepsParameters r toks
  parameters_kept toks told alike =
      each_both Told (λ p. Each (λ t. t.text ≡ p.text → spelled members name t ≡ spelled members name p) toks) (λ p. Each (λ t. NamesAsBefore r p t) toks)
      (parameters_of toks) (parameters_told toks told) alike
      (λ p told_p uses.
      each_both Told (λ t. t.text ≡ p.text → spelled members name t ≡ spelled members name p) (λ t. NamesAsBefore r p t) toks told uses
      (λ t told_t same. named_as p t told_p told_t same))

  word_named : (word : Token) → Told word → holds_member members word ≡ false → directive_named (renamed r word) ≡ directive_named word
  word_named word told free =
      ap (λ (w : List ℕ). cond (is_name word) (directive_spelled w) None) (free_same a members name r h spells word (parted_of a.value members word told) free)

  -- what holds no member stays
  operands_stay : (operands : List Token) → AllOf Told operands → Each (λ t. holds_member members t ≡ false) operands → Each (λ t. macros.spelled r t ≡ t.text) operands
  operands_stay [] told free = tt
  operands_stay (t ∷ operands) told free = (free_same a members name r h spells t (parted_of a.value members t told.0) free.0, operands_stay operands told.1 free.1)

  line_kept : (line : List Token) → AllOf Told line → WordIsFree members line → LineStaysAlike members name line → KeepsLine r line
  line_kept [] told free alike = tt
  line_kept (hash ∷ []) told free alike = tt
  line_kept (hash ∷ word ∷ operands) told free alike = λ is. (
    word_named word told.1.0 (free is).0,
    λ define. parameters_kept (drop 1 operands) (drop_each Told operands (to_each Told operands told.1.1)) (alike is define),
    λ asks begins. header_at-same r operands (operands_stay operands told.1.1 ((free is).1 (either_true (begins_pragma word) (asks_next word && begins_header operands) (inr (and_from (asks_next word) (begins_header operands) asks begins))))),
    λ pragma. once-same r hash word operands (operands_stay operands told.1.1 ((free is).1 (either_true (begins_pragma word) (asks_next word && begins_header operands) (inl pragma)))),
  )

  lines_kept : (lines : List (List Token)) → AllOf (AllOf Told) lines → Each (WordIsFree members) lines → Each (LineStaysAlike members name) lines → Each (KeepsLine r) lines
  lines_kept [] told free alike = tt
  lines_kept (line ∷ lines) told free alike = (line_kept line told.0 free.0 alike.0, lines_kept lines told.1 free.1 alike.1)

pub lines_are_kept : LinesAreKept
lines_are_kept = λ a members name r h spells words uses n f is.
    let toks = tokens_of f.number f.bytes in
    let told : AllOf (λ (t : Token). IsTold a.value members t) toks = all_of (λ (t : Token). IsTold a.value members t) toks (λ t i. file_told a members name h n f is t i) in
    lines_kept a members name r h spells (lines_of toks (firsts_of f.bytes)) (lines_all (λ (t : Token). IsTold a.value members t) toks (firsts_of f.bytes) told) (words n f is) (uses n f is)
