-- The renamed tokens of a unit are of the classes that they had.
use Rattle.std.proofs.Common.{◌≡◌, ℕ, ◌==◌, if◌then◌else◌, Bool, true, false, List, [], ◌∷◌, length, map, Option, None, Some, inl, inr, refl, sym, ap, ◌∙◌}
use Rattle.std.specs.Prelude.{slice_get, option_map}
use Rattle.std.specs.List.{list_all}
use Rattle.std.specs.Option.{option_map_or}
use Rattle.std.specs.Str.{bytes_eq}
use Rattle.std.proofs.lemmas.Bool.{cases_Bool, both_ways, and_parts}
use Rattle.std.proofs.lemmas.Option.{slice_get-map}
use Rattle.analysis.specs.Below.c99_grammar.declared.dialects.Edition.{Edition}
use Rattle.analysis.specs.Below.c99_grammar.declared.dialects.Edition.TheVariants.{C99, C11}
use Rattle.cs_base.specs.declared.positions.Part.{Part}
use Rattle.cs_base.specs.declared.tokens.Kind.{Kind}
use Rattle.cs_base.specs.declared.tokens.Kind.TheVariants as kind
use Rattle.cs_base.specs.Reserved.{is_reserved_text}
use Rattle.cs_base.specs.Token.{Token}
use Rattle.line_shape.specs.Signs as signs
use Rattle.unit_steps.specs.Below.macro_expand.Renaming.{Renaming, renamed}
use Rattle.unit_steps.specs.Below.macro_expand.Renaming as macros
use Rattle.analysis.specs.Below.c99_grammar.Spellings.{Spelled, keywords_of}
use Rattle.analysis.specs.Below.c99_grammar.Dialects.{edition}
use Rattle.analysis.specs.Below.c99_grammar.Standard.{iso}
use Rattle.analysis.specs.Below.c99_read.State.{base_at}
use Rattle.analysis.specs.Below.c99_grammar.TokenClasses.{spelled_class, class_of_kind, base_class}
use Rattle.renamed_tree_laws.proofs.Private.{Class, identifier, no_class, end_class}
use Rattle.analysis.specs.Analysed.{Analysed}
use Rattle.analysis.specs.Analysis.{UnitAnalysis}
use Rattle.rename_meaning.specs.Allowed.{IsAllowed}
use Rattle.rename_meaning.specs.KeptTokens.{Spells}
use Rattle.rename_meaning.specs.Renamings.{KeepsUnedited}
use Rattle.edited_unit_laws.proofs.ListLemmas.{In}
use Rattle.rename_meaning.proofs.NamedLemmas.{reserved_same, as_long}
use Rattle.rename_meaning.proofs.UnitTokenLemmas.{tokens_kept}

-- ---- classes of spellings

abbrev is_kept : Spelled → Bool
is_kept s = is_reserved_text s.0

-- each keyword is reserved (6.4.1)
keywords_reserved : (std : Edition) → list_all is_kept (keywords_of std) ≡ true
unfolding is_reserved_text
keywords_reserved C99 = refl
keywords_reserved C11 = refl

module _ (x y : List ℕ) (same : (word : List ℕ) → is_reserved_text word ≡ true → bytes_eq x word ≡ bytes_eq y word) where
  -- two texts that are the same reserved words, or none, are of one class
  spelled_alike : (words : List Spelled) (other : Class) → list_all is_kept words ≡ true → spelled_class words x other ≡ spelled_class words y other
  unfolding spelled_class
  spelled_alike [] other all = refl
  spelled_alike (s ∷ words) other all =
      let both = and_parts (is_kept s) (list_all is_kept words) all in
      ap (λ (b : Bool). if b then s.1 else spelled_class words x other) (same s.0 both.0)
      ∙ ap (λ (c : Class). if bytes_eq y s.0 then s.1 else c) (spelled_alike words other both.1)

kind_alike : (std : Edition) (k : Kind) (x y : List ℕ) → (signs.is_identifier k ≡ true → (word : List ℕ) → is_reserved_text word ≡ true → bytes_eq x word ≡ bytes_eq y word)
    → (signs.is_identifier k ≡ false → x ≡ y) → class_of_kind (iso std) k x ≡ class_of_kind (iso std) k y
kind_alike std kind.Ident x y named other = spelled_alike x y (named refl) (keywords_of std) identifier (keywords_reserved std)
kind_alike std k x y named other = ap (class_of_kind (iso std) k) (other refl)

-- ---- classes of the tokens of a unit

module _ (a : Analysed) (members : List Part) (name : List ℕ) (r : Renaming) (h : IsAllowed a members name) (spells : Spells members name r)
    (keeps : KeepsUnedited r) (u : UnitAnalysis) (i : In u a.value.units) where
  abbrev old : List Token
  old = u.text.toks

  abbrev new : List Token
  new = map (renamed r) u.text.toks

  class_kept : (t : Token) → In t old → base_class (iso (edition u.standard)) t ≡ base_class (iso (edition u.standard)) (renamed r t)
  unfolding base_class
  class_kept t j =
      let kept = tokens_kept a members name r h spells keeps u i t j in
      elim (cases_Bool (signs.is_name t)) [
        | inl named ↦
            kind_alike (edition u.standard) t.kind t.text (macros.spelled r t)
            (λ is word reserved. sym (reserved_same a members name r h spells keeps u i t j named word reserved)) (λ other. absurd (both_ways (signs.is_name t) other named))
        | inr other ↦ elim (kept.stays other) [
          | inl same ↦ ap (class_of_kind (iso (edition u.standard)) t.kind) (sym same)
          | inr q ↦
              let kind = q.kind in
              ap (λ (k : Kind). class_of_kind (iso (edition u.standard)) k t.text) kind
              ∙ ap (λ (k : Kind). class_of_kind (iso (edition u.standard)) k (macros.spelled r t)) (sym kind)
        ]
      ]

  abbrev behind : ℕ → ℕ → Class
  behind k n = if k == n then end_class else no_class

  abbrev class_of : ℕ → Option Token → Class
  class_of k o = option_map_or (base_class (iso (edition u.standard))) o (behind k (length old))

  -- token k is of the class that it had, and as many tokens stand there
  pub bases_kept : (k : ℕ) → base_at (iso (edition u.standard)) old k ≡ base_at (iso (edition u.standard)) new k
  bases_kept k =
      by (slice_get old k) refl
      ∙ sym (ap (class_of k) (slice_get-map (renamed r) old k))
      ∙ sym (ap (λ n. option_map_or (base_class (iso (edition u.standard))) (slice_get new k) (behind k n)) (as_long a members name r h spells keeps u i))
    where
      by : (o : Option Token) → slice_get old k ≡ o → class_of k (slice_get old k) ≡ class_of k (option_map (renamed r) (slice_get old k))
      by None e = ap (class_of k) e ∙ sym (ap (λ (o : Option Token). class_of k (option_map (renamed r) o)) e)
      by (Some t) e = ap (class_of k) e ∙ class_kept t (k, e) ∙ sym (ap (λ (o : Option Token). class_of k (option_map (renamed r) o)) e)
