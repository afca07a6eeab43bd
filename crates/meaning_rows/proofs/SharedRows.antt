-- Two units of one project whose names fall together: each is read and bound as before, and they share an entity.
use Rattle.std.proofs.Common.{◌≡◌, ℕ, true, false, List, [], ◌∷◌, ◌++◌, map, Option, Some, refl, sym, ap, subst, ◌∙◌}
use Rattle.std.specs.Prelude.{◌&&◌, not, codes, slice_get}
use Rattle.std.specs.Option.{option_and_then}
use Rattle.std.specs.Str.{bytes_eq}
use Rattle.cs_base.specs.declared.causes.Cause.TheVariants.{Clash}
use Rattle.cs_base.specs.declared.positions.Part.{Part}
use Rattle.cs_base.specs.Token.{Token}
use Rattle.cs_base.specs.Units.{UnitValue}
use Rattle.cs_base.proofs.ListLemmas.{any_at}
use Rattle.analysis.specs.Below.lexer.Places.{pos}
use Rattle.part_respell.specs.Respelled.{respelled, spelled, spelled_from}
use Rattle.analysis.specs.Below.c99_read.Reading.{read_within, whole, take_one, at_end, enter}
use Rattle.analysis.specs.Below.c99_read.State.{class_at, acted, opened, closed}
use Rattle.analysis.specs.Below.c99_grammar.TokenClasses.{spelled_class, base_class}
use Rattle.analysis.specs.Below.scope_bind.Bound.{Bound, binding_of}
use Rattle.analysis.specs.Below.scope_bind.Names.{entity_at}
use Rattle.analysis.specs.Below.scope_bind.Walk.{walked}
use Rattle.analysis.specs.Below.macro_expand.Renaming.{renamed}
use Rattle.analysis.specs.Analysis.{UnitAnalysis, AnalysisValue}
use Rattle.analysis.specs.FileTokens.{file_tokens}
use Rattle.analysis.proofs.NamingLemmas.{in_right, in_filter}
use Rattle.edited_unit_laws.specs.Lines.{Each}
use Rattle.edited_unit_laws.specs.Analyses.{ReadsAlike}
use Rattle.rename_rules.specs.Tokens.{pasted_tokens, holders}
use Rattle.offences.specs.Tokens.{holds_member}
use Rattle.edited_unit_laws.proofs.ListLemmas.{In, in_flat}
use Rattle.renamed.specs.Renamed.{spell_from, renaming_of}
use Rattle.analysis.specs.Changed.{Renaming, renamed_analysis, renamed_unit_analysis, ExternalName, external_name, external_if, is_one_entity, denote_one}
use Rattle.meaning_rows.specs.Rows.{member}
use Rattle.meaning_rows.specs.Shared.{TwoUnits, Tokens, Has, AreOf, StandsAgainst, KeepsEachReading, BreaksSharing, declared_name, two_names}
use Rattle.meaning_rows.proofs.OffenceLemmas.{clashes_at, clash_stands}
use Rattle.meaning_rows.proofs.RowLemmas.{ReadSo, renaming, unit_bound, unit_keeps}
use Rattle.meaning_rows.proofs.RowTokens.{IsBound, tree_of, bound_of}

one_read : IsBound (two_names.one).toks
unfolding read_within whole take_one at_end enter spelled_class base_class class_at acted opened closed binding_of walked
one_read = record { reads = refl; binds = refl }

other_read : IsBound (two_names.other).toks
unfolding read_within whole take_one at_end enter spelled_class base_class class_at acted opened closed binding_of walked
other_read = record { reads = refl; binds = refl }

-- ---- the offence

module _ (r : TwoUnits) (a : AnalysisValue) (h : AreOf r a) (members : List Part) where
  pasted_holder : (u : UnitAnalysis) (w : Tokens) (t : Token) → In u a.units → Has w u → In t w.pasted → holds_member members t ≡ true → In t (holders a members)
  unfolding holders pasted_tokens
  pasted_holder u w t i has j held =
      let own : In t u.text.pasted = subst (In t) (sym has.pasted) j in
      in_filter (holds_member members) t (file_tokens a ++ pasted_tokens a) held
      (in_right t (file_tokens a) (pasted_tokens a) (in_flat (λ (v : UnitAnalysis). v.text.pasted) a.units u t i own))

  one_there : In h.one a.units
  one_there = subst (In h.one) (sym h.both) (0, refl)

  other_there : In h.other a.units
  other_there = subst (In h.other) (sym h.both) (1, refl)

pub two_names_offence : StandsAgainst two_names 72 (codes "y") Clash 72
unfolding spelled_from
two_names_offence a h =
    let first : Token = declared_name 72 29 30 (codes "xyy") in
    let second : Token = declared_name 56 57 72 (codes "yyx") in
    let holder = pasted_holder two_names a h (member 72) h.one two_names.one first (one_there two_names a h (member 72)) h.first (0, refl) refl in
    let other = pasted_holder two_names a h (member 72) h.other two_names.other second (other_there two_names a h (member 72)) h.second (0, refl) refl in
    let any = any_at (λ (t : Token). bytes_eq (spelled (member 72) (codes "y") t) (spelled (member 72) (codes "y") first) && not (bytes_eq t.text first.text))
    (holders a (member 72)) other.0 second other.1 refl in
    clash_stands a (member 72) (codes "y") (pos 2 72) (clashes_at a (member 72) (codes "y") first (pos 2 72) holder any (0, refl))

-- ---- each unit by itself

pub two_names_read : KeepsEachReading two_names 72 (codes "y")
unfolding read_within whole take_one at_end enter spelled_class base_class class_at acted opened closed binding_of walked spell_from
two_names_read a h =
    let one_anew : ReadSo (map (renamed (renaming a 72 (codes "y"))) (two_names.one).toks) (tree_of (two_names.one).toks) (bound_of (two_names.one).toks) = record { reads = refl; binds = refl } in
    let other_anew : ReadSo (map (renamed (renaming a 72 (codes "y"))) (two_names.other).toks) (tree_of (two_names.other).toks) (bound_of (two_names.other).toks) = record { reads = refl; binds = refl } in
    let f = h.first in
    let s = h.second in
    subst (Each (ReadsAlike (renaming a 72 (codes "y")))) (sym h.both) (
      unit_keeps (two_names.one).toks (tree_of (two_names.one).toks) (bound_of (two_names.one).toks) one_read h.one f.standard f.toks f.read (renaming a 72 (codes "y")) one_anew,
      (unit_keeps (two_names.other).toks (tree_of (two_names.other).toks) (bound_of (two_names.other).toks) other_read h.other s.standard s.toks s.read (renaming a 72 (codes "y")) other_anew, tt),
    )

-- ---- what the units share

-- the unit with another binding and other tokens
abbrev so : UnitAnalysis → Bound → List Token → UnitAnalysis
so u bound toks = record u { bound = bound; text = record u.text { toks = toks } }

-- what token 1 of a unit denotes
abbrev name_in : UnitValue → UnitAnalysis → Option ExternalName
name_in w u = option_and_then (external_if w u 1) (entity_at u.bound.names 1)

abbrev name_at : List UnitValue → List UnitAnalysis → ℕ → Option ExternalName
name_at ws us n = option_and_then (λ w. option_and_then (name_in w) (slice_get us n)) (slice_get ws n)

same_name : (w : UnitValue) (u : UnitAnalysis) (bound : Bound) (toks : List Token) → u.bound ≡ bound → u.text.toks ≡ toks → name_in w u ≡ name_in w (so u bound toks)
same_name w u bound toks e f =
    ap (λ (b : Bound). name_in w (so u b u.text.toks)) e ∙ ap (λ (ts : List Token). name_in w (so u bound ts)) f

module _ (a : AnalysisValue) (h : AreOf two_names a) where
  one_bound : (h.one).bound ≡ bound_of (two_names.one).toks
  one_bound = let f = h.first in unit_bound (two_names.one).toks (tree_of (two_names.one).toks) (bound_of (two_names.one).toks) one_read h.one f.standard f.toks f.read

  other_bound : (h.other).bound ≡ bound_of (two_names.other).toks
  other_bound = let s = h.second in unit_bound (two_names.other).toks (tree_of (two_names.other).toks) (bound_of (two_names.other).toks) other_read h.other s.standard s.toks s.read

  -- in an analysis whose units are these, changed alike
  both_at : (f : UnitAnalysis → UnitAnalysis) (n : ℕ) → name_at a.workspace.units (map f a.units) n ≡ name_at (h.one_unit ∷ h.other_unit ∷ []) (f h.one ∷ f h.other ∷ []) n
  both_at f n =
      ap (λ us. name_at a.workspace.units (map f us) n) h.both ∙ ap (λ ws. name_at ws (f h.one ∷ f h.other ∷ []) n) h.units

  denoted : (f : UnitAnalysis → UnitAnalysis) (x y : List ℕ) → name_in h.one_unit (f h.one) ≡ Some (external_name (h.one_unit).project x)
      → name_in h.other_unit (f h.other) ≡ Some (external_name (h.other_unit).project y)
      → is_one_entity (name_at a.workspace.units (map f a.units) 0) (name_at a.workspace.units (map f a.units) 1) ≡ bytes_eq x y
  denoted f x y e g =
      ap (λ p. is_one_entity p (name_at a.workspace.units (map f a.units) 1)) (both_at f 0 ∙ e)
      ∙ (ap (λ p. is_one_entity (Some (external_name (h.one_unit).project x)) p) (both_at f 1 ∙ g) ∙ ap (λ b. b && bytes_eq x y) h.project)

  unmapped : (us : List UnitAnalysis) → map (λ u. u) us ≡ us
  unmapped [] = refl
  unmapped (u ∷ us) = ap (λ vs. u ∷ vs) (unmapped us)

  -- before
  apart : denote_one a 0 1 1 1 ≡ false
  unfolding read_within whole take_one at_end enter spelled_class base_class class_at acted opened closed binding_of walked
  apart =
      let f = h.first in
      let s = h.second in
      ap (λ us. is_one_entity (name_at a.workspace.units us 0) (name_at a.workspace.units us 1)) (sym (unmapped a.units))
      ∙ denoted (λ u. u) (codes "xyy") (codes "yyx")
      (same_name h.one_unit h.one (bound_of (two_names.one).toks) (two_names.one).toks one_bound f.toks)
      (same_name h.other_unit h.other (bound_of (two_names.other).toks) (two_names.other).toks other_bound s.toks)

  -- and behind a renaming
  abbrev anew : List ℕ → Renaming
  anew name = renaming_of a (member 72) name

  renamed_name : (name : List ℕ) (w : UnitValue) (u : UnitAnalysis) (bound : Bound) (toks : List Token) → u.bound ≡ bound → u.text.toks ≡ toks
      → name_in w (renamed_unit_analysis (anew name) u) ≡ name_in w (renamed_unit_analysis (anew name) (so u bound toks))
  renamed_name name w u bound toks e f =
      ap (λ (b : Bound). name_in w (renamed_unit_analysis (anew name) (so u b u.text.toks))) e
      ∙ ap (λ (ts : List Token). name_in w (renamed_unit_analysis (anew name) (so u bound ts))) f

  together : denote_one (renamed_analysis (anew (codes "y")) (respelled (member 72) (codes "y")) a) 0 1 1 1 ≡ true
  unfolding read_within whole take_one at_end enter spelled_class base_class class_at acted opened closed binding_of walked spell_from
  together =
      let f = h.first in
      let s = h.second in
      denoted (renamed_unit_analysis (anew (codes "y"))) (codes "yyy") (codes "yyy")
      (renamed_name (codes "y") h.one_unit h.one (bound_of (two_names.one).toks) (two_names.one).toks one_bound f.toks)
      (renamed_name (codes "y") h.other_unit h.other (bound_of (two_names.other).toks) (two_names.other).toks other_bound s.toks)

  pub still_apart : denote_one (renamed_analysis (anew (codes "v")) (respelled (member 72) (codes "v")) a) 0 1 1 1 ≡ denote_one a 0 1 1 1
  unfolding read_within whole take_one at_end enter spelled_class base_class class_at acted opened closed binding_of walked spell_from
  still_apart =
      let f = h.first in
      let s = h.second in
      denoted (renamed_unit_analysis (anew (codes "v"))) (codes "vyy") (codes "yyv")
      (renamed_name (codes "v") h.one_unit h.one (bound_of (two_names.one).toks) (two_names.one).toks one_bound f.toks)
      (renamed_name (codes "v") h.other_unit h.other (bound_of (two_names.other).toks) (two_names.other).toks other_bound s.toks)
      ∙ sym apart

pub two_names_broken : BreaksSharing two_names 72 (codes "y")
two_names_broken a h now ws is keeps =
    let wrong : true ≡ false =
    sym (together a h) ∙ (keeps (renamed_analysis (renaming_of a (member 72) (codes "y")) (respelled (member 72) (codes "y")) a) is 0 1 1 1 ∙ apart a h) in
    cc
