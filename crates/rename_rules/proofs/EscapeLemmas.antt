-- Members in escape sequences, token by token.
use Rattle.std.proofs.Common.{◌≡◌, ℕ, ◌+◌, ◌<◌, ◌≤◌, Bool, false, List, [], ◌∷◌, ◌++◌, length, drop, get_or, Option, sym, ap, ◌∙◌}
use Rattle.std.specs.Prelude.{◌&&◌, not}
use Rattle.std.proofs.lemmas.List.{at_drop_more, at_drop_all, map-append}
use Rattle.cs_base.specs.declared.causes.Cause.TheVariants as cause
use Rattle.cs_base.specs.declared.positions.Part.{Part}
use Rattle.cs_base.specs.Token.{Token}
use Rattle.analysis.specs.Below.source_files.Files.{Table}
use Rattle.offences.specs.declared.firsts.Offence.{Offence}
use Rattle.offences.specs.First.{offence, standing, FirstThen}
use Rattle.offences.proofs.FirstLemmas.{then_none, then_both}
use Rattle.rename_rules.specs.Escapes.{escaped_place, escaped_places_of, is_backslash, is_escaped}

module _ (members : List Part) where
  -- what stands from token k on comes to what came before
  abbrev pub GoesOn : Table → List Token → ℕ → Bool → Option Offence → Option Offence → Type 0
  GoesOn table toks k behind first now =
      (last : Option Offence) → FirstThen table (standing cause.Stringized (escaped_places_of members behind (drop k toks))) now last
      → FirstThen table (standing cause.Stringized (escaped_places_of members false toks)) first last

  pub escaped_next : (table : Table) (toks : List Token) (k : ℕ) (t : Token) (behind : Bool) (first now after : Option Offence) → k < length toks
      → t ≡ get_or toks k t → GoesOn table toks k behind first now
      → FirstThen table (standing cause.Stringized (escaped_place members behind t)) now after
      → GoesOn table toks (k + 1) (is_backslash t && not (is_escaped behind t)) first after
  unfolding escaped_places_of
  escaped_next table toks k t behind first now after within is before here last later =
      let here_ = escaped_place members behind t in
      let rest = escaped_places_of members (is_backslash t && not (is_escaped behind t)) (drop (k + 1) toks) in
      let more : escaped_places_of members behind (drop k toks) ≡ here_ ++ rest =
      at_drop_more (escaped_places_of members behind) toks k t within
      ∙ ap (λ (u : Token). escaped_places_of members behind (u ∷ drop (k + 1) toks)) (sym is) in
      let both : standing cause.Stringized (escaped_places_of members behind (drop k toks)) ≡ standing cause.Stringized here_ ++ standing cause.Stringized rest =
      ap (standing cause.Stringized) more ∙ map-append (offence cause.Stringized) here_ rest in
      before last (rw both (then_both table (standing cause.Stringized here_) (standing cause.Stringized rest) now after last here later))

  pub escaped_all : (table : Table) (toks : List Token) (k : ℕ) (behind : Bool) (first now : Option Offence) → length toks ≤ k
      → GoesOn table toks k behind first now → FirstThen table (standing cause.Stringized (escaped_places_of members false toks)) first now
  unfolding escaped_places_of
  escaped_all table toks k behind first now past before =
      let none : escaped_places_of members behind (drop k toks) ≡ [] = at_drop_all (escaped_places_of members behind) toks k past in
      before now (rw none (then_none table now))
