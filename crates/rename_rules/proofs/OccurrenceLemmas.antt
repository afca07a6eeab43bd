-- What a table of spellings tells of tokens, and all tokens together.
use Rattle.std.proofs.Common.{◌≡◌, ℕ, Bool, List, [], ◌++◌, Option, Some, None, slice_get, refl, sym, ap, ◌∙◌}
use Rattle.std.specs.Prelude.{◌&&◌, if◌then◌else◌}
use Rattle.std.specs.List.{flat_map, list_any}
use Rattle.std.specs.Option.{option_map_or}
use Rattle.std.proofs.lemmas.Grind.{flat_map-append}
use Rattle.std.proofs.lemmas.List.{map-append}
use Rattle.cs_base.specs.declared.causes.Cause.TheVariants as cause
use Rattle.cs_base.specs.declared.positions.Part.{Part}
use Rattle.cs_base.specs.declared.positions.Pos.{Pos}
use Rattle.cs_base.specs.Token.{Token}
use Rattle.cs_base.proofs.ListLemmas.{flat_map_same}
use Rattle.analysis.specs.Below.c_types.declared.lists.Range.{Range}
use Rattle.analysis.specs.Below.source_files.Files.{Table}
use Rattle.analysis.specs.Analysis.{AnalysisValue, UnitAnalysis}
use Rattle.analysis.specs.BroughtNumbers.{all_brought}
use Rattle.offences.specs.declared.firsts.Offence.{Offence}
use Rattle.offences.specs.First.{offence, standing, FirstThen}
use Rattle.rename_rules.specs.Offences.{bare_place, bare_places, hides_typedef, occurring_place, occurring_places}
use Rattle.rename_rules.specs.Respellings.{RespellingValue, AreRespellings, bare_place_by, bare_places_by, is_new, is_old}
use Rattle.rename_rules.specs.Tokens.{all_file_tokens, holders, is_new_spelling, is_old_spelling, pasted_tokens}
use Rattle.offences.specs.Tokens.{first_place, kept_tokens}
use Rattle.offences.proofs.FirstLemmas.{then_both}

pub new_told : (members : List Part) (name : List ℕ) (toks : List Token) (t : Token) (table : List RespellingValue) (text : List ℕ) (b : Bool)
    → AreRespellings members name toks table → text ≡ t.text → b ≡ list_any (is_new text) table → is_new_spelling members name toks t.text ≡ b
new_told members name toks t table text b told same e =
    sym (e ∙ ap (λ (word : List ℕ). list_any (is_new word) table) same ∙ told (is_new t.text))

-- at two lists of tokens, one behind the other
both_occurring : (table : Table) (place : Token → List Pos) (xs ys : List Token) (w x y : Option Offence) → FirstThen table (standing cause.Occurs (flat_map place xs)) w x
    → FirstThen table (standing cause.Occurs (flat_map place ys)) x y → FirstThen table (standing cause.Occurs (flat_map place (xs ++ ys))) w y
both_occurring table place xs ys w x y f g =
    let stand : List Pos → List Offence = standing cause.Occurs in
    let all : stand (flat_map place (xs ++ ys)) ≡ stand (flat_map place xs) ++ stand (flat_map place ys) =
    ap stand (flat_map-append place xs ys) ∙ map-append (offence cause.Occurs) (flat_map place xs) (flat_map place ys) in
    rw all (then_both table (stand (flat_map place xs)) (stand (flat_map place ys)) w x y f g)

pub file_occurring : (a : AnalysisValue) (members : List Part) (name : List ℕ) (toks : List Token) (w x y : Option Offence)
    → FirstThen a.table (standing cause.Occurs (flat_map (occurring_place members name toks) (kept_tokens 0 a.table))) w x
    → FirstThen a.table (standing cause.Occurs (flat_map (occurring_place members name toks) (all_brought a.units))) x y
    → FirstThen a.table (standing cause.Occurs (flat_map (occurring_place members name toks) (all_file_tokens a))) w y
unfolding all_file_tokens
file_occurring a members name toks w x y f g =
    both_occurring a.table (occurring_place members name toks) (kept_tokens 0 a.table) (all_brought a.units) w x y f g

pub all_occurring : (a : AnalysisValue) (members : List Part) (name : List ℕ) (w x y : Option Offence)
    → FirstThen a.table (standing cause.Occurs (flat_map (occurring_place members name (holders a members)) (all_file_tokens a))) w x
    → FirstThen a.table (standing cause.Occurs (flat_map (occurring_place members name (holders a members)) (pasted_tokens a))) x y
    → FirstThen a.table (standing cause.Occurs (occurring_places a members name)) w y
unfolding occurring_places
all_occurring a members name w x y f g =
    both_occurring a.table (occurring_place members name (holders a members)) (all_file_tokens a) (pasted_tokens a) w x y f g

-- ---- bare names

option_same : {X Y : Type 0} (f g : X → List Y) (r : Option X) → ((x : X) → f x ≡ g x) → option_map_or f r [] ≡ option_map_or g r []
option_same f g None same = refl
option_same f g (Some x) same = same x

module _ (a : AnalysisValue) (members : List Part) (name : List ℕ) (toks : List Token) (table : List RespellingValue)
    (same : toks ≡ holders a members) (told : AreRespellings members name toks table) (u : UnitAnalysis) where
  bare_place_is : (k : ℕ) (t : Token) → bare_place_by table u.text.toks u.bound.typedefs k t ≡ bare_place a members u k t
  bare_place_is k t =
      let old : list_any (is_old t.text) table ≡ is_old_spelling (holders a members) t.text =
      told (is_old t.text) ∙ ap (λ (ts : List Token). is_old_spelling ts t.text) same in
      ap (λ (b : Bool). if hides_typedef u k t && b then first_place t else []) old

  pub bare_unit : (utoks : List Token) (typedefs : List Range) (bare : List ℕ) → utoks ≡ u.text.toks → typedefs ≡ u.bound.typedefs → bare ≡ u.bound.bare
      → flat_map (bare_places a members u) u.bound.bare ≡ flat_map (bare_places_by table utoks typedefs) bare
  bare_unit utoks typedefs bare e f g =
      rw (e, f, g)
      (sym (flat_map_same (bare_places_by table u.text.toks u.bound.typedefs) (bare_places a members u) u.bound.bare
      (λ k. option_same (bare_place_by table u.text.toks u.bound.typedefs k) (bare_place a members u k) (slice_get u.text.toks k) (bare_place_is k))))
