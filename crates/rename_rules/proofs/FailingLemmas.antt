-- Offences, and behind them those of units of GNU C that would be read or bound otherwise.
use Rattle.std.proofs.Common.{◌≡◌, ℕ, List, [], ◌∷◌, None, Some, Option, Result, Ok, Err, refl, ap}
use Rattle.std.specs.Prelude.{IfOk}
use Rattle.cs_base.specs.declared.causes.Cause.TheVariants as cause
use Rattle.cs_base.specs.declared.positions.Part.{Part}
use Rattle.cs_base.specs.declared.positions.Pos.{Pos}
use Rattle.analysis.specs.Analysis.{AnalysisValue}
use Rattle.offences.specs.declared.firsts.Offence.{Offence}
use Rattle.offences.specs.First.{standing, IsAmong, IsFirst, FirstThen}
use Rattle.analysis.specs.Below.source_files.Files.{Table}
use Rattle.rename_rules.specs.GnuOffences.{failing_places, with_failing}

-- what holds of a value that a call gave
pub if_ok : {X E : Type 0} (r : Result X E) (P Q : X → Type 0) → ((x : X) → P x → Q x) → IfOk r P → IfOk r Q
if_ok (Ok x) P Q f h = f x h
if_ok (Err e) P Q f h = tt

module _ (a : AnalysisValue) (members : List Part) (name : List ℕ) where
  none_placed : (places : List Pos) → standing cause.Syntax places ≡ [] → places ≡ []
  none_placed [] e = refl
  none_placed (p ∷ places) e = absurd (cc)

  -- where nothing stands, none of both do
  pub quiet : (known : List Offence) → with_failing a members name known ≡ [] → (known ≡ []) × (failing_places a members name ≡ [])
  quiet [] e = (refl, none_placed (failing_places a members name) e)
  quiet (o ∷ others) e = absurd (cc)

  pub still_quiet : (known : List Offence) → known ≡ [] → failing_places a members name ≡ [] → with_failing a members name known ≡ []
  still_quiet [] e f = ap (standing cause.Syntax) f
  still_quiet (o ∷ others) e f = absurd (cc)

  -- what stands still does
  pub still_stands : (known : List Offence) (o : Offence) → IsAmong known o → IsAmong (with_failing a members name known) o
  still_stands [] o i = absurd (let at = i.1 in cc)
  still_stands (x ∷ others) o i = i

  -- ---- the first of them

  some_first : (table : Table) (known : List Offence) (o : Offence) → IsFirst table known (Some o) → IsFirst table (with_failing a members name known) (Some o)
  some_first table [] o first = absurd (let at = first.0.1 in cc)
  some_first table (x ∷ others) o first = first

  none_first : (table : Table) (known : List Offence) (now : Option Offence) → known ≡ [] → FirstThen table (standing cause.Syntax (failing_places a members name)) None now
      → IsFirst table (with_failing a members name known) now
  none_first table [] now e then_ = then_.goes_on [] refl
  none_first table (x ∷ others) now e then_ = absurd (cc)

  pub first_known : (table : Table) (o : Offence) → (known : List Offence) → IsFirst table known (Some o) → IsFirst table (with_failing a members name known) (Some o)
  first_known table o known first = some_first table known o first

  pub first_failing : (table : Table) (now : Option Offence) → FirstThen table (standing cause.Syntax (failing_places a members name)) None now
      → (known : List Offence) → IsFirst table known None → IsFirst table (with_failing a members name known) now
  first_failing table now then_ known first = none_first table known now first then_
