-- Counting over units and edits, and early ends without a read.
use Rattle.std.proofs.Common.{◌≡◌, ℕ, zero, suc, ◌+◌, ◌-◌, ◌<◌, List, [], ◌∷◌, drop, length, add-one, Some, Result, Ok, Err, ap, sym, ◌∙◌, refl, arith}
use Rattle.std.specs.Prelude.{IfErr, IfSome, slice_get}
use Rattle.std.specs.Option.{option_map}
use Rattle.std.proofs.lemmas.Option.{same_Some, none-some}
use Rattle.cs_base.specs.Edit.{Edit}
use Rattle.cs_base.specs.Token.{Token}
use Rattle.analysis.specs.Below.unit_steps.Texts.{UnitTextValue}
use Rattle.analysis.proofs.OneUnitLemmas.{unit_of_number}
use Rattle.analysis.specs.Analysis.{UnitAnalysis}
use Rattle.analysis.specs.Counts.{tokens_in}
use Rattle.cscout_run.specs.Answer.{places_in}
use Rattle.cscout_run.specs.declared.stops.Stop.{Stop}
use Rattle.cscout_run.specs.declared.stops.Stop.TheVariants as stop
use Rattle.cscout_run.specs.Shapes.{Answer}
use Rattle.cscout_run.specs.Steps.{IsQuiet, Tells}

tokens_in-suc : (units : List UnitAnalysis) (k : ℕ) (t : UnitTextValue) → option_map (λ u. u.text) (slice_get units k) ≡ Some t
    → tokens_in (drop k units) ≡ length t.toks + tokens_in (drop (suc k) units)
tokens_in-suc [] k t at = absurd (none-some t at)
tokens_in-suc (u ∷ units) zero t at =
    let same : length u.text.toks ≡ length t.toks = ap (λ (x : UnitTextValue). length x.toks) (same_Some u.text t at) in
    ap (λ n. n + tokens_in units) same
tokens_in-suc (u ∷ units) (suc k) t at = tokens_in-suc units k t at

-- the tokens from a unit on are its own and those after it
pub tokens_in-drop : (units : List UnitAnalysis) (k : ℕ) (t : UnitTextValue) → option_map (λ u. u.text) (slice_get units k) ≡ Some t
    → tokens_in (drop k units) ≡ length t.toks + tokens_in (drop (k + 1) units)
tokens_in-drop units k t at = rw add-one (tokens_in-suc units k t at)

-- the same for the tokens of a unit that counts from 1
pub tokens-step : (units : List UnitAnalysis) (k : ℕ) (u : UnitAnalysis) (t : UnitTextValue) (toks : List Token)
    → slice_get units (k + 1 - 1) ≡ Some u → t ≡ u.text → toks ≡ t.toks
    → tokens_in (drop k units) ≡ length toks + tokens_in (drop (k + 1) units)
tokens-step units k u t toks at text is =
    let here : slice_get units k ≡ Some u = unit_of_number units k u at in
    let there : option_map (λ (v : UnitAnalysis). v.text) (slice_get units k) ≡ Some t =
    ap (option_map (λ (v : UnitAnalysis). v.text)) here ∙ ap (λ (x : UnitTextValue). Some x) (sym text) in
    rw is (tokens_in-drop units k t there)

places_in-suc : (edits : List Edit) (k count : ℕ) → k < length edits → IfSome (slice_get edits k) (λ e. count ≡ e.count)
    → places_in (drop k edits) ≡ count + places_in (drop (suc k) edits)
places_in-suc [] k count below n = absurd (omega arith)
places_in-suc (e ∷ edits) zero count below n = rw n refl
places_in-suc (e ∷ edits) (suc k) count below n = places_in-suc edits k count (omega arith) n

-- so with the places of edits
pub places_in-drop : (edits : List Edit) (k count : ℕ) → k < length edits → IfSome (slice_get edits k) (λ e. count ≡ e.count)
    → places_in (drop k edits) ≡ count + places_in (drop (k + 1) edits)
places_in-drop edits k count below n = rw add-one (places_in-suc edits k count below n)

-- what is told over an analysis ends without a read
pub tells-quiet : {X : Type 0} (answer : X → Answer) (IsOne : Answer → Type 0) (result : Result X Stop) → Tells answer IsOne result → IfErr result IsQuiet
tells-quiet answer IsOne (Ok x) p = tt
tells-quiet answer IsOne (Err (stop.Refused why)) p = tt
tells-quiet answer IsOne (Err stop.Memory) p = tt
tells-quiet answer IsOne (Err (stop.Workspace fault)) p = tt
tells-quiet answer IsOne (Err (stop.Unread path)) p = absurd p
