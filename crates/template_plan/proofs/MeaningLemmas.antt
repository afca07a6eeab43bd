-- The edits of a plan keep meaning.
use Rattle.std.proofs.Common.{◌≡◌, ◌≤◌, ◌+◌, ◌-◌, ℕ, List, [], ◌∷◌, ◌++◌, length, slice_get, take, Option, None, Some, Ok, Err, Result, refl, sym, ap, ◌∙◌, subst, inl, inr, arith}
use Rattle.std.specs.Prelude.{false, is_some, IfOk}
use Rattle.std.specs.List.{flat_map}
use Rattle.std.specs.Option.{option_map, option_map_or}
use Rattle.std.proofs.lemmas.Grind.{flat_map-append}
use Rattle.std.proofs.lemmas.List.{take_all}
use Rattle.std.proofs.lemmas.Option.{same_Some}
use Rattle.cs_base.specs.declared.positions.Part.{Part}
use Rattle.cs_base.specs.declared.positions.Pos.{Pos}
use Rattle.cs_base.specs.Edit.{Edit}
use Rattle.cs_base.proofs.ListLemmas.{next}
use Rattle.analysis.specs.Below.ws_file.Workspace.{IsWorkspace}
use Rattle.analysis.specs.Analysis.{AnalysisValue, UnitAnalysis}
use Rattle.analysis.specs.GnuUnits.{gnu_begin, gnu_place, gnu_places}
use Rattle.analysis.specs.Naming.{Names}
use Rattle.analysis.specs.Parts.{AreMembers}
use Rattle.offences.specs.declared.refusals.PlanFault.{PlanFault}
use Rattle.offences.specs.declared.refusals.Refusal.{Refusal}
use Rattle.offences.specs.Answers.{GivesOne}
use Rattle.offences.specs.Refusals.{refusal_of}
use Rattle.offences.proofs.MemberListLemmas.{one_list}
use Rattle.offences.proofs.NamedLemmas.{one_named}
use Rattle.template_meaning.specs.Below.reordered.Reorder.{ReordersOver}
use Rattle.template_rules.specs.Template.{IsNamedOrdered, IsTemplate}
use Rattle.template_meaning.specs.Kept.{PlansKeepMeaning}
use Rattle.template_meaning.proofs.PlansKept.{compared_over}
use Rattle.template_plan.specs.Kept.{IsClassKept, IsKept, IsPlaceKept}

-- what holds of a value that a call gave
pub if_ok : {X E : Type 0} (r : Result X E) (P Q : X → Type 0) → ((x : X) → P x → Q x) → IfOk r P → IfOk r Q
if_ok (Ok x) P Q f h = f x h
if_ok (Err e) P Q f h = tt

-- ---- units of GNU C

unfound : {X : Type 0} (o : Option X) → is_some o ≡ false → o ≡ None
unfound None e = refl
unfound (Some x) e = absurd (cc)

begun_in : (r : Option UnitAnalysis) (at : Option Pos) → option_map gnu_begin r ≡ Some at → (u : UnitAnalysis) × (r ≡ Some u) × (gnu_begin u ≡ at)
begun_in None at e = absurd (cc)
begun_in (Some u) at e = (u, refl, cc)

-- one unit more that is not of GNU C
pub no_more : (units : List UnitAnalysis) (k : ℕ) (at : Option Pos) → option_map gnu_begin (slice_get units (k + 1 - 1)) ≡ Some at → is_some at ≡ false
    → flat_map gnu_place (take k units) ≡ [] → flat_map gnu_place (take (k + 1) units) ≡ []
no_more units k at told none before =
    let same : k + 1 - 1 ≡ k = omega arith in
    let found : option_map gnu_begin (slice_get units k) ≡ Some at = rw same at told in
    let u = begun_in (slice_get units k) at found in
    ap (flat_map gnu_place) (next units k u.0 u.1)
    ∙ (flat_map-append gnu_place (take k units) (u.0 ∷ [])
    ∙ (ap (λ (ps : List Pos). ps ++ flat_map gnu_place (u.0 ∷ [])) before
    ∙ ap (λ (o : Option Pos). option_map_or (λ (p : Pos). p ∷ []) o [] ++ []) (u.2 ∙ unfound at none)))

pub none_placed : (a : AnalysisValue) (k : ℕ) → length a.units ≤ k → flat_map gnu_place (take k a.units) ≡ [] → gnu_places a ≡ []
unfolding gnu_places
none_placed a k past none = ap (flat_map gnu_place) (sym (take_all k a.units past)) ∙ none

-- ---- a class

pub class_kept : (a : AnalysisValue) (part : Part) (order : List ℕ) (members : List Part) → AreMembers a part members → IsKept a members order → IsClassKept a part order
class_kept a part order members are kept = λ others same. subst (λ (ms : List Part). IsKept a ms order) (one_list a part members others are same) kept

pub place_kept : (a : AnalysisValue) (path : List ℕ) (line column : ℕ) (order : List ℕ) (part : Part) → Names a path line column (Some part) → IsClassKept a part order
    → IsPlaceKept a path line column order
place_kept a path line column order part names kept = λ other same.
    subst (λ (p : Part). IsClassKept a p order) (same_Some part other (sym (one_named a path line column (Some part) (Some other) names same))) kept

-- ---- a plan

module _ (law : PlansKeepMeaning) (a : AnalysisValue) (path : List ℕ) (line column : ℕ) (order : List ℕ) (is : IsWorkspace a.workspace) where
  named_meaning : (edits : List Edit) (named : Option Part) → Names a path line column named → IsNamedOrdered a order (Ok edits) named
      → IsPlaceKept a path line column order → IsTemplate a path line column order (Ok edits) → ReordersOver a.workspace a path line column order edits
  named_meaning edits None names h kept plan = absurd (cc)
  named_meaning edits (Some part) names h kept plan = elim (kept part names h.members h.are_members) [
    | inl none ↦ law a.workspace a path line column order edits is none plan
    | inr keeps ↦ compared_over a path line column order edits part is names h keeps
  ]

  pub plan_meaning : (r : Result (List Edit) PlanFault) → GivesOne (λ edits. edits) refusal_of r (IsTemplate a path line column order)
      → IfOk r (λ edits. IsPlaceKept a path line column order) → IfOk r (λ edits. ReordersOver a.workspace a path line column order edits)
  plan_meaning (Ok edits) plan kept = named_meaning edits plan.0 plan.1 plan.2 kept plan
  plan_meaning (Err fault) plan kept = tt
