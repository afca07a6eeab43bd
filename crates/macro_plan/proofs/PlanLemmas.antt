-- What is answered for a place, by what is answered for a class.
use Rattle.std.proofs.Common.{◌≡◌, ℕ, true, false, List, [], length, Some, None, Result, Ok, Err, inl, inr, refl, subst}
use Rattle.std.proofs.lemmas.Bool.{cases_Bool}
use Rattle.cs_base.specs.declared.positions.Part.{Part}
use Rattle.cs_base.specs.Edit.{Edit}
use Rattle.cs_base.proofs.BoolLemmas.{not_both}
use Rattle.list_cuts.specs.Cuts.{IsOrder}
use Rattle.list_cuts.specs.Orders.{is_order}
use Rattle.list_cuts.proofs.PlanLemmas.{is_of_length}
use Rattle.analysis.specs.Analysis.{AnalysisValue}
use Rattle.offences.specs.declared.refusals.Refusal.{Refusal}
use Rattle.offences.specs.declared.refusals.Refusal.TheVariants.{NotAMacro, BadOrder}
use Rattle.macro_rules.specs.Counting.{class_heads, count_of}
use Rattle.edited_files.specs.Edited.{AreMade}
use Rattle.macro_plan.specs.Kept.{KeepsTokens, TurnsOver}
use Rattle.macro_plan.specs.Macro.{IsMacro, IsOrdered, IsTurned}

-- ---- orders

pub order_told : (n : ℕ) (order : List ℕ) → is_order n order ≡ true → IsOrder n order → IsOrder (length order) order
order_told n order is told = rw (is_of_length n order is) told

-- ---- answers for a class

module _ (a : AnalysisValue) (members : List Part) (order : List ℕ) where
  pub no_macro : class_heads members a ≡ [] → IsOrdered a members order (Err NotAMacro)
  no_macro none = record {
    no_macro = λ h. refl;
    no_order = λ some bad. absurd (some none);
    ordered = λ some good. absurd (some none);
  }

  pub no_order : (class_heads members a ≡ [] → ⊥) → is_order (count_of a members) order ≡ false → IsOrdered a members order (Err BadOrder)
  no_order some bad = record {
    no_macro = λ none. absurd (some none);
    no_order = λ h k. refl;
    ordered = λ h good. absurd (not_both (is_order (count_of a members) order) good bad);
  }

  pub ordered : (class_heads members a ≡ [] → ⊥) → is_order (count_of a members) order ≡ true
      → (r : Result (List Edit) Refusal) → IsTurned a members order r → IsOrdered a members order r
  ordered some good r is = record {
    no_macro = λ none. absurd (some none);
    no_order = λ h bad. absurd (not_both (is_order (count_of a members) order) good bad);
    ordered = λ h k. is;
  }

-- ---- what edits keep

module _ (a : AnalysisValue) (path : List ℕ) (line column : ℕ) (order : List ℕ) (edits : List Edit) where
  good_order : (members : List Part) → (class_heads members a ≡ [] → ⊥) → IsOrdered a members order (Ok edits) → is_order (count_of a members) order ≡ true
  good_order members some is = elim (cases_Bool (is_order (count_of a members) order)) [
    | inl good ↦ good
    | inr bad ↦ absurd (let e = is.no_order some bad in cc)
  ]

  pub turns : IsMacro a path line column order (Ok edits) → KeepsTokens a.workspace a edits → TurnsOver a.workspace a path line column order edits
  turns (None, named, is) keeps before now analysed made = absurd cc
  turns (Some part, named, is) keeps before now analysed made =
      let members = is.members in
      let some : class_heads members a ≡ [] → ⊥ = λ none. (let e = is.ordered.no_macro none in cc) in
      let good = good_order members some is.ordered in
      let turned = is.ordered.ordered some good in (
        record { analysis = a; part = part; members = members },
        record {
          analysed = analysed;
          named = named;
          class = is.are_members;
          macros = some;
          ordered = good;
          clear = turned.0;
          files = subst (λ (es : List Edit). AreMade es before now) turned.1 made;
          tokens = keeps before now analysed made;
        },
      )
