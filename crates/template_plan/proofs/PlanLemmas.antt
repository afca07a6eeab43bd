-- What is answered for a place, by what is answered for a class.
use Rattle.std.proofs.Common.{◌≡◌, ℕ, true, false, List, [], Option, Some, None, Result, Err, length, refl}
use Rattle.std.specs.Prelude.{IfSome}
use Rattle.cs_base.specs.declared.positions.Part.{Part}
use Rattle.cs_base.specs.Edit.{Edit}
use Rattle.cs_base.proofs.BoolLemmas.{not_both}
use Rattle.list_cuts.specs.Cuts.{IsOrder}
use Rattle.list_cuts.specs.Orders.{is_order}
use Rattle.list_cuts.proofs.PlanLemmas.{is_of_length}
use Rattle.analysis.specs.Below.source_files.Files.{Table}
use Rattle.analysis.specs.Analysis.{AnalysisValue}
use Rattle.offences.specs.declared.firsts.Offence.{Offence}
use Rattle.offences.specs.declared.refusals.Refusal.{Refusal}
use Rattle.offences.specs.declared.refusals.Refusal.TheVariants.{NotAFunction}
use Rattle.offences.specs.First.{IsFirst, FirstThen}
use Rattle.template_rules.specs.Functions.{has_function}
use Rattle.template_rules.specs.Lists.{count_of}
use Rattle.template_rules.specs.Template.{order_refusal, IsOrdered, IsReordered}

pub if_some : {F : Type 0} (o : Option F) (P Q : F → Type 0) → ((x : F) → P x → Q x) → IfSome o P → IfSome o Q
if_some None P Q f h = tt
if_some (Some x) P Q f h = f x h

-- the first of some offences alone
pub first_of : (table : Table) (more : List Offence) (first : Option Offence) → FirstThen table more None first → IsFirst table more first
first_of table more first then_ = then_.goes_on [] refl

-- ---- orders

pub order_told : (n : ℕ) (order : List ℕ) → is_order n order ≡ true → IsOrder n order → IsOrder (length order) order
order_told n order is told = rw (is_of_length n order is) told

-- ---- answers for a class

module _ (a : AnalysisValue) (members : List Part) (order : List ℕ) where
  pub no_function : has_function members a ≡ false → IsOrdered a members order (Err NotAFunction)
  no_function none = record {
    no_function = λ h. refl;
    no_order = λ has bad. absurd (not_both (has_function members a) has none);
    ordered = λ has good. absurd (not_both (has_function members a) has none);
  }

  pub no_order : has_function members a ≡ true → is_order (count_of a members) order ≡ false → IsOrdered a members order (Err (order_refusal a members))
  no_order some none = record {
    no_function = λ h. absurd (not_both (has_function members a) some h);
    no_order = λ has bad. refl;
    ordered = λ has good. absurd (not_both (is_order (count_of a members) order) good none);
  }

  pub ordered : has_function members a ≡ true → is_order (count_of a members) order ≡ true
      → (r : Result (List Edit) Refusal) → IsReordered a members order r → IsOrdered a members order r
  ordered some good r is = record {
    no_function = λ h. absurd (not_both (has_function members a) some h);
    no_order = λ has bad. absurd (not_both (is_order (count_of a members) order) good bad);
    ordered = λ has is_good. is;
  }
