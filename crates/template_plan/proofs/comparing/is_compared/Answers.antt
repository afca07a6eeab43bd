use Rattle.std.proofs.Common.{◌≡◌, ◌-◌, ℕ, Some, ap, slice_get, subst, ◌∙◌}
use Rattle.analysis.proofs.OneUnitLemmas.{same_unit}
use Rattle.analysis.specs.Analysed.{Analysed}
use Rattle.analysis.specs.Analysis.{UnitAnalysis}
use Rattle.template_meaning.specs.Compared.{IsComparedUnit}
use Rattle.template_meaning.specs.Matched.{begun}
use Rattle.template_plan.proofs.TreeLemmas.{of_some}
use Rattle.template_plan.proofs.comparing.is_compared.Goals as goal

pub returns : goal.returns
returns c = λ passed u v at there.
    let n = c.args.unit - 1 in
    let order = c.args.order.now in
    let begins = c.in-Some.begins in
    let first = c.in_ok-first.first in
    let second = c.in_ok-second.second in
    let had : slice_get c.args.functions.now.analysis.value.units n ≡ Some first = rw c.analysis-a.ensures at c.in_ok-first.ensures in
    let one = same_unit (slice_get c.args.functions.now.analysis.value.units n) u first at had in
    let other = same_unit (slice_get c.args.b.now.value.units n) v second there c.in_ok-second.ensures in
    let own = c.in_ok-same.ensures passed in
    let are = of_some c.in_ok-found.found _ begins c.in-Some.is c.in_ok-found.ensures in
    record {
      begins = begins;
      perm = own.0;
      places = own.1;
      lists = λ (k : ℕ). ap (λ bs. begun bs k) are ∙ c.in_ok-lists.ensures u at k;
      same = subst (λ (y : UnitAnalysis). IsComparedUnit order begins own.0 own.1 u y) other
          (subst (λ (x : UnitAnalysis). IsComparedUnit order begins own.0 own.1 x second) one own.2);
    }
