use Rattle.std.proofs.Common.{refl, ◌≡◌, ◌∙◌, length, ap, sym, arith, subst}
use Rattle.analysis.specs.Analysed.{Analysed}
use Rattle.template_plan.proofs.comparing.are_compared.Goals as goal

pub are_units-requires : goal.are_units-requires
are_units-requires c =
    sym c.units.ensures ∙ (c.if-units-count.false ∙ (c.units-count.ensures ∙ ap (λ (x : Analysed). length x.value.units) c.analysis-a.ensures))

pub returns : goal.returns
returns c = λ passed. record {
  many = sym c.units.ensures ∙ (c.if-units-count.false ∙ (c.units-count.ensures ∙ ap (λ (x : Analysed). length x.value.units) c.analysis-a.ensures));
  units = c.in_ok-same.ensures passed;
  numbers = rw c.analysis-a.ensures at (c.if-not-are_files.ensures.numbers refl);
  files = rw c.analysis-a.ensures at (c.if-not-are_files.ensures.files refl);
}
