use Rattle.std.proofs.Common.{ℕ, List, ap, sym, ◌∙◌}
use Rattle.std.proofs.Math.Path.{fun_ext}
use Rattle.cs_base.specs.declared.positions.Pos.{Pos}
use Rattle.cs_base.specs.Units.{UnitValue}
use Rattle.analysis.specs.Analysis.{UnitAnalysis}
use Rattle.analysis.specs.Below.linkage_join.Linkage.{first_spelled, names_of}
use Rattle.analysis.specs.Links.{names_of_units}
use Rattle.calls_of.proofs.known.Known.of.Goals as goal

pub returns : goal.returns
returns c = record {
  owners = fun_ext (λ (p : Pos). rw c.analysis-a.ensures at (c.in_ok-owners.ensures p));
  firsts = fun_ext (λ (project : List ℕ). fun_ext (λ (text : List ℕ).
      c.in_ok-firsts.ensures project text
      ∙ ap (λ (us : List UnitAnalysis). first_spelled text (names_of project (names_of_units c.args.units.now us))) c.units-read.ensures
      ∙ ap (λ (units : List UnitValue). first_spelled text (names_of project (names_of_units units c.args.all.now.value.units))) (sym c.requires)));
}
