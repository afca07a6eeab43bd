use Rattle.std.proofs.Common.{◌++◌, List, ◌∙◌, ap, ◌∷◌, []}
use Rattle.linkage_join.specs.Linkage.{UnitValue as ExternalNames}
use Rattle.analysis.proofs.ExternalLemmas.{names_there, names_past}
use Rattle.analysis.proofs.external_names.push_names.Goals as goal

pub returns-then-k-units : goal.returns-then-k-units
returns-then-k-units c =
    let all = c.args.all.now.items in
    c.in_ok-push.ensures.items ∙ ap (λ (n : ExternalNames). all ++ n ∷ []) c.in_ok-names_of_unit.ensures
    ∙ ap (λ (ns : List ExternalNames). all ++ ns) (names_there c.args.units.now c.args.k c.index-units-k.result c.args.parts.now c.if-k-units.true c.index-units-k.is)

pub returns : goal.returns
returns c = names_past c.args.units.now c.args.k c.args.parts.now c.args.all.now.items c.if-k-units.false
