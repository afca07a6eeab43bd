use Rattle.std.proofs.Common.{◌<◌, ◌++◌, ◌∷◌, [], List, rules, length, ◌∙◌, ap}
use Rattle.unit_steps.specs.Texts.{UnitTextValue}
use Rattle.cs_base.proofs.ListLemmas.{read_at}
use Rattle.include_tree.proofs.FrontLemmas.{mapped-last, taken-texts}
use Rattle.include_tree.proofs.fronts.Trail.copied.Goals as goal

pub loop-k-preserved : goal.loop-k-preserved
loop-k-preserved c =
    let less : c.loop-k.k < length c.args.self.now.pieces.items = search rules in
    taken-texts c.args.self.now c.loop-k.k c.index.result.now.value _
    (mapped-last c.args.self.now.pieces.items c.loop-k.k c.index.result.now (λ r. r.value) (read_at c.args.self.now.pieces.items c.loop-k.k c.index.result.now less c.index.ensures))
    (c.in_ok-add_piece.ensures ∙ ap (λ (ts : List UnitTextValue). ts ++ c.index.result.now.value ∷ []) c.loop-k.invariant)
