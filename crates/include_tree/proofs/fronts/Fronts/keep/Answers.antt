use Rattle.include_tree.proofs.fronts.Fronts.keep.Goals as goal

pub returns : goal.returns
returns c = λ table along fronts. fronts
