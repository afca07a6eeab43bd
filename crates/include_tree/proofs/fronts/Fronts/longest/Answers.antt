use Rattle.include_tree.proofs.FrontLemmas.{chosen-fits, chosen-is}
use Rattle.include_tree.proofs.fronts.Fronts.longest.Goals as goal

pub returns-in-Some-clause-fits : goal.returns-in-Some-clause-fits
returns-in-Some-clause-fits c =
    chosen-fits c.args.self.now.all.items c.in-Some.k c.index.result.now c.args.unit.now c.args.pseudo c.args.most c.args.leads.now c.in-Some.ensures c.index.ensures

pub returns-in-Some-clause-is : goal.returns-in-Some-clause-is
returns-in-Some-clause-is c = λ table all.
    chosen-is table c.args.self.now.all.items c.in-Some.k c.index.result.now c.args.unit.now c.args.pseudo c.args.most c.args.leads.now all c.in-Some.ensures c.index.ensures
