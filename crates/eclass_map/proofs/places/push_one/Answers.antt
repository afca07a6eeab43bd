use Rattle.std.proofs.Common.{◌++◌, ap, ◌∙◌}
use Rattle.eclass_map.proofs.RunFacts.{fresh_one}
use Rattle.eclass_map.proofs.places.push_one.Goals as goal

pub returns : goal.returns
returns c = c.push.ensures ∙ ap (λ v. c.args.places.now.list ++ v) (fresh_one c.args.start)
