use Rattle.std.proofs.Common.{◌∙◌}
use Rattle.std.specs.Str.{bytes_eq}
use Rattle.c99_tree.proofs.NameLemmas.{position-map}
use Rattle.c99_tree.proofs.numbered_names.NumberedNames.number_of.Goals as goal

pub returns-clause-answer : goal.returns-clause-answer
returns-clause-answer c = rw (← c.self.view_is) (c.get_index_of.ensures.index ∙ position-map (λ k. k.items) (bytes_eq c.args.name.now) c.self.inside.names.keys)
