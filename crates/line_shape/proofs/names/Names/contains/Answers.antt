use Rattle.std.proofs.Common.{◌∙◌}
use Rattle.std.specs.Str.{bytes_eq}
use Rattle.line_shape.proofs.NameLemmas.{list_any-map}
use Rattle.line_shape.proofs.names.Names.contains.Goals as goal

pub returns : goal.returns
returns c = rw (← c.self.view_is) (c.contains.ensures ∙ list_any-map (λ k. k.items) (bytes_eq c.args.name.now) c.self.inside.names.keys)
