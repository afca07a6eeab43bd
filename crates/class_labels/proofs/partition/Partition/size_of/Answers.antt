use Rattle.std.proofs.Common.{◌<◌, length, sym, ◌∙◌, ap, arith}
use Rattle.std.proofs.lemmas.List.{get_or_read}
use Rattle.class_labels.specs.declared.partition.Row.{Row}
use Rattle.class_labels.specs.Labels.{walk_at}
use Rattle.class_labels.specs.Held.{no_row}
use Rattle.class_labels.proofs.FieldFacts.{size_of, rows_counted}
use Rattle.class_labels.proofs.partition.Partition.size_of.Goals as goal

pub returns : goal.returns
returns c =
    let spots = c.self.inside.spots.items in
    let nexts = c.self.inside.nexts.items in
    let rows = c.self.inside.rows.items in
    let many = ap (λ v. length v.walks) c.self.view_is in
    let within : c.args.class < length rows = omega (arith, c.requires, many, rows_counted spots nexts rows) in
    ap (λ (r : Row). r.size) (get_or_read rows c.args.class c.index.result.now within c.index.ensures no_row)
    ∙ sym (size_of spots nexts rows c.args.class) ∙ ap (λ v. length (walk_at v c.args.class)) c.self.view_is
