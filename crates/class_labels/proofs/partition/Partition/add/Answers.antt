use Rattle.std.proofs.Common.{◌≡◌, ◌+◌, ◌<◌, ◌≤◌, ◌^◌, [], ◌∷◌, ◌++◌, length, replicate, ◌∙◌, ap, arith, rules}
use Rattle.std.proofs.lemmas.Grind.{common_steps}
use Rattle.std.specs.Vec.{vec_capacity}
use Rattle.class_labels.specs.Labels.{fresh_part, added}
use Rattle.class_labels.proofs.FieldFacts.{fields_as, labels_as}
use Rattle.class_labels.proofs.AddFacts.{add_labels, add_fields, row_added}
use Rattle.class_labels.proofs.partition.Partition.add.Goals as goal

pub invariant_of-self-2 : goal.invariant_of-self-2
invariant_of-self-2 c =
    let spots = c.self.inside.spots.items in
    let nexts = c.self.inside.nexts.items in
    let rows = c.self.inside.rows.items in
    let n = c.args.len in
    let first : c.len-first.result ≡ length spots = omega (arith, c.len-first.ensures, c.self.inside.spots.ok.0) in
    let class : c.len-class.result ≡ length rows = omega (arith, c.len-class.ensures, c.self.inside.rows.ok.0) in
    let new_spots : c.add_spots.new.spots.items ≡ spots ++ fresh_part c.len-class.result n = search rules in
    let new_nexts : c.add_links.new.nexts.items ≡ nexts ++ replicate n 0 = search rules in
    let new_rows : c.push.new.self.items ≡ rows ++ row_added c.len-first.result n ∷ [] = search rules in
    let room : length spots + n ≤ vec_capacity c.push.new.self = grind (arith, common_steps) in
    let short : length spots + n < 2 ^ 32 = omega (arith, c.requires.short, ap (λ v. length v.spots) c.self.view_is) in
    fields_as _ _ _ _ _ _ _ (new_spots ∙ ap (λ v. spots ++ fresh_part v n) class) new_nexts (new_rows ∙ ap (λ v. rows ++ row_added v n ∷ []) first)
    (add_fields spots nexts rows _ _ n c.requires.some short room c.self.invariant)

pub returns-clause-ok : goal.returns-clause-ok
returns-clause-ok c =
    let spots = c.self.inside.spots.items in
    let nexts = c.self.inside.nexts.items in
    let rows = c.self.inside.rows.items in
    let n = c.args.len in
    let first : c.len-first.result ≡ length spots = omega (arith, c.len-first.ensures, c.self.inside.spots.ok.0) in
    let class : c.len-class.result ≡ length rows = omega (arith, c.len-class.ensures, c.self.inside.rows.ok.0) in
    let new_spots : c.add_spots.new.spots.items ≡ spots ++ fresh_part c.len-class.result n = search rules in
    let new_nexts : c.add_links.new.nexts.items ≡ nexts ++ replicate n 0 = search rules in
    let new_rows : c.push.new.self.items ≡ rows ++ row_added c.len-first.result n ∷ [] = search rules in
    labels_as _ _ _ _ _ _ (new_spots ∙ ap (λ v. spots ++ fresh_part v n) class) new_nexts (new_rows ∙ ap (λ v. rows ++ row_added v n ∷ []) first)
    ∙ add_labels spots nexts rows _ n c.self.invariant ∙ ap (λ v. added n v) c.self.view_is
