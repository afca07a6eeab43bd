use Rattle.std.proofs.Common.{◌≡◌, ◌<◌, ℕ, List, length, get_or, sym, ◌∙◌, ap, arith}
use Rattle.std.specs.Prelude.{slice_get}
use Rattle.std.proofs.lemmas.List.{get_or_read}
use Rattle.class_labels.specs.declared.partition.Row.{Row}
use Rattle.class_labels.specs.declared.spots.Spot.{Spot}
use Rattle.class_labels.specs.Labels.{Labels, walk_at}
use Rattle.class_labels.specs.Held.{no_row, row_walk, labels_of}
use Rattle.class_labels.proofs.FieldFacts.{walk_of}
use Rattle.class_labels.proofs.MemberFacts.{members_head}
use Rattle.class_labels.proofs.partition.Partition.first.Goals as goal

-- the head of a walk, by its row
head_of : (v : Labels) (spots : List Spot) (nexts : List ℕ) (rows : List Row) (c : ℕ) (row : Row) → labels_of spots nexts rows ≡ v → row ≡ get_or rows c no_row → slice_get (row_walk nexts row) 0 ≡ slice_get (walk_at v c) 0
head_of v spots nexts rows c row e f =
    ap (λ (r : Row). slice_get (row_walk nexts r) 0) f ∙ ap (λ w. slice_get w 0) (sym (walk_of spots nexts rows c)) ∙ ap (λ u. slice_get (walk_at u c) 0) e

pub returns-then-row-gt0 : goal.returns-then-row-gt0
returns-then-row-gt0 c =
    let spots = c.self.inside.spots.items in
    let nexts = c.self.inside.nexts.items in
    let rows = c.self.inside.rows.items in
    let row = c.index-row.result.now in
    let within : c.args.class < length rows = omega (arith, c.len.ensures, c.self.inside.rows.ok.0) in
    sym (members_head row.size nexts row.first c.if-row-gt0.true)
    ∙ head_of c.args.self.now spots nexts rows c.args.class row c.self.view_is (get_or_read rows c.args.class row within c.index-row.ensures no_row)
