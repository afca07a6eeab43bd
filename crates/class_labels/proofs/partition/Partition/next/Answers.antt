use Rattle.std.proofs.Common.{◌≡◌, ℕ, ◌+◌, ◌<◌, List, Some, None, suc, length, get_or, sym, ◌∙◌, ap, arith, subst, Option}
use Rattle.std.specs.Prelude.{slice_get}
use Rattle.std.proofs.lemmas.List.{get_or_read}
use Rattle.std.proofs.lemmas.Option.{slice_get_within}
use Rattle.class_labels.specs.declared.partition.Row.{Row}
use Rattle.class_labels.specs.declared.spots.Spot.{Spot}
use Rattle.class_labels.specs.Labels.{Labels, spot, class_at, walk_at}
use Rattle.class_labels.specs.Table.{Distinct}
use Rattle.class_labels.specs.Links.{last_of}
use Rattle.class_labels.specs.Held.{no_row, row_walk, labels_of, AreFields}
use Rattle.class_labels.proofs.FieldFacts.{walk_of, size_of, rows_counted}
use Rattle.class_labels.proofs.StepFacts.{starts_of, held_from_In}
use Rattle.class_labels.proofs.NextFacts.{after_last, after_other}
use Rattle.class_labels.proofs.partition.Partition.next.Goals as goal

-- the row of a character that begins a part
record Here (spots : List Spot) (nexts : List ℕ) (rows : List Row) (x : ℕ) (row : Row) : Type 0 where
  is : row ≡ get_or rows (class_at (labels_of spots nexts rows) x) no_row
  known : class_at (labels_of spots nexts rows) x < length rows
  walk : walk_at (labels_of spots nexts rows) (class_at (labels_of spots nexts rows) x) ≡ row_walk nexts row
  last : row.last ≡ last_of (row_walk nexts row)
  distinct : Distinct (row_walk nexts row)

here_from : (v : Labels) (spots : List Spot) (nexts : List ℕ) (rows : List Row) (room x : ℕ) (s : Spot) (row : Row) → labels_of spots nexts rows ≡ v → AreFields spots nexts rows room
    → slice_get v.spots x ≡ Some (spot (class_at v x) 0) → s ≡ get_or spots x s → row ≡ get_or rows s.class row → Here spots nexts rows x row
here_from v spots nexts rows room x s row e fields at read_s read_row =
    let t = labels_of spots nexts rows in
    let P : Labels → Type 0 = λ u. slice_get u.spots x ≡ Some (spot (class_at u x) 0) in
    let there : slice_get t.spots x ≡ Some (spot (class_at t x) 0) = subst P (sym e) at in
    let c = class_at t x in
    let start = starts_of t x c fields.table there in
    let below : x < length spots = slice_get_within spots x (spot c 0) there in
    let class : s.class ≡ c = ap (λ (u : Spot). u.class) (get_or_read spots x s below read_s (spot 0 0)) in
    let known : c < length rows = let k = start.known in omega (arith, rows_counted spots nexts rows) in
    let Q : ℕ → Type 0 = λ u. row ≡ get_or rows u row in
    let is : row ≡ get_or rows c no_row = get_or_read rows c row known (subst Q class read_row) no_row in
    let walk : walk_at t c ≡ row_walk nexts row = walk_of spots nexts rows c ∙ ap (λ r. row_walk nexts r) (sym is) in
    let D : List ℕ → Type 0 = λ u. Distinct u in
    let R : Row → Type 0 = λ r. r.last ≡ last_of (row_walk nexts r) in
    let size : 0 < (get_or rows c no_row).size = let h = held_from_In x (walk_at t c) start.among in omega (arith, size_of spots nexts rows c) in
    record { is = is; known = known; walk = walk; last = subst R (sym is) (fields.lasts c known size); distinct = subst D walk (fields.table.once c start.known) }

step_to : (v : Labels) (spots : List Spot) (nexts : List ℕ) (rows : List Row) (x k : ℕ) (row : Row) (o : Option ℕ) → labels_of spots nexts rows ≡ v → Here spots nexts rows x row
    → slice_get (walk_at v (class_at v x)) k ≡ Some x → (slice_get (row_walk nexts row) k ≡ Some x → slice_get (row_walk nexts row) (suc k) ≡ o) → o ≡ slice_get (walk_at v (class_at v x)) (k + 1)
step_to v spots nexts rows x k row o e here at go =
    let walk : walk_at v (class_at v x) ≡ row_walk nexts row = ap (λ u. walk_at u (class_at u x)) (sym e) ∙ here.walk in
    let one : suc k ≡ k + 1 = omega arith in
    let P : ℕ → Type 0 = λ j. o ≡ slice_get (walk_at v (class_at v x)) j in
    subst P one (sym (go (ap (λ w. slice_get w k) (sym walk) ∙ at)) ∙ ap (λ w. slice_get w (suc k)) (sym walk))

pub returns-then-row-x : goal.returns-then-row-x
returns-then-row-x c k at =
    let spots = c.self.inside.spots.items in
    let nexts = c.self.inside.nexts.items in
    let rows = c.self.inside.rows.items in
    let row = c.index-row.result.now in
    let here = here_from c.args.self.now spots nexts rows _ c.args.x c.index.result.now row c.self.view_is c.self.invariant c.requires c.index.ensures c.index-row.ensures in
    step_to c.args.self.now spots nexts rows c.args.x k row None c.self.view_is here at (λ there. after_last (row_walk nexts row) k c.args.x here.distinct there (sym c.if-row-x.true ∙ here.last))

pub returns-else-row-x : goal.returns-else-row-x
returns-else-row-x c k at =
    let spots = c.self.inside.spots.items in
    let nexts = c.self.inside.nexts.items in
    let rows = c.self.inside.rows.items in
    let row = c.index-row.result.now in
    let here = here_from c.args.self.now spots nexts rows _ c.args.x c.index.result.now row c.self.view_is c.self.invariant c.requires c.index.ensures c.index-row.ensures in
    let below : c.args.x < length nexts = let linked = c.self.invariant.linked in let w = slice_get_within c.args.self.now.spots c.args.x _ c.requires in omega (arith, ap (λ (u : Labels). length u.spots) c.self.view_is) in
    let link : c.index-else-row-x.result.now ≡ get_or nexts c.args.x 0 = get_or_read nexts c.args.x c.index-else-row-x.result.now below c.index-else-row-x.ensures 0 in
    step_to c.args.self.now spots nexts rows c.args.x k row (Some c.index-else-row-x.result.now) c.self.view_is here at
    (λ there. after_other row.size nexts row.first k c.args.x there (λ e. c.if-row-x.false (here.last ∙ sym e)) ∙ ap Some (sym link))
