use Rattle.std.proofs.Common.{◌≡◌, ℕ, ◌+◌, ◌<◌, ◌≤◌, List, get_or, set, length, sym, ◌∙◌, ap, arith, subst}
use Rattle.std.proofs.lemmas.List.{get_or_read, with_items_is}
use Rattle.class_labels.specs.declared.partition.Row.{Row}
use Rattle.class_labels.specs.declared.spots.Spot.{Spot}
use Rattle.std.specs.Vec.{with_items}
use Rattle.class_labels.specs.Labels.{Labels, walk_at, united}
use Rattle.class_labels.specs.Table.{In, IsUnion}
use Rattle.class_labels.specs.Links.{members, with_parts}
use Rattle.class_labels.specs.Held.{no_row, row_walk, labels_of, AreFields}
use Rattle.class_labels.proofs.FieldFacts.{size_of, fields_as, labels_as}
use Rattle.class_labels.proofs.PartFacts.{length-with_parts}
use Rattle.class_labels.proofs.UniteFacts.{UniteIn, unite_known, unite_labels, unite_fields, spots_united, links_united, rows_united, grown_row, empty_row}
use Rattle.class_labels.proofs.partition.Partition.unite.Goals as goal

-- what a union is given, from what its caller says of the value
given : (a b : ℕ) (v : Labels) (spots : List Spot) (nexts : List ℕ) (rows : List Row) (room : ℕ) → v ≡ labels_of spots nexts rows → AreFields spots nexts rows room → IsUnion a b v → 0 < length (walk_at v a) → 0 < length (walk_at v b) → UniteIn a b spots nexts rows room
given a b v spots nexts rows room e fields asked kept lost =
    let P : Labels → Type 0 = λ u. IsUnion a b u in
    let Q : Labels → Type 0 = λ u. 0 < length (walk_at u a) in
    let R : Labels → Type 0 = λ u. 0 < length (walk_at u b) in
    record { fields = fields; asked = subst P e asked; kept_held = subst Q e kept; lost_held = subst R e lost }

fits_as : (spots : List Spot) (nexts also : List ℕ) (row gone : Row) (n : ℕ) → row ≡ gone → also ≡ nexts → n ≡ length spots
    → ((x : ℕ) → In x (row_walk nexts gone) → x + gone.len ≤ length spots) → (x : ℕ) → In x (members row.size also row.first) → x + row.len ≤ n
fits_as spots nexts also row gone n e f g fits =
    let P : Row → Type 0 = λ r. (x : ℕ) → In x (members r.size also r.first) → x + r.len ≤ n in
    let Q : List ℕ → Type 0 = λ l. (x : ℕ) → In x (members gone.size l gone.first) → x + gone.len ≤ n in
    subst P (sym e) (subst Q (sym f) (λ x i. let h = fits x i in omega arith))

pub relabel-requires-clause-within : goal.relabel-requires-clause-within
relabel-requires-clause-within g c =
    let spots = c.self.inside.spots.items in
    let nexts = c.self.inside.nexts.items in
    let rows = c.self.inside.rows.items in
    let h = given c.args.kept c.args.lost c.args.self.now spots nexts rows _ (sym c.self.view_is) c.self.invariant c.requires.union c.requires.kept_held c.requires.lost_held in
    let k = unite_known c.args.kept c.args.lost spots nexts rows _ h in
    let gone : c.index-gone.result.now ≡ get_or rows c.args.lost no_row = get_or_read rows c.args.lost c.index-gone.result.now k.lost c.index-gone.ensures no_row in
    fits_as spots nexts c.deref.result.now c.index-gone.result.now (get_or rows c.args.lost no_row) _ gone c.deref.ensures.value (ap length c.deref_mut.ensures.value) k.fits

labels_eq : (a : ℕ) (row gone : Row) (also nexts : List ℕ) (now spots : List Spot) → row ≡ gone → also ≡ nexts → now ≡ spots → with_parts a 0 row.len (members row.size also row.first) now ≡ with_parts a 0 gone.len (row_walk nexts gone) spots
labels_eq a row gone also nexts now spots e f g =
    ap (λ (r : Row). with_parts a 0 r.len (members r.size also r.first) now) e ∙ ap (λ l. with_parts a 0 gone.len (members gone.size l gone.first) now) f ∙ ap (λ v. with_parts a 0 gone.len (row_walk nexts gone) v) g

pub index_mut-requires : goal.index_mut-requires
index_mut-requires g c =
    let spots = c.self.inside.spots.items in
    let nexts = c.self.inside.nexts.items in
    let rows = c.self.inside.rows.items in
    let h = given c.args.kept c.args.lost c.args.self.now spots nexts rows _ (sym c.self.view_is) c.self.invariant c.requires.union c.requires.kept_held c.requires.lost_held in
    let k = unite_known c.args.kept c.args.lost spots nexts rows _ h in
    let gone : c.index-gone.result.now ≡ get_or rows c.args.lost no_row = get_or_read rows c.args.lost c.index-gone.result.now k.lost c.index-gone.ensures no_row in
    let stays : c.index-stays.result.now ≡ get_or rows c.args.kept no_row = get_or_read rows c.args.kept c.index-stays.result.now k.kept c.index-stays.ensures no_row in
    omega (arith, ap (λ (r : Row). r.last) stays, k.last_within, c.self.inside.nexts.ok.0)

pub overflow_add-stays : goal.overflow_add-stays
overflow_add-stays g c =
    let spots = c.self.inside.spots.items in
    let nexts = c.self.inside.nexts.items in
    let rows = c.self.inside.rows.items in
    let h = given c.args.kept c.args.lost c.args.self.now spots nexts rows _ (sym c.self.view_is) c.self.invariant c.requires.union c.requires.kept_held c.requires.lost_held in
    let k = unite_known c.args.kept c.args.lost spots nexts rows _ h in
    let gone : c.index-gone.result.now ≡ get_or rows c.args.lost no_row = get_or_read rows c.args.lost c.index-gone.result.now k.lost c.index-gone.ensures no_row in
    let stays : c.index-stays.result.now ≡ get_or rows c.args.kept no_row = get_or_read rows c.args.kept c.index-stays.result.now k.kept c.index-stays.ensures no_row in
    omega (arith, ap (λ (r : Row). r.size) stays, ap (λ (r : Row). r.size) gone, k.sum, c.self.invariant.short)

pub invariant_of-self : goal.invariant_of-self
invariant_of-self g c =
    let spots = c.self.inside.spots.items in
    let nexts = c.self.inside.nexts.items in
    let rows = c.self.inside.rows.items in
    let h = given c.args.kept c.args.lost c.args.self.now spots nexts rows _ (sym c.self.view_is) c.self.invariant c.requires.union c.requires.kept_held c.requires.lost_held in
    let k = unite_known c.args.kept c.args.lost spots nexts rows _ h in
    let gone : c.index-gone.result.now ≡ get_or rows c.args.lost no_row = get_or_read rows c.args.lost c.index-gone.result.now k.lost c.index-gone.ensures no_row in
    let stays : c.index-stays.result.now ≡ get_or rows c.args.kept no_row = get_or_read rows c.args.kept c.index-stays.result.now k.kept c.index-stays.ensures no_row in
    let labels : c.relabel.new.spots ≡ spots_united c.args.kept c.args.lost rows nexts spots =
    c.relabel.ensures.labels ∙ labels_eq c.args.kept c.index-gone.result.now (get_or rows c.args.lost no_row) c.deref.result.now nexts c.deref_mut.result.now spots gone c.deref.ensures.value c.deref_mut.ensures.value in
    let long : length c.relabel.new.spots ≡ c.self.inside.spots.len = omega (arith, ap length labels, length-with_parts c.args.kept 0 (get_or rows c.args.lost no_row).len (row_walk nexts (get_or rows c.args.lost no_row)) spots, c.self.inside.spots.ok.0) in
    let new_spots : (with_items c.self.inside.spots c.relabel.new.spots).items ≡ spots_united c.args.kept c.args.lost rows nexts spots = with_items_is c.self.inside.spots c.relabel.new.spots long ∙ labels in
    let new_nexts : set nexts c.index-stays.result.now.last c.index-gone.result.now.first ≡ links_united c.args.kept c.args.lost rows nexts =
    ap (λ (r : Row). set nexts r.last c.index-gone.result.now.first) stays ∙ ap (λ (r : Row). set nexts (get_or rows c.args.kept no_row).last r.first) gone in
    let new_rows : set (set rows c.args.kept (grown_row c.index-stays.result.now c.index-gone.result.now)) c.args.lost (empty_row c.index-gone.result.now) ≡ rows_united c.args.kept c.args.lost rows =
    ap (λ (r : Row). set (set rows c.args.kept (grown_row r c.index-gone.result.now)) c.args.lost (empty_row c.index-gone.result.now)) stays
    ∙ ap (λ (r : Row). set (set rows c.args.kept (grown_row (get_or rows c.args.kept no_row) r)) c.args.lost (empty_row r)) gone in
    fields_as _ _ _ _ _ _ _ new_spots new_nexts new_rows (unite_fields c.args.kept c.args.lost spots nexts rows _ h)

pub returns-clause-table : goal.returns-clause-table
returns-clause-table g c =
    let spots = c.self.inside.spots.items in
    let nexts = c.self.inside.nexts.items in
    let rows = c.self.inside.rows.items in
    let h = given c.args.kept c.args.lost c.args.self.now spots nexts rows _ (sym c.self.view_is) c.self.invariant c.requires.union c.requires.kept_held c.requires.lost_held in
    let k = unite_known c.args.kept c.args.lost spots nexts rows _ h in
    let gone : c.index-gone.result.now ≡ get_or rows c.args.lost no_row = get_or_read rows c.args.lost c.index-gone.result.now k.lost c.index-gone.ensures no_row in
    let stays : c.index-stays.result.now ≡ get_or rows c.args.kept no_row = get_or_read rows c.args.kept c.index-stays.result.now k.kept c.index-stays.ensures no_row in
    let labels : c.relabel.new.spots ≡ spots_united c.args.kept c.args.lost rows nexts spots =
    c.relabel.ensures.labels ∙ labels_eq c.args.kept c.index-gone.result.now (get_or rows c.args.lost no_row) c.deref.result.now nexts c.deref_mut.result.now spots gone c.deref.ensures.value c.deref_mut.ensures.value in
    let long : length c.relabel.new.spots ≡ c.self.inside.spots.len = omega (arith, ap length labels, length-with_parts c.args.kept 0 (get_or rows c.args.lost no_row).len (row_walk nexts (get_or rows c.args.lost no_row)) spots, c.self.inside.spots.ok.0) in
    let new_spots : (with_items c.self.inside.spots c.relabel.new.spots).items ≡ spots_united c.args.kept c.args.lost rows nexts spots = with_items_is c.self.inside.spots c.relabel.new.spots long ∙ labels in
    let new_nexts : set nexts c.index-stays.result.now.last c.index-gone.result.now.first ≡ links_united c.args.kept c.args.lost rows nexts =
    ap (λ (r : Row). set nexts r.last c.index-gone.result.now.first) stays ∙ ap (λ (r : Row). set nexts (get_or rows c.args.kept no_row).last r.first) gone in
    let new_rows : set (set rows c.args.kept (grown_row c.index-stays.result.now c.index-gone.result.now)) c.args.lost (empty_row c.index-gone.result.now) ≡ rows_united c.args.kept c.args.lost rows =
    ap (λ (r : Row). set (set rows c.args.kept (grown_row r c.index-gone.result.now)) c.args.lost (empty_row c.index-gone.result.now)) stays
    ∙ ap (λ (r : Row). set (set rows c.args.kept (grown_row (get_or rows c.args.kept no_row) r)) c.args.lost (empty_row r)) gone in
    labels_as _ _ _ _ _ _ new_spots new_nexts new_rows ∙ unite_labels c.args.kept c.args.lost spots nexts rows _ h ∙ ap (λ v. united c.args.kept c.args.lost v) c.self.view_is

pub returns-clause-steps : goal.returns-clause-steps
returns-clause-steps g c =
    let spots = c.self.inside.spots.items in
    let nexts = c.self.inside.nexts.items in
    let rows = c.self.inside.rows.items in
    let h = given c.args.kept c.args.lost c.args.self.now spots nexts rows _ (sym c.self.view_is) c.self.invariant c.requires.union c.requires.kept_held c.requires.lost_held in
    let k = unite_known c.args.kept c.args.lost spots nexts rows _ h in
    let gone : c.index-gone.result.now ≡ get_or rows c.args.lost no_row = get_or_read rows c.args.lost c.index-gone.result.now k.lost c.index-gone.ensures no_row in
    let stays : c.index-stays.result.now ≡ get_or rows c.args.kept no_row = get_or_read rows c.args.kept c.index-stays.result.now k.kept c.index-stays.ensures no_row in
    let walk : length (walk_at c.args.self.now c.args.lost) ≡ (get_or rows c.args.lost no_row).size = ap (λ v. length (walk_at v c.args.lost)) (sym c.self.view_is) ∙ size_of spots nexts rows c.args.lost in
    let size = ap (λ (r : Row). r.size) gone in
    omega (arith, c.relabel.ensures.steps, walk, size)
