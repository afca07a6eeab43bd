use Rattle.std.proofs.Common.{◌≡◌, ℕ, ◌<◌, ◌≤◌, ◌^◌, List, get_or, set, map, length, sym, ◌∙◌, ap, arith, rules, subst}
use Rattle.std.specs.List.{flat_map}
use Rattle.std.specs.Vec.{with_items, vec_capacity}
use Rattle.std.proofs.lemmas.List.{get_or_read, with_items_is, length-map}
use Rattle.std.proofs.lemmas.Option.{get_or_from_slice_get}
use Rattle.class_labels.specs.declared.partition.Row.{Row}
use Rattle.class_labels.specs.declared.spots.Spot.{Spot}
use Rattle.class_labels.specs.Labels.{Labels}
use Rattle.class_labels.specs.Held.{no_row, labels_of, AreFields}
use Rattle.class_labels.specs.Regrown.{piece, place, regrown, ArePlaces, regrown_links, moved_row, regrown_rows}
use Rattle.class_labels.proofs.FieldFacts.{fields_as, labels_as, rows_counted}
use Rattle.class_labels.proofs.RegrownRows.{RegrowIn, rows_few, regrow_labels, regrow_fields}
use Rattle.class_labels.proofs.partition.Partition.regrow.Goals as goal

-- what is given, from what the caller says of the value
given : (c m : ℕ) (numbers : List ℕ) (v : Labels) (spots : List Spot) (nexts : List ℕ) (rows : List Row) (room : ℕ) → v ≡ labels_of spots nexts rows → AreFields spots nexts rows room → 0 < m → c < length v.walks → ArePlaces c m v.spots numbers
    → RegrowIn c m numbers spots nexts rows room
given c m numbers v spots nexts rows room e fields some known are =
    let P : Labels → Type 0 = λ u. ArePlaces c m u.spots numbers in
    let many = rows_counted spots nexts rows in
    let long = ap (λ (u : Labels). length u.walks) e in
    record { fields = fields; some = some; known = omega arith; numbers_are = subst P e are }

count_is : (c m n : ℕ) (numbers : List ℕ) (spots : List Spot) → ArePlaces c m spots numbers → n ≡ length spots → get_or numbers n 0 ≡ place c m spots (length spots)
count_is c m n numbers spots are e = ap (λ v. get_or numbers v 0) e ∙ get_or_from_slice_get numbers (length spots) (place c m spots (length spots)) 0 (are.each (length spots) (omega arith))

rows_as : (c m : ℕ) (numbers : List ℕ) (rows now : List Row) (row : Row) → now ≡ map (moved_row numbers) rows → row ≡ get_or now c no_row → set now c (record { size = row.size; first = row.first; last = row.last; len = m }) ≡ regrown_rows c m numbers rows
rows_as c m numbers rows now row e f =
    let g : row ≡ get_or (map (moved_row numbers) rows) c no_row = f ∙ ap (λ v. get_or v c no_row) e in
    ap (λ (r : Row). set now c (record { size = r.size; first = r.first; last = r.last; len = m })) g
    ∙ ap (λ v. set v c (record { size = (get_or (map (moved_row numbers) rows) c no_row).size; first = (get_or (map (moved_row numbers) rows) c no_row).first; last = (get_or (map (moved_row numbers) rows) c no_row).last; len = m })) e

pub overflow_sub-count : goal.overflow_sub-count
overflow_sub-count c =
    let spots = c.self.inside.spots.items in
    let nexts = c.self.inside.nexts.items in
    let rows = c.self.inside.rows.items in
    let h = given c.args.class c.args.len c.args.numbers.now c.args.self.now spots nexts rows _ (sym c.self.view_is) c.self.invariant c.requires.some c.requires.known c.requires.numbers in
    let count = count_is c.args.class c.args.len c.len.result c.args.numbers.now spots h.numbers_are (omega (arith, c.len.ensures, c.self.inside.spots.ok.0)) in
    omega (arith, count, rows_few c.args.class c.args.len spots nexts rows _ c.requires.some h.known c.self.invariant, c.len-2.ensures, c.self.inside.rows.ok.0)

pub invariant_of-self-2 : goal.invariant_of-self-2
invariant_of-self-2 c =
    let spots = c.self.inside.spots.items in
    let nexts = c.self.inside.nexts.items in
    let rows = c.self.inside.rows.items in
    let numbers = c.args.numbers.now in
    let h = given c.args.class c.args.len numbers c.args.self.now spots nexts rows _ (sym c.self.view_is) c.self.invariant c.requires.some c.requires.known c.requires.numbers in
    let count = count_is c.args.class c.args.len c.len.result numbers spots h.numbers_are (omega (arith, c.len.ensures, c.self.inside.spots.ok.0)) in
    let few = rows_few c.args.class c.args.len spots nexts rows _ c.requires.some h.known c.self.invariant in
    let new_spots : c.in_ok-spots.spots.items ≡ flat_map (piece c.args.class c.args.len) spots = c.in_ok-spots.ensures ∙ ap (λ v. flat_map (piece c.args.class c.args.len) v) c.deref.ensures.value in
    let new_nexts : c.in_ok-nexts.nexts.items ≡ regrown_links c.args.class c.args.len numbers spots nexts =
    c.in_ok-nexts.ensures ∙ ap (λ v. regrown_links c.args.class c.args.len numbers v c.deref-3.result.now) c.deref-2.ensures.value ∙ ap (λ v. regrown_links c.args.class c.args.len numbers spots v) c.deref-3.ensures.value in
    let kept : c.reserve.new.self.items ≡ rows = search rules in
    let moved : c.move_rows.new.rows ≡ map (moved_row numbers) rows = c.move_rows.ensures ∙ ap (λ v. map (moved_row numbers) v) (c.deref_mut.ensures.value ∙ kept) in
    let long : length c.move_rows.new.rows ≡ c.reserve.new.self.len = omega (arith, ap length moved, length-map rows (moved_row numbers), ap length kept, c.reserve.new.self.ok.0) in
    let all : (with_items c.reserve.new.self c.move_rows.new.rows).items ≡ map (moved_row numbers) rows = with_items_is c.reserve.new.self c.move_rows.new.rows long ∙ moved in
    let row : c.index-row.result.now ≡ get_or (with_items c.reserve.new.self c.move_rows.new.rows).items c.args.class no_row =
    get_or_read (with_items c.reserve.new.self c.move_rows.new.rows).items c.args.class c.index-row.result.now (omega (arith, ap length all, length-map rows (moved_row numbers), h.known)) c.index-row.ensures no_row in
    let room : place c.args.class c.args.len spots (length spots) ≤ vec_capacity c.reserve.new.self = omega (arith, c.in_ok-reserve.ensures.ok, c.in_ok-reserve.ensures.len, few, count, c.len-2.ensures, c.self.inside.rows.ok.0) in
    let short : place c.args.class c.args.len spots (length spots) < 2 ^ 32 = omega (arith, ap (λ (v : Labels). place c.args.class c.args.len v.spots (length v.spots)) c.self.view_is, c.requires.short) in
    fields_as _ _ _ _ _ _ _ new_spots new_nexts (rows_as c.args.class c.args.len numbers rows _ c.index-row.result.now all row) (regrow_fields c.args.class c.args.len numbers spots nexts rows _ _ h short room)

pub returns-clause-ok : goal.returns-clause-ok
returns-clause-ok c =
    let spots = c.self.inside.spots.items in
    let nexts = c.self.inside.nexts.items in
    let rows = c.self.inside.rows.items in
    let numbers = c.args.numbers.now in
    let h = given c.args.class c.args.len numbers c.args.self.now spots nexts rows _ (sym c.self.view_is) c.self.invariant c.requires.some c.requires.known c.requires.numbers in
    let new_spots : c.in_ok-spots.spots.items ≡ flat_map (piece c.args.class c.args.len) spots = c.in_ok-spots.ensures ∙ ap (λ v. flat_map (piece c.args.class c.args.len) v) c.deref.ensures.value in
    let new_nexts : c.in_ok-nexts.nexts.items ≡ regrown_links c.args.class c.args.len numbers spots nexts =
    c.in_ok-nexts.ensures ∙ ap (λ v. regrown_links c.args.class c.args.len numbers v c.deref-3.result.now) c.deref-2.ensures.value ∙ ap (λ v. regrown_links c.args.class c.args.len numbers spots v) c.deref-3.ensures.value in
    let kept : c.reserve.new.self.items ≡ rows = search rules in
    let moved : c.move_rows.new.rows ≡ map (moved_row numbers) rows = c.move_rows.ensures ∙ ap (λ v. map (moved_row numbers) v) (c.deref_mut.ensures.value ∙ kept) in
    let long : length c.move_rows.new.rows ≡ c.reserve.new.self.len = omega (arith, ap length moved, length-map rows (moved_row numbers), ap length kept, c.reserve.new.self.ok.0) in
    let all : (with_items c.reserve.new.self c.move_rows.new.rows).items ≡ map (moved_row numbers) rows = with_items_is c.reserve.new.self c.move_rows.new.rows long ∙ moved in
    let row : c.index-row.result.now ≡ get_or (with_items c.reserve.new.self c.move_rows.new.rows).items c.args.class no_row =
    get_or_read (with_items c.reserve.new.self c.move_rows.new.rows).items c.args.class c.index-row.result.now (omega (arith, ap length all, length-map rows (moved_row numbers), h.known)) c.index-row.ensures no_row in
    labels_as _ _ _ _ _ _ new_spots new_nexts (rows_as c.args.class c.args.len numbers rows _ c.index-row.result.now all row) ∙ regrow_labels c.args.class c.args.len numbers spots nexts rows _ h ∙ ap (λ v. regrown c.args.class c.args.len v) c.self.view_is
