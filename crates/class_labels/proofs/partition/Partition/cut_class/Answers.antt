use Rattle.std.proofs.Common.{◌≡◌, ℕ, ◌+◌, ◌-◌, ◌≤◌, List, [], ◌∷◌, ◌++◌, get_or, set, length, sym, ◌∙◌, ap, arith, rules, subst}
use Rattle.std.specs.Vec.{with_items}
use Rattle.std.proofs.lemmas.List.{get_or_read, with_items_is}
use Rattle.class_labels.specs.declared.partition.Row.{Row}
use Rattle.class_labels.specs.declared.spots.Spot.{Spot}
use Rattle.class_labels.specs.Labels.{Labels, cut}
use Rattle.class_labels.specs.Table.{In, IsCut}
use Rattle.class_labels.specs.Links.{members, with_parts, with_links}
use Rattle.class_labels.specs.Held.{no_row, row_walk, labels_of, AreFields}
use Rattle.class_labels.proofs.FieldFacts.{fields_as, fields_room, labels_as}
use Rattle.class_labels.proofs.MemberFacts.{length-with_links}
use Rattle.class_labels.proofs.PartFacts.{length-with_parts}
use Rattle.class_labels.proofs.SplitFacts.{SplitIn, split_known, split_labels, split_fields, spots_cut, links_cut, rows_cut, first_row, second_row}
use Rattle.class_labels.proofs.partition.Partition.cut_class.Goals as goal

given : (a k : ℕ) (v : Labels) (spots : List Spot) (nexts : List ℕ) (rows : List Row) (room : ℕ) → v ≡ labels_of spots nexts rows → AreFields spots nexts rows room → IsCut a k v → SplitIn a k spots nexts rows room
given a k v spots nexts rows room e fields asked =
    let P : Labels → Type 0 = λ u. IsCut a k u in
    record { fields = fields; asked = subst P e asked }

labels_eq : (n m k : ℕ) (row gone : Row) (also nexts : List ℕ) (now spots : List Spot) → n ≡ m → row ≡ gone → also ≡ nexts → now ≡ spots
    → with_parts n k (row.len - k) (members row.size also row.first) now ≡ with_parts m k (gone.len - k) (row_walk nexts gone) spots
labels_eq n m k row gone also nexts now spots d e f g =
    ap (λ v. with_parts v k (row.len - k) (members row.size also row.first) now) d
    ∙ ap (λ (r : Row). with_parts m k (r.len - k) (members r.size also r.first) now) e
    ∙ ap (λ l. with_parts m k (gone.len - k) (members gone.size l gone.first) now) f
    ∙ ap (λ v. with_parts m k (gone.len - k) (row_walk nexts gone) v) g

links_eq : (k : ℕ) (row gone : Row) (also nexts : List ℕ) → row ≡ gone → also ≡ nexts → with_links k (members row.size also row.first) also ≡ with_links k (row_walk nexts gone) nexts
links_eq k row gone also nexts e f = ap (λ (r : Row). with_links k (members r.size also r.first) also) e ∙ ap (λ l. with_links k (members gone.size l gone.first) l) f

fits_as : (spots : List Spot) (nexts also : List ℕ) (row gone : Row) (n : ℕ) → row ≡ gone → also ≡ nexts → n ≡ length spots
    → ((x : ℕ) → In x (row_walk nexts gone) → x + gone.len ≤ length spots) → (x : ℕ) → In x (members row.size also row.first) → x + row.len ≤ n
fits_as spots nexts also row gone n e f g fits =
    let P : Row → Type 0 = λ r. (x : ℕ) → In x (members r.size also r.first) → x + r.len ≤ n in
    let Q : List ℕ → Type 0 = λ l. (x : ℕ) → In x (members gone.size l gone.first) → x + gone.len ≤ n in
    subst P (sym e) (subst Q (sym f) (λ x i. let h = fits x i in omega arith))

clear_as : (k : ℕ) (nexts also : List ℕ) (row gone : Row) → row ≡ gone → also ≡ nexts
    → ((x y : ℕ) → In x (row_walk nexts gone) → In y (row_walk nexts gone) → y ≡ x + k → ⊥)
    → (x y : ℕ) → In x (members row.size also row.first) → In y (members row.size also row.first) → y ≡ x + k → ⊥
clear_as k nexts also row gone e f clear =
    let P : Row → Type 0 = λ r. (x y : ℕ) → In x (members r.size also r.first) → In y (members r.size also r.first) → y ≡ x + k → ⊥ in
    let Q : List ℕ → Type 0 = λ l. (x y : ℕ) → In x (members gone.size l gone.first) → In y (members gone.size l gone.first) → y ≡ x + k → ⊥ in
    subst P (sym e) (subst Q (sym f) clear)

pub split-requires-clause-within : goal.split-requires-clause-within
split-requires-clause-within c =
    let spots = c.self.inside.spots.items in
    let nexts = c.self.inside.nexts.items in
    let rows = c.self.inside.rows.items in
    let h = given c.args.class c.args.at c.args.self.now spots nexts rows _ (sym c.self.view_is) c.self.invariant c.requires in
    let k = split_known c.args.class c.args.at spots nexts rows _ h in
    let row : c.index-row.result.now ≡ get_or rows c.args.class no_row = get_or_read rows c.args.class c.index-row.result.now k.within c.index-row.ensures no_row in
    fits_as spots nexts c.deref_mut-2.result.now c.index-row.result.now (get_or rows c.args.class no_row) _ row c.deref_mut-2.ensures.value (ap length c.deref_mut.ensures.value) k.fits

pub split-requires-clause-clear : goal.split-requires-clause-clear
split-requires-clause-clear c =
    let spots = c.self.inside.spots.items in
    let nexts = c.self.inside.nexts.items in
    let rows = c.self.inside.rows.items in
    let h = given c.args.class c.args.at c.args.self.now spots nexts rows _ (sym c.self.view_is) c.self.invariant c.requires in
    let k = split_known c.args.class c.args.at spots nexts rows _ h in
    let row : c.index-row.result.now ≡ get_or rows c.args.class no_row = get_or_read rows c.args.class c.index-row.result.now k.within c.index-row.ensures no_row in
    clear_as c.args.at nexts c.deref_mut-2.result.now c.index-row.result.now (get_or rows c.args.class no_row) row c.deref_mut-2.ensures.value (k.clear c.args.class)

pub overflow_add-second : goal.overflow_add-second
overflow_add-second c =
    let spots = c.self.inside.spots.items in
    let nexts = c.self.inside.nexts.items in
    let rows = c.self.inside.rows.items in
    let h = given c.args.class c.args.at c.args.self.now spots nexts rows _ (sym c.self.view_is) c.self.invariant c.requires in
    let k = split_known c.args.class c.args.at spots nexts rows _ h in
    let row : c.index-row.result.now ≡ get_or rows c.args.class no_row = get_or_read rows c.args.class c.index-row.result.now k.within c.index-row.ensures no_row in
    omega (arith, ap (λ (r : Row). r.first) row, k.fits _ k.first_in, k.less, c.self.invariant.short)

pub overflow_add-second-2 : goal.overflow_add-second-2
overflow_add-second-2 c =
    let spots = c.self.inside.spots.items in
    let nexts = c.self.inside.nexts.items in
    let rows = c.self.inside.rows.items in
    let h = given c.args.class c.args.at c.args.self.now spots nexts rows _ (sym c.self.view_is) c.self.invariant c.requires in
    let k = split_known c.args.class c.args.at spots nexts rows _ h in
    let row : c.index-row.result.now ≡ get_or rows c.args.class no_row = get_or_read rows c.args.class c.index-row.result.now k.within c.index-row.ensures no_row in
    omega (arith, ap (λ (r : Row). r.last) row, k.fits _ k.last_in, k.less, c.self.invariant.short)

pub unwrap-requires : goal.unwrap-requires
unwrap-requires c =
    let spots = c.self.inside.spots.items in
    let nexts = c.self.inside.nexts.items in
    let rows = c.self.inside.rows.items in
    let h = given c.args.class c.args.at c.args.self.now spots nexts rows _ (sym c.self.view_is) c.self.invariant c.requires in
    let k = split_known c.args.class c.args.at spots nexts rows _ h in
    let row : c.index-row.result.now ≡ get_or rows c.args.class no_row = get_or_read rows c.args.class c.index-row.result.now k.within c.index-row.ensures no_row in
    c.push.ensures.succeeds (omega (arith, k.room, c.self.invariant.roomy, c.self.inside.rows.ok.0))

pub invariant_of-self : goal.invariant_of-self
invariant_of-self c =
    let spots = c.self.inside.spots.items in
    let nexts = c.self.inside.nexts.items in
    let rows = c.self.inside.rows.items in
    let h = given c.args.class c.args.at c.args.self.now spots nexts rows _ (sym c.self.view_is) c.self.invariant c.requires in
    let k = split_known c.args.class c.args.at spots nexts rows _ h in
    let row : c.index-row.result.now ≡ get_or rows c.args.class no_row = get_or_read rows c.args.class c.index-row.result.now k.within c.index-row.ensures no_row in
    let fresh : c.len-fresh.result ≡ length rows = omega (arith, c.len-fresh.ensures, c.self.inside.rows.ok.0) in
    let labels : c.split.new.spots ≡ spots_cut c.args.class c.args.at rows nexts spots =
    c.split.ensures.labels ∙ labels_eq c.len-fresh.result (length rows) c.args.at c.index-row.result.now (get_or rows c.args.class no_row) c.deref_mut-2.result.now nexts c.deref_mut.result.now spots fresh row c.deref_mut-2.ensures.value c.deref_mut.ensures.value in
    let links : c.split.new.nexts ≡ links_cut c.args.class c.args.at rows nexts =
    c.split.ensures.links ∙ links_eq c.args.at c.index-row.result.now (get_or rows c.args.class no_row) c.deref_mut-2.result.now nexts row c.deref_mut-2.ensures.value in
    let spots_long : length c.split.new.spots ≡ c.self.inside.spots.len = omega (arith, ap length labels, length-with_parts (length rows) c.args.at ((get_or rows c.args.class no_row).len - c.args.at) (row_walk nexts (get_or rows c.args.class no_row)) spots, c.self.inside.spots.ok.0) in
    let nexts_long : length c.split.new.nexts ≡ c.self.inside.nexts.len = omega (arith, ap length links, length-with_links c.args.at (row_walk nexts (get_or rows c.args.class no_row)) nexts, c.self.inside.nexts.ok.0) in
    let new_spots : (with_items c.self.inside.spots c.split.new.spots).items ≡ spots_cut c.args.class c.args.at rows nexts spots = with_items_is c.self.inside.spots c.split.new.spots spots_long ∙ labels in
    let new_nexts : (with_items c.self.inside.nexts c.split.new.nexts).items ≡ links_cut c.args.class c.args.at rows nexts = with_items_is c.self.inside.nexts c.split.new.nexts nexts_long ∙ links in
    let pushed : c.push.new.self.items ≡ set rows c.args.class (first_row c.args.at c.index-row.result.now) ++ second_row c.args.at c.index-row.result.now ∷ [] = search rules in
    let new_rows : c.push.new.self.items ≡ rows_cut c.args.class c.args.at rows =
    pushed ∙ ap (λ (r : Row). set rows c.args.class (first_row c.args.at r) ++ second_row c.args.at r ∷ []) row in
    fields_room _ _ _ _ _ c.push.ensures.capacity (fields_as _ _ _ _ _ _ _ new_spots new_nexts new_rows (split_fields c.args.class c.args.at spots nexts rows _ h))

pub returns : goal.returns
returns c =
    let spots = c.self.inside.spots.items in
    let nexts = c.self.inside.nexts.items in
    let rows = c.self.inside.rows.items in
    let h = given c.args.class c.args.at c.args.self.now spots nexts rows _ (sym c.self.view_is) c.self.invariant c.requires in
    let k = split_known c.args.class c.args.at spots nexts rows _ h in
    let row : c.index-row.result.now ≡ get_or rows c.args.class no_row = get_or_read rows c.args.class c.index-row.result.now k.within c.index-row.ensures no_row in
    let fresh : c.len-fresh.result ≡ length rows = omega (arith, c.len-fresh.ensures, c.self.inside.rows.ok.0) in
    let labels : c.split.new.spots ≡ spots_cut c.args.class c.args.at rows nexts spots =
    c.split.ensures.labels ∙ labels_eq c.len-fresh.result (length rows) c.args.at c.index-row.result.now (get_or rows c.args.class no_row) c.deref_mut-2.result.now nexts c.deref_mut.result.now spots fresh row c.deref_mut-2.ensures.value c.deref_mut.ensures.value in
    let links : c.split.new.nexts ≡ links_cut c.args.class c.args.at rows nexts =
    c.split.ensures.links ∙ links_eq c.args.at c.index-row.result.now (get_or rows c.args.class no_row) c.deref_mut-2.result.now nexts row c.deref_mut-2.ensures.value in
    let spots_long : length c.split.new.spots ≡ c.self.inside.spots.len = omega (arith, ap length labels, length-with_parts (length rows) c.args.at ((get_or rows c.args.class no_row).len - c.args.at) (row_walk nexts (get_or rows c.args.class no_row)) spots, c.self.inside.spots.ok.0) in
    let nexts_long : length c.split.new.nexts ≡ c.self.inside.nexts.len = omega (arith, ap length links, length-with_links c.args.at (row_walk nexts (get_or rows c.args.class no_row)) nexts, c.self.inside.nexts.ok.0) in
    let new_spots : (with_items c.self.inside.spots c.split.new.spots).items ≡ spots_cut c.args.class c.args.at rows nexts spots = with_items_is c.self.inside.spots c.split.new.spots spots_long ∙ labels in
    let new_nexts : (with_items c.self.inside.nexts c.split.new.nexts).items ≡ links_cut c.args.class c.args.at rows nexts = with_items_is c.self.inside.nexts c.split.new.nexts nexts_long ∙ links in
    let pushed : c.push.new.self.items ≡ set rows c.args.class (first_row c.args.at c.index-row.result.now) ++ second_row c.args.at c.index-row.result.now ∷ [] = search rules in
    let new_rows : c.push.new.self.items ≡ rows_cut c.args.class c.args.at rows =
    pushed ∙ ap (λ (r : Row). set rows c.args.class (first_row c.args.at r) ++ second_row c.args.at r ∷ []) row in
    labels_as _ _ _ _ _ _ new_spots new_nexts new_rows ∙ split_labels c.args.class c.args.at spots nexts rows _ h ∙ ap (λ v. cut c.args.class c.args.at v) c.self.view_is
