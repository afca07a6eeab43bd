-- Adding a token, told of positions and members.
use Rattle.std.proofs.Common.{◌≡◌, ℕ, ◌+◌, ◌-◌, ◌<◌, List, [], ◌∷◌, ◌++◌, length, map, get_or, refl, ap, sym, ◌∙◌, inl, inr, arith, length-append, Some}
use Rattle.std.specs.Prelude.{slice_get}
use Rattle.std.specs.List.{insert}
use Rattle.std.proofs.lemmas.Option.{slice_get_within, get_or_from_slice_get}
use Rattle.std.proofs.lemmas.Bool.{cases_Bool}
use Rattle.cs_base.specs.declared.positions.Part.{Part}
use Rattle.cs_base.proofs.ListLemmas.{get-front as slice_get-append_left}
use Rattle.eclass_map.specs.declared.token_list.Added.{Added}
use Rattle.class_labels.specs.Labels.{Labels, spot, added, fresh_part, walk_at}
use Rattle.class_labels.specs.Table.{In}
use Rattle.eclass_map.specs.Positions.{along, holds}
use Rattle.eclass_map.specs.ClassTable.{Table, begun_count, fresh_places, with_token, part_with, members_of, nowhere, AddsToken}
use Rattle.class_labels.proofs.ListFacts.{was_at, now_at}
use Rattle.class_labels.proofs.LookFacts.{look_below}
use Rattle.class_labels.proofs.FieldFacts.{member_at}
use Rattle.class_labels.proofs.AddFacts.{slice_get-append_right, fresh_part-at, added_cases}
use Rattle.class_labels.proofs.AddFacts.AddedCase.{fresh as case_fresh, other as case_other}
use Rattle.eclass_map.proofs.TokenFacts.{holds_along}
use Rattle.eclass_map.proofs.LinkedFacts.{numbered, label_of, number_within}
use Rattle.eclass_map.proofs.AddTokenFacts.{AddIn, entry, index_none, free_none, added_spots}
use Rattle.eclass_map.proofs.InsertFacts.{inserted_at, inserted_own, inserted_other, index_insert_other, index_insert_own, fresh_places-at}
use Rattle.eclass_map.proofs.InsertFacts.InsertedAt.{before, own, behind}
use Rattle.eclass_map.proofs.KeptFacts.{table_of}

-- the table with the token, part by part
pub with_token_is : (part : Part) (t : Table) → with_token part t ≡ table_of (insert t.tokens (begun_count t.tokens part.start) (entry part t)) (t.places ++ fresh_places part.start part.len) (added part.len t.labels)
unfolding with_token
with_token_is part t = refl

map_same_in : {Y : Type 0} (f g : ℕ → Y) (xs : List ℕ) → ((x : ℕ) → In x xs → f x ≡ g x) → map f xs ≡ map g xs
map_same_in f g [] h = refl
map_same_in f g (x ∷ xs) h = ap (λ v. v ∷ map f xs) (h x (inl refl)) ∙ ap (λ v. g x ∷ v) (map_same_in f g xs (λ y i. h y (inr i)))

spots_old : (part : Part) (t : Table) (i : ℕ) → i < length t.labels.spots → slice_get (added part.len t.labels).spots i ≡ slice_get t.labels.spots i
spots_old part t i below = ap (λ v. slice_get v i) (added_spots part.len t.labels) ∙ slice_get-append_left t.labels.spots (fresh_part (length t.labels.walks) part.len) i below

spots_new : (part : Part) (t : Table) (o : ℕ) → o < part.len → slice_get (added part.len t.labels).spots (length t.labels.spots + o) ≡ Some (spot (length t.labels.walks) o)
spots_new part t o less =
    ap (λ v. slice_get v (length t.labels.spots + o)) (added_spots part.len t.labels)
    ∙ slice_get-append_right t.labels.spots (fresh_part (length t.labels.walks) part.len) (length t.labels.spots + o) o refl ∙ fresh_part-at (length t.labels.walks) part.len o less

added_more : (n : ℕ) (labels : Labels) → length labels.walks < length (added n labels).walks
unfolding added
added_more n labels =
    let grown : length (labels.walks ++ (length labels.spots ∷ []) ∷ []) ≡ length labels.walks + 1 = length-append labels.walks ((length labels.spots ∷ []) ∷ []) in
    omega arith

added_members : (part : Part) (t : Table) → AddIn part t → (c : ℕ) → c < length t.labels.walks → members_of (with_token part t) c ≡ members_of t c
unfolding with_token
added_members part t h c known =
    let u = with_token part t in
    let more : length t.labels.walks < length (added part.len t.labels).walks = added_more part.len t.labels in
    elim (added_cases part.len t.labels c h.kept.table.each (omega arith)) [
      | case_fresh e walk len ↦ absurd (omega arith)
      | case_other less walk len ↦
          ap (λ w. map (part_with u c) w) walk ∙ map_same_in (part_with u c) (part_with t c) (walk_at t.labels c) (λ x i.
          let at = member_at t.labels c x h.kept.table known i in
          let within : x < length t.labels.spots = slice_get_within t.labels.spots x (spot c 0) at in
          let long = h.kept.long in
          let p = look_below t.places x (omega arith) in
          let there : slice_get (t.places ++ fresh_places part.start part.len) x ≡ Some p.0 = slice_get-append_left t.places (fresh_places part.start part.len) x (omega arith) ∙ p.1 in
          let start : get_or (t.places ++ fresh_places part.start part.len) x nowhere ≡ get_or t.places x nowhere =
          get_or_from_slice_get (t.places ++ fresh_places part.start part.len) x p.0 nowhere there ∙ sym (get_or_from_slice_get t.places x p.0 nowhere p.1) in
          λ j. record { start = start j; len = len j })
    ]

added_class : (part : Part) (t : Table) → AddIn part t → members_of (with_token part t) (length t.labels.walks) ≡ part ∷ []
unfolding with_token
added_class part t h =
    let u = with_token part t in
    let n = length t.labels.walks in
    let more : n < length (added part.len t.labels).walks = added_more part.len t.labels in
    elim (added_cases part.len t.labels n h.kept.table.each more) [
      | case_other less walk len ↦ absurd (omega arith)
      | case_fresh e walk len ↦
          let x = length t.labels.spots in
          let long = h.kept.long in
          let there : slice_get (t.places ++ fresh_places part.start part.len) x ≡ Some (along part.start 0) =
          slice_get-append_right t.places (fresh_places part.start part.len) x 0 (omega arith) ∙ fresh_places-at part.start part.len 0 h.some in
          let none : part.start.at + 0 ≡ part.start.at = omega arith in
          let first : along part.start 0 ≡ part.start = λ j. record { file = part.start.file; at = none j } in
          let start : get_or (t.places ++ fresh_places part.start part.len) x nowhere ≡ part.start = get_or_from_slice_get (t.places ++ fresh_places part.start part.len) x (along part.start 0) nowhere there ∙ first in
          let one : part_with u n x ≡ part = λ j. record { start = start j; len = len j } in
          ap (λ w. map (part_with u n) w) walk ∙ ap (λ v. v ∷ []) one
    ]

pub adds_token : (part : Part) (t : Table) → AddIn part t → AddsToken part t (with_token part t)
unfolding with_token
adds_token part t h =
    let kept = h.kept in
    let k = begun_count t.tokens part.start in
    let new = entry part t in
    let place : Added → Part = λ r. r.place in
    let tokens = insert t.tokens k new in
    let u = with_token part t in
    let long = kept.long in
    record {
      own = (k, now_at place tokens k new (inserted_own t.tokens k new h.count));
      kept = λ other is.
          let w = was_at place t.tokens is.0 other is.1 in
          let i = inserted_other t.tokens k new is.0 w.was w.at in
          (i.0, now_at place tokens i.0 w.was i.1 ∙ ap Some w.is);
      only = λ other is.
          let w = was_at place tokens is.0 other is.1 in
          elim (inserted_at t.tokens k new is.0 w.was h.count w.at) [
            | before less at ↦ inl (is.0, now_at place t.tokens is.0 w.was at ∙ ap Some w.is)
            | own e f ↦ inr (sym w.is ∙ sym (ap place f))
            | behind i least e at ↦ inl (i, now_at place t.tokens i w.was at ∙ ap Some w.is)
          ];
      stays = λ p s e.
          let n = numbered t p s e in
          let below = number_within t kept p n.number n.at in
          elim (cases_Bool (holds part p)) [
            | inl held ↦ absurd (free_none part t h p held n.number n.at)
            | inr not_held ↦ label_of u p n.number (index_insert_other t.tokens k new p not_held ∙ n.at) ∙ spots_old part t n.number below ∙ n.spot_at
          ];
      rest = λ p s e. elim (cases_Bool (holds part p)) [
        | inl held ↦ inr held
        | inr not_held ↦
            let n = numbered u p s e in
            let at = sym (index_insert_other t.tokens k new p not_held) ∙ n.at in
            inl (label_of t p n.number at ∙ sym (spots_old part t n.number (number_within t kept p n.number at)) ∙ n.spot_at)
      ];
      alone = λ o less.
          let p = along part.start o in
          let held = holds_along part o less in
          let number : length t.places + (p.at - part.start.at) ≡ length t.labels.spots + o = omega arith in
          label_of u p (length t.labels.spots + o) (index_insert_own t.tokens k new p held (index_none part t h p held) ∙ ap Some number) ∙ spots_new part t o less;
      class = added_class part t h;
      classes = λ c known. added_members part t h c known;
    }
