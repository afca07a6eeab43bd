-- The table afterwards is one, and its parts and tokens are the old ones moved.
use Rattle.std.proofs.Common.{◌≡◌, ℕ, ◌+◌, ◌-◌, ◌<◌, ◌⊎◌, ◌^◌, List, [], ◌∷◌, suc, length, refl, ap, sym, ◌∙◌, inl, inr, arith, subst, Some}
use Rattle.std.specs.Prelude.{slice_get}
use Rattle.std.specs.List.{flat_map}
use Rattle.std.proofs.lemmas.Option.{same_Some, slice_get_within}
use Rattle.cs_base.specs.declared.positions.Pos.{Pos}
use Rattle.eclass_map.specs.declared.token_list.Added.{Added}
use Rattle.class_labels.specs.declared.spots.Spot.{Spot}
use Rattle.class_labels.specs.Labels.{Labels, spot}
use Rattle.eclass_map.specs.Positions.{along, index_at, Begins, AreTokens}
use Rattle.eclass_map.specs.ClassTable.{Table}
use Rattle.eclass_map.specs.Kept.{IsKept}
use Rattle.class_labels.specs.Regrown.{piece, share, place, regrown}
use Rattle.eclass_map.specs.Settled.{ArePlaced, Fits}
use Rattle.class_labels.proofs.LookFacts.{look_below}
use Rattle.eclass_map.proofs.KeptFacts.{table_of}
use Rattle.class_labels.proofs.AddFacts.{fresh_part-at}
use Rattle.eclass_map.proofs.LinkedFacts.{token_within}
use Rattle.eclass_map.proofs.TokenFacts.{holding, along_of, found_in, index_of_token}
use Rattle.class_labels.proofs.RegrownFacts.{first, gone, itself, piece_cases, at_place, from_of, place_next, place_grows, IsTable-regrown}
use Rattle.class_labels.proofs.RegrownRows.{length-regrown, share_first}
use Rattle.eclass_map.proofs.MovedPlaces.{holder}
use Rattle.eclass_map.proofs.PlaceEdges.{begins_spot}
use Rattle.eclass_map.proofs.ResizedTokens.{ResizeIn, stands}
use Rattle.eclass_map.proofs.ResizedOrder.{new_tokens, came, far_before, new_within}

-- all that is known of the parts of a table afterwards
pub record ResizedIn (c m : ℕ) (numbers : List ℕ) (t : Table) (places : List Pos) : Type 0 where
  pub given : ResizeIn c m numbers t
  pub short : place c m t.labels.spots (length t.labels.spots) < 2 ^ 32
  pub fits : Fits (new_tokens numbers t)
  pub long : length places ≡ place c m t.labels.spots (length t.labels.spots)
  pub placed : ArePlaced (new_tokens numbers t) places

abbrev pub new_table : ℕ → ℕ → List ℕ → Table → List Pos → Table
new_table c m numbers t places = table_of (new_tokens numbers t) places (regrown c m t.labels)

spots-regrown : (c m : ℕ) (t : Labels) → (regrown c m t).spots ≡ flat_map (piece c m) t.spots
unfolding regrown
spots-regrown c m t = refl

new_are_tokens : (c m : ℕ) (numbers : List ℕ) (t : Table) (places : List Pos) → ResizedIn c m numbers t places → AreTokens (new_tokens numbers t)
new_are_tokens c m numbers t places h = record {
  ordered = λ i j r s less at_r at_s. far_before c m numbers t h.given j i r s less at_r at_s;
  some = λ k now at.
      let w = came c m numbers t h.given k now at in
      let grows = w.grows in
      let len = w.len in
      omega arith;
  numbered = λ k now at. let within = new_within c m numbers t h.given k now at in let short = h.short in omega arith;
}

-- where what stands for a character lands
record LandsIn (c m : ℕ) (numbers : List ℕ) (t : Table) (j : ℕ) : Type 0 where
  pub index : ℕ
  pub now : Added
  pub at : slice_get (new_tokens numbers t) index ≡ Some now
  pub depth : ℕ
  pub inside : depth < now.place.len
  pub number : now.first + depth ≡ j

lands : (c m : ℕ) (numbers : List ℕ) (t : Table) → ResizeIn c m numbers t → (x o : ℕ) (s : Spot) → slice_get t.labels.spots x ≡ Some s → o < share c m s → LandsIn c m numbers t (place c m t.labels.spots x + o)
lands c m numbers t h x o s at less =
    let spots = t.labels.spots in
    let within : x < length spots = slice_get_within spots x s at in
    let w = holder t h.kept x within in
    let r = w.token in
    let held = holding r.place w.position w.held in
    let near = held.less in
    let is = w.is in
    let st = stands c m numbers t h w.index r w.at in
    let begin = st.first in
    let len = st.len in
    let fits = token_within t h.kept w.index r w.at in
    let long = h.kept.long in
    let next = place_next c m spots x s at in
    let low = place_grows c m spots r.first x (omega arith) (omega arith) in
    let high = place_grows c m spots (suc x) (r.first + r.place.len) (omega arith) (omega arith) in
    record { index = w.index; now = st.now; at = st.at; depth = place c m spots x + o - place c m spots r.first; inside = omega arith; number = omega arith }

numbered_new : (c m : ℕ) (numbers : List ℕ) (t : Table) (places : List Pos) → ResizedIn c m numbers t places → (i : ℕ) (p : Pos) → slice_get places i ≡ Some p → index_at (new_tokens numbers t) p ≡ Some i
numbered_new c m numbers t places h i p at =
    let spots = t.labels.spots in
    let within : i < length places = slice_get_within places i p at in
    let long = h.long in
    let all = length-regrown c m spots in
    let r = look_below (flat_map (piece c m) spots) i (omega arith) in
    let f = from_of c m spots i r.0 r.1 in
    let l = lands c m numbers t h.given f.number f.inside f.was f.at f.less in
    let number = l.number ∙ f.there in
    let here = h.placed l.index l.now l.depth l.at l.inside in
    let P : ℕ → Type 0 = λ v. slice_get places v ≡ Some (along l.now.place.start l.depth) in
    let same : along l.now.place.start l.depth ≡ p = same_Some (along l.now.place.start l.depth) p (sym (subst P number here) ∙ at) in
    let Q : Pos → Type 0 = λ v. index_at (new_tokens numbers t) v ≡ Some i in
    subst Q same (index_of_token (new_tokens numbers t) l.index l.now l.depth (new_are_tokens c m numbers t places h) l.at l.inside ∙ ap Some number)

placed_new : (c m : ℕ) (numbers : List ℕ) (t : Table) (places : List Pos) → ResizedIn c m numbers t places → (p : Pos) (i : ℕ) → index_at (new_tokens numbers t) p ≡ Some i → slice_get places i ≡ Some p
placed_new c m numbers t places h p i at =
    let f = found_in (new_tokens numbers t) p i at in
    let w = holding f.token.place p f.held in
    let here = h.placed f.place f.token (p.at - f.token.place.start.at) f.at w.less in
    let P : ℕ → Type 0 = λ v. slice_get places v ≡ Some p in
    subst P f.is (here ∙ ap Some (along_of f.token.place p w))

-- what begins a token begins one afterwards
begins_new : (c m : ℕ) (numbers : List ℕ) (t : Table) → ResizeIn c m numbers t → (x : ℕ) → Begins t.tokens x → Begins (new_tokens numbers t) (place c m t.labels.spots x)
begins_new c m numbers t h x b =
    let s = stands c m numbers t h b.0 b.1 b.2 in
    (b.0, s.now, s.at, s.first ∙ ap (place c m t.labels.spots) b.3)

ends_new : (c m : ℕ) (numbers : List ℕ) (t : Table) (places : List Pos) → ResizedIn c m numbers t places → (k : ℕ) (now : Added) → slice_get (new_tokens numbers t) k ≡ Some now
    → (now.first + now.place.len ≡ length places) ⊎ Begins (new_tokens numbers t) (now.first + now.place.len)
ends_new c m numbers t places h k now at =
    let w = came c m numbers t h.given k now at in
    let r = w.was in
    let spots = t.labels.spots in
    let begin = w.first in
    let len = w.len in
    let grows = w.grows in
    let long = h.long in
    let old_long = h.given.kept.long in
    let end : now.first + now.place.len ≡ place c m spots (r.first + r.place.len) = omega arith in
    elim (h.given.kept.ends k r w.at) [
      | inl e ↦ inl (end ∙ ap (place c m spots) (e ∙ old_long) ∙ sym long)
      | inr b ↦ let P : ℕ → Type 0 = λ v. Begins (new_tokens numbers t) v in inr (subst P (sym end) (begins_new c m numbers t h.given (r.first + r.place.len) b))
    ]

piece_first : (c m d : ℕ) → 0 < m → slice_get (piece c m (spot d 0)) 0 ≡ Some (spot d 0)
piece_first c m d some = elim (piece_cases c m (spot d 0)) [
  | first e p n ↦ ap (λ v. slice_get v 0) p ∙ fresh_part-at c m 0 some ∙ ap Some (sym e)
  | gone class inner p n ↦ absurd (omega arith)
  | itself other p n ↦ ap (λ v. slice_get v 0) p
]

-- the first character of a part is labelled so afterwards
pub spot_new : (c m d x : ℕ) (spots : List Spot) → 0 < m → slice_get spots x ≡ Some (spot d 0) → slice_get (flat_map (piece c m) spots) (place c m spots x) ≡ Some (spot d 0)
spot_new c m d x spots some at =
    let zero_more : place c m spots x ≡ place c m spots x + 0 = omega arith in
    ap (λ v. slice_get (flat_map (piece c m) spots) v) zero_more ∙ at_place c m spots x 0 (spot d 0) at (share_first c m d some) ∙ piece_first c m d some

opens_new : (c m : ℕ) (numbers : List ℕ) (t : Table) → ResizeIn c m numbers t → (i : ℕ) (s : Spot) → Begins (new_tokens numbers t) i → slice_get (flat_map (piece c m) t.labels.spots) i ≡ Some s → s.offset ≡ 0
opens_new c m numbers t h i s b at =
    let w = came c m numbers t h b.0 b.1 b.2 in
    let o = begins_spot t h.kept w.was.first (b.0, w.was, w.at, refl) in
    let there : place c m t.labels.spots w.was.first ≡ i = sym w.first ∙ b.3 in
    let P : ℕ → Type 0 = λ v. slice_get (flat_map (piece c m) t.labels.spots) v ≡ Some (spot o.0 0) in
    ap (λ (v : Spot). v.offset) (same_Some s (spot o.0 0) (sym at ∙ subst P there (spot_new c m o.0 w.was.first t.labels.spots h.some o.1)))

-- a part that begins afterwards began before, in the class of the same number
record Began (d : ℕ) (spots : List Spot) : Type 0 where
  pub number : ℕ
  pub at : slice_get spots number ≡ Some (spot d 0)

began : (c m i d : ℕ) (spots : List Spot) → slice_get (flat_map (piece c m) spots) i ≡ Some (spot d 0) → Began d spots
began c m i d spots at =
    let f = from_of c m spots i (spot d 0) at in
    let less = f.less in
    elim (piece_cases c m f.was) [
      | first e p n ↦
          let class : d ≡ c = ap (λ (v : Spot). v.class) (same_Some (spot d 0) (spot c f.inside) (sym f.is ∙ ap (λ v. slice_get v f.inside) p ∙ fresh_part-at c m f.inside (omega arith))) in
          record { number = f.number; at = f.at ∙ ap Some e ∙ ap (λ v. Some (spot v 0)) (sym class) }
      | gone class inner p n ↦ absurd (omega arith)
      | itself other p n ↦
          let none : f.inside ≡ 0 = omega arith in
          let here : slice_get (f.was ∷ []) 0 ≡ Some (spot d 0) = ap (λ v. slice_get (f.was ∷ []) v) (sym none) ∙ ap (λ v. slice_get v f.inside) (sym p) ∙ f.is in
          record { number = f.number; at = f.at ∙ here }
    ]

opened_new : (c m : ℕ) (numbers : List ℕ) (t : Table) → ResizeIn c m numbers t → (i d : ℕ) → slice_get (flat_map (piece c m) t.labels.spots) i ≡ Some (spot d 0)
    → (j : ℕ) × Begins (new_tokens numbers t) j × (slice_get (flat_map (piece c m) t.labels.spots) j ≡ Some (spot d 0))
opened_new c m numbers t h i d at =
    let b = began c m i d t.labels.spots at in
    let o = h.kept.opened b.number d b.at in
    (place c m t.labels.spots o.0, begins_new c m numbers t h o.0 o.1, spot_new c m d o.0 t.labels.spots h.some o.2)

pub IsKept-resized : (c m : ℕ) (numbers : List ℕ) (t : Table) (places : List Pos) → ResizedIn c m numbers t places → IsKept (new_table c m numbers t places)
IsKept-resized c m numbers t places h =
    let labels = regrown c m t.labels in
    let is = spots-regrown c m t.labels in
    let P : List Spot → Type 0 = λ v. length places ≡ length v in
    let all = length-regrown c m t.labels.spots in
    let long = h.long in
    let short = h.short in
    record {
      table = IsTable-regrown c m t.labels h.given.some h.given.known h.given.kept.table;
      tokens = new_are_tokens c m numbers t places h;
      long = subst P (sym is) (long ∙ sym all);
      short = omega arith;
      placed = λ p i at. placed_new c m numbers t places h p i at;
      numbered = λ i p at. numbered_new c m numbers t places h i p at;
      ends = λ k now at. ends_new c m numbers t places h k now at;
      fits = λ k now at. h.fits k now at;
      opens = λ i s b at. opens_new c m numbers t h.given i s b (sym (ap (λ v. slice_get v i) is) ∙ at);
      opened = λ i d at.
          let o = opened_new c m numbers t h.given i d (sym (ap (λ v. slice_get v i) is) ∙ at) in
          (o.0, o.1, ap (λ v. slice_get v o.0) is ∙ o.2);
    }
