-- The table of classes, moved, has the links of the renamed analysis.
use Rattle.std.proofs.Common.{◌≡◌, ℕ, zero, suc, ◌+◌, ◌<◌, ◌≤◌, Bool, true, cond, if◌then◌else◌, List, [], ◌∷◌, ◌++◌, length, Option, None, Some, inl, inr, refl, sym, ap, subst, ◌∙◌, arith}
use Rattle.std.specs.Prelude.{slice_get, option_map, nat_eq, ◌&&◌}
use Rattle.std.specs.Option.{option_map_or, option_and_then}
use Rattle.std.specs.Str.{bytes_eq}
use Rattle.std.proofs.lemmas.Bool.{cases_eq, cases_lt, eq-eqb, ne_eqb, and_parts}
use Rattle.std.proofs.lemmas.Option.{none-some, same_Some, slice_get-map}
use Rattle.cs_base.specs.declared.positions.Part.{Part}
use Rattle.cs_base.specs.declared.positions.Pos.{Pos}
use Rattle.cs_base.specs.declared.tokens.Link.{Link}
use Rattle.cs_base.specs.Token.{Token, origin_at}
use Rattle.cs_base.proofs.ListLemmas.{front_at}
use Rattle.cs_base.proofs.PlaceLemmas.{pos_is}
use Rattle.analysis.specs.Below.eclass_map.Chain.{Chain, here, along as onward, back}
use Rattle.analysis.specs.Below.eclass_map.ClassTable.{Table, Spot, label, class_in, Same, LinkedBy, HasParts}
use Rattle.analysis.specs.Below.eclass_map.Positions.{along, holds}
use Rattle.analysis.specs.Below.eclass_map.Resized.{Resizes, moved_to, moved_part}
use Rattle.analysis.proofs.Below.eclass_map.TokenFacts.{holds_from}
use Rattle.line_shape.specs.Signs.{is_name}
use Rattle.lexer.specs.Logical.{logical_of, spelling}
use Rattle.lexer.specs.Places.{pos, origins_from}
use Rattle.lexer.specs.Respelling.{moved}
use Rattle.part_respell.specs.Respelled.{put_in, put_at, put_of, put_for}
use Rattle.source_files.specs.KeptFiles.{KeptValue}
use Rattle.unit_steps.specs.Below.macro_expand.Renaming.{Renaming, renamed}
use Rattle.edited_unit_laws.specs.Analyses.{renamed_analysis}
use Rattle.edited_unit_laws.specs.UnitTexts.{renamed_link}
use Rattle.renamed.specs.Renamed.{moved_in, move_to, trace_from, origins_for}
use Rattle.analysis.specs.Analysed.{Analysed}
use Rattle.analysis.specs.Analysis.{UnitAnalysis, AnalysisValue}
use Rattle.analysis.specs.Links.{links_of, linked_pairs, pair_of}
use Rattle.analysis.specs.Parts.{IsPart}
use Rattle.analysis.proofs.ClassLemmas.{part_told, character_told}
use Rattle.offences.proofs.ClassLemmas.{over_member, over_other}
use Rattle.rename_meaning.specs.Allowed.{IsAllowed}
use Rattle.rename_meaning.proofs.AlikeLemmas.{AreSameAt, chained_alike}
use Rattle.rename_meaning.proofs.LinkLemmas.{IsWhole, Both, links_have, toks_whole, links_whole, whole_chained}
use Rattle.edited_unit_laws.proofs.ListLemmas.{In, AllOf}
use Rattle.edited_unit_laws.proofs.AnalysedUnitLemmas.{unit_is}
use Rattle.rename_meaning.specs.KeptUnits.{change}
use Rattle.rename_meaning.specs.OneMove.{ClassesFollow}
use Rattle.rename_meaning.proofs.FollowTokenLemmas.{size, put_size, sizes, moves_on, line_still, file_tokens_follow}
use Rattle.rename_meaning.proofs.LinksKeptLemmas.{links_are_renamed_where_allowed}
use Rattle.rename_meaning.proofs.MovedLabelLemmas.{spot, InPart, in_part, first_label, from_part, label_kept, label_member}
use Rattle.rename_meaning.proofs.OneMoveLemmas.{in_text, part_moves}
use Rattle.rename_meaning.proofs.SameElementLemmas.{mapped_at}

-- ---- lists

behind_at : {X : Type 0} (xs ys : List X) (k : ℕ) (x : X) → slice_get ys k ≡ Some x → slice_get (xs ++ ys) (length xs + k) ≡ Some x
behind_at [] ys k x at = let none : 0 + k ≡ k = omega arith in ap (slice_get ys) none ∙ at
behind_at (z ∷ xs) ys k x at =
    let on : suc (length xs) + k ≡ suc (length xs + k) = omega arith in
    ap (slice_get (z ∷ (xs ++ ys))) on ∙ behind_at xs ys k x at

-- the same place of two lists whose fronts are as long
split_pair : {X : Type 0} (P : Type 0) (xs ys us vs : List X) (j : ℕ) (q w : X) → length xs ≡ length us → slice_get (xs ++ ys) j ≡ Some q → slice_get (us ++ vs) j ≡ Some w
    → (slice_get xs j ≡ Some q → slice_get us j ≡ Some w → P) → ((k : ℕ) → slice_get ys k ≡ Some q → slice_get vs k ≡ Some w → P) → P
split_pair P [] ys [] vs j q w long e f front rest = rest j e f
split_pair P [] ys (u ∷ us) vs j q w long e f front rest = absurd (omega (arith, long))
split_pair P (x ∷ xs) ys [] vs j q w long e f front rest = absurd (omega (arith, long))
split_pair P (x ∷ xs) ys (u ∷ us) vs zero q w long e f front rest = front e f
split_pair P (x ∷ xs) ys (u ∷ us) vs (suc j) q w long e f front rest = split_pair P xs ys us vs j q w (omega (arith, long)) e f front rest

origins_long : (file at n : ℕ) → length (origins_from file at n) ≡ n
origins_long file at zero = refl
origins_long file at (suc n) = ap suc (origins_long file (at + 1) n)

origin_there : (file at n o : ℕ) → o < n → slice_get (origins_from file at n) o ≡ Some (Some (pos file (at + o)))
origin_there file at zero o less = absurd (omega (arith, less))
origin_there file at (suc n) zero less = let same : at ≡ at + 0 = omega arith in ap (λ (k : ℕ). Some (Some (pos file k))) same
origin_there file at (suc n) (suc o) less =
    let same : at + 1 + o ≡ at + suc o = omega arith in
    origin_there file (at + 1) n o (omega (arith, less)) ∙ ap (λ (k : ℕ). Some (Some (pos file k))) same

origin_told : (file at n j : ℕ) (q : Pos) → slice_get (origins_from file at n) j ≡ Some (Some q) → (j < n) × (q ≡ pos file (at + j))
origin_told file at n j q e = elim (cases_lt j n) [
  | inl less ↦ (less, (let same = same_Some (Some (pos file (at + j))) (Some q) (sym (origin_there file at n j less) ∙ e) in sym (same_Some (pos file (at + j)) q same)))
  | inr most ↦ absurd (past file at n j most e)
]
  where
    past : (file at n j : ℕ) → n ≤ j → slice_get (origins_from file at n) j ≡ Some (Some q) → ⊥
    past file at zero j most e = none-some (Some q) e
    past file at (suc n) zero most e = omega (arith, most)
    past file at (suc n) (suc j) most e = past file (at + 1) n j (omega (arith, most)) e

-- ---- origins of renamed tokens

module _ (a : AnalysisValue) (members : List Part) (name : List ℕ) where
  -- a new character of what is put for a character
  abbrev image : Pos → ℕ → Pos
  image p o = pos p.file ((move_to a members name p).at + o)

  -- equal places have as much put for them
  abbrev SizesAlike : List (Option Pos) → List (Option Pos) → Type 0
  SizesAlike os ps = (k : ℕ) (o p : Option Pos) → slice_get os k ≡ Some o → slice_get ps k ≡ Some p → length (put_for members name o 0) ≡ length (put_for members name p 0)

  for_long : (o : Option Pos) (c : ℕ) → length (origins_for a members name o c) ≡ length (put_for members name o 0)
  for_long None c = refl
  for_long (Some p) c = origins_long p.file (move_to a members name p).at (length (put_at members name p c)) ∙ put_size a members name p c

  -- one character of each of two lists, and the place in what is put for both
  record BothAt (os ps : List (Option Pos)) (q w : Pos) : Type 0 where
    pub place : ℕ
    pub p : Pos
    pub e : Pos
    pub o : ℕ
    pub first : slice_get os place ≡ Some (Some p)
    pub second : slice_get ps place ≡ Some (Some e)
    pub less : o < size a members name p
    pub also : o < size a members name e
    pub is : q ≡ image p o
    pub other : w ≡ image e o

  front_both : (o p : Option Pos) (os ps : List (Option Pos)) (c d j : ℕ) (q w : Pos) → slice_get (origins_for a members name o c) j ≡ Some (Some q)
      → slice_get (origins_for a members name p d) j ≡ Some (Some w) → BothAt (o ∷ os) (p ∷ ps) q w
  front_both None p os ps c d zero q w e f = absurd (let s = same_Some None (Some q) e in none-some q s)
  front_both None p os ps c d (suc j) q w e f = absurd (none-some (Some q) e)
  front_both (Some x) None os ps c d zero q w e f = absurd (let s = same_Some None (Some w) f in none-some w s)
  front_both (Some x) None os ps c d (suc j) q w e f = absurd (none-some (Some w) f)
  front_both (Some x) (Some y) os ps c d j q w e f =
      let one = origin_told x.file (move_to a members name x).at (length (put_at members name x c)) j q e in
      let two = origin_told y.file (move_to a members name y).at (length (put_at members name y d)) j w f in
      let less = one.0 in
      let also = two.0 in
      let l = put_size a members name x c in
      let m = put_size a members name y d in
      record { place = 0; p = x; e = y; o = j; first = refl; second = refl; less = omega (arith, less, l); also = omega (arith, also, m); is = one.1; other = two.1 }

  later_both : (o p : Option Pos) (os ps : List (Option Pos)) (q w : Pos) → BothAt os ps q w → BothAt (o ∷ os) (p ∷ ps) q w
  later_both o p os ps q w b =
      record { place = suc b.place; p = b.p; e = b.e; o = b.o; first = b.first; second = b.second; less = b.less; also = b.also; is = b.is; other = b.other }

  both_at : (os ps : List (Option Pos)) (ts us : List ℕ) → SizesAlike os ps → length os ≡ length ts → length ps ≡ length us → (j : ℕ) (q w : Pos)
      → slice_get (trace_from a members name os ts) j ≡ Some (Some q) → slice_get (trace_from a members name ps us) j ≡ Some (Some w) → BothAt os ps q w
  unfolding trace_from
  both_at [] ps ts us alike l m j q w e f = absurd (none-some (Some q) e)
  both_at (o ∷ os) ps [] us alike l m j q w e f = absurd (omega (arith, l))
  both_at (o ∷ os) [] (c ∷ ts) us alike l m j q w e f = absurd (none-some (Some w) f)
  both_at (o ∷ os) (p ∷ ps) (c ∷ ts) [] alike l m j q w e f = absurd (omega (arith, m))
  both_at (o ∷ os) (p ∷ ps) (c ∷ ts) (d ∷ us) alike l m j q w e f =
      split_pair (BothAt (o ∷ os) (p ∷ ps) q w) (origins_for a members name o c) (trace_from a members name os ts) (origins_for a members name p d)
      (trace_from a members name ps us) j (Some q) (Some w) (for_long o c ∙ (alike 0 o p refl refl ∙ sym (for_long p d))) e f
      (λ x y. front_both o p os ps c d j q w x y)
      (λ k x y. later_both o p os ps q w (both_at os ps ts us (λ n v z at there. alike (suc n) v z at there) (omega (arith, l)) (omega (arith, m)) k q w x y))

  -- and back: where their characters stand
  record StandBoth (os ps : List (Option Pos)) (ts us : List ℕ) (q w : Pos) : Type 0 where
    pub place : ℕ
    pub first : slice_get (trace_from a members name os ts) place ≡ Some (Some q)
    pub second : slice_get (trace_from a members name ps us) place ≡ Some (Some w)

  at_both : (os ps : List (Option Pos)) (ts us : List ℕ) → SizesAlike os ps → length os ≡ length ts → length ps ≡ length us → (k o : ℕ) (p e : Pos)
      → slice_get os k ≡ Some (Some p) → slice_get ps k ≡ Some (Some e) → o < size a members name p → StandBoth os ps ts us (image p o) (image e o)
  unfolding trace_from
  at_both [] ps ts us alike l m k o p e at there less = absurd (none-some (Some p) at)
  at_both (x ∷ os) [] ts us alike l m k o p e at there less = absurd (none-some (Some e) there)
  at_both (x ∷ os) (y ∷ ps) [] us alike l m k o p e at there less = absurd (omega (arith, l))
  at_both (x ∷ os) (y ∷ ps) (c ∷ ts) [] alike l m k o p e at there less = absurd (omega (arith, m))
  at_both (x ∷ os) (y ∷ ps) (c ∷ ts) (d ∷ us) alike l m zero o p e at there less =
      let sx : x ≡ Some p = same_Some x (Some p) at in
      let sy : y ≡ Some e = same_Some y (Some e) there in
      let same : size a members name p ≡ size a members name e =
      sym (ap (λ (z : Option Pos). length (put_for members name z 0)) sx) ∙ (alike 0 x y refl refl ∙ ap (λ (z : Option Pos). length (put_for members name z 0)) sy) in
      let lp = put_size a members name p c in
      let le = put_size a members name e d in
      let first = origin_there p.file (move_to a members name p).at (length (put_at members name p c)) o (omega (arith, less, lp)) in
      let second = origin_there e.file (move_to a members name e).at (length (put_at members name e d)) o (omega (arith, less, same, le)) in
      record {
        place = o;
        first = ap (λ (z : Option Pos). slice_get (origins_for a members name z c ++ trace_from a members name os ts) o) sx
            ∙ front_at (origins_for a members name (Some p) c) (trace_from a members name os ts) o (Some (image p o)) first;
        second = ap (λ (z : Option Pos). slice_get (origins_for a members name z d ++ trace_from a members name ps us) o) sy
            ∙ front_at (origins_for a members name (Some e) d) (trace_from a members name ps us) o (Some (image e o)) second;
      }
  at_both (x ∷ os) (y ∷ ps) (c ∷ ts) (d ∷ us) alike l m (suc k) o p e at there less =
      let later = at_both os ps ts us (λ n v z i j. alike (suc n) v z i j) (omega (arith, l)) (omega (arith, m)) k o p e at there less in
      let same : length (origins_for a members name y d) ≡ length (origins_for a members name x c) = for_long y d ∙ (sym (alike 0 x y refl refl) ∙ sym (for_long x c)) in
      record {
        place = length (origins_for a members name x c) + later.place;
        first = behind_at (origins_for a members name x c) (trace_from a members name os ts) later.place (Some (image p o)) later.first;
        second = ap (λ (n : ℕ). slice_get (origins_for a members name y d ++ trace_from a members name ps us) (n + later.place)) (sym same)
            ∙ behind_at (origins_for a members name y d) (trace_from a members name ps us) later.place (Some (image e o)) later.second;
      }

told_origin : (o : Option (Option Pos)) (q : Pos) → option_and_then (λ (x : Option Pos). x) o ≡ Some q → o ≡ Some (Some q)
told_origin None q e = absurd (none-some q e)
told_origin (Some None) q e = absurd (none-some q e)
told_origin (Some (Some p)) q e = ap (λ (x : Pos). Some (Some x)) (same_Some p q e)

-- ---- the tables

module _ (a : Analysed) (members : List Part) (name : List ℕ) (h : IsAllowed a members name) (new : Table) (moves : Resizes h.number (length name) a.classes new)
    (parts : HasParts new) where
  abbrev r : Renaming
  r = (change a.value members name).renaming

  abbrev old : Table
  old = a.classes

  abbrev old_parts : HasParts a.classes
  old_parts = let own = h.own in own.parts

  abbrev size_at : Pos → ℕ
  size_at p = size a.value members name p

  abbrev at_image : Pos → ℕ → Pos
  at_image p o = image a.value members name p o

  -- ---- characters of parts

  its_part : (p : Pos) (s : Spot) (i : InPart old p s) → IsPart a.value i.part
  its_part p s i = part_told a.value a.classes h.own i.part i.is

  part_holds : (p : Pos) (s : Spot) (i : InPart old p s) → holds i.part p ≡ true
  part_holds p s i =
      let there = i.there in
      let file : (i.part).start.file ≡ p.file = ap (λ (q : Pos). q.file) there in
      let at : (i.part).start.at + s.offset ≡ p.at = ap (λ (q : Pos). q.at) there in
      let less = i.less in
      holds_from i.part p (record { file = file; from = omega (arith, at); less = omega (arith, at, less) })

  -- a character of another class is put as it is
  size_other : (p : Pos) (s : Spot) → label old p ≡ Some s → (s.class ≡ h.number → ⊥) → size_at p ≡ 1
  size_other p s e apart =
      let i = in_part old old_parts p s e in
      let none = over_other a h.own members h.number h.class p i.part (its_part p s i) (part_holds p s i) (λ f. apart (same_Some s.class h.number (sym i.class ∙ f))) in
      ap (λ (o : Option Part). length (option_map_or (put_in name p) o (0 ∷ []))) none

  -- for the first character of a member the name is put, and nothing for the others
  size_first : (p : Pos) (s : Spot) → label old p ≡ Some s → s.class ≡ h.number → s.offset ≡ 0 → size_at p ≡ length name
  size_first p s e same first =
      let i = in_part old old_parts p s e in
      let over = over_member a h.own members h.number h.class p i.part (its_part p s i) (part_holds p s i) (i.class ∙ ap (λ (n : ℕ). Some n) same) in
      let at : (i.part).start.at + s.offset ≡ p.at = ap (λ (q : Pos). q.at) i.there in
      let begins : (i.part).start.at ≡ p.at = omega (arith, at, first) in
      ap (λ (o : Option Part). length (option_map_or (put_in name p) o (0 ∷ []))) over
      ∙ ap (λ (b : Bool). length (if b then name else [])) (eq-eqb (i.part).start.at p.at begins)

  size_later : (p : Pos) (s : Spot) → label old p ≡ Some s → s.class ≡ h.number → 0 < s.offset → size_at p ≡ 0
  size_later p s e same later =
      let i = in_part old old_parts p s e in
      let over = over_member a h.own members h.number h.class p i.part (its_part p s i) (part_holds p s i) (i.class ∙ ap (λ (n : ℕ). Some n) same) in
      let at : (i.part).start.at + s.offset ≡ p.at = ap (λ (q : Pos). q.at) i.there in
      let behind : (i.part).start.at ≡ p.at → ⊥ = λ f. absurd (omega (arith, at, later, f)) in
      ap (λ (o : Option Part). length (option_map_or (put_in name p) o (0 ∷ []))) over
      ∙ ap (λ (b : Bool). length (if b then name else [])) (ne_eqb (i.part).start.at p.at behind)

  -- inside a part of another class positions move together
  ones : (file at n : ℕ) → ((i : ℕ) → i < n → size_at (pos file (at + i)) ≡ 1) → sizes a.value members name file at n ≡ n
  ones file at zero each = refl
  ones file at (suc n) each =
      let none : at + 0 ≡ at = omega arith in
      let first : size_at (pos file at) ≡ 1 = ap (λ (k : ℕ). size_at (pos file k)) (sym none) ∙ each 0 (omega arith) in
      let rest = ones file (at + 1) n (λ i less. (let on : at + 1 + i ≡ at + suc i = omega arith in ap (λ (k : ℕ). size_at (pos file k)) on ∙ each (suc i) (omega (arith, less)))) in
      omega (arith, first, rest)

  inside_moves : (part : Part) (d o : ℕ) → class_in old part ≡ Some d → (d ≡ h.number → ⊥) → o < part.len
      → (move_to a.value members name (along part.start o)).at ≡ (move_to a.value members name part.start).at + o
  inside_moves part d o of apart less =
      let q : Pos = along part.start o in
      let p : Pos = part.start in
      let is = old_parts.told part d of in
      elim (cases_eq p.file 0) [
        | inl line ↦
            let one = ap (λ (x : Pos). x.at) (line_still a members name h p line) in
            let two = ap (λ (x : Pos). x.at) (line_still a members name h q line) in
            omega (arith, one, two)
        | inr some ↦
            let label_q = old_parts.spots part d o of less in
            let c = character_told a.value a.classes h.own q (spot d o, label_q) in
            let t = in_text a members name h q c some in
            let within = t.within in
            let text : List ℕ = spelling (logical_of (t.file).bytes) in
            let last : (move_to a.value members name q).at ≡ moved (put_of members name p.file) text q.at =
            ap (λ (x : Option KeptValue). (option_map_or (moved_in members name q) x q).at) t.is_kept in
            let first : (move_to a.value members name p).at ≡ moved (put_of members name p.file) text p.at =
            ap (λ (x : Option KeptValue). (option_map_or (moved_in members name p) x p).at) t.is_kept in
            let on = moves_on a.value members name p.file text p.at o (omega (arith, within)) in
            let all = ones p.file p.at o (λ i before.
            size_other (along part.start i) (spot d i) (old_parts.spots part d i of (omega (arith, before, less))) apart) in
            omega (arith, last, first, on, all)
      ]

  -- ---- images of characters

  -- where the table puts a part
  part_at : (part : Part) (d : ℕ) → class_in old part ≡ Some d → (move_to a.value members name part.start).at ≡ (moved_to h.number (length name) old part.start).at
  part_at part d of = ap (λ (x : Pos). x.at) (part_moves a members name h part (part_told a.value a.classes h.own part (old_parts.told part d of)))

  image_other : (part : Part) (d o : ℕ) → class_in old part ≡ Some d → (d ≡ h.number → ⊥) → o < part.len
      → at_image (along part.start o) 0 ≡ along (moved_to h.number (length name) old part.start) o
  image_other part d o of apart less =
      let on = inside_moves part d o of apart less in
      let start = part_at part d of in
      pos_is (at_image (along part.start o) 0) (along (moved_to h.number (length name) old part.start) o) refl (omega (arith, on, start))

  image_member : (part : Part) (d o : ℕ) → class_in old part ≡ Some d → at_image part.start o ≡ along (moved_to h.number (length name) old part.start) o
  image_member part d o of =
      let start = part_at part d of in
      pos_is (at_image part.start o) (along (moved_to h.number (length name) old part.start) o) refl (omega (arith, start))

  -- the label of an image is told by the label of the character
  abbrev moved_spot : Spot → ℕ → Spot
  moved_spot s o = spot s.class (cond (nat_eq s.class h.number) o s.offset)

  image_label : (p : Pos) (s : Spot) (o : ℕ) → label old p ≡ Some s → o < size_at p → label new (at_image p o) ≡ Some (moved_spot s o)
  image_label p s o e less =
      let i = in_part old old_parts p s e in
      elim (cases_eq s.class h.number) [
        | inl same ↦ elim (cases_eq s.offset 0) [
          | inl first ↦
              let size_is = size_first p s e same first in
              let member : class_in old i.part ≡ Some h.number = i.class ∙ ap (λ (n : ℕ). Some n) same in
              let begin : (i.part).start ≡ p = (let none : (i.part).start.at ≡ (i.part).start.at + s.offset = omega (arith, first) in
              pos_is (i.part).start (along (i.part).start s.offset) refl none ∙ i.there) in
              let own = label_member h.number (length name) old new old_parts parts moves i.part o member (omega (arith, less, size_is)) in
              let here_is : label new (at_image p o) ≡ Some (spot h.number o) =
              ap (λ (q : Pos). label new (at_image q o)) (sym begin) ∙ (ap (label new) (image_member i.part h.number o member) ∙ own) in
              here_is
              ∙ (ap (λ (n : ℕ). Some (spot n o)) (sym same) ∙ ap (λ (b : Bool). Some (spot s.class (cond b o s.offset))) (sym (eq-eqb s.class h.number same)))
          | inr later ↦ let size_is = size_later p s e same (omega (arith, later)) in absurd (omega (arith, less, size_is))
        ]
        | inr apart ↦
            let size_is = size_other p s e apart in
            let none : o ≡ 0 = omega (arith, less, size_is) in
            let own = label_kept h.number (length name) old new old_parts parts moves i.part s.class s.offset i.class apart i.less in
            ap (λ (k : ℕ). label new (at_image p k)) none
            ∙ (ap (λ (q : Pos). label new (at_image q 0)) (sym i.there)
            ∙ (ap (label new) (image_other i.part s.class s.offset i.class apart i.less)
            ∙ (own ∙ ap (λ (b : Bool). Some (spot s.class (cond b o s.offset))) (sym (ne_eqb s.class h.number apart)))))
      ]

  same_images : (p e : Pos) (o : ℕ) → Same old p e → o < size_at p → o < size_at e → Same new (at_image p o) (at_image e o)
  same_images p e o same less also = record {
    at = moved_spot same.at o;
    first = image_label p same.at o same.first less;
    second = image_label e same.at o same.second also;
  }

  -- ---- links

  -- characters of a link that stand at one place are the same, and as much is put for both
  record LinkFacts (l : Link) : Type 0 where
    pub same : AreSameAt a h.own members h.number h.class name l.x.origins l.y.origins
    pub alike : SizesAlike a.value members name l.x.origins l.y.origins
    pub first : length l.x.origins ≡ length l.x.text
    pub second : length l.y.origins ≡ length l.y.text

  link_facts : (l : Link) → In l (links_of a.value) → LinkFacts l
  link_facts l i =
      let each : (u : UnitAnalysis) → In u a.value.units → AllOf (IsWhole a.value) u.text.toks × AllOf (Both (IsWhole a.value)) u.text.links =
      λ u j. (let is = unit_is h.source h.workspace a.value h.accepted u j in (toks_whole a.value u j is, links_whole a.value u j is)) in
      let k = links_have (IsWhole a.value) a.value each l i in
      let both = and_parts (is_name l.x && is_name l.y) (bytes_eq l.x.text l.y.text) k.1 in
      let names = and_parts (is_name l.x) (is_name l.y) both.0 in
      let x = k.0.0 in
      let y = k.0.1 in
      let own = h.own in
      let pair : slice_get (linked_pairs a.value) i.0 ≡ Some (l.x, l.y) = slice_get-map pair_of (links_of a.value) i.0 ∙ ap (λ o. option_map pair_of o) i.1 in
      let at : AreSameAt a h.own members h.number h.class name l.x.origins l.y.origins = record {
        each = λ n p q e f. own.links.holds p q (record {
          place = i.0;
          first = l.x;
          second = l.y;
          at = pair;
          link = record {
            place = n;
            first = ap (λ (o : Option (Option Pos)). option_and_then (λ (z : Option Pos). z) o) e;
            second = ap (λ (o : Option (Option Pos)). option_and_then (λ (z : Option Pos). z) o) f;
          };
        });
      } in
      let put = chained_alike a h.own members h.number h.class name l.x.origins l.y.origins (whole_chained a.value l.x x names.0) (whole_chained a.value l.y y names.1) at in
      let first = x.traced in
      let second = y.traced in
      record {
        same = at;
        alike = λ n o p e f. ap length (put.each n o p 0 e f);
        first = first.each;
        second = second.each;
      }

  -- the pairs of the renamed analysis
  pairs_at : (k : ℕ) → slice_get (linked_pairs (renamed_analysis (change a.value members name) a.value)) k
      ≡ option_map pair_of (option_map (renamed_link r) (slice_get (links_of a.value) k))
  pairs_at k =
      slice_get-map pair_of (links_of (renamed_analysis (change a.value members name) a.value)) k
      ∙ (ap (λ (ls : List Link). option_map pair_of (slice_get ls k)) (links_are_renamed_where_allowed a members name h)
      ∙ ap (option_map pair_of) (slice_get-map (renamed_link r) (links_of a.value) k))

  -- a renamed pair comes of a link
  record OfLink (k : ℕ) (x y : Token) : Type 0 where
    pub link : Link
    pub at : slice_get (links_of a.value) k ≡ Some link
    pub first : renamed r link.x ≡ x
    pub second : renamed r link.y ≡ y

  of_link : (k : ℕ) (x y : Token) → slice_get (linked_pairs (renamed_analysis (change a.value members name) a.value)) k ≡ Some (x, y) → OfLink k x y
  of_link k x y e = by (slice_get (links_of a.value) k) refl
    where
      by : (o : Option Link) → slice_get (links_of a.value) k ≡ o → OfLink k x y
      by None f = absurd (none-some (x, y) (sym (pairs_at k ∙ ap (λ (o : Option Link). option_map pair_of (option_map (renamed_link r) o)) f) ∙ e))
      by (Some l) f =
          let same : (renamed r l.x, renamed r l.y) ≡ (x, y) =
          same_Some (renamed r l.x, renamed r l.y) (x, y) (sym (pairs_at k ∙ ap (λ (o : Option Link). option_map pair_of (option_map (renamed_link r) o)) f) ∙ e) in
          record { link = l; at = f; first = ap (λ (z : Token × Token). z.0) same; second = ap (λ (z : Token × Token). z.1) same }

  -- what is linked anew is the same
  pub links_hold : (q w : Pos) → LinkedBy (linked_pairs (renamed_analysis (change a.value members name) a.value)) q w → Same new q w
  links_hold q w by =
      let of = of_link by.place by.first by.second by.at in
      let l : Link = of.link in
      let facts = link_facts l (by.place, of.at) in
      let link = by.link in
      let e : slice_get (trace_from a.value members name l.x.origins l.x.text) link.place ≡ Some (Some q) =
      told_origin _ q (ap (λ (t : Token). origin_at t link.place) of.first ∙ link.first) in
      let f : slice_get (trace_from a.value members name l.y.origins l.y.text) link.place ≡ Some (Some w) =
      told_origin _ w (ap (λ (t : Token). origin_at t link.place) of.second ∙ link.second) in
      let b = both_at a.value members name l.x.origins l.y.origins l.x.text l.y.text facts.alike facts.first facts.second link.place q w e f in
      let at = facts.same in
      let same = same_images b.p b.e b.o (at.each b.place b.p b.e b.first b.second) b.less b.also in
      subst (λ (x : Pos). Same new x w) (sym b.is) (subst (λ (y : Pos). Same new (at_image b.p b.o) y) (sym b.other) same)

  -- what was linked is linked anew
  linked_anew : (p e : Pos) (o : ℕ) → LinkedBy (linked_pairs a.value) p e → o < size_at p
      → LinkedBy (linked_pairs (renamed_analysis (change a.value members name) a.value)) (at_image p o) (at_image e o)
  linked_anew p e o by less =
      let from = mapped_at pair_of (links_of a.value) by.place (by.first, by.second) by.at in
      let l : Link = from.0 in
      let first : by.first ≡ l.x = ap (λ (z : Token × Token). z.0) from.1 in
      let second : by.second ≡ l.y = ap (λ (z : Token × Token). z.1) from.1 in
      let link = by.link in
      let facts = link_facts l (by.place, from.2) in
      let at : slice_get l.x.origins link.place ≡ Some (Some p) = told_origin _ p (ap (λ (t : Token). origin_at t link.place) (sym first) ∙ link.first) in
      let there : slice_get l.y.origins link.place ≡ Some (Some e) = told_origin _ e (ap (λ (t : Token). origin_at t link.place) (sym second) ∙ link.second) in
      let s = at_both a.value members name l.x.origins l.y.origins l.x.text l.y.text facts.alike facts.first facts.second link.place o p e at there less in
      record {
        place = by.place;
        first = renamed r l.x;
        second = renamed r l.y;
        at = pairs_at by.place ∙ ap (λ (x : Option Link). option_map pair_of (option_map (renamed_link r) x)) from.2;
        link = record {
          place = s.place;
          first = ap (λ (x : Option (Option Pos)). option_and_then (λ (z : Option Pos). z) x) s.first;
          second = ap (λ (x : Option (Option Pos)). option_and_then (λ (z : Option Pos). z) x) s.second;
        };
      }

  -- a chain of old links, character by character
  chain_anew : (s : Spot) (o : ℕ) → ((p : Pos) → label old p ≡ Some s → o < size_at p) → (p e : Pos) → label old p ≡ Some s → Chain (LinkedBy (linked_pairs a.value)) p e
      → Chain (LinkedBy (linked_pairs (renamed_analysis (change a.value members name) a.value))) (at_image p o) (at_image e o)
  chain_anew s o less p e at here = here
  chain_anew s o less p e at (onward {q = q} step rest) =
      let own = h.own in
      let same = own.links.holds p q step in
      let next : label old q ≡ Some s = same.second ∙ (sym same.first ∙ at) in
      onward (linked_anew p q o step (less p at)) (chain_anew s o less q e next rest)
  chain_anew s o less p e at (back {q = q} step rest) =
      let own = h.own in
      let same = own.links.holds q p step in
      let next : label old q ≡ Some s = same.first ∙ (sym same.second ∙ at) in
      back (linked_anew q p o step (less q next)) (chain_anew s o less q e next rest)

  -- what is the same in the new table is linked anew
  pub links_least : (q w : Pos) → Same new q w → Chain (LinkedBy (linked_pairs (renamed_analysis (change a.value members name) a.value))) q w
  links_least q w same =
      let u : Spot = same.at in
      let P = from_part h.number (length name) old new old_parts parts moves q u same.first in
      let Q = from_part h.number (length name) old new old_parts parts moves w u same.second in
      let own = h.own in
      let less = P.less in
      let also = Q.less in
      elim (cases_eq u.class h.number) [
        | inl member ↦
            let first = first_label old old_parts P.part u.class P.class in
            let second = first_label old old_parts Q.part u.class Q.class in
            let long : (moved_part h.number (length name) old u.class P.part).len ≡ length name =
            ap (λ (b : Bool). cond b (length name) (P.part).len) (eq-eqb u.class h.number member) in
            let chain = own.links.least (P.part).start (Q.part).start (record { at = spot u.class 0; first = first; second = second }) in
            let anew = chain_anew (spot u.class 0) u.offset (λ p e. (let size_is = size_first p (spot u.class 0) e member refl in omega (arith, size_is, less, long)))
            (P.part).start (Q.part).start first chain in
            ends (image_member P.part u.class u.offset P.class ∙ P.there) (image_member Q.part u.class u.offset Q.class ∙ Q.there) anew
        | inr apart ↦
            let long : (moved_part h.number (length name) old u.class P.part).len ≡ (P.part).len =
            ap (λ (b : Bool). cond b (length name) (P.part).len) (ne_eqb u.class h.number apart) in
            let long' : (moved_part h.number (length name) old u.class Q.part).len ≡ (Q.part).len =
            ap (λ (b : Bool). cond b (length name) (Q.part).len) (ne_eqb u.class h.number apart) in
            let one : u.offset < (P.part).len = omega (arith, less, long) in
            let two : u.offset < (Q.part).len = omega (arith, also, long') in
            let first = old_parts.spots P.part u.class u.offset P.class one in
            let second = old_parts.spots Q.part u.class u.offset Q.class two in
            let chain = own.links.least (along (P.part).start u.offset) (along (Q.part).start u.offset) (record { at = u; first = first; second = second }) in
            let anew = chain_anew u 0 (λ p e. (let size_is = size_other p u e apart in omega (arith, size_is)))
            (along (P.part).start u.offset) (along (Q.part).start u.offset) first chain in
            ends (image_other P.part u.class u.offset P.class apart one ∙ P.there) (image_other Q.part u.class u.offset Q.class apart two ∙ Q.there) anew
      ]
    where
      ends : {p e : Pos} → p ≡ q → e ≡ w → Chain (LinkedBy (linked_pairs (renamed_analysis (change a.value members name) a.value))) p e
          → Chain (LinkedBy (linked_pairs (renamed_analysis (change a.value members name) a.value))) q w
      ends {p = p} {e = e} is other chain =
          subst (λ (x : Pos). Chain (LinkedBy (linked_pairs (renamed_analysis (change a.value members name) a.value))) x w) is
          (subst (λ (y : Pos). Chain (LinkedBy (linked_pairs (renamed_analysis (change a.value members name) a.value))) p y) other chain)

pub classes_follow : ClassesFollow
classes_follow = λ a members name path line column h named new moves parts.
    let tokens = file_tokens_follow a members name path line column h named new moves in
    record {
      tokens = tokens.tokens;
      all = tokens.all;
      links = record { holds = links_hold a members name h new moves parts; least = links_least a members name h new moves parts };
      parts = parts;
    }
