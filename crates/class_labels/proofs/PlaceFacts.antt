-- Numbers, labels, links and rows built one after another.
use Rattle.std.proofs.Common.{◌≡◌, ℕ, ◌+◌, ◌<◌, ◌≤◌, List, [], ◌∷◌, ◌++◌, zero, suc, length, take, drop, replicate, get_or, set, subst, refl, ap, sym, ◌∙◌, inl, inr, arith, Some, append_assoc, length-append}
use Rattle.std.specs.Prelude.{slice_get}
use Rattle.std.specs.List.{flat_map}
use Rattle.std.proofs.lemmas.Option.{slice_get-get_or}
use Rattle.std.proofs.lemmas.List.{drop_more, append-nil, take-append-drop}
use Rattle.std.proofs.lemmas.Grind.{flat_map-append}
use Rattle.std.proofs.Math.Seq.{take-suc}
use Rattle.std.proofs.lemmas.Bool.{cases_eq}
use Rattle.cs_base.proofs.ListLemmas.{get-front as slice_get-append_left}
use Rattle.class_labels.specs.declared.spots.Spot.{Spot}
use Rattle.class_labels.specs.Labels.{spot}
use Rattle.class_labels.specs.Regrown.{piece, share, place, places_before, ArePlaces, regrown_links}
use Rattle.class_labels.proofs.PartFacts.{slice_get-set_same, slice_get-set_other}
use Rattle.class_labels.proofs.RegrownFacts.{first, gone, itself, piece_cases, length-piece, place_next, place_grows}

pub place_none : (c m : ℕ) (spots : List Spot) → place c m spots 0 ≡ 0
unfolding place
place_none c m spots = refl

pub place_more : (c m : ℕ) (spots : List Spot) (i : ℕ) (d : Spot) → i < length spots → place c m spots (i + 1) ≡ place c m spots i + share c m (get_or spots i d)
place_more c m spots i d less =
    let one : i + 1 ≡ suc i = omega arith in
    ap (place c m spots) one ∙ place_next c m spots i (get_or spots i d) (slice_get-get_or spots i d less)

-- what stands for a character fits into what is left
pub place_fits : (c m : ℕ) (spots : List Spot) (i : ℕ) (d : Spot) → i < length spots → place c m spots i + share c m (get_or spots i d) ≤ place c m spots (length spots)
place_fits c m spots i d less =
    let more = place_more c m spots i d less in
    let grows = place_grows c m spots (i + 1) (length spots) (omega arith) (omega arith) in
    omega arith

-- the numbers so far, and one more
abbrev pub AreTo : ℕ → ℕ → List Spot → ℕ → List ℕ → Type 0
AreTo c m spots n numbers = (i : ℕ) → i < n → slice_get numbers i ≡ Some (place c m spots i)

pub to_more : (c m : ℕ) (spots : List Spot) (n at : ℕ) (numbers : List ℕ) → n < length numbers → at ≡ place c m spots n → AreTo c m spots n numbers
    → AreTo c m spots (n + 1) (set numbers n at)
to_more c m spots n at numbers within is before i less = elim (cases_eq i n) [
  | inl e ↦
      let P : ℕ → Type 0 = λ v. slice_get (set numbers n at) v ≡ Some (place c m spots v) in
      subst P (sym e) (slice_get-set_same numbers n at within ∙ ap Some is)
  | inr ne ↦ slice_get-set_other numbers n i at ne ∙ before i (omega arith)
]

-- ---- characters that lie in no part of the class stay

pub stay_none : (c m : ℕ) (spots : List Spot) → flat_map (piece c m) (take 0 spots) ≡ take 0 spots
stay_none c m spots = refl

itself_stays : (c m : ℕ) (s : Spot) → (s.class ≡ c → ⊥) → flat_map (piece c m) (s ∷ []) ≡ s ∷ []
itself_stays c m s other = elim (piece_cases c m s) [
  | first e p n ↦ absurd (other (ap (λ (r : Spot). r.class) e))
  | gone class some p n ↦ absurd (other class)
  | itself ne p n ↦ append-nil (piece c m s) ∙ p
]

pub stay_more : (c m n : ℕ) (spots : List Spot) (d : Spot) → n < length spots → ((get_or spots n d).class ≡ c → ⊥)
    → flat_map (piece c m) (take n spots) ≡ take n spots → flat_map (piece c m) (take (n + 1) spots) ≡ take (n + 1) spots
stay_more c m n spots d less other before =
    let s = get_or spots n d in
    let next : n + 1 ≡ suc n = omega arith in
    let more : take (n + 1) spots ≡ take n spots ++ s ∷ [] = ap (λ k. take k spots) next ∙ take-suc spots n d less in
    ap (flat_map (piece c m)) more
    ∙ flat_map-append (piece c m) (take n spots) (s ∷ [])
    ∙ ap (λ v. v ++ flat_map (piece c m) (s ∷ [])) before
    ∙ ap (λ v. take n spots ++ v) (itself_stays c m s other)
    ∙ sym more

-- the labels so far and what stands for the others, where some of these stay
pub stay_whole : (c m n : ℕ) (all now rest whole : List Spot) → flat_map (piece c m) (take n rest) ≡ take n rest → now ≡ all ++ take n rest
    → all ++ flat_map (piece c m) rest ≡ whole → now ++ flat_map (piece c m) (drop n rest) ≡ whole
stay_whole c m n all now rest whole stay pushed before =
    ap (λ v. v ++ flat_map (piece c m) (drop n rest)) pushed
    ∙ append_assoc all (take n rest) (flat_map (piece c m) (drop n rest))
    ∙ ap (λ v. all ++ (v ++ flat_map (piece c m) (drop n rest))) (sym stay)
    ∙ ap (λ v. all ++ v) (sym (flat_map-append (piece c m) (take n rest) (drop n rest)))
    ∙ ap (λ v. all ++ flat_map (piece c m) v) (take-append-drop n rest)
    ∙ before

-- there is room for what stands for the first character
pub fits_first : (c m : ℕ) (spots : List Spot) (s : Spot) (behind : List Spot) (n room : ℕ) → spots ≡ s ∷ behind → n + length (flat_map (piece c m) spots) ≤ room
    → n + share c m s ≤ room
fits_first c m spots s behind n room e fits =
    let whole = ap (λ (v : List Spot). length (flat_map (piece c m) v)) e in
    let both = length-append (piece c m s) (flat_map (piece c m) behind) in
    omega (arith, whole, both, length-piece c m s, fits)

-- where no character is left
pub none_left : (f : Spot → List Spot) (rest : List Spot) → length rest ≤ 0 → flat_map f rest ≡ []
none_left f [] none = refl
none_left f (s ∷ rest) none = absurd (omega (arith, none))

pub links_none : (c m : ℕ) (numbers : List ℕ) (nexts : List ℕ) → regrown_links c m numbers [] nexts ≡ []
unfolding regrown_links
links_none c m numbers nexts = refl

links_cons : (c m : ℕ) (numbers : List ℕ) (s : Spot) (spots : List Spot) (x : ℕ) (nexts : List ℕ) → regrown_links c m numbers (s ∷ spots) (x ∷ nexts) ≡ replicate (share c m s) (get_or numbers x 0) ++ regrown_links c m numbers spots nexts
unfolding regrown_links
links_cons c m numbers s spots x nexts = refl

pub links_more : (c m : ℕ) (numbers : List ℕ) (spots : List Spot) (nexts all now whole : List ℕ) (i : ℕ) (d : Spot) → i < length spots → i < length nexts
    → now ≡ all ++ replicate (share c m (get_or spots i d)) (get_or numbers (get_or nexts i 0) 0)
    → all ++ regrown_links c m numbers (drop i spots) (drop i nexts) ≡ whole → now ++ regrown_links c m numbers (drop (i + 1) spots) (drop (i + 1) nexts) ≡ whole
links_more c m numbers spots nexts all now whole i d less also e rest =
    let copies = replicate (share c m (get_or spots i d)) (get_or numbers (get_or nexts i 0) 0) in
    ap (λ v. v ++ regrown_links c m numbers (drop (i + 1) spots) (drop (i + 1) nexts)) e
    ∙ append_assoc all copies (regrown_links c m numbers (drop (i + 1) spots) (drop (i + 1) nexts))
    ∙ ap (λ v. all ++ v) (sym (links_cons c m numbers (get_or spots i d) (drop (i + 1) spots) (get_or nexts i 0) (drop (i + 1) nexts))
    ∙ sym (ap (λ v. regrown_links c m numbers v (get_or nexts i 0 ∷ drop (i + 1) nexts)) (drop_more spots i d less))
    ∙ sym (ap (λ v. regrown_links c m numbers (drop i spots) v) (drop_more nexts i 0 also)))
    ∙ rest
