-- The tokens that are gone, and the places of the others.
use Rattle.std.proofs.Common.{◌≡◌, ℕ, zero, suc, ◌+◌, ◌<◌, ◌≤◌, ◌&&◌, ◌||◌, Bool, true, false, cond, nat_le, nat_lt, List, [], ◌∷◌, ◌++◌, Option, Some, length, set, get_or, replicate, slice_get, refl, sym, ap, subst, ◌∙◌, inl, inr, ◌⊎◌, arith, add-one, length-append}
use Rattle.std.specs.Option.{option_map_or}
use Rattle.std.proofs.lemmas.Bool.Decides.{nat_tests}
use Rattle.std.proofs.lemmas.List.{get_or-set_same, get_or-set_other, get_or-replicate, get_or_past, get_or_append_left}
use Rattle.std.proofs.lemmas.Option.{slice_get_within}
use Rattle.std.proofs.Math.ListN.{length-set, length-replicate}
use Rattle.std.proofs.Math.Seq.{get_or-append_seam}
use Rattle.cs_base.specs.declared.positions.Pos.{Pos}
use Rattle.cs_base.proofs.BoolLemmas.{or_false as or-none}
use Rattle.analysis.specs.Below.unit_steps.declared.events.Event.{Event}
use Rattle.analysis.specs.Below.unit_steps.Texts.{UnitTextValue}
use Rattle.trim_plan.specs.declared.left.Left.{Left}
use Rattle.trim_plan.specs.Left.{enters_by, is_brought, goes_by, is_gone, place}
use Rattle.trim_plan.specs.Places.{mark_at, MarksMore, AreGoneMarks, ArePlaces, IsLeftOf}
use Rattle.trim_rules.specs.Numbers.{is_below}
use Rattle.trim_rules.proofs.NumberLemmas.{less-or-not, le-or-not}

-- ---- marks

pub marks-same : (more : ℕ → Bool) (old : List Bool) → ((k : ℕ) → k < length old → more k ≡ false) → MarksMore more old old
marks-same more old none = record { many = refl; each = λ k within. or-none (mark_at old k) ∙ ap (λ (b : Bool). mark_at old k || b) (sym (none k within)) }

pub marks-as : (f g : ℕ → Bool) (old new : List Bool) → ((k : ℕ) → f k ≡ g k) → MarksMore f old new → MarksMore g old new
marks-as f g old new same h = record { many = h.many; each = λ k within. h.each k within ∙ ap (λ (b : Bool). mark_at old k || b) (same k) }

-- the tokens from one to before another, of which those before `at` are marked
module _ (from at : ℕ) where
  abbrev pub in_front : ℕ → Bool
  in_front k = nat_le from k && nat_lt k at

  pub front-begin : (old : List Bool) → at ≤ from → MarksMore in_front old old
  front-begin old past = marks-same in_front old (λ k within. none k)
    where
      none : (k : ℕ) → (nat_le from k && nat_lt k at) ≡ false
      none k = grind (arith, nat_tests, past)

pub front-next : (from at : ℕ) (old mid new : List Bool) → from ≤ at → new ≡ set mid at true → MarksMore (in_front from at) old mid
    → MarksMore (in_front from (at + 1)) old new
front-next from at old mid new begun is h = record {
  many = ap length is ∙ length-set mid at true ∙ h.many;
  each = λ k below. ap (λ (ms : List Bool). get_or ms k false) is ∙ elim (less-or-not k at) [
    | inl less ↦
        get_or-set_other mid at k true false (λ e. absurd (omega (arith, less.1, e)))
        ∙ h.each k below
        ∙ ap (λ (b : Bool). mark_at old k || b) (before k less.1)
    | inr more ↦ elim (less-or-not at k) [
      | inl past ↦
          get_or-set_other mid at k true false (λ e. absurd (omega (arith, past.1, e)))
          ∙ h.each k below
          ∙ ap (λ (b : Bool). mark_at old k || b) (behind k past.1)
      | inr differs ↦
          let same : at ≡ k = omega (arith, more.1, differs.1) in
          let within : at < length mid = omega (arith, same, below, h.many) in
          let here : mark_at (set mid at true) k ≡ true = subst (λ (j : ℕ). get_or (set mid at true) j false ≡ true) same (get_or-set_same mid at true false within) in
          here ∙ sym (or-true (mark_at old k)) ∙ ap (λ (b : Bool). mark_at old k || b) (own k same)
    ]
  ];
}
  where
    or-true : (b : Bool) → (b || true) ≡ true
    or-true true = refl
    or-true false = refl

    before : (k : ℕ) → k < at → (nat_le from k && nat_lt k at) ≡ (nat_le from k && nat_lt k (at + 1))
    before k less = grind (arith, nat_tests, less)

    behind : (k : ℕ) → at < k → (nat_le from k && nat_lt k at) ≡ (nat_le from k && nat_lt k (at + 1))
    behind k past = grind (arith, nat_tests, past)

    own : (k : ℕ) → at ≡ k → true ≡ (nat_le from k && nat_lt k (at + 1))
    own k same = grind (arith, nat_tests, same, begun)

pub front-all : (from to at : ℕ) (old new : List Bool) → to ≤ at → (at ≤ to) ⊎ (at ≡ from) → MarksMore (in_front from at) old new → MarksMore (in_front from to) old new
front-all from to at old new past (inl within) h =
    let same : at ≡ to = omega (arith, past, within) in
    subst (λ (n : ℕ). MarksMore (in_front from n) old new) same h
front-all from to at old new past (inr none) h = record {
  many = h.many;
  each = λ k below. h.each k below ∙ ap (λ (b : Bool). mark_at old k || b) (both k);
}
  where
    both : (k : ℕ) → (nat_le from k && nat_lt k at) ≡ (nat_le from k && nat_lt k to)
    both k = grind (arith, nat_tests, none, past)

-- ---- one event

module _ (lines : List Pos) (text : UnitTextValue) (k : ℕ) (e : Event) (at : slice_get text.events k ≡ Some e) where
  by-event : (j : ℕ) → goes_by lines text j k ≡ (enters_by lines e && is_brought text j k)
  by-event j = ap (λ (o : Option Event). option_map_or (enters_by lines) o false && is_brought text j k) at

  pub event-other : (old : List Bool) → enters_by lines e ≡ false → MarksMore (λ j. goes_by lines text j k) old old
  event-other old differs = marks-same (λ j. goes_by lines text j k) old (λ j within. by-event j ∙ ap (λ (b : Bool). b && is_brought text j k) differs)

  pub event-one : (old new : List Bool) → enters_by lines e ≡ true → MarksMore (λ j. is_brought text j k) old new → MarksMore (λ j. goes_by lines text j k) old new
  event-one old new is h =
      marks-as (λ j. is_brought text j k) (λ j. goes_by lines text j k) old new
      (λ j. sym (by-event j ∙ ap (λ (b : Bool). b && is_brought text j k) is)) h

-- ---- all events

pub gone-begin : (lines : List Pos) (text : UnitTextValue) (count : ℕ) (marks : List Bool) → marks ≡ replicate count false
    → MarksMore (λ j. is_below (goes_by lines text j) 0) marks marks
gone-begin lines text count marks is = marks-same (λ j. is_below (goes_by lines text j) 0) marks (λ j within. refl)

or-three : (a b c : Bool) → ((a || b) || c) ≡ (a || (b || c))
or-three true b c = refl
or-three false b c = refl

pub gone-next : (lines : List Pos) (text : UnitTextValue) (k : ℕ) (old mid new : List Bool) → MarksMore (λ j. is_below (goes_by lines text j) k) old mid
    → MarksMore (λ j. goes_by lines text j k) mid new → MarksMore (λ j. is_below (goes_by lines text j) (k + 1)) old new
gone-next lines text k old mid new before here = record {
  many = here.many ∙ before.many;
  each = λ j within.
      here.each j (omega (arith, before.many, within))
      ∙ ap (λ (b : Bool). b || goes_by lines text j k) (before.each j within)
      ∙ or-three (mark_at old j) (is_below (goes_by lines text j) k) (goes_by lines text j k)
      ∙ ap (λ (n : ℕ). mark_at old j || is_below (goes_by lines text j) n) (sym (add-one k));
}

pub gone-all : (lines : List Pos) (text : UnitTextValue) (count : ℕ) (blank marks : List Bool) → count ≡ length text.toks → blank ≡ replicate count false
    → MarksMore (λ j. is_below (goes_by lines text j) (length text.events)) blank marks → AreGoneMarks (is_gone lines text) count marks
gone-all lines text count blank marks counted is h =
    let many : length blank ≡ count = ap length is ∙ length-replicate count false in
    record {
      many = h.many ∙ many;
      each = λ j. elim (less-or-not j count) [
        | inl less ↦
            let within : j < count = less.1 in
            let none : mark_at blank j ≡ false = ap (λ (ms : List Bool). get_or ms j false) is ∙ get_or-replicate count j false false within in
            let inside : nat_lt j (length text.toks) ≡ true = subst (λ (n : ℕ). nat_lt j n ≡ true) counted less.0 in
            h.each j (omega (arith, many, within))
            ∙ ap (λ (b : Bool). b || is_below (goes_by lines text j) (length text.events)) none
            ∙ sym (ap (λ (b : Bool). b && is_below (goes_by lines text j) (length text.events)) inside)
        | inr past ↦
            let outside : nat_lt j (length text.toks) ≡ false = subst (λ (n : ℕ). nat_lt j n ≡ false) counted past.0 in
            get_or_past marks j false (omega (arith, past.1, many, h.many))
            ∙ sym (ap (λ (b : Bool). b && is_below (goes_by lines text j) (length text.events)) outside)
      ];
    }

-- ---- places

-- the places of the first tokens, by the marks
pub record ArePlacesSoFar (gone : ℕ → Bool) (k : ℕ) (places : List ℕ) : Type 0 where
  pub many : length places ≡ k + 1
  pub each : (j : ℕ) → j ≤ k → get_or places j 0 ≡ place gone j

pub places-begin : (gone : ℕ → Bool) (places : List ℕ) → places ≡ 0 ∷ [] → ArePlacesSoFar gone 0 places
places-begin gone places is = record {
  many = ap length is;
  each = λ j within.
      let none : j ≡ 0 = omega (arith, within) in
      ap (λ (ps : List ℕ). get_or ps j 0) is ∙ subst (λ (n : ℕ). get_or (0 ∷ []) n 0 ≡ place gone n) (sym none) refl;
}

pub places-next : (gone : ℕ → Bool) (k : ℕ) (old new : List ℕ) (at : ℕ) → ArePlacesSoFar gone k old → new ≡ old ++ at ∷ [] → at ≡ place gone (k + 1)
    → ArePlacesSoFar gone (k + 1) new
places-next gone k old new at h more is = record {
  many = ap length more ∙ length-append old (at ∷ []) ∙ ap (λ (n : ℕ). n + 1) h.many;
  each = λ j within. elim (le-or-not j k) [
    | inl less ↦
        let here : j ≤ k = less.1 in
        ap (λ (ps : List ℕ). get_or ps j 0) more ∙ get_or_append_left old (at ∷ []) 0 j (omega (arith, here, h.many)) ∙ h.each j here
    | inr past ↦
        let same : length old ≡ j = omega (arith, past.1, within, h.many) in
        let last : get_or (old ++ at ∷ []) j 0 ≡ at = subst (λ (n : ℕ). get_or (old ++ at ∷ []) n 0 ≡ at) same (get_or-append_seam old at [] 0) in
        let own : k + 1 ≡ j = omega (arith, same, h.many) in
        ap (λ (ps : List ℕ). get_or ps j 0) more ∙ last ∙ is ∙ ap (place gone) own
  ];
}

pub place-step : (gone : ℕ → Bool) (k : ℕ) → place gone (k + 1) ≡ cond (gone k) (place gone k) (place gone k + 1)
place-step gone k = ap (place gone) (add-one k)

pub place-gone : (gone : ℕ → Bool) (k : ℕ) → gone k ≡ true → place gone k ≡ place gone (k + 1)
place-gone gone k is = sym (place-step gone k ∙ ap (λ (b : Bool). cond b (place gone k) (place gone k + 1)) is)

pub place-left : (gone : ℕ → Bool) (k : ℕ) → gone k ≡ false → place gone k + 1 ≡ place gone (k + 1)
place-left gone k is = sym (place-step gone k ∙ ap (λ (b : Bool). cond b (place gone k) (place gone k + 1)) is)

place-same : (g h : ℕ → Bool) → ((k : ℕ) → g k ≡ h k) → (k : ℕ) → place g k ≡ place h k
place-same g h same zero = refl
place-same g h same (suc k) =
    ap (λ (b : Bool). cond b (place g k) (place g k + 1)) (same k) ∙ ap (λ (n : ℕ). cond (h k) n (n + 1)) (place-same g h same k)

-- the marks and places of a unit
pub left-of : (gone : ℕ → Bool) (count : ℕ) (l : Left) → AreGoneMarks gone count l.gone.items → ArePlaces (mark_at l.gone.items) (length l.gone.items) l.places.items
    → IsLeftOf gone count l
left-of gone count l marks places = record {
  marks = marks;
  places = record {
    many = places.many ∙ ap (λ (n : ℕ). n + 1) marks.many;
    each = λ k within. places.each k (omega (arith, marks.many, within)) ∙ place-same (mark_at l.gone.items) gone marks.each k;
  };
}

-- ---- what is asked of them

pub place-at : (gone : ℕ → Bool) (count : ℕ) (l : Left) (k at : ℕ) → IsLeftOf gone count l → slice_get l.places.items k ≡ Some at → at ≡ place gone k
place-at gone count l k at is there =
    let within : k < length l.places.items = slice_get_within l.places.items k at there in
    let told : get_or l.places.items k 0 ≡ place gone k = is.places.each k (omega (arith, is.places.many, within)) in
    sym (read l.places.items k there) ∙ told
  where
    read : (xs : List ℕ) (k : ℕ) → slice_get xs k ≡ Some at → get_or xs k 0 ≡ at
    read [] k e = absurd (cc)
    read (x ∷ xs) zero e = cc
    read (x ∷ xs) (suc k) e = read xs k e

pub places-told : (gone : ℕ → Bool) (k count : ℕ) (places : List ℕ) → k ≡ count → ArePlacesSoFar gone k places → ArePlaces gone count places
places-told gone k count places all h = record {
  many = h.many ∙ ap (λ (n : ℕ). n + 1) all;
  each = λ j within. h.each j (omega (arith, all, within));
}
