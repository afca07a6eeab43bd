-- One place of a pattern more, and stars side by side.
use Rattle.std.proofs.Common.{◌≡◌, ℕ, suc, ◌+◌, ◌<◌, ◌≤◌, Bool, true, false, List, [], ◌∷◌, length, drop, get_or, set, refl, sym, subst, ◌∙◌, ap, ⊎_elim, add-one, append-nil, append_assoc, drop-cons, arith, ◌++◌, slice_get, Option, Some, None}
use Rattle.std.specs.Prelude.{◌==◌, ◌&&◌, ◌||◌, if◌then◌else◌}
use Rattle.std.specs.Option.{option_map_or}
use Rattle.std.proofs.lemmas.Bool.{and_parts, cases_eq, eqb-true}
use Rattle.std.proofs.lemmas.List.{get_or-set_same, get_or-set_other, drop_all}
use Rattle.std.proofs.lemmas.Option.{get_or_from_slice_get, slice_get_within}
use Rattle.query_words.specs.Patterns.{goes_on, matches, some_end, star}
use Rattle.query_words.specs.Reading.{is_byte}
use Rattle.query_words.specs.PlaceMarks.{AreAtEnd, MatchAlike, with_byte, without_bytes}

-- from the end of a pattern it matches nothing but no byte
pub matches_end : (pattern text : List ℕ) → matches (drop (length pattern) pattern) text ≡ matches [] text
matches_end [] text = refl
matches_end (c ∷ pattern) text = matches_end pattern text

pub matches_none : (pattern : List ℕ) (k : ℕ) → k < length pattern
    → matches (drop k pattern) [] ≡ without_bytes (get_or pattern k 0) (matches (drop (k + 1) pattern) [])
unfolding matches
matches_none pattern k within = rw (add-one, drop-cons pattern k 0) (elim (get_or pattern k 0 == star) as (λ b. (if b then matches (drop (suc k) pattern) [] else false) ≡ (b && matches (drop (suc k) pattern) [])) [ true ↦ refl | false ↦ refl ])

pub matches_byte : (pattern text : List ℕ) (k b : ℕ) → k < length pattern
    → matches (drop k pattern) (b ∷ text)
    ≡ with_byte (get_or pattern k 0) b (matches (drop k pattern) text) (matches (drop (k + 1) pattern) text) (matches (drop (k + 1) pattern) (b ∷ text))
unfolding matches
matches_byte pattern text k b within =
    let c = get_or pattern k 0 in
    let rest = matches (drop (suc k) pattern) in
    rw (add-one, drop-cons pattern k 0) (elim (c == star) as (λ v.
    (if v then some_end rest (b ∷ text) else goes_on c rest (b ∷ text))
    ≡ (if v then (rest (b ∷ text) || (if v then some_end rest text else goes_on c rest text)) else ((b == c) && rest text))) [ true ↦ refl | false ↦ refl ])

-- ---- rows of marks

pub none_begins : (pattern : List ℕ) (places : List Bool) → length pattern < length places
    → (j : ℕ) → length pattern ≤ j → j ≤ length pattern → get_or (set places (length pattern) true) j false ≡ matches (drop j pattern) []
unfolding matches
none_begins pattern places room j low high =
    let is : j ≡ length pattern = omega arith in
    rw is (get_or-set_same places (length pattern) true false room ∙ sym (matches_end pattern []))

pub byte_begins : (pattern text : List ℕ) (places : List Bool) (b : ℕ) → length pattern < length places
    → (j : ℕ) → length pattern ≤ j → j ≤ length pattern → get_or (set places (length pattern) false) j false ≡ matches (drop j pattern) (b ∷ text)
unfolding matches
byte_begins pattern text places b room j low high =
    let is : j ≡ length pattern = omega arith in
    rw is (get_or-set_same places (length pattern) false false room ∙ sym (matches_end pattern (b ∷ text)))

-- one place more, in front of those that are marked for a text
place_more : (pattern text : List ℕ) (places : List Bool) (m : ℕ) (v : Bool) → m < length places → v ≡ matches (drop m pattern) text
    → ((j : ℕ) → m + 1 ≤ j → j ≤ length pattern → get_or places j false ≡ matches (drop j pattern) text)
    → (j : ℕ) → m ≤ j → j ≤ length pattern → get_or (set places m v) j false ≡ matches (drop j pattern) text
place_more pattern text places m v room is before j low high =
    ⊎_elim
    (λ (e : m ≡ j). subst (λ (i : ℕ). get_or (set places m v) i false ≡ matches (drop i pattern) text) e (get_or-set_same places m v false room ∙ is))
    (λ (ne : m ≡ j → ⊥). get_or-set_other places m j v false (λ q. ne (sym q)) ∙ before j (omega (arith, ne)) high)
    (cases_eq m j)

pub none_more : (pattern : List ℕ) (places : List Bool) (m : ℕ) (v : Bool) → m < length pattern → m < length places
    → v ≡ without_bytes (get_or pattern m 0) (get_or places (m + 1) false)
    → ((j : ℕ) → m + 1 ≤ j → j ≤ length pattern → get_or places j false ≡ matches (drop j pattern) [])
    → (j : ℕ) → m ≤ j → j ≤ length pattern → get_or (set places m v) j false ≡ matches (drop j pattern) []
none_more pattern places m v inside room is before =
    let next = before (m + 1) (omega arith) (omega arith) in
    place_more pattern [] places m v room
    (is ∙ ap (without_bytes (get_or pattern m 0)) next ∙ sym (matches_none pattern m inside)) before

pub byte_more : (pattern text : List ℕ) (places old : List Bool) (m b : ℕ) (v here behind : Bool) → m < length pattern → m < length places
    → v ≡ with_byte (get_or pattern m 0) b here behind (get_or places (m + 1) false)
    → here ≡ get_or old m false → behind ≡ get_or old (m + 1) false → AreAtEnd pattern text old
    → ((j : ℕ) → m + 1 ≤ j → j ≤ length pattern → get_or places j false ≡ matches (drop j pattern) (b ∷ text))
    → (j : ℕ) → m ≤ j → j ≤ length pattern → get_or (set places m v) j false ≡ matches (drop j pattern) (b ∷ text)
byte_more pattern text places old m b v here behind inside room is at_here at_behind old_marks before =
    let next = before (m + 1) (omega arith) (omega arith) in
    let first = at_here ∙ old_marks m (omega arith) in
    let second = at_behind ∙ old_marks (m + 1) (omega arith) in
    let c = get_or pattern m 0 in
    place_more pattern (b ∷ text) places m v room
    (is
    ∙ ap (λ (x : Bool). with_byte c b x behind (get_or places (m + 1) false)) first
    ∙ ap (λ (x : Bool). with_byte c b (matches (drop m pattern) text) x (get_or places (m + 1) false)) second
    ∙ ap (λ (x : Bool). with_byte c b (matches (drop m pattern) text) (matches (drop (m + 1) pattern) text) x) next
    ∙ sym (matches_byte pattern text m b inside)) before

-- places in front of one that is set stay
pub before_set : (places : List Bool) (m : ℕ) (v : Bool) (j : ℕ) → j < m → get_or (set places m v) j false ≡ get_or places j false
before_set places m v j below =
    let ne : j ≡ m → ⊥ = λ q. omega arith in
    get_or-set_other places m j v false ne

-- ---- stars side by side

same_ends : (f g : List ℕ → Bool) → ((t : List ℕ) → f t ≡ g t) → (text : List ℕ) → some_end f text ≡ some_end g text
same_ends f g same [] = same []
same_ends f g same (b ∷ text) =
    ap (λ (x : Bool). x || some_end f text) (same (b ∷ text)) ∙ ap (λ (x : Bool). g (b ∷ text) || x) (same_ends f g same text)

same_goes_on : (c : ℕ) (f g : List ℕ → Bool) → ((t : List ℕ) → f t ≡ g t) → (text : List ℕ) → goes_on c f text ≡ goes_on c g text
same_goes_on c f g same [] = refl
same_goes_on c f g same (b ∷ text) = ap (λ (x : Bool). (b == c) && x) (same text)

-- patterns that match alike do so behind the same bytes
pub alike_behind : (front p q : List ℕ) → MatchAlike p q → MatchAlike (front ++ p) (front ++ q)
unfolding matches
alike_behind [] p q same = same
alike_behind (c ∷ front) p q same = λ text.
    let later = alike_behind front p q same in
    elim (c == star) as (λ v.
    (if v then some_end (matches (front ++ p)) text else goes_on c (matches (front ++ p)) text)
    ≡ (if v then some_end (matches (front ++ q)) text else goes_on c (matches (front ++ q)) text)) [
      | true ↦ same_ends (matches (front ++ p)) (matches (front ++ q)) later text
      | false ↦ same_goes_on c (matches (front ++ p)) (matches (front ++ q)) later text
    ]

or_twice : (a b : Bool) → ((a || b) || b) ≡ (a || b)
or_twice true b = refl
or_twice false true = refl
or_twice false false = refl

ends_twice : (f : List ℕ → Bool) (text : List ℕ) → some_end (some_end f) text ≡ some_end f text
ends_twice f [] = refl
ends_twice f (b ∷ text) =
    ap (λ (x : Bool). (f (b ∷ text) || some_end f text) || x) (ends_twice f text) ∙ or_twice (f (b ∷ text)) (some_end f text)

-- two stars match as one does
stars_alike : (p : List ℕ) → MatchAlike (star ∷ star ∷ p) (star ∷ p)
unfolding matches
stars_alike p text = ends_twice (matches p) text

star_there : (o : Option ℕ) → option_map_or (λ b. b == star) o false ≡ true → o ≡ Some star
star_there None is = absurd (cc)
star_there (Some b) is = ap Some (eqb-true b star is)

-- where a star stands, it begins what is left
star_first : (pattern : List ℕ) (k : ℕ) → is_byte pattern k star ≡ true → drop k pattern ≡ star ∷ drop (k + 1) pattern
star_first pattern k is =
    let there = star_there (slice_get pattern k) is in
    let within = slice_get_within pattern k star there in
    let first : get_or pattern k 0 ≡ star = get_or_from_slice_get pattern k star 0 there in
    drop-cons pattern k 0 within ∙ rw (first, add-one) refl

-- the first of two stars is left out
pub left_out : (pattern found : List ℕ) (k : ℕ) → (is_byte pattern k star && is_byte pattern (k + 1) star) ≡ true
    → MatchAlike (found ++ drop k pattern) pattern → MatchAlike (found ++ drop (k + 1) pattern) pattern
left_out pattern found k is before text =
    let parts = and_parts (is_byte pattern k star) (is_byte pattern (k + 1) star) is in
    let first = star_first pattern k parts.0 in
    let second = star_first pattern (k + 1) parts.1 in
    let two : drop k pattern ≡ star ∷ star ∷ drop (k + 1 + 1) pattern = first ∙ ap (λ (xs : List ℕ). star ∷ xs) second in
    ap (λ (xs : List ℕ). matches (found ++ xs) text) second
    ∙ sym (alike_behind found (star ∷ star ∷ drop (k + 1 + 1) pattern) (star ∷ drop (k + 1 + 1) pattern) (stars_alike (drop (k + 1 + 1) pattern)) text)
    ∙ sym (ap (λ (xs : List ℕ). matches (found ++ xs) text) two)
    ∙ before text

-- a byte is kept
pub kept_on : (pattern found new : List ℕ) (k : ℕ) → k < length pattern → new ≡ found ++ get_or pattern k 0 ∷ []
    → MatchAlike (found ++ drop k pattern) pattern → MatchAlike (new ++ drop (k + 1) pattern) pattern
kept_on pattern found new k within is before text =
    let next : drop k pattern ≡ get_or pattern k 0 ∷ drop (k + 1) pattern = drop-cons pattern k 0 within ∙ rw add-one refl in
    ap (λ (xs : List ℕ). matches (xs ++ drop (k + 1) pattern) text) is
    ∙ ap (λ (xs : List ℕ). matches xs text) (append_assoc found (get_or pattern k 0 ∷ []) (drop (k + 1) pattern))
    ∙ sym (ap (λ (xs : List ℕ). matches (found ++ xs) text) next)
    ∙ before text

pub all_kept : (pattern found : List ℕ) (k : ℕ) → length pattern ≤ k → MatchAlike (found ++ drop k pattern) pattern → MatchAlike found pattern
all_kept pattern found k past before text =
    sym (ap (λ (xs : List ℕ). matches xs text) (ap (λ (xs : List ℕ). found ++ xs) (drop_all k pattern past) ∙ append-nil found)) ∙ before text
