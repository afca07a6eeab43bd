-- Walks as links.
use Rattle.std.proofs.Common.{◌≡◌, ℕ, ◌+◌, ◌-◌, ◌<◌, ◌≤◌, List, [], ◌∷◌, ◌++◌, zero, suc, length, map, get_or, set, refl, ap, sym, ◌∙◌, inl, inr, arith, subst, Some}
use Rattle.std.specs.Prelude.{slice_get}
use Rattle.std.proofs.lemmas.List.{get_or-set_same, get_or-set_other, length-set}
use Rattle.class_labels.specs.Table.{In, Distinct}
use Rattle.class_labels.specs.Links.{members, last_of, with_links}

pub length-members : (n : ℕ) (nexts : List ℕ) (x : ℕ) → length (members n nexts x) ≡ n
length-members zero nexts x = refl
length-members (suc n) nexts x = ap (λ v. suc v) (length-members n nexts (get_or nexts x 0))

pub members_first : (n : ℕ) (nexts : List ℕ) (x : ℕ) → 0 < n → In x (members n nexts x)
members_first zero nexts x h = absurd (omega arith)
members_first (suc n) nexts x h = inl refl

pub members_rest : (n : ℕ) (nexts : List ℕ) (x y : ℕ) → 0 < n → In y (members (n - 1) nexts (get_or nexts x 0)) → In y (members n nexts x)
members_rest zero nexts x y h i = absurd (omega arith)
members_rest (suc n) nexts x y h i =
    let P : ℕ → Type 0 = λ v. In y (members v nexts (get_or nexts x 0)) in
    let e : suc n - 1 ≡ n = omega arith in
    inr (subst P e i)

pub members_more : (n : ℕ) (nexts : List ℕ) (x : ℕ) → 0 < n → members n nexts x ≡ x ∷ members (n - 1) nexts (get_or nexts x 0)
members_more zero nexts x h = absurd (omega arith)
members_more (suc n) nexts x h = let e : n ≡ suc n - 1 = omega arith in ap (λ v. x ∷ members v nexts (get_or nexts x 0)) e

pub members_none : (n : ℕ) (nexts : List ℕ) (x : ℕ) → n ≤ 0 → members n nexts x ≡ []
members_none zero nexts x h = refl
members_none (suc n) nexts x h = absurd (omega arith)

-- the walk stays where the links of its members stay
pub members_same : (n : ℕ) (nexts others : List ℕ) (x : ℕ) → ((y : ℕ) → In y (members n nexts x) → get_or others y 0 ≡ get_or nexts y 0) → members n others x ≡ members n nexts x
members_same zero nexts others x same = refl
members_same (suc n) nexts others x same =
    let next : get_or others x 0 ≡ get_or nexts x 0 = same x (inl refl) in
    ap (λ v. x ∷ members n others v) next ∙ ap (λ v. x ∷ v) (members_same n nexts others (get_or nexts x 0) (λ y i. same y (inr i)))

pub last_of-In : (x : ℕ) (xs : List ℕ) → In (last_of (x ∷ xs)) (x ∷ xs)
last_of-In x [] = inl refl
last_of-In x (y ∷ ys) = inr (last_of-In y ys)

pub last_of-held : (xs : List ℕ) → 0 < length xs → In (last_of xs) xs
last_of-held [] h = absurd (omega arith)
last_of-held (x ∷ xs) h = last_of-In x xs

pub last_of-append : (xs ys : List ℕ) → 0 < length ys → last_of (xs ++ ys) ≡ last_of ys
last_of-append [] ys h = refl
last_of-append (x ∷ []) [] h = absurd (omega arith)
last_of-append (x ∷ []) (y ∷ ys) h = refl
last_of-append (x ∷ z ∷ xs) ys h = last_of-append (z ∷ xs) ys h

pub last_of-map : (k : ℕ) (xs : List ℕ) → 0 < length xs → last_of (map (λ x. x + k) xs) ≡ last_of xs + k
last_of-map k [] h = absurd (omega arith)
last_of-map k (x ∷ []) h = refl
last_of-map k (x ∷ y ∷ ys) h = last_of-map k (y ∷ ys) (omega arith)

-- one walk behind another, by one link
members_joined_step : (m n : ℕ) (nexts : List ℕ) (x first : ℕ) → Distinct (x ∷ members (suc m) nexts (get_or nexts x 0)) → last_of (x ∷ members (suc m) nexts (get_or nexts x 0)) ≡ x → ⊥
members_joined_step m n nexts x first distinct e =
    let z = get_or nexts x 0 in
    let P : ℕ → Type 0 = λ v. In v (members (suc m) nexts z) in
    distinct.0 (subst P e (last_of-In z (members m nexts (get_or nexts z 0))))

pub members_joined : (m n : ℕ) (nexts : List ℕ) (x first last : ℕ) → Distinct (members (suc m) nexts x) → last ≡ last_of (members (suc m) nexts x)
    → last < length nexts → (In last (members n nexts first) → ⊥)
    → members (suc m + n) (set nexts last first) x ≡ members (suc m) nexts x ++ members n nexts first
members_joined zero n nexts x first last distinct is within apart =
    let P : ℕ → Type 0 = λ v. get_or (set nexts last first) v 0 ≡ first in
    let next : get_or (set nexts last first) x 0 ≡ first = subst P is (get_or-set_same nexts last first 0 within) in
    let Q : ℕ → Type 0 = λ v. members v (set nexts last first) x ≡ x ∷ members n nexts first in
    let one : suc n ≡ suc zero + n = omega arith in
    let first_one : members (suc n) (set nexts last first) x ≡ x ∷ members n nexts first =
    ap (λ v. x ∷ members n (set nexts last first) v) next
    ∙ ap (λ v. x ∷ v) (members_same n nexts (set nexts last first) first (λ y i. get_or-set_other nexts last y first 0 (λ e. let R : ℕ → Type 0 = λ v. In v (members n nexts first) in apart (subst R e i)))) in
    subst Q one first_one
members_joined (suc m) n nexts x first last distinct is within apart =
    let z = get_or nexts x 0 in
    let not_x : x ≡ last → ⊥ = λ e. members_joined_step m n nexts x first distinct (sym is ∙ sym e) in
    let next : get_or (set nexts last first) x 0 ≡ z = get_or-set_other nexts last x first 0 not_x in
    let rest = members_joined m n nexts z first last distinct.1 is within apart in
    let Q : ℕ → Type 0 = λ v. members v (set nexts last first) x ≡ x ∷ members (suc m) nexts z ++ members n nexts first in
    let one : suc (suc m + n) ≡ suc (suc m) + n = omega arith in
    subst Q one (ap (λ v. x ∷ members (suc m + n) (set nexts last first) v) next ∙ ap (λ v. x ∷ v) rest)

-- links written member by member
pub with_links_nil : (shift : ℕ) (nexts : List ℕ) → with_links shift [] nexts ≡ nexts
unfolding with_links
with_links_nil shift nexts = refl

links_two : (shift n : ℕ) (nexts now : List ℕ) (x y : ℕ) → 0 < n → with_links shift (x ∷ members n nexts y) now ≡ with_links shift (members n nexts y) (set now (x + shift) (y + shift))
unfolding with_links
links_two shift zero nexts now x y h = absurd (omega arith)
links_two shift (suc n) nexts now x y h = refl

links_one : (shift n : ℕ) (nexts now : List ℕ) (x y : ℕ) → n ≤ 0 → with_links shift (x ∷ members n nexts y) now ≡ with_links shift (members n nexts y) now
unfolding with_links
links_one shift zero nexts now x y h = refl
links_one shift (suc n) nexts now x y h = absurd (omega arith)

pub with_links_more : (shift left : ℕ) (nexts now : List ℕ) (x : ℕ) → 0 < left - 1
    → with_links shift (members left nexts x) now ≡ with_links shift (members (left - 1) nexts (get_or nexts x 0)) (set now (x + shift) (get_or nexts x 0 + shift))
with_links_more shift left nexts now x h =
    ap (λ v. with_links shift v now) (members_more left nexts x (omega arith)) ∙ links_two shift (left - 1) nexts now x (get_or nexts x 0) h

pub with_links_last : (shift left : ℕ) (nexts now : List ℕ) (x : ℕ) → 0 < left → left - 1 ≤ 0
    → with_links shift (members left nexts x) now ≡ with_links shift (members (left - 1) nexts (get_or nexts x 0)) now
with_links_last shift left nexts now x h g =
    ap (λ v. with_links shift v now) (members_more left nexts x h) ∙ links_one shift (left - 1) nexts now x (get_or nexts x 0) g

pub length-with_links : (shift : ℕ) (xs nexts : List ℕ) → length (with_links shift xs nexts) ≡ length nexts
unfolding with_links
length-with_links shift [] nexts = refl
length-with_links shift (x ∷ []) nexts = refl
length-with_links shift (x ∷ y ∷ ys) nexts = length-with_links shift (y ∷ ys) (set nexts (x + shift) (y + shift)) ∙ length-set nexts (x + shift) (y + shift)

pub with_links_other : (shift : ℕ) (xs nexts : List ℕ) (j : ℕ) → ((x : ℕ) → In x xs → j ≡ x + shift → ⊥) → get_or (with_links shift xs nexts) j 0 ≡ get_or nexts j 0
unfolding with_links
with_links_other shift [] nexts j apart = refl
with_links_other shift (x ∷ []) nexts j apart = refl
with_links_other shift (x ∷ y ∷ ys) nexts j apart =
    with_links_other shift (y ∷ ys) (set nexts (x + shift) (y + shift)) j (λ z i. apart z (inr i))
    ∙ get_or-set_other nexts (x + shift) j (y + shift) 0 (apart x (inl refl))

-- the second halves are linked as the first halves are
pub members_shifted : (shift n : ℕ) (nexts now : List ℕ) (x : ℕ) → Distinct (members n nexts x)
    → ((y : ℕ) → In y (members n nexts x) → y + shift < length now)
    → members n (with_links shift (members n nexts x) now) (x + shift) ≡ map (λ y. y + shift) (members n nexts x)
unfolding with_links
members_shifted shift zero nexts now x distinct within = refl
members_shifted shift (suc zero) nexts now x distinct within = refl
members_shifted shift (suc (suc n)) nexts now x distinct within =
    let y = get_or nexts x 0 in
    let there = set now (x + shift) (y + shift) in
    let links = with_links shift (members (suc n) nexts y) there in
    let next : get_or links (x + shift) 0 ≡ y + shift =
    with_links_other shift (members (suc n) nexts y) there (x + shift) (λ z i e. let P : ℕ → Type 0 = λ v. In v (members (suc n) nexts y) in let f : z ≡ x = omega arith in distinct.0 (subst P f i))
    ∙ get_or-set_same now (x + shift) (y + shift) 0 (within x (inl refl)) in
    let long : length there ≡ length now = length-set now (x + shift) (y + shift) in
    ap (λ v. (x + shift) ∷ members (suc n) links v) next
    ∙ ap (λ v. (x + shift) ∷ v) (members_shifted shift (suc n) nexts there y distinct.1 (λ z i. let w : z + shift < length now = within z (inr i) in omega arith))

pub members_head : (n : ℕ) (nexts : List ℕ) (x : ℕ) → 0 < n → slice_get (members n nexts x) 0 ≡ Some x
members_head zero nexts x h = absurd (omega arith)
members_head (suc n) nexts x h = refl
