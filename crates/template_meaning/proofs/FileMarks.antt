-- The lists of a file: each stands in one run, with the marks that it has there in each processing; so they are nested.
use Rattle.std.proofs.Common.{◌≡◌, ℕ, zero, suc, ◌+◌, ◌<◌, ◌≤◌, inl, inr, Bool, true, false, List, [], ◌∷◌, length, map, Some, refl, ap, subst, ◌∙◌, arith}
use Rattle.std.specs.Prelude.{slice_get, nat_lt}
use Rattle.std.proofs.lemmas.Bool.{ltb-true, ltb-false}
use Rattle.std.proofs.lemmas.Option.{same_Some}
use Rattle.line_shape.specs.declared.items.Item.{Item}
use Rattle.line_shape.specs.Items.{Follow}
use Rattle.source_files.specs.Files.{SourceFile}
use Rattle.reordered_text_laws.specs.Marks.{first_of, last_after, last_of, Each, StandFrom, AreOfList, StandBy, AreNested}
use Rattle.reordered_text_laws.specs.Trees.{IsAmong}
use Rattle.reordered_text_laws.proofs.PartMarks.{later_by, each_among, Rises}
use Rattle.unit_laws.specs.Files.{items_at}
use Rattle.line_shape.proofs.CoverLemmas.{Follow-items_of}

-- ---- items of a file

pub ends_from : (from to : ℕ) (items : List Item) → Follow from to items → (i : ℕ) (x : Item) → slice_get items i ≡ Some x → (from ≤ x.from) × (x.from ≤ x.to)
ends_from from to [] f i x e = absurd (cc)
ends_from from to (y ∷ items) f zero x e =
    let a = f.0 in
    let b = f.1 in
    let ok : y.from ≤ y.to = omega (arith, a, b) in
    subst (λ (z : Item). (from ≤ z.from) × (z.from ≤ z.to)) (same_Some y x e) (omega (arith, a), ok)
ends_from from to (y ∷ items) f (suc i) x e =
    let r = ends_from y.to to items f.2 i x e in
    let low = r.0 in
    let b = f.1 in
    (omega (arith, low, b), r.1)

pub one_behind : (from to : ℕ) (items : List Item) → Follow from to items → (i j : ℕ) (x y : Item) → i < j → slice_get items i ≡ Some x → slice_get items j ≡ Some y → x.to ≤ y.from
one_behind from to [] f i j x y lt e g = absurd (cc)
one_behind from to (z ∷ items) f zero zero x y lt e g = absurd (omega (arith, lt))
one_behind from to (z ∷ items) f zero (suc j) x y lt e g =
    let r = ends_from z.to to items f.2 j y g in
    let low = r.0 in
    let same = ap (λ (w : Item). w.to) (same_Some z x e) in
    omega (arith, low, same)
one_behind from to (z ∷ items) f (suc i) zero x y lt e g = absurd (omega (arith, lt))
one_behind from to (z ∷ items) f (suc i) (suc j) x y lt e g = one_behind z.to to items f.2 i j x y (omega (arith, lt)) e g

-- two items with one token are one
pub one_item : (file : SourceFile) (i j : ℕ) (x y : Item) (m : ℕ) → slice_get (items_at file.text) i ≡ Some x → slice_get (items_at file.text) j ≡ Some y → x.from ≤ m → m < x.to → y.from ≤ m → m < y.to → i ≡ j
one_item file i j x y m e g a b c d = by (nat_lt i j) refl (nat_lt j i) refl
  where
    follow : Follow 0 (length file.text.toks) (items_at file.text)
    follow = Follow-items_of file.text.toks file.text.firsts

    by : (p : Bool) → nat_lt i j ≡ p → (q : Bool) → nat_lt j i ≡ q → i ≡ j
    by true f q k = let le = one_behind 0 (length file.text.toks) (items_at file.text) follow i j x y (ltb-true i j f) e g in absurd (omega (arith, le, b, c))
    by false f true k = let le = one_behind 0 (length file.text.toks) (items_at file.text) follow j i y x (ltb-true j i k) g e in absurd (omega (arith, le, a, d))
    by false f false k =
        let ge = ltb-false i j f in
        let ge2 = ltb-false j i k in
        omega (arith, ge, ge2)

pub apart_items : (file : SourceFile) (i j : ℕ) (x y : Item) (m n : ℕ) → slice_get (items_at file.text) i ≡ Some x → slice_get (items_at file.text) j ≡ Some y → (i ≡ j → ⊥) → x.from ≤ m → m < x.to → y.from ≤ n → n < y.to → m < n
    → x.to ≤ y.from
apart_items file i j x y m n e g apart a b c d lt = by (nat_lt i j) refl (nat_lt j i) refl
  where
    follow : Follow 0 (length file.text.toks) (items_at file.text)
    follow = Follow-items_of file.text.toks file.text.firsts

    by : (p : Bool) → nat_lt i j ≡ p → (q : Bool) → nat_lt j i ≡ q → x.to ≤ y.from
    by true f q k = one_behind 0 (length file.text.toks) (items_at file.text) follow i j x y (ltb-true i j f) e g
    by false f true k = let le = one_behind 0 (length file.text.toks) (items_at file.text) follow j i y x (ltb-true j i k) g e in absurd (omega (arith, le, a, d, lt))
    by false f false k =
        let ge = ltb-false i j f in
        let ge2 = ltb-false j i k in
        absurd (apart (omega (arith, ge, ge2)))

-- ---- marks

-- of marks that are there
pub first_shift : (limit p : ℕ) (l : List ℕ) → AreOfList limit l → first_of (later_by p l) ≡ p + first_of l
first_shift limit p [] w = absurd w
first_shift limit p (m ∷ ms) w = refl

last_shift_on : (p m : ℕ) (ms : List ℕ) → last_after (p + m) (later_by p ms) ≡ p + last_after m ms
last_shift_on p m [] = refl
last_shift_on p m (k ∷ ms) = last_shift_on p k ms

pub last_shift : (limit p : ℕ) (l : List ℕ) → AreOfList limit l → last_of (later_by p l) ≡ p + last_of l
last_shift limit p [] w = absurd w
last_shift limit p (m ∷ ms) w = last_shift_on p m ms

stand_shift : (p from : ℕ) (ms : List ℕ) → StandFrom from ms → StandFrom (p + from) (later_by p ms)
stand_shift p from [] h = tt
stand_shift p from (m ∷ ms) h =
    let low = h.0 in
    let next : p + (m + 1) ≡ p + m + 1 = omega arith in
    (omega (arith, low), subst (λ (i : ℕ). StandFrom i (later_by p ms)) next (stand_shift p (m + 1) ms h.1))

stand_lower : (from from2 : ℕ) (ms : List ℕ) → from ≤ from2 → StandFrom from2 ms → StandFrom from ms
stand_lower from from2 [] le h = tt
stand_lower from from2 (m ∷ ms) le h = let low = h.0 in (omega (arith, le, low), h.1)

pub list_shift : (limit p limit2 : ℕ) (l : List ℕ) → p + limit ≤ limit2 → AreOfList limit l → AreOfList limit2 (later_by p l)
list_shift limit p limit2 [] le w = absurd w
list_shift limit p limit2 (m ∷ []) le w = absurd w
list_shift limit p limit2 (m ∷ k ∷ ms) le w =
    let far = w.1 in
    let same = last_shift_on p k ms in
    (stand_lower 0 (p + 0) (later_by p (m ∷ k ∷ ms)) (omega arith) (stand_shift p 0 (m ∷ k ∷ ms) w.0), omega (arith, far, same, le))

pub by_shift : (p : ℕ) (l other : List ℕ) (limit : ℕ) → AreOfList limit other → StandBy l other → StandBy (later_by p l) (later_by p other)
by_shift p [] other limit w h = absurd h
by_shift p (m ∷ []) other limit w h = let one = first_shift limit p other w in omega (arith, h, one)
by_shift p (m ∷ k ∷ ms) other limit w (inl h) =
    let one = first_shift limit p other w in
    let two_ = last_shift limit p other w in
    let a = h.0 in
    let b = h.1 in
    inl (omega (arith, a, one), omega (arith, b, two_))
by_shift p (m ∷ k ∷ ms) other limit w (inr h) = inr (by_shift p (k ∷ ms) other limit w h)

-- of two of some nested lists, the one that begins first stands around the other, or in front of it
pub stand_of : (xs : List (List ℕ)) → AreNested xs → Rises xs → (s t : List ℕ) → IsAmong xs s → IsAmong xs t → first_of s < first_of t → StandBy s t
stand_of [] n r s t i j lt = absurd i
stand_of (x ∷ xs) n r s t (inl a) (inl b) lt =
    let p = ap first_of a in
    let q = ap first_of b in
    absurd (omega (arith, p, q, lt))
stand_of (x ∷ xs) n r s t (inl a) (inr j) lt = subst (λ (l : List ℕ). StandBy l t) a (each_among (StandBy x) xs t n.0 j)
stand_of (x ∷ xs) n r s t (inr i) (inl b) lt =
    let p = each_among (λ m. first_of x < first_of m) xs s r.0 i in
    let q = ap first_of b in
    absurd (omega (arith, p, q, lt))
stand_of (x ∷ xs) n r s t (inr i) (inr j) lt = stand_of xs n.1 r.1 s t i j lt

shift_one : (p m n : ℕ) → p + m ≡ p + n → m ≡ n
shift_one p m n e = omega (arith, e)

pub later_one : (p : ℕ) (l m : List ℕ) → later_by p l ≡ later_by p m → l ≡ m
later_one p [] [] e = refl
later_one p [] (k ∷ ms) e = absurd (cc)
later_one p (k ∷ ms) [] e = absurd (cc)
later_one p (k ∷ ms) (j ∷ ns) e =
    let here : p + k ≡ p + j = cc in
    let rest : later_by p ms ≡ later_by p ns = cc in
    ap (λ (x : ℕ). x ∷ ms) (shift_one p k j here) ∙ ap (λ (xs : List ℕ). j ∷ xs) (later_one p ms ns rest)

pub all_one : (p : ℕ) (xs ys : List (List ℕ)) → map (later_by p) xs ≡ map (later_by p) ys → xs ≡ ys
all_one p [] [] e = refl
all_one p [] (y ∷ ys) e = absurd (cc)
all_one p (x ∷ xs) [] e = absurd (cc)
all_one p (x ∷ xs) (y ∷ ys) e =
    let here : later_by p x ≡ later_by p y = cc in
    let rest : map (later_by p) xs ≡ map (later_by p) ys = cc in
    ap (λ (z : List ℕ). z ∷ xs) (later_one p x y here) ∙ ap (λ (zs : List (List ℕ)). y ∷ zs) (all_one p xs ys rest)

pub rises_shift : (p limit : ℕ) (xs : List (List ℕ)) → Each (AreOfList limit) xs → Rises xs → Rises (map (later_by p) xs)
rises_shift p limit [] w r = tt
rises_shift p limit (x ∷ xs) w r = (each xs w.1 r.0, rises_shift p limit xs w.1 r.1)
  where
    each : (ys : List (List ℕ)) → Each (AreOfList limit) ys → Each (λ m. first_of x < first_of m) ys → Each (λ m. first_of (later_by p x) < first_of m) (map (later_by p) ys)
    each [] v h = tt
    each (y ∷ ys) v h =
        let lt = h.0 in
        let one = first_shift limit p x w.0 in
        let two_ = first_shift limit p y v.0 in
        (omega (arith, lt, one, two_), each ys v.1 h.1)
