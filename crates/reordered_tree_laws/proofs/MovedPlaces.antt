-- Where the tokens of a text go whose lists are in a new order: they go apart, and those of the tree one after another.
use Rattle.std.proofs.Common.{ℕ, zero, suc, ◌+◌, ◌<◌, ◌≤◌, ◌≡◌, Bool, true, false, not, cond, if◌then◌else◌, ◌==◌, List, [], ◌∷◌, ◌++◌, length, map, get_or, Some, None, inl, inr, refl, sym, ap, ◌∙◌, arith, length-append, append_assoc, append-nil}
use Rattle.std.specs.List.{prefix_len}
use Rattle.std.specs.Prelude.{sum_by, nat_lt, position, unwrap_or, IsPermutation}
use Rattle.std.proofs.lemmas.Bool.{cases_Bool, eqb-true, eqb-false, eq-eqb, ltb-true, ltb-false, lt-ltb, le-ltb}
use Rattle.std.proofs.lemmas.List.{length-map, get_or-map}
use Rattle.std.proofs.lemmas.List.Sums.{sum_by-cons}
use Rattle.std.proofs.lemmas.List.Sorted.{sum_by-IsPermutation, length_permutation}
use Rattle.cs_base.specs.Token.{Token}
use Rattle.c99_tree.specs.Tree.{Forest, none, token, node, Node}
use Rattle.c_types.specs.Declarations.{spelling_at}
use Rattle.tree_laws.specs.TreesOfTexts.{token_count, AreFrom, IsTreeOf}
use Rattle.list_cuts.specs.Cuts.{Cut, numbers, IsOrder, AreOf, arranged, moved}
use Rattle.list_cuts.proofs.OrderLemmas.{length-numbers}
use Rattle.list_cuts.proofs.CutLemmas.{arranged-map, arranged_permutes}
use Rattle.reordered_tree_laws.specs.Reordered.{permuted, leaves}
use Rattle.reordered_tree_laws.specs.Cuts.{cut_in}
use Rattle.scope_bind.specs.Moved.{AreMovedTexts}
use Rattle.reordered_tree_laws.specs.Moving.{AreMovedTo}
use Rattle.reordered_tree_laws.proofs.Arranged.{length-leaves}
use Rattle.reordered_tree_laws.proofs.SameForms.{arranged_leaves}

-- ---- How often a number stands in a list

abbrev pub bit : Bool → ℕ
bit true = 1
bit false = 0

abbrev pub hit : ℕ → ℕ → ℕ
hit x y = bit (y == x)

abbrev pub hits : ℕ → List ℕ → ℕ
hits x [] = 0
hits x (y ∷ ys) = hit x y + hits x ys

pub hits-sum : (x : ℕ) (ys : List ℕ) → hits x ys ≡ sum_by (hit x) ys
hits-sum x [] = refl
hits-sum x (y ∷ ys) = ap (λ (n : ℕ). hit x y + n) (hits-sum x ys) ∙ sym (sum_by-cons (hit x) y ys)

pub hits-append : (x : ℕ) (ys zs : List ℕ) → hits x (ys ++ zs) ≡ hits x ys + hits x zs
hits-append x [] zs = omega arith
hits-append x (y ∷ ys) zs = omega (arith, hits-append x ys zs)

hit-self : (x : ℕ) → hit x x ≡ 1
hit-self x = ap bit (eq-eqb x x refl)

hit-other : (x y : ℕ) → (y == x) ≡ false → hit x y ≡ 0
hit-other x y e = ap bit e

hit-some : (x y : ℕ) → hit x y ≡ 0 → (y == x) ≡ false
hit-some x y e = by (y == x) e
  where
    by : (c : Bool) → bit c ≡ 0 → c ≡ false
    by true e = absurd (omega (arith, e))
    by false e = refl

-- a number stands once among those from one on, or not at all
pub hits-before : (n from x : ℕ) → x < from → hits x (numbers from n) ≡ 0
unfolding numbers
hits-before zero from x less = refl
hits-before (suc n) from x less =
    let other : (from == x) ≡ false = ne (from == x) (eqb-true from x) in
    omega (arith, hit-other x from other, hits-before n (from + 1) x (omega (arith, less)))
  where
    ne : (c : Bool) → (c ≡ true → from ≡ x) → c ≡ false
    ne true f = absurd (omega (arith, f refl, less))
    ne false f = refl

pub hits-once : (n from x : ℕ) → from ≤ x → x < from + n → hits x (numbers from n) ≡ 1
unfolding numbers
hits-once zero from x low high = absurd (omega (arith, low, high))
hits-once (suc n) from x low high = elim (cases_Bool (from == x)) [
  | inl e ↦
      let same : from ≡ x = eqb-true from x e in
      omega (arith, ap bit e, hits-before n (from + 1) x (omega (arith, same)))
  | inr e ↦
      let apart = eqb-false from x e in
      omega (arith, ap bit e, hits-once n (from + 1) x (omega (arith, low, apart)) (omega (arith, high)))
]

pub hits-behind : (n from x : ℕ) → from + n ≤ x → hits x (numbers from n) ≡ 0
unfolding numbers
hits-behind zero from x high = refl
hits-behind (suc n) from x high = elim (cases_Bool (from == x)) [
  | inl e ↦ absurd (omega (arith, eqb-true from x e, high))
  | inr e ↦ omega (arith, ap bit e, hits-behind n (from + 1) x (omega (arith, high)))
]

-- ---- Where it stands first

abbrev place_in : ℕ → List ℕ → ℕ
place_in x ys = prefix_len (λ y. not (y == x)) ys

place-step : (c : Bool) (p : ℕ) → cond (not c) (1 + p) 0 ≡ (if c then 0 else 1 + p)
place-step true p = refl
place-step false p = refl

place-front : (x : ℕ) (pre more : List ℕ) → hits x pre ≡ 0 → place_in x (pre ++ x ∷ more) ≡ length pre
place-front x [] more e = place-step (x == x) (place_in x more) ∙ ap (λ c. if c then 0 else 1 + place_in x more) (eq-eqb x x refl)
place-front x (y ∷ pre) more e =
    let other : (y == x) ≡ false = hit-some x y (omega (arith, e)) in
    place-step (y == x) (place_in x (pre ++ x ∷ more))
    ∙ (ap (λ c. if c then 0 else 1 + place_in x (pre ++ x ∷ more)) other ∙ omega (arith, place-front x pre more (omega (arith, e))))

record IsPlaced (x : ℕ) (ys : List ℕ) : Type 0 where
  within : place_in x ys < length ys
  there : get_or ys (place_in x ys) 0 ≡ x

placed-some : (x : ℕ) (ys : List ℕ) → 1 ≤ hits x ys → IsPlaced x ys
placed-some x [] e = absurd (omega (arith, e))
placed-some x (y ∷ ys) e = elim (cases_Bool (y == x)) [
  | inl same ↦
      let none : place_in x (y ∷ ys) ≡ 0 = place-step (y == x) (place_in x ys) ∙ ap (λ c. if c then 0 else 1 + place_in x ys) same in
      record { within = omega (arith, none); there = ap (λ (k : ℕ). get_or (y ∷ ys) k 0) none ∙ eqb-true y x same }
  | inr other ↦
      let next : place_in x (y ∷ ys) ≡ 1 + place_in x ys = place-step (y == x) (place_in x ys) ∙ ap (λ c. if c then 0 else 1 + place_in x ys) other in
      let more : IsPlaced x ys = placed-some x ys (omega (arith, e, hit-other x y other)) in
      let after : place_in x (y ∷ ys) ≡ suc (place_in x ys) = omega (arith, next) in
      record { within = omega (arith, next, more.within); there = ap (λ (k : ℕ). get_or (y ∷ ys) k 0) after ∙ more.there }
]

placed-none : (x : ℕ) (ys : List ℕ) → hits x ys ≡ 0 → place_in x ys ≡ length ys
placed-none x [] e = refl
placed-none x (y ∷ ys) e =
    place-step (y == x) (place_in x ys)
    ∙ (ap (λ c. if c then 0 else 1 + place_in x ys) (hit-some x y (omega (arith, e))) ∙ omega (arith, placed-none x ys (omega (arith, e))))

abbrev place_of : List ℕ → ℕ → ℕ
place_of ys i = unwrap_or (position (λ k. k == i) ys) i

of-some : (ys : List ℕ) (x : ℕ) → place_in x ys < length ys → place_of ys x ≡ place_in x ys
of-some ys x less = ap (λ (c : Bool). unwrap_or (cond c (Some (place_in x ys)) None) x) (lt-ltb (place_in x ys) (length ys) less)

of-none : (ys : List ℕ) (x : ℕ) → hits x ys ≡ 0 → place_of ys x ≡ x
of-none ys x e =
    ap (λ (c : Bool). unwrap_or (cond c (Some (place_in x ys)) None) x) (le-ltb (place_in x ys) (length ys) (omega (arith, placed-none x ys e)))

-- ---- The tokens of a text

texts-at : (toks : List Token) (k : ℕ) → spelling_at toks k ≡ get_or (map (λ (t : Token). t.text) toks) k []
texts-at [] k = refl
texts-at (t ∷ toks) zero = refl
texts-at (t ∷ toks) (suc k) = texts-at toks k

texts-numbered : (front toks : List Token) → map (λ (t : Token). t.text) toks ≡ map (λ k. get_or (map (λ (t : Token). t.text) (front ++ toks)) k []) (numbers (length front) (length toks))
unfolding numbers
texts-numbered front [] = refl
texts-numbered front (t ∷ toks) =
    let text : Token → List ℕ = λ (x : Token). x.text in
    let all : List (List ℕ) = map text (front ++ t ∷ toks) in
    let here : get_or all (length front) [] ≡ t.text = at front in
    let next : front ++ t ∷ toks ≡ (front ++ t ∷ []) ++ toks = sym (append_assoc front (t ∷ []) toks) in
    let one : length (front ++ t ∷ []) ≡ length front + 1 = length-append front (t ∷ []) in
    ap (λ (x : List ℕ). x ∷ map text toks) (sym here)
    ∙ ap (λ (xs : List (List ℕ)). get_or all (length front) [] ∷ xs)
    (texts-numbered (front ++ t ∷ []) toks
    ∙ (ap (λ (xs : List Token). map (λ k. get_or (map text xs) k []) (numbers (length (front ++ t ∷ [])) (length toks))) (sym next)
    ∙ ap (λ (n : ℕ). map (λ k. get_or all k []) (numbers n (length toks))) one))
  where
    at : (xs : List Token) → get_or (map (λ (x : Token). x.text) (xs ++ t ∷ toks)) (length xs) [] ≡ t.text
    at [] = refl
    at (x ∷ xs) = at xs

module _ (n : ℕ) (order : List ℕ) (c : Cut) (is : IsOrder (length order) order) (each : AreOf (length order) c) where
  abbrev all : List ℕ
  all = arranged order c (numbers 0 n)

  abbrev m : ℕ → ℕ
  m i = moved order c n i

  permutes : IsPermutation (numbers 0 n) all
  permutes = arranged_permutes (length order) order c (numbers 0 n) is each

  long : length all ≡ n
  long = length_permutation (numbers 0 n) all permutes ∙ length-numbers n 0

  hits-all : (x : ℕ) → hits x all ≡ hits x (numbers 0 n)
  hits-all x = hits-sum x all ∙ (sum_by-IsPermutation (hit x) (numbers 0 n) all permutes ∙ sym (hits-sum x (numbers 0 n)))

  within : (x : ℕ) → x < n → IsPlaced x all
  within x less = placed-some x all (omega (arith, hits-all x, hits-once n 0 x (omega arith) (omega (arith, less))))

  pub moved-within : (x : ℕ) → x < n → (m x < n) × (get_or all (m x) 0 ≡ x)
  moved-within x less =
      let w : IsPlaced x all = within x less in
      let e : m x ≡ place_in x all = of-some all x w.within in
      (omega (arith, e, w.within, long), ap (λ (k : ℕ). get_or all k 0) e ∙ w.there)

  pub moved-beyond : (x : ℕ) → n ≤ x → m x ≡ x
  moved-beyond x more = of-none all x (hits-all x ∙ hits-behind n 0 x (omega (arith, more)))

  moved-apart : (i j : ℕ) → m i ≡ m j → i ≡ j
  moved-apart i j e = elim (cases_Bool (nat_lt i n)) [
    | inl a ↦ elim (cases_Bool (nat_lt j n)) [
      | inl b ↦
          let x = moved-within i (ltb-true i n a) in
          let y = moved-within j (ltb-true j n b) in
          sym x.1 ∙ (ap (λ (k : ℕ). get_or all k 0) e ∙ y.1)
      | inr b ↦ absurd (omega (arith, e, (moved-within i (ltb-true i n a)).0, moved-beyond j (ltb-false j n b), ltb-false j n b))
    ]
    | inr a ↦ elim (cases_Bool (nat_lt j n)) [
      | inl b ↦ absurd (omega (arith, e, (moved-within j (ltb-true j n b)).0, moved-beyond i (ltb-false i n a), ltb-false i n a))
      | inr b ↦ sym (moved-beyond i (ltb-false i n a)) ∙ (e ∙ moved-beyond j (ltb-false j n b))
    ]
  ]

  -- tokens of a part go to places one after another
  part-moved : (f : Forest) (pre post : List ℕ) (there : ℕ) → all ≡ pre ++ (leaves f ++ post) → length pre ≡ there → AreMovedTo m there f
  part-moved none pre post there e h = tt
  part-moved (token i rest) pre post there e h =
      let less : hits i all ≤ 1 = at_most i in
      let count : hits i all ≡ hits i pre + (hit i i + hits i (leaves rest ++ post)) = ap (hits i) e ∙ hits-append i pre (i ∷ (leaves rest ++ post)) in
      let front : hits i pre ≡ 0 = omega (arith, less, count, hit-self i) in
      let place : place_in i all ≡ length pre = ap (place_in i) e ∙ place-front i pre (leaves rest ++ post) front in
      let size : length all ≡ length pre + (1 + length (leaves rest ++ post)) = ap (λ (xs : List ℕ). length xs) e ∙ length-append pre (i ∷ (leaves rest ++ post)) ∙ omega arith in
      let here : m i ≡ place_in i all = of-some all i (omega (arith, place, size)) in (
        omega (arith, here, place, h),
        part-moved rest (pre ++ i ∷ []) post (there + 1) (e ∙ sym (append_assoc pre (i ∷ []) (leaves rest ++ post))) (omega (arith, length-append pre (i ∷ []), h)),
      )
    where
      at_most : (x : ℕ) → hits x all ≤ 1
      at_most x = elim (cases_Bool (nat_lt x n)) [
        | inl a ↦ omega (arith, hits-all x, hits-once n 0 x (omega arith) (omega (arith, ltb-true x n a)))
        | inr a ↦ omega (arith, hits-all x, hits-behind n 0 x (omega (arith, ltb-false x n a)))
      ]
  part-moved (node l first under rest) pre post there e h = (
    part-moved under pre (leaves rest ++ post) there (e ∙ ap (λ (xs : List ℕ). pre ++ xs) (append_assoc (leaves under) (leaves rest) post)) h,
    part-moved rest (pre ++ leaves under) post (there + token_count under)
        (e ∙ (ap (λ (xs : List ℕ). pre ++ xs) (append_assoc (leaves under) (leaves rest) post) ∙ sym (append_assoc pre (leaves under) (leaves rest ++ post))))
        (omega (arith, length-append pre (leaves under), length-leaves under, h)),
  )

-- the leaves of a tree of a text are the numbers of its tokens
pub leaves-numbers : (f : Forest) (k : ℕ) (post : List ℕ) (more : ℕ) → AreFrom k f → post ≡ numbers (k + token_count f) more → leaves f ++ post ≡ numbers k (token_count f + more)
unfolding numbers
leaves-numbers none k post more a e = e ∙ ap (λ (x : ℕ). numbers x more) (omega arith) ∙ ap (numbers k) (omega arith)
leaves-numbers (token i rest) k post more a e =
    let next : leaves rest ++ post ≡ numbers (k + 1) (token_count rest + more) =
    leaves-numbers rest (k + 1) post more a.1 (e ∙ ap (λ (x : ℕ). numbers x more) (omega arith)) in
    let one : token_count rest + 1 + more ≡ suc (token_count rest + more) = omega arith in
    ap (λ (xs : List ℕ). i ∷ xs) next ∙ (ap (λ (x : ℕ). x ∷ numbers (k + 1) (token_count rest + more)) a.0 ∙ ap (numbers k) (sym one))
leaves-numbers (node l first under rest) k post more a e =
    let last : leaves rest ++ post ≡ numbers (k + token_count under) (token_count rest + more) =
    leaves-numbers rest (k + token_count under) post more a.2 (e ∙ ap (λ (x : ℕ). numbers x more) (omega arith)) in
    append_assoc (leaves under) (leaves rest) post
    ∙ (leaves-numbers under k (leaves rest ++ post) (token_count rest + more) a.1 last ∙ ap (numbers k) (omega arith))

pub tokens_moved : (order : List ℕ) (lists : ℕ → Bool) (tree : Node) (n : ℕ) → IsOrder (length order) order → AreOf (length order) (cut_in lists tree)
    → IsTreeOf n tree → AreMovedTo (moved order (cut_in lists tree) n) 0 (permuted order lists false tree.under)
unfolding numbers
tokens_moved order lists tree n is each of =
    let f : Forest = tree.under in
    let g : Forest = permuted order lists false f in
    let numbered : leaves f ≡ numbers 0 n =
    sym (append-nil (leaves f)) ∙ (leaves-numbers f 0 [] 0 of.tokens refl ∙ ap (numbers 0) (omega (arith, of.all))) in
    let all_leaves : arranged order (cut_in lists tree) (numbers 0 n) ≡ [] ++ (leaves g ++ []) =
    ap (λ (xs : List ℕ). arranged order (cut_in lists tree) xs) (sym numbered) ∙ (sym (arranged_leaves order lists tree each) ∙ sym (append-nil (leaves g))) in
    part-moved n order (cut_in lists tree) is each g [] [] 0 all_leaves refl

-- a token is spelled at its new place as it was
pub texts_spelled : (order : List ℕ) (c : Cut) (old new : List Token) → IsOrder (length order) order → AreOf (length order) c
    → map (λ (t : Token). t.text) new ≡ arranged order c (map (λ (t : Token). t.text) old) → (k : ℕ)
    → spelling_at new (moved order c (length old) k) ≡ spelling_at old k
texts_spelled order c old new is each same k =
    let n : ℕ = length old in
    let text : Token → List ℕ = λ (t : Token). t.text in
    let h : ℕ → List ℕ = λ i. get_or (map text old) i [] in
    let images : map text new ≡ map h (all n order c is each) =
    same ∙ (ap (λ (xs : List (List ℕ)). arranged order c xs) (texts-numbered [] old) ∙ arranged-map h order c (numbers 0 n)) in
    let size : length new ≡ n =
    sym (length-map new text) ∙ (ap (λ (xs : List (List ℕ)). length xs) images ∙ (length-map (all n order c is each) h ∙ long n order c is each)) in
    elim (cases_Bool (nat_lt k n)) [
      | inl a ↦
          let w = moved-within n order c is each k (ltb-true k n a) in
          texts-at new (m n order c is each k)
          ∙ (ap (λ (xs : List (List ℕ)). get_or xs (m n order c is each k) []) images
          ∙ (get_or-map h (all n order c is each) (m n order c is each k) 0 [] (omega (arith, w.0, long n order c is each))
          ∙ (ap h w.1 ∙ sym (texts-at old k))))
      | inr a ↦
          let stays : m n order c is each k ≡ k = moved-beyond n order c is each k (ltb-false k n a) in
          ap (spelling_at new) stays ∙ (beyond new k (omega (arith, size, ltb-false k n a)) ∙ sym (beyond old k (ltb-false k n a)))
    ]
  where
    beyond : (toks : List Token) (k : ℕ) → length toks ≤ k → spelling_at toks k ≡ []
    beyond [] k less = refl
    beyond (t ∷ toks) zero less = absurd (omega (arith, less))
    beyond (t ∷ toks) (suc k) less = beyond toks k (omega (arith, less))

pub texts_moved : (order : List ℕ) (c : Cut) (old new : List Token) → IsOrder (length order) order → AreOf (length order) c
    → map (λ (t : Token). t.text) new ≡ arranged order c (map (λ (t : Token). t.text) old) → moved order c (length old) 0 ≡ 0
    → AreMovedTexts (moved order c (length old)) old new
texts_moved order c old new is each same zero_stays =
    record { first = zero_stays; apart = moved-apart (length old) order c is each; spelled = texts_spelled order c old new is each same }
