-- Names that are found by their spellings, and parts of hide sets.
use Rattle.std.proofs.Common.{◌≡◌, ℕ, ◌+◌, ◌-◌, ◌<◌, List, [], ◌∷◌, ◌++◌, ◌||◌, Bool, true, false, not, length, map, take, drop, get_or, zero, suc, refl, ap, sym, subst, ◌∙◌, append_assoc, length-drop, arith, inl, inr}
use Rattle.std.specs.Bool.{MatchBool}
use Rattle.std.specs.List.{flat_map, list_any}
use Rattle.std.specs.List.Sorted.{IsPermutation}
use Rattle.std.specs.Str.{bytes_eq}
use Rattle.std.proofs.lemmas.Bool.{cases_Bool, false≢true}
use Rattle.std.proofs.lemmas.Grind.{flat_map-append}
use Rattle.std.proofs.Math.Bool.{or-true}
use Rattle.std.proofs.lemmas.List.{take_more, take_all, map-append, append-nil, take-append-drop}
use Rattle.std.proofs.lemmas.List.Folds.{list_any-append}
use Rattle.std.proofs.lemmas.List.Sorted.{list_any-IsPermutation}
use Rattle.cs_base.specs.Token.{Token}
use Rattle.cs_base.proofs.BoolLemmas.{or-false}
use Rattle.cs_base.proofs.FileMapLemmas.{bytes_eq-equal, bytes_eq-same}
use Rattle.line_shape.specs.MacroLine.{spellings}
use Rattle.macro_body.specs.Hides.{hides_name, lacking}

-- ---- names that are known

-- a list with a key: one more, or as it was where it had one that is equal to it
with_key : {K : Type 0} (spelling : K → List ℕ) (old new : List K) (key : K) (added : Bool)
    → added ≡ not (list_any (λ k. bytes_eq (spelling key) (spelling k)) old) → MatchBool added (IsPermutation (key ∷ old) new) (new ≡ old)
    → (name : List ℕ) → list_any (λ k. bytes_eq name (spelling k)) new ≡ (bytes_eq name (spelling key) || list_any (λ k. bytes_eq name (spelling k)) old)
with_key spelling old new key true was is name = sym (list_any-IsPermutation (λ k. bytes_eq name (spelling k)) (key ∷ old) new is)
with_key {K = K} spelling old new key false was is name =
    ap (list_any (λ k. bytes_eq name (spelling k))) is
    ∙ elim (cases_Bool (bytes_eq name (spelling key))) [
      | inl same ↦
          rw same
          (ap (λ (n : List ℕ). list_any (λ (k : K). bytes_eq n (spelling k)) old) (bytes_eq-equal name (spelling key) same)
          ∙ not_false (list_any (λ (k : K). bytes_eq (spelling key) (spelling k)) old) (sym was))
      | inr other ↦ rw other refl
    ]
  where
    not_false : (b : Bool) → not b ≡ false → b ≡ true
    not_false true h = refl
    not_false false h = sym h

or-swap : (a b : Bool) → (a || b) ≡ (b || (a || false))
or-swap true true = refl
or-swap true false = refl
or-swap false true = refl
or-swap false false = refl

spelled-more : (ts : List Token) (k : ℕ) (t : Token) → k < length ts → t ≡ get_or ts k t → spellings (take (k + 1) ts) ≡ spellings (take k ts) ++ t.text ∷ []
spelled-more ts k t inside is =
    ap spellings (take_more ts k t inside) ∙ map-append (λ (u : Token). u.text) (take k ts) (get_or ts k t ∷ [])
    ∙ ap (λ (u : Token). spellings (take k ts) ++ u.text ∷ []) (sym is)

-- one token further, its spelling is known
pub known-more : {K : Type 0} (spelling : K → List ℕ) (old new : List K) (key : K) (added : Bool) (ts : List Token) (k : ℕ) (t : Token)
    → k < length ts → t ≡ get_or ts k t → spelling key ≡ t.text
    → added ≡ not (list_any (λ k. bytes_eq (spelling key) (spelling k)) old) → MatchBool added (IsPermutation (key ∷ old) new) (new ≡ old)
    → ((name : List ℕ) → list_any (λ k. bytes_eq name (spelling k)) old ≡ hides_name (spellings (take k ts)) name)
    → (name : List ℕ) → list_any (λ k. bytes_eq name (spelling k)) new ≡ hides_name (spellings (take (k + 1) ts)) name
known-more spelling old new key added ts k t inside t_is spelled was is before name =
    with_key spelling old new key added was is name
    ∙ ap (λ (n : List ℕ). bytes_eq name n || list_any (λ k. bytes_eq name (spelling k)) old) spelled
    ∙ ap (λ (b : Bool). bytes_eq name t.text || b) (before name)
    ∙ or-swap (bytes_eq name t.text) (hides_name (spellings (take k ts)) name)
    ∙ sym (list_any-append (bytes_eq name) (spellings (take k ts)) (t.text ∷ []))
    ∙ ap (λ (hs : List (List ℕ)). hides_name hs name) (sym (spelled-more ts k t inside t_is))

-- ---- tokens one by one

pub alike-more : (xs ys : List Token) (k : ℕ) (x y : Token) → k < length xs → k < length ys → x ≡ get_or xs k x → y ≡ get_or ys k y → x.text ≡ y.text
    → spellings (take k xs) ≡ spellings (take k ys) → spellings (take (k + 1) xs) ≡ spellings (take (k + 1) ys)
alike-more xs ys k x y inside inside2 x_is y_is same before =
    spelled-more xs k x inside x_is ∙ ap (λ (l : List (List ℕ)). l ++ x.text ∷ []) before ∙ ap (λ (t : List ℕ). spellings (take k ys) ++ t ∷ []) same
    ∙ sym (spelled-more ys k y inside2 y_is)

-- ---- parts one by one

flat-more : (ps : List (List (List ℕ))) (k : ℕ) (p : List (List ℕ)) → k < length ps → p ≡ get_or ps k p → flat_map (λ q. q) (take (k + 1) ps) ≡ flat_map (λ q. q) (take k ps) ++ p
flat-more ps k p inside is =
    ap (flat_map (λ q. q)) (take_more ps k p inside) ∙ flat_map-append (λ q. q) (take k ps) (get_or ps k p ∷ [])
    ∙ ap (λ (q : List (List ℕ)). flat_map (λ q. q) (take k ps) ++ q) (append-nil (get_or ps k p) ∙ sym is)

pub parts-more : (ps qs : List (List (List ℕ))) (k : ℕ) (p q : List (List ℕ)) → k < length ps → k < length qs → p ≡ get_or ps k p → q ≡ get_or qs k q → p ≡ q
    → flat_map (λ q. q) (take k ps) ≡ flat_map (λ q. q) (take k qs) → flat_map (λ q. q) (take (k + 1) ps) ≡ flat_map (λ q. q) (take (k + 1) qs)
parts-more ps qs k p q inside inside2 p_is q_is same before =
    flat-more ps k p inside p_is ∙ ap (λ (l : List (List ℕ)). l ++ p) before ∙ ap (λ (l : List (List ℕ)). flat_map (λ q. q) (take k qs) ++ l) same
    ∙ sym (flat-more qs k q inside2 q_is)

-- the tokens of one part more
pub pushed-part : (all all2 part : List Token) (names : List (List ℕ)) (ps : List (List (List ℕ))) (k : ℕ) (p : List (List ℕ)) → k < length ps → p ≡ get_or ps k p
    → all2 ≡ all ++ part → spellings part ≡ p → spellings all ≡ names ++ flat_map (λ q. q) (take k ps) → spellings all2 ≡ names ++ flat_map (λ q. q) (take (k + 1) ps)
pushed-part all all2 part names ps k p inside is pushed spelled before =
    ap spellings pushed ∙ map-append (λ (t : Token). t.text) all part ∙ ap (λ (l : List (List ℕ)). spellings all ++ l) spelled
    ∙ ap (λ (l : List (List ℕ)). l ++ p) before ∙ append_assoc names (flat_map (λ q. q) (take k ps)) p
    ∙ ap (λ (l : List (List ℕ)). names ++ l) (sym (flat-more ps k p inside is))

-- ---- parts behind parts

-- some parts stay, and the others become one with the names behind them
pub parts-merged : (ps all : List (List (List ℕ))) (n : ℕ) (p names : List (List ℕ)) → all ≡ take n ps ++ p ∷ []
    → p ≡ flat_map (λ q. q) (take (length ps - n) (drop n ps)) ++ names → flat_map (λ q. q) all ≡ flat_map (λ q. q) ps ++ names
parts-merged ps all n p names is merged =
    let others : take (length ps - n) (drop n ps) ≡ drop n ps = let len = length-drop n ps in take_all (length ps - n) (drop n ps) (omega (arith, len)) in
    ap (flat_map (λ q. q)) is ∙ flat_map-append (λ q. q) (take n ps) (p ∷ [])
    ∙ ap (λ (l : List (List ℕ)). flat_map (λ q. q) (take n ps) ++ l) (append-nil p ∙ merged ∙ ap (λ (l : List (List (List ℕ))). flat_map (λ q. q) l ++ names) others)
    ∙ sym (append_assoc (flat_map (λ q. q) (take n ps)) (flat_map (λ q. q) (drop n ps)) names)
    ∙ ap (λ (l : List (List ℕ)). l ++ names) (sym (flat_map-append (λ q. q) (take n ps) (drop n ps)) ∙ ap (flat_map (λ q. q)) (take-append-drop n ps))

-- ---- spellings one behind the other

pub text-more : (old new : List ℕ) (ts : List Token) (k : ℕ) (t : Token) → k < length ts → t ≡ get_or ts k t → new ≡ old ++ t.text
    → old ≡ flat_map (λ n. n) (spellings (take k ts)) → new ≡ flat_map (λ n. n) (spellings (take (k + 1) ts))
text-more old new ts k t inside is pushed before =
    pushed ∙ ap (λ (l : List ℕ). l ++ t.text) before ∙ ap (λ (l : List ℕ). flat_map (λ n. n) (spellings (take k ts)) ++ l) (sym (append-nil t.text))
    ∙ sym (flat_map-append (λ (n : List ℕ). n) (spellings (take k ts)) (t.text ∷ [])) ∙ ap (flat_map (λ (n : List ℕ). n)) (sym (spelled-more ts k t inside is))

pub lengths-more : (old new : List ℕ) (ts : List Token) (k : ℕ) (t : Token) (len : ℕ) → k < length ts → t ≡ get_or ts k t → len ≡ length t.text → new ≡ old ++ len ∷ []
    → old ≡ map length (spellings (take k ts)) → new ≡ map length (spellings (take (k + 1) ts))
lengths-more old new ts k t len inside is size pushed before =
    pushed ∙ (λ i. before i ++ size i ∷ []) ∙ sym (map-append length (spellings (take k ts)) (t.text ∷ [])) ∙ ap (map length) (sym (spelled-more ts k t inside is))

cut : (xs ys rest more : List ℕ) → length xs ≡ length ys → xs ++ rest ≡ ys ++ more → (xs ≡ ys) × (rest ≡ more)
cut [] [] rest more len same = (refl, same)
cut [] (y ∷ ys) rest more len same = absurd (omega (arith, len))
cut (x ∷ xs) [] rest more len same = absurd (omega (arith, len))
cut (x ∷ xs) (y ∷ ys) rest more len same =
    let behind = cut xs ys rest more (omega (arith, len)) (ap (drop 1) same) in
    let here : x ≡ y = ap (λ (l : List ℕ). get_or l 0 x) same in
    ((λ i. here i ∷ behind.0 i), behind.1)

-- names of the same lengths, which are the same one behind the other
pub same-names : (xs ys : List (List ℕ)) → map length xs ≡ map length ys → flat_map (λ n. n) xs ≡ flat_map (λ n. n) ys → xs ≡ ys
same-names [] [] sizes same = refl
same-names [] (y ∷ ys) sizes same = absurd (let n = ap length sizes in omega (arith, n))
same-names (x ∷ xs) [] sizes same = absurd (let n = ap length sizes in omega (arith, n))
same-names (x ∷ xs) (y ∷ ys) sizes same =
    let parts = cut x y (flat_map (λ n. n) xs) (flat_map (λ n. n) ys) (ap (λ (l : List ℕ). get_or l 0 (length x)) sizes) same in
    let behind = same-names xs ys (ap (drop 1) sizes) parts.1 in
    λ i. parts.0 i ∷ behind i

-- ---- names that are lacking

lacking-none : (hides xs : List (List ℕ)) → ((name : List ℕ) → hides_name xs name ≡ true → hides_name hides name ≡ true) → lacking hides xs ≡ []
lacking-none hides [] h = refl
lacking-none hides (x ∷ xs) h =
    let here : hides_name hides x ≡ true = h x (rw (bytes_eq-same x) refl) in
    rw here (lacking-none hides xs (λ name is. h name (rw is (or-true (bytes_eq name x)))))

hides-place : (ps : List (List (List ℕ))) (k : ℕ) (p : List (List ℕ)) (name : List ℕ) → k < length ps → p ≡ get_or ps k p → hides_name p name ≡ true
    → hides_name (flat_map (λ q. q) ps) name ≡ true
hides-place [] k p name inside is here = absurd (omega (arith, inside))
hides-place (q ∷ ps) zero p name inside is here =
    list_any-append (bytes_eq name) q (flat_map (λ r. r) ps) ∙ rw (ap (λ (l : List (List ℕ)). hides_name l name) (sym is) ∙ here) refl
hides-place (q ∷ ps) (suc k) p name inside is here =
    list_any-append (bytes_eq name) q (flat_map (λ r. r) ps) ∙ rw (hides-place ps k p name (omega (arith, inside)) is here) (or-true (hides_name q name))

-- the names of a part are not lacking, nor those of another one that has the same
pub lacking-part : (ps : List (List (List ℕ))) (k : ℕ) (p q : List (List ℕ)) → k < length ps → p ≡ get_or ps k p → p ≡ q → lacking (flat_map (λ r. r) ps) q ≡ []
lacking-part ps k p q inside is same =
    lacking-none (flat_map (λ r. r) ps) q (λ name here. hides-place ps k p name inside is (ap (λ (l : List (List ℕ)). hides_name l name) same ∙ here))

lacking-append : (hides xs ys : List (List ℕ)) → lacking hides (xs ++ ys) ≡ lacking hides xs ++ lacking hides ys
lacking-append hides [] ys = refl
lacking-append hides (x ∷ xs) ys = elim (cases_Bool (hides_name hides x)) [
  | inl here ↦ rw here (lacking-append hides xs ys)
  | inr new ↦ rw new (ap (λ (l : List (List ℕ)). x ∷ l) (lacking-append hides xs ys))
]

-- those of one part more
pub lacking-more : (hides front new old : List (List ℕ)) (ps : List (List (List ℕ))) (k : ℕ) (p : List (List ℕ)) → k < length ps → p ≡ get_or ps k p
    → new ≡ old ++ lacking hides p → old ≡ front ++ lacking hides (flat_map (λ q. q) (take k ps)) → new ≡ front ++ lacking hides (flat_map (λ q. q) (take (k + 1) ps))
lacking-more hides front new old ps k p inside is pushed before =
    pushed ∙ ap (λ (l : List (List ℕ)). l ++ lacking hides p) before ∙ append_assoc front (lacking hides (flat_map (λ q. q) (take k ps))) (lacking hides p)
    ∙ ap (λ (l : List (List ℕ)). front ++ l) (sym (lacking-append hides (flat_map (λ q. q) (take k ps)) p) ∙ ap (lacking hides) (sym (flat-more ps k p inside is)))

-- and of one that is passed over, since a part of the set has its names
pub lacking-passed : (hides front old last : List (List ℕ)) (own ps : List (List (List ℕ))) (k : ℕ) (p : List (List ℕ)) → k < length ps → p ≡ get_or ps k p
    → flat_map (λ q. q) own ++ last ≡ hides → lacking (flat_map (λ q. q) own) p ≡ []
    → old ≡ front ++ lacking hides (flat_map (λ q. q) (take k ps)) → old ≡ front ++ lacking hides (flat_map (λ q. q) (take (k + 1) ps))
lacking-passed hides front old last own ps k p inside is whole none before =
    lacking-more hides front old old ps k p inside is (sym (append-nil old) ∙ ap (λ (l : List (List ℕ)). old ++ l) (sym (wider p none))) before
  where
    hidden_by : (known xs : List (List ℕ)) → lacking known xs ≡ [] → (name : List ℕ) → hides_name xs name ≡ true → hides_name known name ≡ true
    hidden_by known [] h name here = absurd (cc)
    hidden_by known (x ∷ xs) h name here = elim (cases_Bool (hides_name known x)) [
      | inl is ↦ elim (cases_Bool (bytes_eq name x)) [
        | inl same ↦ ap (hides_name known) (bytes_eq-equal name x same) ∙ is
        | inr other ↦ hidden_by known xs (rw is at h) name (rw other at here)
      ]
      | inr new ↦ absurd (let e = ap length (rw new at h) in omega (arith, e))
    ]

    wider : (xs : List (List ℕ)) → lacking (flat_map (λ q. q) own) xs ≡ [] → lacking hides xs ≡ []
    wider xs h = lacking-none hides xs (λ name here.
        ap (λ (hs : List (List ℕ)). hides_name hs name) (sym whole) ∙ list_any-append (bytes_eq name) (flat_map (λ q. q) own) last
        ∙ rw (hidden_by (flat_map (λ q. q) own) xs h name here) refl)
