-- Spellings with numbers, one token after another.
use Rattle.std.proofs.Common.{ℕ, zero, suc, ◌+◌, ◌<◌, ◌≡◌, Bool, true, false, not, if◌then◌else◌, true≢false, List, [], ◌∷◌, ◌++◌, map, take, length, get_or, replicate, slice_set, None, Some, position, Result, Ok, Err, refl, sym, ap, cond, ◌∙◌, inl, inr, arith, length-append, nat_lt}
use borrow.Author.Tests.{ltb-false}
use Rattle.std.specs.Prelude.{◌==◌}
use Rattle.std.specs.List.{prefix_len, position_or_len, list_any}
use Rattle.std.specs.Result.{IfOk}
use Rattle.std.specs.Str.{bytes_eq}
use Rattle.std.proofs.lemmas.Bool.{cases_Bool, cases_eq, eq-eqb, ne_eqb, lt-ltb, cond-true, cond-false}
use Rattle.std.proofs.lemmas.List.{map-append, take_more, get_or-set_same, get_or-set_other}
use Rattle.std.proofs.lemmas.List.Folds.{list_any_at}
use Rattle.std.proofs.lemmas.List.Quantifiers.{position-Some}
use Rattle.std.proofs.lemmas.List.Sums.{fails_before_first, position_or_len_is}
use Rattle.std.proofs.Math.ListN.{get_or-append, length-map}
use Rattle.std.proofs.Math.Seq.{get_or-append_seam}
use Rattle.cs_base.specs.Token.{Token}
use Rattle.cs_base.proofs.OptionLemmas.{None≢Some, one_place}
use Rattle.cs_base.proofs.FileMapLemmas.{bytes_eq-equal as same_spelling}
use Rattle.cs_base.proofs.ListLemmas.{spelled_same}
use Rattle.c_types.specs.Declarations.{spelling_at}
use Rattle.name_chains.specs.Spellings.{number_at, AreNumbers, AreNumbered, AreSigns, IsNumberOf}

-- ---- Numbers are equal where spellings are

module _ (spellings : List (List ℕ)) (a b : List ℕ) (n m : ℕ) (p : position (bytes_eq a) spellings ≡ Some n) (q : position (bytes_eq b) spellings ≡ Some m) where
  alike_place : a ≡ b → n ≡ m
  alike_place e = one_place n m (sym p ∙ (ap (λ s. position (bytes_eq s) spellings) e ∙ q))

  alike_spelling : n ≡ m → a ≡ b
  alike_spelling e =
      let x = same_spelling a (get_or spellings n []) ((position-Some (bytes_eq a) spellings n [] p).1) in
      let y = same_spelling b (get_or spellings m []) ((position-Some (bytes_eq b) spellings m [] q).1) in
      x ∙ (ap (λ k. get_or spellings k []) e ∙ sym y)

  one_number : bytes_eq a b ≡ (n == m)
  one_number =
      elim (cases_eq n m) [
        | inl same ↦ spelled_same a b (alike_spelling same) ∙ sym (eq-eqb n m same)
        | inr apart ↦ elim (cases_Bool (bytes_eq a b)) [
          | inl holds ↦ absurd (apart (alike_place (same_spelling a b holds)))
          | inr fails ↦ fails ∙ sym (ne_eqb n m apart)
        ]
      ]

pub are_numbers : (toks : List Token) (numbers : List ℕ) (spellings : List (List ℕ)) → AreNumbered toks numbers spellings
    → AreNumbers toks numbers
are_numbers toks numbers spellings a = record {
  same = λ i j. one_number spellings (spelling_at toks i) (spelling_at toks j) (number_at numbers i) (number_at numbers j) (a.told i) (a.told j);
}

-- ---- One spelling more

module _ {A : Type 0} (p : A → Bool) where
  -- what passes first has the place
  position_at : (xs : List A) (i : ℕ) (d : A) → i < length xs → p (get_or xs i d) ≡ true → ((k : ℕ) → k < i → p (get_or xs k d) ≡ false)
      → position p xs ≡ Some i
  position_at xs i d l holds before =
      let e : position_or_len p xs ≡ i = position_or_len_is p xs i d (omega (arith, l)) before (λ _. holds) in
      ap (λ m. cond (nat_lt m (length xs)) (Some m) None) e ∙ cond-true (nat_lt i (length xs)) (Some i) None (lt-ltb i (length xs) l)

  fails_all : (xs : List A) (d : A) → position p xs ≡ None → (k : ℕ) → k < length xs → p (get_or xs k d) ≡ false
  fails_all xs d none k l =
      elim (cases_Bool (nat_lt (position_or_len p xs) (length xs))) [
        | inl below ↦ absurd (None≢Some' (sym none ∙ cond-true (nat_lt (position_or_len p xs) (length xs)) (Some (position_or_len p xs)) None below))
        | inr past ↦ fails_before_first p xs k d (omega (arith, l, ltb-false _ _ past))
      ]
    where
      None≢Some' : None ≡ Some (position_or_len p xs) → ⊥
      None≢Some' e = None≢Some (position_or_len p xs) e

  -- what has a place keeps it
  position_stays : (xs : List A) (y : A) (n : ℕ) (d : A) → position p xs ≡ Some n → position p (xs ++ y ∷ []) ≡ Some n
  position_stays xs y n d e =
      let at = position-Some p xs n d e in
      position_at (xs ++ y ∷ []) n d (omega (arith, at.0, length-append xs (y ∷ [])))
      (ap p (get_or-append xs (y ∷ []) d n at.0) ∙ at.1)
      (λ k l. ap p (get_or-append xs (y ∷ []) d k (omega (arith, l, at.0))) ∙ at.2 k l)

  -- the last one has a place where none had one
  position_last : (xs : List A) (y : A) (d : A) → position p xs ≡ None → p y ≡ true → position p (xs ++ y ∷ []) ≡ Some (length xs)
  position_last xs y d none holds =
      position_at (xs ++ y ∷ []) (length xs) d (omega (arith, length-append xs (y ∷ [])))
      (ap p (get_or-append_seam xs y [] d) ∙ holds)
      (λ k l. ap p (get_or-append xs (y ∷ []) d k l) ∙ fails_all xs d none k l)

  pub any_none : (xs : List A) (d : A) → position p xs ≡ None → list_any p xs ≡ false
  any_none xs d none = nowhere xs (fails_all xs d none)
    where
      nowhere : (ys : List A) → ((k : ℕ) → k < length ys → p (get_or ys k d) ≡ false) → list_any p ys ≡ false
      nowhere [] fails = refl
      nowhere (y ∷ ys) fails = rw (fails 0 (omega arith)) (nowhere ys (λ k l. fails (suc k) (omega (arith, l))))

pub IsNumberOf-found : (spellings : List (List ℕ)) (s : List ℕ) (n : ℕ) → position (bytes_eq s) spellings ≡ Some n → IsNumberOf spellings spellings s n
IsNumberOf-found spellings s n e = record { here = e; stay = λ t m f. f }

pub IsNumberOf-added : (spellings : List (List ℕ)) (s : List ℕ) (n : ℕ) → position (bytes_eq s) spellings ≡ None → n ≡ length spellings
    → IsNumberOf spellings (spellings ++ s ∷ []) s n
IsNumberOf-added spellings s n none last = record {
  here = position_last (bytes_eq s) spellings s [] none (spelled_same s s refl) ∙ ap Some (sym last);
  stay = λ t m e. position_stays (bytes_eq t) spellings s m [] e;
}

-- ---- The keys of a set

module _ {K : Type 0} (spelling : K → List ℕ) (p : List ℕ → Bool) where
  prefix_len-map : (ks : List K) → prefix_len (λ k. p (spelling k)) ks ≡ prefix_len p (map spelling ks)
  prefix_len-map [] = refl
  prefix_len-map (k ∷ ks) = rw (prefix_len-map ks) refl

-- the keys are found by their spellings
pub position-map : {K : Type 0} (spelling : K → List ℕ) (p : List ℕ → Bool) (ks : List K)
    → position (λ k. p (spelling k)) ks ≡ position p (map spelling ks)
position-map spelling p ks = rw (← prefix_len-map spelling (λ n. not (p n)) ks) (rw length-map refl)

pub keys_more : {K : Type 0} (spelling : K → List ℕ) (old new : List K) (k : K) (s : List ℕ) → new ≡ old ++ k ∷ [] → spelling k ≡ s
    → map spelling new ≡ map spelling old ++ s ∷ []
keys_more spelling old new k s e f = ap (map spelling) e ∙ (map-append spelling old (k ∷ []) ∙ ap (λ t. map spelling old ++ t ∷ []) f)

-- where a key is looked for that is put in unless it is there
module _ {K : Type 0} (p : K → Bool) (ks : List K) (k : K) where
  abbrev place : ℕ
  place = position_or_len p ks

  abbrev below : Bool
  below = nat_lt place (length ks)

  placed : list_any p ks ≡ true → position p ks ≡ Some place
  placed some = elim (cases_Bool below) [
    | inl is ↦ cond-true below (Some place) None is
    | inr past ↦ absurd (true≢false (sym some ∙ any_none p ks k (cond-false below (Some place) None past)))
  ]

  missing : list_any p ks ≡ false → position p ks ≡ None
  missing none = elim (cases_Bool below) [
    | inl is ↦
        let at = position-Some p ks place k (cond-true below (Some place) None is) in
        absurd (true≢false (sym (list_any_at p ks place k at.0 at.1) ∙ none))
    | inr past ↦ cond-false below (Some place) None past
  ]

  behind : list_any p ks ≡ false → place ≡ length ks
  behind none = position_or_len_is p ks (length ks) k (omega arith) (λ j l. fails_all p ks k (missing none) j l) (λ l. absurd (omega (arith, l)))

-- a key is put in unless one is there that is spelled alike
pub numbered_key : {K : Type 0} (spelling : K → List ℕ) (old new : List K) (k : K) (n : ℕ)
    → new ≡ (if list_any (λ x. bytes_eq (spelling k) (spelling x)) old then old else old ++ k ∷ [])
    → n ≡ position_or_len (λ x. bytes_eq (spelling k) (spelling x)) old → IsNumberOf (map spelling old) (map spelling new) (spelling k) n
numbered_key {K = K} spelling old new k n e f =
    let p : K → Bool = λ x. bytes_eq (spelling k) (spelling x) in
    let found = position-map spelling (bytes_eq (spelling k)) old in
    elim (cases_Bool (list_any p old)) [
      | inl some ↦
          rw (e ∙ cond-true (list_any p old) old (old ++ k ∷ []) some, f)
          (IsNumberOf-found (map spelling old) (spelling k) (position_or_len p old) (sym found ∙ placed p old k some))
      | inr none ↦
          let last : n ≡ length (map spelling old) = f ∙ (behind p old k none ∙ sym (length-map old spelling)) in
          rw (keys_more spelling old new k (spelling k) (e ∙ cond-false (list_any p old) old (old ++ k ∷ []) none) refl)
          (IsNumberOf-added (map spelling old) (spelling k) n (sym found ∙ missing p old k none) last)
    ]

-- ---- One token more

module _ (P : List ℕ → ℕ → Type 0) where
  told_more : (toks : List Token) (t : Token) (numbers : List ℕ) (n : ℕ) → length numbers ≡ length toks
      → ((k : ℕ) → P (spelling_at toks k) (number_at numbers k)) → P t.text n
      → (k : ℕ) → P (spelling_at (toks ++ t ∷ []) k) (number_at (numbers ++ n ∷ []) k)
  told_more [] t [] n e old here zero = here
  told_more [] t [] n e old here (suc k) = old (suc k)
  told_more [] t (m ∷ ms) n e old here k = absurd (omega (arith, e))
  told_more (s ∷ toks) t [] n e old here k = absurd (omega (arith, e))
  told_more (s ∷ toks) t (m ∷ ms) n e old here zero = old zero
  told_more (s ∷ toks) t (m ∷ ms) n e old here (suc k) = told_more toks t ms n (omega (arith, e)) (λ j. old (suc j)) here k

numbered_more : (toks : List Token) (t : Token) (numbers : List ℕ) (n : ℕ) (old new : List (List ℕ)) → AreNumbered toks numbers old
    → IsNumberOf old new t.text n → AreNumbered (toks ++ t ∷ []) (numbers ++ n ∷ []) new
numbered_more toks t numbers n old new a is = record {
  each = omega (arith, a.each, length-append toks (t ∷ []), length-append numbers (n ∷ []));
  told = told_more (λ s m. position (bytes_eq s) new ≡ Some m) toks t numbers n a.each
      (λ k. is.stay (spelling_at toks k) (number_at numbers k) (a.told k)) is.here;
}

-- and the next token of the text
pub numbered-next : (toks : List Token) (k : ℕ) (t : Token) (numbers longer : List ℕ) (n : ℕ) (old new : List (List ℕ)) (text : List ℕ)
    → k < length toks → t ≡ get_or toks k t → AreNumbered (take k toks) numbers old → text ≡ t.text → IsNumberOf old new text n
    → longer ≡ numbers ++ n ∷ [] → AreNumbered (take (k + 1) toks) longer new
numbered-next toks k t numbers longer n old new text l at a said is pushed =
    let more : take (k + 1) toks ≡ take k toks ++ t ∷ [] = take_more toks k t l ∙ ap (λ x. take k toks ++ x ∷ []) (sym at) in
    rw (more, pushed) (numbered_more (take k toks) t numbers n old new a (rw said at is))

-- ---- Spellings of one byte

pub no_signs : (n : ℕ) (spellings : List (List ℕ)) → AreSigns (replicate n 0) spellings
no_signs n spellings = λ b. inl (none n b)
  where
    none : (n b : ℕ) → ◌≡◌ {A = ℕ} (get_or (replicate n 0) b 0) 0
    none zero b = refl
    none (suc n) zero = refl
    none (suc n) (suc b) = none n b

pub signs_stay : (signs s : List ℕ) (old new : List (List ℕ)) (n : ℕ) → IsNumberOf old new s n → AreSigns signs old → AreSigns signs new
signs_stay signs s old new n is are = λ b. elim (are b) [
  | inl none ↦ inl none
  | inr known ↦ inr (is.stay (b ∷ []) (get_or signs b 0) known)
]

pub signs_keep : {E : Type 0} (signs s : List ℕ) (old new : List (List ℕ)) (r : Result ℕ E) → IfOk r (λ n. IsNumberOf old new s n) → AreSigns signs old
    → IfOk r (λ n. AreSigns signs new)
signs_keep signs s old new (Ok n) is are = signs_stay signs s old new n is are
signs_keep signs s old new (Err e) is are = tt

pub known_sign : (signs : List ℕ) (spellings : List (List ℕ)) (b n : ℕ) → AreSigns signs spellings → n ≡ get_or signs b 0 → (n ≡ 0 → ⊥)
    → IsNumberOf spellings spellings (b ∷ []) n
known_sign signs spellings b n are is some = elim (are b) [
  | inl none ↦ absurd (some (is ∙ none))
  | inr known ↦ IsNumberOf-found spellings (b ∷ []) n (known ∙ ap Some (sym is))
]

pub signs_more : (signs : List ℕ) (old new : List (List ℕ)) (a n : ℕ) → a < length signs → IsNumberOf old new (a ∷ []) n → AreSigns signs old
    → AreSigns (slice_set signs a n) new
signs_more signs old new a n within is are = λ b. elim (cases_eq b a) [
  | inl same ↦
      let told : get_or (slice_set signs a n) a 0 ≡ n = get_or-set_same signs a n 0 within in
      inr (rw same (is.here ∙ ap Some (sym told)))
  | inr apart ↦
      let told : get_or (slice_set signs a n) b 0 ≡ get_or signs b 0 = get_or-set_other signs a b n 0 apart in
      rw told (signs_stay signs (a ∷ []) old new n is are b)
]
