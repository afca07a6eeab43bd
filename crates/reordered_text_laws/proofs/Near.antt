-- How far two texts go alike that differ by the order of items in lists: by their first two tokens, or both begin with a parenthesis.
use Rattle.std.proofs.Common.{ℕ, ◌≡◌, ◌⊎◌, Bool, true, false, ◌&&◌, List, [], ◌∷◌, ◌++◌, refl, sym, ap, ◌∙◌, inl, inr}
use Rattle.std.proofs.lemmas.Bool.{false≢true, and_parts}
use Rattle.c99_grammar.specs.declared.classes.Class.{Class}
use Rattle.c99_grammar.specs.declared.classes.Class.TheVariants.{LeftBracket, LeftParen, Star, Identifier}
use Rattle.c99_grammar.specs.Classes.{among}
use Rattle.c99_grammar.specs.Items.{Item, Test, own, otherwise, next, next_two, Alternative}
use Rattle.c99_grammar.specs.Standard.{Grammar}
use Rattle.c99_grammar.specs.Starting.{asks, holds, starts}
use Rattle.reordered_text_laws.specs.ByClasses.{here, behind, may_read}
use Rattle.reordered_text_laws.specs.Lists.{EndsItem}
use Rattle.reordered_text_laws.proofs.Whole.{has_any}
use Rattle.reordered_text_laws.proofs.Stops.{test_alike, item_alike, alternative_alike, never, Kin, may_alike}
use Rattle.reordered_text_laws.proofs.Free.{free_test, free, free_holds, free_starts}

-- Which list may stand where something begins: none, a list of parameters, or a call too.
pub data Front : Type 0 where
  shut : Front
  listed : Front
  called : Front

abbrev pub at_most : Front → Front → Bool
at_most shut f = true
at_most listed shut = false
at_most listed f = true
at_most called called = true
at_most called f = false

abbrev pub higher : Front → Front → Front
higher shut f = f
higher listed shut = listed
higher listed f = f
higher called f = called

pub most_itself : (f : Front) → at_most f f ≡ true
most_itself shut = refl
most_itself listed = refl
most_itself called = refl

pub higher_first : (f g : Front) → at_most f (higher f g) ≡ true
higher_first shut g = refl
higher_first listed shut = refl
higher_first listed listed = refl
higher_first listed called = refl
higher_first called g = refl

pub higher_second : (f g : Front) → at_most g (higher f g) ≡ true
higher_second shut g = most_itself g
higher_second listed shut = refl
higher_second listed listed = refl
higher_second listed called = refl
higher_second called shut = refl
higher_second called listed = refl
higher_second called called = refl

-- the class of a token that may begin a parameter, or end a list of these
abbrev pub Plain : Class → Type 0
Plain c = among (LeftBracket ∷ LeftParen ∷ Star ∷ Identifier ∷ []) c ≡ false

module _ (class_of : ℕ → Class) where
  -- such a list begins with the token, and these are the second ones
  abbrev pub Opens : Front → ℕ → ℕ → ℕ → Type 0
  Opens shut i k m = ⊥
  Opens listed i k m = (class_of i ≡ LeftParen) × (Plain (class_of k) × Plain (class_of m))
  Opens called i k m = class_of i ≡ LeftParen

  -- as many tokens, and the first two are the same, or such a list begins both
  abbrev pub Near : Front → List ℕ → List ℕ → Type 0
  Near f [] [] = Unit {0}
  Near f (i ∷ []) (j ∷ []) = i ≡ j
  Near f (i ∷ k ∷ xs) (j ∷ m ∷ ys) = (i ≡ j) × ((k ≡ m) ⊎ Opens f i k m)
  Near f _ _ = ⊥

  opens_is : (f : Front) (i k m : ℕ) → Opens f i k m → class_of i ≡ LeftParen
  opens_is shut i k m h = absurd h
  opens_is listed i k m h = h.0
  opens_is called i k m h = h

  opens_more : (f g : Front) (i k m : ℕ) → at_most f g ≡ true → Opens f i k m → Opens g i k m
  opens_more shut g i k m e h = absurd h
  opens_more listed shut i k m e h = absurd (false≢true e)
  opens_more listed listed i k m e h = h
  opens_more listed called i k m e h = h.0
  opens_more called shut i k m e h = absurd (false≢true e)
  opens_more called listed i k m e h = absurd (false≢true e)
  opens_more called called i k m e h = h

  either_more : (f g : Front) (i k m : ℕ) → at_most f g ≡ true → (k ≡ m) ⊎ Opens f i k m → (k ≡ m) ⊎ Opens g i k m
  either_more f g i k m e (inl h) = inl h
  either_more f g i k m e (inr h) = inr (opens_more f g i k m e h)

  pub near_more : (f g : Front) (xs ys : List ℕ) → at_most f g ≡ true → Near f xs ys → Near g xs ys
  near_more f g [] [] e n = tt
  near_more f g [] (j ∷ ys) e n = absurd n
  near_more f g (i ∷ []) [] e n = absurd n
  near_more f g (i ∷ []) (j ∷ []) e n = n
  near_more f g (i ∷ []) (j ∷ m ∷ ys) e n = absurd n
  near_more f g (i ∷ k ∷ xs) [] e n = absurd n
  near_more f g (i ∷ k ∷ xs) (j ∷ []) e n = absurd n
  near_more f g (i ∷ k ∷ xs) (j ∷ m ∷ ys) e n = (n.0, either_more f g i k m e n.1)

  pub near_same : (f : Front) (xs : List ℕ) → Near f xs xs
  near_same f [] = tt
  near_same f (i ∷ []) = refl
  near_same f (i ∷ k ∷ xs) = (refl, inl refl)

  first_same : (g : Front) (i j k m : ℕ) (us vs : List ℕ) → i ≡ j → Near g (k ∷ us) (m ∷ vs) → k ≡ m
  first_same g i j k m [] [] e n = n
  first_same g i j k m [] (v ∷ vs) e n = absurd n
  first_same g i j k m (u ∷ us) [] e n = absurd n
  first_same g i j k m (u ∷ us) (v ∷ vs) e n = n.0

  pub near_joined : (f g h : Front) (xs ys us vs : List ℕ) → at_most f h ≡ true → (has_any xs ≡ false → at_most g h ≡ true) → Near f xs ys → Near g us vs → Near h (xs ++ us) (ys ++ vs)
  near_joined f g h [] [] us vs e e' n m = near_more g h us vs (e' refl) m
  near_joined f g h [] (j ∷ ys) us vs e e' n m = absurd n
  near_joined f g h (i ∷ []) [] us vs e e' n m = absurd n
  near_joined f g h (i ∷ []) (j ∷ []) [] [] e e' n m = n
  near_joined f g h (i ∷ []) (j ∷ []) [] (v ∷ vs) e e' n m = absurd m
  near_joined f g h (i ∷ []) (j ∷ []) (u ∷ []) [] e e' n m = absurd m
  near_joined f g h (i ∷ []) (j ∷ []) (u ∷ w ∷ us) [] e e' n m = absurd m
  near_joined f g h (i ∷ []) (j ∷ []) (u ∷ us) (v ∷ vs) e e' n m = (n, inl (first_same g i j u v us vs n m))
  near_joined f g h (i ∷ []) (j ∷ k ∷ ys) us vs e e' n m = absurd n
  near_joined f g h (i ∷ k ∷ xs) [] us vs e e' n m = absurd n
  near_joined f g h (i ∷ k ∷ xs) (j ∷ []) us vs e e' n m = absurd n
  near_joined f g h (i ∷ k ∷ xs) (j ∷ w ∷ ys) us vs e e' n m = (n.0, either_more f h i k w e n.1)

module _ (g : Grammar) (class_of : ℕ → Class) where
  abbrev pub Opening : List ℕ → List ℕ → Type 0
  Opening ys zs = (here g class_of ys ≡ LeftParen) × (here g class_of zs ≡ LeftParen)

  -- what stands behind
  abbrev pub Beside : Type 0 → List ℕ → List ℕ → Type 0
  Beside e ys zs = Kin g class_of e ys zs ⊎ Opening ys zs

  pub beside_less : (e e' : Type 0) (ys zs : List ℕ) → (e → e') → Beside e ys zs → Beside e' ys zs
  beside_less e e' ys zs f (inl (inl s)) = inl (inl s)
  beside_less e e' ys zs f (inl (inr k)) = inl (inr (f k.0, k.1))
  beside_less e e' ys zs f (inr o) = inr o

  -- .. of one token
  second_alike : (e : Type 0) (ys zs : List ℕ) → Beside e ys zs → (here g class_of ys ≡ here g class_of zs) ⊎ (EndsItem (here g class_of ys) × EndsItem (here g class_of zs))
  second_alike e ys zs (inl (inl s)) = inl s.0
  second_alike e ys zs (inl (inr k)) = inr k.1
  second_alike e ys zs (inr o) = inl (o.0 ∙ sym o.1)

  beside_two : (e : Type 0) (f : Front) (i j k m : ℕ) (xs ys : List ℕ) → i ≡ j → (k ≡ m) ⊎ Opens class_of f i k m → Beside e (i ∷ k ∷ xs) (j ∷ m ∷ ys)
  beside_two e f i j k m xs ys h (inl same) = inl (inl (ap class_of h, inl (ap class_of same)))
  beside_two e f i j k m xs ys h (inr opens) = let is = opens_is class_of f i k m opens in inr (is, sym (ap class_of h) ∙ is)

  pub beside_front : (e e' : Type 0) (f : Front) (ts ts' ys zs : List ℕ) → (has_any ts ≡ false → e → e') → Near class_of f ts ts' → Beside e ys zs → Beside e' (ts ++ ys) (ts' ++ zs)
  beside_front e e' f [] [] ys zs h n b = beside_less e e' ys zs (h refl) b
  beside_front e e' f [] (j ∷ ts') ys zs h n b = absurd n
  beside_front e e' f (i ∷ []) [] ys zs h n b = absurd n
  beside_front e e' f (i ∷ []) (j ∷ []) ys zs h n b = inl (inl (ap class_of n, second_alike e ys zs b))
  beside_front e e' f (i ∷ []) (j ∷ m ∷ ts') ys zs h n b = absurd n
  beside_front e e' f (i ∷ k ∷ ts) [] ys zs h n b = absurd n
  beside_front e e' f (i ∷ k ∷ ts) (j ∷ []) ys zs h n b = absurd n
  beside_front e e' f (i ∷ k ∷ ts) (j ∷ m ∷ ts') ys zs h n b = beside_two e' f i j k m (ts ++ ys) (ts' ++ zs) n.0 n.1

  -- ---- Tests

  abbrev says : Test → Item → Class → Class → Bool
  says t a c d = holds g t (starts g a c d) c d

  free_says : (t : Test) (a : Item) (c c' d d' : Class) → (free_test g t && free g a) ≡ true → c ≡ LeftParen → c' ≡ LeftParen → says t a c d ≡ says t a c' d'
  free_says t a c c' d d' h e e' =
      let both = and_parts (free_test g t) (free g a) h in
      ap (λ x. says t a x d) e
      ∙ (free_holds g t (starts g a LeftParen d) (starts g a LeftParen d') d d' both.0 (free_starts g a d d' both.1) ∙ sym (ap (λ x. says t a x d') e'))

  pub may_beside : (t : Test) (a : Item) (ys zs : List ℕ) → test_alike g t ≡ true → item_alike g a ≡ true → (free_test g t && free g a) ≡ true
      → Beside (never g t a ≡ true) ys zs → may_read g class_of t a ys ≡ may_read g class_of t a zs
  may_beside t a ys zs h k free (inl kin) = may_alike g class_of t a ys zs h k kin
  may_beside t a ys zs h k free (inr o) =
      free_says t a (here g class_of ys) (here g class_of zs) (behind g class_of ys) (behind g class_of zs) free o.0 o.1

  -- the test does not hold where a parameter begins behind
  abbrev pub Shuns : Test → Type 0
  Shuns (next_two x y) = (c : Class) → Plain c → asks g y c ≡ false
  Shuns _ = ⊥

  -- an alternative is tested alike where such a list begins
  abbrev pub Settled : Front → Alternative → Type 0
  Settled shut a = Unit {0}
  Settled listed a = ((free_test g a.test && free g a.body) ≡ true) ⊎ Shuns a.test
  Settled called a = (free_test g a.test && free g a.body) ≡ true

  and_no : (u v : Bool) → v ≡ false → (u && v) ≡ false
  and_no true v e = e
  and_no false v e = refl

  shuns_no : (t : Test) (a : Item) (c d : Class) → Shuns t → Plain d → says t a c d ≡ false
  shuns_no own a c d h p = absurd h
  shuns_no otherwise a c d h p = absurd h
  shuns_no (next x) a c d h p = absurd h
  shuns_no (next_two x y) a c d h p = and_no (asks g x c) (asks g y d) (h d p)

  opened_alike : (f : Front) (a : Alternative) (i j k m : ℕ) → i ≡ j → Opens class_of f i k m → Settled f a
      → says a.test a.body (class_of i) (class_of k) ≡ says a.test a.body (class_of j) (class_of m)
  opened_alike shut a i j k m e o h = absurd o
  opened_alike called a i j k m e o h = free_says a.test a.body (class_of i) (class_of j) (class_of k) (class_of m) h o (sym (ap class_of e) ∙ o)
  opened_alike listed a i j k m e o (inl h) = free_says a.test a.body (class_of i) (class_of j) (class_of k) (class_of m) h o.0 (sym (ap class_of e) ∙ o.0)
  opened_alike listed a i j k m e o (inr h) =
      shuns_no a.test a.body (class_of i) (class_of k) h o.1.0 ∙ sym (shuns_no a.test a.body (class_of j) (class_of m) h o.1.1)

  pub alternative_same : (e : Type 0) (f : Front) (a : Alternative) (ts ts' us zs : List ℕ) → Settled f a → alternative_alike g a ≡ true → has_any ts ≡ true
      → Near class_of f ts ts' → Beside e us zs → may_read g class_of a.test a.body (ts ++ us) ≡ may_read g class_of a.test a.body (ts' ++ zs)
  alternative_same e f a [] ts' us zs s h some n b = absurd (false≢true some)
  alternative_same e f a (i ∷ []) [] us zs s h some n b = absurd n
  alternative_same e f a (i ∷ []) (j ∷ []) us zs s h some n b =
      let both = and_parts (test_alike g a.test) (item_alike g a.body) h in
      may_alike g class_of a.test a.body (i ∷ us) (j ∷ zs) both.0 both.1 (inl (ap class_of n, second_alike e us zs b))
  alternative_same e f a (i ∷ []) (j ∷ m ∷ ts') us zs s h some n b = absurd n
  alternative_same e f a (i ∷ k ∷ ts) [] us zs s h some n b = absurd n
  alternative_same e f a (i ∷ k ∷ ts) (j ∷ []) us zs s h some n b = absurd n
  alternative_same e f a (i ∷ k ∷ ts) (j ∷ m ∷ ts') us zs s h some n b = by n.1
    where
      by : (k ≡ m) ⊎ Opens class_of f i k m → may_read g class_of a.test a.body ((i ∷ k ∷ ts) ++ us) ≡ may_read g class_of a.test a.body ((j ∷ m ∷ ts') ++ zs)
      by (inl same) =
          let both = and_parts (test_alike g a.test) (item_alike g a.body) h in
          may_alike g class_of a.test a.body ((i ∷ k ∷ ts) ++ us) ((j ∷ m ∷ ts') ++ zs) both.0 both.1 (inl (ap class_of n.0, inl (ap class_of same)))
      by (inr o) = opened_alike f a i j k m n.0 o s
