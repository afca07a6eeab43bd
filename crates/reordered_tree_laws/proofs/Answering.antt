-- Which item of a list answers what is asked of the names that its items add: one at most.
use Rattle.std.proofs.Common.{ℕ, ◌+◌, ◌<◌, ◌≤◌, ◌≡◌, Bool, true, false, ◌&&◌, not, if◌then◌else◌, ◌==◌, List, [], ◌∷◌, Option, None, Some, ◌⊎◌, inl, inr, refl, sym, ap, ◌∙◌, arith}
use Rattle.std.specs.Prelude.{nat_lt}
use Rattle.std.specs.List.{All}
use Rattle.std.specs.Option.{option_map_or}
use Rattle.std.proofs.lemmas.Bool.{false≢true, eqb-true, and_parts, ltb-true}
use Rattle.std.proofs.lemmas.List.Elements.{All-head, All-tail}
use Rattle.cs_base.specs.Token.{Token}
use Rattle.c99_tree.specs.Tree.{Node}
use Rattle.c_types.specs.Declarations.{alike}
use Rattle.c_types.proofs.TokenLemmas.{alike_back as alike_turned}
use Rattle.tree_laws.specs.TreesOfTexts.{token_count}
use Rattle.tree_laws.proofs.Lookups.{alike_same}
use Rattle.tree_laws.proofs.Outline.{Entry, Outline}
use Rattle.reordered_tree_laws.specs.Premises.{declared_name}
use Rattle.reordered_tree_laws.proofs.Answered.{Ask, open_at, of_list, at_depth, meets, kind_among}
use Rattle.reordered_tree_laws.proofs.Chains.{count, some}
use Rattle.reordered_tree_laws.proofs.Within.{IsQuietWithin}
use Rattle.reordered_tree_laws.proofs.Bags.{bag_in, lasting_of}

abbrev pub end_of : Node → ℕ
end_of n = n.first + token_count n.under

-- ---- An answer is one of an entry

pub record Answer (P : Entry → Type 0) (toks : List Token) (i : ℕ) (a : Ask) : Type 0 where
  pub entry : Entry
  pub holds : P entry
  pub named : alike toks i entry.name_at ≡ true
  pub met : meets a entry ≡ true

answer_step : (P : Entry → Type 0) (toks : List Token) (i : ℕ) (a : Ask) (e : Entry) (o : Option Bool) (c d t : Bool) → P e → alike toks i e.name_at ≡ c → meets a e ≡ d
    → ((if c && d then Some e.typedef else o) ≡ Some t) → (o ≡ Some t → Answer P toks i a) → Answer P toks i a
answer_step P toks i a e o true true t h n w q f = record { entry = e; holds = h; named = n; met = w }
answer_step P toks i a e o true false t h n w q f = f q
answer_step P toks i a e o false d t h n w q f = f q

pub answered : (P : Entry → Type 0) (toks : List Token) (i : ℕ) (a : Ask) (es : List Entry) (t : Bool) → All P es → kind_among toks i a es ≡ Some t → Answer P toks i a
answered P toks i a [] t h q = absurd cc
answered P toks i a (e ∷ es) t h q =
    answer_step P toks i a e (kind_among toks i a es) (alike toks i e.name_at) (meets a e) t (All-head P e es h) refl refl q (λ r. answered P toks i a es t (All-tail P e es h) r)

-- where no entry answers, there is no answer
pub unanswered : (P : Entry → Type 0) (toks : List Token) (i : ℕ) (a : Ask) (es : List Entry) → All P es → (Answer P toks i a → ⊥) → kind_among toks i a es ≡ None
unanswered P toks i a es h f = by (kind_among toks i a es) (λ t q. f (answered P toks i a es t h q))
  where
    by : (o : Option Bool) → ((t : Bool) → o ≡ Some t → ⊥) → o ≡ None
    by None g = refl
    by (Some t) g = absurd (g t refl)

-- ---- Items

-- two names of items are not spelled alike
abbrev pub AreUnlike : List Token → Node → Node → Type 0
AreUnlike toks n x = (i j : ℕ) → declared_name n ≡ Some i → declared_name x ≡ Some j → alike toks i j ≡ false

-- the second item stands behind the first one, with a token between them, and has another name
pub record IsBehind (toks : List Token) (n x : Node) : Type 0 where
  pub after : end_of n + 1 ≤ x.first
  pub unlike : AreUnlike toks n x

abbrev pub ArePairs : List Token → List Node → Type 0
ArePairs toks [] = Unit {0}
ArePairs toks (n ∷ ns) = All (IsBehind toks n) ns × ArePairs toks ns

-- what an item adds in the outline of its list, which ends at a token or behind it
pub record IsOldItem (b : Outline) (end : ℕ) (n : Node) : Type 0 where
  pub quiet : All (IsQuietWithin (lasting_of n) n.first (end_of n) b.scope) (bag_in b n)
  pub ends : end_of n ≤ end

is_the : (o : Option ℕ) (i : ℕ) → option_map_or (λ j. j == i) o false ≡ true → o ≡ Some i
is_the None i e = absurd (false≢true e)
is_the (Some j) i e = ap (λ (k : ℕ). Some k) (eqb-true j i e)

pub its_name : (n : Node) (i : ℕ) → lasting_of n i ≡ true → declared_name n ≡ Some i
its_name n i e = is_the (declared_name n) i e

module _ (toks : List Token) (level : ℕ) (b : Outline) (end : ℕ) (deep : level ≤ b.scope.depth) where
  -- what is asked behind the list
  abbrev pub IsLate : Ask → Type 0
  IsLate (open_at k) = end ≤ k
  IsLate (of_list l) = Unit {0}
  IsLate (at_depth d) = d ≡ level

  -- the item is named so
  pub record Declares (i : ℕ) (n : Node) : Type 0 where
    pub name : ℕ
    pub told : declared_name n ≡ Some name
    pub spelled : alike toks i name ≡ true

  -- why an item answers
  abbrev Reason : ℕ → Ask → Node → Type 0
  Reason i (open_at k) n = Declares i n
  Reason i (at_depth d) n = Declares i n
  Reason i (of_list l) n = ((b.scope.depth ≡ 1) × Declares i n) ⊎ ((b.scope.depth ≡ 0) × ((n.first ≤ l) × (l ≤ end_of n)))

  declares : (i : ℕ) (a : Ask) (n : Node) (w : Answer (IsQuietWithin (lasting_of n) n.first (end_of n) b.scope) toks i a) → w.entry.depth ≡ b.scope.depth → Declares i n
  declares i a n w d = record { name = w.entry.name_at; told = its_name n w.entry.name_at (w.holds.quiet d); spelled = w.named }

  reason : (i : ℕ) (a : Ask) (n : Node) → IsLate a → IsOldItem b end n → Answer (IsQuietWithin (lasting_of n) n.first (end_of n) b.scope) toks i a → Reason i a n
  reason i (open_at k) n late item w = by w.holds.within.lasts
    where
      by : ((w.entry.depth ≡ b.scope.depth) × (w.entry.to ≡ b.scope.to)) ⊎ ((b.scope.depth < w.entry.depth) × ((n.first ≤ w.entry.to) × (w.entry.to ≤ end_of n))) → Declares i n
      by (inl r) = declares i (open_at k) n w r.0
      by (inr r) =
          let holds : k < w.entry.to = ltb-true k w.entry.to ((and_parts (not (nat_lt k w.entry.from)) (nat_lt k w.entry.to) w.met).1) in
          absurd (omega (arith, holds, late, r.1.1, item.ends))
  reason i (at_depth d) n late item w = by w.holds.within.lasts
    where
      by : ((w.entry.depth ≡ b.scope.depth) × (w.entry.to ≡ b.scope.to)) ⊎ ((b.scope.depth < w.entry.depth) × ((n.first ≤ w.entry.to) × (w.entry.to ≤ end_of n))) → Declares i n
      by (inl r) = declares i (at_depth d) n w r.0
      by (inr r) = absurd (omega (arith, eqb-true w.entry.depth d w.met, late, deep, r.0))
  reason i (of_list l) n late item w = by w.holds.within.lasts
    where
      one : w.entry.depth ≡ 1
      one = eqb-true w.entry.depth 1 ((and_parts (w.entry.depth == 1) (not w.entry.member) ((and_parts (w.entry.to == l) ((w.entry.depth == 1) && not w.entry.member) w.met).1)).0)

      here : w.entry.to ≡ l
      here = eqb-true w.entry.to l ((and_parts (w.entry.to == l) ((w.entry.depth == 1) && not w.entry.member) w.met).0)

      by : ((w.entry.depth ≡ b.scope.depth) × (w.entry.to ≡ b.scope.to)) ⊎ ((b.scope.depth < w.entry.depth) × ((n.first ≤ w.entry.to) × (w.entry.to ≤ end_of n)))
          → ((b.scope.depth ≡ 1) × Declares i n) ⊎ ((b.scope.depth ≡ 0) × ((n.first ≤ l) × (l ≤ end_of n)))
      by (inl r) = inl (sym r.0 ∙ one, declares i (of_list l) n w r.0)
      by (inr r) = inr (omega (arith, r.0, one), (omega (arith, r.1.0, here), omega (arith, r.1.1, here)))

  twice : (i : ℕ) (n x : Node) → AreUnlike toks n x → Declares i n → Declares i x → ⊥
  twice i n x u c d =
      false≢true (sym (u c.name d.name c.told d.told) ∙ alike_same toks c.name d.name i (alike_turned toks i c.name c.spelled) (alike_turned toks i d.name d.spelled))

  both : (i : ℕ) (a : Ask) (n x : Node) → IsBehind toks n x → Reason i a n → Reason i a x → ⊥
  both i (open_at k) n x p c d = twice i n x p.unlike c d
  both i (at_depth k) n x p c d = twice i n x p.unlike c d
  both i (of_list l) n x p (inl c) (inl d) = twice i n x p.unlike c.1 d.1
  both i (of_list l) n x p (inl c) (inr d) = absurd (omega (arith, c.0, d.0))
  both i (of_list l) n x p (inr c) (inl d) = absurd (omega (arith, c.0, d.0))
  both i (of_list l) n x p (inr c) (inr d) = absurd (omega (arith, c.1.1, d.1.0, p.after))

  abbrev told : ℕ → Ask → Node → Option Bool
  told i a n = kind_among toks i a (bag_in b n)

  -- behind an item that answers no other one does
  others_none : (i : ℕ) (a : Ask) (n : Node) (ns : List Node) → IsLate a → Reason i a n → All (IsBehind toks n) ns → All (IsOldItem b end) ns
      → count (λ x. some (told i a x)) ns ≡ 0
  others_none i a n [] late r p items = refl
  others_none i a n (x ∷ xs) late r p items =
      let item : IsOldItem b end x = All-head (IsOldItem b end) x xs items in
      let none : told i a x ≡ None =
      unanswered (IsQuietWithin (lasting_of x) x.first (end_of x) b.scope) toks i a (bag_in b x) item.quiet
      (λ w. both i a n x (All-head (IsBehind toks n) x xs p) r (reason i a x late item w)) in
      let more : count (λ y. some (told i a y)) xs ≡ 0 =
      others_none i a n xs late r (All-tail (IsBehind toks n) x xs p) (All-tail (IsOldItem b end) x xs items) in
      let zero : some (told i a x) ≡ 0 = ap some none in
      omega (arith, zero, more)

  pub one_answer : (i : ℕ) (a : Ask) (ns : List Node) → IsLate a → All (IsOldItem b end) ns → ArePairs toks ns → count (λ n. some (told i a n)) ns ≤ 1
  one_answer i a [] late items pairs = omega arith
  one_answer i a (n ∷ ns) late items pairs =
      by (told i a n) refl (one_answer i a ns late (All-tail (IsOldItem b end) n ns items) pairs.1)
      (λ r. others_none i a n ns late r pairs.0 (All-tail (IsOldItem b end) n ns items))
    where
      item : IsOldItem b end n
      item = All-head (IsOldItem b end) n ns items

      by : (o : Option Bool) → told i a n ≡ o → count (λ x. some (told i a x)) ns ≤ 1 → (Reason i a n → count (λ x. some (told i a x)) ns ≡ 0)
          → some (told i a n) + count (λ x. some (told i a x)) ns ≤ 1
      by None e more f = let z : some (told i a n) ≡ 0 = ap some e in omega (arith, z, more)
      by (Some t) e more f =
          let z : some (told i a n) ≡ 1 = ap some e in
          let r : Reason i a n =
          reason i a n late item (answered (IsQuietWithin (lasting_of n) n.first (end_of n) b.scope) toks i a (bag_in b n) t item.quiet e) in
          omega (arith, z, f r)

  -- Where an item uses no name that is spelled as another one is named, that other one has not declared it at this depth.
  pub unasked : (i : ℕ) (n : Node) → IsOldItem b end n → ((j : ℕ) → declared_name n ≡ Some j → alike toks i j ≡ false) → told i (at_depth b.scope.depth) n ≡ None
  unasked i n item f =
      unanswered (IsQuietWithin (lasting_of n) n.first (end_of n) b.scope) toks i (at_depth b.scope.depth) (bag_in b n) item.quiet
      (λ w.
      let d : Declares i n = declares i (at_depth b.scope.depth) n w (eqb-true w.entry.depth b.scope.depth w.met) in
      false≢true (sym (f d.name d.told) ∙ d.spelled))
