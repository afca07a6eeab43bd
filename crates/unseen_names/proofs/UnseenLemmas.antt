-- The places where a name stands unseen: what is kept of its words, in their order, and that they are one list.
use Rattle.std.proofs.Common.{◌≡◌, ℕ, zero, suc, List, [], ◌∷◌, ◌++◌, Some, Result, Ok, Err, length, slice_get, refl, ap, ◌∙◌, inl, inr, arith}
use Rattle.std.specs.Prelude.{◌⊎◌, OnOk}
use Rattle.std.specs.List.{Contains}
use Rattle.std.specs.List.Sorted.{IsPermutation, IsStrictlySortedBy}
use Rattle.std.proofs.lemmas.List.Sorted.{Contains-permutation, IsPermutation-sym}
use Rattle.std.proofs.lemmas.Option.{none-some, slice_get_within, slice_get-get_or, get_or_from_slice_get}
use Rattle.cs_base.specs.declared.positions.Part.{Part}
use Rattle.analysis.specs.Analysis.{AnalysisValue}
use Rattle.analysis.specs.Parts.{part_cmp}
use Rattle.analysis.specs.Spellings.{spelling_of}
use Rattle.class_marks.specs.Keeping.{Keeps, nothing, taken, skipped}
use Rattle.class_marks.proofs.KeepLemmas.{keeps_all, keeps_each}
use Rattle.unseen_names.specs.Reach.{Reaches, ReachesStart}
use Rattle.unseen_names.specs.Unseen.{IsOther, IsIdle, IsUnprocessed, IsUnstated, IsUnseen, IsUnseenName, IsUnseenInPragma, AreUnseen}
use Rattle.unseen_names.specs.declared.words.Source.TheVariants.{Names, Pragmas}
use Rattle.unseen_names.specs.Words.{words_of}

-- ---- what is kept

pub empty_list : {X : Type 0} (xs : List X) → length xs ≡ 0 → xs ≡ []
empty_list [] none = refl
empty_list (x ∷ xs) none = absurd (omega (arith, none))

pub on_ok_then : {X E : Type 0} (r : Result X E) (P Q : Type 0) → OnOk r P → (P → Q) → OnOk r Q
on_ok_then (Ok x) P Q h next = next h
on_ok_then (Err e) P Q h next = tt

-- what is kept stood in the list
pub keeps_from : {X : Type 0} (P : X → Type 0) (us vs : List X) → Keeps P us vs → (k : ℕ) (x : X) → slice_get vs k ≡ Some x
    → (j : ℕ) × (slice_get us j ≡ Some x)
keeps_from P us vs nothing k x at = (k, at)
keeps_from P us vs (taken {xs = xs} {ys = ys} here rest) zero x at = (zero, at)
keeps_from P us vs (taken {xs = xs} {ys = ys} here rest) (suc k) x at = let found = keeps_from P xs ys rest k x at in (suc found.0, found.1)
keeps_from P us vs (skipped {xs = xs} not rest) k x at = let found = keeps_from P xs vs rest k x at in (suc found.0, found.1)

-- ---- permutations

moved : (xs ys : List Part) → IsPermutation xs ys → (k : ℕ) (x : Part) → slice_get xs k ≡ Some x → (j : ℕ) × (slice_get ys j ≡ Some x)
moved xs ys p k x at =
    let there : Contains ys x = Contains-permutation xs ys x p (k, slice_get_within xs k x at, get_or_from_slice_get xs k x x at) in
    (there.0, slice_get-get_or ys there.0 x there.1 ∙ ap Some there.2)

-- what is kept of what is kept
pub keeps_both : {X : Type 0} (P Q R : X → Type 0) → ((x : X) → P x → Q x → R x) → ((x : X) → R x → P x) → ((x : X) → R x → Q x)
    → (xs ys zs : List X) → Keeps P xs ys → Keeps Q ys zs → Keeps R xs zs
keeps_both P Q R both first second xs ys zs (skipped {x = x} {xs = us} not rest) other =
    skipped (λ r. not (first x r)) (keeps_both P Q R both first second us ys zs rest other)
keeps_both P Q R both first second xs ys zs nothing nothing = nothing
keeps_both P Q R both first second xs ys zs (taken {x = x} {xs = us} {ys = vs} here rest) (taken {ys = ws} there more) =
    taken (both x here there) (keeps_both P Q R both first second us vs ws rest more)
keeps_both P Q R both first second xs ys zs (taken {x = x} {xs = us} {ys = vs} here rest) (skipped not more) =
    skipped (λ r. not (second x r)) (keeps_both P Q R both first second us vs zs rest more)

pub keeps_idle : (a : AnalysisValue) (xs ys zs : List Part) → Keeps (IsUnprocessed a) xs ys → Keeps (IsUnstated a) ys zs → Keeps (IsIdle a) xs zs
keeps_idle a xs ys zs apart stated =
    keeps_both (IsUnprocessed a) (IsUnstated a) (IsIdle a) (λ x p s. record { undeclared = s.undeclared; unused = s.unused; unprocessed = p })
    (λ x i. i.unprocessed) (λ x i. record { undeclared = i.undeclared; unused = i.unused }) xs ys zs apart stated

-- ---- one list behind another

left_in : {X : Type 0} (xs ys : List X) (k : ℕ) (x : X) → slice_get xs k ≡ Some x → (j : ℕ) × (slice_get (xs ++ ys) j ≡ Some x)
left_in [] ys k x at = absurd (none-some x at)
left_in (y ∷ xs) ys zero x at = (zero, at)
left_in (y ∷ xs) ys (suc k) x at = let found = left_in xs ys k x at in (suc found.0, found.1)

right_in : {X : Type 0} (xs ys : List X) (k : ℕ) (x : X) → slice_get ys k ≡ Some x → (j : ℕ) × (slice_get (xs ++ ys) j ≡ Some x)
right_in [] ys k x at = (k, at)
right_in (y ∷ xs) ys k x at = let found = right_in xs ys k x at in (suc found.0, found.1)

in_one : {X : Type 0} (xs ys : List X) (k : ℕ) (x : X) → slice_get (xs ++ ys) k ≡ Some x
    → ((j : ℕ) × (slice_get xs j ≡ Some x)) ⊎ ((j : ℕ) × (slice_get ys j ≡ Some x))
in_one [] ys k x at = inr (k, at)
in_one (y ∷ xs) ys zero x at = inl (zero, at)
in_one (y ∷ xs) ys (suc k) x at =
    elim (in_one xs ys k x at) [
      | inl found ↦ inl (suc found.0, found.1)
      | inr found ↦ inr found
    ]

-- ---- all

module _ (a : AnalysisValue) (part : Part) (others idle quoted reached places : List Part)
    (other : Keeps (IsOther a part) (words_of a Names (spelling_of a part)) others) (idles : Keeps (IsIdle a) others idle)
    (unread : Keeps (IsUnprocessed a) (words_of a Pragmas (spelling_of a part)) quoted)
    (reaches : Keeps (ReachesStart a part) (idle ++ quoted) reached) (permuted : IsPermutation reached places)
    (sorted : IsStrictlySortedBy (part_cmp a) places) where
  is_name : (place : Part) → Reaches a part place.start → (k : ℕ) → slice_get idle k ≡ Some place → IsUnseenName a part place
  is_name place there k at =
      let in_others = keeps_from (IsIdle a) others idle idles k place at in
      record {
        word = keeps_from (IsOther a part) (words_of a Names (spelling_of a part)) others other in_others.0 place in_others.1;
        other = keeps_each (IsOther a part) (words_of a Names (spelling_of a part)) others other in_others.0 place in_others.1;
        idle = keeps_each (IsIdle a) others idle idles k place at;
        reached = there;
      }

  is_in_pragma : (place : Part) → Reaches a part place.start → (k : ℕ) → slice_get quoted k ≡ Some place → IsUnseenInPragma a part place
  is_in_pragma place there k at = record {
    word = keeps_from (IsUnprocessed a) (words_of a Pragmas (spelling_of a part)) quoted unread k place at;
    unprocessed = keeps_each (IsUnprocessed a) (words_of a Pragmas (spelling_of a part)) quoted unread k place at;
    reached = there;
  }

  is_unseen : (k : ℕ) (place : Part) → slice_get reached k ≡ Some place → IsUnseen a part place
  is_unseen k place at =
      let was = keeps_from (ReachesStart a part) (idle ++ quoted) reached reaches k place at in
      let there : Reaches a part place.start = keeps_each (ReachesStart a part) (idle ++ quoted) reached reaches k place at in
      elim (in_one idle quoted was.0 place was.1) [
        | inl found ↦ inl (is_name place there found.0 found.1)
        | inr found ↦ inr (is_in_pragma place there found.0 found.1)
      ]

  name_is : (place : Part) → IsUnseenName a part place → (k : ℕ) × (slice_get reached k ≡ Some place)
  name_is place u =
      let in_others = keeps_all (IsOther a part) (words_of a Names (spelling_of a part)) others other u.word.0 place u.word.1 u.other in
      let in_idle = keeps_all (IsIdle a) others idle idles in_others.0 place in_others.1 u.idle in
      let in_both = left_in idle quoted in_idle.0 place in_idle.1 in
      keeps_all (ReachesStart a part) (idle ++ quoted) reached reaches in_both.0 place in_both.1 u.reached

  in_pragma_is : (place : Part) → IsUnseenInPragma a part place → (k : ℕ) × (slice_get reached k ≡ Some place)
  in_pragma_is place u =
      let there = keeps_all (IsUnprocessed a) (words_of a Pragmas (spelling_of a part)) quoted unread u.word.0 place u.word.1 u.unprocessed in
      let in_both = right_in idle quoted there.0 place there.1 in
      keeps_all (ReachesStart a part) (idle ++ quoted) reached reaches in_both.0 place in_both.1 u.reached

  unseen_is : (place : Part) → IsUnseen a part place → (k : ℕ) × (slice_get reached k ≡ Some place)
  unseen_is place (inl u) = name_is place u
  unseen_is place (inr u) = in_pragma_is place u

  pub are_unseen : AreUnseen a part places
  are_unseen = record {
    each = λ k place at.
        let was = moved places reached (IsPermutation-sym reached places permuted) k place at in
        is_unseen was.0 place was.1;
    all = λ place u. let at = unseen_is place u in moved reached places permuted at.0 place at.1;
    sorted = sorted;
  }
