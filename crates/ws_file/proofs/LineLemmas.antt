-- The lines of a file, and the parts of a line.
use Rattle.std.proofs.Common.{◌≡◌, ℕ, Bool, true, false, suc, ◌+◌, ◌<◌, ◌==◌, List, [], ◌∷◌, length, take, drop, IsTrue, inl, inr, refl, ap, arith}
use Rattle.std.specs.List.{prefix_len, list_all, onto_first}
use Rattle.std.proofs.lemmas.Bool.{cases_Bool}
use Rattle.cs_base.specs.Units.{line_feed}
use Rattle.cs_base.proofs.ListLemmas.{prefix_len-cons, prefix_len-stop}
use Rattle.ws_file.specs.Lines.{lines_of}
use Rattle.ws_file.specs.Taking.{is_no_feed}

-- the front that a test takes passes it
pub list_all-prefix : {X : Type 0} (p : X → Bool) (xs : List X) → IsTrue (list_all p (take (prefix_len p xs) xs))
list_all-prefix p [] = refl
list_all-prefix p (x ∷ xs) =
    elim (cases_Bool (p x)) [
      | inl holds ↦ rw (prefix_len-cons p x xs holds, holds) (list_all-prefix p xs)
      | inr fails ↦ rw (prefix_len-stop p x xs fails) refl
    ]

-- Where a line feed is first.
lines_of-feed : (b : ℕ) (bytes : List ℕ) (n : ℕ) → n ≡ 0 → (b == line_feed) ≡ true
    → lines_of (b ∷ bytes) ≡ take n (b ∷ bytes) ∷ lines_of (drop (n + 1) (b ∷ bytes))
lines_of-feed b bytes n none feed = let one : n + 1 ≡ suc 0 = omega arith in rw (one, none, feed) refl

-- Where another byte is first.
lines_of-other : (b : ℕ) (bytes : List ℕ) (n m : ℕ) → n ≡ suc m → (b == line_feed) ≡ false
    → lines_of bytes ≡ take m bytes ∷ lines_of (drop (m + 1) bytes)
    → lines_of (b ∷ bytes) ≡ take n (b ∷ bytes) ∷ lines_of (drop (n + 1) (b ∷ bytes))
lines_of-other b bytes n m more other rest =
    let one : n + 1 ≡ suc (m + 1) = omega arith in
    rw (one, more, other) (ap (λ (lines : List (List ℕ)). onto_first b lines) rest)

-- the first line, and those of what follows it
pub lines_of-first : (bytes : List ℕ) → 0 < length bytes
    → lines_of bytes ≡ take (prefix_len is_no_feed bytes) bytes ∷ lines_of (drop (prefix_len is_no_feed bytes + 1) bytes)
lines_of-first [] some = absurd (omega arith)
lines_of-first (b ∷ []) some = elim (cases_Bool (b == line_feed)) [ inl feed ↦ rw feed refl | inr other ↦ rw other refl ]
lines_of-first (b ∷ c ∷ bytes) some =
    elim (cases_Bool (b == line_feed)) [
      | inl feed ↦ lines_of-feed b (c ∷ bytes) _ (prefix_len-stop is_no_feed b (c ∷ bytes) (rw feed refl)) feed
      | inr other ↦
          lines_of-other b (c ∷ bytes) _ _ (prefix_len-cons is_no_feed b (c ∷ bytes) (rw other refl)) other
          (lines_of-first (c ∷ bytes) (omega arith))
    ]
