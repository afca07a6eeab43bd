-- What trimming keeps of a text, and what the rest of a line is.
use Rattle.std.proofs.Common.{◌≡◌, ℕ, suc, Bool, true, false, not, ◌==◌, ◌+◌, ◌<◌, List, [], ◌∷◌, ◌++◌, IsTrue, length, take, drop, reverse, inl, inr, refl, ap, sym, ◌∙◌, arith, append_assoc}
use Rattle.std.specs.List.{list_all, position_or_len}
use Rattle.std.specs.Str.{is_utf8, bytes_eq}
use Rattle.std.proofs.lemmas.Bool.{cases_Bool, and_parts, and_from}
use Rattle.std.proofs.lemmas.Bool.Decides.{nat_tests}
use Rattle.std.proofs.lemmas.List.{reverse-append, reverse-reverse, take-append-drop, length-reverse}
use Rattle.std.proofs.lemmas.List.Folds.{list_all-append, length-prefix_len}
use Rattle.cs_base.specs.Units.{is_blank, begins_with, ends_with, backslash, is_writable}
use Rattle.cs_base.proofs.PathLaws.{list_all-reverse}
use Rattle.cs_base.proofs.UnitLemmas.{is_utf8-front, is_utf8-back, is_utf8-ascii}
use Rattle.cs_base.proofs.ListLemmas.{has_bytes}
use Rattle.ws_file.specs.Lines.{without_first_blanks, without_last_blanks, trimmed, first_word, rest_of}
use Rattle.ws_file.specs.Taking.{IsTrimmed, is_no_feed, has_no_feed}

is_blank-ascii : (b : ℕ) → is_blank b ≡ true → b < 128
is_blank-ascii b h = grind (arith, nat_tests, h)

reverse-cons : (b : ℕ) (text : List ℕ) → reverse (b ∷ text) ≡ reverse text ++ b ∷ []
reverse-cons b text = reverse-append (b ∷ []) text

is_utf8-without_first : (text : List ℕ) → is_utf8 text ≡ true → is_utf8 (without_first_blanks text) ≡ true
is_utf8-without_first [] h = h
is_utf8-without_first (b ∷ text) h =
    elim (cases_Bool (is_blank b)) [
      | inl blank ↦ rw blank (is_utf8-without_first text (is_utf8-back [] text b (is_blank-ascii b blank) h))
      | inr other ↦ rw other h
    ]

is_utf8-reverse : (turned : List ℕ) → is_utf8 (reverse turned) ≡ true → is_utf8 (reverse (without_first_blanks turned)) ≡ true
is_utf8-reverse [] h = h
is_utf8-reverse (b ∷ turned) h =
    elim (cases_Bool (is_blank b)) [
      | inl blank ↦
          let whole : is_utf8 (reverse turned ++ b ∷ []) ≡ true = rw reverse-cons at h in
          rw blank (is_utf8-reverse turned (is_utf8-front (reverse turned) [] b (is_blank-ascii b blank) whole))
      | inr other ↦ rw other h
    ]

list_all-without_first : (p : ℕ → Bool) (text : List ℕ) → list_all p text ≡ true → list_all p (without_first_blanks text) ≡ true
list_all-without_first p [] h = h
list_all-without_first p (b ∷ text) h =
    elim (cases_Bool (is_blank b)) [
      | inl blank ↦ rw blank (list_all-without_first p text ((and_parts _ _ h).1))
      | inr other ↦ rw other h
    ]

begins_with-without_first : (text : List ℕ) → begins_with is_blank (without_first_blanks text) ≡ false
begins_with-without_first [] = refl
begins_with-without_first (b ∷ text) =
    elim (cases_Bool (is_blank b)) [ inl blank ↦ rw blank (begins_with-without_first text) | inr other ↦ rw other other ]

without_first-push : (text : List ℕ) (b : ℕ) → is_blank b ≡ false → without_first_blanks (text ++ b ∷ []) ≡ without_first_blanks text ++ b ∷ []
without_first-push [] b other = rw other refl
without_first-push (c ∷ text) b other =
    elim (cases_Bool (is_blank c)) [
      | inl blank ↦ rw blank (without_first-push text b other)
      | inr kept ↦ rw kept refl
    ]

begins_with-without_last : (text : List ℕ) → begins_with is_blank text ≡ false → begins_with is_blank (without_last_blanks text) ≡ false
begins_with-without_last [] h = refl
begins_with-without_last (b ∷ text) h =
    let front = without_first_blanks (reverse text) in
    let turned : without_last_blanks (b ∷ text) ≡ b ∷ reverse front =
    ap (λ (bytes : List ℕ). reverse (without_first_blanks bytes)) (reverse-cons b text)
    ∙ ap reverse (without_first-push (reverse text) b h)
    ∙ reverse-append front (b ∷ []) in
    rw turned h

ends_with-without_last : (text : List ℕ) → ends_with is_blank (without_last_blanks text) ≡ false
ends_with-without_last text =
    ap (begins_with is_blank) (reverse-reverse (without_first_blanks (reverse text)))
    ∙ begins_with-without_first (reverse text)

-- a line without the blanks at its ends
pub IsTrimmed-trimmed : (line : List ℕ) → IsTrue (is_utf8 line) → IsTrue (has_no_feed line) → IsTrimmed (trimmed line)
unfolding trimmed
IsTrimmed-trimmed line utf8 one_line =
    let text = without_first_blanks line in
    let text_utf8 = is_utf8-without_first line utf8 in
    let text_line = list_all-without_first is_no_feed line one_line in
    let turned : is_utf8 (reverse (reverse text)) ≡ true = rw reverse-reverse text_utf8 in
    record {
      utf8 = is_utf8-reverse (reverse text) turned;
      one_line =
          list_all-reverse is_no_feed (without_first_blanks (reverse text))
          (list_all-without_first is_no_feed (reverse text) (list_all-reverse is_no_feed text text_line));
      first = begins_with-without_last text (begins_with-without_first line);
      last = ends_with-without_last text;
    }

-- the first byte of a text stays where something is added behind it
begins_with-append : (p : ℕ → Bool) (text more : List ℕ) → 0 < length text → begins_with p (text ++ more) ≡ begins_with p text
begins_with-append p [] more some = absurd (omega arith)
begins_with-append p (b ∷ text) more some = refl

-- the last byte of a text stays where something is added before it
pub ends_with-append : (p : ℕ → Bool) (before text : List ℕ) → 0 < length text → ends_with p (before ++ text) ≡ ends_with p text
ends_with-append p before text some =
    ap (begins_with p) (reverse-append before text)
    ∙ begins_with-append p (reverse text) (reverse before) (omega (arith, length-reverse text))

-- what a text without its first blanks lacks
first_blanks : (text : List ℕ) → (blanks : List ℕ) × (blanks ++ without_first_blanks text ≡ text)
first_blanks [] = ([], refl)
first_blanks (b ∷ text) =
    let rest = first_blanks text in
    elim (cases_Bool (is_blank b)) [
      | inl blank ↦ (b ∷ rest.0, rw blank (ap (λ (bytes : List ℕ). b ∷ bytes) rest.1))
      | inr other ↦ ([], rw other refl)
    ]

-- What stands behind a word begins with a blank, if anything.
abbrev begins_blank : List ℕ → Bool
begins_blank [] = true
begins_blank (b ∷ text) = is_blank b

behind_word : (text : List ℕ) → begins_blank (drop (position_or_len is_blank text) text) ≡ true
behind_word [] = refl
behind_word (b ∷ text) =
    elim (cases_Bool (is_blank b)) [
      | inl blank ↦ rw blank blank
      | inr other ↦
          let more : 1 + position_or_len is_blank text ≡ suc (position_or_len is_blank text) = omega arith in
          rw (other, more) (behind_word text)
    ]

is_utf8-behind : (word more : List ℕ) → is_utf8 (word ++ more) ≡ true → begins_blank more ≡ true → is_utf8 (without_first_blanks more) ≡ true
is_utf8-behind word [] h blank = is_utf8-ascii [] refl
is_utf8-behind word (b ∷ more) h blank =
    rw blank (is_utf8-without_first more (is_utf8-back word more b (is_blank-ascii b blank) h))

pub rest_of-is : (text : List ℕ) → rest_of text ≡ without_first_blanks (drop (position_or_len is_blank text) text)
unfolding rest_of first_word
rest_of-is text =
    ap (λ (n : ℕ). without_first_blanks (drop n text)) (length-prefix_len (λ b. not (is_blank b)) text)

-- the rest of a line can stand in a line
pub is_writable-rest_of : (text : List ℕ) → IsTrimmed text → ends_with (λ b. b == backslash) text ≡ false → bytes_eq (rest_of text) [] ≡ false
    → is_writable (rest_of text) ≡ true
unfolding is_writable
is_writable-rest_of text t slashed full =
    let n = position_or_len is_blank text in
    let word = take n text in
    let more = drop n text in
    let rest = without_first_blanks more in
    let whole : word ++ more ≡ text = take-append-drop n text in
    let utf8 : is_utf8 rest ≡ true = is_utf8-behind word more (rw whole t.utf8) (behind_word text) in
    let all_line : list_all is_no_feed (word ++ more) ≡ true = rw whole t.one_line in
    let one_line =
    list_all-without_first is_no_feed more
    ((and_parts (list_all is_no_feed word) (list_all is_no_feed more) (sym (list_all-append is_no_feed word more) ∙ all_line)).1) in
    let blanks = first_blanks more in
    let text_is : (word ++ blanks.0) ++ rest ≡ text = append_assoc word blanks.0 rest ∙ ap (λ (bytes : List ℕ). word ++ bytes) blanks.1 ∙ whole in
    let is = rest_of-is text in
    let some = has_bytes (rest_of text) full in
    let some' : 0 < length rest = omega (arith, some, ap length is) in
    let last : ends_with is_blank rest ≡ false =
    sym (ends_with-append is_blank (word ++ blanks.0) rest some') ∙ ap (ends_with is_blank) text_is ∙ t.last in
    let end : ends_with (λ b. b == backslash) rest ≡ false =
    sym (ends_with-append (λ b. b == backslash) (word ++ blanks.0) rest some')
    ∙ ap (ends_with (λ b. b == backslash)) text_is ∙ slashed in
    let first = begins_with-without_first more in
    rw is (and_from _ _ (and_from _ _ utf8 one_line) (rw (first, last, end) refl))
