-- A line of a word, a space and a rest, as it is read.
use Rattle.std.proofs.Common.{◌≡◌, ℕ, Bool, true, false, ◌&&◌, ◌||◌, ◌==◌, ◌+◌, ◌≤◌, ◌^◌, List, [], ◌∷◌, ◌++◌, length, drop, reverse, refl, ap, ◌∙◌, arith, lit<}
use Rattle.std.specs.Prelude.{nat_lt, nat_le}
use Rattle.std.specs.List.{list_all, position_or_len}
use Rattle.std.specs.Str.{is_utf8, bytes_eq}
use Rattle.std.proofs.lemmas.Bool.{le-ltb, or_parts, and_parts, and_from, not-true}
use Rattle.std.proofs.lemmas.Bool.Decides.{nat_tests}
use Rattle.std.proofs.lemmas.List.{reverse-reverse, take_at, drop_at}
use Rattle.std.proofs.lemmas.List.Folds.{list_all-append}
use Rattle.cs_base.specs.Units.{space, is_blank, begins_with, ends_with, has_bad_ends, backslash, is_writable}
use Rattle.cs_base.proofs.UnitLemmas.{is_utf8-ascii, is_utf8-around}
use Rattle.cs_base.proofs.ListLemmas.{has_bytes, all_more as list_all-weaker}
use Rattle.ws_file.specs.Lines.{without_first_blanks, without_last_blanks, trimmed, first_word, rest_of, line_word}
use Rattle.ws_file.specs.Reading.{Reading, number_sign, is_comment, with_word, with_text, with_line}
use Rattle.ws_file.specs.Taking.{IsTrimmed, is_no_feed, has_no_feed}
use Rattle.ws_file.proofs.TrimLemmas.{ends_with-append, rest_of-is}

-- What is true of a rest that a line gives back.
pub record IsRest (text : List ℕ) : Type 0 where
  pub is_trimmed : IsTrimmed text
  pub unslashed : ends_with (λ b. b == backslash) text ≡ false
  pub some : bytes_eq text [] ≡ false

pub IsRest-writable : (text : List ℕ) → is_writable text ≡ true → bytes_eq text [] ≡ false → IsRest text
unfolding is_writable
IsRest-writable text h some =
    let ends : has_bad_ends text ≡ false = not-true _ ((and_parts (is_utf8 text && has_no_feed text) _ h).1) in
    let blanks = (or_parts (begins_with is_blank text || ends_with is_blank text) (ends_with (λ b. b == backslash) text) ends).0 in
    record {
      is_trimmed = record {
        utf8 = (and_parts _ _ ((and_parts _ _ h).0)).0;
        one_line = (and_parts (is_utf8 text) _ ((and_parts _ _ h).0)).1;
        first = (or_parts (begins_with is_blank text) (ends_with is_blank text) blanks).0;
        last = (or_parts (begins_with is_blank text) (ends_with is_blank text) blanks).1;
      };
      unslashed = (or_parts (begins_with is_blank text || ends_with is_blank text) (ends_with (λ b. b == backslash) text) ends).1;
      some = some;
    }

-- a lower-case letter, of which the words are made
abbrev is_letter : ℕ → Bool
is_letter b = nat_le 97 b && nat_le b 122

-- A word of lines: a lower-case letter and more.
abbrev pub is_line_word : List ℕ → Bool
is_line_word [] = false
is_line_word (b ∷ word) = is_letter b && list_all is_letter word

letter-ascii : (b : ℕ) → is_letter b ≡ true → nat_lt b 128 ≡ true
letter-ascii b h = grind (arith, nat_tests, h)

letter-other : (b : ℕ) → is_letter b ≡ true → is_blank b ≡ false
letter-other b h = grind (arith, nat_tests, h)

letter-no_comment : (b : ℕ) → is_letter b ≡ true → (b == number_sign) ≡ false
letter-no_comment b h = grind (arith, nat_tests, h)

letter-no_feed : (b : ℕ) → is_letter b ≡ true → is_no_feed b ≡ true
letter-no_feed b h = grind (arith, nat_tests, h)

letters : (word : List ℕ) → is_line_word word ≡ true → list_all is_letter word ≡ true
letters [] h = refl
letters (b ∷ word) h = h

-- the line of a word and a rest
abbrev pub line_with : List ℕ → List ℕ → List ℕ
line_with word rest = word ++ space ∷ rest

is_utf8-line_with : (word rest : List ℕ) → is_line_word word ≡ true → IsRest rest → is_utf8 (line_with word rest) ≡ true
is_utf8-line_with word rest w r =
    is_utf8-around word rest space (lit< tt)
    (is_utf8-ascii word (list_all-weaker is_letter (λ b. nat_lt b 128) letter-ascii word (letters word w))) r.is_trimmed.utf8

pub has_no_feed-line_with : (word rest : List ℕ) → is_line_word word ≡ true → IsRest rest → has_no_feed (line_with word rest) ≡ true
has_no_feed-line_with word rest w r =
    list_all-append is_no_feed word (space ∷ rest)
    ∙ and_from _ _ (list_all-weaker is_letter is_no_feed letter-no_feed word (letters word w)) r.is_trimmed.one_line

begins_with-line_with : (word rest : List ℕ) → is_line_word word ≡ true → begins_with is_blank (line_with word rest) ≡ false
begins_with-line_with [] rest w = absurd (cc)
begins_with-line_with (b ∷ word) rest w = letter-other b ((and_parts _ _ w).0)

is_comment-line_with : (word rest : List ℕ) → is_line_word word ≡ true → is_comment (line_with word rest) ≡ false
is_comment-line_with [] rest w = absurd (cc)
is_comment-line_with (b ∷ word) rest w = letter-no_comment b ((and_parts _ _ w).0)

ends_with-line_with : (p : ℕ → Bool) (word rest : List ℕ) → IsRest rest → ends_with p (line_with word rest) ≡ ends_with p rest
ends_with-line_with p word rest r =
    ends_with-append p word (space ∷ rest) (omega arith) ∙ ends_with-append p (space ∷ []) rest (has_bytes rest r.some)

without_first-same : (text : List ℕ) → begins_with is_blank text ≡ false → without_first_blanks text ≡ text
without_first-same [] h = refl
without_first-same (b ∷ text) h = rw h refl

trimmed-same : (text : List ℕ) → begins_with is_blank text ≡ false → ends_with is_blank text ≡ false → trimmed text ≡ text
unfolding trimmed
trimmed-same text first last =
    ap without_last_blanks (without_first-same text first)
    ∙ ap reverse (without_first-same (reverse text) last)
    ∙ reverse-reverse text

-- how long the first word is
word_len-line_with : (word rest : List ℕ) → list_all is_letter word ≡ true → position_or_len is_blank (line_with word rest) ≡ length word
word_len-line_with [] rest w = refl
word_len-line_with (b ∷ word) rest w =
    let len = word_len-line_with word rest ((and_parts _ _ w).1) in
    rw (letter-other b ((and_parts _ _ w).0), len) (omega arith)

first_word-line_with : (word rest : List ℕ) → is_line_word word ≡ true → first_word (line_with word rest) ≡ word
unfolding first_word
first_word-line_with word rest w =
    rw (word_len-line_with word rest (letters word w)) (take_at word (space ∷ rest) (length word) refl)

rest_of-line_with : (word rest : List ℕ) → is_line_word word ≡ true → IsRest rest → rest_of (line_with word rest) ≡ rest
rest_of-line_with word rest w r =
    let behind : drop (length word) (line_with word rest) ≡ space ∷ rest = drop_at word (space ∷ rest) (length word) refl in
    rest_of-is (line_with word rest)
    ∙ rw (word_len-line_with word rest (letters word w), behind) (without_first-same rest r.is_trimmed.first)

with_text-line_with : (word rest : List ℕ) (r : Reading) → is_line_word word ≡ true → IsRest rest
    → with_text (line_with word rest) r ≡ with_word (line_word word) rest r
unfolding with_text
with_text-line_with word rest r w q =
    let slashed = ends_with-line_with (λ b. b == backslash) word rest q ∙ q.unslashed in
    rw (slashed, is_comment-line_with word rest w, rest_of-line_with word rest w q, q.some, first_word-line_with word rest w) refl

-- the line is read as its word and its rest say
pub with_line-line_with : (start : ℕ) (word rest : List ℕ) (r : Reading) → is_line_word word ≡ true → IsRest rest
    → start + length (line_with word rest) ≤ 2 ^ 22
    → with_line start (line_with word rest) r ≡ with_word (line_word word) rest r
unfolding with_line
with_line-line_with start word rest r w q fits =
    let line = line_with word rest in
    let within : nat_lt (2 ^ 22) (start + length line) ≡ false = le-ltb (2 ^ 22) (start + length line) fits in
    let same =
    trimmed-same line (begins_with-line_with word rest w) (ends_with-line_with is_blank word rest q ∙ q.is_trimmed.last) in
    rw (within, is_utf8-line_with word rest w q, same) (with_text-line_with word rest r w q)
