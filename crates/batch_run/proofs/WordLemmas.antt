-- The words of a line that is text are text, and so is a path of such a word in its normal form.
use Rattle.std.proofs.Common.{◌≡◌, ◌≤◌, ◌<◌, ◌+◌, ◌-◌, ◌^◌, ℕ, Bool, true, false, ◌==◌, List, [], ◌∷◌, ◌++◌, length, take, reverse, inl, inr, refl, sym, ap, ◌∙◌, lit<, arith, length-append}
use Rattle.std.specs.Prelude.{◌&&◌, IsUtf8, None, codes, nat_lt, slice_index_or, if◌then◌else◌}
use Rattle.std.specs.Borrow.{Bor}
use Rattle.std.specs.List.{list_all, join_with_byte}
use Rattle.std.specs.Str.{bytes_eq, is_utf8}
use Rattle.std.proofs.lemmas.Bool.{cases_Bool, eqb-true, le-ltb, and_from, and_parts}
use Rattle.std.proofs.lemmas.List.{reverse-append, reverse-reverse, take_at}
use Rattle.std.proofs.lemmas.List.Splits.{join_with_byte-slice_split}
use Rattle.std.proofs.lemmas.Str.{IsUtf8-from_is_utf8, is_utf8-from_IsUtf8, IsUtf8-nil}
use Rattle.cs_base.specs.Paths.{slash, normal_path_of}
use Rattle.cs_base.specs.Units.{begins_with, ends_with}
use Rattle.cs_base.proofs.PathLaws.{IsByParts, normal_path_of-keeps}
use Rattle.cs_base.proofs.UnitLemmas.{is_utf8-front, is_utf8-back, is_utf8-around}
use Rattle.batch_run.specs.Reading.{space, carriage_return, words_of, renaming_of, asked_by, without_return, line_at}
use Rattle.batch_run.specs.Taking.{texts_of}

parts_utf8 : (parts : List (List ℕ)) → is_utf8 (join_with_byte space parts) ≡ true → list_all is_utf8 parts ≡ true
parts_utf8 [] h = refl
parts_utf8 (x ∷ []) h = and_from _ _ h refl
parts_utf8 (x ∷ y ∷ parts) h =
    and_from _ _ (is_utf8-front x (join_with_byte space (y ∷ parts)) space (lit< tt) h)
    (parts_utf8 (y ∷ parts) (is_utf8-back x (join_with_byte space (y ∷ parts)) space (lit< tt) h))

pub words_utf8 : (line : List ℕ) → is_utf8 line ≡ true → list_all is_utf8 (words_of line) ≡ true
words_utf8 line h = parts_utf8 (words_of line) (ap is_utf8 (join_with_byte-slice_split space line) ∙ h)

utf8_by_parts : IsByParts is_utf8
utf8_by_parts = record {
  nil = is_utf8-from_IsUtf8 [] IsUtf8-nil;
  front = λ xs ys h. is_utf8-front xs ys slash (lit< tt) h;
  back = λ xs ys h. is_utf8-back xs ys slash (lit< tt) h;
  whole = λ xs ys h q. is_utf8-around xs ys slash (lit< tt) h q;
}

pub IsUtf8-normal_path_of : (path : List ℕ) → IsUtf8 path → IsUtf8 (normal_path_of path)
IsUtf8-normal_path_of path text =
    IsUtf8-from_is_utf8 (normal_path_of path) (normal_path_of-keeps is_utf8 utf8_by_parts path (is_utf8-from_IsUtf8 path text))

-- ---- five words, or six

abbrev pub word_at : List (Bor (List ℕ)) → ℕ → List ℕ
word_at words k = (slice_index_or words k (record { ref_ptr = (0, 0); now = [] })).now

-- what five words ask for
pub asked_by-five : (words : List (Bor (List ℕ))) → length words ≡ 5
    → asked_by (texts_of words)
    ≡ (if bytes_eq (word_at words 0) (codes "rename") then renaming_of (word_at words 1) (word_at words 2) (word_at words 3) (word_at words 4) false else None)
unfolding asked_by
asked_by-five [] five = absurd (omega arith)
asked_by-five (a ∷ []) five = absurd (omega arith)
asked_by-five (a ∷ b ∷ []) five = absurd (omega arith)
asked_by-five (a ∷ b ∷ c ∷ []) five = absurd (omega arith)
asked_by-five (a ∷ b ∷ c ∷ d ∷ []) five = absurd (omega arith)
asked_by-five (a ∷ b ∷ c ∷ d ∷ e ∷ []) five = refl
asked_by-five (a ∷ b ∷ c ∷ d ∷ e ∷ f ∷ words) five = absurd (omega arith)

-- what six words ask for
pub asked_by-six : (words : List (Bor (List ℕ))) → length words ≡ 6
    → asked_by (texts_of words)
    ≡ (if bytes_eq (word_at words 0) (codes "rename") && bytes_eq (word_at words 5) (codes "strings")
    then renaming_of (word_at words 1) (word_at words 2) (word_at words 3) (word_at words 4) true else None)
unfolding asked_by
asked_by-six [] six = absurd (omega arith)
asked_by-six (a ∷ []) six = absurd (omega arith)
asked_by-six (a ∷ b ∷ []) six = absurd (omega arith)
asked_by-six (a ∷ b ∷ c ∷ []) six = absurd (omega arith)
asked_by-six (a ∷ b ∷ c ∷ d ∷ []) six = absurd (omega arith)
asked_by-six (a ∷ b ∷ c ∷ d ∷ e ∷ []) six = absurd (omega arith)
asked_by-six (a ∷ b ∷ c ∷ d ∷ e ∷ f ∷ []) six = refl
asked_by-six (a ∷ b ∷ c ∷ d ∷ e ∷ f ∷ g ∷ words) six = absurd (omega arith)

-- fewer words ask for nothing, and neither do more
pub asked_by-other : (words : List (Bor (List ℕ))) → (length words ≡ 5 → ⊥) → (length words ≡ 6 → ⊥) → asked_by (texts_of words) ≡ None
unfolding asked_by
asked_by-other [] other more = refl
asked_by-other (a ∷ []) other more = refl
asked_by-other (a ∷ b ∷ []) other more = refl
asked_by-other (a ∷ b ∷ c ∷ []) other more = refl
asked_by-other (a ∷ b ∷ c ∷ d ∷ []) other more = refl
asked_by-other (a ∷ b ∷ c ∷ d ∷ e ∷ []) other more = absurd (other refl)
asked_by-other (a ∷ b ∷ c ∷ d ∷ e ∷ f ∷ []) other more = absurd (more refl)
asked_by-other (a ∷ b ∷ c ∷ d ∷ e ∷ f ∷ g ∷ words) other more = refl

-- the second of words is text where all are
pub second_utf8 : (words : List (Bor (List ℕ))) → 1 < length words → list_all is_utf8 (texts_of words) ≡ true → IsUtf8 (word_at words 1)
second_utf8 [] two h = absurd (omega arith)
second_utf8 (a ∷ []) two h = absurd (omega arith)
second_utf8 (a ∷ b ∷ words) two h = IsUtf8-from_is_utf8 b.now ((and_parts _ _ ((and_parts _ _ h).1)).0)

-- ---- a line without its carriage return

-- the front of a text that is UTF-8 and ends with an ASCII byte
front_by : (turned line : List ℕ) → reverse line ≡ turned → begins_with (λ b. b == carriage_return) turned ≡ true → is_utf8 line ≡ true
    → is_utf8 (take (length line - 1) line) ≡ true
front_by [] line e ends h = absurd (cc)
front_by (b ∷ turned) line e ends h =
    let whole : line ≡ reverse turned ++ b ∷ [] = sym (reverse-reverse line) ∙ ap reverse e ∙ reverse-append (b ∷ []) turned in
    let ascii : b < 128 = omega (arith, eqb-true b carriage_return ends) in
    let len : length line - 1 ≡ length (reverse turned) = omega (arith, ap (λ (bs : List ℕ). length bs) whole, length-append (reverse turned) (b ∷ [])) in
    let front : take (length line - 1) line ≡ reverse turned =
    ap (λ (n : ℕ). take n line) len ∙ ap (take (length (reverse turned))) whole ∙ take_at (reverse turned) (b ∷ []) (length (reverse turned)) refl in
    ap is_utf8 front ∙ is_utf8-front (reverse turned) [] b ascii (sym (ap is_utf8 whole) ∙ h)

front_utf8 : (line : List ℕ) → ends_with (λ b. b == carriage_return) line ≡ true → is_utf8 line ≡ true → is_utf8 (take (length line - 1) line) ≡ true
front_utf8 line ends h = front_by (reverse line) line refl ends h

pub without_return_utf8 : (ended : Bool) (line : List ℕ) → is_utf8 line ≡ true → is_utf8 (without_return ended line) ≡ true
without_return_utf8 false line h = h
without_return_utf8 true line h = elim (cases_Bool (ends_with (λ b. b == carriage_return) line)) [
  | inl ends ↦ rw ends (front_utf8 line ends h)
  | inr other ↦ rw other h
]

-- ---- a line

-- each other line asks for what its words ask for
pub line_at-words : (size start : ℕ) (line : List ℕ) → start + length line ≤ 2 ^ 22 → is_utf8 line ≡ true
    → line_at size start line ≡ asked_by (words_of (without_return (nat_lt (start + length line) size) line))
unfolding line_at
line_at-words size start line within text = rw (le-ltb (2 ^ 22) (start + length line) within, text) refl
