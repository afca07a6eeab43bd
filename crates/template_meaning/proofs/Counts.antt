-- How many pass a test, where it is those up to a place; and tokens of a file by the characters at which they begin.
use Rattle.std.proofs.Common.{◌≡◌, ℕ, zero, suc, ◌+◌, ◌<◌, ◌≤◌, Bool, true, false, cond, List, [], ◌∷◌, length, Option, None, Some, Result, Ok, Err, refl, sym, ap, subst, ◌∙◌, arith}
use Rattle.std.specs.Prelude.{slice_get, nat_lt, count_by}
use Rattle.std.specs.Option.{option_and_then}
use Rattle.std.proofs.lemmas.Bool.{false≢true, lt-ltb, ltb-true}
use Rattle.std.proofs.lemmas.List.Sums.{sum_by-cons}
use Rattle.std.proofs.lemmas.Option.{same_Some}
use Rattle.cs_base.specs.declared.positions.Pos.{Pos}
use Rattle.cs_base.specs.Token.{Token, origin_at}
use Rattle.lexer.specs.Order.{InOrder}
use Rattle.lexer.specs.Places.{pos}
use Rattle.lexer.specs.Tokens.{tokens_of}
use Rattle.lexer.specs.Logical.{logical_of}
use Rattle.lexer.specs.FileText.{TextValue, LexFault, file_text}
use Rattle.source_files.specs.Files.{SourceFile, source_file, Table}
use Rattle.source_files.specs.KeptFiles.{KeptValue, kept_at}
use Rattle.source_files.specs.Sources.{source_at, source_kept, read_as}
use Rattle.edited_unit_laws.proofs.FileLemmas.{token_stands}
use Rattle.lexer.proofs.OrderLemmas.{tokens_of-in_order, later_all}
use Rattle.lexer.proofs.OriginLemmas.{first_origin as origin_first}
use Rattle.lexer.proofs.TextLemmas.{file_text-toks as text_toks}
use Rattle.template_rules.specs.FileLists.{begun_before}

-- ---- counting

count_on : (b : Bool) (n : ℕ) → b ≡ true → cond b 1 0 + n ≡ n + 1
count_on true n e = omega arith
count_on false n e = absurd (false≢true e)

count_off : (b : Bool) (n : ℕ) → b ≡ false → cond b 1 0 + n ≡ n
count_off true n e = absurd (false≢true (sym e))
count_off false n e = omega arith

count_most : (b : Bool) → cond b 1 0 ≤ 1
count_most true = omega arith
count_most false = omega arith

module _ {X : Type 0} (p : X → Bool) where
  cons : (x : X) (xs : List X) → count_by p (x ∷ xs) ≡ cond (p x) 1 0 + count_by p xs
  cons x xs = sum_by-cons (λ (y : X). cond (p y) 1 0) x xs

  pub counted_none : (xs : List X) → ((i : ℕ) (x : X) → slice_get xs i ≡ Some x → p x ≡ false) → count_by p xs ≡ 0
  counted_none [] f = refl
  counted_none (x ∷ xs) f =
      let here = count_off (p x) (count_by p xs) (f 0 x refl) in
      let rest = counted_none xs (λ i y e. f (suc i) y e) in
      omega (arith, cons x xs, here, rest)

  pub counted_few : (xs : List X) (n : ℕ) → ((i : ℕ) (x : X) → n ≤ i → slice_get xs i ≡ Some x → p x ≡ false) → count_by p xs ≤ n
  counted_few [] n f = omega arith
  counted_few (x ∷ xs) zero f = let none = counted_none (x ∷ xs) (λ i y e. f i y (omega arith) e) in omega (arith, none)
  counted_few (x ∷ xs) (suc n) f =
      let most = count_most (p x) in
      let rest = counted_few xs n (λ i y le e. f (suc i) y (omega (arith, le)) e) in
      omega (arith, cons x xs, most, rest)

  pub counted_some : (xs : List X) (i : ℕ) (x : X) → slice_get xs i ≡ Some x → p x ≡ true → 1 ≤ count_by p xs
  counted_some [] i x e h = absurd (cc)
  counted_some (y ∷ xs) zero x e h = let here = count_on (p y) (count_by p xs) (ap p (same_Some y x e) ∙ h) in omega (arith, cons y xs, here)
  counted_some (y ∷ xs) (suc i) x e h = let rest = counted_some xs i x e h in omega (arith, cons y xs, rest)

  pub counted_at : (xs : List X) (n : ℕ) → n < length xs → ((i : ℕ) (x : X) → i ≤ n → slice_get xs i ≡ Some x → p x ≡ true) → ((i : ℕ) (x : X) → n < i → slice_get xs i ≡ Some x → p x ≡ false) → count_by p xs ≡ n + 1
  counted_at [] n lt f g = absurd (omega (arith, lt))
  counted_at (x ∷ xs) zero lt f g =
      let here = count_on (p x) (count_by p xs) (f 0 x (omega arith) refl) in
      let rest = counted_none xs (λ i y e. g (suc i) y (omega arith) e) in
      omega (arith, cons x xs, here, rest)
  counted_at (x ∷ xs) (suc n) lt f g =
      let here = count_on (p x) (count_by p xs) (f 0 x (omega arith) refl) in
      let rest = counted_at xs n (omega (arith, lt)) (λ i y le e. f (suc i) y (omega (arith, le)) e) (λ i y far e. g (suc i) y (omega (arith, far)) e) in
      omega (arith, cons x xs, here, rest)

  pub counted_more : (xs : List X) (n : ℕ) → n < length xs → ((i : ℕ) (x : X) → i ≤ n → slice_get xs i ≡ Some x → p x ≡ true) → (j : ℕ) (y : X) → n < j → slice_get xs j ≡ Some y → p y ≡ true → n + 1 < count_by p xs
  counted_more [] n lt f j y far e h = absurd (omega (arith, lt))
  counted_more (x ∷ xs) n lt f zero y far e h = absurd (omega (arith, far))
  counted_more (x ∷ xs) zero lt f (suc j) y far e h =
      let here = count_on (p x) (count_by p xs) (f 0 x (omega arith) refl) in
      let rest = counted_some xs j y e h in
      omega (arith, cons x xs, here, rest)
  counted_more (x ∷ xs) (suc n) lt f (suc j) y far e h =
      let here = count_on (p x) (count_by p xs) (f 0 x (omega arith) refl) in
      let rest = counted_more xs n (omega (arith, lt)) (λ i z le g. f (suc i) z (omega (arith, le)) g) j y (omega (arith, far)) e h in
      omega (arith, cons x xs, here, rest)

-- ---- tokens of a file

past : (x y : ℕ) → y ≤ x → nat_lt x y ≡ false
past x y le = by (nat_lt x y) refl
  where
    by : (b : Bool) → nat_lt x y ≡ b → b ≡ false
    by false e = refl
    by true e = let lt = ltb-true x y e in absurd (omega (arith, lt, le))

pub begun_in : (from to : ℕ) (ts : List Token) → InOrder from to ts → (i : ℕ) (t : Token) → slice_get ts i ≡ Some t → begun_before ts t.at.at ≡ i
begun_in from to [] h i t e = absurd (cc)
begun_in from to (u ∷ ts) h zero t e =
    let same = same_Some u t e in
    let place : t.at.at ≡ u.at.at = ap (λ (x : Token). x.at.at) (sym same) in
    counted_none (λ (x : Token). nat_lt x.at.at t.at.at) (u ∷ ts) (λ j x g. past x.at.at t.at.at (all j x g place))
  where
    all : (j : ℕ) (x : Token) → slice_get (u ∷ ts) j ≡ Some x → t.at.at ≡ u.at.at → t.at.at ≤ x.at.at
    all zero x g place = let one = ap (λ (y : Token). y.at.at) (same_Some u x g) in omega (arith, one, place)
    all (suc j) x g place = let far = later_all (u.at.at + length u.text) to ts h.3 j x g in omega (arith, far, place)
begun_in from to (u ∷ ts) h (suc i) t e =
    let far = later_all (u.at.at + length u.text) to ts h.3 i t e in
    let some = h.1 in
    let here = count_on (nat_lt u.at.at t.at.at) (count_by (λ (x : Token). nat_lt x.at.at t.at.at) ts) (lt-ltb u.at.at t.at.at (omega (arith, far, some))) in
    let rest = begun_in (u.at.at + length u.text) to ts h.3 i t e in
    omega (arith, cons (λ (x : Token). nat_lt x.at.at t.at.at) u ts, here, rest)

-- ---- kept files

some_text : (from to : ℕ) (ts : List Token) → InOrder from to ts → (i : ℕ) (t : Token) → slice_get ts i ≡ Some t → 1 ≤ length t.text
some_text from to [] h i t e = absurd (cc)
some_text from to (u ∷ ts) h zero t e = subst (λ (x : Token). 1 ≤ length x.text) (same_Some u t e) h.1
some_text from to (u ∷ ts) h (suc i) t e = some_text (u.at.at + length u.text) to ts h.3 i t e

-- The tokens of a kept file stand in it, one behind the other.
pub record HasTokens (file : SourceFile) : Type 0 where
  pub bytes : List ℕ
  pub toks_are : file.text.toks ≡ tokens_of file.number bytes
  pub begun : (i : ℕ) (t : Token) → slice_get file.text.toks i ≡ Some t → begun_before file.text.toks t.at.at ≡ i
  pub origin : (i : ℕ) (t : Token) → slice_get file.text.toks i ≡ Some t → origin_at t 0 ≡ Some (pos file.number t.at.at)

tokens_have : (file : SourceFile) (bytes : List ℕ) → file_text file.number bytes ≡ Ok file.text → HasTokens file
tokens_have file bytes e =
    let same = text_toks file.number bytes file.text e in
    let order = tokens_of-in_order file.number bytes in
    record {
      bytes = bytes;
      toks_are = same;
      begun = λ i t at.
          subst (λ (ts : List Token). begun_before ts t.at.at ≡ i) (sym same) (begun_in 0 (length (logical_of bytes)) (tokens_of file.number bytes) order i t (ap (λ (ts : List Token). slice_get ts i) (sym same) ∙ at));
      origin = λ i t at.
          let there = ap (λ (ts : List Token). slice_get ts i) (sym same) ∙ at in
          let s = token_stands file.number bytes t (i, there) in
          let some = some_text 0 (length (logical_of bytes)) (tokens_of file.number bytes) order i t there in
          ap (λ (l : List (Option Pos)). option_and_then (λ (o : Option Pos). o) (slice_get l 0)) s.origins
          ∙ ap (option_and_then (λ (o : Option Pos). o)) (origin_first file.number t.at.at (length t.text) some);
    }

pub kept_tokens_have : (files : Table) (number : ℕ) (file : SourceFile) → source_at files number ≡ Some file → HasTokens file
kept_tokens_have files number file e = by_kept (kept_at files number) e
  where
    by_text : (k : KeptValue) (r : Result TextValue LexFault) → file_text k.number k.bytes ≡ r → read_as k.number k.path r ≡ Some file → HasTokens file
    by_text k (Ok text) at same = subst HasTokens (same_Some (source_file k.number k.path text) file same) (tokens_have (source_file k.number k.path text) k.bytes at)
    by_text k (Err f) at same = absurd (cc)

    by_kept : (o : Option KeptValue) → option_and_then source_kept o ≡ Some file → HasTokens file
    by_kept None same = absurd (cc)
    by_kept (Some k) same = by_text k (file_text k.number k.bytes) refl same
