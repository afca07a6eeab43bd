-- An identifier is one token.
use Rattle.std.proofs.Common.{◌≡◌, ℕ, zero, suc, ◌+◌, ◌-◌, ◌==◌, Bool, true, false, List, [], ◌∷◌, length, take, Option, Some, is_some, unwrap_or, refl, sym, ap, ◌∙◌, arith}
use Rattle.std.specs.List.{list_all}
use Rattle.std.proofs.lemmas.Bool.{both_ways, and_parts, false_from_ne_true, eqb-true}
use Rattle.std.proofs.lemmas.Bool.Decides.{nat_tests}
use Rattle.std.proofs.Math.Seq.{take-length}
use Rattle.cs_base.specs.declared.tokens.Kind.{Kind}
use Rattle.cs_base.specs.declared.tokens.Kind.TheVariants.{Ident, Other}
use Rattle.lexer.specs.Characters.{line_feed, slash, is_nondigit, is_word, is_white}
use Rattle.lexer.specs.Logical.{Character, logical_from, logical_of, spelling}
use Rattle.lexer.specs.OneToken.{free_kind, only_token, one_token_of}
use Rattle.lexer.specs.Spelling.{is_identifier_text, kind_of, kind_in}
use Rattle.lexer.specs.Tokens.{front_length, kind_or_other, token_piece, piece_of, expects_header, with_token, found_from, found_of}
use Rattle.lexer.proofs.FitLemmas.{identifier-words}
use Rattle.lexer.proofs.EditedBytes.{gone-word as word_stays}

-- a letter, a digit or `_` is none of some other characters
pub word_apart : (c d : ℕ) → is_word d ≡ false → is_word c ≡ true → (c == d) ≡ false
word_apart c d other is = false_from_ne_true (c == d) (λ same. both_ways (is_word d) other (ap is_word (sym (eqb-true c d same)) ∙ is))

-- words are their own logical text
words_logical : (at : ℕ) (text : List ℕ) → list_all is_word text ≡ true → spelling (logical_from 0 at text) ≡ text
unfolding logical_from
words_logical at [] h = refl
words_logical at (c ∷ cs) h =
    let both = and_parts (is_word c) (list_all is_word cs) h in
    rw (word_stays c cs both.0) (ap (λ (w : List ℕ). c ∷ w) (words_logical (at + 1) cs both.1))

-- characters that belong to the piece before
skipped : (file : ℕ) (bytes : List ℕ) (skip : ℕ) (gap : Bool) (front : _) (at : ℕ) (cs : List Character) → length cs ≡ skip
    → found_from file bytes skip gap front at cs ≡ []
unfolding found_from
skipped file bytes zero gap front at [] same = refl
skipped file bytes (suc skip) gap front at [] same = refl
skipped file bytes zero gap front at (c ∷ cs) same = absurd (omega (arith, same))
skipped file bytes (suc skip) gap front at (c ∷ cs) same = skipped file bytes skip gap front (at + 1) cs (omega (arith, same))

kind_word : (c : ℕ) (cs : List ℕ) → is_identifier_text (c ∷ cs) ≡ true → kind_in false (c ∷ cs) ≡ Some Ident
unfolding kind_in kind_of
kind_word c cs h = rw h refl

front_whole : (c : ℕ) (cs : List ℕ) → is_identifier_text (c ∷ cs) ≡ true → front_length false (c ∷ cs) ≡ suc (length cs)
unfolding front_length
front_whole c cs h =
    let all : take (suc (length cs)) (c ∷ cs) ≡ c ∷ cs = take-length (c ∷ cs) in
    let some : is_some (kind_in false (take (suc (length cs)) (c ∷ cs))) ≡ true = ap (λ (w : List ℕ). is_some (kind_in false w)) all ∙ ap is_some (kind_word c cs h) in
    rw some refl

-- an identifier begins with no white space and with no comment
piece_word : (c : ℕ) (cs : List ℕ) → is_nondigit c ≡ true → piece_of false c cs ≡ token_piece false (c ∷ cs)
unfolding piece_of
piece_word c cs letter =
    let word : is_word c ≡ true = rw letter refl in
    rw (word_apart c line_feed refl word, white c letter, word_apart c slash refl word) refl
  where
    white : (d : ℕ) → is_nondigit d ≡ true → is_white d ≡ false
    white d h = grind (arith, nat_tests)

long_spelling : (cs : List Character) → length (spelling cs) ≡ length cs
long_spelling [] = refl
long_spelling (c ∷ cs) = ap suc (long_spelling cs)

-- characters that spell an identifier are one token
one_at : (bytes : List ℕ) (front : _) (x : Character) (xs : List Character) → expects_header front ≡ false → is_identifier_text (spelling (x ∷ xs)) ≡ true
    → only_token (found_from 0 bytes 0 true front 0 (x ∷ xs)) ≡ Some Ident
unfolding found_from token_piece
one_at bytes front x xs plain h =
    let text : List ℕ = spelling (x ∷ xs) in
    let len : ℕ = length (spelling xs) in
    let letter = (and_parts (is_nondigit x.byte) (list_all is_word (spelling xs)) h).0 in
    let same : length xs ≡ suc len - 1 = (let l = long_spelling xs in omega (arith, l)) in
    let rest = skipped 0 bytes (suc len - 1) false (with_token (take (suc len) text) front) 1 xs same in
    let whole : take (suc len) text ≡ text = take-length text in
    let kind : free_kind (kind_or_other false (take (suc len) text)) ≡ Some Ident =
    ap (λ (w : List ℕ). free_kind (kind_or_other false w)) whole ∙ ap (λ (k : Option Kind). free_kind (unwrap_or k Other)) (kind_word x.byte (spelling xs) h) in
    let size = front_whole x.byte (spelling xs) h in
    let found : free_kind (kind_or_other false (take (front_length false text) text)) ≡ Some Ident =
    ap (λ (n : ℕ). free_kind (kind_or_other false (take n text))) size ∙ kind in
    rw (plain, piece_word x.byte (spelling xs) letter, size, rest) found

one_listed : (bytes text : List ℕ) (front : _) (cs : List Character) → expects_header front ≡ false → spelling cs ≡ text → is_identifier_text text ≡ true
    → only_token (found_from 0 bytes 0 true front 0 cs) ≡ Some Ident
one_listed bytes text front [] plain is h = let none : is_identifier_text [] ≡ true = ap is_identifier_text is ∙ h in absurd (cc)
one_listed bytes text front (c ∷ cs) plain is h = one_at bytes front c cs plain (ap is_identifier_text is ∙ h)

pub one_identifier : (text : List ℕ) → is_identifier_text text ≡ true → one_token_of text ≡ Some Ident
unfolding one_token_of found_of logical_of
one_identifier text h = one_listed text text _ (logical_from 0 0 text) refl (words_logical 0 text (identifier-words text h)) h
