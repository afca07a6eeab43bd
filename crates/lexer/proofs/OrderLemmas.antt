-- The tokens of a file stand one behind the other.
use Rattle.std.proofs.Common.{◌≡◌, ℕ, zero, suc, ◌+◌, ◌≤◌, Bool, true, List, [], ◌∷◌, ◌++◌, length, refl, ap, ◌∙◌, arith, length-append, None, Ok, Option, Some, false, inl, inr, slice_get, subst, ◌<◌, ◌==◌}
use Rattle.cs_base.specs.Token.{Token}
use Rattle.cs_base.specs.Limits.{most_bytes}
use Rattle.std.proofs.Math.Seq.{take-append_seam}
use Rattle.std.proofs.lemmas.Bool.Decides.{nat_tests}
use Rattle.std.proofs.lemmas.Bool.{cases_Bool}
use Rattle.std.proofs.lemmas.Option.{none-some, same_Some}
use Rattle.std.specs.Option.{option_map, option_map_or}
use Rattle.std.specs.Prelude.{nat_lt}
use Rattle.lexer.specs.declared.pieces.Piece.{Piece}
use Rattle.lexer.specs.declared.pieces.Piece.TheVariants.{Blank, LineEnd, OpenComment, Token as Spelled}
use Rattle.lexer.specs.declared.pieces.LineFront.{LineFront}
use Rattle.lexer.specs.declared.pieces.LineFront.TheVariants.{Nothing}
use Rattle.lexer.specs.Logical.{logical_of, Character}
use Rattle.lexer.specs.Tokens.{Found, FoundToken, FoundOpen, piece_of, piece_length, leaves_gap, expects_header, line_front_after, found_in, found_of, tokens_in, tokens_of}
use Rattle.lexer.specs.Order.{InOrder}
use Rattle.lexer.specs.Characters.{is_white, line_feed}
use Rattle.lexer.specs.FileText.{TextValue, file_text}
use Rattle.lexer.proofs.EditedTokens.{Lined, bytes_in, lined, length-lined, length-bytes_in, found_lined, found_from-lined, found_lined-cut, cut_lined}

pub InOrder-weaken : (a b to : ℕ) (ts : List Token) → a ≤ b → InOrder b to ts → InOrder a to ts
InOrder-weaken a b to [] order tokens = tt
InOrder-weaken a b to (t ∷ ts) order tokens =
    let here = tokens.0 in (omega arith, tokens.1, tokens.2, tokens.3)

pub tokens_in-append : (xs ys : List Found) → tokens_in (xs ++ ys) ≡ tokens_in xs ++ tokens_in ys
tokens_in-append [] ys = refl
tokens_in-append (FoundToken t first ∷ xs) ys = ap (λ (ts : List Token). t ∷ ts) (tokens_in-append xs ys)
tokens_in-append (FoundOpen at ∷ xs) ys = tokens_in-append xs ys

-- the token of a piece, and those of what follows it
piece-in_order : (piece : Piece) (file line : ℕ) (gap : Bool) (front : LineFront) (at c to : ℕ) (xs ys : List ℕ) (later : List Token)
    → piece_length (suc (length (xs ++ ys))) piece ≡ suc (length xs) → at + suc (length xs) ≤ to → InOrder (at + suc (length xs)) to later
    → InOrder at to (tokens_in (found_in file line gap front at (c ∷ (xs ++ ys)) piece) ++ later)
piece-in_order (Blank n) file line gap front at c to xs ys later size within rest =
    InOrder-weaken at (at + suc (length xs)) to later (omega arith) rest
piece-in_order LineEnd file line gap front at c to xs ys later size within rest =
    InOrder-weaken at (at + suc (length xs)) to later (omega arith) rest
piece-in_order OpenComment file line gap front at c to xs ys later size within rest =
    InOrder-weaken at (at + suc (length xs)) to later (omega arith) rest
piece-in_order (Spelled kind n) file line gap front at c to xs ys later size within rest =
    rw (size, take-append_seam xs ys) (omega arith, omega arith, within, rest)

pub found-in_order : (m file : ℕ) (gap : Bool) (front : LineFront) (at : ℕ) (cs : List Lined) → length cs ≤ m
    → InOrder at (at + length cs) (tokens_in (found_lined file 0 gap front at cs))
unfolding found_lined
found-in_order m file gap front at [] small = tt
found-in_order zero file gap front at (c ∷ cs) small = absurd (omega arith)
found-in_order (suc m) file gap front at (c ∷ cs) small =
    let part = cut_lined front c cs in
    let whole = part.whole in
    let count = length-bytes_in part.xs in
    let piece = piece_of (expects_header front) c.byte (bytes_in part.xs ++ bytes_in part.ys) in
    let split = found_lined-cut file gap front at c part.xs part.ys piece refl (part.size ∙ ap suc count) in
    let total : length part.xs + length part.ys ≡ length cs = omega (arith, ap length whole, length-append part.xs part.ys) in
    let to = line_front_after (c.byte ∷ (bytes_in part.xs ++ bytes_in part.ys)) front piece in
    let rest = found-in_order m file (leaves_gap piece) to (at + suc (length part.xs)) part.ys (omega arith) in
    let end : at + suc (length part.xs) + length part.ys ≡ at + suc (length cs) = omega arith in
    let found = found_in file c.line gap front at (c.byte ∷ (bytes_in part.xs ++ bytes_in part.ys)) piece in
    let later = found_lined file 0 (leaves_gap piece) to (at + suc (length part.xs)) part.ys in
    let behind : InOrder (at + suc (length (bytes_in part.xs))) (at + suc (length cs)) (tokens_in later) = rw (count, ← end) rest in
    let all = piece-in_order piece file c.line gap front at c.byte (at + suc (length cs)) (bytes_in part.xs) (bytes_in part.ys)
    (tokens_in later) part.size (omega arith) behind in
    let joined : InOrder at (at + suc (length cs)) (tokens_in (found_lined file 0 gap front at (c ∷ (part.xs ++ part.ys)))) =
    rw (split, tokens_in-append found later) all in
    rw whole at joined

-- the tokens of a file are in order
pub tokens_of-in_order : (file : ℕ) (bytes : List ℕ) → InOrder 0 (length (logical_of bytes)) (tokens_of file bytes)
unfolding tokens_of found_of
tokens_of-in_order file bytes =
    let cs = lined bytes (logical_of bytes) in
    let end : 0 + length cs ≡ length (logical_of bytes) = omega (arith, length-lined bytes (logical_of bytes)) in
    rw (found_from-lined file bytes 0 true Nothing 0 (logical_of bytes), ← end)
    (found-in_order (length cs) file true Nothing 0 cs (omega arith))

pub dark_feed : (c : ℕ) → is_white c ≡ false → (c == line_feed) ≡ false
dark_feed c h = grind (arith, nat_tests)

pub nothing : (k : ℕ) (c : Character) → slice_get [] k ≡ Some c → ⊥
nothing zero c e = cc
nothing (suc k) c e = cc

pub offset_none : (r : Option Character) → option_map (λ (c : Character). c.offset) r ≡ None
    → option_map_or (λ (c : Character). c.byte == line_feed) r false ≡ false
offset_none None is = refl
offset_none (Some c) is = absurd cc

pub few_bytes : (file : ℕ) (bytes : List ℕ) (text : TextValue) → file_text file bytes ≡ Ok text → length bytes ≤ most_bytes
unfolding file_text
few_bytes file bytes text is = elim (cases_Bool (nat_lt most_bytes (length bytes))) [
  | inl large ↦ let wrong = rw large at is in absurd (cc)
  | inr small ↦ grind (arith, nat_tests)
]

-- the number of its first character orders the tokens of a file
pub later_all : (from to : ℕ) (ts : List Token) → InOrder from to ts → (i : ℕ) (x : Token) → slice_get ts i ≡ Some x → from ≤ x.at.at
later_all from to [] h i x is = absurd (none-some x is)
later_all from to (t ∷ ts) h zero x is = subst (λ (y : Token). from ≤ y.at.at) (same_Some t x is) h.0
later_all from to (t ∷ ts) h (suc i) x is =
    let rest = later_all (t.at.at + length t.text) to ts h.3 i x is in
    let first = h.0 in
    omega (arith, rest, first)

pub before_of : (from to : ℕ) (ts : List Token) → InOrder from to ts → (i j : ℕ) (t u : Token) → i < j → slice_get ts i ≡ Some t → slice_get ts j ≡ Some u → t.at.at < u.at.at
before_of from to [] h i j t u lt e g = absurd (cc)
before_of from to (y ∷ ts) h i zero t u lt e g = absurd (omega (arith, lt))
before_of from to (y ∷ ts) h zero (suc j) t u lt e g =
    let far = later_all (y.at.at + length y.text) to ts h.3 j u g in
    let some = h.1 in
    let same = ap (λ (x : Token). x.at.at) (same_Some y t e) in
    omega (arith, far, some, same)
before_of from to (y ∷ ts) h (suc i) (suc j) t u lt e g = before_of (y.at.at + length y.text) to ts h.3 i j t u (omega (arith, lt)) e g
