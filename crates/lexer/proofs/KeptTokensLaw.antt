-- Edits that keep each token of a file keep each piece of its text.
use Rattle.std.proofs.Common.{◌≡◌, ℕ, zero, suc, ◌+◌, ◌<◌, ◌≤◌, Bool, true, false, ◌&&◌, ◌||◌, nat_le, nat_lt, List, [], ◌∷◌, ◌++◌, length, take, refl, sym, ap, subst, ◌∙◌, arith, length-append}
use Rattle.std.proofs.Math.Seq.{take-append_seam}
use Rattle.std.proofs.lemmas.Bool.{and_parts, and_from, le-ltb, lt-leb}
use Rattle.cs_base.proofs.FileMapLemmas.{bytes_eq-same}
use Rattle.cs_base.specs.declared.tokens.Kind.{Kind}
use Rattle.cs_base.specs.declared.tokens.Kind.TheVariants.{Ident, Number, Char, Str, Punct, Other, Header}
use Rattle.cs_base.specs.Token.{Token}
use Rattle.lexer.specs.declared.pieces.Piece.{Piece}
use Rattle.lexer.specs.declared.pieces.Piece.TheVariants.{Blank, LineEnd, OpenComment, Token as Spelled}
use Rattle.lexer.specs.declared.pieces.LineFront.{LineFront}
use Rattle.lexer.specs.declared.pieces.LineFront.TheVariants.{Nothing, Hash, Include, Tokens}
use Rattle.lexer.specs.Logical.{logical_of, spelling}
use Rattle.lexer.specs.Tokens.{Found, piece_of, piece_length, leaves_gap, expects_header, line_front_after, with_token, is_line_start, found_in, found_of, tokens_in, firsts_in, tokens_of}
use Rattle.lexer.specs.Order.{InOrder}
use Rattle.lexer.specs.Respelling.{Put, stays, keeps_piece, keeps_pieces}
use Rattle.lexer.specs.KeptTokens.{keeps_spelled, front_before, keeps_tokens, lies_in, KeptTokensKeepPieces}
use Rattle.lexer.proofs.OrderLemmas.{InOrder-weaken, found-in_order}
use Rattle.lexer.proofs.KeptLemmas.{keeps_pieces-cut}
use Rattle.lexer.proofs.ScanLemmas.{firsts_of-file}
use Rattle.lexer.proofs.EditedTokens.{Lined, bytes_in, bytes_in-lined, bytes_in-append, lined, length-bytes_in, found_lined, found_from-lined, found_lined-cut, cut_lined}

-- none of the tokens begins before character `at`
abbrev Later : ℕ → List Token → Type 0
Later at [] = Unit {0}
Later at (t ∷ ts) = (at ≤ t.at.at) × Later at ts

lies_in-later : (at b : ℕ) (ts : List Token) → at < b → Later b ts → lies_in ts at ≡ false
lies_in-later at b [] before later = refl
lies_in-later at b (t ∷ ts) before later =
    let here = later.0 in
    let behind : nat_le t.at.at at ≡ false = lt-leb t.at.at at (omega arith) in
    rw behind (lies_in-later at b ts before later.1)

-- no token of a list in order begins before the list does
InOrder-later : (from to : ℕ) (ts : List Token) → InOrder from to ts → Later from ts
InOrder-later from to [] tokens = tt
InOrder-later from to (t ∷ ts) tokens =
    let here = tokens.0 in
    (tokens.0, InOrder-later from to ts (InOrder-weaken from (t.at.at + length t.text) to ts (omega arith) tokens.3))

-- from character `at` on, what is in none of these tokens stays
abbrev Outside : Put → ℕ → List Token → Type 0
Outside put at toks = (k c : ℕ) → at ≤ k → lies_in toks k ≡ false → put k c ≡ c ∷ []

-- characters that stay
stays-each : (put : Put) (at : ℕ) (xs : List ℕ) → ((k c : ℕ) → at ≤ k → k < at + length xs → put k c ≡ c ∷ []) → stays put at xs ≡ true
stays-each put at [] each = refl
stays-each put at (x ∷ xs) each =
    rw (each at x (omega arith) (omega arith), bytes_eq-same (x ∷ []))
    (stays-each put (at + 1) xs (λ k c from to. each k c (omega arith) (omega arith)))

-- characters before all tokens stay
stays-before : (put : Put) (at : ℕ) (xs : List ℕ) (toks : List Token) → Outside put at toks → Later (at + length xs) toks → stays put at xs ≡ true
stays-before put at xs toks outside later =
    stays-each put at xs (λ k c from to. outside k c from (lies_in-later k (at + length xs) toks to later))

-- What is known at a piece: `front` stands on the line, and `last` stood on the line of the token before.
pub record At (put : Put) (front last : LineFront) (at c : ℕ) (xs ys : List ℕ) (piece : Piece) (found rest : List Found) : Type 0 where
  pub size : piece_length (suc (length (xs ++ ys))) piece ≡ suc (length xs)
  pub fronts : front_before (is_line_start front) last ≡ front
  pub kept : keeps_tokens put last (tokens_in (found ++ rest)) (firsts_in (found ++ rest)) ≡ true
  pub outside : Outside put at (tokens_in (found ++ rest))
  pub behind : Later (at + suc (length xs)) (tokens_in rest)

-- What is shown of it: the piece is kept, and the same is known behind it.
pub record Past (put : Put) (front : LineFront) (at c : ℕ) (xs ys : List ℕ) (piece : Piece) (rest : List Found) : Type 0 where
  pub keeps : keeps_piece put front at (c ∷ (xs ++ ys)) piece ≡ true
  pub last : LineFront
  pub fronts : front_before (is_line_start (line_front_after (c ∷ (xs ++ ys)) front piece)) last ≡ line_front_after (c ∷ (xs ++ ys)) front piece
  pub kept : keeps_tokens put last (tokens_in rest) (firsts_in rest) ≡ true
  pub outside : Outside put (at + suc (length xs)) (tokens_in rest)

spelled-same : (put : Put) (front : LineFront) (at : ℕ) (text : List ℕ) (kind : Kind) (n : ℕ)
    → keeps_piece put front at text (Spelled kind n) ≡ keeps_spelled put front kind at (take n text)
spelled-same put front at text Ident n = refl
spelled-same put front at text Number n = refl
spelled-same put front at text Char n = refl
spelled-same put front at text Str n = refl
spelled-same put front at text Punct n = refl
spelled-same put front at text Other n = refl
spelled-same put front at text Header n = refl

fronts-same : (front : LineFront) → front_before (is_line_start front) front ≡ front
fronts-same Nothing = refl
fronts-same Hash = refl
fronts-same Include = refl
fronts-same Tokens = refl

outside-token : (from to later : Bool) → to ≡ false → later ≡ false → (from && to || later) ≡ false
outside-token true to later passed none = rw (passed, none) refl
outside-token false to later passed none = none

token-past : (put : Put) (front last : LineFront) (file line : ℕ) (gap : Bool) (at c : ℕ) (xs ys : List ℕ) (kind : Kind) (rest : List Found)
    → At put front last at c xs ys (Spelled kind (suc (length xs))) (found_in file line gap front at (c ∷ (xs ++ ys)) (Spelled kind (suc (length xs)))) rest
    → Past put front at c xs ys (Spelled kind (suc (length xs))) rest
token-past put front last file line gap at c xs ys kind rest a =
    let seam = take-append_seam xs ys in
    let text = c ∷ take (length xs) (xs ++ ys) in
    let all : (keeps_spelled put front kind at text && keeps_tokens put (with_token text front) (tokens_in rest) (firsts_in rest)) ≡ true =
    rw a.fronts at a.kept in
    let both = and_parts (keeps_spelled put front kind at text) (keeps_tokens put (with_token text front) (tokens_in rest) (firsts_in rest)) all in
    let long : length text ≡ suc (length xs) = rw seam refl in
    record {
      keeps = spelled-same put front at (c ∷ (xs ++ ys)) kind (suc (length xs)) ∙ both.0;
      last = with_token text front;
      fronts = fronts-same (with_token text front);
      kept = both.1;
      outside = λ k b from none.
          let passed : nat_lt k (at + length text) ≡ false = le-ltb k (at + length text) (omega arith) in
          a.outside k b (omega arith) (outside-token (nat_le at k) (nat_lt k (at + length text)) (lies_in (tokens_in rest) k) passed none);
    }

piece-past : (put : Put) (front last : LineFront) (file line : ℕ) (gap : Bool) (at c : ℕ) (xs ys : List ℕ) (piece : Piece) (rest : List Found)
    → At put front last at c xs ys piece (found_in file line gap front at (c ∷ (xs ++ ys)) piece) rest
    → Past put front at c xs ys piece rest
piece-past put front last file line gap at c xs ys (Blank n) rest a = record {
  keeps = rw (a.size, take-append_seam xs ys) (stays-before put at (c ∷ xs) (tokens_in rest) a.outside a.behind);
  last = last;
  fronts = a.fronts;
  kept = a.kept;
  outside = λ k b from none. a.outside k b (omega arith) none;
}
piece-past put front last file line gap at c xs ys LineEnd rest a =
    let one : 1 ≡ suc (length xs) = a.size in
    let first : put at c ≡ c ∷ [] = a.outside at c (omega arith) (lies_in-later at (at + suc (length xs)) (tokens_in rest) (omega arith) a.behind) in
    record {
      keeps = rw (first, bytes_eq-same (c ∷ [])) refl;
      last = last;
      fronts = refl;
      kept = a.kept;
      outside = λ k b from none. a.outside k b (omega arith) none;
    }
piece-past put front last file line gap at c xs ys OpenComment rest a =
    let long : length (xs ++ ys) ≡ length xs = let s = a.size in omega arith in
    record {
      keeps = rw (long, take-append_seam xs ys) (stays-before put at (c ∷ xs) (tokens_in rest) a.outside a.behind);
      last = last;
      fronts = a.fronts;
      kept = a.kept;
      outside = λ k b from none. a.outside k b (omega arith) none;
    }
piece-past put front last file line gap at c xs ys (Spelled kind n) rest a =
    let size : n ≡ suc (length xs) = a.size in
    let P : ℕ → Type 0 = λ k. At put front last at c xs ys (Spelled kind k) (found_in file line gap front at (c ∷ (xs ++ ys)) (Spelled kind k)) rest
    → Past put front at c xs ys (Spelled kind k) rest in
    subst P (sym size) (λ b. token-past put front last file line gap at c xs ys kind rest b) a

walk : (m : ℕ) (put : Put) (file : ℕ) (gap : Bool) (front last : LineFront) (at : ℕ) (cs : List Lined) → length cs ≤ m
    → front_before (is_line_start front) last ≡ front
    → keeps_tokens put last (tokens_in (found_lined file 0 gap front at cs)) (firsts_in (found_lined file 0 gap front at cs)) ≡ true
    → Outside put at (tokens_in (found_lined file 0 gap front at cs)) → keeps_pieces put 0 front at (bytes_in cs) ≡ true
unfolding found_lined keeps_pieces
walk m put file gap front last at [] small fronts kept outside = refl
walk zero put file gap front last at (c ∷ cs) small fronts kept outside = absurd (omega arith)
walk (suc m) put file gap front last at (c ∷ cs) small fronts kept outside =
    let part = cut_lined front c cs in
    let whole = part.whole in
    let X = bytes_in part.xs in
    let Y = bytes_in part.ys in
    let count = length-bytes_in part.xs in
    let piece = piece_of (expects_header front) c.byte (X ++ Y) in
    let to = line_front_after (c.byte ∷ (X ++ Y)) front piece in
    let found = found_in file c.line gap front at (c.byte ∷ (X ++ Y)) piece in
    let rest = found_lined file 0 (leaves_gap piece) to (at + suc (length part.xs)) part.ys in
    let total : length part.xs + length part.ys ≡ length cs = omega (arith, ap length whole, length-append part.xs part.ys) in
    let split : found_lined file 0 gap front at (c ∷ cs) ≡ found ++ rest =
    ap (λ (zs : List Lined). found_lined file 0 gap front at (c ∷ zs)) (sym whole)
    ∙ found_lined-cut file gap front at c part.xs part.ys piece refl (part.size ∙ ap suc count) in
    let bytes : X ++ Y ≡ bytes_in cs = sym (bytes_in-append part.xs part.ys) ∙ ap bytes_in whole in
    let behind : Later (at + suc (length X)) (tokens_in rest) =
    rw count (InOrder-later (at + suc (length part.xs)) (at + suc (length part.xs) + length part.ys) (tokens_in rest)
    (found-in_order (length part.ys) file (leaves_gap piece) to (at + suc (length part.xs)) part.ys (omega arith))) in
    let kept_here : keeps_tokens put last (tokens_in (found ++ rest)) (firsts_in (found ++ rest)) ≡ true = rw split at kept in
    let outside_here : Outside put at (tokens_in (found ++ rest)) = rw split at outside in
    let here : At put front last at c.byte X Y piece found rest = record {
      size = part.size;
      fronts = fronts;
      kept = kept_here;
      outside = outside_here;
      behind = behind;
    } in
    let one = piece-past put front last file c.line gap at c.byte X Y piece rest here in
    let outside_later : Outside put (at + suc (length part.xs)) (tokens_in rest) = rw count at one.outside in
    let next = walk m put file (leaves_gap piece) to one.last (at + suc (length part.xs)) part.ys (omega arith) one.fronts one.kept outside_later in
    let keeps_later : keeps_pieces put 0 to (at + suc (length X)) Y ≡ true = rw count next in
    rw (← bytes) (keeps_pieces-cut put front at c.byte X Y part.size ∙ and_from (keeps_piece put front at (c.byte ∷ (X ++ Y)) piece)
    (keeps_pieces put 0 to (at + suc (length X)) Y) one.keeps keeps_later)

from-tokens : (file : ℕ) (bytes : List ℕ) (put : Put)
    → keeps_tokens put Nothing (tokens_in (found_of file bytes)) (firsts_in (found_of file bytes)) ≡ true
    → Outside put 0 (tokens_in (found_of file bytes)) → keeps_pieces put 0 Nothing 0 (spelling (logical_of bytes)) ≡ true
unfolding found_of
from-tokens file bytes put kept outside =
    let cs = lined bytes (logical_of bytes) in
    let same = found_from-lined file bytes 0 true Nothing 0 (logical_of bytes) in
    rw (← bytes_in-lined bytes (logical_of bytes))
    (walk (length cs) put file true Nothing Nothing 0 cs (omega arith) refl (rw same at kept) (rw same at outside))

pub kept_tokens_keep_pieces : KeptTokensKeepPieces
unfolding tokens_of
kept_tokens_keep_pieces file bytes put kept changes =
    from-tokens file bytes put (rw (firsts_of-file file bytes) kept) (λ k c from none. changes k c none)
