-- The walk over the pieces of a file: what is found so far, and what is found in the rest, is all.
use Rattle.std.proofs.Common.{◌≡◌, ℕ, zero, suc, ◌+◌, ◌-◌, ◌≤◌, Bool, true, ◌==◌, nat_lt, List, [], ◌∷◌, ◌++◌, length, take, drop, Some, None, count_by, cond, slice_get, refl, sym, ap, ◌∙◌, arith, add-zero, append_assoc, append-nil}
use Rattle.std.proofs.lemmas.Bool.{lt-ltb}
use Rattle.std.proofs.lemmas.List.{length-drop, length-take}
use Rattle.std.proofs.lemmas.List.Sums.{count_by-le-length, sum_by-append}
use Rattle.std.proofs.Math.Seq.{take-add}
use Rattle.cs_base.specs.Token.{Token}
use Rattle.lexer.specs.declared.pieces.Piece.{Piece}
use Rattle.lexer.specs.declared.pieces.Piece.TheVariants.{Blank, LineEnd, OpenComment, Token as Spelled}
use Rattle.lexer.specs.declared.pieces.LineFront.{LineFront}
use Rattle.lexer.specs.declared.pieces.LineFront.TheVariants.{Nothing}
use Rattle.lexer.specs.Characters.{line_feed}
use Rattle.lexer.specs.Logical.{Character, character, logical_from, logical_of, spelling, line_at}
use Rattle.lexer.specs.Lines.{byte_offset_of, line_column_of}
use Rattle.lexer.specs.LineTable.{line_starts, place_in}
use Rattle.lexer.specs.Tokens.{Found, FoundToken, FoundOpen, piece_of, piece_length, leaves_gap, line_front_after, expects_header, piece_at, found_in, found_from, found_of, tokens_in, firsts_in, open_in, tokens_of, firsts_of, open_comment_of}
use Rattle.lexer.specs.Walk.{spelled, Passes, IsFirst}
use Rattle.lexer.proofs.LogicalLemmas.{logical_from-stays, Passes-none, Passes-more, Passes-first, spelled-at, spelled-first, spelled-nil, spelled-passes, spelled-within, length-spelled}
use Rattle.lexer.proofs.LineLemmas.{place_of_byte-table}
use Rattle.lexer.proofs.PieceLemmas.{HasLength, piece_of-length}
use Rattle.lexer.proofs.GoneLemmas.{logical_from-empty as logical_from-nil}
use Rattle.lexer.proofs.OrderLemmas.{tokens_in-append}

-- Lines.

count_by-append : (p : ℕ → Bool) (xs ys : List ℕ) → count_by p (xs ++ ys) ≡ count_by p xs + count_by p ys
count_by-append p xs ys = sum_by-append (λ x. cond (p x) 1 0) xs ys

-- the line behind d bytes more
pub line-step : (bytes rest : List ℕ) (o d to line : ℕ) → drop o bytes ≡ rest → to ≡ o + d → line ≡ line_at bytes o
    → line + count_by (λ b. b == line_feed) (take d rest) ≡ line_at bytes to
line-step bytes rest o d to line suffix on is =
    let split = take-add o d bytes in
    let sum = count_by-append (λ b. b == line_feed) (take o bytes) (take d (drop o bytes)) in
    rw (on, split, suffix, is) (omega (arith, rw suffix at sum))

-- a line has a number that is no larger than the offset, and one
pub line_at-bound : (bytes : List ℕ) (offset : ℕ) → line_at bytes offset ≤ offset + 1
line_at-bound bytes offset =
    let few = count_by-le-length (λ b. b == line_feed) (take offset bytes) in
    omega (arith, length-take offset bytes)

-- What is found.

firsts_in-append : (xs ys : List Found) → firsts_in (xs ++ ys) ≡ firsts_in xs ++ firsts_in ys
firsts_in-append [] ys = refl
firsts_in-append (FoundToken t first ∷ xs) ys = ap (λ (ts : List Bool). first ∷ ts) (firsts_in-append xs ys)
firsts_in-append (FoundOpen at ∷ xs) ys = firsts_in-append xs ys

pub found_from-nil : (file : ℕ) (bytes : List ℕ) (skip : ℕ) (gap : Bool) (front : LineFront) (at : ℕ)
    → found_from file bytes skip gap front at [] ≡ []
unfolding found_from
found_from-nil file bytes zero gap front at = refl
found_from-nil file bytes (suc skip) gap front at = refl

-- characters of the piece before are passed over
pub found_from-skip : (file : ℕ) (bytes : List ℕ) (skip : ℕ) (gap : Bool) (front : LineFront) (at : ℕ) (cs : List Character)
    → found_from file bytes skip gap front at cs ≡ found_from file bytes 0 gap front (at + skip) (drop skip cs)
unfolding found_from
found_from-skip file bytes zero gap front at cs = rw add-zero refl
found_from-skip file bytes (suc skip) gap front at [] = refl
found_from-skip file bytes (suc skip) gap front at (c ∷ cs) =
    let on : at + suc skip ≡ at + 1 + skip = omega arith in
    rw on (found_from-skip file bytes skip gap front (at + 1) cs)

-- a piece, and what follows it
pub found_from-piece : (file : ℕ) (bytes : List ℕ) (gap : Bool) (front : LineFront) (at : ℕ) (c : Character) (cs : List Character)
    (piece : Piece) (n : ℕ) → piece_at front c cs ≡ piece → piece_length (suc (length cs)) piece ≡ suc n
    → found_from file bytes 0 gap front at (c ∷ cs)
    ≡ found_in file (line_at bytes c.offset) gap front at (spelling (c ∷ cs)) piece
    ++ found_from file bytes 0 (leaves_gap piece) (line_front_after (spelling (c ∷ cs)) front piece) (at + suc n) (drop n cs)
unfolding found_from
found_from-piece file bytes gap front at c cs piece n is size =
    let on : at + suc n ≡ at + 1 + n = omega arith in
    let left : suc n - 1 ≡ n = omega arith in
    rw (is, size, left, on, found_from-skip file bytes n (leaves_gap piece) (line_front_after (spelling (c ∷ cs)) front piece) (at + 1) cs) refl

-- The walk.

-- what is found in the bytes that are left
abbrev pub found_left : ℕ → List ℕ → Bool → LineFront → ℕ → List ℕ → List Found
found_left file bytes gap front at rest = found_from file bytes 0 gap front at (logical_from 0 (length bytes - length rest) rest)

-- nothing is found in the bytes that go in front
pub found_left-gone : (file : ℕ) (bytes : List ℕ) (gap : Bool) (front : LineFront) (at : ℕ) (rest here : List ℕ)
    → length rest ≤ length bytes → Passes 0 rest here
    → found_left file bytes gap front at rest ≡ found_left file bytes gap front at here
found_left-gone file bytes gap front at rest here inside over =
    let deeper = over.within in
    let o = length bytes - length rest in
    let on : length bytes - length here ≡ o + (length rest - length here) = omega arith in
    rw on (ap (found_from file bytes 0 gap front at) (over.same o))

-- The walk has come to the bytes that are left, at this character and line.
pub record Walked (file : ℕ) (bytes : List ℕ) (toks : List Token) (firsts : List Bool) (line at : ℕ) (gap : Bool)
    (front : LineFront) (rest : List ℕ) : Type 0 where
  pub passes : Passes at bytes rest
  pub count : at + length (spelled rest) ≡ length (spelled bytes)
  pub line_is : line ≡ line_at bytes (length bytes - length rest)
  pub toks_are : toks ++ tokens_in (found_left file bytes gap front at rest) ≡ tokens_in (found_of file bytes)
  pub firsts_are : firsts ++ firsts_in (found_left file bytes gap front at rest) ≡ firsts_in (found_of file bytes)
  pub open_is : open_in (found_left file bytes gap front at rest) ≡ open_in (found_of file bytes)

pub Walked-none : (file : ℕ) (bytes : List ℕ) → Walked file bytes [] [] 1 0 true Nothing bytes
unfolding found_of logical_of
Walked-none file bytes =
    let none : length bytes - length bytes ≡ 0 = omega arith in
    record {
      passes = Passes-none bytes;
      count = omega arith;
      line_is = rw none refl;
      toks_are = rw none refl;
      firsts_are = rw none refl;
      open_is = rw none refl;
    }

-- over the bytes that go in front
pub Walked-gone : (file : ℕ) (bytes : List ℕ) (toks : List Token) (firsts : List Bool) (line at : ℕ) (gap : Bool)
    (front : LineFront) (rest here : List ℕ) (to : ℕ) → Passes 0 rest here
    → to ≡ line + count_by (λ b. b == line_feed) (take (length rest - length here) rest)
    → Walked file bytes toks firsts line at gap front rest → Walked file bytes toks firsts to at gap front here
Walked-gone file bytes toks firsts line at gap front rest here to over is w =
    let inside = w.passes.within in
    let deeper = over.within in
    let o = length bytes - length rest in
    let on : length bytes - length here ≡ o + (length rest - length here) = omega arith in
    let same : logical_from 0 o rest ≡ logical_from 0 (length bytes - length here) here = rw on (over.same o) in
    let all = Passes-more at 0 bytes rest here w.passes over in
    record {
      passes = rw add-zero at all;
      count = rw (← spelled-passes 0 rest here over) w.count;
      line_is = is ∙ line-step bytes rest o (length rest - length here) (length bytes - length here) line w.passes.suffix on w.line_is;
      toks_are = rw (← same) w.toks_are;
      firsts_are = rw (← same) w.firsts_are;
      open_is = rw (← same) w.open_is;
    }

-- what the walk has found at the end
pub record IsFinished (file : ℕ) (bytes : List ℕ) (toks : List Token) (firsts : List Bool) (at : ℕ) : Type 0 where
  pub toks_are : toks ≡ tokens_in (found_of file bytes)
  pub firsts_are : firsts ≡ firsts_in (found_of file bytes)
  pub len : at ≡ length (logical_of bytes)
  pub closed : open_in (found_of file bytes) ≡ None

pub Walked-all : (file : ℕ) (bytes : List ℕ) (toks : List Token) (firsts : List Bool) (line at : ℕ) (gap : Bool)
    (front : LineFront) (rest : List ℕ) → Passes 0 rest [] → Walked file bytes toks firsts line at gap front rest
    → IsFinished file bytes toks firsts at
unfolding logical_of
Walked-all file bytes toks firsts line at gap front rest over w =
    let o = length bytes - length rest in
    let empty : logical_from 0 o rest ≡ [] = over.same o ∙ logical_from-nil 0 (o + (length rest - 0)) in
    let none : found_left file bytes gap front at rest ≡ [] = ap (found_from file bytes 0 gap front at) empty ∙ found_from-nil file bytes 0 gap front at in
    let last : spelled rest ≡ [] = spelled-passes 0 rest [] over ∙ spelled-nil in
    let count : at + length (spelled rest) ≡ length (spelled bytes) = w.count in
    let total : at + 0 ≡ length (spelled bytes) = rw last at count in
    record {
      toks_are = sym (append-nil toks) ∙ rw none at w.toks_are;
      firsts_are = sym (append-nil firsts) ∙ rw none at w.firsts_are;
      len = omega (arith, length-spelled 0 bytes);
      closed = sym w.open_is ∙ rw none refl;
    }

-- the piece at the first of the bytes that are left, and what follows it
pub found_left-piece : (file : ℕ) (bytes : List ℕ) (gap : Bool) (front : LineFront) (at : ℕ) (here : List ℕ) (c : ℕ) (after : List ℕ)
    (piece : Piece) (n : ℕ) (rest : List ℕ) → IsFirst here c after → piece_of (expects_header front) c (spelled after) ≡ piece
    → piece_length (suc (length (spelled after))) piece ≡ suc n → Passes n after rest → length here ≤ length bytes
    → found_left file bytes gap front at here
    ≡ found_in file (line_at bytes (length bytes - length here)) gap front at (spelled here) piece
    ++ found_left file bytes (leaves_gap piece) (line_front_after (spelled here) front piece) (at + suc n) rest
found_left-piece file bytes gap front at here c after piece n rest first is size over within =
    let o = length bytes - length here in
    let cs = logical_from 0 (o + 1) after in
    let whole = first.whole in
    let deeper = over.within in
    let line : logical_from 0 o here ≡ character c o ∷ cs = ap (logical_from 0 o) whole ∙ logical_from-stays o c after first.stays in
    let some : length here ≡ suc (length after) = ap length whole in
    let to : o + 1 + (length after - length rest) ≡ length bytes - length rest = omega arith in
    let left : drop n cs ≡ logical_from 0 (length bytes - length rest) rest = rw to at (over.same (o + 1)) in
    let piece_is : piece_at front (character c o) cs ≡ piece = rw (spelled-at (o + 1) after) is in
    let long : piece_length (suc (length cs)) piece ≡ suc n = rw (length-spelled (o + 1) after) size in
    let text : spelling (character c o ∷ cs) ≡ spelled here =
    ap (λ (zs : List ℕ). c ∷ zs) (spelled-at (o + 1) after) ∙ sym (spelled-first here c after first) in
    let step = found_from-piece file bytes gap front at (character c o) cs piece n piece_is long in
    ap (found_from file bytes 0 gap front at) line ∙ rw (text, left) at step

-- A piece that is no comment without end: its length does not depend on what is left.
abbrev pub IsClosed : Piece → Type 0
IsClosed (Blank n) = Unit {0}
IsClosed LineEnd = Unit {0}
IsClosed OpenComment = ⊥
IsClosed (Spelled kind n) = Unit {0}

pub closed-length : (piece : Piece) (left : ℕ) → IsClosed piece → piece_length left piece ≡ piece_length 0 piece
closed-length (Blank n) left closed = refl
closed-length LineEnd left closed = refl
closed-length OpenComment left closed = absurd closed
closed-length (Spelled kind n) left closed = refl

pub closed-found : (piece : Piece) (file line : ℕ) (gap : Bool) (front : LineFront) (at : ℕ) (text : List ℕ) (rest : List Found)
    → IsClosed piece → open_in (found_in file line gap front at text piece ++ rest) ≡ open_in rest
closed-found (Blank n) file line gap front at text rest closed = refl
closed-found LineEnd file line gap front at text rest closed = refl
closed-found OpenComment file line gap front at text rest closed = absurd closed
closed-found (Spelled kind n) file line gap front at text rest closed = refl

-- the length of the piece that was found, where it has an end
pub piece-bounds : (header : Bool) (c : ℕ) (cs : List ℕ) (piece : Piece) → piece ≡ piece_of header c cs → IsClosed piece
    → HasLength (suc (length cs)) piece
piece-bounds header c cs piece is closed = rw is (piece_of-length header c cs)

pub closed-bounds : (header : Bool) (c : ℕ) (cs : List ℕ) (piece : Piece) → piece ≡ piece_of header c cs → IsClosed piece
    → (1 ≤ piece_length 0 piece) × (piece_length 0 piece ≤ suc (length cs))
closed-bounds header c cs piece is closed =
    let bounds = piece-bounds header c cs piece is closed in
    let some = bounds.some in
    let within = bounds.within in
    let same = closed-length piece (suc (length cs)) closed in
    (omega arith, omega arith)

-- over a piece
pub Walked-piece : (file : ℕ) (bytes : List ℕ) (toks : List Token) (firsts : List Bool) (line at : ℕ) (gap : Bool)
    (front : LineFront) (here : List ℕ) (c : ℕ) (after : List ℕ) (piece : Piece) (rest : List ℕ) (toks_to : List Token)
    (firsts_to : List Bool) (line_to : ℕ) → IsFirst here c after → piece ≡ piece_of (expects_header front) c (spelled after)
    → IsClosed piece → Passes (piece_length 0 piece - 1) after rest
    → toks_to ≡ toks ++ tokens_in (found_in file line gap front at (spelled here) piece)
    → firsts_to ≡ firsts ++ firsts_in (found_in file line gap front at (spelled here) piece)
    → line_to ≡ line + count_by (λ b. b == line_feed) (take (length here - length rest) here)
    → Walked file bytes toks firsts line at gap front here
    → Walked file bytes toks_to firsts_to line_to (at + piece_length 0 piece) (leaves_gap piece)
    (line_front_after (spelled here) front piece) rest
Walked-piece file bytes toks firsts line at gap front here c after piece rest toks_to firsts_to line_to first is closed over t f l w =
    let n = piece_length 0 piece - 1 in
    let bounds = closed-bounds (expects_header front) c (spelled after) piece is closed in
    let size : piece_length 0 piece ≡ suc n = omega (arith, bounds.0) in
    let long : piece_length (suc (length (spelled after))) piece ≡ suc n =
    closed-length piece (suc (length (spelled after))) closed ∙ size in
    let within = w.passes.within in
    let line_here = w.line_is in
    let parts = found_left-piece file bytes gap front at here c after piece n rest first (sym is) long over within in
    let same : found_left file bytes gap front at here
    ≡ found_in file line gap front at (spelled here) piece
    ++ found_left file bytes (leaves_gap piece) (line_front_after (spelled here) front piece) (at + suc n) rest = rw (← line_here) at parts in
    let behind = found_left file bytes (leaves_gap piece) (line_front_after (spelled here) front piece) (at + suc n) rest in
    let found = found_in file line gap front at (spelled here) piece in
    let whole = Passes-more 1 n here after rest (Passes-first here c after first) over in
    let inside = whole.within in
    let o = length bytes - length here in
    let on : length bytes - length rest ≡ o + (length here - length rest) = omega arith in
    let sum : 1 + n ≡ suc n = omega arith in
    let all = Passes-more at (1 + n) bytes here rest w.passes whole in
    let left = spelled-passes n after rest over in
    let text = spelled-first here c after first in
    let total : at + suc (length (spelled after)) ≡ length (spelled bytes) = rw text at w.count in
    rw size (record {
      passes = rw sum at all;
      count = omega (arith, bounds.1, rw left at (length-drop n (spelled after)));
      line_is = l ∙ line-step bytes here o (length here - length rest) (length bytes - length rest) line w.passes.suffix on w.line_is;
      toks_are = rw (t, append_assoc toks (tokens_in found) (tokens_in behind), ← tokens_in-append found behind) (rw same at w.toks_are);
      firsts_are = rw (f, append_assoc firsts (firsts_in found) (firsts_in behind), ← firsts_in-append found behind) (rw same at w.firsts_are);
      open_is = sym (closed-found piece file line gap front at (spelled here) behind closed) ∙ rw same at w.open_is;
    })

pub IsClosed-from : (piece : Piece) → (piece ≡ OpenComment → ⊥) → IsClosed piece
IsClosed-from (Blank n) other = tt
IsClosed-from LineEnd other = tt
IsClosed-from OpenComment other = other refl
IsClosed-from (Spelled kind n) other = tt

-- the piece lies in the file
pub walked-bounds : (file : ℕ) (bytes : List ℕ) (toks : List Token) (firsts : List Bool) (line at : ℕ) (gap : Bool)
    (front : LineFront) (here : List ℕ) (c : ℕ) (after : List ℕ) (piece : Piece) → IsFirst here c after
    → piece ≡ piece_of (expects_header front) c (spelled after) → IsClosed piece
    → Walked file bytes toks firsts line at gap front here
    → (1 ≤ piece_length 0 piece) × (piece_length 0 piece ≤ length (spelled here)) × (at + piece_length 0 piece ≤ length bytes)
walked-bounds file bytes toks firsts line at gap front here c after piece first is closed w =
    let bounds = closed-bounds (expects_header front) c (spelled after) piece is closed in
    let text : length (spelled here) ≡ suc (length (spelled after)) = ap length (spelled-first here c after first) in
    let few = spelled-within bytes in
    let count = w.count in
    (bounds.0, omega (arith, bounds.1), omega (arith, bounds.1))

-- Comments without end.

slice_get-drop : (k : ℕ) (cs : List Character) → slice_get cs k ≡ slice_get (drop k cs) 0
slice_get-drop zero cs = refl
slice_get-drop (suc k) [] = refl
slice_get-drop (suc k) (c ∷ cs) = slice_get-drop k cs

-- the offset of the character that the walk has come to
walked-offset : (bytes here : List ℕ) (at c : ℕ) (after : List ℕ) → Passes at bytes here → IsFirst here c after
    → byte_offset_of bytes at ≡ Some (length bytes - length here)
unfolding byte_offset_of logical_of
walked-offset bytes here at c after p first =
    let whole = first.whole in
    let o = length bytes - length here in
    let zero_on : 0 + o ≡ o = omega arith in
    let left : drop at (logical_from 0 0 bytes) ≡ character c o ∷ logical_from 0 (o + 1) after =
    p.same 0 ∙ ap (λ k. logical_from 0 k here) zero_on ∙ ap (logical_from 0 o) whole ∙ logical_from-stays o c after first.stays in
    rw (slice_get-drop at (logical_from 0 0 bytes), left) refl

found_from-open : (file : ℕ) (bytes : List ℕ) (gap : Bool) (front : LineFront) (at : ℕ) (c : Character) (cs : List Character)
    → piece_at front c cs ≡ OpenComment → (rest : List Found) × (found_from file bytes 0 gap front at (c ∷ cs) ≡ FoundOpen at ∷ rest)
unfolding found_from
found_from-open file bytes gap front at c cs is =
    let piece = piece_at front c cs in
    let text = spelling (c ∷ cs) in (
      found_from file bytes (piece_length (length (c ∷ cs)) piece - 1) (leaves_gap piece) (line_front_after text front piece) (at + 1) cs,
      ap (λ (p : Piece). found_in file (line_at bytes c.offset) gap front at text p
          ++ found_from file bytes (piece_length (length (c ∷ cs)) piece - 1) (leaves_gap piece) (line_front_after text front piece) (at + 1) cs) is,
    )

-- a comment without end stands at the first of the bytes that are left
pub found_left-open : (file : ℕ) (bytes : List ℕ) (gap : Bool) (front : LineFront) (at : ℕ) (here : List ℕ) (c : ℕ) (after : List ℕ)
    → IsFirst here c after → OpenComment ≡ piece_of (expects_header front) c (spelled after)
    → (rest : List Found) × (found_left file bytes gap front at here ≡ FoundOpen at ∷ rest)
found_left-open file bytes gap front at here c after first is =
    let o = length bytes - length here in
    let line : logical_from 0 o here ≡ character c o ∷ logical_from 0 (o + 1) after =
    ap (logical_from 0 o) first.whole ∙ logical_from-stays o c after first.stays in
    let opens = found_from-open file bytes gap front at (character c o) (logical_from 0 (o + 1) after)
    (rw (spelled-at (o + 1) after) (sym is)) in
    (opens.0, ap (found_from file bytes 0 gap front at) line ∙ opens.1)

-- the walk has come to a comment without end
pub Walked-open : (file : ℕ) (bytes : List ℕ) (toks : List Token) (firsts : List Bool) (line at : ℕ) (gap : Bool)
    (front : LineFront) (here : List ℕ) (c : ℕ) (after : List ℕ) → IsFirst here c after
    → OpenComment ≡ piece_of (expects_header front) c (spelled after)
    → Walked file bytes toks firsts line at gap front here
    → (open_in (found_of file bytes) ≡ Some at)
    × (line_column_of bytes at ≡ Some (place_in (line_starts bytes) (length bytes - length here)))
unfolding line_column_of
Walked-open file bytes toks firsts line at gap front here c after first is w =
    let within = w.passes.within in
    let whole = first.whole in
    let some : length here ≡ suc (length after) = ap length whole in
    let o = length bytes - length here in
    let opens : open_in (found_left file bytes gap front at here) ≡ Some at =
    ap open_in (found_left-open file bytes gap front at here c after first is).1 in
    let fits : nat_lt (length bytes - length here) (length bytes) ≡ true =
    lt-ltb (length bytes - length here) (length bytes) (omega arith) in (
      sym w.open_is ∙ opens,
      rw (walked-offset bytes here at c after w.passes first) (place_of_byte-table bytes (length bytes - length here) ∙ rw fits refl),
    )

-- What is the first of its line, and where a comment is open, does not depend on the file's number.

firsts-in : (file line other : ℕ) (gap : Bool) (front : LineFront) (at : ℕ) (text : List ℕ) (piece : Piece)
    → firsts_in (found_in file line gap front at text piece) ≡ firsts_in (found_in other line gap front at text piece)
firsts-in file line other gap front at text (Blank n) = refl
firsts-in file line other gap front at text LineEnd = refl
firsts-in file line other gap front at text OpenComment = refl
firsts-in file line other gap front at text (Spelled kind n) = refl

open-in : (file line other : ℕ) (gap : Bool) (front : LineFront) (at : ℕ) (text : List ℕ) (piece : Piece) (xs ys : List Found)
    → open_in xs ≡ open_in ys
    → open_in (found_in file line gap front at text piece ++ xs) ≡ open_in (found_in other line gap front at text piece ++ ys)
open-in file line other gap front at text (Blank n) xs ys same = same
open-in file line other gap front at text LineEnd xs ys same = same
open-in file line other gap front at text OpenComment xs ys same = refl
open-in file line other gap front at text (Spelled kind n) xs ys same = same

firsts-from : (file other : ℕ) (bytes : List ℕ) (skip : ℕ) (gap : Bool) (front : LineFront) (at : ℕ) (cs : List Character)
    → firsts_in (found_from file bytes skip gap front at cs) ≡ firsts_in (found_from other bytes skip gap front at cs)
unfolding found_from
firsts-from file other bytes zero gap front at [] = refl
firsts-from file other bytes (suc skip) gap front at [] = refl
firsts-from file other bytes (suc skip) gap front at (c ∷ cs) = firsts-from file other bytes skip gap front (at + 1) cs
firsts-from file other bytes zero gap front at (c ∷ cs) =
    let piece = piece_at front c cs in
    let line = line_at bytes c.offset in
    let text = spelling (c ∷ cs) in
    let skip = piece_length (length (c ∷ cs)) piece - 1 in
    let to = line_front_after text front piece in
    firsts_in-append (found_in file line gap front at text piece) (found_from file bytes skip (leaves_gap piece) to (at + 1) cs)
    ∙ rw (firsts-in file line other gap front at text piece, firsts-from file other bytes skip (leaves_gap piece) to (at + 1) cs)
    (sym (firsts_in-append (found_in other line gap front at text piece) (found_from other bytes skip (leaves_gap piece) to (at + 1) cs)))

open-from : (file other : ℕ) (bytes : List ℕ) (skip : ℕ) (gap : Bool) (front : LineFront) (at : ℕ) (cs : List Character)
    → open_in (found_from file bytes skip gap front at cs) ≡ open_in (found_from other bytes skip gap front at cs)
unfolding found_from
open-from file other bytes zero gap front at [] = refl
open-from file other bytes (suc skip) gap front at [] = refl
open-from file other bytes (suc skip) gap front at (c ∷ cs) = open-from file other bytes skip gap front (at + 1) cs
open-from file other bytes zero gap front at (c ∷ cs) =
    let piece = piece_at front c cs in
    let text = spelling (c ∷ cs) in
    let skip = piece_length (length (c ∷ cs)) piece - 1 in
    let to = line_front_after text front piece in
    open-in file (line_at bytes c.offset) other gap front at text piece _ _
    (open-from file other bytes skip (leaves_gap piece) to (at + 1) cs)

pub firsts_of-file : (file : ℕ) (bytes : List ℕ) → firsts_in (found_of file bytes) ≡ firsts_of bytes
unfolding found_of firsts_of
firsts_of-file file bytes = firsts-from file 0 bytes 0 true Nothing 0 (logical_of bytes)

pub open_comment_of-file : (file : ℕ) (bytes : List ℕ) → open_in (found_of file bytes) ≡ open_comment_of bytes
unfolding found_of open_comment_of
open_comment_of-file file bytes = open-from file 0 bytes 0 true Nothing 0 (logical_of bytes)

pub tokens_of-found : (file : ℕ) (bytes : List ℕ) → tokens_in (found_of file bytes) ≡ tokens_of file bytes
unfolding tokens_of
tokens_of-found file bytes = refl

-- as many tokens have a place on a line as there are
pub firsts-each : (found : List Found) → length (firsts_in found) ≡ length (tokens_in found)
firsts-each [] = refl
firsts-each (FoundToken t first ∷ found) = ap suc (firsts-each found)
firsts-each (FoundOpen at ∷ found) = firsts-each found

pub firsts_of-each : (file : ℕ) (bytes : List ℕ) → length (firsts_of bytes) ≡ length (tokens_of file bytes)
firsts_of-each file bytes =
    ap length (sym (firsts_of-file file bytes)) ∙ firsts-each (found_of file bytes) ∙ ap length (tokens_of-found file bytes)
