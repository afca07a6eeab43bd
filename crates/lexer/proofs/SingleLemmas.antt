-- The walk over a text that may be one token.
use Rattle.std.proofs.Common.{◌≡◌, ℕ, suc, ◌+◌, ◌-◌, ◌≤◌, Bool, true, List, [], ◌∷◌, ◌++◌, length, Option, None, refl, sym, ap, ◌∙◌, arith}
use Rattle.cs_base.specs.declared.tokens.Kind.{Kind}
use Rattle.lexer.specs.declared.pieces.Piece.{Piece}
use Rattle.lexer.specs.declared.pieces.Piece.TheVariants.{Blank, LineEnd, OpenComment, Token as Spelled}
use Rattle.lexer.specs.declared.pieces.LineFront.{LineFront}
use Rattle.lexer.specs.declared.pieces.LineFront.TheVariants as line
use Rattle.lexer.specs.declared.single.Held.{Held}
use Rattle.lexer.specs.declared.single.Held.TheVariants.{Nothing, One, More}
use Rattle.lexer.specs.Logical.{logical_from, logical_of}
use Rattle.lexer.specs.Tokens.{Found, FoundOpen, piece_of, piece_length, leaves_gap, line_front_after, expects_header, found_in, found_from, found_of}
use Rattle.lexer.specs.OneToken.{free_kind, only_token, one_token_of, held_after, held_kind}
use Rattle.lexer.specs.Walk.{spelled, Passes, IsFirst}
use Rattle.lexer.proofs.ScanLemmas.{IsClosed, closed-bounds, closed-length, found_left, found_left-piece, found_left-open, found_left-gone, found_from-nil}
use Rattle.lexer.proofs.GoneLemmas.{logical_from-empty as logical_from-nil}

-- the kind of what is held and of what is found behind it, if that is one token
abbrev pub joined : Held → List Found → Option Kind
joined Nothing found = only_token found
joined (One kind) [] = free_kind kind
joined (One kind) (f ∷ found) = None
joined More found = None

joined-piece : (held : Held) (file line : ℕ) (gap : Bool) (front : LineFront) (at : ℕ) (text : List ℕ) (piece : Piece) (rest : List Found)
    → joined held (found_in file line gap front at text piece ++ rest) ≡ joined (held_after held piece) rest
joined-piece held file line gap front at text (Blank n) rest = refl
joined-piece held file line gap front at text LineEnd rest = refl
joined-piece Nothing file line gap front at text OpenComment rest = refl
joined-piece (One kind) file line gap front at text OpenComment rest = refl
joined-piece More file line gap front at text OpenComment rest = refl
joined-piece Nothing file line gap front at text (Spelled kind n) [] = refl
joined-piece Nothing file line gap front at text (Spelled kind n) (f ∷ rest) = refl
joined-piece (One first) file line gap front at text (Spelled kind n) rest = refl
joined-piece More file line gap front at text (Spelled kind n) rest = refl

joined-open : (held : Held) (at : ℕ) (rest : List Found) → joined held (FoundOpen at ∷ rest) ≡ None
joined-open Nothing at rest = refl
joined-open (One kind) at rest = refl
joined-open More at rest = refl

joined-end : (held : Held) → joined held [] ≡ held_kind held
joined-end Nothing = refl
joined-end (One kind) = refl
joined-end More = refl

-- The walk has come to the bytes that are left.
pub record Counted (text : List ℕ) (held : Held) (front : LineFront) (rest : List ℕ) : Type 0 where
  pub at : ℕ
  pub gap : Bool
  pub within : length rest ≤ length text
  pub same : joined held (found_left 0 text gap front at rest) ≡ one_token_of text

pub Counted-none : (text : List ℕ) → Counted text Nothing line.Nothing text
unfolding one_token_of found_of logical_of
Counted-none text =
    let none : length text - length text ≡ 0 = omega arith in
    record { at = 0; gap = true; within = omega arith; same = rw none refl }

pub Counted-gone : (text : List ℕ) (held : Held) (front : LineFront) (rest here : List ℕ) → Passes 0 rest here
    → Counted text held front rest → Counted text held front here
Counted-gone text held front rest here over w =
    let inside = w.within in
    let deeper = over.within in
    record {
      at = w.at;
      gap = w.gap;
      within = omega arith;
      same = ap (joined held) (sym (found_left-gone 0 text w.gap front w.at rest here w.within over)) ∙ w.same;
    }

pub Counted-piece : (text : List ℕ) (held : Held) (front : LineFront) (here : List ℕ) (c : ℕ) (after : List ℕ) (piece : Piece)
    (rest : List ℕ) → IsFirst here c after → piece ≡ piece_of (expects_header front) c (spelled after) → IsClosed piece
    → Passes (piece_length 0 piece - 1) after rest → Counted text held front here
    → Counted text (held_after held piece) (line_front_after (spelled here) front piece) rest
Counted-piece text held front here c after piece rest first is closed over w =
    let n = piece_length 0 piece - 1 in
    let bounds = closed-bounds (expects_header front) c (spelled after) piece is closed in
    let size : piece_length 0 piece ≡ suc n = omega (arith, bounds.0) in
    let long : piece_length (suc (length (spelled after))) piece ≡ suc n =
    closed-length piece (suc (length (spelled after))) closed ∙ size in
    let parts = found_left-piece 0 text w.gap front w.at here c after piece n rest first (sym is) long over w.within in
    let inside = w.within in
    let deeper = over.within in
    let whole = ap length first.whole in
    record {
      at = w.at + suc n;
      gap = leaves_gap piece;
      within = omega arith;
      same = sym (ap (joined held) parts ∙ joined-piece held 0 _ w.gap front w.at (spelled here) piece _) ∙ w.same;
    }

pub Counted-open : (text : List ℕ) (held : Held) (front : LineFront) (here : List ℕ) (c : ℕ) (after : List ℕ)
    → IsFirst here c after → OpenComment ≡ piece_of (expects_header front) c (spelled after)
    → Counted text held front here → None ≡ one_token_of text
Counted-open text held front here c after first is w =
    let opens = found_left-open 0 text w.gap front w.at here c after first is in
    sym (ap (joined held) opens.1 ∙ joined-open held w.at opens.0) ∙ w.same

pub Counted-all : (text : List ℕ) (held : Held) (front : LineFront) (rest : List ℕ) → Passes 0 rest []
    → Counted text held front rest → held_kind held ≡ one_token_of text
Counted-all text held front rest over w =
    let o = length text - length rest in
    let empty : logical_from 0 o rest ≡ [] = over.same o ∙ logical_from-nil 0 (o + (length rest - 0)) in
    let none : found_left 0 text w.gap front w.at rest ≡ [] =
    ap (found_from 0 text 0 w.gap front w.at) empty ∙ found_from-nil 0 text 0 w.gap front w.at in
    sym (ap (joined held) none ∙ joined-end held) ∙ w.same
