-- The tokens of a file stand in it, one behind the other.
use Rattle.std.proofs.Common.{◌≡◌, ℕ, zero, suc, ◌+◌, ◌-◌, ◌<◌, ◌≤◌, List, [], ◌∷◌, ◌++◌, length, drop, Bool, true, ◌==◌, ◌&&◌, Option, Some, None, refl, ap, subst, ◌∙◌, inl, inr, arith}
use Rattle.std.specs.Prelude.{slice_get, unwrap_or}
use Rattle.std.specs.Option.{option_and_then}
use Rattle.std.proofs.lemmas.Bool.{cases_Bool}
use Rattle.std.proofs.lemmas.Option.{same_Some}
use Rattle.cs_base.specs.declared.positions.Part.{Part}
use Rattle.cs_base.specs.declared.positions.Pos.{Pos}
use Rattle.cs_base.specs.Token.{Token}
use Rattle.lexer.specs.Logical.{Character, logical_of, spelling, line_at}
use Rattle.lexer.specs.Places.{pos, origins_from}
use Rattle.lexer.specs.Order.{InOrder}
use Rattle.lexer.specs.Characters.{line_feed, slash, star, is_white, begins}
use Rattle.lexer.specs.Tokens.{Found, comment_end, comment_or_open, token_piece, piece_of, expects_header, piece_at, piece_length, leaves_gap, line_front_after, found_in, found_from, found_of, tokens_in, tokens_of}
use Rattle.lexer.proofs.OrderLemmas.{tokens_of-in_order}
use Rattle.lexer.proofs.OriginLemmas.{first_origin}
use Rattle.eclass_map.specs.ClassTable.{part_of_file}
use Rattle.analysis.specs.FileTokens.{span_of}
use Rattle.analysis.specs.TokenSearch.{AreInLine}

-- ---- origins

-- each token has the origins of its characters in the file
abbrev AreTraced : ℕ → List Token → Type 0
AreTraced file [] = Unit {0}
AreTraced file (t ∷ ts) = (t.origins ≡ origins_from file t.at.at (length t.text)) × AreTraced file ts

token_traced : (file line : ℕ) (gap : Bool) (front : _) (at : ℕ) (header : Bool) (text : List ℕ) (rest : List Found)
    → AreTraced file (tokens_in rest) → AreTraced file (tokens_in (found_in file line gap front at text (token_piece header text) ++ rest))
unfolding token_piece
token_traced file line gap front at header text rest h = (refl, h)

comment_traced : (file line : ℕ) (gap : Bool) (front : _) (at : ℕ) (text : List ℕ) (o : Option ℕ) (rest : List Found)
    → AreTraced file (tokens_in rest) → AreTraced file (tokens_in (found_in file line gap front at text (comment_or_open o) ++ rest))
comment_traced file line gap front at text None rest h = h
comment_traced file line gap front at text (Some n) rest h = h

-- what the first piece of a text adds
piece_traced : (file line : ℕ) (gap : Bool) (front : _) (at : ℕ) (header : Bool) (c : ℕ) (cs : List ℕ) (rest : List Found)
    → AreTraced file (tokens_in rest) → AreTraced file (tokens_in (found_in file line gap front at (c ∷ cs) (piece_of header c cs) ++ rest))
unfolding piece_of
piece_traced file line gap front at header c cs rest h = elim (cases_Bool (c == line_feed)) [
  | inl ends ↦ rw ends h
  | inr a ↦ elim (cases_Bool (is_white c)) [
    | inl white ↦ rw (a, white) h
    | inr b ↦ elim (cases_Bool (c == slash && begins slash cs)) [
      | inl line_comment ↦ rw (a, b, line_comment) h
      | inr d ↦ elim (cases_Bool (c == slash && begins star cs)) [
        | inl comment ↦ rw (a, b, d, comment) (comment_traced file line gap front at (c ∷ cs) (comment_end (drop 1 cs)) rest h)
        | inr e ↦ rw (a, b, d, e) (token_traced file line gap front at header (c ∷ cs) rest h)
      ]
    ]
  ]
]

found_traced : (file : ℕ) (bytes : List ℕ) (skip : ℕ) (gap : Bool) (front : _) (at : ℕ) (cs : List Character)
    → AreTraced file (tokens_in (found_from file bytes skip gap front at cs))
unfolding found_from
found_traced file bytes zero gap front at [] = tt
found_traced file bytes (suc skip) gap front at [] = tt
found_traced file bytes (suc skip) gap front at (c ∷ cs) = found_traced file bytes skip gap front (at + 1) cs
found_traced file bytes zero gap front at (c ∷ cs) =
    piece_traced file (line_at bytes c.offset) gap front at (expects_header front) c.byte (spelling cs) _
    (found_traced file bytes (piece_length (length (c ∷ cs)) (piece_at front c cs) - 1) (leaves_gap (piece_at front c cs))
    (line_front_after (spelling (c ∷ cs)) front (piece_at front c cs)) (at + 1) cs)

tokens_traced : (file : ℕ) (bytes : List ℕ) → AreTraced file (tokens_of file bytes)
unfolding tokens_of found_of
tokens_traced file bytes = found_traced file bytes 0 true _ 0 (logical_of bytes)

-- ---- spans

span_traced : (file : ℕ) (t : Token) → 1 ≤ length t.text → t.origins ≡ origins_from file t.at.at (length t.text)
    → span_of t ≡ part_of_file file t.at.at (length t.text)
span_traced file t some traced =
    let first : slice_get t.origins 0 ≡ Some (Some (pos file t.at.at)) =
    ap (λ (os : List (Option Pos)). slice_get os 0) traced ∙ first_origin file t.at.at (length t.text) some in
    ap (λ (o : Option (Option Pos)). record { start = unwrap_or (option_and_then (λ (x : Option Pos). x) o) (pos 0 0); len = length t.text }) first

-- What is true of a token of a file.
pub record IsPlaced (file from to : ℕ) (t : Token) : Type 0 where
  pub span : span_of t ≡ part_of_file file t.at.at (length t.text)
  pub begins : from ≤ t.at.at
  pub some : 1 ≤ length t.text
  pub ends : t.at.at + length t.text ≤ to

order_on : (from to : ℕ) (t : Token) (ts : List Token) → InOrder from to (t ∷ ts) → from ≤ t.at.at + length t.text
order_on from to t ts h = let a = h.0 in omega arith

-- a token in the order
pub placed_in : (file from to : ℕ) (ts : List Token) → InOrder from to ts → AreTraced file ts → (k : ℕ) (t : Token) → slice_get ts k ≡ Some t → IsPlaced file from to t
placed_in file from to [] order traced k t e = absurd (cc)
placed_in file from to (x ∷ ts) order traced zero t e =
    subst (λ (u : Token). IsPlaced file from to u) (same_Some x t e)
    (record { span = span_traced file x order.1 traced.0; begins = order.0; some = order.1; ends = order.2 })
placed_in file from to (x ∷ ts) order traced (suc k) t e =
    let is = placed_in file (x.at.at + length x.text) to ts order.3 traced.1 k t e in
    let far = order_on from to x ts order in
    let near = is.begins in
    record { span = is.span; begins = omega arith; some = is.some; ends = is.ends }

apart_in : (file from to : ℕ) (ts : List Token) → InOrder from to ts → AreTraced file ts → (j k : ℕ) (t u : Token) → j < k
    → slice_get ts j ≡ Some t → slice_get ts k ≡ Some u → t.at.at + length t.text ≤ u.at.at
apart_in file from to [] order traced j k t u less e f = absurd (cc)
apart_in file from to (x ∷ ts) order traced j zero t u less e f = absurd (omega arith)
apart_in file from to (x ∷ ts) order traced zero (suc k) t u less e f =
    subst (λ (y : Token). y.at.at + length y.text ≤ u.at.at) (same_Some x t e)
    ((placed_in file (x.at.at + length x.text) to ts order.3 traced.1 k u f).begins)
apart_in file from to (x ∷ ts) order traced (suc j) (suc k) t u less e f =
    apart_in file (x.at.at + length x.text) to ts order.3 traced.1 j k t u (omega arith) e f

-- ---- the tokens of a file

pub token_placed : (file : ℕ) (bytes : List ℕ) (k : ℕ) (t : Token) → slice_get (tokens_of file bytes) k ≡ Some t → IsPlaced file 0 (length (logical_of bytes)) t
token_placed file bytes k t e =
    placed_in file 0 (length (logical_of bytes)) (tokens_of file bytes) (tokens_of-in_order file bytes) (tokens_traced file bytes) k t e

pub tokens_in_line : (file : ℕ) (bytes : List ℕ) → AreInLine file (tokens_of file bytes)
tokens_in_line file bytes = record {
  placed = λ k t e. ap (λ (p : Part). p.start.file) (token_placed file bytes k t e).span;
  ordered = λ j k t u less e f.
      let first : (span_of t).start.at ≡ t.at.at = ap (λ (p : Part). p.start.at) (token_placed file bytes j t e).span in
      let second : (span_of u).start.at ≡ u.at.at = ap (λ (p : Part). p.start.at) (token_placed file bytes k u f).span in
      let apart = apart_in file 0 (length (logical_of bytes)) (tokens_of file bytes) (tokens_of-in_order file bytes) (tokens_traced file bytes) j k t u less e f in
      rw (first, second) apart;
}
