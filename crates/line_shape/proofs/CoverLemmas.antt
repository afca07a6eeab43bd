-- The items of a file hold each of its tokens once, in order.
use Rattle.std.proofs.Common.{◌≡◌, ℕ, ◌+◌, ◌<◌, ◌≤◌, Bool, true, false, List, [], ◌∷◌, ◌++◌, length, get_or, drop, subst, refl, ap, ◌∙◌, inl, inr, arith, length-append}
use Rattle.std.specs.Prelude.{All}
use Rattle.std.proofs.lemmas.Bool.{cases_Bool}
use Rattle.std.proofs.lemmas.List.Elements.{All-cons}
use Rattle.cs_base.specs.Token.{Token}
use Rattle.line_shape.specs.declared.items.Item.{Item}
use Rattle.line_shape.specs.declared.items.ItemKind.{ItemKind}
use Rattle.line_shape.specs.Directives.{is_run}
use Rattle.line_shape.specs.Items.{onto_lines, lines_of, line_kind, Piece, piece, onto_pieces, pieces_of, item_of, items_from, items_of, Follow}

-- how many tokens lines have, and pieces
abbrev tokens_in_lines : List (List Token) → ℕ
tokens_in_lines [] = 0
tokens_in_lines (line ∷ lines) = length line + tokens_in_lines lines

abbrev tokens_in_pieces : List Piece → ℕ
tokens_in_pieces [] = 0
tokens_in_pieces (p ∷ pieces) = length p.toks + tokens_in_pieces pieces

tokens_in-onto_lines : (t : Token) (b : Bool) (lines : List (List Token)) → tokens_in_lines (onto_lines t b lines) ≡ tokens_in_lines lines + 1
tokens_in-onto_lines t true lines = omega arith
tokens_in-onto_lines t false [] = refl
tokens_in-onto_lines t false (line ∷ lines) = omega arith

tokens_in-lines_of : (toks : List Token) (firsts : List Bool) → tokens_in_lines (lines_of toks firsts) ≡ length toks
unfolding lines_of
tokens_in-lines_of [] firsts = refl
tokens_in-lines_of (t ∷ toks) firsts =
    let rest = tokens_in-lines_of toks (drop 1 firsts) in
    let all = tokens_in-onto_lines t (get_or firsts 1 false) (lines_of toks (drop 1 firsts)) in
    omega (arith, rest, all)

tokens_in-onto_pieces : (p : Piece) (pieces : List Piece) → tokens_in_pieces (onto_pieces p pieces) ≡ length p.toks + tokens_in_pieces pieces
tokens_in-onto_pieces p [] = refl
tokens_in-onto_pieces p (next ∷ pieces) =
    elim (cases_Bool (is_run p.kind)) [
      | inr other ↦ rw other refl
      | inl run ↦ elim (cases_Bool (is_run next.kind)) [
        | inr directive ↦ rw (run, directive) refl
        | inl joined ↦ rw (run, joined) (omega (arith, length-append p.toks next.toks))
      ]
    ]

tokens_in-pieces_of : (lines : List (List Token)) → tokens_in_pieces (pieces_of lines) ≡ tokens_in_lines lines
unfolding pieces_of
tokens_in-pieces_of [] = refl
tokens_in-pieces_of (line ∷ lines) =
    tokens_in-onto_pieces (piece (line_kind line) line) (pieces_of lines) ∙ ap (λ (n : ℕ). length line + n) (tokens_in-pieces_of lines)

-- items that end at the same place
Follow-to : (from to to' : ℕ) (items : List Item) → to ≡ to' → Follow from to items → Follow from to' items
Follow-to from to to' items same f = subst (λ (n : ℕ). Follow from n items) same f

Follow-from : (from from' to : ℕ) (items : List Item) → from ≡ from' → Follow from to items → Follow from' to items
Follow-from from from' to items same f = subst (λ (n : ℕ). Follow n to items) same f

-- a piece before others
Follow-piece : (from : ℕ) (kind : ItemKind) (toks : List Token) (pieces : List Piece) (items : List Item)
    → Follow (from + length toks) (from + length toks + tokens_in_pieces pieces) items
    → Follow from (from + (length toks + tokens_in_pieces pieces)) (item_of kind from toks ++ items)
Follow-piece from kind [] pieces items f =
    Follow-from (from + 0) from _ items (omega arith) (Follow-to (from + 0) _ _ items (omega arith) f)
Follow-piece from kind (t ∷ toks) pieces items f =
    (refl, omega arith, Follow-to (from + length (t ∷ toks)) _ _ items (omega arith) f)

Follow-items_from : (from : ℕ) (pieces : List Piece) → Follow from (from + tokens_in_pieces pieces) (items_from from pieces)
unfolding items_from
Follow-items_from from [] = omega arith
Follow-items_from from (p ∷ pieces) =
    Follow-piece from p.kind p.toks pieces (items_from (from + length p.toks) pieces) (Follow-items_from (from + length p.toks) pieces)

pub Follow-items_of : (toks : List Token) (firsts : List Bool) → Follow 0 (length toks) (items_of toks firsts)
unfolding items_of
Follow-items_of toks firsts =
    let pieces = pieces_of (lines_of toks firsts) in
    let all = tokens_in-pieces_of (lines_of toks firsts) ∙ tokens_in-lines_of toks firsts in
    Follow-to 0 (0 + tokens_in_pieces pieces) (length toks) (items_from 0 pieces) (omega (arith, all)) (Follow-items_from 0 pieces)

-- the place where such items end
pub Follow-ends : (from to : ℕ) (items : List Item) → Follow from to items → from ≤ to
Follow-ends from to [] f = omega arith
Follow-ends from to (i ∷ items) f =
    let after = f.1 in
    let rest = Follow-ends i.to to items f.2 in
    omega arith

-- so each has tokens, and they are there
pub Follow-within : (from to : ℕ) (items : List Item) → Follow from to items → All (λ (i : Item). (i.from < i.to) × (i.to ≤ to)) items
Follow-within from to [] f = λ k d h. absurd (omega arith)
Follow-within from to (i ∷ items) f =
    let first = f.0 in
    let after = f.1 in
    let rest = Follow-ends i.to to items f.2 in
    All-cons (λ (j : Item). (j.from < j.to) × (j.to ≤ to)) i items (omega arith, rest) (Follow-within i.to to items f.2)
