-- What is found in texts that stand elsewhere.
use Rattle.std.proofs.Common.{◌≡◌, ℕ, zero, suc, ◌+◌, ◌-◌, Bool, ◌&&◌, ◌==◌, List, [], ◌∷◌, ◌++◌, map, drop, inl, inr, refl, ap, ◌∙◌, arith}
use Rattle.std.proofs.lemmas.Bool.{cases_Bool}
use Rattle.std.proofs.lemmas.List.{map-append}
use Rattle.lexer.specs.Characters.{line_feed, slash, star, is_white, begins}
use Rattle.lexer.specs.Logical.{Character, spelling, line_at}
use Rattle.lexer.specs.Tokens.{Found, piece_of, piece_length, leaves_gap, line_front_after, expects_header, comment_end, found_in}
use Rattle.lexer.proofs.LocalLemmas.{option-cases}
use Rattle.lexer.proofs.PieceLocal.{token_piece-is}
use Rattle.arranged_text_laws.specs.Settling.{Front, found_within}
use Rattle.arranged_text_laws.specs.Places.{unplaced, found_plain, PlacesDoNotMatter}

-- what one piece gives
one_unplaced : (file line : ℕ) (gap : Bool) (front : Front) (base at : ℕ) (header : Bool) (c : ℕ) (cs text : List ℕ)
    → map (unplaced base) (found_in file line gap front (base + at) text (piece_of header c cs)) ≡ found_in 0 0 gap front at text (piece_of header c cs)
unfolding piece_of
one_unplaced file line gap front base at header c cs text =
    let back : base + at - base ≡ at = omega arith in
    elim (cases_Bool (c == line_feed)) [
      | inl ends_here ↦ rw ends_here refl
      | inr on ↦ elim (cases_Bool (is_white c)) [
        | inl white ↦ rw (on, white) refl
        | inr dark ↦ elim (cases_Bool (c == slash && begins slash cs)) [
          | inl comment ↦ rw (on, dark, comment) refl
          | inr no_line ↦ elim (cases_Bool (c == slash && begins star cs)) [
            | inl block ↦ elim (option-cases (comment_end (drop 1 cs))) [
              | inl open_still ↦ rw (on, dark, no_line, block, open_still, back) refl
              | inr closed ↦ rw (on, dark, no_line, block, closed.1) refl
            ]
            | inr no_block ↦ rw (on, dark, no_line, no_block, token_piece-is header c cs, back) refl
          ]
        ]
      ]
    ]

unplaced_from : (file : ℕ) (bytes : List ℕ) (skip : ℕ) (gap : Bool) (front : Front) (base at : ℕ) (cs : List Character) (ys : List ℕ)
    → map (unplaced base) (found_within file bytes skip gap front (base + at) cs ys) ≡ found_plain skip gap front at (spelling cs) ys
unfolding found_within found_plain
unplaced_from file bytes zero gap front base at [] ys = refl
unplaced_from file bytes (suc skip) gap front base at [] ys = refl
unplaced_from file bytes (suc skip) gap front base at (c ∷ cs) ys =
    let on : base + at + 1 ≡ base + (at + 1) = omega arith in
    ap (λ (k : ℕ). map (unplaced base) (found_within file bytes skip gap front k cs ys)) on ∙ unplaced_from file bytes skip gap front base (at + 1) cs ys
unplaced_from file bytes zero gap front base at (c ∷ cs) ys =
    let text = spelling cs ++ ys in
    let header = expects_header front in
    let piece = piece_of header c.byte text in
    let front2 = line_front_after (c.byte ∷ text) front piece in
    let here = found_in file (line_at bytes c.offset) gap front (base + at) (c.byte ∷ text) piece in
    let on : base + at + 1 ≡ base + (at + 1) = omega arith in
    map-append (unplaced base) here (found_within file bytes (piece_length 0 piece - 1) (leaves_gap piece) front2 (base + at + 1) cs ys)
    ∙ ap (λ (f : List Found). f ++ map (unplaced base) (found_within file bytes (piece_length 0 piece - 1) (leaves_gap piece) front2 (base + at + 1) cs ys))
    (one_unplaced file (line_at bytes c.offset) gap front base at header c.byte text (c.byte ∷ text))
    ∙ ap (λ (k : ℕ). found_in 0 0 gap front at (c.byte ∷ text) piece ++ map (unplaced base) (found_within file bytes (piece_length 0 piece - 1) (leaves_gap piece) front2 k cs ys)) on
    ∙ ap (λ (f : List Found). found_in 0 0 gap front at (c.byte ∷ text) piece ++ f)
    (unplaced_from file bytes (piece_length 0 piece - 1) (leaves_gap piece) front2 base (at + 1) cs ys)

pub places_do_not_matter : PlacesDoNotMatter
places_do_not_matter = unplaced_from
