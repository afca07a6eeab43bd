-- A message, piece by piece.
use Rattle.std.proofs.Common.{◌≡◌, ◌++◌, ℕ, List, [], ◌∷◌, map, refl, ap, sym, ◌∙◌, append_assoc}
use Rattle.std.specs.Prelude.{codes}
use Rattle.std.specs.Borrow.{Bor}
use Rattle.std.specs.List.{flat_map}
use Rattle.command_words.specs.Message.{joined, message}

abbrev pub text_of : Bor (List ℕ) → List ℕ
text_of piece = piece.now

joined_texts : (pieces : List (Bor (List ℕ))) → joined (map text_of pieces) ≡ flat_map text_of pieces
joined_texts [] = refl
joined_texts (piece ∷ pieces) = ap (λ (bytes : List ℕ). piece.now ++ bytes) (joined_texts pieces)

-- what the pieces of a message add to a text
pub message_is : (old : List ℕ) (pieces : List (Bor (List ℕ))) → ((old ++ codes "cscout: ") ++ flat_map text_of pieces) ++ codes "\n" ≡ old ++ message (map text_of pieces)
unfolding message
message_is old pieces =
    ap (λ (bytes : List ℕ). bytes ++ codes "\n") (append_assoc old (codes "cscout: ") (flat_map text_of pieces))
    ∙ append_assoc old (codes "cscout: " ++ flat_map text_of pieces) (codes "\n")
    ∙ ap (λ (bytes : List ℕ). old ++ ((codes "cscout: " ++ bytes) ++ codes "\n")) (sym (joined_texts pieces))
