-- Worked rows: texts of items of lists, and of what stands between them, and whether they settle.
use Rattle.std.proofs.Common.{◌≡◌, true, false, codes, refl}
use Rattle.lexer.specs.Spelling.{is_punctuator_text, kind_of, kind_in}
use Rattle.lexer.specs.Tokens.{front_length, token_piece, piece_of}
use Rattle.lexer.specs.Front.{front_of, plain_front, punctuator_length}
use Rattle.arranged_text_laws.specs.Settling.{settles}
use Rattle.arranged_text_laws.proofs.JoinLemmas.{files_begin}

-- an item that ends before a comma, or a parenthesis; and what stands between two items, whatever follows
items_settle :
    (settles true 0 files_begin.0 (codes "g(3)") (codes ", 1)") ≡ true)
    × (settles true 0 files_begin.0 (codes "a.b") (codes ")") ≡ true)
    × (settles false 0 files_begin.0 (codes ", /*c*/ ") (codes "g(3)") ≡ true)
unfolding files_begin settles piece_of token_piece front_length kind_in kind_of is_punctuator_text front_of plain_front punctuator_length
items_settle = (refl, refl, refl)

-- a lone quote, which might close behind the item; a `/`, before which a comment might begin; and a name, which might go on
others_do_not :
    (settles true 0 files_begin.0 (codes "'") (codes ", 1)") ≡ false)
    × (settles true 0 files_begin.0 (codes "a /") (codes ", 1)") ≡ false)
    × (settles false 0 files_begin.0 (codes ", a") (codes ")") ≡ false)
unfolding files_begin settles piece_of token_piece front_length kind_in kind_of is_punctuator_text front_of plain_front punctuator_length
others_do_not = (refl, refl, refl)
