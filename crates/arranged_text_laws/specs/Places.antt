-- Texts that stand elsewhere (ISO/IEC 9899:1999, 5.1.1.2 phase 3): what is found in them is the same but for its place.
use Rattle.std.specs.Prelude.{◌≡◌, ℕ, zero, suc, ◌+◌, ◌-◌, Bool, List, [], ◌∷◌, ◌++◌, map}
use Rattle.lexer.specs.Logical.{Character, spelling}
use Rattle.lexer.specs.Tokens.{Found, FoundToken, FoundOpen, piece_of, piece_length, leaves_gap, line_front_after, expects_header, file_token, found_in}
use Rattle.arranged_text_laws.specs.Settling.{Front, found_within}

-- what is found, by its place behind a character, without its file and its line
abbrev pub unplaced : ℕ → Found → Found
unplaced base (FoundToken t first) = FoundToken (file_token 0 0 t.gap (t.at.at - base) t.kind t.text) first
unplaced base (FoundOpen at) = FoundOpen (at - base)

-- what is found in these characters, with `ys` behind them, by the number of the first of them, without its file and its line
unfoldable pub found_plain : ℕ → Bool → Front → ℕ → List ℕ → List ℕ → List Found
found_plain skip gap front at [] ys = []
found_plain (suc skip) gap front at (c ∷ xs) ys = found_plain skip gap front (at + 1) xs ys
found_plain zero gap front at (c ∷ xs) ys =
    found_in 0 0 gap front at (c ∷ (xs ++ ys)) (piece_of (expects_header front) c (xs ++ ys))
    ++ found_plain (piece_length 0 (piece_of (expects_header front) c (xs ++ ys)) - 1) (leaves_gap (piece_of (expects_header front) c (xs ++ ys)))
    (line_front_after (c ∷ (xs ++ ys)) front (piece_of (expects_header front) c (xs ++ ys))) (at + 1) xs ys

-- The law: what is found in some characters of a file is found in their text, wherever they stand.
abbrev pub PlacesDoNotMatter : Type 0
PlacesDoNotMatter = (file : ℕ) (bytes : List ℕ) (skip : ℕ) (gap : Bool) (front : Front) (base at : ℕ) (cs : List Character) (ys : List ℕ)
    → map (unplaced base) (found_within file bytes skip gap front (base + at) cs ys) ≡ found_plain skip gap front at (spelling cs) ys
