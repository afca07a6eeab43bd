-- The tokens of a file come from somewhere, at lines that a source file can have.
use Rattle.std.proofs.Common.{◌≡◌, ℕ, zero, suc, ◌+◌, ◌-◌, ◌≤◌, ◌^◌, ◌==◌, ◌&&◌, Bool, true, false, nat_lt, List, [], ◌∷◌, ◌++◌, length, take, drop, Option, Some, None, Ok, is_ok, is_some, refl, ap, inl, inr, arith}
use Rattle.std.specs.List.{list_all}
use Rattle.std.proofs.lemmas.Bool.{cases_Bool, lt-ltb, ltb-true, and_parts}
use Rattle.cs_base.specs.Token.{Token}
use Rattle.source_files.specs.Below.lexer.Places.{origins_from}
use Rattle.source_files.specs.Below.lexer.Logical.{Character, gone_length, logical_from, logical_of, spelling, line_at}
use Rattle.source_files.specs.Below.lexer.Characters.{line_feed, slash, star, is_white, begins}
use Rattle.source_files.specs.Below.lexer.Tokens.{Found, front_length, comment_end, comment_or_open, token_piece, piece_of, expects_header, piece_at, piece_length, leaves_gap, line_front_after, found_in, found_from, found_of, tokens_in, tokens_of}
use Rattle.source_files.specs.Below.lexer.FileText.{TextValue, file_text}
use Rattle.source_files.proofs.Below.lexer.OriginLemmas.{origins_from-traced}
use Rattle.source_files.proofs.Below.lexer.ScanLemmas.{line_at-bound}
use Rattle.macro_expand.specs.Below.macro_body.Sound.{is_traced, is_low}
use Rattle.source_files.proofs.OpeningLemmas.{readable-small}
use Rattle.source_files.proofs.Below.lexer.TextLemmas.{file_text-toks}

abbrev is_sound : Token → Bool
is_sound t = is_traced t && is_low t

-- ---- characters

abbrev stands_before : ℕ → Character → Bool
stands_before n c = nat_lt c.offset n

-- the characters of bytes stand before their end
pub logical_from-before : (n skip at : ℕ) (bs : List ℕ) → at + length bs ≤ n → list_all (stands_before n) (logical_from skip at bs) ≡ true
unfolding logical_from
logical_from-before n zero at [] h = refl
logical_from-before n (suc skip) at [] h = refl
logical_from-before n (suc skip) at (c ∷ cs) h = logical_from-before n skip (at + 1) cs (omega (arith, h))
logical_from-before n zero at (c ∷ cs) h = elim (cases_Bool (gone_length c cs == 0)) [
  | inl stays ↦
      let here : nat_lt at n ≡ true = lt-ltb at n (omega (arith, h)) in
      rw (stays, here) (logical_from-before n 0 (at + 1) cs (omega (arith, h)))
  | inr goes ↦ rw goes (logical_from-before n (gone_length c cs - 1) (at + 1) cs (omega (arith, h)))
]

-- ---- tokens

found-sound : (file line : ℕ) (gap : Bool) (front : _) (at : ℕ) (header : Bool) (c : ℕ) (cs : List ℕ) (rest : List Found) → line ≤ 2 ^ 22
    → list_all is_sound (tokens_in rest) ≡ true → list_all is_sound (tokens_in (found_in file line gap front at (c ∷ cs) (token_piece header (c ∷ cs)) ++ rest)) ≡ true
unfolding token_piece
found-sound file line gap front at header c cs rest low h =
    let traced : list_all is_some (origins_from file at (length (take (front_length header (c ∷ cs)) (c ∷ cs)))) ≡ true =
    origins_from-traced file at (length (take (front_length header (c ∷ cs)) (c ∷ cs))) in
    let below : nat_lt line (2 ^ 22 + 1) ≡ true = lt-ltb line (2 ^ 22 + 1) (omega (arith, low)) in
    rw (traced, below) h

comment-sound : (file line : ℕ) (gap : Bool) (front : _) (at : ℕ) (text : List ℕ) (o : Option ℕ) (rest : List Found)
    → list_all is_sound (tokens_in rest) ≡ true → list_all is_sound (tokens_in (found_in file line gap front at text (comment_or_open o) ++ rest)) ≡ true
comment-sound file line gap front at text None rest h = h
comment-sound file line gap front at text (Some n) rest h = h

-- what the first piece of a text adds
piece-sound : (file line : ℕ) (gap : Bool) (front : _) (at : ℕ) (header : Bool) (c : ℕ) (cs : List ℕ) (rest : List Found) → line ≤ 2 ^ 22
    → list_all is_sound (tokens_in rest) ≡ true → list_all is_sound (tokens_in (found_in file line gap front at (c ∷ cs) (piece_of header c cs) ++ rest)) ≡ true
unfolding piece_of
piece-sound file line gap front at header c cs rest low h = elim (cases_Bool (c == line_feed)) [
  | inl ends ↦ rw ends h
  | inr a ↦ elim (cases_Bool (is_white c)) [
    | inl white ↦ rw (a, white) h
    | inr b ↦ elim (cases_Bool (c == slash && begins slash cs)) [
      | inl line_comment ↦ rw (a, b, line_comment) h
      | inr d ↦ elim (cases_Bool (c == slash && begins star cs)) [
        | inl comment ↦ rw (a, b, d, comment) (comment-sound file line gap front at (c ∷ cs) (comment_end (drop 1 cs)) rest h)
        | inr e ↦ rw (a, b, d, e) (found-sound file line gap front at header c cs rest low h)
      ]
    ]
  ]
]

-- the line of a character is one that the file can have
pub line-low : (bytes : List ℕ) (c : Character) → length bytes ≤ 2 ^ 22 → stands_before (length bytes) c ≡ true → line_at bytes c.offset ≤ 2 ^ 22
line-low bytes c few before = omega (arith, few, ltb-true c.offset (length bytes) before, line_at-bound bytes c.offset)

found_from-sound : (file : ℕ) (bytes : List ℕ) (skip : ℕ) (gap : Bool) (front : _) (at : ℕ) (cs : List Character) → length bytes ≤ 2 ^ 22
    → list_all (stands_before (length bytes)) cs ≡ true → list_all is_sound (tokens_in (found_from file bytes skip gap front at cs)) ≡ true
unfolding found_from
found_from-sound file bytes zero gap front at [] few h = refl
found_from-sound file bytes (suc skip) gap front at [] few h = refl
found_from-sound file bytes (suc skip) gap front at (c ∷ cs) few h =
    let both = and_parts (stands_before (length bytes) c) (list_all (stands_before (length bytes)) cs) h in
    found_from-sound file bytes skip gap front (at + 1) cs few both.1
found_from-sound file bytes zero gap front at (c ∷ cs) few h =
    let both = and_parts (stands_before (length bytes) c) (list_all (stands_before (length bytes)) cs) h in
    piece-sound file (line_at bytes c.offset) gap front at (expects_header front) c.byte (spelling cs) _ (line-low bytes c few both.0)
    (found_from-sound file bytes (piece_length (length (c ∷ cs)) (piece_at front c cs) - 1) (leaves_gap (piece_at front c cs))
    (line_front_after (spelling (c ∷ cs)) front (piece_at front c cs)) (at + 1) cs few both.1)

-- the tokens of a file that is not too large
pub tokens_of-sound : (file : ℕ) (bytes : List ℕ) → length bytes ≤ 2 ^ 22 → list_all (λ t. is_traced t && is_low t) (tokens_of file bytes) ≡ true
unfolding tokens_of found_of logical_of
tokens_of-sound file bytes few =
    found_from-sound file bytes 0 true _ 0 (logical_of bytes) few (logical_from-before (length bytes) 0 0 bytes (omega arith))

-- ---- texts

-- the tokens of a file that has a text
pub text-sound : (file : ℕ) (bytes : List ℕ) (text : TextValue) → file_text file bytes ≡ Ok text → list_all (λ t. is_traced t && is_low t) text.toks ≡ true
text-sound file bytes text h =
    rw (file_text-toks file bytes text h) (tokens_of-sound file bytes (readable-small file bytes (ap is_ok h)))
