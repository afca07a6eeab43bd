-- The tokens of a file are spelled as their kinds say.
use Rattle.std.proofs.Common.{◌≡◌, ℕ, zero, suc, ◌+◌, ◌-◌, ◌≤◌, ◌^◌, ◌==◌, ◌&&◌, ◌||◌, Bool, true, false, nat_lt, List, [], ◌∷◌, ◌++◌, length, take, drop, Option, Some, None, Ok, is_ok, is_some, unwrap_or, ◌⊎◌, inl, inr, refl, sym, ap, ◌∙◌, arith}
use Rattle.std.specs.List.{list_all}
use Rattle.std.proofs.lemmas.Bool.{cases_Bool, lt-ltb, and_parts}
use Rattle.std.proofs.Math.Bool.{or-true}
use Rattle.cs_base.specs.declared.tokens.Kind.{Kind}
use Rattle.cs_base.specs.declared.tokens.Kind.TheVariants.{Header, Other}
use Rattle.lexer.specs.Characters.{less_than, double_quote, line_feed, slash, star, is_white, begins}
use Rattle.lexer.specs.Spelling.{is_header_text, kind_of, kind_in}
use Rattle.lexer.specs.Logical.{Character, logical_of, spelling, line_at}
use Rattle.lexer.specs.Tokens.{Found, longest, front_length, kind_or_other, comment_end, comment_or_open, token_piece, piece_of, expects_header, piece_at, piece_length, leaves_gap, line_front_after, found_in, found_from, found_of, tokens_in, tokens_of}
use Rattle.lexer.specs.FileText.{TextValue, file_text}
use Rattle.source_files.proofs.OpeningLemmas.{readable-small}
use Rattle.expansion_laws.specs.Spelled.{fits, is_lone, is_spelled}
use Rattle.expansion_laws.proofs.TextKindLemmas.{kind_fits}
use Rattle.lexer.proofs.TextLemmas.{file_text-toks}
use Rattle.unit_steps.proofs.FileToksLemmas.{logical_from-before, line-low}

-- ---- the front of a text

header_fits : (text : List ℕ) → is_header_text text ≡ true → fits Header text ≡ true
header_fits [] h = absurd (cc)
header_fits (c ∷ cs) h = elim (cases_Bool (c == less_than)) [
  | inl less ↦ rw less refl
  | inr other ↦ elim (cases_Bool (c == double_quote)) [
    | inl quote ↦ rw quote (or-true (c == less_than))
    | inr neither ↦ let no = rw (other, neither) at h in absurd (cc)
  ]
]

longest_or_one : (header : Bool) (n : ℕ) (text : List ℕ) → (is_some (kind_in header (take (longest header n text) text)) ≡ true) ⊎ (longest header n text ≡ 1)
longest_or_one header zero text = inr refl
longest_or_one header (suc n) text = elim (cases_Bool (is_some (kind_in header (take (suc n) text)))) [
  | inl is ↦ rw is (inl is)
  | inr is_not ↦ rw is_not (longest_or_one header n text)
]

-- a character that is no white space and no token of a kind
lone_fits : (header : Bool) (c : ℕ) → is_white c ≡ false → kind_in header (c ∷ []) ≡ None → is_lone (c ∷ []) ≡ true
unfolding kind_in
lone_fits header c dark none = elim (cases_Bool (header && is_header_text (c ∷ []))) [
  | inl is ↦ let some = rw is at none in absurd (cc)
  | inr is_not ↦
      let other : kind_of (c ∷ []) ≡ None = rw is_not at none in
      rw (dark, other) refl
]

kind_in_fits : (header : Bool) (text : List ℕ) (k : Kind) → kind_in header text ≡ Some k → fits k text ≡ true
unfolding kind_in
kind_in_fits header text k e = elim (cases_Bool (header && is_header_text text)) [
  | inl is ↦
      let same : Header ≡ k = (let some = rw is at e in cc) in
      ap (λ (x : Kind). fits x text) (sym same) ∙ header_fits text (and_parts header (is_header_text text) is).1
  | inr is_not ↦ kind_fits text k (rw is_not at e)
]

-- what the front is, of a kind or a lone character
front_by : (header : Bool) (c : ℕ) (cs : List ℕ) (n : ℕ) (o : Option Kind) → kind_in header (take n (c ∷ cs)) ≡ o → is_white c ≡ false
    → (is_some o ≡ true) ⊎ (n ≡ 1) → fits (unwrap_or o Other) (take n (c ∷ cs)) ≡ true
front_by header c cs n (Some k) is dark which = kind_in_fits header (take n (c ∷ cs)) k is
front_by header c cs n None is dark (inl some) = absurd (cc)
front_by header c cs n None is dark (inr one) =
    let single : take n (c ∷ cs) ≡ c ∷ [] = ap (λ (m : ℕ). take m (c ∷ cs)) one in
    ap (λ (l : List ℕ). is_lone l) single ∙ lone_fits header c dark (ap (kind_in header) (sym single) ∙ is)

front_fits : (header : Bool) (c : ℕ) (cs : List ℕ) → is_white c ≡ false
    → fits (kind_or_other header (take (front_length header (c ∷ cs)) (c ∷ cs))) (take (front_length header (c ∷ cs)) (c ∷ cs)) ≡ true
unfolding front_length
front_fits header c cs dark =
    let n = longest header (length (c ∷ cs)) (c ∷ cs) in
    front_by header c cs n (kind_in header (take n (c ∷ cs))) refl dark (longest_or_one header (length (c ∷ cs)) (c ∷ cs))

-- ---- characters

abbrev stands_before : ℕ → Character → Bool
stands_before n c = nat_lt c.offset n

-- ---- tokens

found-spelled : (file line : ℕ) (gap : Bool) (front : _) (at : ℕ) (header : Bool) (c : ℕ) (cs : List ℕ) (rest : List Found) → line ≤ 2 ^ 22 → is_white c ≡ false
    → list_all is_spelled (tokens_in rest) ≡ true → list_all is_spelled (tokens_in (found_in file line gap front at (c ∷ cs) (token_piece header (c ∷ cs)) ++ rest)) ≡ true
unfolding token_piece
found-spelled file line gap front at header c cs rest low dark h =
    let here = front_fits header c cs dark in
    let below : nat_lt line (2 ^ 64) ≡ true = lt-ltb line (2 ^ 64) (omega (arith, low)) in
    rw (here, below) h

comment-spelled : (file line : ℕ) (gap : Bool) (front : _) (at : ℕ) (text : List ℕ) (o : Option ℕ) (rest : List Found)
    → list_all is_spelled (tokens_in rest) ≡ true → list_all is_spelled (tokens_in (found_in file line gap front at text (comment_or_open o) ++ rest)) ≡ true
comment-spelled file line gap front at text None rest h = h
comment-spelled file line gap front at text (Some n) rest h = h

piece-spelled : (file line : ℕ) (gap : Bool) (front : _) (at : ℕ) (header : Bool) (c : ℕ) (cs : List ℕ) (rest : List Found) → line ≤ 2 ^ 22
    → list_all is_spelled (tokens_in rest) ≡ true → list_all is_spelled (tokens_in (found_in file line gap front at (c ∷ cs) (piece_of header c cs) ++ rest)) ≡ true
unfolding piece_of
piece-spelled file line gap front at header c cs rest low h = elim (cases_Bool (c == line_feed)) [
  | inl ends ↦ rw ends h
  | inr a ↦ elim (cases_Bool (is_white c)) [
    | inl white ↦ rw (a, white) h
    | inr b ↦ elim (cases_Bool (c == slash && begins slash cs)) [
      | inl line_comment ↦ rw (a, b, line_comment) h
      | inr d ↦ elim (cases_Bool (c == slash && begins star cs)) [
        | inl comment ↦ rw (a, b, d, comment) (comment-spelled file line gap front at (c ∷ cs) (comment_end (drop 1 cs)) rest h)
        | inr e ↦ rw (a, b, d, e) (found-spelled file line gap front at header c cs rest low b h)
      ]
    ]
  ]
]

found_from-spelled : (file : ℕ) (bytes : List ℕ) (skip : ℕ) (gap : Bool) (front : _) (at : ℕ) (cs : List Character) → length bytes ≤ 2 ^ 22
    → list_all (stands_before (length bytes)) cs ≡ true → list_all is_spelled (tokens_in (found_from file bytes skip gap front at cs)) ≡ true
unfolding found_from
found_from-spelled file bytes zero gap front at [] few h = refl
found_from-spelled file bytes (suc skip) gap front at [] few h = refl
found_from-spelled file bytes (suc skip) gap front at (c ∷ cs) few h =
    found_from-spelled file bytes skip gap front (at + 1) cs few (and_parts (stands_before (length bytes) c) (list_all (stands_before (length bytes)) cs) h).1
found_from-spelled file bytes zero gap front at (c ∷ cs) few h =
    let both = and_parts (stands_before (length bytes) c) (list_all (stands_before (length bytes)) cs) h in
    piece-spelled file (line_at bytes c.offset) gap front at (expects_header front) c.byte (spelling cs) _ (line-low bytes c few both.0)
    (found_from-spelled file bytes (piece_length (length (c ∷ cs)) (piece_at front c cs) - 1) (leaves_gap (piece_at front c cs))
    (line_front_after (spelling (c ∷ cs)) front (piece_at front c cs)) (at + 1) cs few both.1)

tokens_of-spelled : (file : ℕ) (bytes : List ℕ) → length bytes ≤ 2 ^ 22 → list_all is_spelled (tokens_of file bytes) ≡ true
unfolding tokens_of found_of logical_of
tokens_of-spelled file bytes few =
    found_from-spelled file bytes 0 true _ 0 (logical_of bytes) few (logical_from-before (length bytes) 0 0 bytes (omega arith))

-- ---- texts

-- the tokens of a file that has a text
pub text_spelled : (file : ℕ) (bytes : List ℕ) (text : TextValue) → file_text file bytes ≡ Ok text → list_all is_spelled text.toks ≡ true
text_spelled file bytes text h =
    rw (file_text-toks file bytes text h) (tokens_of-spelled file bytes (readable-small file bytes (ap is_ok h)))
