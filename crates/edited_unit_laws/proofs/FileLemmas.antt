-- Tokens of a file: their origins, and where they stand.
use Rattle.std.proofs.Common.{◌≡◌, ℕ, zero, suc, ◌+◌, ◌-◌, ◌==◌, ◌&&◌, Bool, true, false, codes, List, [], ◌∷◌, ◌++◌, length, drop, Option, None, Some, inl, inr, refl, sym, ap, ◌∙◌}
use Rattle.std.specs.Prelude.{unwrap_or}
use Rattle.std.specs.Str.{bytes_eq}
use Rattle.std.proofs.lemmas.Bool.{cases_Bool, or_cases}
use Rattle.cs_base.proofs.FileMapLemmas.{bytes_eq-equal}
use Rattle.cs_base.specs.declared.tokens.Kind.TheVariants.{Other}
use Rattle.cs_base.specs.Token.{Token}
use Rattle.lexer.specs.Characters.{line_feed, slash, star, is_white, begins}
use Rattle.lexer.specs.Logical.{Character, logical_of, spelling, line_at}
use Rattle.lexer.specs.Places.{pos, origins_from}
use Rattle.lexer.specs.Spelling.{is_identifier_text, is_number_text, is_char_text, is_string_text, is_punctuator_text, is_header_text, kind_of, kind_in}
use Rattle.line_shape.specs.Signs.{is_identifier, is_punctuator, is_name, is_hash}
use Rattle.lexer.specs.Tokens.{Found, kind_or_other, is_hash_text, comment_end, comment_or_open, token_piece, piece_of, expects_header, piece_at, piece_length, leaves_gap, line_front_after, found_in, found_from, found_of, tokens_in, tokens_of}
use Rattle.edited_unit_laws.proofs.ListLemmas.{In, AllOf, all_at}

-- the token stands in the file, has the origins of its characters there, and is of the kind of its spelling
pub record StandsIn (file : ℕ) (t : Token) : Type 0 where
  pub origins : t.origins ≡ origins_from file t.at.at (length t.text)
  pub at : t.at ≡ pos file t.at.at
  pub header : Bool
  pub kind : t.kind ≡ kind_or_other header t.text

found_tokens : (file line : ℕ) (gap : Bool) (front : _) (at : ℕ) (header : Bool) (text : List ℕ) (rest : List Found)
    → AllOf (StandsIn file) (tokens_in rest) → AllOf (StandsIn file) (tokens_in (found_in file line gap front at text (token_piece header text) ++ rest))
unfolding token_piece
found_tokens file line gap front at header text rest h = (record { origins = refl; at = refl; header = header; kind = refl }, h)

comment_tokens : (file line : ℕ) (gap : Bool) (front : _) (at : ℕ) (text : List ℕ) (o : Option ℕ) (rest : List Found)
    → AllOf (StandsIn file) (tokens_in rest) → AllOf (StandsIn file) (tokens_in (found_in file line gap front at text (comment_or_open o) ++ rest))
comment_tokens file line gap front at text None rest h = h
comment_tokens file line gap front at text (Some n) rest h = h

piece_tokens : (file line : ℕ) (gap : Bool) (front : _) (at : ℕ) (header : Bool) (c : ℕ) (cs : List ℕ) (rest : List Found)
    → AllOf (StandsIn file) (tokens_in rest) → AllOf (StandsIn file) (tokens_in (found_in file line gap front at (c ∷ cs) (piece_of header c cs) ++ rest))
unfolding piece_of
piece_tokens file line gap front at header c cs rest h = elim (cases_Bool (c == line_feed)) [
  | inl ends ↦ rw ends h
  | inr a ↦ elim (cases_Bool (is_white c)) [
    | inl white ↦ rw (a, white) h
    | inr b ↦ elim (cases_Bool (c == slash && begins slash cs)) [
      | inl line_comment ↦ rw (a, b, line_comment) h
      | inr d ↦ elim (cases_Bool (c == slash && begins star cs)) [
        | inl comment ↦ rw (a, b, d, comment) (comment_tokens file line gap front at (c ∷ cs) (comment_end (drop 1 cs)) rest h)
        | inr e ↦ rw (a, b, d, e) (found_tokens file line gap front at header (c ∷ cs) rest h)
      ]
    ]
  ]
]

all_found : (file : ℕ) (bytes : List ℕ) (skip : ℕ) (gap : Bool) (front : _) (at : ℕ) (cs : List Character)
    → AllOf (StandsIn file) (tokens_in (found_from file bytes skip gap front at cs))
unfolding found_from
all_found file bytes zero gap front at [] = tt
all_found file bytes (suc skip) gap front at [] = tt
all_found file bytes (suc skip) gap front at (c ∷ cs) = all_found file bytes skip gap front (at + 1) cs
all_found file bytes zero gap front at (c ∷ cs) =
    piece_tokens file (line_at bytes c.offset) gap front at (expects_header front) c.byte (spelling cs) _
    (all_found file bytes (piece_length (length (c ∷ cs)) (piece_at front c cs) - 1) (leaves_gap (piece_at front c cs))
    (line_front_after (spelling (c ∷ cs)) front (piece_at front c cs)) (at + 1) cs)

tokens_stand : (file : ℕ) (bytes : List ℕ) → AllOf (StandsIn file) (tokens_of file bytes)
unfolding tokens_of found_of
tokens_stand file bytes = all_found file bytes 0 true _ 0 (logical_of bytes)

pub token_stands : (file : ℕ) (bytes : List ℕ) (t : Token) → In t (tokens_of file bytes) → StandsIn file t
token_stands file bytes t i = all_at (StandsIn file) (tokens_of file bytes) (tokens_stand file bytes) t i

-- ---- kinds

kind_identifier : (text : List ℕ) → is_identifier (unwrap_or (kind_of text) Other) ≡ true → is_identifier_text text ≡ true
unfolding kind_of
kind_identifier text h = elim (cases_Bool (is_identifier_text text)) [
  | inl is ↦ is
  | inr a ↦ elim (cases_Bool (is_number_text text)) [
    | inl number ↦ let wrong = rw (a, number) at h in absurd (cc)
    | inr b ↦ elim (cases_Bool (is_char_text text)) [
      | inl char ↦ let wrong = rw (a, b, char) at h in absurd (cc)
      | inr c ↦ elim (cases_Bool (is_string_text text)) [
        | inl string ↦ let wrong = rw (a, b, c, string) at h in absurd (cc)
        | inr d ↦ elim (cases_Bool (is_punctuator_text text)) [
          | inl sign ↦ let wrong = rw (a, b, c, d, sign) at h in absurd (cc)
          | inr e ↦ let wrong = rw (a, b, c, d, e) at h in absurd (cc)
        ]
      ]
    ]
  ]
]

spelled_identifier : (header : Bool) (text : List ℕ) → is_identifier (kind_or_other header text) ≡ true → is_identifier_text text ≡ true
unfolding kind_in
spelled_identifier header text h = elim (cases_Bool (header && is_header_text text)) [
  | inl is ↦ let wrong = rw is at h in absurd (cc)
  | inr is_not ↦ kind_identifier text (rw is_not at h)
]

-- an identifier of a file is spelled as one
pub name_spelled : (file : ℕ) (t : Token) → StandsIn file t → is_name t ≡ true → is_identifier_text t.text ≡ true
name_spelled file t stands is =
    spelled_identifier stands.header t.text (ap is_identifier (let k = stands.kind in sym k) ∙ is)

hash_kind : (header : Bool) → is_punctuator (kind_or_other header (codes "#")) ≡ true
unfolding kind_in kind_of is_punctuator_text
hash_kind true = refl
hash_kind false = refl

digraph_kind : (header : Bool) → is_punctuator (kind_or_other header (codes "%:")) ≡ true
unfolding kind_in kind_of is_punctuator_text
digraph_kind true = refl
digraph_kind false = refl

-- what is spelled as a `#` is one
pub hash_spelled : (file : ℕ) (t : Token) → StandsIn file t → is_hash_text t.text ≡ true → is_hash t ≡ true
unfolding is_hash
hash_spelled file t stands is =
    elim (or_cases (bytes_eq t.text (codes "#")) (bytes_eq t.text (codes "%:")) is) [
      | inl hash ↦
          let same = bytes_eq-equal t.text (codes "#") hash in
          let sign : is_punctuator t.kind ≡ true =
          ap is_punctuator stands.kind ∙ ap (λ (w : List ℕ). is_punctuator (kind_or_other stands.header w)) same ∙ hash_kind stands.header in
          rw (sign, hash) refl
      | inr digraph ↦
          let same = bytes_eq-equal t.text (codes "%:") digraph in
          let sign : is_punctuator t.kind ≡ true =
          ap is_punctuator stands.kind ∙ ap (λ (w : List ℕ). is_punctuator (kind_or_other stands.header w)) same ∙ digraph_kind stands.header in
          rw (sign, digraph, same) refl
    ]
