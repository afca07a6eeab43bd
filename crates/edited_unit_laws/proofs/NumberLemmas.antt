-- The spans of bytes do not depend on the number of a file.
use Rattle.std.proofs.Common.{◌≡◌, ℕ, zero, suc, ◌+◌, ◌-◌, Bool, true, take, List, [], ◌∷◌, ◌++◌, length, map, Option, Some, None, refl, ap, sym, ◌∙◌}
use Rattle.std.specs.Prelude.{slice_get, unwrap_or}
use Rattle.lexer.specs.Lines.{byte_offset_of}
use Rattle.std.specs.Option.{option_map, option_map_or, option_and_then}
use Rattle.std.proofs.lemmas.List.{map-append}
use Rattle.std.proofs.lemmas.Option.{slice_get-map}
use Rattle.cs_base.specs.declared.positions.Pos.{Pos}
use Rattle.cs_base.specs.Token.{Token, token, origin_at}
use Rattle.cs_base.proofs.ListLemmas.{map-same as map_same}
use Rattle.lexer.specs.Logical.{Character, spelling, line_at, logical_of}
use Rattle.lexer.specs.Places.{pos, origins_from}
use Rattle.lexer.specs.Front.{front_of}
use Rattle.lexer.specs.Tokens.{Found, FoundToken, FoundOpen, is_line_start, piece_of, piece_length, leaves_gap, line_front_after, expects_header, found_in, found_from, found_of, tokens_in, tokens_of}
use Rattle.arranged_text_laws.specs.Moving.{byte_in, first_byte, end_byte, item_bytes, byte_lists}
use Rattle.arranged_text_laws.specs.Settling.{Front}
use Rattle.arranged_text_laws.specs.Marks.{file_front, line_start}
use Rattle.arranged_text_laws.proofs.ViewLemmas.{View, feeds, whites, lines, blocks, opens, spells, view}
use Rattle.list_cuts.specs.declared.spans.Span.{Span}

-- a token of the file with another number
abbrev there : ℕ → Pos → Pos
there other p = pos other p.at

abbrev numbered : ℕ → Token → Token
numbered other t = token t.kind t.text (map (option_map (there other)) t.origins) t.gap (there other t.at) t.line t.direct

origins_numbered : (file other at n : ℕ) → origins_from other at n ≡ map (option_map (there other)) (origins_from file at n)
origins_numbered file other at zero = refl
origins_numbered file other at (suc n) = ap (λ (l : List (Option Pos)). Some (pos other at) ∷ l) (origins_numbered file other (at + 1) n)

abbrev numbered_found : ℕ → Found → Found
numbered_found other (FoundToken t first) = FoundToken (numbered other t) first
numbered_found other (FoundOpen at) = FoundOpen at

-- what one piece brings
piece_numbered : (file other line : ℕ) (gap : Bool) (front : Front) (at : ℕ) (chars : List ℕ) (header : Bool) (c : ℕ) (R : List ℕ)
    → found_in other line gap front at chars (piece_of header c R) ≡ map (numbered_found other) (found_in file line gap front at chars (piece_of header c R))
piece_numbered file other line gap front at chars header c R = by (view header c R)
  where
    by : View header c R → found_in other line gap front at chars (piece_of header c R) ≡ map (numbered_found other) (found_in file line gap front at chars (piece_of header c R))
    by (feeds v) = v.found other line gap front at chars ∙ sym (ap (map (numbered_found other)) (v.found file line gap front at chars))
    by (whites v) = v.found other line gap front at chars ∙ sym (ap (map (numbered_found other)) (v.found file line gap front at chars))
    by (lines v) = v.found other line gap front at chars ∙ sym (ap (map (numbered_found other)) (v.found file line gap front at chars))
    by (blocks v) = v.found other line gap front at chars ∙ sym (ap (map (numbered_found other)) (v.found file line gap front at chars))
    by (opens v) = v.found other line gap front at chars ∙ sym (ap (map (numbered_found other)) (v.found file line gap front at chars))
    by (spells v) =
        let chars2 : List ℕ = take (suc (front_of header c R).1) chars in
        v.found other line gap front at chars
        ∙ ap (λ (l : List (Option Pos)). FoundToken (token (front_of header c R).0 chars2 l gap (pos other at) line true) (is_line_start front) ∷ []) (origins_numbered file other at (length chars2))
        ∙ sym (ap (map (numbered_found other)) (v.found file line gap front at chars))

found_numbered : (file other : ℕ) (bytes : List ℕ) (skip : ℕ) (gap : Bool) (front : Front) (at : ℕ) (cs : List Character)
    → found_from other bytes skip gap front at cs ≡ map (numbered_found other) (found_from file bytes skip gap front at cs)
unfolding found_from
found_numbered file other bytes skip gap front at [] = refl
found_numbered file other bytes (suc skip) gap front at (c ∷ cs) = found_numbered file other bytes skip gap front (at + 1) cs
found_numbered file other bytes zero gap front at (c ∷ cs) =
    let header : Bool = expects_header front in
    let chars : List ℕ = spelling (c ∷ cs) in
    let skip2 : ℕ = piece_length (length (c ∷ cs)) (piece_of header c.byte (spelling cs)) - 1 in
    let gap2 : Bool = leaves_gap (piece_of header c.byte (spelling cs)) in
    let front2 : Front = line_front_after chars front (piece_of header c.byte (spelling cs)) in
    let one = piece_numbered file other (line_at bytes c.offset) gap front at chars header c.byte (spelling cs) in
    let rest = found_numbered file other bytes skip2 gap2 front2 (at + 1) cs in
    ap (λ (l : List Found). l ++ found_from other bytes skip2 gap2 front2 (at + 1) cs) one
    ∙ ap (λ (l : List Found). map (numbered_found other) (found_in file (line_at bytes c.offset) gap front at chars (piece_of header c.byte (spelling cs))) ++ l) rest
    ∙ sym (map-append (numbered_found other) (found_in file (line_at bytes c.offset) gap front at chars (piece_of header c.byte (spelling cs))) (found_from file bytes skip2 gap2 front2 (at + 1) cs))

tokens_mapped : (other : ℕ) (fs : List Found) → tokens_in (map (numbered_found other) fs) ≡ map (numbered other) (tokens_in fs)
tokens_mapped other [] = refl
tokens_mapped other (FoundToken t first ∷ fs) = ap (λ (l : List Token). numbered other t ∷ l) (tokens_mapped other fs)
tokens_mapped other (FoundOpen at ∷ fs) = tokens_mapped other fs

tokens_numbered : (file other : ℕ) (bytes : List ℕ) → tokens_of other bytes ≡ map (numbered other) (tokens_of file bytes)
unfolding tokens_of
tokens_numbered file other bytes =
    let whole : found_of other bytes ≡ map (numbered_found other) (found_of file bytes) =
    file_front.1 other bytes ∙ found_numbered file other bytes 0 true line_start 0 (logical_of bytes) ∙ sym (ap (map (numbered_found other)) (file_front.1 file bytes)) in
    ap tokens_in whole ∙ tokens_mapped other (found_of file bytes)

-- ---- spans

origin_numbered : (other : ℕ) (t : Token) (k : ℕ) → origin_at (numbered other t) k ≡ option_map (there other) (origin_at t k)
origin_numbered other t k = ap (option_and_then (λ (o : Option Pos). o)) (slice_get-map (option_map (there other)) t.origins k) ∙ by (slice_get t.origins k)
  where
    by : (o : Option (Option Pos)) → option_and_then (λ (p : Option Pos). p) (option_map (option_map (there other)) o) ≡ option_map (there other) (option_and_then (λ (p : Option Pos). p) o)
    by None = refl
    by (Some None) = refl
    by (Some (Some p)) = refl

byte_same : (other : ℕ) (f : ℕ → ℕ) (o : Option Pos) → option_map_or (λ (p : Pos). f p.at) (option_map (there other) o) 0 ≡ option_map_or (λ (p : Pos). f p.at) o 0
byte_same other f None = refl
byte_same other f (Some p) = refl

first_same : (other : ℕ) (bytes : List ℕ) (t : Token) → first_byte bytes (numbered other t) ≡ first_byte bytes t
first_same other bytes t =
    ap (λ (o : Option Pos). option_map_or (byte_in bytes) o 0) (origin_numbered other t 0) ∙ byte_same other (λ k. unwrap_or (byte_offset_of bytes k) 0) (origin_at t 0)

end_same : (other : ℕ) (bytes : List ℕ) (t : Token) → end_byte bytes (numbered other t) ≡ end_byte bytes t
end_same other bytes t =
    ap (λ (o : Option Pos). option_map_or (λ p. byte_in bytes p + 1) o 0) (origin_numbered other t (length t.text - 1))
    ∙ byte_same other (λ k. unwrap_or (byte_offset_of bytes k) 0 + 1) (origin_at t (length t.text - 1))

place_same : (other : ℕ) (f : Token → ℕ) (ts : List Token) (k : ℕ) → ((t : Token) → f (numbered other t) ≡ f t) → option_map_or f (slice_get (map (numbered other) ts) k) 0 ≡ option_map_or f (slice_get ts k) 0
place_same other f ts k same = ap (λ (o : Option Token). option_map_or f o 0) (slice_get-map (numbered other) ts k) ∙ by (slice_get ts k)
  where
    by : (o : Option Token) → option_map_or f (option_map (numbered other) o) 0 ≡ option_map_or f o 0
    by None = refl
    by (Some t) = same t

span_same : (other : ℕ) (bytes : List ℕ) (ts : List Token) (s : Span) → item_bytes bytes (map (numbered other) ts) s ≡ item_bytes bytes ts s
span_same other bytes ts s =
    ap (λ (k : ℕ). record { begin = k; end = option_map_or (end_byte bytes) (slice_get (map (numbered other) ts) (s.end - 1)) 0 }) (place_same other (first_byte bytes) ts s.begin (first_same other bytes))
    ∙ ap (λ (k : ℕ). record { begin = option_map_or (first_byte bytes) (slice_get ts s.begin) 0; end = k }) (place_same other (end_byte bytes) ts (s.end - 1) (end_same other bytes))

pub spans_numbered : (file other : ℕ) (bytes : List ℕ) (lists : List (List Span)) → byte_lists other bytes lists ≡ byte_lists file bytes lists
spans_numbered file other bytes lists =
    ap (λ (ts : List Token). map (map (item_bytes bytes ts)) lists) (tokens_numbered file other bytes)
    ∙ map_same (map (item_bytes bytes (map (numbered other) (tokens_of file bytes)))) (map (item_bytes bytes (tokens_of file bytes))) lists
    (λ l. map_same (item_bytes bytes (map (numbered other) (tokens_of file bytes))) (item_bytes bytes (tokens_of file bytes)) l (span_same other bytes (tokens_of file bytes)))
