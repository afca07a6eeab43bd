-- The characters of a file, and its tokens: what each character begins is what is found in the file.
use Rattle.std.proofs.Common.{◌≡◌, ℕ, zero, suc, ◌+◌, ◌-◌, Bool, true, false, List, [], ◌∷◌, ◌++◌, length, map, Option, Some, None, refl, sym, ap, subst, ◌∙◌}
use Rattle.std.specs.Prelude.{slice_get, unwrap_or}
use Rattle.std.specs.List.{list_all}
use Rattle.std.proofs.lemmas.List.{map-append, length-map}
use Rattle.lexer.specs.Logical.{Character, logical_of, spelling, line_at}
use Rattle.lexer.specs.Places.{origins_from}
use Rattle.lexer.specs.Tokens.{Found, FoundToken, FoundOpen, expects_header, piece_of, piece_length, leaves_gap, line_front_after, found_in, found_of, open_comment_of}
use Rattle.arranged_text_laws.specs.Settling.{Front, is_closed}
use Rattle.arranged_text_laws.specs.Marks.{line_start, Mark, text, marks_from, marks_of, brought}
use Rattle.arranged_text_laws.specs.Calm.{is_shut}
use Rattle.arranged_text_laws.specs.Weighed.{together}
use Rattle.arranged_text_laws.proofs.CalmLemmas.{all_append}
use Rattle.arranged_text_laws.proofs.FileLemmas.{text_marks, file_found}
use Rattle.arranged_text_laws.proofs.PieceStays.{size_same}
use Rattle.arranged_text_laws.proofs.TokenLaw.{shut_file}
use Rattle.arranged_text_laws.proofs.ViewLemmas.{feeds, whites, lines, blocks, opens, spells, view, feeds_closed, whites_closed, lines_closed, blocks_closed, spells_closed}
use Rattle.arranged_text_laws.proofs.Walk.{entries, bare}

-- ---- one character

-- a piece is a token, nothing, or an open comment
bare_found : (file line : ℕ) (gap : Bool) (front : Front) (at : ℕ) (chars : List ℕ) (header : Bool) (c : ℕ) (R : List ℕ)
    → map bare (found_in file line gap front at chars (piece_of header c R)) ≡ map bare (found_in 0 0 gap front at chars (piece_of header c R))
bare_found file line gap front at chars header c R =
    elim (view header c R) [
      | feeds v ↦ ap (map bare) (v.found file line gap front at chars ∙ sym (v.found 0 0 gap front at chars))
      | whites v ↦ ap (map bare) (v.found file line gap front at chars ∙ sym (v.found 0 0 gap front at chars))
      | lines v ↦ ap (map bare) (v.found file line gap front at chars ∙ sym (v.found 0 0 gap front at chars))
      | blocks v ↦ ap (map bare) (v.found file line gap front at chars ∙ sym (v.found 0 0 gap front at chars))
      | opens v ↦ ap (map bare) (v.found file line gap front at chars ∙ sym (v.found 0 0 gap front at chars))
      | spells v ↦ ap (map bare) (v.found file line gap front at chars) ∙ sym (ap (map bare) (v.found 0 0 gap front at chars))
    ]

-- where no comment is open, a piece has as many characters whatever is left
closed_here : (file line : ℕ) (gap : Bool) (front : Front) (at : ℕ) (chars : List ℕ) (header : Bool) (c : ℕ) (R : List ℕ)
    → list_all is_shut (found_in file line gap front at chars (piece_of header c R)) ≡ true → is_closed c R ≡ true
closed_here file line gap front at chars header c R shut =
    elim (view header c R) [
      | feeds v ↦ feeds_closed header c R v
      | whites v ↦ whites_closed header c R v
      | lines v ↦ lines_closed header c R v
      | blocks v ↦ blocks_closed header c R v
      | opens v ↦ let nost : false ≡ true = ap (list_all is_shut) (sym (v.found file line gap front at chars)) ∙ shut in absurd cc
      | spells v ↦ spells_closed header c R v
    ]

-- the token is one of the file
abbrev pub IsOwn : ℕ → Found → Type 0
IsOwn file (FoundToken t first) = t.origins ≡ origins_from file t.at.at (length t.text)
IsOwn file (FoundOpen at) = Unit {0}

abbrev pub AllOwn : ℕ → List Found → Type 0
AllOwn file [] = Unit {0}
AllOwn file (f ∷ fs) = IsOwn file f × AllOwn file fs

own_append : (file : ℕ) (fs gs : List Found) → AllOwn file fs → AllOwn file gs → AllOwn file (fs ++ gs)
own_append file [] gs h k = k
own_append file (f ∷ fs) gs h k = (h.0, own_append file fs gs h.1 k)

own_found : (file line : ℕ) (gap : Bool) (front : Front) (at : ℕ) (chars : List ℕ) (header : Bool) (c : ℕ) (R : List ℕ)
    → AllOwn file (found_in file line gap front at chars (piece_of header c R))
own_found file line gap front at chars header c R =
    elim (view header c R) [
      | feeds v ↦ subst (AllOwn file) (sym (v.found file line gap front at chars)) tt
      | whites v ↦ subst (AllOwn file) (sym (v.found file line gap front at chars)) tt
      | lines v ↦ subst (AllOwn file) (sym (v.found file line gap front at chars)) tt
      | blocks v ↦ subst (AllOwn file) (sym (v.found file line gap front at chars)) tt
      | opens v ↦ subst (AllOwn file) (sym (v.found file line gap front at chars)) (tt, tt)
      | spells v ↦ subst (AllOwn file) (sym (v.found file line gap front at chars)) (refl, tt)
    ]

pub own_at : (file : ℕ) (fs : List Found) (k : ℕ) (f : Found) → AllOwn file fs → slice_get fs k ≡ Some f → IsOwn file f
own_at file [] k f h there = absurd cc
own_at file (g ∷ fs) zero f h there = subst (IsOwn file) (ap (λ (o : Option Found). unwrap_or o f) there) h.0
own_at file (g ∷ fs) (suc k) f h there = own_at file fs k f h.1 there

-- ---- all characters

pub own_brought : (file : ℕ) (skip : ℕ) (gap : Bool) (front : Front) (ms : List Mark) → AllOwn file (together (brought file skip gap front ms))
unfolding brought
own_brought file skip gap front [] = tt
own_brought file (suc skip) gap front (m ∷ ms) = own_brought file skip gap front ms
own_brought file zero gap front (m ∷ ms) =
    let P = piece_of (expects_header front) m.byte (text ms) in
    let chars = m.byte ∷ text ms in
    own_append file (found_in file m.line gap front m.at chars P)
    (together (brought file (piece_length (suc (length ms)) P - 1) (leaves_gap P) (line_front_after chars front P) ms))
    (own_found file m.line gap front m.at chars (expects_header front) m.byte (text ms))
    (own_brought file (piece_length (suc (length ms)) P - 1) (leaves_gap P) (line_front_after chars front P) ms)

bare_brought : (file : ℕ) (bytes : List ℕ) (skip : ℕ) (gap : Bool) (front : Front) (at : ℕ) (cs : List Character)
    → list_all is_shut (together (brought file skip gap front (marks_from bytes at cs))) ≡ true
    → map (map bare) (brought file skip gap front (marks_from bytes at cs)) ≡ map (map bare) (entries skip gap front at (spelling cs))
unfolding marks_from brought entries
bare_brought file bytes skip gap front at [] shut = refl
bare_brought file bytes (suc skip) gap front at (c ∷ cs) shut = ap (λ (l : List (List Found)). [] ∷ l) (bare_brought file bytes skip gap front (at + 1) cs shut)
bare_brought file bytes zero gap front at (c ∷ cs) shut =
    let ms = marks_from bytes (at + 1) cs in
    let header = expects_header front in
    let chars = text_marks bytes (at + 1) cs in
    let line = line_at bytes c.offset in
    let S = spelling cs in
    let P = piece_of header c.byte S in
    let P2 = piece_of header c.byte (text ms) in
    let here = found_in file line gap front at (c.byte ∷ text ms) P2 in
    let parts = all_append is_shut here (together (brought file (piece_length (suc (length ms)) P2 - 1) (leaves_gap P2) (line_front_after (c.byte ∷ text ms) front P2) ms)) shut in
    let closed : is_closed c.byte S ≡ true =
    subst (λ (t : List ℕ). is_closed c.byte t ≡ true) chars (closed_here file line gap front at (c.byte ∷ text ms) header c.byte (text ms) parts.0) in
    let size = size_same header c.byte S (suc (length ms)) closed in
    let f2 = line_front_after (c.byte ∷ S) front P in
    let same : brought file (piece_length (suc (length ms)) P2 - 1) (leaves_gap P2) (line_front_after (c.byte ∷ text ms) front P2) ms
    ≡ brought file (piece_length 0 P - 1) (leaves_gap P) f2 ms =
    ap (λ (t : List ℕ). brought file (piece_length (suc (length ms)) (piece_of header c.byte t) - 1) (leaves_gap (piece_of header c.byte t)) (line_front_after (c.byte ∷ t) front (piece_of header c.byte t)) ms) chars
    ∙ ap (λ (n : ℕ). brought file (n - 1) (leaves_gap P) f2 ms) size in
    let shut2 : list_all is_shut (together (brought file (piece_length 0 P - 1) (leaves_gap P) f2 ms)) ≡ true =
    ap (λ (l : List (List Found)). list_all is_shut (together l)) (sym same) ∙ parts.1 in
    ap (λ (l : List (List Found)). map bare here ∷ map (map bare) l) same
    ∙ ap (λ (t : List ℕ). map bare (found_in file line gap front at (c.byte ∷ t) (piece_of header c.byte t)) ∷ map (map bare) (brought file (piece_length 0 P - 1) (leaves_gap P) f2 ms)) chars
    ∙ ap (λ (l : List Found). l ∷ map (map bare) (brought file (piece_length 0 P - 1) (leaves_gap P) f2 ms)) (bare_found file line gap front at (c.byte ∷ S) header c.byte S)
    ∙ ap (λ (l : List (List Found)). map bare (found_in 0 0 gap front at (c.byte ∷ S) P) ∷ l)
    (bare_brought file bytes (piece_length 0 P - 1) (leaves_gap P) f2 (at + 1) cs shut2)

-- ---- a file

abbrev pub chars_of : List ℕ → List ℕ
chars_of bytes = spelling (logical_of bytes)

abbrev pub entries_of : List ℕ → List (List Found)
entries_of bytes = entries 0 true line_start 0 (chars_of bytes)

-- what each character brings, as numbers
abbrev pub weights_of : List ℕ → List ℕ
weights_of bytes = map length (entries_of bytes)

together_map : (xss : List (List Found)) → together (map (map bare) xss) ≡ map bare (together xss)
together_map [] = refl
together_map (xs ∷ xss) = ap (λ (l : List Found). map bare xs ++ l) (together_map xss) ∙ sym (map-append bare xs (together xss))

shut_bare : (fs : List Found) → list_all is_shut (map bare fs) ≡ list_all is_shut fs
shut_bare [] = refl
shut_bare (FoundToken t first ∷ fs) = shut_bare fs
shut_bare (FoundOpen at ∷ fs) = refl

lengths_bare : (xss : List (List Found)) → map length (map (map bare) xss) ≡ map length xss
lengths_bare [] = refl
lengths_bare (xs ∷ xss) = ap (λ (n : ℕ). n ∷ map length (map (map bare) xss)) (length-map xs bare) ∙ ap (λ (l : List ℕ). length xs ∷ l) (lengths_bare xss)

module _ (file : ℕ) (bytes : List ℕ) (none : open_comment_of bytes ≡ None) where
  pub brought_shut : list_all is_shut (together (brought file 0 true line_start (marks_of bytes))) ≡ true
  brought_shut = ap (list_all is_shut) (file_found file bytes) ∙ shut_file file bytes none

  pub bare_file : map (map bare) (brought file 0 true line_start (marks_of bytes)) ≡ map (map bare) (entries_of bytes)
  bare_file = bare_brought file bytes 0 true line_start 0 (logical_of bytes) brought_shut

  pub weights_file : map length (brought file 0 true line_start (marks_of bytes)) ≡ weights_of bytes
  weights_file =
      sym (lengths_bare (brought file 0 true line_start (marks_of bytes))) ∙ ap (map length) bare_file ∙ lengths_bare (entries_of bytes)

  pub bare_all : map bare (found_of file bytes) ≡ map bare (together (entries_of bytes))
  bare_all =
      ap (map bare) (sym (file_found file bytes)) ∙ sym (together_map (brought file 0 true line_start (marks_of bytes)))
      ∙ ap together bare_file ∙ together_map (entries_of bytes)

  pub entries_shut : list_all is_shut (together (entries_of bytes)) ≡ true
  entries_shut =
      sym (shut_bare (together (entries_of bytes))) ∙ ap (list_all is_shut) (sym bare_all) ∙ shut_bare (found_of file bytes) ∙ shut_file file bytes none

  pub found_own_all : AllOwn file (found_of file bytes)
  found_own_all = subst (AllOwn file) (file_found file bytes) (own_brought file 0 true line_start (marks_of bytes))
