-- The first token of a file is the first of its line.
use Rattle.std.proofs.Common.{◌≡◌, ℕ, zero, suc, ◌+◌, Bool, true, List, [], ◌∷◌, ◌++◌, length, ◌-◌, refl, sym, subst, ◌∙◌}
use Rattle.lexer.specs.Logical.{Character, spelling, line_at, logical_of}
use Rattle.lexer.specs.Tokens.{Found, FoundToken, FoundOpen, is_line_start, piece_of, piece_length, leaves_gap, line_front_after, expects_header, found_in, found_from, found_of, firsts_in, firsts_of}
use Rattle.lexer.proofs.ScanLemmas.{firsts_of-file as firsts_of_file}
use Rattle.arranged_text_laws.specs.Marks.{file_front, line_start}
use Rattle.arranged_text_laws.specs.Settling.{Front}
use Rattle.arranged_text_laws.proofs.ViewLemmas.{View, feeds, whites, lines, blocks, opens, spells, view}

-- the first token that is found is the first of its line
abbrev FirstIs : List Found → Type 0
FirstIs [] = Unit {0}
FirstIs (FoundToken t first ∷ fs) = first ≡ true
FirstIs (FoundOpen at ∷ fs) = FirstIs fs

start_is : is_line_start line_start ≡ true
unfolding file_front
start_is = refl

-- a piece that is no token leaves the begin of the line
none_first : (file : ℕ) (bytes : List ℕ) (skip : ℕ) (gap : Bool) (front : Front) (at : ℕ) (cs : List Character) (xs : List Found) → xs ≡ [] → front ≡ line_start
    → FirstIs (found_from file bytes skip gap line_start at cs) → FirstIs (xs ++ found_from file bytes skip gap front at cs)
none_first file bytes skip gap front at cs xs none same h =
    subst (λ (l : List Found). FirstIs (l ++ found_from file bytes skip gap front at cs)) (sym none)
    (subst (λ (f : Front). FirstIs (found_from file bytes skip gap f at cs)) (sym same) h)

first_found : (file : ℕ) (bytes : List ℕ) (skip : ℕ) (gap : Bool) (at : ℕ) (cs : List Character) → FirstIs (found_from file bytes skip gap line_start at cs)
unfolding found_from
first_found file bytes skip gap at [] = tt
first_found file bytes (suc skip) gap at (c ∷ cs) = first_found file bytes skip gap (at + 1) cs
first_found file bytes zero gap at (c ∷ cs) =
    by (view (expects_header line_start) c.byte (spelling cs)) (λ skip2 gap2. first_found file bytes skip2 gap2 (at + 1) cs)
  where
    header : Bool
    header = expects_header line_start

    chars : List ℕ
    chars = spelling (c ∷ cs)

    by : View header c.byte (spelling cs) → ((skip2 : ℕ) (gap2 : Bool) → FirstIs (found_from file bytes skip2 gap2 line_start (at + 1) cs))
        → FirstIs (found_in file (line_at bytes c.offset) gap line_start at chars (piece_of header c.byte (spelling cs))
        ++ found_from file bytes (piece_length (length (c ∷ cs)) (piece_of header c.byte (spelling cs)) - 1) (leaves_gap (piece_of header c.byte (spelling cs)))
        (line_front_after chars line_start (piece_of header c.byte (spelling cs))) (at + 1) cs)
    by (feeds v) later =
        none_first file bytes _ _ (line_front_after chars line_start (piece_of header c.byte (spelling cs))) (at + 1) cs _
        (v.found file (line_at bytes c.offset) gap line_start at chars) (v.front chars line_start) (later _ _)
    by (whites v) later =
        none_first file bytes _ _ (line_front_after chars line_start (piece_of header c.byte (spelling cs))) (at + 1) cs _
        (v.found file (line_at bytes c.offset) gap line_start at chars) (v.front chars line_start) (later _ _)
    by (lines v) later =
        none_first file bytes _ _ (line_front_after chars line_start (piece_of header c.byte (spelling cs))) (at + 1) cs _
        (v.found file (line_at bytes c.offset) gap line_start at chars) (v.front chars line_start) (later _ _)
    by (blocks v) later =
        none_first file bytes _ _ (line_front_after chars line_start (piece_of header c.byte (spelling cs))) (at + 1) cs _
        (v.found file (line_at bytes c.offset) gap line_start at chars) (v.front chars line_start) (later _ _)
    by (opens v) later =
        subst (λ (l : List Found). FirstIs (l ++ found_from file bytes (piece_length (length (c ∷ cs)) (piece_of header c.byte (spelling cs)) - 1) (leaves_gap (piece_of header c.byte (spelling cs)))
        (line_front_after chars line_start (piece_of header c.byte (spelling cs))) (at + 1) cs)) (sym (v.found file (line_at bytes c.offset) gap line_start at chars))
        (subst (λ (f : Front). FirstIs (found_from file bytes (piece_length (length (c ∷ cs)) (piece_of header c.byte (spelling cs)) - 1) (leaves_gap (piece_of header c.byte (spelling cs))) f (at + 1) cs))
        (sym (v.front chars line_start)) (later _ _))
    by (spells v) later =
        subst (λ (l : List Found). FirstIs (l ++ found_from file bytes (piece_length (length (c ∷ cs)) (piece_of header c.byte (spelling cs)) - 1) (leaves_gap (piece_of header c.byte (spelling cs)))
        (line_front_after chars line_start (piece_of header c.byte (spelling cs))) (at + 1) cs)) (sym (v.found file (line_at bytes c.offset) gap line_start at chars)) start_is

first_in : (fs : List Found) → FirstIs fs → (first : Bool) (rest : List Bool) → firsts_in fs ≡ first ∷ rest → first ≡ true
first_in [] h first rest e = absurd cc
first_in (FoundToken t f ∷ fs) h first rest e = let same : f ≡ first = cc in sym same ∙ h
first_in (FoundOpen at ∷ fs) h first rest e = first_in fs h first rest e

pub first_of_file : (bytes : List ℕ) (first : Bool) (rest : List Bool) → firsts_of bytes ≡ first ∷ rest → first ≡ true
first_of_file bytes first rest e =
    first_in (found_of 0 bytes) (subst FirstIs (sym (file_front.1 0 bytes)) (first_found 0 bytes 0 true 0 (logical_of bytes))) first rest (firsts_of_file 0 bytes ∙ e)
