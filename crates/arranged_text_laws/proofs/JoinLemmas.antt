-- What is found in two texts, one behind the other.
use Rattle.std.proofs.Common.{◌≡◌, ℕ, zero, suc, ◌+◌, ◌-◌, ◌≤◌, Bool, true, ◌&&◌, ◌||◌, ◌==◌, cond, List, [], ◌∷◌, ◌++◌, length, take, inl, inr, refl, sym, ap, subst, ◌∙◌, arith, add-zero, append_assoc}
use Rattle.std.proofs.lemmas.Bool.{cases_Bool, and_parts, eqb-true}
use Rattle.std.proofs.lemmas.List.{map-append, take-append-le}
use Rattle.lexer.specs.Logical.{Character, character, gone_length, logical_from, spelling, line_at}
use Rattle.lexer.specs.Tokens.{Found, piece_of, piece_length, leaves_gap, expects_header, line_front_after, found_in, found_from, found_of}
use Rattle.arranged_text_laws.specs.Settling.{Front, Piece, is_lone, begins_stop, keeps_line, is_closed, halts, lies_within, is_settled, settles, gap_behind, front_behind, found_within}
use Rattle.arranged_text_laws.specs.Joining.{is_seam, TextsJoin, LogicalTextsJoin, FilesBegin}
use Rattle.arranged_text_laws.proofs.PieceStays.{piece_stays, size_same, found_same, front_same}

pub take_same : (c : ℕ) (xs ys zs : List ℕ) (n : ℕ) → n ≤ length xs + 1 → take n (c ∷ (xs ++ zs)) ≡ take n (c ∷ (xs ++ ys))
take_same c xs ys zs n few =
    let here : n ≤ length (c ∷ xs) = omega arith in
    take-append-le n (c ∷ xs) zs here ∙ sym (take-append-le n (c ∷ xs) ys here)

-- ---- texts

-- what is found from a piece on
abbrev from_piece : ℕ → List ℕ → Bool → Front → ℕ → Character → List ℕ → Piece → ℕ → List Character → List Found
from_piece file bytes gap front at c text piece size cs =
    found_in file (line_at bytes c.offset) gap front at text piece
    ++ found_from file bytes (size - 1) (leaves_gap piece) (line_front_after text front piece) (at + 1) cs

one_piece : (file : ℕ) (bytes : List ℕ) (gap : Bool) (front : Front) (at : ℕ) (c : Character) (cs : List Character)
    → found_from file bytes 0 gap front at (c ∷ cs)
    ≡ from_piece file bytes gap front at c (c.byte ∷ spelling cs) (piece_of (expects_header front) c.byte (spelling cs))
    (piece_length (suc (length cs)) (piece_of (expects_header front) c.byte (spelling cs))) cs
unfolding found_from
one_piece file bytes gap front at c cs = refl

join_from : (stop : Bool) (file : ℕ) (bytes : List ℕ) (ds : List Character) (ys : List ℕ) → (stop ≡ true → begins_stop (spelling ds) ≡ true) → (stop ≡ true → begins_stop ys ≡ true)
    → (skip : ℕ) (gap : Bool) (front : Front) (at : ℕ) (cs : List Character) → settles stop skip front (spelling cs) ys ≡ true
    → found_from file bytes skip gap front at (cs ++ ds)
    ≡ found_within file bytes skip gap front at cs ys
    ++ found_from file bytes 0 (gap_behind skip gap front (spelling cs) ys) (front_behind skip front (spelling cs) ys) (at + length cs) ds
unfolding found_from found_within settles gap_behind front_behind
join_from stop file bytes ds ys new old zero gap front at [] h = rw add-zero refl
join_from stop file bytes ds ys new old (suc skip) gap front at [] h = let e = eqb-true (suc skip) 0 h in absurd (omega (arith, e))
join_from stop file bytes ds ys new old (suc skip) gap front at (c ∷ cs) h =
    let on : at + 1 + length cs ≡ at + suc (length cs) = omega arith in
    join_from stop file bytes ds ys new old skip gap front (at + 1) cs h
    ∙ ap (λ (k : ℕ). found_within file bytes skip gap front (at + 1) cs ys ++ found_from file bytes 0 (gap_behind skip gap front (spelling cs) ys) (front_behind skip front (spelling cs) ys) k ds) on
join_from stop file bytes ds ys new old zero gap front at (c ∷ cs) h =
    let S = spelling cs in
    let D = spelling ds in
    let header = expects_header front in
    let piece = piece_of header c.byte (S ++ ys) in
    let parts = and_parts (is_settled stop header c.byte S ys) (settles stop (piece_length 0 piece - 1) (line_front_after (c.byte ∷ (S ++ ys)) front piece) S ys) h in
    let shut = and_parts (is_closed c.byte (S ++ ys)) (lies_within header c.byte S ys && (is_lone c.byte || (halts stop c.byte S && keeps_line header c.byte S ys))) parts.0 in
    let small = and_parts (lies_within header c.byte S ys) (is_lone c.byte || (halts stop c.byte S && keeps_line header c.byte S ys)) shut.1 in
    let text : spelling (cs ++ ds) ≡ S ++ D = map-append (λ (d : Character). d.byte) cs ds in
    let same : piece_of header c.byte (S ++ D) ≡ piece = piece_stays stop header c.byte S ys D parts.0 old new in
    let n = suc (length (cs ++ ds)) in
    let front2 = line_front_after (c.byte ∷ (S ++ ys)) front piece in
    let found = found_in file (line_at bytes c.offset) gap front at (c.byte ∷ (S ++ ys)) piece in
    let later = join_from stop file bytes ds ys new old (piece_length 0 piece - 1) (leaves_gap piece) front2 (at + 1) cs parts.1 in
    let on : at + 1 + length cs ≡ at + suc (length cs) = omega arith in
    let within = found_within file bytes (piece_length 0 piece - 1) (leaves_gap piece) front2 (at + 1) cs ys in
    let gap3 = gap_behind (piece_length 0 piece - 1) (leaves_gap piece) front2 S ys in
    let front3 = front_behind (piece_length 0 piece - 1) front2 S ys in
    one_piece file bytes gap front at c (cs ++ ds)
    ∙ ap (λ (t : List ℕ). from_piece file bytes gap front at c (c.byte ∷ t) (piece_of header c.byte t) (piece_length n (piece_of header c.byte t)) (cs ++ ds)) text
    ∙ ap (λ (p : Piece). from_piece file bytes gap front at c (c.byte ∷ (S ++ D)) p (piece_length n p) (cs ++ ds)) same
    ∙ ap (λ (k : ℕ). from_piece file bytes gap front at c (c.byte ∷ (S ++ D)) piece k (cs ++ ds)) (size_same header c.byte (S ++ ys) n shut.0)
    ∙ ap (λ (f : List Found). f ++ found_from file bytes (piece_length 0 piece - 1) (leaves_gap piece) (line_front_after (c.byte ∷ (S ++ D)) front piece) (at + 1) (cs ++ ds))
    (found_same file (line_at bytes c.offset) gap front at header c.byte (S ++ ys) (c.byte ∷ (S ++ D)) (c.byte ∷ (S ++ ys)) (length S + 1) shut.0 small.0 (take_same c.byte S ys D))
    ∙ ap (λ (g : Front). found ++ found_from file bytes (piece_length 0 piece - 1) (leaves_gap piece) g (at + 1) (cs ++ ds)) (front_same front header c.byte (S ++ ys) (c.byte ∷ (S ++ D)) (c.byte ∷ (S ++ ys)) (length S + 1) shut.0 small.0 (take_same c.byte S ys D))
    ∙ ap (λ (f : List Found). found ++ f) later
    ∙ ap (λ (k : ℕ). found ++ (within ++ found_from file bytes 0 gap3 front3 k ds)) on
    ∙ sym (append_assoc found within (found_from file bytes 0 gap3 front3 (at + suc (length cs)) ds))

pub texts_join : TextsJoin
texts_join = λ stop file bytes gap front at cs ds ys settled new old. join_from stop file bytes ds ys new old 0 gap front at cs settled

-- ---- logical texts

logical_step : (g at c : ℕ) (xs ys : List ℕ) → logical_from (g - 1) (at + 1) (xs ++ ys) ≡ logical_from (g - 1) (at + 1) xs ++ logical_from 0 (at + 1 + length xs) ys
    → cond (g == 0) (character c at ∷ logical_from 0 (at + 1) (xs ++ ys)) (logical_from (g - 1) (at + 1) (xs ++ ys))
    ≡ cond (g == 0) (character c at ∷ logical_from 0 (at + 1) xs) (logical_from (g - 1) (at + 1) xs) ++ logical_from 0 (at + 1 + length xs) ys
logical_step g at c xs ys later =
    elim (cases_Bool (g == 0)) [
      | inl zero_is ↦
          let e = eqb-true g 0 zero_is in
          let same : g - 1 ≡ 0 = omega (arith, e) in
          let here = subst (λ (k : ℕ). logical_from k (at + 1) (xs ++ ys) ≡ logical_from k (at + 1) xs ++ logical_from 0 (at + 1 + length xs) ys) same later in
          rw zero_is (ap (λ (l : List Character). character c at ∷ l) here)
      | inr more ↦ rw more later
    ]

join_logical : (ys : List ℕ) (skip at : ℕ) (xs : List ℕ) → is_seam skip xs ys ≡ true → logical_from skip at (xs ++ ys) ≡ logical_from skip at xs ++ logical_from 0 (at + length xs) ys
unfolding logical_from is_seam
join_logical ys zero at [] h = rw add-zero refl
join_logical ys (suc skip) at [] h = let e = eqb-true (suc skip) 0 h in absurd (omega (arith, e))
join_logical ys (suc skip) at (c ∷ xs) h =
    let on : at + 1 + length xs ≡ at + suc (length xs) = omega arith in
    join_logical ys skip (at + 1) xs h ∙ ap (λ (k : ℕ). logical_from skip (at + 1) xs ++ logical_from 0 k ys) on
join_logical ys zero at (c ∷ xs) h =
    let parts = and_parts (gone_length c (xs ++ ys) == gone_length c xs) (is_seam (gone_length c xs - 1) xs ys) h in
    let same : gone_length c (xs ++ ys) ≡ gone_length c xs = eqb-true (gone_length c (xs ++ ys)) (gone_length c xs) parts.0 in
    let on : at + 1 + length xs ≡ at + suc (length xs) = omega arith in
    ap (λ (g : ℕ). cond (g == 0) (character c at ∷ logical_from 0 (at + 1) (xs ++ ys)) (logical_from (g - 1) (at + 1) (xs ++ ys))) same
    ∙ logical_step (gone_length c xs) at c xs ys (join_logical ys (gone_length c xs - 1) (at + 1) xs parts.1)
    ∙ ap (λ (k : ℕ). cond (gone_length c xs == 0) (character c at ∷ logical_from 0 (at + 1) xs) (logical_from (gone_length c xs - 1) (at + 1) xs) ++ logical_from 0 k ys) on

pub logical_texts_join : LogicalTextsJoin
logical_texts_join = λ at xs ys h. join_logical ys 0 at xs h

-- ---- files

unfoldable pub files_begin : FilesBegin
unfolding found_of
files_begin = (_, refl, refl, λ file bytes. refl)
