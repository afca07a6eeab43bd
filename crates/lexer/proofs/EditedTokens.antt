-- What is found in a text whose identifiers are spelled otherwise.
use Rattle.std.proofs.Common.{◌≡◌, ℕ, zero, suc, ◌+◌, ◌-◌, ◌≤◌, Bool, true, false, ◌||◌, ◌==◌, List, [], ◌∷◌, ◌++◌, length, take, drop, map, inl, inr, refl, sym, ap, ◌∙◌, arith, add-zero, append_assoc, append-nil, length-append}
use Rattle.std.specs.List.{list_all}
use Rattle.std.specs.Str.{bytes_eq}
use Rattle.std.specs.Prelude.{codes}
use Rattle.std.proofs.Math.Seq.{take-append_seam}
use Rattle.std.proofs.lemmas.List.{map-append, take-append-drop, length-take-le}
use Rattle.std.proofs.lemmas.Bool.{and_parts, and_from, or_cases}
use Rattle.std.proofs.lemmas.Bool.Decides.{nat_tests}
use Rattle.std.proofs.lemmas.List.Folds.{list_all-append}
use Rattle.std.specs.Bool.{beq}
use Rattle.cs_base.proofs.FileMapLemmas.{bytes_eq-equal}
use Rattle.cs_base.specs.declared.tokens.Kind.TheVariants.{Ident}
use Rattle.lexer.specs.declared.pieces.Piece.{Piece}
use Rattle.lexer.specs.declared.pieces.Piece.TheVariants.{Blank, LineEnd, OpenComment, Token as Spelled}
use Rattle.lexer.specs.declared.pieces.LineFront.{LineFront}
use Rattle.lexer.specs.declared.pieces.LineFront.TheVariants.{Nothing, Hash, Include, Tokens}
use Rattle.lexer.specs.Characters.{is_nondigit, is_word}
use Rattle.lexer.specs.Spelling.{is_identifier_text}
use Rattle.lexer.specs.Logical.{Character, spelling, line_at}
use Rattle.lexer.specs.Tokens.{Found, FoundToken, FoundOpen, piece_of, piece_length, leaves_gap, expects_header, line_front_after, with_token, is_hash_text, found_in, found_from}
use Rattle.lexer.specs.Respelling.{Put, respell, stays, words_stand, names_stand, keeps_include, keeps_pieces, moved, respelled_token}
use Rattle.lexer.proofs.PieceLemmas.{piece_of-length}
use Rattle.lexer.proofs.LocalLemmas.{first_is, wide_front-word}
use Rattle.lexer.proofs.PieceLocal.{piece_of-local, piece_of-word, open-left}
use Rattle.lexer.proofs.FitLemmas.{identifier-first, Fits, stays-respell, respell-append, first-fits, alike-fits}
use Rattle.lexer.proofs.KeptLemmas.{IsCut, IsKept, same, word, keeps-cut, keeps-fits, piece-word, words-front}

-- Characters with their lines.

pub record Lined : Type 0 where
  pub byte : ℕ
  pub line : ℕ

abbrev pub on_line : ℕ → ℕ → Lined
on_line byte line = record { byte = byte; line = line }

abbrev pub bytes_in : List Lined → List ℕ
bytes_in [] = []
bytes_in (c ∷ cs) = c.byte ∷ bytes_in cs

-- the characters of a file with their lines
abbrev pub lined : List ℕ → List Character → List Lined
lined bytes [] = []
lined bytes (c ∷ cs) = on_line c.byte (line_at bytes c.offset) ∷ lined bytes cs

-- what is found in characters that have lines
unfoldable pub found_lined : ℕ → ℕ → Bool → LineFront → ℕ → List Lined → List Found
found_lined file skip gap front at [] = []
found_lined file (suc skip) gap front at (c ∷ cs) = found_lined file skip gap front (at + 1) cs
found_lined file zero gap front at (c ∷ cs) =
    found_in file c.line gap front at (bytes_in (c ∷ cs)) (piece_of (expects_header front) c.byte (bytes_in cs))
    ++ found_lined file (piece_length (length (c ∷ cs)) (piece_of (expects_header front) c.byte (bytes_in cs)) - 1)
    (leaves_gap (piece_of (expects_header front) c.byte (bytes_in cs)))
    (line_front_after (bytes_in (c ∷ cs)) front (piece_of (expects_header front) c.byte (bytes_in cs))) (at + 1) cs

pub bytes_in-lined : (bytes : List ℕ) (cs : List Character) → bytes_in (lined bytes cs) ≡ spelling cs
bytes_in-lined bytes [] = refl
bytes_in-lined bytes (c ∷ cs) = ap (λ (bs : List ℕ). c.byte ∷ bs) (bytes_in-lined bytes cs)

pub length-lined : (bytes : List ℕ) (cs : List Character) → length (lined bytes cs) ≡ length cs
length-lined bytes [] = refl
length-lined bytes (c ∷ cs) = ap suc (length-lined bytes cs)

pub length-bytes_in : (cs : List Lined) → length (bytes_in cs) ≡ length cs
length-bytes_in [] = refl
length-bytes_in (c ∷ cs) = ap suc (length-bytes_in cs)

pub bytes_in-append : (xs ys : List Lined) → bytes_in (xs ++ ys) ≡ bytes_in xs ++ bytes_in ys
bytes_in-append [] ys = refl
bytes_in-append (x ∷ xs) ys = ap (λ (bs : List ℕ). x.byte ∷ bs) (bytes_in-append xs ys)

pub found_from-lined : (file : ℕ) (bytes : List ℕ) (skip : ℕ) (gap : Bool) (front : LineFront) (at : ℕ) (cs : List Character)
    → found_from file bytes skip gap front at cs ≡ found_lined file skip gap front at (lined bytes cs)
unfolding found_from found_lined
found_from-lined file bytes zero gap front at [] = refl
found_from-lined file bytes (suc skip) gap front at [] = refl
found_from-lined file bytes (suc skip) gap front at (c ∷ cs) = found_from-lined file bytes skip gap front (at + 1) cs
found_from-lined file bytes zero gap front at (c ∷ cs) =
    let piece = piece_of (expects_header front) c.byte (spelling cs) in
    rw (bytes_in-lined bytes cs, length-lined bytes cs)
    (ap (λ (found : List Found). found_in file (line_at bytes c.offset) gap front at (c.byte ∷ spelling cs) piece ++ found)
    (found_from-lined file bytes (piece_length (length (c ∷ cs)) piece - 1) (leaves_gap piece)
    (line_front_after (c.byte ∷ spelling cs) front piece) (at + 1) cs))

found_lined-skip : (file skip : ℕ) (gap : Bool) (front : LineFront) (at : ℕ) (cs : List Lined)
    → found_lined file skip gap front at cs ≡ found_lined file 0 gap front (at + skip) (drop skip cs)
unfolding found_lined
found_lined-skip file zero gap front at cs = rw add-zero refl
found_lined-skip file (suc skip) gap front at [] = refl
found_lined-skip file (suc skip) gap front at (c ∷ cs) =
    let on : at + suc skip ≡ at + 1 + skip = omega arith in
    rw on (found_lined-skip file skip gap front (at + 1) cs)

drop_seam : (xs ys : List Lined) → drop (length xs) (xs ++ ys) ≡ ys
drop_seam [] ys = refl
drop_seam (x ∷ xs) ys = drop_seam xs ys

-- a text cut behind its first piece
pub found_lined-cut : (file : ℕ) (gap : Bool) (front : LineFront) (at : ℕ) (c : Lined) (xs ys : List Lined) (piece : Piece)
    → piece_of (expects_header front) c.byte (bytes_in xs ++ bytes_in ys) ≡ piece
    → piece_length (suc (length (bytes_in xs ++ bytes_in ys))) piece ≡ suc (length xs)
    → found_lined file 0 gap front at (c ∷ (xs ++ ys))
    ≡ found_in file c.line gap front at (c.byte ∷ (bytes_in xs ++ bytes_in ys)) piece
    ++ found_lined file 0 (leaves_gap piece) (line_front_after (c.byte ∷ (bytes_in xs ++ bytes_in ys)) front piece)
    (at + suc (length xs)) ys
unfolding found_lined
found_lined-cut file gap front at c xs ys piece is size =
    let left : suc (length xs) - 1 ≡ length xs = omega arith in
    let on : at + suc (length xs) ≡ at + 1 + length xs = omega arith in
    let count : length (bytes_in xs ++ bytes_in ys) ≡ length (xs ++ ys) =
    ap length (sym (bytes_in-append xs ys)) ∙ length-bytes_in (xs ++ ys) in
    let long : piece_length (suc (length (xs ++ ys))) piece ≡ suc (length xs) = rw count at size in
    let to = line_front_after (c.byte ∷ (bytes_in xs ++ bytes_in ys)) front piece in
    rw (bytes_in-append xs ys, is, long, left, on, found_lined-skip file (length xs) (leaves_gap piece) to (at + 1) (xs ++ ys), drop_seam xs ys) refl

-- Respelled characters.

abbrev pub put_on : List ℕ → ℕ → List Lined
put_on [] line = []
put_on (b ∷ bs) line = on_line b line ∷ put_on bs line

-- what stands for each character is on its line
abbrev pub respell_lined : Put → ℕ → List Lined → List Lined
respell_lined put at [] = []
respell_lined put at (c ∷ cs) = put_on (put at c.byte) c.line ++ respell_lined put (at + 1) cs

bytes_in-put_on : (bs : List ℕ) (line : ℕ) → bytes_in (put_on bs line) ≡ bs
bytes_in-put_on [] line = refl
bytes_in-put_on (b ∷ bs) line = ap (λ (ds : List ℕ). b ∷ ds) (bytes_in-put_on bs line)

pub bytes_in-respell : (put : Put) (at : ℕ) (cs : List Lined) → bytes_in (respell_lined put at cs) ≡ respell put at (bytes_in cs)
bytes_in-respell put at [] = refl
bytes_in-respell put at (c ∷ cs) =
    bytes_in-append (put_on (put at c.byte) c.line) (respell_lined put (at + 1) cs)
    ∙ rw (bytes_in-put_on (put at c.byte) c.line, bytes_in-respell put (at + 1) cs) refl

pub respell_lined-append : (put : Put) (at : ℕ) (xs ys : List Lined)
    → respell_lined put at (xs ++ ys) ≡ respell_lined put at xs ++ respell_lined put (at + length xs) ys
respell_lined-append put at [] ys = rw add-zero refl
respell_lined-append put at (x ∷ xs) ys =
    let on : at + suc (length xs) ≡ at + 1 + length xs = omega arith in
    rw (on, respell_lined-append put (at + 1) xs ys)
    (sym (append_assoc (put_on (put at x.byte) x.line) (respell_lined put (at + 1) xs) (respell_lined put (at + 1 + length xs) ys)))

-- The tokens with their new spellings.

-- what is found, moved
abbrev pub respelled_found : Put → ℕ → List ℕ → Found → Found
respelled_found put file text (FoundToken t first) = FoundToken (respelled_token put file text t) first
respelled_found put file text (FoundOpen at) = FoundOpen (moved put text at)

-- the place to which the end of a text moves
moved-end : (put : Put) (done text : List ℕ) → moved put (done ++ text) (length done) ≡ length (respell put 0 done)
moved-end put done text = rw (take-append_seam done text) refl

-- the same piece of another length
abbrev pub resized : ℕ → Piece → Piece
resized n (Blank k) = Blank n
resized n LineEnd = LineEnd
resized n OpenComment = OpenComment
resized n (Spelled kind k) = Spelled kind n

-- what a piece adds, moved
found_in-moved : (put : Put) (file line : ℕ) (gap : Bool) (front : LineFront) (done : List ℕ) (c : ℕ) (xs ys : List ℕ) (d : ℕ)
    (us vs : List ℕ) (piece : Piece) → respell put (length done) (c ∷ xs) ≡ d ∷ us
    → piece_length (suc (length (xs ++ ys))) piece ≡ suc (length xs)
    → found_in file line gap front (length (respell put 0 done)) (d ∷ (us ++ vs)) (resized (suc (length us)) piece)
    ≡ map (respelled_found put file (done ++ c ∷ (xs ++ ys))) (found_in file line gap front (length done) (c ∷ (xs ++ ys)) piece)
found_in-moved put file line gap front done c xs ys d us vs (Blank n) now size = refl
found_in-moved put file line gap front done c xs ys d us vs LineEnd now size = refl
found_in-moved put file line gap front done c xs ys d us vs OpenComment now size = rw (moved-end put done (c ∷ (xs ++ ys))) refl
found_in-moved put file line gap front done c xs ys d us vs (Spelled kind n) now size =
    rw (size, take-append_seam xs ys, take-append_seam us vs, moved-end put done (c ∷ (xs ++ ys)), now) refl

-- Steps over a piece.

beq-true : (a b : Bool) → beq a b ≡ true → b ≡ a
beq-true true true is = refl
beq-true true false is = absurd cc
beq-true false true is = absurd cc
beq-true false false is = refl

hash-apart : (c : ℕ) → is_nondigit c ≡ true → (c == 35) ≡ false
hash-apart c letter = grind (arith, nat_tests)

percent-apart : (c : ℕ) → is_nondigit c ≡ true → (c == 37) ≡ false
percent-apart c letter = grind (arith, nat_tests)

list_all-both : (p : ℕ → Bool) (xs ys : List ℕ) → list_all p xs ≡ true → list_all p ys ≡ true → list_all p (xs ++ ys) ≡ true
list_all-both p xs ys first second = list_all-append p xs ys ∙ and_from (list_all p xs) (list_all p ys) first second

-- a piece that stays
same-step : (front : LineFront) (c : ℕ) (xs ys zs : List ℕ) (piece : Piece) (left : ℕ)
    → piece_length left piece ≡ suc (length xs) → line_front_after (c ∷ (xs ++ zs)) front piece ≡ line_front_after (c ∷ (xs ++ ys)) front piece
same-step front c xs ys zs (Blank n) left size = refl
same-step front c xs ys zs LineEnd left size = refl
same-step front c xs ys zs OpenComment left size = refl
same-step front c xs ys zs (Spelled kind n) left size =
    rw (size, take-append_seam xs ys, take-append_seam xs zs) refl

resized-same : (piece : Piece) (left n : ℕ) → piece_length left piece ≡ n → resized n piece ≡ piece
resized-same (Blank k) left n size = rw size refl
resized-same LineEnd left n size = refl
resized-same OpenComment left n size = refl
resized-same (Spelled kind k) left n size = rw size refl

resized-gap : (piece : Piece) (n : ℕ) → leaves_gap (resized n piece) ≡ leaves_gap piece
resized-gap (Blank k) n = refl
resized-gap LineEnd n = refl
resized-gap OpenComment n = refl
resized-gap (Spelled kind k) n = refl

word-hash : (c : ℕ) (ws : List ℕ) → is_nondigit c ≡ true → is_hash_text (c ∷ ws) ≡ false
word-hash c ws letter =
    rw (hash-apart c letter, percent-apart c letter) refl

-- one identifier for another leaves the same behind it on the line
word-step : (front : LineFront) (c d : ℕ) (xs us : List ℕ) → is_nondigit c ≡ true → is_nondigit d ≡ true
    → keeps_include front (c ∷ xs) (d ∷ us) ≡ true → with_token (d ∷ us) front ≡ with_token (c ∷ xs) front
word-step Nothing c d xs us letter letter_now keeps = rw (word-hash c xs letter, word-hash d us letter_now) refl
word-step Hash c d xs us letter letter_now keeps =
    let alike = beq-true (bytes_eq (c ∷ xs) (codes "include")) (bytes_eq (d ∷ us) (codes "include")) keeps in
    rw alike refl
word-step Include c d xs us letter letter_now keeps = refl
word-step Tokens c d xs us letter letter_now keeps = refl

-- What stands for the first piece, and that it is one.
pub record Stands (put : Put) (front : LineFront) (at c : ℕ) (xs ys : List ℕ) : Type 0 where
  pub d : ℕ
  pub us : List ℕ
  pub now : respell put at (c ∷ xs) ≡ d ∷ us
  pub first : (bs : List ℕ) × (put at c ≡ d ∷ bs)
  pub piece_now : piece_of (expects_header front) d (us ++ respell put (at + suc (length xs)) ys)
      ≡ resized (suc (length us)) (piece_of (expects_header front) c (xs ++ ys))
  pub size_now : piece_length (suc (length (us ++ respell put (at + suc (length xs)) ys)))
      (resized (suc (length us)) (piece_of (expects_header front) c (xs ++ ys))) ≡ suc (length us)
  pub front_now : line_front_after (d ∷ (us ++ respell put (at + suc (length xs)) ys)) front
      (resized (suc (length us)) (piece_of (expects_header front) c (xs ++ ys)))
      ≡ line_front_after (c ∷ (xs ++ ys)) front (piece_of (expects_header front) c (xs ++ ys))

open-size : (piece : Piece) (xs ys zs : List ℕ) → piece_length (suc (length (xs ++ ys))) piece ≡ suc (length xs) → (ys ≡ [] → zs ≡ [])
    → piece_length (suc (length (xs ++ zs))) piece ≡ suc (length xs)
open-size (Blank n) xs ys zs size empty = size
open-size LineEnd xs ys zs size empty = size
open-size (Spelled kind n) xs ys zs size empty = size
open-size OpenComment xs ys zs size empty =
    let none : ys ≡ [] = open-left xs ys size in
    rw (empty none, append-nil xs) refl

stands-same : (put : Put) (front : LineFront) (at c : ℕ) (xs ys : List ℕ) → IsCut front c xs ys → Fits put false (at + suc (length xs)) ys
    → stays put at (c ∷ xs) ≡ true → Stands put front at c xs ys
stands-same put front at c xs ys size fits stay =
    let like = alike-fits put at c xs ys stay fits in
    let zs = respell put (at + suc (length xs)) ys in
    let piece = piece_of (expects_header front) c (xs ++ ys) in
    let again : piece_of (expects_header front) c (xs ++ zs) ≡ piece = piece_of-local (expects_header front) c xs ys zs like size in
    let kept_size = resized-same piece (suc (length (xs ++ ys))) (suc (length xs)) size in
    let parts = and_parts (bytes_eq (put at c) (c ∷ [])) (stays put (at + 1) xs) stay in
    record {
      d = c;
      us = xs;
      now = stays-respell put at (c ∷ xs) stay;
      first = ([], bytes_eq-equal (put at c) (c ∷ []) parts.0);
      piece_now = again ∙ sym kept_size;
      size_now = rw kept_size (open-size piece xs ys zs size like.empty);
      front_now = rw kept_size (same-step front c xs ys zs piece (suc (length (xs ++ ys))) size);
    }

-- an identifier that stands for one
words-respelled : (put : Put) (at : ℕ) (xs : List ℕ) → words_stand put at xs ≡ true → list_all is_word (respell put at xs) ≡ true
words-respelled put at [] stand = refl
words-respelled put at (x ∷ xs) stand =
    let both = and_parts (list_all is_word (put at x)) (words_stand put (at + 1) xs) stand in
    list_all-both is_word (put at x) (respell put (at + 1) xs) both.0 (words-respelled put (at + 1) xs both.1)

pub name-respelled : (put : Put) (at c : ℕ) (xs : List ℕ) → is_nondigit c ≡ true → names_stand put at (c ∷ xs) ≡ true
    → (d : ℕ) × (bs : List ℕ) × (put at c ≡ d ∷ bs) × (is_nondigit d ≡ true) × (list_all is_word (bs ++ respell put (at + 1) xs) ≡ true)
name-respelled put at c xs letter stand =
    let both = and_parts (bytes_eq (put at c) (c ∷ []) || is_identifier_text (put at c)) (words_stand put (at + 1) xs) stand in
    let rest = words-respelled put (at + 1) xs both.1 in
    elim (or_cases (bytes_eq (put at c) (c ∷ [])) (is_identifier_text (put at c)) both.0) [
      | inl stay ↦ (c, [], bytes_eq-equal (put at c) (c ∷ []) stay, letter, rest)
      | inr ident ↦
          let w = identifier-first (put at c) ident in
          (w.0, w.1, w.2, w.3, list_all-both is_word w.1 (respell put (at + 1) xs) w.4 rest)
    ]

stands-word : (put : Put) (front : LineFront) (at c : ℕ) (xs ys : List ℕ) → Fits put false (at + suc (length xs)) ys
    → piece_of (expects_header front) c (xs ++ ys) ≡ Spelled Ident (suc (length xs)) → names_stand put at (c ∷ xs) ≡ true
    → bytes_eq (respell put at (c ∷ xs)) (codes "L") ≡ false
    → keeps_include front (c ∷ xs) (respell put at (c ∷ xs)) ≡ true → Stands put front at c xs ys
stands-word put front at c xs ys fits is stand other include =
    let w = piece-word (expects_header front) c (xs ++ ys) (length xs) is in
    let parts = words-front xs ys w.words in
    let n = name-respelled put at c xs w.letter stand in
    let d = n.0 in
    let us = n.1 ++ respell put (at + 1) xs in
    let zs = respell put (at + suc (length xs)) ys in
    let now : respell put at (c ∷ xs) ≡ d ∷ us = rw n.2 refl in
    let stops : first_is is_word zs ≡ false =
    first-fits put (at + suc (length xs)) ys fits is_word true (λ e letter. rw letter refl) ∙ parts.1 in
    let no_prefix : bytes_eq (d ∷ us) (codes "L") ≡ false = rw now at other in
    let narrow = wide_front-word d us zs n.4 no_prefix in
    let again = piece_of-word (expects_header front) d us zs n.3 n.4 stops narrow in
    let keeps : keeps_include front (c ∷ xs) (d ∷ us) ≡ true = rw now at include in
    record {
      d = d;
      us = us;
      now = now;
      first = (n.1, n.2);
      piece_now = rw is again;
      size_now = rw is refl;
      front_now = rw (is, take-append_seam us zs, take-append_seam xs ys) (word-step front c d xs us w.letter n.3 keeps);
    }

stands : (put : Put) (front : LineFront) (at c : ℕ) (xs ys : List ℕ) (piece : Piece) → IsCut front c xs ys
    → piece_of (expects_header front) c (xs ++ ys) ≡ piece → Fits put false (at + suc (length xs)) ys
    → IsKept put front at c xs piece → Stands put front at c xs ys
stands put front at c xs ys piece size is fits (same stay) = stands-same put front at c xs ys size fits stay
stands put front at c xs ys piece size is fits (word ident stand other include) =
    stands-word put front at c xs ys fits (is ∙ ident) stand other include

-- the respelled characters, from the first on
lined-first : (put : Put) (at : ℕ) (c : Lined) (xs : List Lined) (d : ℕ) (bs : List ℕ) → put at c.byte ≡ d ∷ bs
    → respell_lined put at (c ∷ xs) ≡ on_line d c.line ∷ (put_on bs c.line ++ respell_lined put (at + 1) xs)
lined-first put at c xs d bs is = rw is refl

-- Characters with lines, cut behind their first piece.
pub record CutLined (front : LineFront) (c : Lined) (cs : List Lined) : Type 0 where
  pub xs : List Lined
  pub ys : List Lined
  pub whole : xs ++ ys ≡ cs
  pub size : IsCut front c.byte (bytes_in xs) (bytes_in ys)

pub cut_lined : (front : LineFront) (c : Lined) (cs : List Lined) → CutLined front c cs
cut_lined front c cs =
    let bounds = piece_of-length (expects_header front) c.byte (bytes_in cs) in
    let n = piece_length (suc (length (bytes_in cs))) (piece_of (expects_header front) c.byte (bytes_in cs)) in
    let some = bounds.some in
    let within = bounds.within in
    let count = length-bytes_in cs in
    let xs = take (n - 1) cs in
    let ys = drop (n - 1) cs in
    let whole : xs ++ ys ≡ cs = take-append-drop (n - 1) cs in
    let bytes : bytes_in xs ++ bytes_in ys ≡ bytes_in cs = sym (bytes_in-append xs ys) ∙ ap bytes_in whole in
    let long : suc (length (bytes_in xs)) ≡ n = omega (arith, length-bytes_in xs, length-take-le (n - 1) cs (omega arith)) in
    record { xs = xs; ys = ys; whole = whole; size = rw bytes (sym long) }

-- what is found behind the first piece, where that is so for what follows
found-step : (put : Put) (file : ℕ) (gap : Bool) (front : LineFront) (done : List ℕ) (c : Lined) (xs ys : List Lined)
    → IsCut front c.byte (bytes_in xs) (bytes_in ys)
    → Stands put front (length done) c.byte (bytes_in xs) (bytes_in ys)
    → ((gap : Bool) (front : LineFront) (before : List ℕ)
    → keeps_pieces put 0 front (length before) (bytes_in ys) ≡ true
    → found_lined file 0 gap front (length (respell put 0 before)) (respell_lined put (length before) ys)
    ≡ map (respelled_found put file (before ++ bytes_in ys)) (found_lined file 0 gap front (length before) ys))
    → keeps_pieces put 0 (line_front_after (c.byte ∷ (bytes_in xs ++ bytes_in ys)) front
    (piece_of (expects_header front) c.byte (bytes_in xs ++ bytes_in ys))) (length done + suc (length (bytes_in xs))) (bytes_in ys) ≡ true
    → found_lined file 0 gap front (length (respell put 0 done)) (respell_lined put (length done) (c ∷ (xs ++ ys)))
    ≡ map (respelled_found put file (done ++ bytes_in (c ∷ (xs ++ ys)))) (found_lined file 0 gap front (length done) (c ∷ (xs ++ ys)))
found-step put file gap front done c xs ys size s later keeps =
    let at = length done in
    let to = length (respell put 0 done) in
    let X = bytes_in xs in
    let Y = bytes_in ys in
    let piece = piece_of (expects_header front) c.byte (X ++ Y) in
    let piece_now = resized (suc (length s.us)) piece in
    let XS = put_on s.first.0 c.line ++ respell_lined put (at + 1) xs in
    let YS = respell_lined put (at + suc (length xs)) ys in
    let count : length X ≡ length xs = length-bytes_in xs in
    let line : respell_lined put at (c ∷ xs) ≡ on_line s.d c.line ∷ XS = lined-first put at c xs s.d s.first.0 s.first.1 in
    let all : s.d ∷ bytes_in XS ≡ s.d ∷ s.us = ap bytes_in (sym line) ∙ bytes_in-respell put at (c ∷ xs) ∙ s.now in
    let us_are : bytes_in XS ≡ s.us = cc in
    let ys_are : bytes_in YS ≡ respell put (at + suc (length X)) Y =
    bytes_in-respell put (at + suc (length xs)) ys ∙ ap (λ k. respell put (at + suc k) Y) (sym count) in
    let us_count : length s.us ≡ length XS = ap length (sym us_are) ∙ length-bytes_in XS in
    let is_now : piece_of (expects_header front) s.d (bytes_in XS ++ bytes_in YS) ≡ piece_now = rw (us_are, ys_are) s.piece_now in
    let size_now : piece_length (suc (length (bytes_in XS ++ bytes_in YS))) piece_now ≡ suc (length XS) =
    rw (us_are, ys_are) (s.size_now ∙ ap suc us_count) in
    let left = found_lined-cut file gap front to (on_line s.d c.line) XS YS piece_now is_now size_now in
    let right = found_lined-cut file gap front at c xs ys piece refl (size ∙ ap suc count) in
    let f = respelled_found put file (done ++ c.byte ∷ (X ++ Y)) in
    let after = line_front_after (c.byte ∷ (X ++ Y)) front piece in
    let found = found_in file c.line gap front at (c.byte ∷ (X ++ Y)) piece in
    let rest = found_lined file 0 (leaves_gap piece) after (at + suc (length xs)) ys in
    let here : found_in file c.line gap front to (s.d ∷ (bytes_in XS ++ bytes_in YS)) piece_now ≡ map f found =
    rw (us_are, ys_are) (found_in-moved put file c.line gap front done c.byte X Y s.d s.us (respell put (at + suc (length X)) Y) piece s.now size) in
    let before = done ++ c.byte ∷ X in
    let before_count : length before ≡ at + suc (length xs) = omega (arith, length-append done (c.byte ∷ X)) in
    let before_keeps : keeps_pieces put 0 after (length before) Y ≡ true =
    let same_place : at + suc (length X) ≡ length before = omega arith in rw same_place at keeps in
    let zero_on : 0 + at ≡ at = omega arith in
    let before_now : respell put 0 before ≡ respell put 0 done ++ (s.d ∷ s.us) =
    respell-append put 0 done (c.byte ∷ X) ∙ ap (λ (zs : List ℕ). respell put 0 done ++ zs) (ap (λ k. respell put k (c.byte ∷ X)) zero_on ∙ s.now) in
    let to_now : length (respell put 0 before) ≡ to + suc (length XS) =
    ap length before_now ∙ length-append (respell put 0 done) (s.d ∷ s.us) ∙ ap (λ k. to + suc k) us_count in
    let text : before ++ Y ≡ done ++ c.byte ∷ (X ++ Y) = append_assoc done (c.byte ∷ X) Y in
    let behind : found_lined file 0 (leaves_gap piece) after (to + suc (length XS)) YS ≡ map f rest =
    rw (← to_now, ← before_count, ← text) (later (leaves_gap piece) after before before_keeps) in
    let gap_now : leaves_gap piece_now ≡ leaves_gap piece = resized-gap piece (suc (length s.us)) in
    let after_now : line_front_after (s.d ∷ (bytes_in XS ++ bytes_in YS)) front piece_now ≡ after = rw (us_are, ys_are) s.front_now in
    ap (found_lined file 0 gap front to) (respell_lined-append put at (c ∷ xs) ys ∙ ap (λ (zs : List Lined). zs ++ YS) line)
    ∙ left
    ∙ rw (gap_now, after_now, here, behind, bytes_in-append xs ys) (sym (ap (map f) right ∙ map-append f found rest))

found-edited-within : (m : ℕ) (put : Put) (file : ℕ) (gap : Bool) (front : LineFront) (done : List ℕ) (cs : List Lined) → length cs ≤ m
    → keeps_pieces put 0 front (length done) (bytes_in cs) ≡ true
    → found_lined file 0 gap front (length (respell put 0 done)) (respell_lined put (length done) cs)
    ≡ map (respelled_found put file (done ++ bytes_in cs)) (found_lined file 0 gap front (length done) cs)
unfolding found_lined
found-edited-within m put file gap front done [] small keeps = refl
found-edited-within zero put file gap front done (c ∷ cs) small keeps = absurd (omega arith)
found-edited-within (suc m) put file gap front done (c ∷ cs) small keeps =
    let part = cut_lined front c cs in
    let whole = part.whole in
    let bytes : bytes_in part.xs ++ bytes_in part.ys ≡ bytes_in cs = sym (bytes_in-append part.xs part.ys) ∙ ap bytes_in whole in
    let sized : keeps_pieces put 0 front (length done) (c.byte ∷ (bytes_in part.xs ++ bytes_in part.ys)) ≡ true = rw bytes keeps in
    let held = keeps-cut put front (length done) c.byte (bytes_in part.xs) (bytes_in part.ys) part.size sized in
    let fits = keeps-fits put _ (length done + suc (length (bytes_in part.xs))) (bytes_in part.ys) held.later in
    let s = stands put front (length done) c.byte (bytes_in part.xs) (bytes_in part.ys) _ part.size refl fits held.piece in
    let few : length part.ys ≤ m = omega (arith, ap length whole, length-append part.xs part.ys) in
    let step = found-step put file gap front done c part.xs part.ys part.size s
    (λ gap front before k. found-edited-within m put file gap front before part.ys few k) held.later in
    rw whole at step

-- What is found in a text whose pieces are kept is what was found, moved.
pub found-edited : (put : Put) (file : ℕ) (gap : Bool) (front : LineFront) (cs : List Lined)
    → keeps_pieces put 0 front 0 (bytes_in cs) ≡ true
    → found_lined file 0 gap front 0 (respell_lined put 0 cs)
    ≡ map (respelled_found put file (bytes_in cs)) (found_lined file 0 gap front 0 cs)
found-edited put file gap front cs keeps = found-edited-within (length cs) put file gap front [] cs (omega arith) keeps
