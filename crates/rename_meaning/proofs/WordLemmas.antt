-- The words of directive lines, and edits that keep them.
use Rattle.std.proofs.Common.{◌≡◌, ℕ, ◌&&◌, ◌||◌, not, Bool, true, false, codes, List, [], ◌∷◌, drop, get_or, cond, inl, inr, refl, ◌∙◌}
use Rattle.std.specs.Str.{bytes_eq}
use Rattle.std.proofs.lemmas.Bool.{cases_Bool, and_from}
use Rattle.cs_base.specs.declared.tokens.Kind.{Kind}
use Rattle.cs_base.specs.declared.tokens.Kind.TheVariants.{Ident, Number, Char, Str, Punct, Other, Header}
use Rattle.cs_base.specs.Token.{Token}
use Rattle.lexer.specs.Tokens.{is_hash_text, with_token}
use Rattle.lexer.specs.Respelling.{Put, respell, stays, names_stand, keeps_include}
use Rattle.lexer.specs.KeptTokens.{keeps_spelled, front_before, keeps_tokens}
use Rattle.line_shape.specs.Signs.{is_identifier, is_hash}
use Rattle.line_shape.specs.Items.{onto_lines, lines_of}
use Rattle.edited_unit_laws.proofs.ListLemmas.{AllOf}

-- what is true of the word of a directive line
abbrev pub WordIs : (Token → Type 0) → List Token → Type 0
WordIs P (hash ∷ word ∷ operands) = is_hash hash ≡ true → P word
WordIs P _ = Unit {0}

-- the tokens of the lines are those of the file
lines_onto : (P : Token → Type 0) (t : Token) (b : Bool) (lines : List (List Token)) → P t → AllOf (AllOf P) lines → AllOf (AllOf P) (onto_lines t b lines)
lines_onto P t true lines here h = ((here, tt), h)
lines_onto P t false [] here h = ((here, tt), tt)
lines_onto P t false (l ∷ lines) here h = ((here, h.0), h.1)

pub lines_all : (P : Token → Type 0) (toks : List Token) (firsts : List Bool) → AllOf P toks → AllOf (AllOf P) (lines_of toks firsts)
unfolding lines_of
lines_all P [] firsts h = tt
lines_all P (t ∷ toks) firsts h =
    lines_onto P t (get_or firsts 1 false) (lines_of toks (drop 1 firsts)) h.0 (lines_all P toks (drop 1 firsts) h.1)

-- ---- what stands on a line

-- What stands on a line before a token, in words of this crate: the lexer's own has no name outside it.
data Front : Type 0 where
  Nothing : Front
  Hash : Front
  Include : Front
  Tokens : Front

-- one of four facts
abbrev Told : Front → Type 0 → Type 0 → Type 0 → Type 0 → Type 0
Told Nothing nothing hash include tokens = nothing
Told Hash nothing hash include tokens = hash
Told Include nothing hash include tokens = include
Told Tokens nothing hash include tokens = tokens

same-with : (x y : _) → x ≡ y → (text : List ℕ) → with_token text x ≡ with_token text y
same-with x y e text = rw e refl

same-includes : (x y : _) → x ≡ y → (old new : List ℕ) → keeps_include x old new ≡ keeps_include y old new
same-includes x y e old new = rw e refl

-- what stands there behind a token, and before one that is the first of its line or not
abbrev behind_token : List ℕ → Front → Front
behind_token text Nothing = cond (is_hash_text text) Hash Tokens
behind_token text Hash = cond (bytes_eq text (codes "include")) Include Tokens
behind_token text Include = Tokens
behind_token text Tokens = Tokens

abbrev before_token : Bool → Front → Front
before_token first f = cond first Nothing f

-- it is what the lexer says, told by what the lexer makes of words
front-behind : (text : List ℕ) (f : Front) (front : _) → Told (f) (front ≡ front_before true (front)) (front ≡ with_token (codes "#") (front_before true (front)))
    (front ≡ with_token (codes "include") (with_token (codes "#") (front_before true (front)))) (front ≡ with_token (codes "x") (front_before true (front)))
    → Told (behind_token text f) (with_token text front ≡ front_before true (with_token text front)) (with_token text front ≡ with_token (codes "#") (front_before true (with_token text front)))
    (with_token text front ≡ with_token (codes "include") (with_token (codes "#") (front_before true (with_token text front)))) (with_token text front ≡ with_token (codes "x") (front_before true (with_token text front)))
front-behind text Nothing front e = elim (cases_Bool (is_hash_text text)) [
  | inl hash ↦ rw hash (same-with front (front_before true front) e text ∙ rw hash refl)
  | inr other ↦ rw other (same-with front (front_before true front) e text ∙ rw other refl)
]
front-behind text Hash front e = elim (cases_Bool (bytes_eq text (codes "include"))) [
  | inl include ↦ rw include (same-with front (with_token (codes "#") (front_before true front)) e text ∙ rw include refl)
  | inr other ↦ rw other (same-with front (with_token (codes "#") (front_before true front)) e text ∙ rw other refl)
]
front-behind text Include front e = same-with front (with_token (codes "include") (with_token (codes "#") (front_before true front))) e text
front-behind text Tokens front e = same-with front (with_token (codes "x") (front_before true front)) e text

front-before : (first : Bool) (f : Front) (front : _) → Told (f) (front ≡ front_before true (front)) (front ≡ with_token (codes "#") (front_before true (front)))
    (front ≡ with_token (codes "include") (with_token (codes "#") (front_before true (front)))) (front ≡ with_token (codes "x") (front_before true (front)))
    → Told (before_token first f) (front_before first front ≡ front_before true (front_before first front)) (front_before first front ≡ with_token (codes "#") (front_before true (front_before first front)))
    (front_before first front ≡ with_token (codes "include") (with_token (codes "#") (front_before true (front_before first front)))) (front_before first front ≡ with_token (codes "x") (front_before true (front_before first front)))
front-before true f front e = refl
front-before false f front e = e

-- ---- one token

abbrev pub StaysIn : Put → Token → Type 0
StaysIn put t = stays put t.at.at t.text ≡ true

-- An edit keeps a token, as far as it does not stand behind a `#`.
pub record KeptIn (put : Put) (t : Token) : Type 0 where
  pub other : is_identifier t.kind ≡ false → StaysIn put t
  pub stands : is_identifier t.kind ≡ true → names_stand put t.at.at t.text ≡ true
  pub new : is_identifier t.kind ≡ true → (stays put t.at.at t.text || not (bytes_eq (respell put t.at.at t.text) (codes "L"))) ≡ true
  pub hash : is_hash_text t.text ≡ true → is_hash t ≡ true

word-kept : (f : Front) (front : _) → Told (f) (front ≡ front_before true (front)) (front ≡ with_token (codes "#") (front_before true (front)))
    (front ≡ with_token (codes "include") (with_token (codes "#") (front_before true (front)))) (front ≡ with_token (codes "x") (front_before true (front)))
    → (s l : Bool) (old new : List ℕ) → (s || l) ≡ true → (f ≡ Hash → s ≡ true) → (s || (l && keeps_include front old new)) ≡ true
word-kept f front is true l old new e h = refl
word-kept f front is false false old new e h = absurd (cc)
word-kept Hash front is false true old new e h = let wrong = h refl in absurd (cc)
word-kept Nothing front is false true old new e h = same-includes front (front_before true front) is old new
word-kept Include front is false true old new e h = same-includes front (with_token (codes "include") (with_token (codes "#") (front_before true front))) is old new
word-kept Tokens front is false true old new e h = same-includes front (with_token (codes "x") (front_before true front)) is old new

kept-by : (put : Put) (f : Front) (front : _) → Told (f) (front ≡ front_before true (front)) (front ≡ with_token (codes "#") (front_before true (front)))
    (front ≡ with_token (codes "include") (with_token (codes "#") (front_before true (front)))) (front ≡ with_token (codes "x") (front_before true (front)))
    → (kind : Kind) (at : ℕ) (text : List ℕ) → (is_identifier kind ≡ false → stays put at text ≡ true)
    → (is_identifier kind ≡ true → names_stand put at text ≡ true)
    → (is_identifier kind ≡ true → (stays put at text || not (bytes_eq (respell put at text) (codes "L"))) ≡ true)
    → (f ≡ Hash → stays put at text ≡ true) → keeps_spelled put front kind at text ≡ true
kept-by put f front is Ident at text o n l h =
    and_from (names_stand put at text)
    (stays put at text || (not (bytes_eq (respell put at text) (codes "L")) && keeps_include front text (respell put at text))) (n refl)
    (word-kept f front is (stays put at text) (not (bytes_eq (respell put at text) (codes "L"))) text (respell put at text) (l refl) h)
kept-by put f front is Number at text o n l h = o refl
kept-by put f front is Char at text o n l h = o refl
kept-by put f front is Str at text o n l h = o refl
kept-by put f front is Punct at text o n l h = o refl
kept-by put f front is Other at text o n l h = o refl
kept-by put f front is Header at text o n l h = o refl

-- ---- lines

-- the lines behind the first one
abbrev Later : (Token → Type 0) → List (List Token) → Type 0
Later P [] = Unit {0}
Later P (line ∷ lines) = AllOf (WordIs P) lines

abbrev First : (Token → Type 0) → List (List Token) → Type 0
First P ((t ∷ toks) ∷ lines) = P t
First P _ = Unit {0}

-- the words of lines, where this stands before them on the first one
abbrev Starts : (Token → Type 0) → Front → List (List Token) → Type 0
Starts P Nothing lines = AllOf (WordIs P) lines
Starts P Hash lines = First P lines × Later P lines
Starts P _ lines = Later P lines

module _ (P : Token → Type 0) where
  onto-later : (t : Token) (b : Bool) (lines : List (List Token)) → Later P (onto_lines t b lines) → Later P lines
  onto-later t true [] h = tt
  onto-later t true (l ∷ lines) h = h.1
  onto-later t false [] h = tt
  onto-later t false (l ∷ lines) h = h

  on-new : (t : Token) (f : Front) (lines : List (List Token)) → Starts P f (onto_lines t true lines) → AllOf (WordIs P) lines
  on-new t Nothing lines h = h.1
  on-new t Hash lines h = h.1
  on-new t Include lines h = h
  on-new t Tokens lines h = h

  hash-first : (t : Token) (lines : List (List Token)) → is_hash t ≡ true → AllOf (WordIs P) (onto_lines t false lines) → First P lines × Later P lines
  hash-first t [] is h = (tt, tt)
  hash-first t ([] ∷ lines) is h = (tt, h.1)
  hash-first t ((w ∷ l) ∷ lines) is h = (h.0 is, h.1)

  text-first : (t : Token) (lines : List (List Token)) → AllOf (WordIs P) (onto_lines t false lines) → Later P lines
  text-first t [] h = tt
  text-first t (l ∷ lines) h = h.1

  behind-first : (t : Token) (lines : List (List Token)) (b : Bool) → (b ≡ true → is_hash t ≡ true) → AllOf (WordIs P) (onto_lines t false lines)
      → Starts P (cond b Hash Tokens) lines
  behind-first t lines true is h = hash-first t lines (is refl) h
  behind-first t lines false is h = text-first t lines h

  include-or : (b : Bool) (lines : List (List Token)) → Later P lines → Starts P (cond b Include Tokens) lines
  include-or true lines h = h
  include-or false lines h = h

  on-line : (t : Token) (f : Front) (lines : List (List Token)) → (is_hash_text t.text ≡ true → is_hash t ≡ true) → Starts P f (onto_lines t false lines)
      → Starts P (behind_token t.text f) lines
  on-line t Nothing lines is h = behind-first t lines (is_hash_text t.text) is h
  on-line t Hash lines is h = include-or (bytes_eq t.text (codes "include")) lines (onto-later t false lines h.1)
  on-line t Include lines is h = onto-later t false lines h
  on-line t Tokens lines is h = onto-later t false lines h

  next : (t : Token) (f : Front) (b : Bool) (lines : List (List Token)) → (is_hash_text t.text ≡ true → is_hash t ≡ true) → Starts P f (onto_lines t b lines)
      → Starts P (before_token b (behind_token t.text f)) lines
  next t f true lines is h = on-new t f lines h
  next t f false lines is h = on-line t f lines is h

  first-has : (t : Token) (b : Bool) (lines : List (List Token)) → First P (onto_lines t b lines) → P t
  first-has t true lines h = h
  first-has t false [] h = h
  first-has t false (l ∷ lines) h = h

  behind-hash : (t : Token) (f : Front) (b : Bool) (lines : List (List Token)) → Starts P f (onto_lines t b lines) → f ≡ Hash → P t
  behind-hash t Nothing b lines h is = absurd (cc)
  behind-hash t Hash b lines h is = first-has t b lines h.0
  behind-hash t Include b lines h is = absurd (cc)
  behind-hash t Tokens b lines h is = absurd (cc)

second : (firsts : List Bool) → get_or (drop 1 firsts) 0 false ≡ get_or firsts 1 false
second [] = refl
second (b ∷ firsts) = refl

-- ---- all tokens

kept-walk : (put : Put) (toks : List Token) (firsts : List Bool) (f : Front) (front : _) → Told (f) (front ≡ front_before true (front)) (front ≡ with_token (codes "#") (front_before true (front)))
    (front ≡ with_token (codes "include") (with_token (codes "#") (front_before true (front)))) (front ≡ with_token (codes "x") (front_before true (front)))
    → AllOf (KeptIn put) toks
    → Starts (StaysIn put) (before_token (get_or firsts 0 false) f) (lines_of toks firsts) → keeps_tokens put front toks firsts ≡ true
unfolding lines_of
kept-walk put [] firsts f front is kept starts = refl
kept-walk put (t ∷ toks) firsts f front is kept starts =
    let g : Front = before_token (get_or firsts 0 false) f in
    let now = front_before (get_or firsts 0 false) front in
    let is_now = front-before (get_or firsts 0 false) f front is in
    let lines : List (List Token) = lines_of toks (drop 1 firsts) in
    let b : Bool = get_or firsts 1 false in
    let here : Starts (StaysIn put) g (onto_lines t b lines) = starts in
    let k = kept.0 in
    let behind : Starts (StaysIn put) (before_token b (behind_token t.text g)) lines = next (StaysIn put) t g b lines k.hash here in
    let later : Starts (StaysIn put) (before_token (get_or (drop 1 firsts) 0 false) (behind_token t.text g)) lines = rw (second firsts) behind in
    and_from (keeps_spelled put now t.kind t.at.at t.text) (keeps_tokens put (with_token t.text now) toks (drop 1 firsts))
    (kept-by put g now is_now t.kind t.at.at t.text k.other k.stands k.new (λ hash. behind-hash (StaysIn put) t g b lines here hash))
    (kept-walk put toks (drop 1 firsts) (behind_token t.text g) (with_token t.text now) (front-behind t.text g now is_now) kept.1 later)

-- Each token is kept, and each word of a directive stays.
pub tokens-kept : (put : Put) (toks : List Token) (firsts : List Bool) (front : _) → front ≡ front_before true front → AllOf (KeptIn put) toks
    → AllOf (WordIs (StaysIn put)) (lines_of toks firsts) → keeps_tokens put front toks firsts ≡ true
tokens-kept put toks firsts front is kept words = kept-walk put toks firsts Nothing front is kept (by (get_or firsts 0 false))
  where
    by : (b : Bool) → Starts (StaysIn put) (before_token b Nothing) (lines_of toks firsts)
    by true = words
    by false = words
