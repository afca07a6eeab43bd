-- Tokens that fit: a test for it, and which tokens of an expansion pass.
use Rattle.std.proofs.Common.{◌≡◌, ℕ, zero, suc, ◌*◌, ◌&&◌, Bool, true, false, not, cond, List, [], ◌∷◌, length, replicate, Option, Some, None, Ok, codes, ◌⊎◌, refl, ap, inl, inr}
use Rattle.std.specs.Prelude.{slice_get}
use Rattle.std.specs.Fmt.{decimal}
use Rattle.std.specs.List.{list_all}
use Rattle.std.specs.Option.{is_none}
use Rattle.std.specs.Str.{bytes_eq}
use Rattle.std.proofs.lemmas.Bool.{cases_Bool, and_parts, and_from, both_ways}
use Rattle.std.proofs.lemmas.Slice.Eq.{bytes_eq-Decides}
use Rattle.cs_base.specs.declared.positions.Pos.{Pos}
use Rattle.cs_base.specs.declared.tokens.Kind.{Kind}
use Rattle.cs_base.specs.declared.tokens.Kind.TheVariants.{Ident, Number, Char, Str, Punct, Other, Header}
use Rattle.cs_base.specs.Token.{Token}
use Rattle.line_shape.specs.Signs.{is_identifier, is_va_args}
use Rattle.macro_body.specs.declared.notes.Work.{Work}
use Rattle.macro_body.specs.Below.paste_origin.Strings.{stringize_of}
use Rattle.macro_body.specs.declared.definitions.Definition.{Definition}
use Rattle.macro_body.specs.Hides.{Hidden, unhidden, toks_of}
use Rattle.macro_expand.specs.Laws.{Held, Passes, AllMadePass}
use Rattle.macro_body.specs.Macro.{Table as Macros}
use Rattle.macro_body.specs.Notes.{Note, Replaced, Linked, Stringized, Pasted, Counted, Expanded}
use Rattle.macro_body.specs.Substitution.{number_token, path_text, path_string}
use Rattle.macro_expand.specs.Expansion.{Setting, expansion}
use Rattle.macro_expand.specs.Renaming.{Renaming, spelled, Occurring, occurs, AllOccur, KeepsBody}
use Rattle.expansion_laws.proofs.OriginLemmas.{tokens_come_from_somewhere}
use Rattle.expansion_laws.specs.Telling.{DidHappen, IsStringized}
use Rattle.expansion_laws.proofs.TellingLemmas.{string_is, notes_are_true}
use Rattle.unit_steps.specs.State.{State}
use Rattle.edited_unit_laws.specs.Lines.{Each, is_fixed, KeepsToken}
use Rattle.edited_unit_laws.specs.Keeping.{Change, KeepsNames, Fits, GoesWell}
use Rattle.edited_unit_laws.specs.Steps.{KeepsState}

-- ---- tests

abbrev same : Bool → Bool → Bool
same a b = cond a b (not b)

same-true : (a b : Bool) → same a b ≡ true → a ≡ b
same-true true true h = refl
same-true true false h = absurd (cc)
same-true false true h = absurd (cc)
same-true false false h = refl

same-of : (a b : Bool) → a ≡ b → same a b ≡ true
same-of true true h = refl
same-of true false h = absurd (cc)
same-of false true h = absurd (cc)
same-of false false h = refl

-- an identifier is spelled like a word exactly where it was
word-stays : (n x y : Bool) → n ≡ true → (n && x) ≡ (n && y) → x ≡ y
word-stays true x y is h = h
word-stays false x y is h = absurd (cc)

pub word-back : (n x y : Bool) → x ≡ y → (n && x) ≡ (n && y)
word-back n x y h = ap (λ b. n && b) h

word-none : (n x y : Bool) → n ≡ false → (n && x) ≡ (n && y)
word-none true x y is = absurd (cc)
word-none false x y is = refl

-- the words that directives and conditions know
abbrev known_words : List (List ℕ)
known_words = codes "defined" ∷ codes "__VA_ARGS__" ∷ codes "__VA_OPT__" ∷ codes "__has_include" ∷ codes "__has_include_next" ∷ []

-- it is this word exactly where it was
abbrev keeps_word : Renaming → List (Option Pos) → List ℕ → List ℕ → Bool
keeps_word r origins text word = same (bytes_eq (r.spell origins text) word) (bytes_eq text word)

-- the new spelling keeps what directives mean
unfoldable pub keeps_text : Renaming → Occurring
keeps_text r kind origins text =
    cond (is_identifier kind) (list_all (keeps_word r origins text) known_words) (cond (is_fixed kind) (bytes_eq (r.spell origins text) text) true)

-- the token occurs, and its new spelling does
unfoldable pub fits : Change → Occurring
fits c kind origins text = c.occurring kind origins text && keeps_text c.renaming kind origins text

-- the same of the words, and of what is no identifier
abbrev WordKept : Renaming → Token → List ℕ → Type 0
WordKept r t word = bytes_eq (spelled r t) word ≡ bytes_eq t.text word

words-true : (r : Renaming) (t : Token) (words : List (List ℕ)) → Each (WordKept r t) words → list_all (keeps_word r t.origins t.text) words ≡ true
words-true r t [] h = refl
words-true r t (w ∷ words) h =
    and_from (keeps_word r t.origins t.text w) (list_all (keeps_word r t.origins t.text) words) (same-of (bytes_eq (spelled r t) w) (bytes_eq t.text w) h.0) (words-true r t words h.1)

true-words : (r : Renaming) (t : Token) (words : List (List ℕ)) → list_all (keeps_word r t.origins t.text) words ≡ true → Each (WordKept r t) words
true-words r t [] h = tt
true-words r t (w ∷ words) h =
    let k = and_parts (keeps_word r t.origins t.text w) (list_all (keeps_word r t.origins t.text) words) h in
    (same-true (bytes_eq (spelled r t) w) (bytes_eq t.text w) k.0, true-words r t words k.1)

keeps-name : (n name other : Bool) → n ≡ true → name ≡ true → cond n name other ≡ true
keeps-name true name other is h = h
keeps-name false name other is h = absurd (cc)

name-keeps : (n name other : Bool) → n ≡ true → cond n name other ≡ true → name ≡ true
name-keeps true name other is h = h
name-keeps false name other is h = absurd (cc)

keeps-other : (n name other : Bool) → n ≡ false → other ≡ true → cond n name other ≡ true
keeps-other true name other is h = absurd (cc)
keeps-other false name other is h = h

other-keeps : (n name other : Bool) → n ≡ false → cond n name other ≡ true → other ≡ true
other-keeps true name other is h = absurd (cc)
other-keeps false name other is h = h

-- what is fixed is no identifier, and stays
pub fixed-other : (kind : Kind) → is_fixed kind ≡ true → is_identifier kind ≡ false
fixed-other Ident h = absurd (cc)
fixed-other Number h = refl
fixed-other Char h = refl
fixed-other Str h = absurd (cc)
fixed-other Punct h = refl
fixed-other Other h = refl
fixed-other Header h = refl

fixed-stays : (f stays : Bool) → (f ≡ true → stays ≡ true) → cond f stays true ≡ true
fixed-stays true stays h = h refl
fixed-stays false stays h = refl

stays-fixed : (f stays : Bool) → f ≡ true → cond f stays true ≡ true → stays ≡ true
stays-fixed true stays is h = h
stays-fixed false stays is h = absurd (cc)

keeps-true : (r : Renaming) (t : Token) → KeepsToken r t → keeps_text r t.kind t.origins t.text ≡ true
unfolding keeps_text is_va_args
keeps-true r t h = by (cases_Bool (is_identifier t.kind))
  where
    stays : (word : List ℕ) → is_identifier t.kind ≡ true → (is_identifier t.kind && bytes_eq (spelled r t) word) ≡ (is_identifier t.kind && bytes_eq t.text word) → WordKept r t word
    stays word name k = word-stays (is_identifier t.kind) (bytes_eq (spelled r t) word) (bytes_eq t.text word) name k

    by : (is_identifier t.kind ≡ true) ⊎ (is_identifier t.kind ≡ false) → keeps_text r t.kind t.origins t.text ≡ true
    by (inl name) =
        keeps-name (is_identifier t.kind) (list_all (keeps_word r t.origins t.text) known_words) (cond (is_fixed t.kind) (bytes_eq (spelled r t) t.text) true) name
        (words-true r t known_words (
          stays (codes "defined") name h.asks,
          (
            stays (codes "__VA_ARGS__") name h.rest,
            (
              stays (codes "__VA_OPT__") name h.opts,
              (stays (codes "__has_include") name h.header, (stays (codes "__has_include_next") name h.next, tt)),
            ),
          ),
        ))
    by (inr other) =
        keeps-other (is_identifier t.kind) (list_all (keeps_word r t.origins t.text) known_words) (cond (is_fixed t.kind) (bytes_eq (spelled r t) t.text) true) other
        (fixed-stays (is_fixed t.kind) (bytes_eq (spelled r t) t.text) (λ fixed. (bytes_eq-Decides (spelled r t) t.text).1 (h.others fixed)))

true-keeps : (r : Renaming) (t : Token) → keeps_text r t.kind t.origins t.text ≡ true → KeepsToken r t
unfolding keeps_text is_va_args
true-keeps r t h = record {
  others = λ fixed.
      (bytes_eq-Decides (spelled r t) t.text).0
      (stays-fixed (is_fixed t.kind) (bytes_eq (spelled r t) t.text) fixed
      (other-keeps (is_identifier t.kind) (list_all (keeps_word r t.origins t.text) known_words)
      (cond (is_fixed t.kind) (bytes_eq (spelled r t) t.text) true) (fixed-other t.kind fixed) h));
  asks = back (codes "defined") (λ name. (all name).0);
  rest = back (codes "__VA_ARGS__") (λ name. (all name).1.0);
  opts = back (codes "__VA_OPT__") (λ name. (all name).1.1.0);
  header = back (codes "__has_include") (λ name. (all name).1.1.1.0);
  next = back (codes "__has_include_next") (λ name. (all name).1.1.1.1.0);
}
  where
    all : is_identifier t.kind ≡ true → Each (WordKept r t) known_words
    all name =
        true-words r t known_words
        (name-keeps (is_identifier t.kind) (list_all (keeps_word r t.origins t.text) known_words) (cond (is_fixed t.kind) (bytes_eq (spelled r t) t.text) true) name h)

    back : (word : List ℕ) → (is_identifier t.kind ≡ true → WordKept r t word) → (is_identifier t.kind && bytes_eq (spelled r t) word) ≡ (is_identifier t.kind && bytes_eq t.text word)
    back word k = elim (cases_Bool (is_identifier t.kind)) [
      | inl name ↦ word-back (is_identifier t.kind) (bytes_eq (spelled r t) word) (bytes_eq t.text word) (k name)
      | inr other ↦ word-none (is_identifier t.kind) (bytes_eq (spelled r t) word) (bytes_eq t.text word) other
    ]

pub fits-true : (c : Change) (t : Token) → Fits c t → occurs (fits c) t ≡ true
unfolding fits
fits-true c t h = and_from (c.occurring t.kind t.origins t.text) (keeps_text c.renaming t.kind t.origins t.text) h.0 (keeps-true c.renaming t h.1)

pub true-fits : (c : Change) (t : Token) → occurs (fits c) t ≡ true → Fits c t
unfolding fits
true-fits c t h =
    let k = and_parts (c.occurring t.kind t.origins t.text) (keeps_text c.renaming t.kind t.origins t.text) h in
    (k.0, true-keeps c.renaming t k.1)

-- ---- what comes from no file

string-kind : (toks : List Token) (s : Token) → stringize_of toks ≡ Ok s → s.kind ≡ Str
string-kind toks s h = ap (λ (t : Token). t.kind) (string_is toks s h)

-- a token that is neither an identifier nor a punctuator, and stays as it is spelled
pub still-fits : (c : Change) → KeepsNames c → (t : Token) (kind : Kind) → t.kind ≡ kind → is_identifier kind ≡ false → (c.occurring kind t.origins t.text ≡ true) → spelled c.renaming t ≡ t.text → Fits c t
unfolding is_va_args
still-fits c names t kind is other here stays = (
  rw is here,
  record { others = λ text. stays; asks = rw (is, other) refl; rest = rw (is, other) refl; opts = rw (is, other) refl; header = rw (is, other) refl; next = rw (is, other) refl },
)

-- a string literal fits, however it is spelled
quoted-fits : (c : Change) → KeepsNames c → (s : Token) → s.kind ≡ Str → Fits c s
unfolding is_va_args
quoted-fits c names s is = (
  rw is (names.others Str s.origins s.text refl refl),
  record { others = λ fixed. absurd (both_ways (is_fixed s.kind) (ap is_fixed is) fixed); asks = rw is refl; rest = rw is refl; opts = rw is refl; header = rw is refl; next = rw is refl },
)

string-fits : (c : Change) → KeepsNames c → (toks : List Token) (s : Token) → IsStringized toks s → Fits c s
string-fits c names toks s h = quoted-fits c names s (string-kind toks s h.made)

pub number-fits : (c : Change) → KeepsNames c → (name : Token) (n : ℕ) → Fits c (number_token name n)
number-fits c names name n =
    still-fits c names (number_token name n) Number refl refl (names.others Number (number_token name n).origins (number_token name n).text refl refl)
    (names.numbers (8 * n) (length (decimal n)) (decimal n)).0

nones : (n : ℕ) → list_all is_none (replicate {A = Option Pos} n None) ≡ true
nones zero = refl
nones (suc n) = nones n

path-fits : (c : Change) → KeepsNames c → (path : List ℕ) (name : Token) → Fits c (path_string path name)
path-fits c names path name =
    still-fits c names (path_string path name) Str refl refl (names.others Str (path_string path name).origins (path_string path name).text refl refl)
    (names.untraced (path_string path name).origins (path_string path name).text (nones (length (path_text path)))).0

-- ---- expansions

made-pass : (c : Change) → KeepsNames c → (macros : Macros) (notes : List Note) → ((k : ℕ) (note : Note) → slice_get notes k ≡ Some note → DidHappen macros note) → Each (GoesWell c) notes
    → AllMadePass (fits c) notes
made-pass c names macros [] did h = tt
made-pass c names macros (Replaced name m before ∷ notes) did h = made-pass c names macros notes (λ k note at. did (suc k) note at) h.1
made-pass c names macros (Linked x y ∷ notes) did h = made-pass c names macros notes (λ k note at. did (suc k) note at) h.1
made-pass c names macros (Counted z ∷ notes) did h = made-pass c names macros notes (λ k note at. did (suc k) note at) h.1
made-pass c names macros (Stringized toks s ∷ notes) did h =
    (fits-true c s (string-fits c names toks s (did 0 (Stringized toks s) refl)), made-pass c names macros notes (λ k note at. did (suc k) note at) h.1)
made-pass c names macros (Pasted x y z ∷ notes) did h =
    (fits-true c z (h.0.0.1, h.0.1), made-pass c names macros notes (λ k note at. did (suc k) note at) h.1)

body-fits : (c : Change) (m : Definition) (body : List Token) → KeepsBody c.occurring c.renaming m body → Each (KeepsToken c.renaming) body → AllOccur (fits c) body
body-fits c m [] h k = tt
body-fits c m (t ∷ ts) h k = (fits-true c t (h.0, k.0), body-fits c m ts h.2 k.1)

run-held : (c : Change) (macros : Macros) (run : List Token) → Each (Fits c) run → Held (fits c) macros (unhidden run)
run-held c macros [] h = tt
run-held c macros (t ∷ ts) h = (fits-true c t h.0, tt, run-held c macros ts h.1)

held-fits : (c : Change) (macros : Macros) (hs : List Hidden) → Held (fits c) macros hs → Each (Fits c) (toks_of hs)
held-fits c macros [] h = tt
held-fits c macros (t ∷ ts) h = (true-fits c t.tok h.0, held-fits c macros ts h.2)

-- the tokens that tokens which fit expand to fit
pub expanded-fits : (c : Change) → KeepsNames c → (macros : Macros) (s : State) (path : List ℕ) (run : List Token) (work : Work) (e : Expanded) → KeepsState c macros s → Each (Fits c) run
    → expansion s.macros path run work ≡ Ok e → Each (GoesWell c) e.notes → Each (Fits c) (toks_of e.toks)
unfolding expansion
expanded-fits c names macros s path run work e kept h is told =
    let set : Setting = record { table = s.macros; path = path } in
    let passes : Passes (fits c) set = record {
      bodies = λ name m at. body-fits c m m.body (kept.macros.body name m at) (kept.bodies name m at);
      numbers = λ name n. fits-true c (number_token name n) (number-fits c names name n);
      paths = λ name. fits-true c (path_string path name) (path-fits c names path name);
    } in
    held-fits c s.macros e.toks (tokens_come_from_somewhere (fits c) set 0 0 (unhidden run) work e passes (run-held c s.macros run h) is
    (made-pass c names s.macros e.notes (λ k note at. notes_are_true s.macros path run work e is note (k, at)) told))
