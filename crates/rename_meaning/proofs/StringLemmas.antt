-- Strings under a renaming: what stands for the characters of a string is the string of what stands for those of its tokens.
use Rattle.std.proofs.Common.{◌≡◌, ℕ, ◌+◌, ◌&&◌, ◌||◌, Bool, true, false, if◌then◌else◌, List, [], ◌∷◌, ◌++◌, length, map, Option, Some, None, inl, inr, refl, sym, ap, subst, ◌∙◌, append_assoc, append-nil, arith}
use Rattle.std.specs.List.{flat_map, list_all}
use Rattle.std.proofs.lemmas.Bool.{cases_Bool, and_parts}
use Rattle.std.proofs.lemmas.Grind.{flat_map-append}
use Rattle.std.proofs.Math.Bool.{and-false}
use Rattle.cs_base.specs.declared.positions.Part.{Part}
use Rattle.cs_base.specs.declared.positions.Pos.{Pos}
use Rattle.cs_base.specs.declared.tokens.Kind.{Kind}
use Rattle.cs_base.specs.Token.{Token}
use Rattle.lexer.specs.Characters.{backslash, double_quote, is_word}
use Rattle.lexer.specs.Places.{pos, origins_from}
use Rattle.lexer.proofs.OriginLemmas.{length-origins}
use Rattle.macro_body.specs.Below.paste_origin.Strings.{space, is_quoted, needs_backslash, escaped, escaped_origins, origins_along, spelling_of, origins_of, later_spelling, later_origins, spellings_of, all_origins, string_text, string_origins}
use Rattle.unit_steps.specs.Below.macro_expand.Renaming.{Renaming, renamed}
use Rattle.part_respell.specs.Respelled.{member_over, put_at, put_for}
use Rattle.analysis.specs.Analysis.{AnalysisValue}
use Rattle.unit_steps.specs.Texts.{UnitTextValue}
use Rattle.renamed.specs.Renamed.{spell_from, move_to, origins_for, trace_from}
use Rattle.expansion_laws.proofs.ListLemmas.{AllToks, toks_more}
use Rattle.expansion_laws.proofs.StringLemmas.{IsEach, escaped_long, along_long, later_long, all_long}
use Rattle.rename_meaning.specs.Renamings.{renaming}
use Rattle.rename_meaning.proofs.OneTokenLemmas.{word_apart}
use Rattle.rename_meaning.proofs.PutLemmas.{put_words}
use Rattle.rename_meaning.proofs.SpellLemmas.{is_from, for_kept}

-- ---- what stands for the characters of one text and of one behind it

pub trace_append : (a : AnalysisValue) (members : List Part) (name : List ℕ) (os ps : List (Option Pos)) (xs ys : List ℕ) → length os ≡ length xs
    → trace_from a members name (os ++ ps) (xs ++ ys) ≡ trace_from a members name os xs ++ trace_from a members name ps ys
unfolding trace_from
trace_append a members name [] ps [] ys size = refl
trace_append a members name [] ps (c ∷ xs) ys size = absurd (omega (arith, size))
trace_append a members name (o ∷ os) ps [] ys size = absurd (omega (arith, size))
trace_append a members name (o ∷ os) ps (c ∷ xs) ys size =
    ap (λ (qs : List (Option Pos)). origins_for a members name o c ++ qs) (trace_append a members name os ps xs ys (omega (arith, size)))
    ∙ sym (append_assoc (origins_for a members name o c) (trace_from a members name os xs) (trace_from a members name ps ys))

pub spell_append : (members : List Part) (name : List ℕ) (os ps : List (Option Pos)) (xs ys : List ℕ) → length os ≡ length xs
    → spell_from members name (os ++ ps) (xs ++ ys) ≡ spell_from members name os xs ++ spell_from members name ps ys
unfolding spell_from
spell_append members name [] ps [] ys size = refl
spell_append members name [] ps (c ∷ xs) ys size = absurd (omega (arith, size))
spell_append members name (o ∷ os) ps [] ys size = absurd (omega (arith, size))
spell_append members name (o ∷ os) ps (c ∷ xs) ys size =
    ap (λ (w : List ℕ). put_for members name o c ++ w) (spell_append members name os ps xs ys (omega (arith, size)))
    ∙ sym (append_assoc (put_for members name o c) (spell_from members name os xs) (spell_from members name ps ys))

along_append : (kind : Kind) (xs ys : List ℕ) (os ps : List (Option Pos)) → length os ≡ length xs
    → origins_along kind (xs ++ ys) (os ++ ps) ≡ origins_along kind xs os ++ origins_along kind ys ps
unfolding origins_along
along_append kind [] ys [] ps size = refl
along_append kind [] ys (o ∷ os) ps size = absurd (omega (arith, size))
along_append kind (c ∷ xs) ys [] ps size = absurd (omega (arith, size))
along_append kind (c ∷ xs) ys (o ∷ os) ps size =
    ap (λ (qs : List (Option Pos)). escaped_origins kind c o ++ qs) (along_append kind xs ys os ps (omega (arith, size)))
    ∙ sym (append_assoc (escaped_origins kind c o) (origins_along kind xs os) (origins_along kind ys ps))

-- ---- characters that get no backslash

pub no_backslash : (kind : Kind) (c : ℕ) → is_word c ≡ true → needs_backslash kind c ≡ false
no_backslash kind c word = rw (word_apart c double_quote refl word, word_apart c backslash refl word) (and-false (is_quoted kind))

word_plain : (kind : Kind) (c : ℕ) → is_word c ≡ true → escaped kind c ≡ c ∷ []
word_plain kind c word = ap (λ (b : Bool). if b then backslash ∷ c ∷ [] else c ∷ []) (no_backslash kind c word)

word_origin : (kind : Kind) (c : ℕ) (o : Option Pos) → is_word c ≡ true → escaped_origins kind c o ≡ o ∷ []
word_origin kind c o word = ap (λ (b : Bool). if b then None ∷ o ∷ [] else o ∷ []) (no_backslash kind c word)

words_plain : (kind : Kind) (xs : List ℕ) → list_all is_word xs ≡ true → flat_map (escaped kind) xs ≡ xs
words_plain kind [] words = refl
words_plain kind (c ∷ xs) words =
    let both = and_parts (is_word c) (list_all is_word xs) words in
    rw (word_plain kind c both.0, words_plain kind xs both.1) refl

words_origins : (kind : Kind) (xs : List ℕ) (os : List (Option Pos)) → list_all is_word xs ≡ true → length os ≡ length xs → origins_along kind xs os ≡ os
unfolding origins_along
words_origins kind [] [] words size = refl
words_origins kind [] (o ∷ os) words size = absurd (omega (arith, size))
words_origins kind (c ∷ xs) [] words size = absurd (omega (arith, size))
words_origins kind (c ∷ xs) (o ∷ os) words size =
    let both = and_parts (is_word c) (list_all is_word xs) words in
    rw (word_origin kind c o both.0, words_origins kind xs os both.1 (omega (arith, size))) refl

-- ---- characters that come from members

-- a character that comes from a member is a letter, a digit or `_`
abbrev pub IsFine : List Part → Option Pos → ℕ → Type 0
IsFine members o c = is_from members o ≡ true → is_word c ≡ true

abbrev pub AllFine : List Part → List (Option Pos) → List ℕ → Type 0
AllFine members [] cs = Unit {0}
AllFine members (o ∷ os) [] = Unit {0}
AllFine members (o ∷ os) (c ∷ cs) = IsFine members o c × AllFine members os cs

module _ (a : AnalysisValue) (members : List Part) (name : List ℕ) (words : list_all is_word name ≡ true) where
  words_for : (o : Option Pos) (c : ℕ) → is_word c ≡ true → list_all is_word (put_for members name o c) ≡ true
  words_for None c word = ap (λ (b : Bool). b && true) word
  words_for (Some p) c word = put_words name p c (member_over members p) words word

  long_for : (o : Option Pos) (c : ℕ) → length (origins_for a members name o c) ≡ length (put_for members name o c)
  long_for None c = refl
  long_for (Some p) c = length-origins p.file (move_to a members name p).at (length (put_at members name p c))

  -- what stands for a character that stays has one origin, or none
  one_origin : (o : Option Pos) (c : ℕ) → put_for members name o c ≡ c ∷ [] → (q : Option Pos) × (origins_for a members name o c ≡ q ∷ [])
  one_origin None c kept = (None, refl)
  one_origin (Some p) c kept =
      (Some (pos p.file (move_to a members name p).at), ap (λ (w : List ℕ). origins_from p.file (move_to a members name p).at (length w)) kept)

  spell_if : (b : Bool) (o : Option Pos) (c : ℕ) → put_for members name o c ≡ c ∷ []
      → (if b then backslash ∷ c ∷ [] else c ∷ []) ++ [] ≡ spell_from members name (if b then None ∷ o ∷ [] else o ∷ []) (if b then backslash ∷ c ∷ [] else c ∷ [])
  unfolding spell_from
  spell_if true o c kept = ap (λ (w : List ℕ). backslash ∷ w) (sym (append-nil (put_for members name o c) ∙ kept))
  spell_if false o c kept = sym (append-nil (put_for members name o c) ∙ kept)

  trace_if : (b : Bool) (o q : Option Pos) (c : ℕ) → origins_for a members name o c ≡ q ∷ []
      → (if b then None ∷ q ∷ [] else q ∷ []) ++ [] ≡ trace_from a members name (if b then None ∷ o ∷ [] else o ∷ []) (if b then backslash ∷ c ∷ [] else c ∷ [])
  unfolding trace_from
  trace_if true o q c one = ap (λ (qs : List (Option Pos)). None ∷ qs) (sym (append-nil (origins_for a members name o c) ∙ one))
  trace_if false o q c one = sym (append-nil (origins_for a members name o c) ∙ one)

  spell_one : (o : Option Pos) (c : ℕ) → spell_from members name (o ∷ []) (c ∷ []) ≡ put_for members name o c
  unfolding spell_from
  spell_one o c = append-nil (put_for members name o c)

  trace_one : (o : Option Pos) (c : ℕ) → trace_from a members name (o ∷ []) (c ∷ []) ≡ origins_for a members name o c
  unfolding trace_from
  trace_one o c = append-nil (origins_for a members name o c)

  char_spelled : (kind : Kind) (o : Option Pos) (c : ℕ) → IsFine members o c
      → flat_map (escaped kind) (put_for members name o c) ≡ spell_from members name (escaped_origins kind c o) (escaped kind c)
  char_spelled kind o c fine = elim (cases_Bool (is_from members o)) [
    | inl from ↦
        let word = fine from in
        words_plain kind (put_for members name o c) (words_for o c word) ∙ sym (spell_one o c)
        ∙ ap (λ (os : List (Option Pos)). spell_from members name os (c ∷ [])) (sym (word_origin kind c o word))
        ∙ ap (λ (w : List ℕ). spell_from members name (escaped_origins kind c o) w) (sym (word_plain kind c word))
    | inr free ↦
        let kept = for_kept members name o c free in
        ap (λ (w : List ℕ). flat_map (escaped kind) w) kept ∙ spell_if (needs_backslash kind c) o c kept
  ]

  along_one : (kind : Kind) (c : ℕ) (q : Option Pos) → origins_along kind (c ∷ []) (q ∷ []) ≡ escaped_origins kind c q ++ []
  unfolding origins_along
  along_one kind c q = refl

  char_traced : (kind : Kind) (o : Option Pos) (c : ℕ) → IsFine members o c
      → origins_along kind (put_for members name o c) (origins_for a members name o c) ≡ trace_from a members name (escaped_origins kind c o) (escaped kind c)
  char_traced kind o c fine = elim (cases_Bool (is_from members o)) [
    | inl from ↦
        let word = fine from in
        words_origins kind (put_for members name o c) (origins_for a members name o c) (words_for o c word) (long_for o c) ∙ sym (trace_one o c)
        ∙ ap (λ (os : List (Option Pos)). trace_from a members name os (c ∷ [])) (sym (word_origin kind c o word))
        ∙ ap (λ (w : List ℕ). trace_from a members name (escaped_origins kind c o) w) (sym (word_plain kind c word))
    | inr free ↦
        let kept = for_kept members name o c free in
        let one = one_origin o c kept in
        ap (λ (w : List ℕ). origins_along kind w (origins_for a members name o c)) kept ∙ ap (λ (os : List (Option Pos)). origins_along kind (c ∷ []) os) one.1
        ∙ along_one kind c one.0 ∙ trace_if (needs_backslash kind c) o one.0 c one.1
  ]

  -- ---- tokens

  spelling_spelled : (kind : Kind) (os : List (Option Pos)) (cs : List ℕ) → length os ≡ length cs → AllFine members os cs
      → flat_map (escaped kind) (spell_from members name os cs) ≡ spell_from members name (origins_along kind cs os) (flat_map (escaped kind) cs)
  unfolding spell_from origins_along
  spelling_spelled kind [] [] size fine = refl
  spelling_spelled kind [] (c ∷ cs) size fine = absurd (omega (arith, size))
  spelling_spelled kind (o ∷ os) [] size fine = absurd (omega (arith, size))
  spelling_spelled kind (o ∷ os) (c ∷ cs) size fine =
      let rest = spelling_spelled kind os cs (omega (arith, size)) fine.1 in
      flat_map-append (escaped kind) (put_for members name o c) (spell_from members name os cs)
      ∙ ap (λ (w : List ℕ). w ++ flat_map (escaped kind) (spell_from members name os cs)) (char_spelled kind o c fine.0)
      ∙ ap (λ (w : List ℕ). spell_from members name (escaped_origins kind c o) (escaped kind c) ++ w) rest
      ∙ sym (spell_append members name (escaped_origins kind c o) (origins_along kind cs os) (escaped kind c) (flat_map (escaped kind) cs) (escaped_long kind c o))

  spelling_traced : (kind : Kind) (os : List (Option Pos)) (cs : List ℕ) → length os ≡ length cs → AllFine members os cs
      → origins_along kind (spell_from members name os cs) (trace_from a members name os cs) ≡ trace_from a members name (origins_along kind cs os) (flat_map (escaped kind) cs)
  unfolding spell_from trace_from origins_along
  spelling_traced kind [] [] size fine = refl
  spelling_traced kind [] (c ∷ cs) size fine = absurd (omega (arith, size))
  spelling_traced kind (o ∷ os) [] size fine = absurd (omega (arith, size))
  spelling_traced kind (o ∷ os) (c ∷ cs) size fine =
      let rest = spelling_traced kind os cs (omega (arith, size)) fine.1 in
      along_append kind (put_for members name o c) (spell_from members name os cs) (origins_for a members name o c) (trace_from a members name os cs) (long_for o c)
      ∙ ap (λ (qs : List (Option Pos)). qs ++ origins_along kind (spell_from members name os cs) (trace_from a members name os cs)) (char_traced kind o c fine.0)
      ∙ ap (λ (qs : List (Option Pos)). trace_from a members name (escaped_origins kind c o) (escaped kind c) ++ qs) rest
      ∙ sym (trace_append a members name (escaped_origins kind c o) (origins_along kind cs os) (escaped kind c) (flat_map (escaped kind) cs) (escaped_long kind c o))

  -- ---- strings

  -- a token has an origin for each character, or none, and those that come from members are fine
  pub record IsStringed (t : Token) : Type 0 where
    pub each : length t.origins ≡ length t.text
    pub fine : AllFine members t.origins t.text

  each_of : (ts : List Token) → AllToks IsStringed ts → AllToks IsEach ts
  each_of ts all = toks_more IsStringed IsEach ts all (λ t h. h.each)

  spell_gap : (gap : Bool) (os : List (Option Pos)) (cs x : List ℕ) → x ≡ spell_from members name os cs
      → (if gap then space ∷ [] else []) ++ x ≡ spell_from members name ((if gap then None ∷ [] else []) ++ os) ((if gap then space ∷ [] else []) ++ cs)
  unfolding spell_from
  spell_gap true os cs x e = ap (λ (w : List ℕ). space ∷ w) e
  spell_gap false os cs x e = e

  trace_gap : (gap : Bool) (os : List (Option Pos)) (cs : List ℕ) (qs : List (Option Pos)) → qs ≡ trace_from a members name os cs
      → (if gap then None ∷ [] else []) ++ qs ≡ trace_from a members name ((if gap then None ∷ [] else []) ++ os) ((if gap then space ∷ [] else []) ++ cs)
  unfolding trace_from
  trace_gap true os cs qs e = ap (λ (os : List (Option Pos)). None ∷ os) e
  trace_gap false os cs qs e = e

  module _ (text : UnitTextValue) where
    abbrev new : Token → Token
    new t = renamed (renaming a members name text) t

    later_spelled : (t : Token) → IsStringed t → later_spelling (new t) ≡ spell_from members name (later_origins t) (later_spelling t)
    later_spelled t h = spell_gap t.gap (origins_of t) (spelling_of t) (spelling_of (new t)) (spelling_spelled t.kind t.origins t.text h.each h.fine)

    later_traced : (t : Token) → IsStringed t → later_origins (new t) ≡ trace_from a members name (later_origins t) (later_spelling t)
    later_traced t h = trace_gap t.gap (origins_of t) (spelling_of t) (origins_of (new t)) (spelling_traced t.kind t.origins t.text h.each h.fine)

    laters_spelled : (ts : List Token) → AllToks IsStringed ts
        → flat_map later_spelling (map new ts) ≡ spell_from members name (flat_map later_origins ts) (flat_map later_spelling ts)
    unfolding spell_from
    laters_spelled [] all = refl
    laters_spelled (t ∷ ts) all =
        let one = all.0 in
        ap (λ (w : List ℕ). w ++ flat_map later_spelling (map new ts)) (later_spelled t one)
        ∙ ap (λ (w : List ℕ). spell_from members name (later_origins t) (later_spelling t) ++ w) (laters_spelled ts all.1)
        ∙ sym (spell_append members name (later_origins t) (flat_map later_origins ts) (later_spelling t) (flat_map later_spelling ts) (later_long t one.each))

    laters_traced : (ts : List Token) → AllToks IsStringed ts
        → flat_map later_origins (map new ts) ≡ trace_from a members name (flat_map later_origins ts) (flat_map later_spelling ts)
    unfolding trace_from
    laters_traced [] all = refl
    laters_traced (t ∷ ts) all =
        let one = all.0 in
        ap (λ (qs : List (Option Pos)). qs ++ flat_map later_origins (map new ts)) (later_traced t one)
        ∙ ap (λ (qs : List (Option Pos)). trace_from a members name (later_origins t) (later_spelling t) ++ qs) (laters_traced ts all.1)
        ∙ sym (trace_append a members name (later_origins t) (flat_map later_origins ts) (later_spelling t) (flat_map later_spelling ts) (later_long t one.each))

    all_spelled : (ts : List Token) → AllToks IsStringed ts → spellings_of (map new ts) ≡ spell_from members name (all_origins ts) (spellings_of ts)
    unfolding spell_from
    all_spelled [] all = refl
    all_spelled (t ∷ ts) all =
        let one = all.0 in
        ap (λ (w : List ℕ). w ++ flat_map later_spelling (map new ts)) (spelling_spelled t.kind t.origins t.text one.each one.fine)
        ∙ ap (λ (w : List ℕ). spell_from members name (origins_of t) (spelling_of t) ++ w) (laters_spelled ts all.1)
        ∙ sym (spell_append members name (origins_of t) (flat_map later_origins ts) (spelling_of t) (flat_map later_spelling ts) (along_long t.kind t.text t.origins one.each))

    all_traced : (ts : List Token) → AllToks IsStringed ts → all_origins (map new ts) ≡ trace_from a members name (all_origins ts) (spellings_of ts)
    unfolding trace_from
    all_traced [] all = refl
    all_traced (t ∷ ts) all =
        let one = all.0 in
        ap (λ (qs : List (Option Pos)). qs ++ flat_map later_origins (map new ts)) (spelling_traced t.kind t.origins t.text one.each one.fine)
        ∙ ap (λ (qs : List (Option Pos)). trace_from a members name (origins_of t) (spelling_of t) ++ qs) (laters_traced ts all.1)
        ∙ sym (trace_append a members name (origins_of t) (flat_map later_origins ts) (spelling_of t) (flat_map later_spelling ts) (along_long t.kind t.text t.origins one.each))

    -- the text of the string of the renamed tokens
    pub string_spelled : (ts : List Token) → AllToks IsStringed ts → string_text (map new ts) ≡ spell_from members name (string_origins ts) (string_text ts)
    unfolding spell_from
    string_spelled ts all =
        ap (λ (w : List ℕ). double_quote ∷ w ++ double_quote ∷ []) (all_spelled ts all)
        ∙ ap (λ (w : List ℕ). double_quote ∷ w)
        (sym (spell_append members name (all_origins ts) (None ∷ []) (spellings_of ts) (double_quote ∷ []) (all_long ts (each_of ts all))))

    -- and its origins
    pub string_traced : (ts : List Token) → AllToks IsStringed ts → string_origins (map new ts) ≡ trace_from a members name (string_origins ts) (string_text ts)
    unfolding trace_from
    string_traced ts all =
        ap (λ (qs : List (Option Pos)). None ∷ qs ++ None ∷ []) (all_traced ts all)
        ∙ ap (λ (qs : List (Option Pos)). None ∷ qs)
        (sym (trace_append a members name (all_origins ts) (None ∷ []) (spellings_of ts) (double_quote ∷ []) (all_long ts (each_of ts all))))
