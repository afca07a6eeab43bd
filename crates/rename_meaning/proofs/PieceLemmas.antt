-- Members stand whole in the tokens of units, in strings too: each of their characters is a letter, a digit or `_`, and is the first of its
-- member or stands behind one that comes from a member.
use Rattle.std.proofs.Common.{◌≡◌, ◌≢◌, ℕ, ◌+◌, ◌==◌, ◌&&◌, Bool, true, false, not, if◌then◌else◌, List, ◌∷◌, ◌++◌, length, Option, Some, None, is_some, inl, inr, refl, sym, ap, subst, ◌∙◌, arith, []}
use Rattle.std.specs.Prelude.{◌⊎◌}
use Rattle.std.specs.List.{flat_map, list_all, list_any}
use Rattle.std.specs.Option.{option_map_or}
use Rattle.std.proofs.lemmas.Bool.{cases_Bool, and_parts, and_from, or_parts, both_ways, eq-eqb, eqb-true, false_from_ne_true}
use Rattle.std.proofs.lemmas.Option.{same_Some}
use Rattle.cs_base.specs.declared.positions.Part.{Part}
use Rattle.cs_base.specs.declared.positions.Pos.{Pos}
use Rattle.cs_base.specs.declared.tokens.Kind.{Kind}
use Rattle.cs_base.specs.Token.{Token}
use Rattle.cs_base.proofs.ListLemmas.{none_at as not_found}
use Rattle.lexer.specs.Characters.{line_feed, backslash, double_quote, is_word}
use Rattle.lexer.specs.Spelling.{is_end, closes, is_identifier_text}
use Rattle.macro_body.specs.Below.paste_origin.Strings.{space, needs_backslash, escaped, origins_along, spelling_of, origins_of, later_spelling, later_origins, spellings_of, all_origins, string_text, string_origins}
use Rattle.analysis.specs.Below.eclass_map.Positions.{along, holds}
use Rattle.analysis.proofs.Below.eclass_map.TokenFacts.{holding, holds_from}
use Rattle.part_respell.specs.Respelled.{member_over, put_in, put_for}
use Rattle.analysis.specs.Analysis.{AnalysisValue}
use Rattle.analysis.specs.Parts.{AreMembers, Begins}
use Rattle.renamed.specs.Renamed.{spell_from}
use Rattle.expansion_laws.proofs.ListLemmas.{AllToks, toks_more}
use Rattle.expansion_laws.proofs.StringLemmas.{IsEach, along_long, later_long, all_long}
use Rattle.edited_unit_laws.proofs.ListLemmas.{found}
use Rattle.rename_meaning.proofs.MemberLemmas.{over_begins}
use Rattle.rename_meaning.proofs.OneTokenLemmas.{word_apart}
use Rattle.rename_meaning.proofs.SpellLemmas.{is_from, for_kept}
use Rattle.lexer.proofs.FitLemmas.{identifier-words}
use Rattle.rename_meaning.proofs.StringLemmas.{AllFine, no_backslash}
use Rattle.edited_unit_laws.proofs.TracedLemmas.{AreChained, GoOn}

-- ---- characters

pub record IsPiece (members : List Part) (before origin : Option Pos) (c : ℕ) : Type 0 where
  pub word : is_from members origin ≡ true → is_word c ≡ true
  pub first : (p : Pos) (m : Part) → origin ≡ Some p → member_over members p ≡ Some m → (m.start.at ≡ p.at) ⊎ (is_from members before ≡ true)

-- each of these characters, the first of which stands behind this one
abbrev pub AreWhole : List Part → Option Pos → List (Option Pos) → List ℕ → Type 0
AreWhole members before [] cs = Unit {0}
AreWhole members before (o ∷ os) [] = Unit {0}
AreWhole members before (o ∷ os) (c ∷ cs) = IsPiece members before o c × AreWhole members o os cs

none_over : (members : List Part) (p : Pos) (m : Part) → is_from members (Some p) ≡ false → member_over members p ≡ Some m → ⊥
none_over members p m free over = both_ways (is_from members (Some p)) free (ap (λ (o : Option Part). is_some o) over)

free_piece : (members : List Part) (before o : Option Pos) (c : ℕ) → is_from members o ≡ false → IsPiece members before o c
free_piece members before o c free = record {
  word = λ from. absurd (both_ways (is_from members o) free from);
  first = λ p m is over. absurd (none_over members p m (ap (is_from members) (sym is) ∙ free) over);
}

pub whole_free : (members : List Part) (before : Option Pos) (os : List (Option Pos)) (cs : List ℕ) → list_any (is_from members) os ≡ false → AreWhole members before os cs
whole_free members before [] cs free = tt
whole_free members before (o ∷ os) [] free = tt
whole_free members before (o ∷ os) (c ∷ cs) free =
    let both = or_parts (is_from members o) (list_any (is_from members) os) free in
    (free_piece members before o c both.0, whole_free members o os cs both.1)

-- what stands so behind none stands so behind any character
behind_any : (members : List Part) (before o : Option Pos) (c : ℕ) → IsPiece members None o c → IsPiece members before o c
behind_any members before o c h = record {
  word = h.word;
  first = λ p m is over. elim (h.first p m is over) [ inl start ↦ inl start | inr from ↦ absurd (cc) ];
}

pub whole_behind : (members : List Part) (before : Option Pos) (os : List (Option Pos)) (cs : List ℕ) → AreWhole members None os cs → AreWhole members before os cs
whole_behind members before [] cs h = tt
whole_behind members before (o ∷ os) [] h = tt
whole_behind members before (o ∷ os) (c ∷ cs) h = (behind_any members before o c h.0, h.1)

pub whole_both : (members : List Part) (before : Option Pos) (os ps : List (Option Pos)) (xs ys : List ℕ) → length os ≡ length xs
    → AreWhole members before os xs → AreWhole members None ps ys → AreWhole members before (os ++ ps) (xs ++ ys)
whole_both members before [] ps [] ys size h k = whole_behind members before ps ys k
whole_both members before [] ps (c ∷ xs) ys size h k = absurd (omega (arith, size))
whole_both members before (o ∷ os) ps [] ys size h k = absurd (omega (arith, size))
whole_both members before (o ∷ os) ps (c ∷ xs) ys size h k = (h.0, whole_both members o os ps xs ys (omega (arith, size)) h.1 k)

-- those that come from members are letters, digits or `_`
pub fine_whole : (members : List Part) (before : Option Pos) (os : List (Option Pos)) (cs : List ℕ) → AreWhole members before os cs → AllFine members os cs
fine_whole members before [] cs h = tt
fine_whole members before (o ∷ os) [] h = tt
fine_whole members before (o ∷ os) (c ∷ cs) h = (let one = h.0 in one.word, fine_whole members o os cs h.1)

-- ---- identifiers

module _ (a : AnalysisValue) (members : List Part) (part : Part) (listed : AreMembers a part members) where
  pub begins_there : (p : Pos) → Begins a p → (m : Part) → member_over members p ≡ Some m → m.start.at ≡ p.at
  begins_there p b m over = over_begins a members part listed b.0 m b.1 (ap (member_over members) b.2 ∙ over) ∙ ap (λ (q : Pos). q.at) b.2

  -- the character before one that is not the first of its member comes from a member
  from_before : (p q : Pos) (m : Part) → q ≡ along p 1 → member_over members q ≡ Some m → (m.start.at ≡ q.at) ⊎ (is_from members (Some p) ≡ true)
  from_before p q m next over = elim (cases_Bool (m.start.at == q.at)) [
    | inl start ↦ inl (eqb-true m.start.at q.at start)
    | inr later ↦ inr (by later (member_over members p) refl)
  ]
    where
      by : (m.start.at == q.at) ≡ false → (o : Option Part) → member_over members p ≡ o → is_some o ≡ true
      by later (Some n) e = refl
      by later None e =
          let held = found (λ (n : Part). holds n q) members m over in
          let i = held.0 in
          let h = holding m q held.1 in
          let file : q.file ≡ p.file = ap (λ (x : Pos). x.file) next in
          let at : q.at ≡ p.at + 1 = ap (λ (x : Pos). x.at) next in
          let from = h.from in
          let less = h.less in
          let apart : m.start.at ≢ q.at = λ same. both_ways (m.start.at == q.at) later (eq-eqb m.start.at q.at same) in
          let there : holds m p ≡ true = holds_from m p (record { file = h.file ∙ file; from = omega (arith, at, from, apart); less = omega (arith, at, from, less, apart) }) in
          absurd (not_found (λ (n : Part). holds n p) members m i.0 e i.1 there)

  whole_on : (p : Pos) (os : List (Option Pos)) (cs : List ℕ) → GoOn a p os → list_all is_word cs ≡ true → AreWhole members (Some p) os cs
  whole_on p [] cs on words = tt
  whole_on p (None ∷ os) cs on words = absurd on
  whole_on p (Some q ∷ os) [] on words = tt
  whole_on p (Some q ∷ os) (c ∷ cs) on words =
      let both = and_parts (is_word c) (list_all is_word cs) words in (
        record {
          word = λ from. both.0;
          first = λ r m is over.
              let same : q ≡ r = same_Some q r is in
              let there : member_over members q ≡ Some m = ap (member_over members) same ∙ over in
              let P : Pos → Type 0 = λ x. (m.start.at ≡ x.at) ⊎ (is_from members (Some p) ≡ true) in
              subst P same (elim on.0 [
                | inl next ↦ from_before p q m next there
                | inr begins ↦ inl (begins_there q begins m there)
              ]);
        },
        whole_on q os cs on.1 both.1,
      )

  -- a member stands whole in an identifier
  pub whole_words : (os : List (Option Pos)) (cs : List ℕ) → AreChained a os → list_all is_word cs ≡ true → AreWhole members None os cs
  whole_words [] cs chained words = tt
  whole_words (None ∷ os) cs chained words = absurd chained
  whole_words (Some q ∷ os) [] chained words = tt
  whole_words (Some q ∷ os) (c ∷ cs) chained words =
      let both = and_parts (is_word c) (list_all is_word cs) words in (
        record {
          word = λ from. both.0;
          first = λ r m is over.
              let same : q ≡ r = same_Some q r is in
              inl (subst (λ (x : Pos). m.start.at ≡ x.at) same (begins_there q chained.0 m (ap (member_over members) same ∙ over)));
        },
        whole_on q os cs chained.1 both.1,
      )

-- ---- strings

-- a token has an origin for each character, or none, and members stand whole in it
pub record IsBuilt (members : List Part) (t : Token) : Type 0 where
  pub each : length t.origins ≡ length t.text
  pub whole : AreWhole members None t.origins t.text

module _ (members : List Part) where
  needs_other : (kind : Kind) (o : Option Pos) (c : ℕ) → needs_backslash kind c ≡ true → (is_from members o ≡ true → is_word c ≡ true) → is_from members o ≡ false
  needs_other kind o c needs word =
      false_from_ne_true (is_from members o) (λ from. both_ways (needs_backslash kind c) (no_backslash kind c (word from)) needs)

  escaped_if : (kind : Kind) (before o : Option Pos) (c : ℕ) (os : List (Option Pos)) (cs : List ℕ) → IsPiece members before o c → AreWhole members o os cs
      → (b : Bool) → needs_backslash kind c ≡ b
      → AreWhole members before ((if b then None ∷ o ∷ [] else o ∷ []) ++ os) ((if b then backslash ∷ c ∷ [] else c ∷ []) ++ cs)
  escaped_if kind before o c os cs piece rest true needs =
      (free_piece members before None backslash refl, (free_piece members None o c (needs_other kind o c needs piece.word), rest))
  escaped_if kind before o c os cs piece rest false plain = (piece, rest)

  whole_escaped : (kind : Kind) (before : Option Pos) (os : List (Option Pos)) (cs : List ℕ) → length os ≡ length cs → AreWhole members before os cs
      → AreWhole members before (origins_along kind cs os) (flat_map (escaped kind) cs)
  unfolding origins_along
  whole_escaped kind before [] [] size h = tt
  whole_escaped kind before [] (c ∷ cs) size h = absurd (omega (arith, size))
  whole_escaped kind before (o ∷ os) [] size h = absurd (omega (arith, size))
  whole_escaped kind before (o ∷ os) (c ∷ cs) size h =
      escaped_if kind before o c (origins_along kind cs os) (flat_map (escaped kind) cs) h.0 (whole_escaped kind o os cs (omega (arith, size)) h.1) (needs_backslash kind c) refl

  one_whole : (t : Token) → IsBuilt members t → AreWhole members None (origins_of t) (spelling_of t)
  one_whole t h = whole_escaped t.kind None t.origins t.text h.each h.whole

  gap_whole : (gap : Bool) (os : List (Option Pos)) (cs : List ℕ) → AreWhole members None os cs
      → AreWhole members None ((if gap then None ∷ [] else []) ++ os) ((if gap then space ∷ [] else []) ++ cs)
  gap_whole true os cs h = (free_piece members None None space refl, h)
  gap_whole false os cs h = h

  pub each_built : (ts : List Token) → AllToks (IsBuilt members) ts → AllToks IsEach ts
  each_built ts all = toks_more (IsBuilt members) IsEach ts all (λ t h. h.each)

  laters_whole : (ts : List Token) → AllToks (IsBuilt members) ts → AreWhole members None (flat_map later_origins ts) (flat_map later_spelling ts)
  laters_whole [] all = tt
  laters_whole (t ∷ ts) all =
      let one = all.0 in
      whole_both members None (later_origins t) (flat_map later_origins ts) (later_spelling t) (flat_map later_spelling ts) (later_long t one.each)
      (gap_whole t.gap (origins_of t) (spelling_of t) (one_whole t one)) (laters_whole ts all.1)

  all_whole : (ts : List Token) → AllToks (IsBuilt members) ts → AreWhole members None (all_origins ts) (spellings_of ts)
  all_whole [] all = tt
  all_whole (t ∷ ts) all =
      let one = all.0 in
      whole_both members None (origins_of t) (flat_map later_origins ts) (spelling_of t) (flat_map later_spelling ts) (along_long t.kind t.text t.origins one.each)
      (one_whole t one) (laters_whole ts all.1)

  -- the characters behind the first quote of a string
  pub behind_whole : (ts : List Token) → AllToks (IsBuilt members) ts → AreWhole members None (all_origins ts ++ None ∷ []) (spellings_of ts ++ double_quote ∷ [])
  behind_whole ts all =
      whole_both members None (all_origins ts) (None ∷ []) (spellings_of ts) (double_quote ∷ []) (all_long ts (each_built ts all))
      (all_whole ts all) (free_piece members None None double_quote refl, tt)

  pub string_whole : (ts : List Token) → AllToks (IsBuilt members) ts → AreWhole members None (string_origins ts) (string_text ts)
  string_whole ts all = (free_piece members None None double_quote refl, behind_whole ts all)

-- ---- one string before is one behind

-- characters of identifiers close nothing
closes_words : (xs rest : List ℕ) → list_all is_word xs ≡ true → closes double_quote false (xs ++ rest) ≡ closes double_quote false rest
closes_words [] rest words = refl
closes_words (c ∷ xs) rest words =
    let both = and_parts (is_word c) (list_all is_word xs) words in
    rw (word_apart c double_quote refl both.0, word_apart c line_feed refl both.0, word_apart c backslash refl both.0) (closes_words xs rest both.1)

-- behind a backslash the first of them is consumed
closes_name : (escape : Bool) (c : ℕ) (xs rest : List ℕ) → list_all is_word (c ∷ xs) ≡ true
    → closes double_quote escape ((c ∷ xs) ++ rest) ≡ closes double_quote false rest
closes_name false c xs rest words = closes_words (c ∷ xs) rest words
closes_name true c xs rest words =
    let both = and_parts (is_word c) (list_all is_word xs) words in
    rw (word_apart c line_feed refl both.0) (closes_words xs rest both.1)

module _ (members : List Part) (name : List ℕ) (is : is_identifier_text name ≡ true) where
  closes_named : (w rest : List ℕ) (escape : Bool) → is_identifier_text w ≡ true → closes double_quote false rest ≡ true → closes double_quote escape (w ++ rest) ≡ true
  closes_named [] rest escape named h = absurd (cc)
  closes_named (c ∷ xs) rest escape named h = closes_name escape c xs rest (identifier-words (c ∷ xs) named) ∙ h

  -- what stands for a character of a member
  closes_put : (p : Pos) (m : Part) (b : Bool) (rest : List ℕ) (escape : Bool) → (b ≡ false → escape ≡ false) → closes double_quote false rest ≡ true
      → closes double_quote escape ((if b then name else []) ++ rest) ≡ true
  closes_put p m true rest escape later h = closes_named name rest escape is h
  closes_put p m false rest escape later h = ap (λ (e : Bool). closes double_quote e rest) (later refl) ∙ h

  end_on : (os : List (Option Pos)) (cs : List ℕ) → length os ≡ length cs → is_end cs ≡ true → is_end (spell_from members name os cs) ≡ true
  unfolding spell_from
  end_on [] [] size h = refl
  end_on (o ∷ os) [] size h = absurd (omega (arith, size))
  end_on os (c ∷ cs) size h = absurd (cc)

  -- a character that stays
  closes_kept : (escape : Bool) (c : ℕ) (os : List (Option Pos)) (cs : List ℕ) → length os ≡ length cs
      → ((next : Bool) → closes double_quote next cs ≡ true → closes double_quote next (spell_from members name os cs) ≡ true)
      → closes double_quote escape (c ∷ cs) ≡ true → closes double_quote escape (c ∷ spell_from members name os cs) ≡ true
  closes_kept true c os cs size on h =
      let both = and_parts (not (c == line_feed)) (closes double_quote false cs) h in
      and_from (not (c == line_feed)) (closes double_quote false (spell_from members name os cs)) both.0 (on false both.1)
  closes_kept false c os cs size on h = by (c == double_quote) h
    where
      by : (b : Bool) → (if b then is_end cs else (not (c == line_feed) && closes double_quote (c == backslash) cs)) ≡ true
          → (if b then is_end (spell_from members name os cs) else (not (c == line_feed) && closes double_quote (c == backslash) (spell_from members name os cs))) ≡ true
      by true k = end_on os cs size k
      by false k =
          let both = and_parts (not (c == line_feed)) (closes double_quote (c == backslash) cs) k in
          and_from (not (c == line_feed)) (closes double_quote (c == backslash) (spell_from members name os cs)) both.0 (on (c == backslash) both.1)

  from_member : (o : Option Pos) → is_from members o ≡ true → (p : Pos) × (m : Part) × (o ≡ Some p) × (member_over members p ≡ Some m)
  from_member None h = absurd (cc)
  from_member (Some p) h = by (member_over members p) refl h
    where
      by : (r : Option Part) → member_over members p ≡ r → is_some r ≡ true → (q : Pos) × (m : Part) × (Some p ≡ Some q) × (member_over members q ≡ Some m)
      by None e k = absurd (cc)
      by (Some m) e k = (p, m, refl, e)

  pub closes_on : (before : Option Pos) (escape : Bool) (os : List (Option Pos)) (cs : List ℕ) → length os ≡ length cs → AreWhole members before os cs
      → (escape ≡ true → is_from members before ≡ false) → closes double_quote escape cs ≡ true → closes double_quote escape (spell_from members name os cs) ≡ true
  unfolding spell_from
  closes_on before escape [] [] size whole free h = h
  closes_on before escape [] (c ∷ cs) size whole free h = absurd (omega (arith, size))
  closes_on before escape (o ∷ os) [] size whole free h = absurd (omega (arith, size))
  closes_on before escape (o ∷ os) (c ∷ cs) size whole free h = elim (cases_Bool (is_from members o)) [
    | inr other ↦
        let kept : put_for members name o c ++ spell_from members name os cs ≡ c ∷ spell_from members name os cs =
        ap (λ (w : List ℕ). w ++ spell_from members name os cs) (for_kept members name o c other) in
        ap (λ (w : List ℕ). closes double_quote escape w) kept
        ∙ closes_kept escape c os cs (omega (arith, size)) (λ next k. closes_on o next os cs (omega (arith, size)) whole.1 (λ e. other) k) h
    | inl from ↦
        let piece = whole.0 in
        let there = from_member o from in
        let p = there.0 in
        let m = there.1 in
        let word = piece.word from in
        let rest : closes double_quote false cs ≡ true = sym (closes_name escape c [] cs (ap (λ (b : Bool). b && true) word)) ∙ h in
        let on : closes double_quote false (spell_from members name os cs) ≡ true =
        closes_on o false os cs (omega (arith, size)) whole.1 (λ e. absurd (cc)) rest in
        let put : put_for members name o c ≡ (if m.start.at == p.at then name else []) =
        ap (λ (x : Option Pos). put_for members name x c) there.2 ∙ ap (λ (r : Option Part). option_map_or (put_in name p) r (c ∷ [])) there.3 in
        ap (λ (w : List ℕ). closes double_quote escape (w ++ spell_from members name os cs)) put
        ∙ closes_put p m (m.start.at == p.at) (spell_from members name os cs) escape
        (λ later. no_escape p m escape before (piece.first p m there.2 there.3) later free) on
  ]
    where
      no_escape : (p : Pos) (m : Part) (e : Bool) (b : Option Pos) → (m.start.at ≡ p.at) ⊎ (is_from members b ≡ true) → (m.start.at == p.at) ≡ false
          → (e ≡ true → is_from members b ≡ false) → e ≡ false
      no_escape p m false b either later none = refl
      no_escape p m true b (inl start) later none = absurd (both_ways (m.start.at == p.at) later (eq-eqb m.start.at p.at start))
      no_escape p m true b (inr behind) later none = absurd (both_ways (is_from members b) (none refl) behind)
