-- Parts and file tokens move alike by the edited files and in the table of classes.
use Rattle.std.proofs.Common.{◌≡◌, ℕ, zero, suc, ◌+◌, ◌-◌, ◌*◌, ◌<◌, ◌≤◌, true, false, List, [], ◌∷◌, length, Option, None, Some, ◌⊎◌, inl, inr, refl, sym, ap, subst, ◌∙◌, arith}
use Rattle.std.specs.Prelude.{slice_get, nat_eq, nat_lt}
use Rattle.std.specs.List.{AllByRecursion, flat_map}
use Rattle.std.specs.List.Sorted.{IsStrictlySortedBy}
use Rattle.std.specs.Option.{option_map_or, option_and_then}
use Rattle.std.specs.Ordering.{ordering_reverse}
use Rattle.std.specs.declared.cmp.Ordering.TheVariants.{Less}
use Rattle.std.proofs.lemmas.Bool.{cases_Bool, cases_lt, cases_eq, eqb-true, false_from_ne_true, and_parts}
use Rattle.std.proofs.lemmas.List.{length-map}
use Rattle.std.proofs.lemmas.Option.{none-some, same_Some}
use Rattle.cs_base.specs.declared.positions.Part.{Part}
use Rattle.cs_base.specs.declared.positions.Pos.{Pos}
use Rattle.cs_base.specs.Token.{Token, has_origins}
use Rattle.cs_base.proofs.PlaceLemmas.{pos_is}
use Rattle.analysis.specs.Below.eclass_map.Chain.{here}
use Rattle.analysis.specs.Below.eclass_map.ClassTable.{part_with, members_of}
use Rattle.analysis.specs.Below.eclass_map.Positions.{along, end_of, holds}
use Rattle.analysis.specs.Below.eclass_map.Resized.{begins_before, members_before, moved_to}
use Rattle.analysis.proofs.Below.eclass_map.TokenFacts.{holding}
use Rattle.lexer.specs.Logical.{logical_of, spelling}
use Rattle.lexer.specs.Tokens.{tokens_of}
use Rattle.source_files.specs.KeptFiles.{KeptValue, kept_in, kept_at}
use Rattle.analysis.specs.Analysed.{Analysed}
use Rattle.analysis.specs.Analysis.{UnitAnalysis}
use Rattle.analysis.specs.FileTokens.{table_tokens, numbers_brought, file_tokens, span_of, IsFileToken}
use Rattle.analysis.specs.Parts.{IsCharacter, IsStart, IsPart, part_cmp}
use Rattle.renamed.specs.Renamed.{moved_in, move_to}
use Rattle.analysis.proofs.ClassLemmas.{member_walked, walked_member}
use Rattle.analysis.proofs.ListingLemmas.{part_cmp-total}
use Rattle.analysis.proofs.NamingLemmas.{split_at, filter_in}
use Rattle.analysis.proofs.PartLemmas.{part_once}
use Rattle.analysis.proofs.PlaceNameLemmas.{kept_number}
use Rattle.analysis.proofs.TokenPlaceLemmas.{token_placed, tokens_in_line}
use Rattle.rename_meaning.specs.Allowed.{IsAllowed}
use Rattle.rename_meaning.proofs.CharacterLemmas.{number_file, unit_of, character_file}
use Rattle.edited_unit_laws.proofs.ListLemmas.{In, all_of}
use Rattle.edited_unit_laws.proofs.TableTokenLemmas.{in_table, file_token, span_among, span_is}
use Rattle.rename_meaning.proofs.NoneLemmas.{none_stand, no_line}
use Rattle.edited_unit_laws.proofs.AnalysedUnitLemmas.{no_lines}
use Rattle.rename_meaning.specs.OneMove.{PartsMoveAlike, TokensMoveAlike}
use Rattle.rename_meaning.proofs.MoveLemmas.{one_if, held_by, before_count, AreWhole, same_before, length_of, moves_alike}
use Rattle.rename_meaning.proofs.SameElementLemmas.{Once, once_from, mapped_at}

-- ---- members over one character

none_held : (ms : List Part) (p : Pos) → ((m : Part) → In m ms → holds m p ≡ false) → held_by ms p ≡ 0
none_held [] p h = refl
none_held (m ∷ ms) p h =
    let first : one_if (holds m p) ≡ 0 = ap one_if (h m (0, refl)) in
    let rest = none_held ms p (λ n i. h n (suc i.0, i.1)) in
    omega (arith, first, rest)

one_held : (ms : List Part) (p : Pos) → Once ms → ((m n : Part) → In m ms → In n ms → holds m p ≡ true → holds n p ≡ true → m ≡ n) → held_by ms p ≤ 1
one_held [] p once same = omega arith
one_held (m ∷ ms) p once same = elim (cases_Bool (holds m p)) [
  | inl held ↦
      let first : one_if (holds m p) ≡ 1 = ap one_if held in
      let none = none_held ms p (λ n i. false_from_ne_true (holds n p) (λ also.
      once.0 (subst (λ (x : Part). In x ms) (sym (same m n (0, refl) (suc i.0, i.1) held also)) i))) in
      omega (arith, first, none)
  | inr free ↦
      let first : one_if (holds m p) ≡ 0 = ap one_if free in
      let rest = one_held ms p once.1 (λ n k i j. same n k (suc i.0, i.1) (suc j.0, j.1)) in
      omega (arith, first, rest)
]

none_before : (ms : List Part) (p : Pos) → ((m : Part) → In m ms → m.start.file ≡ p.file → ⊥) → before_count ms p ≡ 0
none_before [] p h = refl
none_before (m ∷ ms) p h =
    let other : begins_before p m ≡ false =
    false_from_ne_true (begins_before p m) (λ e. h m (0, refl) (eqb-true m.start.file p.file (and_parts (nat_eq m.start.file p.file) (nat_lt m.start.at p.at) e).0)) in
    let first : one_if (begins_before p m) ≡ 0 = ap one_if other in
    let rest = none_before ms p (λ n i. h n (suc i.0, i.1)) in
    omega (arith, first, rest)

stays : (n m len k : ℕ) → k ≡ 0 → n ≡ n + k * m - k * len
stays n m len k e = unmoved ∙ ap (λ (j : ℕ). n + j * m - j * len) (sym e)
  where
    unmoved : n ≡ n + 0 * m - 0 * len
    unmoved = omega arith

-- ---- lists in strict order

each_less : {X : Type 0} (P : X → Type 0) (xs : List X) (k : ℕ) (y : X) → AllByRecursion P xs → slice_get xs k ≡ Some y → P y
each_less P [] k y all at = absurd (none-some y at)
each_less P (z ∷ xs) zero y all at = subst P (same_Some z y at) all.0
each_less P (z ∷ xs) (suc k) y all at = each_less P xs k y all.1 at

module _ (a : Analysed) where
  not_less : (m : Part) → part_cmp a.value m m ≡ Less → ⊥
  not_less m less =
      let total = part_cmp-total a.value in
      let e : Less ≡ ordering_reverse Less = sym less ∙ (total.antisymm m m ∙ ap ordering_reverse less) in cc

  once_sorted : (ms : List Part) → IsStrictlySortedBy (part_cmp a.value) ms → Once ms
  unfolding IsStrictlySortedBy
  once_sorted [] sorted = tt
  once_sorted (m ∷ ms) sorted = (λ i. not_less m (each_less (λ n. part_cmp a.value m n ≡ Less) ms i.0 m sorted.0 i.1), once_sorted ms sorted.1)

module _ (a : Analysed) (members : List Part) (name : List ℕ) (h : IsAllowed a members name) where
  member_part : (m : Part) → In m members → IsPart a.value m
  member_part m i = let of = h.class.listed in (of.each i.0 m i.1).is_part

  walk : List Part
  walk = members_of a.classes h.number

  in_walk : (m : Part) → In m members → In m (members_of a.classes h.number)
  in_walk m i =
      let class = h.class in
      let of = class.listed in
      member_walked a.value a.classes h.own class.part m h.number class.numbered (of.each i.0 m i.1)

  walk_in : (m : Part) → In m (members_of a.classes h.number) → In m members
  walk_in m i =
      let class = h.class in
      let of = class.listed in
      of.all m (walked_member a.value a.classes h.own class.part m h.number i.0 class.numbered i.1)

  once : Once members
  once = let of = h.class.listed in once_sorted a members of.sorted

  before_same : (p : Pos) → before_count members p ≡ members_before h.number a.classes p
  before_same p =
      let own = h.own.parts in
      same_before members (members_of a.classes h.number) p once
      (once_from (members_of a.classes h.number) (λ m j k e f. own.once m h.number j k e f)) in_walk walk_in

  one : (p : Pos) → held_by members p ≤ 1
  one p = one_held members p once (λ m n i j held also. part_once a.value m n p (member_part m i) (member_part n j) held also)

  long : (m : Part) → In m members → m.len ≡ length_of a.classes h.number
  long m i =
      let w = in_walk m i in
      let from = mapped_at (part_with a.classes h.number) _ w.0 m w.1 in
      ap (λ (x : Part). x.len) from.1

  -- no member is cut at the character
  abbrev Uncut : Pos → Type 0
  Uncut p = (m : Part) → In m members → (o : ℕ) → 0 < o → o < m.len → along m.start o ≡ p → ⊥

  start_uncut : (p : Pos) → IsStart a.value p → Uncut p
  start_uncut p start m i o some less there =
      ((member_part m i).goes_on o some less).1 (subst (λ (q : Pos). IsStart a.value q) (sym there) start)

  whole : (p : Pos) → Uncut p → AreWhole p.file p.at (length_of a.classes h.number) members
  whole p uncut =
      all_of (λ (m : Part). (m.len ≡ length_of a.classes h.number) × (0 < m.len) × (m.start.file ≡ p.file → (p.at ≤ m.start.at) ⊎ (m.start.at + m.len ≤ p.at))) members
      (λ m i. (long m i, (member_part m i).some, λ file. side m i file))
    where
      side : (m : Part) → In m members → m.start.file ≡ p.file → (p.at ≤ m.start.at) ⊎ (m.start.at + m.len ≤ p.at)
      side m i file = elim (cases_lt m.start.at p.at) [
        | inr behind ↦ inl behind
        | inl begun ↦ elim (cases_lt p.at (m.start.at + m.len)) [
          | inr past ↦ inr past
          | inl inside ↦
              absurd (uncut m i (p.at - m.start.at) (omega (arith, begun)) (omega (arith, begun, inside)) (pos_is (along m.start (p.at - m.start.at)) p file (omega (arith, begun))))
        ]
      ]

  abbrev pub By : Pos → Type 0
  By p = move_to a.value members name p ≡ moved_to h.number (length name) a.classes p

  -- in a kept file
  kept_moves : (p : Pos) (f : KeptValue) → kept_at a.value.table p.file ≡ Some f → p.at ≤ length (spelling (logical_of f.bytes)) → Uncut p → By p
  kept_moves p f is within uncut =
      ap (λ (o : Option KeptValue). option_map_or (moved_in members name p) o p) is
      ∙ pos_is (moved_in members name p f) (moved_to h.number (length name) a.classes p) refl
      (moves_alike name p.file members h.number a.classes (spelling (logical_of f.bytes)) p.at one (whole p uncut) within (before_same p))

  -- in the pseudo file of lines, which is not kept
  pub line_moves : (p : Pos) → p.file ≡ 0 → By p
  line_moves p file =
      let none : kept_at a.value.table p.file ≡ None = ap (kept_at a.value.table) file ∙ no_lines h.source h.workspace a.value h.accepted in
      let zero_before : members_before h.number a.classes p ≡ 0 =
      sym (before_same p) ∙ none_before members p (λ m i e. no_line a.value members name (none_stand a.value members name h.first) m i (e ∙ file)) in
      ap (λ (o : Option KeptValue). option_map_or (moved_in members name p) o p) none
      ∙ pos_is p (moved_to h.number (length name) a.classes p) refl
      (stays p.at (length name) (length_of a.classes h.number) (members_before h.number a.classes p) zero_before)

  -- a character of a file token stands in the text of its file
  pub record InText (p : Pos) : Type 0 where
    pub file : KeptValue
    pub is_kept : kept_at a.value.table p.file ≡ Some file
    pub within : p.at < length (spelling (logical_of file.bytes))

  spelling_length : (bytes : List ℕ) → length (spelling (logical_of bytes)) ≡ length (logical_of bytes)
  spelling_length bytes = length-map (logical_of bytes) (λ c. c.byte)

  pub in_text : (p : Pos) → IsCharacter a.value p → (p.file ≡ 0 → ⊥) → InText p
  in_text p c apart =
      let f = character_file a.value h.source h.workspace h.accepted p c apart in
      let in_file = f.1 in
      let file : KeptValue = in_file.file in
      let there = in_file.there in
      let placed = token_placed file.number file.bytes there.0 f.0 there.1 in
      let held = holding (span_of f.0) p in_file.held in
      let start : (span_of f.0).start.at ≡ (f.0).at.at = ap (λ (x : Part). x.start.at) placed.span in
      let len : (span_of f.0).len ≡ length (f.0).text = ap (λ (x : Part). x.len) placed.span in
      let ends = placed.ends in
      let from = held.from in
      let less = held.less in
      let long = spelling_length file.bytes in
      record { file = file; is_kept = in_file.is_kept; within = omega (arith, start, len, ends, from, less, long) }

  pub part_moves : (part : Part) → IsPart a.value part → By part.start
  part_moves part is = elim (cases_eq part.start.file 0) [
    | inl line ↦ line_moves part.start line
    | inr apart ↦
        let t = in_text part.start is.held apart in
        let within = t.within in
        kept_moves part.start t.file t.is_kept (omega (arith, within)) (start_uncut part.start is.start)
  ]

  -- ---- file tokens

  -- the file token is one of a kept file, with this number in it
  pub record InKept (t : Token) : Type 0 where
    pub file : KeptValue
    pub is_kept : kept_at a.value.table (span_of t).start.file ≡ Some file
    pub place : ℕ
    pub at : slice_get (tokens_of file.number file.bytes) place ≡ Some t
    pub some : 0 < (span_of t).len
    pub ends : (span_of t).start.at + (span_of t).len ≤ length (spelling (logical_of file.bytes))

  -- .. or a number that a unit brought
  pub record IsNumber (t : Token) : Type 0 where
    pub unit : UnitAnalysis
    pub of : In unit a.value.units
    pub brought : In t (numbers_brought unit.text)
    pub line : (span_of t).start.file ≡ 0

  from_table : (t : Token) → In t (table_tokens 0 a.value.table) → InKept t
  from_table t i =
      let r = in_table a.value.table 0 t i in
      let same : 0 + r.0 ≡ r.0 = omega arith in
      let there : kept_at a.value.table r.0 ≡ Some r.1 = subst (λ (m : ℕ). option_and_then (kept_in m) (slice_get a.value.table r.0) ≡ Some r.1) same r.2 in
      let f = filter_in (λ (u : Token). has_origins u.kind) t (tokens_of (r.1).number (r.1).bytes) r.3 in
      let placed = token_placed (r.1).number (r.1).bytes f.0.0 t f.0.1 in
      let file : (r.1).number ≡ (span_of t).start.file = sym (ap (λ (x : Part). x.start.file) placed.span) in
      let start : (span_of t).start.at ≡ t.at.at = ap (λ (x : Part). x.start.at) placed.span in
      let len : (span_of t).len ≡ length t.text = ap (λ (x : Part). x.len) placed.span in
      let some = placed.some in
      let ends = placed.ends in
      let long = spelling_length (r.1).bytes in
      record {
        file = r.1;
        is_kept = subst (λ (m : ℕ). kept_at a.value.table m ≡ Some r.1) (sym (kept_number a.value.table r.0 r.1 there) ∙ file) there;
        place = f.0.0;
        at = f.0.1;
        some = omega (arith, some, len);
        ends = omega (arith, start, len, ends, long);
      }

  pub kept_or_number : (t : Token) → In t (file_tokens a.value) → InKept t ⊎ IsNumber t
  unfolding file_tokens
  kept_or_number t i =
      split_at (InKept t ⊎ IsNumber t) t (table_tokens 0 a.value.table) (flat_map (λ (u : UnitAnalysis). numbers_brought u.text) a.value.units) i.0 i.1
      (λ j. inl (from_table t j))
      (λ j. let u = unit_of a.value h.source h.workspace h.accepted a.value.units t j in
      inr (record { unit = u.0; of = u.1; brought = u.2; line = number_file a.value h.source h.workspace h.accepted t u.0 u.1 u.2 }))

  begin_start : (token : Part) → IsFileToken a.value token → IsStart a.value token.start
  begin_start token is = (token.start, (token, is, refl), here)

  -- a token of the file of another, at the character behind that: it begins there
  begins_behind : (t : Token) (k : InKept t) (q : Pos) → end_of (span_of t) ≡ q → (u : Token) → In u (tokens_of (k.file).number (k.file).bytes)
      → holds (span_of u) q ≡ true → (span_of u).start ≡ q
  begins_behind t k q end u i held =
      let line = tokens_in_line (k.file).number (k.file).bytes in
      let on = holding (span_of u) q held in
      let from = on.from in
      let less = on.less in
      let at_end : (span_of t).start.at + (span_of t).len ≡ q.at = ap (λ (p : Pos). p.at) end in
      let some = k.some in
      elim (cases_lt k.place i.0) [
        | inl later ↦
            let order = line.ordered k.place i.0 t u later k.at i.1 in
            pos_is (span_of u).start q on.file (omega (arith, order, at_end, from))
        | inr most ↦ elim (cases_lt i.0 k.place) [
          | inl earlier ↦
              let order = line.ordered i.0 k.place u t earlier i.1 k.at in
              absurd (omega (arith, order, at_end, from, less, some))
          | inr least ↦
              let one : i.0 ≡ k.place = omega (arith, most, least) in
              let token_is : u ≡ t = same_Some u t (sym i.1 ∙ (ap (slice_get (tokens_of (k.file).number (k.file).bytes)) one ∙ k.at)) in
              let s : (span_of u).start.at ≡ (span_of t).start.at = ap (λ (x : Token). (span_of x).start.at) token_is in
              let l : (span_of u).len ≡ (span_of t).len = ap (λ (x : Token). (span_of x).len) token_is in
              absurd (omega (arith, s, l, at_end, from, less))
        ]
      ]

  -- no member goes on behind a token
  end_uncut : (t : Token) → InKept t → Uncut (end_of (span_of t))
  end_uncut t k m i o some less there =
      let q : Pos = end_of (span_of t) in
      let goes = (member_part m i).goes_on o some less in
      let c : IsCharacter a.value q = subst (λ (p : Pos). IsCharacter a.value p) there goes.0 in
      let apart : (span_of t).start.file ≡ 0 → ⊥ = λ line.
      none-some k.file (sym (ap (kept_at a.value.table) line ∙ no_lines h.source h.workspace a.value h.accepted) ∙ k.is_kept) in
      let f = character_file a.value h.source h.workspace h.accepted q c apart in
      let in_file = f.1 in
      let same : in_file.file ≡ k.file = same_Some in_file.file k.file (sym in_file.is_kept ∙ k.is_kept) in
      let there_at : In f.0 (tokens_of (k.file).number (k.file).bytes) = subst (λ (g : KeptValue). In f.0 (tokens_of g.number g.bytes)) same in_file.there in
      let first = begins_behind t k q refl f.0 there_at in_file.held in
      let of = span_is a.value f.0 (file_token a.value (span_of t).start.file k.file f.0 k.is_kept there_at in_file.parted) in
      goes.1 (subst (λ (p : Pos). IsStart a.value p) (sym there) (subst (λ (p : Pos). IsStart a.value p) first (begin_start (span_of f.0) of)))

  pub span_moves : (t : Token) → In t (file_tokens a.value) → By (span_of t).start × By (end_of (span_of t))
  span_moves t i = elim (kept_or_number t i) [
    | inl k ↦
        let ends = k.ends in (
          kept_moves (span_of t).start k.file k.is_kept (omega (arith, ends)) (start_uncut (span_of t).start (begin_start (span_of t) (span_is a.value t i))),
          kept_moves (end_of (span_of t)) k.file k.is_kept ends (end_uncut t k),
        )
    | inr n ↦ (line_moves (span_of t).start n.line, line_moves (end_of (span_of t)) n.line)
  ]

  token_moves : (token : Part) → IsFileToken a.value token → By token.start × By (end_of token)
  token_moves token is =
      let s = span_among (file_tokens a.value) is.0 token is.1 in
      subst (λ (x : Part). By x.start × By (end_of x)) s.2 (span_moves s.0 s.1)

pub parts_move_alike : PartsMoveAlike
parts_move_alike = λ a members name h part is. part_moves a members name h part is

pub tokens_move_alike : TokensMoveAlike
tokens_move_alike = λ a members name h token is. token_moves a members name h token is
