-- What is told of inclusions, and of the lines that are chosen.
use Rattle.std.proofs.Common.{◌≡◌, ℕ, zero, suc, ◌<◌, ◌≤◌, Bool, true, false, ◌&&◌, not, List, [], ◌∷◌, Some, length, filter, slice_get, inl, inr, refl, sym, ap, ◌∙◌, subst, arith}
use Rattle.std.specs.List.Sorted.{IsStrictlySortedBy}
use Rattle.std.proofs.lemmas.Bool.{cases_Bool, cases_lt, false≢true}
use Rattle.std.proofs.lemmas.List.Kept.{IsStrictlySortedBy-filter}
use Rattle.std.proofs.lemmas.Option.{same_Some, slice_get_within}
use Rattle.cs_base.specs.declared.positions.Pos.{Pos}
use Rattle.analysis.specs.Below.unit_steps.Texts.{UnitTextValue}
use Rattle.analysis.specs.Below.scope_bind.declared.bound.Name.{Name}
use Rattle.analysis.specs.Analysis.{UnitAnalysis, AnalysisValue}
use Rattle.analysis.specs.Places.{is_read_only}
use Rattle.unused_names.specs.Inclusions.{end_of, tokens_before}
use Rattle.unused_names.specs.LastUses.{MeansBehind}
use Rattle.unused_names.specs.Lines.{LinesValue, Meets, AreLines, HaveSame, is_chosen}
use Rattle.unused_names.specs.Order.{position_cmp}
use Rattle.unused_names.specs.Spans.{ReachesOut}
use Rattle.unused_names.specs.Unneeded.{Occurs, counts_at, IsUnneeded, Includes, IsUnneededLine, AreUnneeded}

-- ---- inclusions

module _ (text : UnitTextValue) (names : List Name) (k from to end : ℕ) (is_end : end ≡ end_of text.events k)
    (begins : from ≡ tokens_before text k) (ends : to ≡ tokens_before text end) where
  last_token : to ≡ tokens_before text (end_of text.events k)
  last_token = ends ∙ ap (tokens_before text) is_end

  -- an entity that is inside alone, and names that are not asked for
  pub is_unneeded : ((i : ℕ) → from ≤ i → i < to → i < length text.toks → ReachesOut names (length text.toks) from to i → ⊥)
      → ((i : ℕ) → k < i → i < end → counts_at text.events i ≡ false)
      → ((i : ℕ) → k < i → i < end → MeansBehind text.events i end → ⊥)
      → IsUnneeded text names k
  is_unneeded none_out none_counted none_asked = record {
    entities = λ entity i j here there inside.
        let low : from ≤ i = subst (λ (n : ℕ). n ≤ i) (sym begins) inside.0 in
        let high : i < to = subst (λ (n : ℕ). i < n) (sym last_token) inside.1 in
        let out : (from ≤ j → j < to → ⊥) → ReachesOut names (length text.toks) from to i = λ outside. record {
          entity = entity;
          here = here.bound;
          other = j;
          within = there.within;
          there = there.bound;
          outside = outside;
        } in
        let never = λ (outside : from ≤ j → j < to → ⊥). none_out i low high here.within (out outside) in
        elim (cases_lt j from) [
          | inl before ↦ absurd (never (λ begun below. omega (arith, before, begun)))
          | inr begun ↦ elim (cases_lt j to) [
            | inl below ↦ (subst (λ (n : ℕ). n ≤ j) begins begun, subst (λ (n : ℕ). j < n) last_token below)
            | inr past ↦ absurd (never (λ begun below. omega (arith, past, below)))
          ]
        ];
    macros = λ i j behind before later means.
        none_asked i behind (subst (λ (n : ℕ). i < n) (sym is_end) before)
        (record { event = j; behind = subst (λ (n : ℕ). n ≤ j) (sym is_end) later; means = means });
    numbers = λ i behind before. none_counted i behind (subst (λ (n : ℕ). i < n) (sym is_end) before);
  }

  pub needed_by_entity : (i : ℕ) → from ≤ i → i < to → i < length text.toks → ReachesOut names (length text.toks) from to i
      → IsUnneeded text names k → ⊥
  needed_by_entity i low high within r is =
      let here : Occurs text names r.entity i = record { within = within; bound = r.here } in
      let there : Occurs text names r.entity r.other = record { within = r.within; bound = r.there } in
      let inside = is.entities r.entity i r.other here there (subst (λ (n : ℕ). n ≤ i) begins low, subst (λ (n : ℕ). i < n) last_token high) in
      r.outside (subst (λ (n : ℕ). n ≤ r.other) (sym begins) inside.0) (subst (λ (n : ℕ). r.other < n) (sym last_token) inside.1)

  pub needed_by_number : (i : ℕ) → k < i → i < end → counts_at text.events i ≡ true → IsUnneeded text names k → ⊥
  needed_by_number i behind before counts is =
      let none : counts_at text.events i ≡ false = is.numbers i behind (subst (λ (n : ℕ). i < n) is_end before) in
      false≢true (sym none ∙ counts)

  pub needed_by_name : (i : ℕ) → k < i → i < end → MeansBehind text.events i end → IsUnneeded text names k → ⊥
  needed_by_name i behind before m is =
      is.macros i m.event behind (subst (λ (n : ℕ). i < n) is_end before) (subst (λ (n : ℕ). n ≤ m.event) is_end m.behind) m.means

-- ---- lists

-- the first element of a list or a later one
first_or_rest : {X : Type 0} (p : X → Bool) (y x : X) (ys xs : List X) (k : ℕ) → p y ≡ true
    → ((j : ℕ) → slice_get ys j ≡ Some x → ((i : ℕ) × (slice_get xs i ≡ Some x)) × (p x ≡ true))
    → slice_get (y ∷ ys) k ≡ Some x → ((i : ℕ) × (slice_get (y ∷ xs) i ≡ Some x)) × (p x ≡ true)
first_or_rest {X = X} p y x ys xs zero passed rest at = ((zero, at), subst (λ (z : X). p z ≡ true) (same_Some y x at) passed)
first_or_rest p y x ys xs (suc k) passed rest at = let found = rest k at in ((suc found.0.0, found.0.1), found.1)

filter_from : {X : Type 0} (p : X → Bool) (xs : List X) (k : ℕ) (x : X) → slice_get (filter p xs) k ≡ Some x
    → ((j : ℕ) × (slice_get xs j ≡ Some x)) × (p x ≡ true)
filter_from p [] k x at = absurd (cc)
filter_from p (y ∷ xs) k x at = elim (cases_Bool (p y)) [
  | inl passed ↦ first_or_rest p y x (filter p xs) xs k passed (λ j there. filter_from p xs j x there) (rw passed at at)
  | inr failed ↦ (let found = filter_from p xs k x (rw failed at at) in ((suc found.0.0, found.0.1), found.1))
]

filter_into : {X : Type 0} (p : X → Bool) (xs : List X) (j : ℕ) (x : X) → slice_get xs j ≡ Some x → p x ≡ true
    → (k : ℕ) × (slice_get (filter p xs) k ≡ Some x)
filter_into p [] j x at passed = absurd (cc)
filter_into {X = X} p (y ∷ xs) zero x at passed =
    let same : y ≡ x = same_Some y x at in
    let first : p y ≡ true = subst (λ (z : X). p z ≡ true) (sym same) passed in
    (zero, rw first at)
filter_into p (y ∷ xs) (suc j) x at passed =
    let found = filter_into p xs j x at passed in
    elim (cases_Bool (p y)) [
      | inl first ↦ (suc found.0, rw first found.1)
      | inr other ↦ (found.0, rw other found.1)
    ]

-- ---- tests

both_not : (a b : Bool) → (not a && not b) ≡ true → (a ≡ false) × (b ≡ false)
both_not true b h = absurd (cc)
both_not false true h = absurd (cc)
both_not false false h = (refl, refl)

not_both : (a b : Bool) → a ≡ false → b ≡ false → (not a && not b) ≡ true
not_both a b e f = rw (e, f) refl

-- ---- the whole

module _ (a : AnalysisValue) (lines : LinesValue) (places : List Pos) (all : AreLines a.units (length a.units) 0 lines)
    (same : HaveSame lines.all places) (sorted : IsStrictlySortedBy (position_cmp a.table) places) where
  -- all inclusions were met
  meets : (p : Pos) (u : UnitAnalysis) (k : ℕ) → Includes a.units p u k → Meets a.units (length a.units) 0 p u k
  meets p u k x = record { line = x; before = inl (slice_get_within a.units x.number u x.unit) }

  chosen_line : (p : Pos) (j : ℕ) → slice_get places j ≡ Some p → is_chosen a lines.needs p ≡ true → IsUnneededLine a p
  chosen_line p j at chosen =
      let tests = both_not (lines.needs p) (is_read_only a.table a.workspace.readonly p.file) chosen in
      let listed = same.only j p at in
      let met = all.met listed.0 p listed.1 in
      record {
        unit = met.0;
        event = met.1;
        includes = met.2.line;
        edited = tests.1;
        each = λ u k x. all.free p u k tests.0 (meets p u k x);
      }

  line_chosen : (p : Pos) → IsUnneededLine a p → is_chosen a lines.needs p ≡ true
  line_chosen p line =
      elim (cases_Bool (lines.needs p)) [
        | inl needed ↦ absurd (let x = all.needed p needed in x.3 (line.each x.0 x.1 x.2.line))
        | inr free ↦ not_both (lines.needs p) (is_read_only a.table a.workspace.readonly p.file) free line.edited
      ]

  pub are_unneeded : AreUnneeded a (filter (is_chosen a lines.needs) places)
  are_unneeded = record {
    each = λ k p at.
        let found = filter_from (is_chosen a lines.needs) places k p at in
        chosen_line p found.0.0 found.0.1 found.1;
    all = λ p line.
        let listed = all.all p line.unit line.event (meets p line.unit line.event line.includes) in
        let place = same.kept listed.0 p listed.1 in
        filter_into (is_chosen a lines.needs) places place.0 p place.1 (line_chosen p line);
    sorted = IsStrictlySortedBy-filter (position_cmp a.table) (is_chosen a lines.needs) places sorted;
  }
