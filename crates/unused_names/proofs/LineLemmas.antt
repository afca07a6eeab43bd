-- Include lines as they are met: one event more, and the end of a unit.
use Rattle.std.proofs.Common.{◌≡◌, ℕ, ◌+◌, ◌<◌, Bool, true, false, ◌||◌, ◌&&◌, not, cond, List, [], ◌∷◌, ◌++◌, Some, length, slice_get, inl, inr, refl, sym, ap, ◌∙◌, subst, arith}
use Rattle.std.specs.Prelude.{◌⊎◌, MatchBool, nat_eq}
use Rattle.std.proofs.lemmas.Bool.{cases_lt, eq-eqb, eqb-true, or_parts, and_parts}
use Rattle.std.proofs.lemmas.Option.{none-some, same_Some, slice_get_within}
use Rattle.std.proofs.Math.Bool.{or-false}
use Rattle.cs_base.specs.declared.positions.Pos.{Pos}
use Rattle.cs_base.proofs.PlaceLemmas.{pos_is as same_pos}
use Rattle.analysis.specs.Below.unit_steps.declared.events.Event.{Event}
use Rattle.analysis.specs.Below.unit_steps.Texts.{UnitTextValue}
use Rattle.analysis.specs.Below.scope_bind.declared.bound.Name.{Name}
use Rattle.analysis.specs.Analysis.{UnitAnalysis}
use Rattle.analysis.proofs.PushedLemmas.{pushed_own}
use Rattle.analysis.proofs.ListingLemmas.{pushed_kept, pushed_cases}
use Rattle.unused_names.specs.Inclusions.{is_enter}
use Rattle.unused_names.specs.Lines.{LinesValue, ComesBefore, Meets, AreLines, MeetsLine, GoOn, is_position, lines_and}
use Rattle.unused_names.specs.Unneeded.{Includes, IsUnneeded}

-- ---- tests

or_cases : (a b : Bool) → (a || b) ≡ true → (a ≡ true) ⊎ (b ≡ true)
or_cases true b h = inl refl
or_cases false b h = inr h

needed_only : (unneeded same : Bool) → (not unneeded && same) ≡ true → (unneeded ≡ false) × (same ≡ true)
needed_only true same h = absurd (cc)
needed_only false same h = (refl, h)

unneeded_at : (unneeded same : Bool) → (not unneeded && same) ≡ false → same ≡ true → unneeded ≡ true
unneeded_at true same h passed = refl
unneeded_at false same h passed = absurd (cc)

pub position_itself : (p : Pos) → is_position p p ≡ true
position_itself p = rw (eq-eqb p.file p.file refl, eq-eqb p.at p.at refl) refl

pub position_same : (p q : Pos) → is_position p q ≡ true → p ≡ q
position_same p q h =
    let both = and_parts (nat_eq p.file q.file) (nat_eq p.at q.at) h in
    same_pos p q (eqb-true p.file q.file both.0) (eqb-true p.at q.at both.1)

-- what a test says where it answers
said : (b : Bool) (A B : Type 0) → MatchBool b A B → b ≡ true → A
said true A B h is = h
said false A B h is = absurd (cc)

denied : (b : Bool) (A B : Type 0) → MatchBool b A B → b ≡ false → B
denied true A B h is = absurd (cc)
denied false A B h is = h

-- ---- a line for one inclusion

pub or_cond : (same b : Bool) → cond same true b ≡ (b || same)
or_cond true true = refl
or_cond true false = refl
or_cond false b = sym (or-false b)

pub meets_unneeded : (at : Pos) (unneeded : Bool) (all all' : List Pos) (needs : Pos → Bool) → unneeded ≡ true → all' ≡ all ++ at ∷ []
    → MeetsLine at unneeded (lines_and all needs) (lines_and all' needs)
meets_unneeded at unneeded all all' needs is more = record {
  all = more;
  needs = λ p. sym (or-false (needs p)) ∙ ap (λ (u : Bool). needs p || (not u && is_position at p)) (sym is);
}

pub meets_needed : (at : Pos) (unneeded : Bool) (all all' : List Pos) (needs needs' : Pos → Bool) → unneeded ≡ false → all' ≡ all ++ at ∷ []
    → ((p : Pos) → needs' p ≡ cond (is_position at p) true (needs p)) → MeetsLine at unneeded (lines_and all needs) (lines_and all' needs')
meets_needed at unneeded all all' needs needs' is more put = record {
  all = more;
  needs = λ p.
      put p ∙ or_cond (is_position at p) (needs p) ∙ ap (λ (u : Bool). needs p || (not u && is_position at p)) (sym is);
}

-- ---- the same lines before another event

module _ (units : List UnitAnalysis) (n k n' k' : ℕ) (wider : (m j : ℕ) → ComesBefore n k m j → ComesBefore n' k' m j) where
  widened : (p : Pos) (u : UnitAnalysis) (j : ℕ) → Meets units n k p u j → Meets units n' k' p u j
  widened p u j x = record { line = x.line; before = wider x.line.number j x.before }

  same_lines : (l : LinesValue) → ((p : Pos) (u : UnitAnalysis) (j : ℕ) → Meets units n' k' p u j → Meets units n k p u j)
      → AreLines units n k l → AreLines units n' k' l
  same_lines l narrower h = record {
    met = λ i p at. let x = h.met i p at in (x.0, x.1, widened p x.0 x.1 x.2);
    all = λ p u j x. h.all p u j (narrower p u j x);
    needed = λ p passed. let x = h.needed p passed in (x.0, x.1, widened p x.0 x.1 x.2, x.3);
    free = λ p u j failed x. h.free p u j failed (narrower p u j x);
  }

later_event : (n k m j : ℕ) → ComesBefore n k m j → ComesBefore n (k + 1) m j
later_event n k m j (inl less) = inl less
later_event n k m j (inr same) = inr (same.0, omega (arith, same.1))

-- an event before the one behind event k comes before that, or is it
event_cases : (n k m j : ℕ) → ComesBefore n (k + 1) m j → ComesBefore n k m j ⊎ ((m ≡ n) × (j ≡ k))
event_cases n k m j (inl less) = inl (inl less)
event_cases n k m j (inr same) =
    elim (cases_lt j k) [
      | inl less ↦ inl (inr (same.0, less))
      | inr most ↦ inr (same.0, omega (arith, most, same.1))
    ]

-- ---- one event more

module _ (units : List UnitAnalysis) (n k : ℕ) (u : UnitAnalysis) (here : slice_get units n ≡ Some u) (e : Event) (at : slice_get u.text.events k ≡ Some e) where
  own_unit : (p : Pos) (v : UnitAnalysis) (j : ℕ) (x : Includes units p v j) → x.number ≡ n → v ≡ u
  own_unit p v j x same =
      let there : slice_get units n ≡ Some v = subst (λ (m : ℕ). slice_get units m ≡ Some v) same x.unit in
      same_Some v u (sym there ∙ here)

  -- the event of an inclusion that begins here
  own_event : (p : Pos) (v : UnitAnalysis) (j : ℕ) (x : Includes units p v j) → x.number ≡ n → j ≡ k → x.begins.event ≡ e
  own_event p v j x same number =
      let unit = own_unit p v j x same in
      let there : slice_get u.text.events k ≡ Some x.begins.event =
      subst (λ (w : UnitAnalysis). slice_get w.text.events k ≡ Some x.begins.event) unit
      (subst (λ (i : ℕ). slice_get v.text.events i ≡ Some x.begins.event) number x.begins.at) in
      same_Some x.begins.event e (sym there ∙ at)

  pub no_line : (l : LinesValue) → is_enter e.kind ≡ false → AreLines units n k l → AreLines units n (k + 1) l
  no_line l not h =
      same_lines units n k n (k + 1) (later_event n k) l
      (λ p v j x. elim (event_cases n k x.line.number j x.before) [
        | inl before ↦ record { line = x.line; before = before }
        | inr now ↦
            let enters : is_enter e.kind ≡ true = subst (λ (f : Event). is_enter f.kind ≡ true) (own_event p v j x.line now.0 now.1) x.line.begins.enters in
            absurd (cc)
      ])
      h

  module _ (old new : LinesValue) (unneeded : Bool) (enters : is_enter e.kind ≡ true) (meets : MeetsLine e.at unneeded old new)
      (told : MatchBool unneeded (IsUnneeded u.text u.bound.names k) (IsUnneeded u.text u.bound.names k → ⊥)) where
    this_line : Meets units n (k + 1) e.at u k
    this_line = record {
      line = record { number = n; unit = here; begins = record { event = e; at = at; enters = enters }; at = refl };
      before = inr (refl, omega arith);
    }

    own_line : (p : Pos) (v : UnitAnalysis) (j : ℕ) (x : Includes units p v j) → x.number ≡ n → j ≡ k → e.at ≡ p
    own_line p v j x same number = ap (λ (f : Event). f.at) (sym (own_event p v j x same number)) ∙ x.at

    widen : (p : Pos) (v : UnitAnalysis) (j : ℕ) → Meets units n k p v j → Meets units n (k + 1) p v j
    widen = widened units n k n (k + 1) (later_event n k)

    pub one_line : AreLines units n k old → AreLines units n (k + 1) new
    one_line h = record {
      met = λ i p there.
          let there' : slice_get (old.all ++ e.at ∷ []) i ≡ Some p = subst (λ (ps : List Pos). slice_get ps i ≡ Some p) meets.all there in
          elim (pushed_cases old.all e.at i p there') [
            | inl before ↦ (let x = h.met i p before in (x.0, x.1, widen p x.0 x.1 x.2))
            | inr same ↦ (u, k, subst (λ (q : Pos). Meets units n (k + 1) q u k) same this_line)
          ];
      all = λ p v j x.
          elim (event_cases n k x.line.number j x.before) [
            | inl before ↦
                let found = h.all p v j (record { line = x.line; before = before }) in
                (found.0, subst (λ (ps : List Pos). slice_get ps found.0 ≡ Some p) (sym meets.all) (pushed_kept old.all e.at found.0 p found.1))
            | inr now ↦
                let same = own_line p v j x.line now.0 now.1 in (
                  length old.all,
                  subst (λ (ps : List Pos). slice_get ps (length old.all) ≡ Some p) (sym meets.all)
                      (subst (λ (q : Pos). slice_get (old.all ++ e.at ∷ []) (length old.all) ≡ Some q) same (pushed_own old.all e.at)),
                )
          ];
      needed = λ p passed.
          elim (or_cases (old.needs p) (not unneeded && is_position e.at p) (sym (meets.needs p) ∙ passed)) [
            | inl before ↦ (let x = h.needed p before in (x.0, x.1, widen p x.0 x.1 x.2, x.3))
            | inr now ↦
                let both = needed_only unneeded (is_position e.at p) now in
                let same = position_same e.at p both.1 in (
                  u,
                  k,
                  subst (λ (q : Pos). Meets units n (k + 1) q u k) same this_line,
                  denied unneeded (IsUnneeded u.text u.bound.names k) (IsUnneeded u.text u.bound.names k → ⊥) told both.0,
                )
          ];
      free = λ p v j failed x.
          let none = or_parts (old.needs p) (not unneeded && is_position e.at p) (sym (meets.needs p) ∙ failed) in
          elim (event_cases n k x.line.number j x.before) [
            | inl before ↦ h.free p v j none.0 (record { line = x.line; before = before })
            | inr now ↦
                let line = own_line p v j x.line now.0 now.1 in
                let same : is_position e.at p ≡ true = subst (λ (q : Pos). is_position e.at q ≡ true) line (position_itself e.at) in
                let is : IsUnneeded u.text u.bound.names k =
                said unneeded (IsUnneeded u.text u.bound.names k) (IsUnneeded u.text u.bound.names k → ⊥) told
                (unneeded_at unneeded (is_position e.at p) none.1 same) in
                subst (λ (w : UnitAnalysis). IsUnneeded w.text w.bound.names j) (sym (own_unit p v j x.line now.0))
                (subst (λ (i : ℕ). IsUnneeded u.text u.bound.names i) (sym now.1) is)
          ];
    }

-- ---- events of a unit, in any workspace that has it

module _ (text : UnitTextValue) (names : List Name) where
  pub go_on_none : (k : ℕ) (l : LinesValue) → GoOn text names k k l l
  go_on_none k l = record { goes_on = λ units n u here is is' h. h }

  pub go_on_both : (i j k : ℕ) (a b c : LinesValue) → GoOn text names i j a b → GoOn text names j k b c → GoOn text names i k a c
  go_on_both i j k a b c f g = record { goes_on = λ units n u here is is' h. g.goes_on units n u here is is' (f.goes_on units n u here is is' h) }

  module _ (k : ℕ) (e : Event) (at : slice_get text.events k ≡ Some e) where
    in_unit : (u : UnitAnalysis) → u.text ≡ text → slice_get u.text.events k ≡ Some e
    in_unit u is = subst (λ (t : UnitTextValue). slice_get t.events k ≡ Some e) (sym is) at

    pub go_on_other : (l : LinesValue) → is_enter e.kind ≡ false → GoOn text names k (k + 1) l l
    go_on_other l not = record { goes_on = λ units n u here is is' h. no_line units n k u here e (in_unit u is) l not h }

    pub go_on_line : (old new : LinesValue) (unneeded : Bool) → is_enter e.kind ≡ true → MeetsLine e.at unneeded old new
        → MatchBool unneeded (IsUnneeded text names k) (IsUnneeded text names k → ⊥) → GoOn text names k (k + 1) old new
    go_on_line old new unneeded enters meets told = record {
      goes_on = λ units n u here is is' h.
          one_line units n k u here e (in_unit u is) old new unneeded enters meets
          (subst (λ (t : UnitTextValue). MatchBool unneeded (IsUnneeded t u.bound.names k) (IsUnneeded t u.bound.names k → ⊥)) (sym is)
          (subst (λ (ns : List Name). MatchBool unneeded (IsUnneeded text ns k) (IsUnneeded text ns k → ⊥)) (sym is') told))
          h;
    }

-- ---- units

next_unit : (n k m j : ℕ) → ComesBefore n k m j → ComesBefore (n + 1) 0 m j
next_unit n k m j (inl less) = inl (omega (arith, less))
next_unit n k m j (inr same) = inl (omega (arith, same.0))

-- all events of a unit come before those of the next
pub end_of_unit : (units : List UnitAnalysis) (n : ℕ) (u : UnitAnalysis) (l : LinesValue) → slice_get units n ≡ Some u
    → AreLines units n (length u.text.events) l → AreLines units (n + 1) 0 l
end_of_unit units n u l here h =
    same_lines units n (length u.text.events) (n + 1) 0 (next_unit n (length u.text.events)) l
    (λ p v j x. elim x.before [
      | inl less ↦ elim (cases_lt x.line.number n) [
        | inl before ↦ record { line = x.line; before = inl before }
        | inr most ↦
            let same : x.line.number ≡ n = omega (arith, less, most) in
            let there : slice_get units n ≡ Some v = subst (λ (m : ℕ). slice_get units m ≡ Some v) same x.line.unit in
            let unit : v ≡ u = same_Some v u (sym there ∙ here) in
            let within : j < length v.text.events = slice_get_within v.text.events j x.line.begins.event x.line.begins.at in
            record { line = x.line; before = inr (same, subst (λ (w : UnitAnalysis). j < length w.text.events) unit within) }
      ]
      | inr same ↦ absurd (omega (arith, same.1))
    ])
    h

pub no_lines : (units : List UnitAnalysis) (l : LinesValue) → l.all ≡ [] → ((p : Pos) → l.needs p ≡ false) → AreLines units 0 0 l
no_lines units l none free = record {
  met = λ i p at. absurd (none-some p (subst (λ (ps : List Pos). slice_get ps i ≡ Some p) none at));
  all = λ p u j x. absurd (none_before x.line.number j x.before);
  needed = λ p passed. absurd (let failed = free p in cc);
  free = λ p u j failed x. absurd (none_before x.line.number j x.before);
}
  where
    none_before : (m j : ℕ) → ComesBefore 0 0 m j → ⊥
    none_before m j (inl less) = omega (arith, less)
    none_before m j (inr same) = omega (arith, same.1)
