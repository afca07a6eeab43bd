-- What units have, one unit after another.
use Rattle.std.proofs.Common.{◌≡◌, ℕ, ◌+◌, ◌<◌, ◌≤◌, List, [], ◌∷◌, ◌++◌, length, min, drop, get_or, Option, refl, sym, ap, ◌∙◌, inl, inr, append_assoc, arith}
use Rattle.std.proofs.lemmas.Bool.{cases_lt}
use Rattle.std.proofs.lemmas.List.{append-nil, drop_more, drop_all}
use Rattle.cs_base.specs.declared.positions.Pos.{Pos}
use Rattle.cs_base.specs.Token.{Token}
use Rattle.cs_base.specs.Units.{UnitValue}
use Rattle.analysis.specs.Below.unit_steps.declared.events.Event.{Event}
use Rattle.analysis.specs.Below.scope_bind.Bound.{Bound}
use Rattle.analysis.specs.Analysis.{UnitAnalysis, AnalysisValue}
use Rattle.calls_of.specs.Bodies.{owner_of}
use Rattle.calls_of.specs.Calls.{in_units, unit_calls, calls_in_unit, first_in}
use Rattle.calls_of.specs.Graphs.{unit_nodes, nodes_in_unit}

-- one unit more
in_units-more : {X : Type 0} (f : UnitValue → UnitAnalysis → List X) (units : List UnitValue) (us : List UnitAnalysis) (i : ℕ) (unit : UnitValue) (u : UnitAnalysis)
    → i < length units → i < length us
    → in_units f (drop i units) (drop i us) ≡ f (get_or units i unit) (get_or us i u) ++ in_units f (drop (i + 1) units) (drop (i + 1) us)
unfolding in_units
in_units-more f units us i unit u within also =
    ap (λ (v : List UnitValue). in_units f v (drop i us)) (drop_more units i unit within)
    ∙ ap (in_units f (get_or units i unit ∷ drop (i + 1) units)) (drop_more us i u also)

none-left : {X : Type 0} (f : UnitValue → UnitAnalysis → List X) (units : List UnitValue) → in_units f units [] ≡ []
unfolding in_units
none-left f [] = refl
none-left f (u ∷ units) = refl

none-first : {X : Type 0} (f : UnitValue → UnitAnalysis → List X) (us : List UnitAnalysis) → in_units f [] us ≡ []
unfolding in_units
none-first f us = refl

-- those so far, and those still to come
pub units-next : {X : Type 0} (f : UnitValue → UnitAnalysis → List X) (units : List UnitValue) (us : List UnitAnalysis) (i : ℕ) (unit : UnitValue) (u : UnitAnalysis)
    (old new whole : List X) → i < length units → i < length us → unit ≡ get_or units i unit → u ≡ get_or us i u → new ≡ old ++ f unit u
    → old ++ in_units f (drop i units) (drop i us) ≡ whole → new ++ in_units f (drop (i + 1) units) (drop (i + 1) us) ≡ whole
units-next {X} f units us i unit u old new whole within also is at added so_far =
    let rest : List X = in_units f (drop (i + 1) units) (drop (i + 1) us) in
    let here : List X = f unit u in
    let more : in_units f (drop i units) (drop i us) ≡ here ++ rest =
    in_units-more f units us i unit u within also ∙ ap (λ (v : UnitValue). f v (get_or us i u) ++ rest) (sym is)
    ∙ ap (λ (v : UnitAnalysis). f unit v ++ rest) (sym at) in
    ap (λ (xs : List X). xs ++ rest) added ∙ append_assoc old here rest ∙ ap (λ (xs : List X). old ++ xs) (sym more) ∙ so_far

pub units-all : {X : Type 0} (f : UnitValue → UnitAnalysis → List X) (units : List UnitValue) (us : List UnitAnalysis) (i : ℕ) (now whole : List X)
    → min (length units) (length us) ≤ i → now ++ in_units f (drop i units) (drop i us) ≡ whole → now ≡ whole
units-all {X} f units us i now whole past so_far =
    let none : in_units f (drop i units) (drop i us) ≡ [] = elim (cases_lt i (length units)) [
      | inl l ↦ ap (λ (v : List UnitAnalysis). in_units f (drop i units) v) (drop_all i us (omega arith)) ∙ none-left f (drop i units)
      | inr m ↦ ap (λ (v : List UnitValue). in_units f v (drop i us)) (drop_all i units m) ∙ none-first f (drop i us)
    ] in
    sym (append-nil now) ∙ ap (λ (xs : List X). now ++ xs) (sym none) ∙ so_far

-- ---- one unit

module _ (a : AnalysisValue) (unit : UnitValue) (u : UnitAnalysis) (owner : Pos → Option Token) (first : List ℕ → List ℕ → Option Token) (project : List ℕ) (toks : List Token)
    (bound : Bound) (events : List Event) (owners : owner ≡ owner_of a) (firsts : first ≡ first_in a) (own : project ≡ unit.project) (toks_are : toks ≡ u.text.toks)
    (is_bound : bound ≡ u.bound) (events_are : events ≡ u.text.events) where
  pub unit-calls : unit_calls owner first project toks bound events ≡ calls_in_unit a unit u
  unit-calls =
      ap (λ (o : Pos → Option Token). unit_calls o first project toks bound events) owners
      ∙ ap (λ (f : List ℕ → List ℕ → Option Token). unit_calls (owner_of a) f project toks bound events) firsts
      ∙ ap (λ (p : List ℕ). unit_calls (owner_of a) (first_in a) p toks bound events) own
      ∙ ap (λ (ts : List Token). unit_calls (owner_of a) (first_in a) unit.project ts bound events) toks_are
      ∙ ap (λ (b : Bound). unit_calls (owner_of a) (first_in a) unit.project u.text.toks b events) is_bound
      ∙ ap (unit_calls (owner_of a) (first_in a) unit.project u.text.toks u.bound) events_are

  pub unit-nodes : unit_nodes owner first project toks bound events ≡ nodes_in_unit a unit u
  unit-nodes =
      ap (λ (o : Pos → Option Token). unit_nodes o first project toks bound events) owners
      ∙ ap (λ (f : List ℕ → List ℕ → Option Token). unit_nodes (owner_of a) f project toks bound events) firsts
      ∙ ap (λ (p : List ℕ). unit_nodes (owner_of a) (first_in a) p toks bound events) own
      ∙ ap (λ (ts : List Token). unit_nodes (owner_of a) (first_in a) unit.project ts bound events) toks_are
      ∙ ap (λ (b : Bound). unit_nodes (owner_of a) (first_in a) unit.project u.text.toks b events) is_bound
      ∙ ap (unit_nodes (owner_of a) (first_in a) unit.project u.text.toks u.bound) events_are
