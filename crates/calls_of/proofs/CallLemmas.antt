-- Edges and the calls that they are.
use Rattle.std.proofs.Common.{◌≡◌, ℕ, ◌<◌, ◌^◌, true, false, ◌||◌, List, [], ◌∷◌, ◌++◌, length, get_or, Some, refl, sym, ap, subst, ◌∙◌, inl, inr}
use Rattle.std.specs.Prelude.{◌==◌, All, Bool, slice_get}
use Rattle.std.specs.List.{Contains, list_any}
use Rattle.std.proofs.lemmas.Bool.{and_parts, or_cases, eqb-true, eq-eqb}
use Rattle.std.proofs.lemmas.List.{get_or_default}
use Rattle.std.proofs.lemmas.List.Elements.{All-contains, All-push, Contains-append_left, Contains-push, Contains-push_cases}
use Rattle.std.proofs.lemmas.List.Folds.{list_any-append, Any-from_list_any, list_any-from_Any}
use Rattle.std.proofs.lemmas.Option.{same_Some, slice_get_within}
use Rattle.calls_of.specs.declared.nodes.Node.{Node}
use Rattle.calls_of.specs.declared.nodes.Edge.{Edge}
use Rattle.calls_of.specs.Graph.{GraphValue, IsWithin, graph, leads, is_edge, are_in_order}
use Rattle.analysis.specs.Analysis.{AnalysisValue}
use Rattle.calls_of.specs.Calls.{Call, call, calls_of}
use Rattle.calls_of.specs.Graphs.{IsCallIn, IsGraphOf, node_cmp, nodes_of}
use Rattle.calls_of.specs.Numbers.{AreCalls, edge_cmp}
use Rattle.calls_of.specs.Orders.{Orders}

-- ---- one call more

module _ (nodes : List Node) (calls : List Call) (edges : List Edge) (c : Call) (e : Edge) (caller : slice_get nodes e.caller ≡ Some c.caller)
    (callee : slice_get nodes e.callee ≡ Some c.callee) (so_far : AreCalls nodes calls edges) where
  old-led : (d : Call) (i j : ℕ) → slice_get nodes i ≡ Some d.caller → slice_get nodes j ≡ Some d.callee → is_edge edges i j ≡ true → Contains (calls ++ c ∷ []) d
  old-led d i j calling called led =
      Contains-append_left calls (c ∷ []) d ((so_far.exactly d).0 (record { caller = i; callee = j; calls = calling; called = called; led = led }))

  new-led : (d : Call) (i j : ℕ) → slice_get nodes i ≡ Some d.caller → slice_get nodes j ≡ Some d.callee → leads i j e ≡ true → Contains (calls ++ c ∷ []) d
  new-led d i j calling called led =
      let both = and_parts (e.caller == i) (e.callee == j) led in
      let first : c.caller ≡ d.caller = same_Some c.caller d.caller (sym caller ∙ ap (slice_get nodes) (eqb-true e.caller i both.0) ∙ calling) in
      let second : c.callee ≡ d.callee = same_Some c.callee d.callee (sym callee ∙ ap (slice_get nodes) (eqb-true e.callee j both.1) ∙ called) in
      let same : c ≡ d = ap (λ (n : Node). call n c.callee) first ∙ ap (call d.caller) second in
      subst (Contains (calls ++ c ∷ [])) same (Contains-push calls c)

  from-led : (d : Call) → IsCallIn (graph nodes (edges ++ e ∷ [])) d → Contains (calls ++ c ∷ []) d
  from-led d is =
      let led : (is_edge edges is.caller is.callee || is_edge (e ∷ []) is.caller is.callee) ≡ true =
      sym (list_any-append (leads is.caller is.callee) edges (e ∷ [])) ∙ is.led in
      elim (or_cases (is_edge edges is.caller is.callee) (is_edge (e ∷ []) is.caller is.callee) led) [
        | inl before ↦ old-led d is.caller is.callee is.calls is.called before
        | inr here ↦ new-led d is.caller is.callee is.calls is.called (one-led (leads is.caller is.callee e) here)
      ]
    where
      one-led : (b : Bool) → (b || false) ≡ true → b ≡ true
      one-led true h = refl
      one-led false h = h

  to-led : (d : Call) → Contains (calls ++ c ∷ []) d → IsCallIn (graph nodes (edges ++ e ∷ [])) d
  to-led d there = elim (Contains-push_cases calls c d there) [
    | inl before ↦
        let is : IsCallIn (graph nodes edges) d = (so_far.exactly d).1 before in
        record {
          caller = is.caller;
          callee = is.callee;
          calls = is.calls;
          called = is.called;
          led = list_any-append (leads is.caller is.callee) edges (e ∷ []) ∙ rw is.led refl;
        }
    | inr same ↦
        let itself : leads e.caller e.callee e ≡ true = rw (eq-eqb e.caller e.caller refl, eq-eqb e.callee e.callee refl) refl in
        let P : Call → Type 0 = IsCallIn (graph nodes (edges ++ e ∷ [])) in
        subst P same (record {
          caller = e.caller;
          callee = e.callee;
          calls = caller;
          called = callee;
          led = list_any-append (leads e.caller e.callee) edges (e ∷ []) ∙ rw itself (or-true (is_edge edges e.caller e.callee));
        })
  ]
    where
      or-true : (b : Bool) → (b || true) ≡ true
      or-true true = refl
      or-true false = refl

  pub calls-more : (calls' : List Call) (edges' : List Edge) → calls' ≡ calls ++ c ∷ [] → edges' ≡ edges ++ e ∷ [] → AreCalls nodes calls' edges'
  calls-more calls' edges' more pushed =
      let all : AreCalls nodes (calls ++ c ∷ []) (edges ++ e ∷ []) = record {
        within = All-push (IsWithin (length nodes)) edges e so_far.within
            (record { caller = slice_get_within nodes e.caller c.caller caller; callee = slice_get_within nodes e.callee c.callee callee });
        exactly = λ d. (from-led d, to-led d);
      } in
      rw (more, pushed) all

-- ---- edges in order

any-there : {X : Type 0} (p : X → Bool) (xs ys : List X) → ((x : X) → Contains xs x → Contains ys x) → list_any p xs ≡ true → list_any p ys ≡ true
any-there p xs ys all is =
    let found = Any-from_list_any p xs is in
    let there = all found.1 (found.0, found.2, found.3) in
    list_any-from_Any p ys (there.0, found.1, there.1, there.2, found.4)

all-there : {X : Type 0} (P : X → Type 0) (xs ys : List X) → ((x : X) → Contains ys x → Contains xs x) → All P xs → All P ys
all-there P xs ys all h k d within =
    All-contains P xs (get_or ys k d) h (all (get_or ys k d) (k, within, get_or_default ys k (get_or ys k d) d within))

module _ (nodes : List Node) (calls : List Call) (edges edges' : List Edge) (are : AreCalls nodes calls edges) (ordered : Orders edge_cmp edges edges') where
  pub calls-ordered : AreCalls nodes calls edges'
  calls-ordered = record {
    within = all-there (IsWithin (length nodes)) edges edges' (λ x there. (ordered.same x).0 there) are.within;
    exactly = λ c. (
      λ is. (are.exactly c).0 (record {
        caller = is.caller;
        callee = is.callee;
        calls = is.calls;
        called = is.called;
        led = any-there (leads is.caller is.callee) edges' edges (λ x there. (ordered.same x).0 there) is.led;
      }),
      λ there. (let is = (are.exactly c).1 there in
          record {
            caller = is.caller;
            callee = is.callee;
            calls = is.calls;
            called = is.called;
            led = any-there (leads is.caller is.callee) edges edges' (λ x at. (ordered.same x).1 at) is.led;
          }),
    );
  }

-- ---- the graph

pub is-graph : (a : AnalysisValue) (all nodes own : List Node) (calls : List Call) (edges : List Edge) (g : GraphValue) → all ≡ nodes_of a → calls ≡ calls_of a
    → Orders (node_cmp a.table) all nodes → length nodes < 2 ^ 32 → AreCalls nodes calls edges → are_in_order edges ≡ true → own ≡ nodes
    → g ≡ graph own edges → IsGraphOf a g
is-graph a all nodes own calls edges g all_nodes all_calls ordered few are sorted own_are made =
    let whole : IsGraphOf a (graph nodes edges) = record {
      sound = record { few = few; within = are.within; ordered = sorted };
      ordered = ordered.ordered;
      nodes = λ n. (
        λ there. subst (λ (ns : List Node). Contains ns n) all_nodes ((ordered.same n).0 there),
        λ there. (ordered.same n).1 (subst (λ (ns : List Node). Contains ns n) (sym all_nodes) there),
      );
      calls = λ c. (
        λ is. subst (λ (cs : List Call). Contains cs c) all_calls ((are.exactly c).0 is),
        λ there. (are.exactly c).1 (subst (λ (cs : List Call). Contains cs c) (sym all_calls) there),
      );
    } in
    subst (IsGraphOf a) (sym (made ∙ ap (λ (ns : List Node). graph ns edges) own_are)) whole
