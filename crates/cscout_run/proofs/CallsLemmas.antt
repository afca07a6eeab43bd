-- An analysis has one graph of its calls.
use Rattle.std.proofs.Common.{◌≡◌, ℕ, zero, suc, ◌+◌, ◌<◌, true, List, [], ◌∷◌, length, get_or, Some, refl, ap, sym, subst, ◌∙◌, inl, inr, arith}
use Rattle.std.specs.Prelude.{◌==◌, ◌&&◌, nat_lt, slice_get}
use Rattle.std.specs.Cmp.{IsTotalOrder}
use Rattle.std.specs.List.{Contains}
use Rattle.std.specs.List.Sorted.{IsStrictlySortedBy}
use Rattle.std.specs.declared.cmp.Ordering.{Ordering}
use Rattle.std.specs.declared.cmp.Ordering.TheVariants.{Less}
use Rattle.std.proofs.lemmas.Bool.{cases_Bool, cases_lt, and_parts, eqb-true, eq-eqb, or_cases}
use Rattle.std.proofs.lemmas.Cmp.{tied_itself}
use Rattle.std.proofs.lemmas.List.Elements.{All-contains}
use Rattle.std.proofs.lemmas.List.Folds.{Any-from_list_any, list_any_at}
use Rattle.std.proofs.lemmas.Map.Keys.{Less-from_sorted, sorted_from_all_adjacent}
use Rattle.std.proofs.lemmas.Option.{slice_get-get_or, slice_get_within, get_or_from_slice_get}
use Rattle.analysis.specs.Analysis.{AnalysisValue}
use Rattle.offences.specs.First.{IsAmong}
use Rattle.calls_of.specs.declared.nodes.Node.{Node}
use Rattle.calls_of.specs.declared.nodes.Edge.{Edge}
use Rattle.calls_of.specs.Graph.{GraphValue, IsWithin, graph, leads, is_edge, comes_before, are_in_order}
use Rattle.calls_of.specs.Calls.{Call, call, calls_of}
use Rattle.calls_of.specs.Graphs.{IsCallIn, IsGraphOf, node_cmp, nodes_of}
use Rattle.calls_of.specs.Numbers.{edge_cmp}
use Rattle.calls_of.proofs.NodeLemmas.{node_cmp-strict, edge_cmp-strict, before-less}
use Rattle.offences.proofs.MemberListLemmas.{AreIn, same_lists}

-- ---- elements

contained : {X : Type 0} (xs : List X) (x : X) → IsAmong xs x → Contains xs x
contained xs x at = (at.0, slice_get_within xs at.0 x at.1, get_or_from_slice_get xs at.0 x x at.1)

among : {X : Type 0} (xs : List X) (x : X) → Contains xs x → IsAmong xs x
among {X} xs x there = (there.0, slice_get-get_or xs there.0 x there.1 ∙ ap (λ (y : X). Some y) there.2)

-- an element of a list in strict order stands at one place
never_before : {X : Type 0} (c : X → X → Ordering) → IsTotalOrder c → (xs : List X) (x : X) (i j : ℕ) → IsStrictlySortedBy c xs
    → slice_get xs i ≡ Some x → slice_get xs j ≡ Some x → i < j → ⊥
never_before {X} c total xs x i j sorted at also before =
    let less : c (get_or xs i x) (get_or xs j x) ≡ Less = Less-from_sorted c xs i j x sorted before (slice_get_within xs j x also) in
    let one : get_or xs i x ≡ x = get_or_from_slice_get xs i x x at in
    let other : get_or xs j x ≡ x = get_or_from_slice_get xs j x x also in
    let itself : c x x ≡ Less = ap (λ (y : X). c y x) (sym one) ∙ ap (c (get_or xs i x)) (sym other) ∙ less in
    let tie = tied_itself total x in
    cc

one_place : {X : Type 0} (c : X → X → Ordering) → IsTotalOrder c → (xs : List X) (x : X) (i j : ℕ) → IsStrictlySortedBy c xs
    → slice_get xs i ≡ Some x → slice_get xs j ≡ Some x → i ≡ j
one_place c total xs x i j sorted at also = elim (cases_lt i j) [
  | inl before ↦ absurd (never_before c total xs x i j sorted at also before)
  | inr not_before ↦ elim (cases_lt j i) [
    | inl behind ↦ absurd (never_before c total xs x j i sorted also at behind)
    | inr not_behind ↦ omega arith
  ]
]

-- ---- nodes

nodes_in : (a : AnalysisValue) (g h : GraphValue) → IsGraphOf a g → IsGraphOf a h → AreIn g.nodes h.nodes
nodes_in a g h p q n at = among h.nodes n ((q.nodes n).1 ((p.nodes n).0 (contained g.nodes n at)))

one_node_list : (a : AnalysisValue) (g h : GraphValue) → IsGraphOf a g → IsGraphOf a h → g.nodes ≡ h.nodes
one_node_list a g h p q =
    same_lists (node_cmp a.table) (node_cmp-strict a.table).total g.nodes h.nodes p.ordered q.ordered (nodes_in a g h p q) (nodes_in a h g q p)

-- ---- edges

adjacent : (es : List Edge) → are_in_order es ≡ true → (k : ℕ) (d : Edge) → suc k < length es → comes_before (get_or es k d) (get_or es (suc k) d) ≡ true
adjacent [] ordered k d within = absurd (omega (arith, within))
adjacent (e ∷ []) ordered k d within = absurd (omega (arith, within))
adjacent (e ∷ f ∷ es) ordered zero d within = (and_parts (comes_before e f) (are_in_order (f ∷ es)) ordered).0
adjacent (e ∷ f ∷ es) ordered (suc k) d within =
    adjacent (f ∷ es) (and_parts (comes_before e f) (are_in_order (f ∷ es)) ordered).1 k d (omega (arith, within))

edges_sorted : (es : List Edge) → are_in_order es ≡ true → IsStrictlySortedBy edge_cmp es
edges_sorted es ordered =
    let none : Edge = record { caller = 0; callee = 0 } in
    sorted_from_all_adjacent edge_cmp-strict.total es none
    (λ k below.
    let next : suc k ≡ k + 1 = omega arith in
    let P : ℕ → Type 0 = λ n. edge_cmp (get_or es k none) (get_or es n none) ≡ Less in
    subst P next (before-less (get_or es k none) (get_or es (suc k) none) (adjacent es ordered k none (omega arith))))

led : (es : List Edge) (e : Edge) → IsAmong es e → is_edge es e.caller e.callee ≡ true
led es e at =
    let is : get_or es at.0 e ≡ e = get_or_from_slice_get es at.0 e e at.1 in
    let itself : leads e.caller e.callee e ≡ true = rw (eq-eqb e.caller e.caller refl, eq-eqb e.callee e.callee refl) refl in
    list_any_at (leads e.caller e.callee) es at.0 e (slice_get_within es at.0 e at.1)
    (ap (leads e.caller e.callee) is ∙ itself)

led_by : (es : List Edge) (i j : ℕ) → is_edge es i j ≡ true → IsAmong es (record { caller = i; callee = j })
led_by es i j is =
    let found = Any-from_list_any (leads i j) es is in
    let e : Edge = found.1 in
    let both = and_parts (e.caller == i) (e.callee == j) found.4 in
    let same : e ≡ record { caller = i; callee = j } =
    ap (λ (n : ℕ). record { caller = n; callee = e.callee }) (eqb-true e.caller i both.0)
    ∙ ap (λ (n : ℕ). record { caller = i; callee = n }) (eqb-true e.callee j both.1) in
    subst (IsAmong es) same (among es e (found.0, found.2, found.3))

edges_in : (a : AnalysisValue) (g h : GraphValue) → IsGraphOf a g → IsGraphOf a h → g.nodes ≡ h.nodes → AreIn g.edges h.edges
edges_in a g h p q same e at =
    let within : IsWithin (length g.nodes) e = All-contains (IsWithin (length g.nodes)) g.edges e p.sound.within (contained g.edges e at) in
    let none : Node = record { kind = Rattle.calls_of.specs.declared.nodes.NodeKind.TheVariants.Macro; at = record { file = 0; at = 0 }; name = [] } in
    let m : Node = get_or g.nodes e.caller none in
    let n : Node = get_or g.nodes e.callee none in
    let calls : slice_get g.nodes e.caller ≡ Some m = slice_get-get_or g.nodes e.caller none within.caller in
    let called : slice_get g.nodes e.callee ≡ Some n = slice_get-get_or g.nodes e.callee none within.callee in
    let here : IsCallIn g (call m n) = record { caller = e.caller; callee = e.callee; calls = calls; called = called; led = led g.edges e at } in
    let there : IsCallIn h (call m n) = (q.calls (call m n)).1 ((p.calls (call m n)).0 here) in
    let total = (node_cmp-strict a.table).total in
    let caller : there.caller ≡ e.caller =
    one_place (node_cmp a.table) total g.nodes m there.caller e.caller p.ordered (ap (λ (ns : List Node). slice_get ns there.caller) same ∙ there.calls) calls in
    let callee : there.callee ≡ e.callee =
    one_place (node_cmp a.table) total g.nodes n there.callee e.callee p.ordered (ap (λ (ns : List Node). slice_get ns there.callee) same ∙ there.called) called in
    let P : ℕ → ℕ → Type 0 = λ i j. is_edge h.edges i j ≡ true in
    led_by h.edges e.caller e.callee (subst (P e.caller) callee (subst (λ (i : ℕ). P i there.callee) caller there.led))

-- There is one graph of the calls.
pub one_graph : (a : AnalysisValue) (g h : GraphValue) → IsGraphOf a g → IsGraphOf a h → g ≡ h
one_graph a g h p q =
    let nodes = one_node_list a g h p q in
    let edges : g.edges ≡ h.edges =
    same_lists edge_cmp edge_cmp-strict.total g.edges h.edges (edges_sorted g.edges p.sound.ordered) (edges_sorted h.edges q.sound.ordered)
    (edges_in a g h p q nodes) (edges_in a h g q p (sym nodes)) in
    ap (λ (ns : List Node). graph ns g.edges) nodes ∙ ap (graph h.nodes) edges
