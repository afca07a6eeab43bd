use Rattle.std.proofs.Common.{◌≡◌, ◌≤◌, ◌-◌, ◌∙◌, true, false, List, length, take, drop, subst, sym, ap, arith, rules, length-drop}
use Rattle.std.specs.Prelude.{nat_lt, nat_le}
use Rattle.std.specs.List.Sorted.{IsNonDecreasingBy, IsPartitionPoint}
use Rattle.std.proofs.lemmas.List.Sorted.{IsPartitionedBy-ltb, IsPartitionedBy-leb, IsPartitionPoint-from_clause}
use Rattle.std.proofs.lemmas.List.{take_all}
use Rattle.calls_of.specs.declared.nodes.Edge.{Edge}
use Rattle.calls_of.specs.Graph.{are_in_order, edges_of}
use Rattle.calls_of.proofs.GraphOrderLemmas.{callers-rise, rise-drop, edges-between}
use Rattle.calls_of.proofs.call_graph.Graph.edges_from.Goals as goal

pub returns : goal.returns
returns c =
    let edges = c.args.self.now.edges in
    let node = c.args.node in
    let xs = c.as_slice-edges.result.now in
    let start = c.partition_point-start.result in
    let count = c.partition_point-count.result in
    let ordered : are_in_order edges ≡ true = search rules in
    let is : xs ≡ edges = search rules in
    let rise : IsNonDecreasingBy (λ e. e.caller) xs =
    subst (λ (es : List Edge). IsNonDecreasingBy (λ e. e.caller) es) (sym is) (callers-rise edges ordered) in
    let within : start ≤ length xs = c.partition_point-start.ensures.bound in
    let rest : List Edge = take (length xs - start) (drop start xs) in
    let whole : take (length xs - start) (drop start xs) ≡ drop start xs =
    take_all (length xs - start) (drop start xs) (omega (arith, length-drop start xs)) in
    let low : IsPartitionPoint (λ (e : Edge). nat_lt e.caller node ≡ true) (λ e. nat_lt e.caller node ≡ false) xs start =
    IsPartitionPoint-from_clause (λ (e : Edge). nat_lt e.caller node) xs start c.partition_point-start.ensures.partitioned
    (IsPartitionedBy-ltb (λ (e : Edge). e.caller) xs node rise) (λ a r q k. search rules) in
    let rest_rise : IsNonDecreasingBy (λ (e : Edge). e.caller) rest =
    subst (λ (es : List Edge). IsNonDecreasingBy (λ e. e.caller) es) (sym whole) (rise-drop start xs rise) in
    let high : IsPartitionPoint (λ (e : Edge). nat_le e.caller node ≡ true) (λ e. nat_le e.caller node ≡ false) rest count =
    IsPartitionPoint-from_clause (λ (e : Edge). nat_le e.caller node) rest count c.partition_point-count.ensures.partitioned
    (IsPartitionedBy-leb (λ (e : Edge). e.caller) rest node rest_rise) (λ a r q k. search rules) in
    ap (λ (es : List Edge). take count es) whole
    ∙ edges-between xs node start count within low
    (subst (λ (es : List Edge). IsPartitionPoint (λ e. nat_le e.caller node ≡ true) (λ e. nat_le e.caller node ≡ false) es count) whole high)
    ∙ ap (edges_of node) is
