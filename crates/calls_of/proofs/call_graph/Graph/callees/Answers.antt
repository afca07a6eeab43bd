use Rattle.std.proofs.Common.{◌≡◌, ◌<◌, ◌∙◌, List, ℕ, Bool, length, take, subst, ap, rules}
use Rattle.std.specs.Prelude.{IfOk, ◌==◌}
use Rattle.std.specs.List.{list_any}
use Rattle.std.proofs.lemmas.List.{take_all}
use Rattle.calls_of.specs.declared.nodes.Edge.{Edge}
use Rattle.calls_of.specs.Graph.{is_edge, edges_of, numbers_of, callees_of}
use Rattle.calls_of.specs.Walking.{is_marked, marked_numbers}
use Rattle.calls_of.proofs.GraphOrderLemmas.{any-own}
use Rattle.calls_of.proofs.GraphListLemmas.{numbers-agree}
use Rattle.calls_of.proofs.call_graph.Graph.callees.Goals as goal

pub returns : goal.returns
returns c =
    let g = c.args.self.now in
    let marks = c.loop-edge.marks in
    let test : ℕ → Bool = λ (m : ℕ). is_edge g.edges c.args.node m in
    let own = c.edges_from-edge-items.result.now in
    let whole : take c.loop-edge.edge-index own ≡ own = search (rules, take_all) in
    let is : own ≡ edges_of c.args.node g.edges = c.edges_from-edge-items.ensures in
    let told : (m : ℕ) → m < length marks → is_marked marks m ≡ test m =
    λ m below. c.loop-edge.invariant.1 m below ∙ ap (λ (es : List Edge). list_any (λ e. e.callee == m) es) (whole ∙ is) ∙ any-own g.edges c.args.node m in
    let same : marked_numbers marks ≡ callees_of g c.args.node =
    numbers-agree (is_marked marks) test (length marks) told ∙ ap (numbers_of test) c.loop-edge.invariant.0 in
    subst (λ (ms : List ℕ). IfOk c.numbers.result (λ ns. ns.items ≡ ms)) same c.numbers.ensures
