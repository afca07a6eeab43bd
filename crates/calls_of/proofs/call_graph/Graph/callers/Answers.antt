use Rattle.std.proofs.Common.{◌≡◌, ◌<◌, ◌∙◌, List, ℕ, Bool, length, take, subst, ap, rules}
use Rattle.std.specs.Prelude.{IfOk}
use Rattle.std.proofs.lemmas.List.{take_all}
use Rattle.calls_of.specs.declared.nodes.Edge.{Edge}
use Rattle.calls_of.specs.Graph.{is_edge, numbers_of, callers_of}
use Rattle.calls_of.specs.Walking.{is_marked, marked_numbers}
use Rattle.calls_of.proofs.GraphListLemmas.{numbers-agree}
use Rattle.calls_of.proofs.call_graph.Graph.callers.Goals as goal

pub returns : goal.returns
returns c =
    let g = c.args.self.now in
    let marks = c.loop-edge.marks in
    let test : ℕ → Bool = λ (m : ℕ). is_edge g.edges m c.args.node in
    let whole : take c.loop-edge.edge-index g.edges ≡ g.edges = search (rules, take_all) in
    let told : (m : ℕ) → m < length marks → is_marked marks m ≡ test m =
    λ m below. c.loop-edge.invariant.1 m below ∙ ap (λ (es : List Edge). is_edge es m c.args.node) whole in
    let same : marked_numbers marks ≡ callers_of g c.args.node =
    numbers-agree (is_marked marks) test (length marks) told ∙ ap (numbers_of test) c.loop-edge.invariant.0 in
    subst (λ (ms : List ℕ). IfOk c.numbers.result (λ ns. ns.items ≡ ms)) same c.numbers.ensures
