use Rattle.std.proofs.Common.{◌≡◌, ◌++◌, ◌∷◌, [], All, false, length, replicate, subst, sym, ap, ◌∙◌, rules}
use Rattle.std.specs.List.{fold}
use Rattle.calls_of.specs.Graph.{edges_of, IsWithin}
use Rattle.calls_of.specs.Walking.{WalkValue, walk, marked_numbers, followed}
use Rattle.calls_of.specs.Reaching.{Lists, Reaches}
use Rattle.calls_of.proofs.GraphListLemmas.{ok-then}
use Rattle.calls_of.proofs.GraphOrderLemmas.{fold-own}
use Rattle.calls_of.proofs.WalkLemmas.{Grown, IsWalk, walk-begins, walk-goes, walk-less, walk-ends, walk-parts, grown}
use Rattle.calls_of.proofs.call_graph.Graph.reachable.Goals as goal

pub loop-from-init : goal.loop-from-init
loop-from-init c =
    let g = c.args.self.now in
    let begins : c.in_ok-walk.walk ≡ walk (replicate (length g.nodes) false) (c.args.node ∷ []) = search rules in
    subst (IsWalk g.edges (length g.nodes) c.args.node) (sym begins) (walk-begins g.edges (length g.nodes) c.args.node)

follows : (c : goal.In_ok-follow) → Grown c.in-Some.from c.args.self.now.edges (walk c.loop-from.walk.marks c.next.new.self.work) c.follow.new.self
follows c =
    let edges = c.args.self.now.edges in
    let from = c.in-Some.from in
    let before : c.next.new.self ≡ walk c.loop-from.walk.marks c.next.new.self.work =
    walk-parts c.next.new.self c.loop-from.walk.marks c.in-Some.ensures.marks in
    let after : c.follow.new.self ≡ fold (followed from) c.next.new.self (edges_of from edges) = search rules in
    subst (Grown from edges (walk c.loop-from.walk.marks c.next.new.self.work))
    (sym (after ∙ fold-own from edges c.next.new.self ∙ ap (λ (w : WalkValue). fold (followed from) w edges) before))
    (grown from edges (walk c.loop-from.walk.marks c.next.new.self.work))

waited : (c : goal.In_ok-follow) → c.loop-from.walk.work ≡ c.next.new.self.work ++ c.in-Some.from ∷ []
waited c = c.in-Some.ensures.work

pub loop-from-preserved : goal.loop-from-preserved
loop-from-preserved c =
    let g = c.args.self.now in
    let within : All (IsWithin (length g.nodes)) g.edges = search rules in
    walk-goes g.edges (length g.nodes) c.args.node c.in-Some.from c.loop-from.walk c.follow.new.self c.next.new.self.work within
    c.loop-from.invariant (waited c) (follows c)

pub loop-from-smaller : goal.loop-from-smaller
loop-from-smaller c =
    walk-less c.args.self.now.edges c.in-Some.from c.loop-from.walk c.follow.new.self c.next.new.self.work (waited c) (follows c)

pub returns : goal.returns
returns c =
    let g = c.args.self.now in
    let w = c.next.new.self in
    let none : c.loop-from.walk.work ≡ [] = c.in_default.ensures.work in
    let lists : Lists (Reaches g.edges c.args.node) (marked_numbers w.marks) =
    rw c.in_default.ensures.marks (walk-ends g.edges (length g.nodes) c.args.node c.loop-from.walk c.loop-from.invariant none) in
    ok-then (λ ns. ns.items ≡ marked_numbers w.marks) (λ ns. Lists (Reaches g.edges c.args.node) ns.items) c.met.result
    (λ ns is. subst (Lists (Reaches g.edges c.args.node)) (sym is) lists) c.met.ensures
