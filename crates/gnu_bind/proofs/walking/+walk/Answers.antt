use Rattle.std.proofs.Common.{sym, ap, ◌+◌, ◌∙◌, ◌++◌, arith}
use Rattle.std.proofs.lemmas.List.{append-nil}
use Rattle.std.proofs.lemmas.Result.{on_ok_weaker}
use Rattle.c_types.specs.Children.{from_child}
use Rattle.scope_bind.specs.Below.name_chains.Frames.{state}
use Rattle.c_types.specs.Lists.{calls_in, lists_in, bare_in}
use Rattle.gnu_bind.specs.Walk.{walked}
use Rattle.c_types.proofs.ChildWalks.{from_child-end}
use Rattle.gnu_bind.proofs.WalkLemmas.{walked-end, walked-token, walked-node, known-left}
use Rattle.gnu_bind.proofs.walking.+walk.Goals as goal

pub walk-returns-clause-walked : goal.walk-returns-clause-walked
walk-returns-clause-walked t c =
    walked-end c.children.facts.toks c.args.sense (from_child c.children.k c.args.tree.now.under) (state c.children.facts.facts c.children.f)
    (from_child-end c.args.tree.now.under c.children.k (omega (arith, c.children-test.false, c.len-count.ensures)))
    ∙ c.children.invariant.rest

pub walk_at-returns-in-End-clause-walked : goal.walk_at-returns-in-End-clause-walked
walk_at-returns-in-End-clause-walked t c =
    ap (λ f. walked c.args.facts.now.toks c.args.sense f (state c.args.facts.now.facts c.args.f.now)) (sym c.in-End.ensures.here)

pub walk_at-returns-in-Token-clause-walked : goal.walk_at-returns-in-Token-clause-walked
walk_at-returns-in-Token-clause-walked t c =
    let toks = c.args.facts.now.toks in
    let rest = from_child (c.args.k + 1) c.args.tree.now.under in
    let here = from_child c.args.k c.args.tree.now.under in
    let s = state c.args.facts.now.facts c.args.f.now in
    on_ok_weaker c.read.result
    (λ e. ap (walked toks c.args.sense rest) e ∙ walked-token toks c.args.sense here rest c.in-Token.i s c.in-Token.ensures.here)
    c.read.ensures.read

pub walk_at-returns-in_ok-add-in-Node-clause-walked : goal.walk_at-returns-in_ok-add-in-Node-clause-walked
walk_at-returns-in_ok-add-in-Node-clause-walked t c =
    let toks = c.args.facts.now.toks in
    let rest = from_child (c.args.k + 1) c.args.tree.now.under in
    let here = from_child c.args.k c.args.tree.now.under in
    let s = state c.args.facts.now.facts c.args.f.now in
    on_ok_weaker c.walk_node.result
    (λ e. ap (walked toks c.args.sense rest) e
    ∙ walked-node toks c.args.sense here rest c.in-Node.inner.now.under c.in-Node.inner.now.label c.in-Node.inner.now.first s c.in-Node.ensures.here)
    c.walk_node.ensures.walked

pub walk_node-returns-clause-walked : goal.walk_node-returns-clause-walked
walk_node-returns-clause-walked t c =
    let u = c.args.inner.now.under in
    let l = c.args.inner.now.label in
    let first = c.args.inner.now.first in
    on_ok_weaker c.go_on.result
    (λ e. known-left c.args.sense u l first c.args.facts.now c.enter.new.self c.walk.new.facts c.leave.new.facts c.toks-2.result.now c.toks.result.now
    c.args.f.now c.in_ok-child.child c.walk.new.f c.go_on.new.f c.sense_in-below.result
    c.in_ok-child.ensures c.toks.ensures c.sense_in-below.ensures c.in_ok-enter.ensures c.in_ok-walk.ensures.toks c.in_ok-walk.ensures.walked c.in_ok-leave.ensures c.toks-2.ensures e)
    c.go_on.ensures

pub walk-returns-clause-lists : goal.walk-returns-clause-lists
walk-returns-clause-lists t c =
    sym (append-nil c.children.shown.lists.items)
    ∙ (ap (λ f. c.children.shown.lists.items ++ lists_in f)
    (sym (from_child-end c.args.tree.now.under c.children.k (omega (arith, c.children-test.false, c.len-count.ensures))))
    ∙ c.children.invariant.lists)

pub walk-returns-clause-calls : goal.walk-returns-clause-calls
walk-returns-clause-calls t c =
    sym (append-nil c.children.shown.calls.items)
    ∙ (ap (λ f. c.children.shown.calls.items ++ calls_in f)
    (sym (from_child-end c.args.tree.now.under c.children.k (omega (arith, c.children-test.false, c.len-count.ensures))))
    ∙ c.children.invariant.calls)

pub walk-returns-clause-bare : goal.walk-returns-clause-bare
walk-returns-clause-bare t c =
    sym (append-nil c.children.shown.bare.items)
    ∙ (ap (λ f. c.children.shown.bare.items ++ bare_in f)
    (sym (from_child-end c.args.tree.now.under c.children.k (omega (arith, c.children-test.false, c.len-count.ensures))))
    ∙ c.children.invariant.bare)

pub walk_at-returns-in-Token-clause-lists : goal.walk_at-returns-in-Token-clause-lists
walk_at-returns-in-Token-clause-lists t c =
    on_ok_weaker c.read.result (λ _. ap (λ f. c.args.shown.now.lists.items ++ lists_in f) (sym c.in-Token.ensures.here)) c.read.ensures.toks

pub walk_at-returns-in-Token-clause-calls : goal.walk_at-returns-in-Token-clause-calls
walk_at-returns-in-Token-clause-calls t c =
    on_ok_weaker c.read.result (λ _. ap (λ f. c.args.shown.now.calls.items ++ calls_in f) (sym c.in-Token.ensures.here)) c.read.ensures.toks

pub walk_at-returns-in-Token-clause-bare : goal.walk_at-returns-in-Token-clause-bare
walk_at-returns-in-Token-clause-bare t c =
    on_ok_weaker c.read.result (λ _. ap (λ f. c.args.shown.now.bare.items ++ bare_in f) (sym c.in-Token.ensures.here)) c.read.ensures.toks

pub walk_node-returns-clause-lists : goal.walk_node-returns-clause-lists
walk_node-returns-clause-lists t c = on_ok_weaker c.go_on.result (λ _. c.in_ok-walk.ensures.lists) c.go_on.ensures

pub walk_node-returns-clause-calls : goal.walk_node-returns-clause-calls
walk_node-returns-clause-calls t c = on_ok_weaker c.go_on.result (λ _. c.in_ok-walk.ensures.calls) c.go_on.ensures

pub walk_node-returns-clause-bare : goal.walk_node-returns-clause-bare
walk_node-returns-clause-bare t c = on_ok_weaker c.go_on.result (λ _. c.in_ok-walk.ensures.bare) c.go_on.ensures
