use Rattle.std.proofs.Common.{◌≡◌, ◌∙◌, ◌+◌, length, ap, subst, ℕ, List, arith}
use Rattle.analysis.specs.Below.unit_steps.declared.events.Event.{Event}
use Rattle.unused_names.specs.Lines.{GoOn, lines_in}
use Rattle.unused_names.proofs.LineLemmas.{go_on_both, go_on_none}
use Rattle.unused_names.proofs.lines.Lines.push_unit.Goals as goal

pub loop-k-init : goal.loop-k-init
loop-k-init c = go_on_none c.args.text.now c.args.bound.now.names 0 (lines_in c.args.self.now.all.items c.args.self.now.needed)

pub loop-k-preserved : goal.loop-k-preserved
loop-k-preserved c =
    let self = c.args.self.now in
    let now = c.loop-k.self in
    let new = c.push_event.new.self in
    go_on_both c.args.text.now c.args.bound.now.names 0 c.loop-k.k (c.loop-k.k + 1) (lines_in self.all.items self.needed) (lines_in now.all.items now.needed)
    (lines_in new.all.items new.needed) c.loop-k.invariant c.in_ok-push_event.ensures

pub returns : goal.returns
returns c =
    let text = c.args.text.now in
    let self = c.args.self.now in
    let now = c.loop-k.self in
    let long : c.loop-k.k ≡ length c.events-events.result.now = omega (arith, c.loop-k-test.false, c.loop-k.auto.k-end) in
    let all : c.loop-k.k ≡ length text.events = long ∙ ap (λ (es : List Event). length es) c.events-events.ensures in
    let P : ℕ → Type 0 = λ n. GoOn text c.args.bound.now.names 0 n (lines_in self.all.items self.needed) (lines_in now.all.items now.needed) in
    subst P all c.loop-k.invariant
