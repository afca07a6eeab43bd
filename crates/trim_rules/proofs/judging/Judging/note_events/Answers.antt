use Rattle.std.proofs.Common.{◌≡◌, ◌∙◌, ℕ, List, sym, ap, subst, length, arith}
use Rattle.std.specs.Option.{option_or}
use Rattle.analysis.specs.Below.unit_steps.declared.events.Event.{Event}
use Rattle.analysis.specs.Below.unit_steps.Texts.{UnitTextValue}
use Rattle.trim_rules.specs.Judging.{told_of, Learns}
use Rattle.trim_rules.specs.Numbers.{first_answer}
use Rattle.trim_rules.specs.Staying.{event_why}
use Rattle.trim_rules.proofs.JudgingLemmas.{events-begin, events-next}
use Rattle.trim_rules.proofs.judging.Judging.note_events.Goals as goal

pub loop-k-init : goal.loop-k-init
loop-k-init c = λ table u are. events-begin table u (told_of c.args.self.now.whys)

pub loop-k-preserved : goal.loop-k-preserved
loop-k-preserved c = λ table u are.
    events-next table u c.loop-k.k (told_of c.args.self.now.whys) (told_of c.loop-k.self.whys) (told_of c.note_event.new.self.whys)
    (c.loop-k.invariant table u are) (c.in_ok-note_event.ensures table u are)

pub returns : goal.returns
returns c = λ table u are.
    let own : c.args.events.now ≡ u.text.events = sym c.requires.own ∙ ap (λ (t : UnitTextValue). t.events) are.text in
    let all : c.loop-k.k ≡ length c.args.events.now = omega (arith, c.loop-k-test.false, c.loop-k.auto.k-end) in
    subst (λ (n : ℕ). Learns (λ p w. option_or w (first_answer (event_why table p u) n)) (told_of c.args.self.now.whys) (told_of c.loop-k.self.whys))
    (all ∙ ap (λ (es : List Event). length es) own) (c.loop-k.invariant table u are)
