use Rattle.std.proofs.Common.{rules, ◌≡◌, ◌++◌, List, ap, ◌∙◌}
use Rattle.calls_of.specs.declared.nodes.Node.{Node}
use Rattle.calls_of.specs.Calls.{Call}
use Rattle.calls_of.specs.InUnits.{owner_by, first_by}
use Rattle.calls_of.proofs.UnitLemmas.{unit-calls, unit-nodes}
use Rattle.calls_of.proofs.found.add_unit.Goals as goal

pub returns-clause-calls : goal.returns-clause-calls
returns-clause-calls c =
    let u = c.args.read.now in
    let one = c.in_ok-one.one in
    let known = c.args.known.now in
    let text = c.text-text.result.now in
    let read = c.text-text.ensures in
    let is = c.bound-bound.ensures in
    let own : one.project.now ≡ c.args.unit.now.project = search rules in
    let toks : one.toks.now ≡ text.toks = search rules in
    let bound : one.bound.now ≡ c.bound-bound.result.now = search rules in
    let events : c.events-events.result.now ≡ text.events = search rules in
    c.in_ok-push_calls.ensures
    ∙ ap (λ (cs : List Call). c.args.calls.now.items ++ cs)
    (unit-calls c.args.a.now.value c.args.unit.now u (owner_by known) (first_by known) one.project.now one.toks.now one.bound.now c.events-events.result.now
    c.requires.known.owners c.requires.known.firsts own (toks ∙ ap (λ t. t.toks) read) (bound ∙ is) (events ∙ ap (λ t. t.events) read))

pub returns-clause-nodes : goal.returns-clause-nodes
returns-clause-nodes c =
    let u = c.args.read.now in
    let one = c.in_ok-one.one in
    let known = c.args.known.now in
    let text = c.text-text.result.now in
    let read = c.text-text.ensures in
    let is = c.bound-bound.ensures in
    let own : one.project.now ≡ c.args.unit.now.project = search rules in
    let toks : one.toks.now ≡ text.toks = search rules in
    let bound : one.bound.now ≡ c.bound-bound.result.now = search rules in
    let events : c.events-events.result.now ≡ text.events = search rules in
    c.in_ok-push_nodes.ensures
    ∙ ap (λ (cs : List Node). c.args.nodes.now.items ++ cs)
    (unit-nodes c.args.a.now.value c.args.unit.now u (owner_by known) (first_by known) one.project.now one.toks.now one.bound.now c.events-events.result.now
    c.requires.known.owners c.requires.known.firsts own (toks ∙ ap (λ t. t.toks) read) (bound ∙ is) (events ∙ ap (λ t. t.events) read))
