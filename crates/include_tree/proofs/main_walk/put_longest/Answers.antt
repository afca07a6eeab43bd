use Rattle.std.proofs.Common.{◌≤◌, List, length, refl, sym, ◌∙◌, ap, subst}
use Rattle.unit_steps.specs.Moments.{state_in}
use Rattle.include_tree.specs.declared.leads.Lead.{Lead}
use Rattle.include_tree.specs.Fronts.{AreLinesOf, Fits, trail_texts, with_pieces}
use Rattle.include_tree.proofs.AlongLemmas.{front-along, front-rest, front-place, none-along, none-rests, begun-place, put-room, put-counted}
use Rattle.include_tree.proofs.main_walk.put_longest.Goals as goal

pub put_front-requires-clause-lines : goal.put_front-requires-clause-lines
put_front-requires-clause-lines c =
    subst (λ (ls : List Lead). AreLinesOf c.in-Some.front.now.trail.lines.items ls) (c.as_slice.ensures.value ∙ sym c.as_slice-in-Some.ensures.value) c.in-Some.ensures.fits.lines

pub put_front-requires-clause-texts : goal.put_front-requires-clause-texts
put_front-requires-clause-texts c =
    put-counted c.args.unit.now c.args.cache.now.table c.args.pseudo c.args.p.now.most c.args.cache.now.toks (state_in c.args.cache.now.table c.args.p.now) c.args.p.now.text c.in-Some.front.now c.in_ok-leads.leads.items
    c.requires.begun (c.in-Some.ensures.is c.args.cache.now.table c.requires.fronts)
    (subst (λ (ls : List Lead). Fits c.args.unit.now c.args.pseudo ls c.args.p.now.most c.in-Some.front.now) c.as_slice.ensures.value c.in-Some.ensures.fits) refl c.requires.ready.able.few c.requires.ready.limited

pub put_front-requires-clause-few : goal.put_front-requires-clause-few
put_front-requires-clause-few c =
    subst (λ (ls : List Lead). length (with_pieces c.args.main 0 ls (trail_texts c.in-Some.front.now.trail) c.args.p.now.text).toks ≤ c.args.p.now.most) (sym c.as_slice-in-Some.ensures.value)
    (put-room c.args.unit.now c.args.cache.now.table c.args.pseudo c.args.p.now.most c.args.cache.now.toks (state_in c.args.cache.now.table c.args.p.now) c.args.p.now.text c.in-Some.front.now c.in_ok-leads.leads.items
    c.requires.begun (c.in-Some.ensures.is c.args.cache.now.table c.requires.fronts)
    (subst (λ (ls : List Lead). Fits c.args.unit.now c.args.pseudo ls c.args.p.now.most c.in-Some.front.now) c.as_slice.ensures.value c.in-Some.ensures.fits) refl c.requires.ready.able.few c.requires.ready.limited c.args.main)

pub put_front-requires-clause-little : goal.put_front-requires-clause-little
put_front-requires-clause-little c = (c.in-Some.ensures.is c.args.cache.now.table c.requires.fronts).little

pub put_front-requires-clause-traced : goal.put_front-requires-clause-traced
put_front-requires-clause-traced c = (c.in-Some.ensures.is c.args.cache.now.table c.requires.fronts).traced

pub returns-in-Some-clause-answer : goal.returns-in-Some-clause-answer
returns-in-Some-clause-answer c = λ source.
    front-rest c.args.unit.now c.args.cache.now.table c.args.pseudo c.args.main c.args.p.now.most c.args.cache.now.toks c.args.p.now c.put_front.new.p c.in-Some.front.now c.in_ok-leads.leads.items c.in_ok-trail-in-Some.trail
    c.requires.begun (c.in-Some.ensures.is c.args.cache.now.table c.requires.fronts)
    (subst (λ (ls : List Lead). Fits c.args.unit.now c.args.pseudo ls c.args.p.now.most c.in-Some.front.now) c.as_slice.ensures.value c.in-Some.ensures.fits) c.requires.ready.able.few c.requires.ready.limited c.in_ok-leads.ensures
    (c.in_ok-trail-in-Some.ensures.text ∙ ap (λ (ls : List Lead). with_pieces c.args.main 0 ls (trail_texts c.in-Some.front.now.trail) c.args.p.now.text) c.as_slice-in-Some.ensures.value)
    (c.in_ok-trail-in-Some.ensures.state c.args.cache.now.table) c.in_ok-trail-in-Some.ensures.same source

pub returns-in-Some-clause-along : goal.returns-in-Some-clause-along
returns-in-Some-clause-along c =
    front-along c.args.unit.now c.args.cache.now.table c.args.pseudo c.args.main c.args.p.now.most c.args.cache.now.toks c.args.p.now c.put_front.new.p c.in-Some.front.now c.in_ok-leads.leads.items c.in_ok-trail-in-Some.trail
    c.requires.begun (c.in-Some.ensures.is c.args.cache.now.table c.requires.fronts)
    (subst (λ (ls : List Lead). Fits c.args.unit.now c.args.pseudo ls c.args.p.now.most c.in-Some.front.now) c.as_slice.ensures.value c.in-Some.ensures.fits) c.requires.ready.able.few c.requires.ready.limited c.in_ok-leads.ensures
    (c.in_ok-trail-in-Some.ensures.text ∙ ap (λ (ls : List Lead). with_pieces c.args.main 0 ls (trail_texts c.in-Some.front.now.trail) c.args.p.now.text) c.as_slice-in-Some.ensures.value)
    (c.in_ok-trail-in-Some.ensures.state c.args.cache.now.table) c.in_ok-trail-in-Some.ensures.same c.requires.kept

pub returns-in-Some-clause-place : goal.returns-in-Some-clause-place
returns-in-Some-clause-place c =
    front-place c.args.cache.now.table c.args.p.now c.put_front.new.p c.in-Some.front.now c.args.unit.now c.args.pseudo c.requires.begun (c.in_ok-trail-in-Some.ensures.state c.args.cache.now.table)

pub returns-clause-answer : goal.returns-clause-answer
returns-clause-answer c = λ source.
    none-rests c.args.unit.now c.args.cache.now.table c.args.main c.args.cache.now.toks c.args.p.now c.new.result c.new.ensures.0 source

pub returns-clause-along : goal.returns-clause-along
returns-clause-along c =
    none-along c.args.unit.now c.args.cache.now.table c.args.pseudo (state_in c.args.cache.now.table c.args.p.now) c.args.p.now.text c.new.result c.requires.begun c.new.ensures.0 c.new.ensures.1

pub returns-clause-place : goal.returns-clause-place
returns-clause-place c = begun-place c.args.cache.now.table c.args.p.now c.args.unit.now c.args.pseudo c.requires.begun
