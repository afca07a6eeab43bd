use Rattle.std.proofs.Common.{◌++◌, map, ap, ◌∙◌, arith}
use Rattle.std.specs.Option.{option_to_list}
use Rattle.name_chains.specs.Members.{is_found_in, lifted}
use Rattle.name_chains.proofs.ChainedMore.{found_by}
use Rattle.name_chains.proofs.LiftLemmas.{lift_begins, lift_on, lift_ends}
use Rattle.name_chains.proofs.structures.lifted_from.Goals as goal

pub chain-init : goal.chain-init
chain-init c =
    lift_begins (is_found_in c.args.number) (lifted c.args.owner) c.args.declared.now c.args.found.now.before c.newest-place.result
    (found_by c.args.declared.now c.args.found.now c.args.number c.found_key.result c.newest-place.result c.requires.held c.found_key.ensures
    c.newest-place.ensures)
    c.new-all.result.items c.new-all.ensures.items

pub chain-smaller : goal.chain-smaller
chain-smaller c =
    (lift_on (is_found_in c.args.number) (lifted c.args.owner) c.args.declared.now c.args.found.now.before c.newest-place.result
    (found_by c.args.declared.now c.args.found.now c.args.number c.found_key.result c.newest-place.result c.requires.held c.found_key.ensures
    c.newest-place.ensures)
    c.chain.all.items c.lift.new.all.items c.chain.place c.before-place.result c.chain.invariant c.chain-test.true
    (c.in_ok-lift.ensures ∙ ap (λ o. c.chain.all.items ++ map (lifted c.args.owner) (option_to_list o)) c.declaration_at.ensures)
    c.before-place.ensures).1

pub chain-preserved : goal.chain-preserved
chain-preserved c =
    (lift_on (is_found_in c.args.number) (lifted c.args.owner) c.args.declared.now c.args.found.now.before c.newest-place.result
    (found_by c.args.declared.now c.args.found.now c.args.number c.found_key.result c.newest-place.result c.requires.held c.found_key.ensures
    c.newest-place.ensures)
    c.chain.all.items c.lift.new.all.items c.chain.place c.before-place.result c.chain.invariant c.chain-test.true
    (c.in_ok-lift.ensures ∙ ap (λ o. c.chain.all.items ++ map (lifted c.args.owner) (option_to_list o)) c.declaration_at.ensures)
    c.before-place.ensures).0

pub returns : goal.returns
returns c =
    lift_ends (is_found_in c.args.number) (lifted c.args.owner) c.args.declared.now c.chain.all.items c.chain.place c.chain.invariant
    (omega (arith, c.chain-test.false))
