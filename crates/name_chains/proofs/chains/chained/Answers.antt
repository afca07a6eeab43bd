use Rattle.std.proofs.Common.{◌&&◌, ap}
use Rattle.std.specs.Borrow.{Bor}
use Rattle.std.specs.Option.{option_map}
use Rattle.c_types.specs.declared.declarations.Declaration.{Declaration}
use Rattle.c_types.specs.Declarations.{is_named}
use Rattle.name_chains.specs.Latest.{passes}
use Rattle.name_chains.specs.Links.{has_key}
use Rattle.name_chains.specs.Chains.{name_key, name_key_of}
use Rattle.name_chains.proofs.ChainLemmas.{search_all, search_found, search_on}
use Rattle.name_chains.proofs.ChainedMore.{named_by, apart}
use Rattle.name_chains.proofs.ChainedOver.{sought_down}
use Rattle.name_chains.proofs.chains.chained.Goals as goal

pub chain-init : goal.chain-init
chain-init c =
    search_all (has_key (name_key_of c.args.numbers.now) (name_key c.args.numbers.now c.args.space c.args.i))
    (λ d. is_named c.args.toks.now c.args.space c.args.i d && passes c.args.asked d) (apart c.args.toks.now c.args.numbers.now c.requires.numbered c.args.space c.args.i (passes c.args.asked))
    c.args.declared.now c.args.names.now.before c.newest-place.result
    (named_by c.args.numbers.now c.args.declared.now c.args.names.now c.args.space c.args.i c.name_key.result c.newest-place.result
    c.requires.chained c.name_key.ensures c.newest-place.ensures)

pub returns-in-Some : goal.returns-in-Some
returns-in-Some c =
    search_found (has_key (name_key_of c.args.numbers.now) (name_key c.args.numbers.now c.args.space c.args.i))
    (λ d. is_named c.args.toks.now c.args.space c.args.i d && passes c.args.asked d) (apart c.args.toks.now c.args.numbers.now c.requires.numbered c.args.space c.args.i (passes c.args.asked))
    c.args.declared.now c.chain.place (option_map (λ (d : Bor Declaration). d.now) c.tested.result) c.in-Some.d.now c.chain.invariant
    c.chain-test.true c.tested.ensures (ap (option_map (λ (d : Bor Declaration). d.now)) c.in-Some.is)

pub chain-smaller : goal.chain-smaller
chain-smaller c =
    (sought_down c.args.toks.now c.args.numbers.now c.requires.numbered c.args.space c.args.i c.args.asked c.args.declared.now c.args.names.now.before
    c.args.over.now c.newest-place.result
    (named_by c.args.numbers.now c.args.declared.now c.args.names.now c.args.space c.args.i c.name_key.result c.newest-place.result
    c.requires.chained c.name_key.ensures c.newest-place.ensures)
    c.requires.over c.chain.place c.next_place-place.result c.chain.invariant c.chain-test.true c.next_place-place.ensures).1

pub chain-preserved : goal.chain-preserved
chain-preserved c =
    search_on (has_key (name_key_of c.args.numbers.now) (name_key c.args.numbers.now c.args.space c.args.i))
    (λ d. is_named c.args.toks.now c.args.space c.args.i d && passes c.args.asked d) (apart c.args.toks.now c.args.numbers.now c.requires.numbered c.args.space c.args.i (passes c.args.asked))
    c.args.declared.now c.chain.place c.next_place-place.result (option_map (λ (d : Bor Declaration). d.now) c.tested.result)
    c.chain.invariant c.chain-test.true c.tested.ensures (ap (option_map (λ (d : Bor Declaration). d.now)) c.in_default.is)
    (sought_down c.args.toks.now c.args.numbers.now c.requires.numbered c.args.space c.args.i c.args.asked c.args.declared.now c.args.names.now.before
    c.args.over.now c.newest-place.result
    (named_by c.args.numbers.now c.args.declared.now c.args.names.now c.args.space c.args.i c.name_key.result c.newest-place.result
    c.requires.chained c.name_key.ensures c.newest-place.ensures)
    c.requires.over c.chain.place c.next_place-place.result c.chain.invariant c.chain-test.true c.next_place-place.ensures).0
