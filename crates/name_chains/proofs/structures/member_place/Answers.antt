use Rattle.std.proofs.Common.{arith}
use Rattle.c_types.specs.declared.declarations.Space.TheVariants.{Members as members}
use Rattle.name_chains.proofs.ChainedMore.{named_by}
use Rattle.name_chains.proofs.MemberLemmas.{name_begins, name_on, name_found, name_lost}
use Rattle.name_chains.proofs.structures.member_place.Goals as goal

pub chain-init : goal.chain-init
chain-init c =
    name_begins c.args.name_at c.args.number c.args.numbers.now c.args.declared.now c.args.names.now.before c.newest-place.result
    (named_by c.args.numbers.now c.args.declared.now c.args.names.now (members c.args.number) c.args.name_at c.name_key.result c.newest-place.result
    c.requires.chained c.name_key.ensures c.newest-place.ensures)

pub returns-then-is_member_at : goal.returns-then-is_member_at
returns-then-is_member_at c =
    name_found c.args.name_at c.args.number c.args.numbers.now c.args.declared.now c.args.names.now.before c.newest-place.result
    (named_by c.args.numbers.now c.args.declared.now c.args.names.now (members c.args.number) c.args.name_at c.name_key.result c.newest-place.result
    c.requires.chained c.name_key.ensures c.newest-place.ensures)
    c.chain.place c.is_member_at.result c.chain.invariant c.chain-test.true c.is_member_at.ensures c.if-is_member_at.true

pub chain-smaller : goal.chain-smaller
chain-smaller c =
    (name_on c.args.name_at c.args.number c.args.numbers.now c.args.declared.now c.args.names.now.before c.newest-place.result
    (named_by c.args.numbers.now c.args.declared.now c.args.names.now (members c.args.number) c.args.name_at c.name_key.result c.newest-place.result
    c.requires.chained c.name_key.ensures c.newest-place.ensures)
    c.chain.place c.before-place.result c.is_member_at.result c.chain.invariant c.chain-test.true c.is_member_at.ensures c.if-is_member_at.false
    c.before-place.ensures).1

pub chain-preserved : goal.chain-preserved
chain-preserved c =
    (name_on c.args.name_at c.args.number c.args.numbers.now c.args.declared.now c.args.names.now.before c.newest-place.result
    (named_by c.args.numbers.now c.args.declared.now c.args.names.now (members c.args.number) c.args.name_at c.name_key.result c.newest-place.result
    c.requires.chained c.name_key.ensures c.newest-place.ensures)
    c.chain.place c.before-place.result c.is_member_at.result c.chain.invariant c.chain-test.true c.is_member_at.ensures c.if-is_member_at.false
    c.before-place.ensures).0

pub returns : goal.returns
returns c =
    name_lost c.args.name_at c.args.number c.args.numbers.now c.args.declared.now c.args.names.now.before c.newest-place.result
    (named_by c.args.numbers.now c.args.declared.now c.args.names.now (members c.args.number) c.args.name_at c.name_key.result c.newest-place.result
    c.requires.chained c.name_key.ensures c.newest-place.ensures)
    c.chain.place c.chain.invariant (omega (arith, c.chain-test.false))
