use Rattle.std.proofs.Common.{sym, ◌∙◌, arith}
use Rattle.name_chains.proofs.RankLemmas.{way_begins, way_on, way_ends, way_over}
use Rattle.name_chains.proofs.structures.member_numbered.Goals as goal

pub members-init : goal.members-init
members-init c =
    way_begins c.args.number c.args.declared.now c.args.ranks.now c.requires.ranked c.args.structures.now c.requires.owned c.newest_member-place.result
    c.newest_member-place.ensures c.args.n

pub returns-then-is_up_to : goal.returns-then-is_up_to
returns-then-is_up_to c =
    c.numbered_at.ensures
    ∙ way_ends c.args.number c.args.declared.now c.args.ranks.now c.requires.ranked c.args.structures.now c.requires.owned c.newest_member-place.result
    c.newest_member-place.ensures c.args.n c.members.place c.members.invariant c.members-test.true (sym c.is_up_to.ensures ∙ c.if-is_up_to.true)

pub members-smaller : goal.members-smaller
members-smaller c =
    (way_on c.args.number c.args.declared.now c.args.ranks.now c.requires.ranked c.args.structures.now c.requires.owned c.newest_member-place.result
    c.newest_member-place.ensures c.args.n c.members.place c.next_towards-place.result c.members.invariant c.members-test.true
    (sym c.is_up_to.ensures ∙ c.if-is_up_to.false) c.next_towards-place.ensures).1

pub members-preserved : goal.members-preserved
members-preserved c =
    (way_on c.args.number c.args.declared.now c.args.ranks.now c.requires.ranked c.args.structures.now c.requires.owned c.newest_member-place.result
    c.newest_member-place.ensures c.args.n c.members.place c.next_towards-place.result c.members.invariant c.members-test.true
    (sym c.is_up_to.ensures ∙ c.if-is_up_to.false) c.next_towards-place.ensures).0

pub returns : goal.returns
returns c =
    way_over c.args.number c.args.declared.now c.args.ranks.now c.requires.ranked c.args.structures.now c.requires.owned c.newest_member-place.result
    c.newest_member-place.ensures c.args.n c.members.place c.members.invariant (omega (arith, c.members-test.false))
