use Rattle.std.proofs.Common.{sym, ap, ◌∙◌, arith}
use Rattle.name_chains.specs.declared.structures.Rank.{Rank}
use Rattle.name_chains.proofs.MemberLemmas.{none_named, first_named}
use Rattle.name_chains.proofs.structures.members_before.Goals as goal

pub returns-then-place-eq0 : goal.returns-then-place-eq0
returns-then-place-eq0 c =
    c.member_count.ensures
    ∙ sym (none_named c.args.name_at c.args.number c.args.declared.now c.member_place-place.result c.member_place-place.ensures c.if-place-eq0.true)

pub returns : goal.returns
returns c =
    ap (λ (r : Rank). r.first) c.rank_at.ensures
    ∙ first_named c.args.name_at c.args.number c.args.declared.now c.args.ranks.now c.member_place-place.result c.requires.ranked
    c.member_place-place.ensures (omega (arith, c.if-place-eq0.false))
