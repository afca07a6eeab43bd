use Rattle.std.proofs.Common.{◌∙◌}
use Rattle.name_chains.proofs.RankLemmas.{count_is}
use Rattle.name_chains.proofs.structures.member_count.Goals as goal

pub returns : goal.returns
returns c =
    c.depth_at.ensures
    ∙ count_is c.args.number c.args.declared.now c.args.ranks.now c.requires.ranked c.args.structures.now c.requires.owned c.newest_member.result
    c.newest_member.ensures
