use Rattle.std.proofs.Common.{rules}
use Rattle.name_chains.proofs.RankLemmas.{newest_is, jump_made}
use Rattle.name_chains.proofs.structures.member_rank.Goals as goal

pub returns-in-Some : goal.returns-in-Some
returns-in-Some c = record {
  depth = search rules;
  jump = jump_made c.args.number c.args.declared.now c.args.ranks.now c.requires.ranked c.newest_member.result c.jump_from-jump.result
      (newest_is c.args.number c.args.declared.now c.args.ranks.now c.requires.ranked c.args.structures.now c.requires.owned c.newest_member.result
      c.newest_member.ensures)
      c.jump_from-jump.ensures;
  first = c.members_before-first.ensures;
}
