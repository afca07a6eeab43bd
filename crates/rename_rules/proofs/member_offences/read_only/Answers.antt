use Rattle.rename_rules.proofs.member_offences.read_only.Goals as goal

pub returns : goal.returns
returns c = rw (c.members.ensures.answer, c.analysis.ensures, c.class-class.ensures) at c.read_only_in.ensures
