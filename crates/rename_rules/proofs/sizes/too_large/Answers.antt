use Rattle.rename_rules.proofs.RunLemmas.{members_apart}
use Rattle.rename_rules.proofs.sizes.too_large.Goals as goal

pub too_large_in-requires : goal.too_large_in-requires
too_large_in-requires c =
    let of_part = c.members.ensures.of_part in
    rw c.members.ensures.answer (members_apart _ of_part.0 _ of_part.1)

pub returns : goal.returns
returns c = rw (c.members.ensures.answer, c.name.ensures, c.analysis.ensures, c.class-class.ensures) at c.too_large_in.ensures
