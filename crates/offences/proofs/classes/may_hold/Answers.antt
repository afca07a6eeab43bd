use Rattle.offences.proofs.OriginLemmas.{origins_free}
use Rattle.offences.proofs.classes.may_hold.Goals as goal

pub returns-in-Some : goal.returns-in-Some
returns-in-Some c = λ none.
    origins_free c.args.class.now.members c.args.tok.now c.in-Some.first c.text-text.ensures.sound (c.may_stand_in.ensures none) c.in-Some.ensures
