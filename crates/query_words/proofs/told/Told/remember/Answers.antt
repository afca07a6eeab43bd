use Rattle.std.proofs.Common.{refl}
use Rattle.query_words.proofs.TellingLemmas.{told_more}
use Rattle.query_words.proofs.told.Told.remember.Goals as goal

pub returns : goal.returns
returns c = λ query spelling told says.
    told_more query c.args.self.now _ c.args.facts.now c.args.holds spelling c.if-self.false c.in_ok-push.ensures.items refl told says
