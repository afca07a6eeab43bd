use Rattle.std.proofs.Common.{arith}
use Rattle.c99_read.proofs.FrontLemmas.{front-stands}
use Rattle.c99_read.proofs.front.stand_in.Goals as goal

pub returns-in-Some : goal.returns-in-Some
returns-in-Some c =
    let some = c.if-count-eq0.false in
    front-stands c.args.dialect c.args.toks.now c.in-Ok-externals_to.count c.in-Ok.reader.state c.externals_to.new.self.state c.in-Some.stand c.in-Ok.ensures.1
    c.in-Ok-externals_to.ensures.answer (omega (arith, some)) (rw c.in-Some.is at c.in_ok-stand.ensures)
