use Rattle.lexer.specs.Walk.{spelled}
use Rattle.lexer.proofs.KindLemmas.{front_of-front}
use Rattle.lexer.proofs.front.front.Goals as goal

pub returns : goal.returns
returns c = rw c.read_front.ensures (front_of-front c.args.header c.args.first (spelled c.args.after.now))
