use Rattle.c99_read.proofs.Alike.{alike_read_alike}
use Rattle.c99_read.proofs.laws.alike_tokens_read_alike.Goals as goal

pub returns : goal.returns
returns c = alike_read_alike
