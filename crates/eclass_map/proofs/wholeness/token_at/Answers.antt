use Rattle.std.proofs.Common.{None}
use Rattle.eclass_map.proofs.WholenessFacts.{no_origin}
use Rattle.eclass_map.proofs.wholeness.token_at.Goals as goal

pub returns-in-None : goal.returns-in-None
returns-in-None c = no_origin c.args.tokens.now c.args.tok.now c.args.at None c.requires.tokens c.in-None.ensures.answer (cc)
