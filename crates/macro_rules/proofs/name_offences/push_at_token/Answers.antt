use Rattle.std.proofs.Common.{◌∷◌, []}
use Rattle.cs_base.specs.Token.{Token}
use Rattle.offences.specs.First.{offence}
use Rattle.macro_rules.proofs.WalkLemmas.{nothing_past}
use Rattle.macro_rules.proofs.name_offences.push_at_token.Goals as goal

pub returns-in-None : goal.returns-in-None
returns-in-None c =
    nothing_past (λ (t : Token). offence c.args.cause t.at ∷ []) c.args.toks.now c.args.k c.args.out.now.items c.in-None.ensures.lookup.3
