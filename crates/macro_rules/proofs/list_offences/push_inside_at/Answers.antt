use Rattle.macro_rules.specs.FileOffences.{inside_offences}
use Rattle.macro_rules.proofs.WalkLemmas.{nothing_past}
use Rattle.macro_rules.proofs.list_offences.push_inside_at.Goals as goal

pub returns-in-None : goal.returns-in-None
returns-in-None c =
    nothing_past (inside_offences c.args.torn.now c.args.lines.now) c.args.toks.now c.args.k c.args.out.now.items c.in-None.ensures.lookup.3
