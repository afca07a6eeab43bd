use Rattle.std.proofs.Common.{◌-◌, ◌∷◌, [], if◌then◌else◌, codes, arith}
use Rattle.cs_base.specs.declared.causes.Cause.TheVariants as cause
use Rattle.cs_base.specs.Token.{Token}
use Rattle.line_shape.specs.Signs.{is_sign}
use Rattle.offences.specs.First.{offence}
use Rattle.macro_rules.proofs.WalkLemmas.{nothing_past}
use Rattle.macro_rules.proofs.list_offences.push_slash_before.Goals as goal
use Rattle.macro_rules.proofs.list_offences.push_slash_before.Goals.{then-k-gt0, else-k-gt0}

pub returns-in-None : goal.returns-in-None
returns-in-None c =
    nothing_past (λ (t : Token). if is_sign (codes "/") t then offence cause.OddToken t.at ∷ [] else []) c.args.toks.now (c.args.k - 1) c.args.out.now.items
    (elim c.if-k-gt0.branch [
      | then-k-gt0 w ↦ omega (arith, c.in-None.ensures.lookup.3)
      | else-k-gt0 w ↦ omega (arith, c.in-None.ensures.lookup.3)
    ])
