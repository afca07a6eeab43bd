use Rattle.std.proofs.Common.{◌≡◌, ◌++◌, take}
use Rattle.std.specs.List.{flat_map}
use Rattle.cs_base.specs.declared.causes.Cause.TheVariants as cause
use Rattle.macro_rules.specs.Offences.{token_offences}
use Rattle.macro_rules.proofs.token_offences.push_strings.Given as goal

abbrev pub invariant-loop-tok : goal.invariant-loop-tok
invariant-loop-tok l = l.out.items ≡ l.initial.out.items ++ flat_map (token_offences cause.Stringized l.calls) (take l.tok-index l.toks)
