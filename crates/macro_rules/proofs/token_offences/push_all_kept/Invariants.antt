use Rattle.std.proofs.Common.{◌≡◌, ◌++◌, take}
use Rattle.std.specs.List.{flat_map}
use Rattle.macro_rules.specs.Offences.{kept_offences}
use Rattle.macro_rules.proofs.token_offences.push_all_kept.Given as goal

abbrev pub invariant-loop-tok : goal.invariant-loop-tok
invariant-loop-tok l = l.out.items ≡ l.initial.out.items ++ flat_map (kept_offences l.calls) (take l.tok-index l.toks)
