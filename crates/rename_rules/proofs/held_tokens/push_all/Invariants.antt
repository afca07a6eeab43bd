use Rattle.std.proofs.Common.{◌≡◌, ◌++◌, take}
use Rattle.std.specs.Prelude.{filter}
use Rattle.offences.specs.Tokens.{holds_member}
use Rattle.rename_rules.proofs.held_tokens.push_all.Given as goal

abbrev pub invariant-loop-tok : goal.invariant-loop-tok
invariant-loop-tok l =
    l.out.items ≡ l.initial.out.items ++ filter (holds_member l.class.members) (take l.tok-index l.toks)
