use Rattle.std.proofs.Common.{◌≡◌, ◌++◌, take}
use Rattle.std.specs.Prelude.{filter}
use Rattle.cs_base.specs.Token.{Token, has_origins}
use Rattle.offences.specs.Tokens.{holds_member}
use Rattle.rename_rules.proofs.held_tokens.push_file.Given as goal

abbrev pub invariant-loop-tok : goal.invariant-loop-tok
invariant-loop-tok l =
    l.out.items ≡ l.initial.out.items ++ filter (holds_member l.class.members) (filter (λ (t : Token). has_origins t.kind) (take l.tok-index l.toks))
