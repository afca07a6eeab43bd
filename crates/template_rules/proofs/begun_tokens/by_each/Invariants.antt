use Rattle.std.proofs.Common.{◌≡◌, take}
use Rattle.std.specs.Prelude.{count_by, nat_le}
use Rattle.cs_base.specs.Token.{Token}
use Rattle.template_rules.proofs.begun_tokens.by_each.Given as goal

abbrev pub invariant-loop-tok : goal.invariant-loop-tok
invariant-loop-tok l = l.count ≡ count_by (λ (t : Token). nat_le t.at.at l.at) (take l.tok-index l.toks)
