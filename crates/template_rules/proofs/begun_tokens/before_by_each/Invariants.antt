use Rattle.std.proofs.Common.{◌≡◌, take}
use Rattle.std.specs.Prelude.{count_by, nat_lt}
use Rattle.cs_base.specs.Token.{Token}
use Rattle.template_rules.proofs.begun_tokens.before_by_each.Given as goal

abbrev pub invariant-loop-tok : goal.invariant-loop-tok
invariant-loop-tok l = l.count ≡ count_by (λ (t : Token). nat_lt t.at.at l.at) (take l.tok-index l.toks)
