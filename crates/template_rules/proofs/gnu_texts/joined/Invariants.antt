use Rattle.std.proofs.Common.{◌≡◌, take}
use Rattle.template_rules.specs.GnuOffences.{joined}
use Rattle.template_rules.proofs.gnu_texts.joined.Given as goal

abbrev pub invariant-loop-tok : goal.invariant-loop-tok
invariant-loop-tok l = l.out.items ≡ joined (take l.tok-index l.toks)
