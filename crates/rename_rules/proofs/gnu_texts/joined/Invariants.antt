use Rattle.std.proofs.Common.{◌≡◌, take}
use Rattle.rename_rules.specs.GnuOffences.{joined}
use Rattle.rename_rules.proofs.gnu_texts.joined.Given as goal

abbrev pub invariant-loop-tok : goal.invariant-loop-tok
invariant-loop-tok l = l.out.items ≡ joined l.renaming.class.members l.renaming.name (take l.tok-index l.toks)
