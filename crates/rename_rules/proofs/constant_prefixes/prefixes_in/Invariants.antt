use Rattle.std.proofs.Common.{◌<◌}
use Rattle.rename_rules.proofs.PrefixLemmas.{GoesOn}
use Rattle.rename_rules.proofs.constant_prefixes.prefixes_in.Given as goal

abbrev pub invariant-loop-k : goal.invariant-loop-k
invariant-loop-k l = (0 < l.k) × GoesOn l.renaming.class.members l.renaming.name l.a.value.table l.toks l.k l.initial.now l.now
