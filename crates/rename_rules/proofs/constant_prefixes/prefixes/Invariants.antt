use Rattle.rename_rules.proofs.PrefixLemmas.{FilesGoOn}
use Rattle.rename_rules.proofs.constant_prefixes.prefixes.Given as goal

abbrev pub invariant-loop-file : goal.invariant-loop-file
invariant-loop-file l = FilesGoOn l.renaming.class.members l.renaming.name l.a.value.table l.file l.initial.now l.now
