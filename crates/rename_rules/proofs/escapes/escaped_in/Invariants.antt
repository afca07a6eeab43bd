use Rattle.rename_rules.proofs.EscapeLemmas.{GoesOn}
use Rattle.rename_rules.proofs.escapes.escaped_in.Given as goal

abbrev pub invariant-loop-tok : goal.invariant-loop-tok
invariant-loop-tok l = GoesOn l.class.members l.a.value.table l.toks l.tok-index l.behind l.initial.now l.now
