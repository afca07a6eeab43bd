use Rattle.macro_body.specs.Live.{table_of}
use Rattle.macro_body.specs.Sound.{AllTraced}
use Rattle.expansion_rows.proofs.expansion_texts.expanded.Given as goal

-- each replacement list comes from somewhere
abbrev pub invariant-loop-item : goal.invariant-loop-item
invariant-loop-item l = AllTraced (table_of l.macros)
