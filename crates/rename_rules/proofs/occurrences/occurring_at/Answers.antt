use Rattle.rename_rules.specs.RenamingValue.{held}
use Rattle.offences.proofs.FirstLemmas.{then_none}
use Rattle.rename_rules.proofs.OccurrenceLemmas.{new_told}
use Rattle.rename_rules.proofs.occurrences.occurring_at.Goals as goal

pub returns-then-is_new_spelling : goal.returns-then-is_new_spelling
returns-then-is_new_spelling c =
    rw (new_told c.args.renaming.now.class.members c.args.renaming.now.name (held c.args.renaming.now.class) c.args.tok.now c.table.result.now c.text.result.now _ c.table.ensures c.text.ensures.answer c.if-is_new_spelling.ensures)
    c.at_first.ensures

pub returns-else-is_new_spelling : goal.returns-else-is_new_spelling
returns-else-is_new_spelling c =
    rw (new_told c.args.renaming.now.class.members c.args.renaming.now.name (held c.args.renaming.now.class) c.args.tok.now c.table.result.now c.text.result.now _ c.table.ensures c.text.ensures.answer c.if-is_new_spelling.ensures)
    (then_none c.args.a.now.value.table c.args.first)
