use Rattle.rename_rules.specs.RenamingValue.{held}
use Rattle.rename_rules.proofs.OccurrenceLemmas.{file_occurring}
use Rattle.rename_rules.proofs.occurrences.occurring.Goals as goal

pub returns : goal.returns
returns c =
    let class = c.args.renaming.now.class in
    let same = rw c.class.ensures at c.analysis-a.ensures in
    file_occurring class.analysis.value class.members c.args.renaming.now.name (held class) c.args.first c.occurring_in_files-in_files.result
    c.occurring_in.result (rw same at c.occurring_in_files-in_files.ensures)
    (rw (c.numbers_brought-brought.ensures, same) at c.occurring_in.ensures)
