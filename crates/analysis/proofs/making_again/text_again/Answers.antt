use Rattle.std.proofs.Common.{◌-◌, ◌^◌, arith, subst, sym}
use Rattle.include_tree.specs.Fronts.{AreFronts}
use Rattle.include_tree.specs.Below.source_files.Files.{Carried, Table}
use Rattle.analysis.proofs.TakenLemmas.{table_again, text_again}
use Rattle.analysis.proofs.making_again.text_again.Goals as goal

pub preprocess_on-requires : goal.preprocess_on-requires
preprocess_on-requires c = record { fronts = subst (λ (k : Carried). AreFronts k.table c.args.shared.now.all.items) (sym c.in_ok-lent.ensures) c.requires.shared }

pub returns-in-Ok-clause-text : goal.returns-in-Ok-clause-text
returns-in-Ok-clause-text c =
    text_again (2 ^ 32 - 1) c.args.unit.now c.in_ok-lent.lent c.preprocess_on.new.cache c.args.cache.now.table c.in-Ok.text c.in_ok-lent.ensures c.numbers-numbers.ensures.once (omega arith) c.requires.fresh
    c.in-Ok.ensures.answer

pub returns-in-Ok-clause-shared : goal.returns-in-Ok-clause-shared
returns-in-Ok-clause-shared c = λ u m.
    subst (λ (t : Table). AreFronts t c.preprocess_on.new.fronts.all.items)
    (table_again (2 ^ 32 - 1) c.args.unit.now c.in_ok-lent.lent c.preprocess_on.new.cache c.args.cache.now.table c.in-Ok.text c.in_ok-lent.ensures c.numbers-numbers.ensures.once (omega arith) c.requires.fresh
    c.in-Ok.ensures.answer u m) c.in-Ok.ensures.fronts
