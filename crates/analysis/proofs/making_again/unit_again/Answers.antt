use Rattle.std.proofs.Common.{◌-◌, ◌^◌}
use Rattle.analysis.proofs.TakenLemmas.{made_again_so}
use Rattle.analysis.proofs.making_again.unit_again.Goals as goal

pub returns-in-Ok-clause-made : goal.returns-in-Ok-clause-made
returns-in-Ok-clause-made c =
    let read = rw (c.bytes-path.ensures, c.path.ensures.answer, c.standard.ensures.answer) at c.in-Ok.ensures.answer in
    made_again_so c.args.cache.now.table (2 ^ 32 - 1) c.args.unit.now c.in_ok-text.text c.in-Ok.made read c.in_ok-text.ensures.text

pub returns-in-Ok-clause-shared : goal.returns-in-Ok-clause-shared
returns-in-Ok-clause-shared c = c.in_ok-text.ensures.shared
