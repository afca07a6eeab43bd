use Rattle.include_tree.specs.Fronts.{AreFronts}
use Rattle.analysis.specs.Answers.{fault_of}
use Rattle.analysis.specs.Carrying.{IsFresh}
use Rattle.analysis.proofs.UnitsLemmas.{on_any, passed-read, passed-fault}
use Rattle.std.proofs.Common.{◌+◌}
use Rattle.analysis.proofs.accepting.next_unit.Goals as goal

pub returns-in-Ok-clause-fresh : goal.returns-in-Ok-clause-fresh
returns-in-Ok-clause-fresh g c = λ fresh. on_any c.read_text.result (IsFresh (c.args.number + 1) c.next_text.new.cache.table) (c.in-Ok.ensures.fresh fresh)

pub returns-in-Ok-clause-answer : goal.returns-in-Ok-clause-answer
returns-in-Ok-clause-answer g c =
    let read = rw (c.bytes.ensures, c.path.ensures.answer, c.standard.ensures.answer) at c.read_text.ensures.answer in
    λ fresh source found.
    passed-read source c.args.number c.args.unit.now c.args.cache.now c.next_text.new.cache c.in-Ok.text c.read_text.result (c.in-Ok.ensures.answer fresh source found) read

pub returns-in-Err-clause-answer : goal.returns-in-Err-clause-answer
returns-in-Err-clause-answer g c = λ fresh source found.
    passed-fault source c.args.number c.args.unit.now c.args.cache.now (fault_of c.in-Err.fault) (c.in-Err.ensures.answer fresh source found)

pub returns-in-Ok-clause-shared : goal.returns-in-Ok-clause-shared
returns-in-Ok-clause-shared g c = on_any c.read_text.result (AreFronts c.next_text.new.cache.table c.next_text.new.fronts.all.items) c.in-Ok.ensures.fronts
