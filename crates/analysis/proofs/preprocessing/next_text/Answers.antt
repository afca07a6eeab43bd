use Rattle.std.proofs.Common.{◌<◌, ◌^◌, sym, subst, arith}
use Rattle.std.specs.Prelude.{Result}
use Rattle.cs_base.specs.Answer.{Gives}
use Rattle.cs_base.specs.Outside.{ReadsOnly}
use Rattle.include_tree.specs.Below.unit_steps.Texts.{UnitTextValue}
use Rattle.include_tree.specs.Preprocessed.{with_text, preprocessed}
use Rattle.analysis.specs.declared.analyse_fault.AnalyseFault.{AnalyseFault}
use Rattle.analysis.specs.Texts.{unit_with}
use Rattle.analysis.specs.Answers.{fault_of}
use Rattle.analysis.proofs.AnswerLemmas.{gives_in, reads_in, fresh_in}
use Rattle.analysis.proofs.preprocessing.next_text.Goals as goal

pub returns-clause-reads : goal.returns-clause-reads
returns-clause-reads g c = record { grown = c.preprocess_on-answered.ensures.grown; found = c.preprocess_on-answered.ensures.found; once = c.numbers-numbers.ensures.once }

pub returns-clause-answer : goal.returns-clause-answer
returns-clause-answer g c = λ fresh source found.
    let few : c.args.number < 2 ^ 32 = omega arith in
    subst (λ (r : Result UnitTextValue AnalyseFault). Gives (with_text c.preprocess_on-answered.new.cache) fault_of r (unit_with source c.args.number c.args.unit.now c.args.cache.now))
    (sym c.in_its_unit.ensures)
    (gives_in (with_text c.preprocess_on-answered.new.cache) c.args.number c.preprocess_on-answered.result (preprocessed source c.args.number c.args.unit.now c.args.cache.now)
    (c.preprocess_on-answered.ensures.answer (fresh c.args.number (omega arith) few) source found))

pub returns-clause-fresh : goal.returns-clause-fresh
returns-clause-fresh g c = λ fresh.
    let few : c.args.number < 2 ^ 32 = omega arith in
    rw c.in_its_unit.ensures
    (fresh_in c.args.number c.args.unit.now c.args.cache.now c.preprocess_on-answered.new.cache c.preprocess_on-answered.result c.path-path.ensures.sound few c.numbers-numbers.ensures.once fresh
    (c.preprocess_on-answered.ensures.answer (fresh c.args.number (omega arith) few)))

pub returns-clause-faults : goal.returns-clause-faults
returns-clause-faults g c =
    rw c.in_its_unit.ensures
    (subst (ReadsOnly (g.F.Files.told c.args.files.now) (g.F.Files.told c.preprocess_on-answered.new.files))
    (reads_in c.args.number c.preprocess_on-answered.result) c.preprocess_on-answered.ensures.faults)
