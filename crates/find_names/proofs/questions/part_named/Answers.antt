use Rattle.std.proofs.Common.{List, ℕ, subst}
use Rattle.analysis.specs.Naming.{Names}
use Rattle.find_names.proofs.QuestionLemmas.{text_alone}
use Rattle.find_names.proofs.questions.part_named.Goals as goal

pub returns-in-Ok : goal.returns-in-Ok
returns-in-Ok c =
    subst (λ (path : List ℕ). Names c.args.a.now.value path c.args.line c.args.column c.part_at.result) c.in-Ok.ensures.cases.0 c.part_at.ensures

pub returns-in-Err : goal.returns-in-Err
returns-in-Err c = text_alone c.args.a.now.value c.args.path.now c.args.line c.args.column c.files-files.ensures.text c.in-Err.ensures.cases.0
