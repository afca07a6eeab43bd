use Rattle.find_names.proofs.FoundLemmas.{refused_err, refused_so}
use Rattle.find_names.proofs.found_classes.found.Goals as goal

pub returns-in_err-compiled-clause-refused : goal.returns-in_err-compiled-clause-refused
returns-in_err-compiled-clause-refused c =
    refused_err c.args.query.now c.from_residual.result _ c.from_residual.ensures.1
    (refused_so c.args.query.now c.in_err-compiled.field-0.0 c.in_err-compiled.ensures.refused)

pub returns-clause-answer : goal.returns-clause-answer
returns-clause-answer c =
    let of = c.in_ok-compiled.ensures.answer in
    (of.query, of.is, c.in_ok-text.ensures of.query of.is)
