use Rattle.class_marks.proofs.AnswerLemmas.{if_ok_then}
use Rattle.find_names.proofs.GrammarLemmas.{answer_is_read, derived_lines}
use Rattle.find_names.proofs.found_classes.find.Goals as goal

pub returns-clause-derived : goal.returns-clause-derived
returns-clause-derived c =
    if_ok_then c.found.result _ _ c.found.ensures.answer (λ text found. derived_lines c.args.a.now.value c.args.query.now text.items found)

pub returns-clause-fault : goal.returns-clause-fault
returns-clause-fault c = answer_is_read c.args.query.now c.found.result c.found.ensures.refused
