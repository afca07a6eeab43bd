use Rattle.query_words.proofs.GrammarLemmas.{derives_of_parsed, refused_by_grammar}
use Rattle.query_words.proofs.WalkLemmas.{if_err_then, if_ok_then}
use Rattle.query_words.proofs.compiled.Compiled.of.Goals as goal

pub returns-clause-derived : goal.returns-clause-derived
returns-clause-derived c =
    if_ok_then c.compile.result _ _ c.compile.ensures.answer (λ x found. (found.query, derives_of_parsed c.args.query.now found.query found.is, found.means))

pub returns-clause-fault : goal.returns-clause-fault
returns-clause-fault c = if_err_then c.compile.result _ _ c.compile.ensures.refused (refused_by_grammar c.args.query.now)
