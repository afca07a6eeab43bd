use Rattle.query_words.specs.Reading.{depth_limit, either, enclosed, parsed, read}
use Rattle.query_words.specs.Steps.{IsFault}
use Rattle.query_words.proofs.StepLemmas.{says_of}
use Rattle.query_words.proofs.WalkLemmas.{fault_then, handed_on, parsed_fault, parsed_more, parsed_whole}
use Rattle.query_words.proofs.compiled.compile.Goals as goal

pub returns-in_err-next-clause-refused : goal.returns-in_err-next-clause-refused
returns-in_err-next-clause-refused c =
    let text = c.args.query.now in
    handed_on c.from_residual.result c.in_err-next.field-0.0 (IsFault (parsed text)) c.from_residual.ensures.1
    (fault_then (either (enclosed text depth_limit) text 0) (parsed text) (parsed_fault text) c.in_err-next.field-0.0 c.in_err-next.ensures.refused)

pub returns-then-next-query-clause-refused : goal.returns-then-next-query-clause-refused
returns-then-next-query-clause-refused c =
    let found = c.in_ok-next.ensures.answer in
    parsed_more c.args.query.now (read found.query c.in_ok-next.next) found.is c.if-next-query.true

pub returns-clause-answer : goal.returns-clause-answer
returns-clause-answer c =
    let found = c.in_ok-next.ensures.answer in
    record {
      query = found.query;
      is = parsed_whole c.args.query.now (read found.query c.in_ok-next.next) found.is c.if-next-query.false;
      means = record { says = says_of _ _ found.query c.new-steps.ensures.items found.runs };
    }
