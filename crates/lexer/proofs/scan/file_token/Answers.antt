use Rattle.std.proofs.Common.{length}
use Rattle.lexer.proofs.OriginLemmas.{origins_by-file, origins_by-traced}
use Rattle.lexer.proofs.scan.file_token.Goals as goal

pub with_spans-requires-clause-traced : goal.with_spans-requires-clause-traced
with_spans-requires-clause-traced c named = origins_by-traced c.args.file c.args.at (length c.args.text.now)

pub returns : goal.returns
returns c = simp (origins_by-file) at c.with_spans.ensures.answer
