use Rattle.std.proofs.Common.{◌++◌, ◌≤◌, length, map, arith}
use Rattle.analysis.specs.FileTokens.{span_of, table_tokens}
use Rattle.analysis.proofs.FileTokenLemmas.{tokens-more, tokens-end}
use Rattle.analysis.proofs.file_tokens.add_files.Goals as goal

pub loop-number-preserved : goal.loop-number-preserved
loop-number-preserved c =
    tokens-more c.args.a.now.table c.loop-number.number c.loop-number.adding c.add_numbered.new.adding (c.args.adding.now ++ map span_of (table_tokens 0 c.args.a.now.table))
    (omega (arith, c.files-number-end.ensures.answer)) c.loop-number.invariant c.in_ok-add_numbered.ensures

pub returns : goal.returns
returns c =
    let past : length c.args.a.now.table ≤ c.loop-number.number = omega (arith, c.files-number-end.ensures.answer) in
    tokens-end c.args.a.now.table c.loop-number.number c.loop-number.adding (c.args.adding.now ++ map span_of (table_tokens 0 c.args.a.now.table)) past c.loop-number.invariant
