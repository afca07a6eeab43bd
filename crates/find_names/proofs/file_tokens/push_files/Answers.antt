use Rattle.std.proofs.Common.{◌||◌, arith}
use Rattle.std.specs.List.{list_any}
use Rattle.analysis.specs.FileTokens.{table_tokens}
use Rattle.find_names.specs.FileTokens.{has_span, is_span}
use Rattle.find_names.proofs.TokenLemmas.{files_all, files_more}
use Rattle.find_names.proofs.file_tokens.push_files.Goals as goal

pub loop-number-preserved : goal.loop-number-preserved
loop-number-preserved c =
    λ part.
    files_more part c.args.a.now.value.table c.loop-number.number (has_span c.loop-number.spans.items part) (has_span c.push_numbered.new.spans.items part)
    (has_span c.args.spans.now.items part || list_any (is_span part) (table_tokens 0 c.args.a.now.value.table))
    (omega (arith, c.files-number-end.ensures.answer)) (c.loop-number.invariant part) (c.in_ok-push_numbered.ensures part)

pub returns : goal.returns
returns c =
    λ part.
    files_all part c.args.a.now.value.table c.loop-number.number (has_span c.loop-number.spans.items part)
    (has_span c.args.spans.now.items part || list_any (is_span part) (table_tokens 0 c.args.a.now.value.table))
    (omega (arith, c.files-number-end.ensures.answer)) (c.loop-number.invariant part)
