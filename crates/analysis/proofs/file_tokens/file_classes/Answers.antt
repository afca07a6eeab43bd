use Rattle.std.proofs.Common.{◌++◌, ◌∙◌, List, ap, map}
use Rattle.cs_base.specs.declared.positions.Part.{Part}
use Rattle.analysis.specs.FileTokens.{span_of, table_tokens}
use Rattle.analysis.proofs.FileTokenLemmas.{has_file_tokens}
use Rattle.analysis.proofs.file_tokens.file_classes.Goals as goal

pub returns-clause-tokens : goal.returns-clause-tokens
returns-clause-tokens c =
    let files : List Part = map span_of (table_tokens 0 c.args.a.now.table) in
    let numbers = rw c.new-adding.ensures at c.in_ok-add_toks.ensures in
    has_file_tokens c.args.a.now c.into_classes.result c.args.numbers.now c.requires
    (c.into_classes.ensures.tokens ∙ c.in_ok-add_files.ensures ∙ ap (λ (ps : List Part). ps ++ files) numbers)
