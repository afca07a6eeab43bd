use Rattle.std.proofs.Common.{List, ap, ◌∙◌}
use Rattle.cs_base.specs.declared.positions.Part.{Part}
use Rattle.find_names.specs.FileTokens.{has_span}
use Rattle.find_names.proofs.TokenLemmas.{token_told}
use Rattle.find_names.proofs.file_tokens.FileTokens.has.Goals as goal

pub returns : goal.returns
returns c =
    token_told c.args.a.now.value c.args.part c.has_span.result
    (c.has_span.ensures ∙ ap (λ (spans : List Part). has_span spans c.args.part) c.deref.ensures.value ∙ c.requires c.args.part)
