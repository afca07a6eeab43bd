use Rattle.std.proofs.Common.{◌≡◌, ◌∙◌, rules}
use Rattle.lexer.proofs.TextLemmas.{file_text-toks}
use Rattle.lexer.proofs.file_text.FileText.toks.Goals as goal

pub returns-clause-answer : goal.returns-clause-answer
returns-clause-answer c file bytes is =
    let value : c.as_slice.result.now ≡ c.args.self.now.toks = search rules in
    value ∙ file_text-toks file bytes c.args.self.now is
