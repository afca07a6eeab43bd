use Rattle.std.proofs.Common.{◌≡◌, Some, ◌∙◌, rules}
use Rattle.lexer.specs.FileText.{place_at}
use Rattle.lexer.proofs.TextLemmas.{file_text-place}
use Rattle.lexer.proofs.file_text.FileText.line_column.Goals as goal

pub returns-in_err-offset-clause-answer : goal.returns-in_err-offset-clause-answer
returns-in_err-offset-clause-answer c file bytes is =
    let value : c.from_residual.result ≡ place_at c.args.self.now c.args.at = search rules in
    value ∙ file_text-place file bytes c.args.self.now is c.args.at

pub returns-clause-answer : goal.returns-clause-answer
returns-clause-answer c file bytes is =
    let value : Some c.place_in.result ≡ place_at c.args.self.now c.args.at = search rules in
    value ∙ file_text-place file bytes c.args.self.now is c.args.at
