use Rattle.std.proofs.Common.{◌≡◌, ◌∙◌, rules}
use Rattle.lexer.specs.FileText.{offset_at}
use Rattle.lexer.proofs.TextLemmas.{file_text-offset}
use Rattle.lexer.proofs.file_text.FileText.at_of.Goals as goal

pub returns-in_err-offset-clause-answer : goal.returns-in_err-offset-clause-answer
returns-in_err-offset-clause-answer c file bytes is =
    let value : c.from_residual.result ≡ offset_at c.args.self.now c.args.line c.args.column = search rules in
    value ∙ file_text-offset file bytes c.args.self.now is c.args.line c.args.column

pub returns-clause-answer : goal.returns-clause-answer
returns-clause-answer c file bytes is =
    let value : c.character_in.result ≡ offset_at c.args.self.now c.args.line c.args.column = search rules in
    value ∙ file_text-offset file bytes c.args.self.now is c.args.line c.args.column
