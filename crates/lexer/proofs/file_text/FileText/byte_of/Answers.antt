use Rattle.std.proofs.Common.{◌≡◌, ◌≤◌, ◌+◌, length, Some, None, ◌∙◌, rules, arith}
use Rattle.lexer.specs.FileText.{byte_at}
use Rattle.lexer.proofs.TextLemmas.{file_text-byte}
use Rattle.lexer.proofs.file_text.FileText.byte_of.Goals as goal

pub returns-then-at-self-clause-within : goal.returns-then-at-self-clause-within
returns-then-at-self-clause-within c =
    let few : c.byte_in.result ≤ c.args.at + length c.self.inside.marks.items = rw c.as_slice.ensures.value at c.byte_in.ensures.bound in
    rw (← c.self.view_is) (omega arith)

pub returns-then-at-self-clause-answer : goal.returns-then-at-self-clause-answer
returns-then-at-self-clause-answer c file bytes is =
    let value : Some c.byte_in.result ≡ byte_at c.args.self.now c.args.at = search rules in
    value ∙ file_text-byte file bytes c.args.self.now is c.args.at

pub returns-else-at-self-clause-answer : goal.returns-else-at-self-clause-answer
returns-else-at-self-clause-answer c file bytes is =
    let value : None ≡ byte_at c.args.self.now c.args.at = search rules in
    value ∙ file_text-byte file bytes c.args.self.now is c.args.at
