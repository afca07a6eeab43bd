use Rattle.std.proofs.Common.{◌≡◌, ◌∙◌, get_or, false, List, Bool, ap, arith}
use Rattle.std.proofs.lemmas.Grind.{common_steps}
use Rattle.lexer.proofs.TextLemmas.{file_text-firsts}
use Rattle.lexer.proofs.file_text.FileText.begins_line.Goals as goal

pub returns-clause-answer : goal.returns-clause-answer
returns-clause-answer c file bytes is =
    let value : c.index.result.now ≡ get_or c.args.self.now.firsts c.args.k false = grind (arith, common_steps) in
    value ∙ ap (λ (fs : List Bool). get_or fs c.args.k false) (file_text-firsts file bytes c.args.self.now is)
