use Rattle.std.proofs.Common.{sym, ap}
use Rattle.std.specs.Prelude.{is_some}
use Rattle.template_rules.proofs.OddLemmas.{character_fits}
use Rattle.template_rules.proofs.odd_lines.is_character.Goals as goal

pub returns-in-Some-clause-answer : goal.returns-in-Some-clause-answer
returns-in-Some-clause-answer c = ap is_some (c.in-Some.ensures.answer c.args.file.now.number c.args.file.now.bytes c.text.ensures)

pub returns-in-Some-clause-within : goal.returns-in-Some-clause-within
returns-in-Some-clause-within c is =
    let bytes = c.args.file.now.bytes in
    character_fits c.args.file.now.number bytes c.text.result.now c.args.at _ c.text.ensures
    (sym (c.in-Some.ensures.answer c.args.file.now.number bytes c.text.ensures))

pub returns-in-None : goal.returns-in-None
returns-in-None c =
    let bytes = c.args.file.now.bytes in
    record {
      answer = ap is_some (c.in-None.ensures.answer c.args.file.now.number bytes c.text.ensures);
      within = λ is. cc;
    }
