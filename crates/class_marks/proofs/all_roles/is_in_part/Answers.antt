use Rattle.std.proofs.Common.{◌<◌, Some, length, ap, ◌∙◌, arith}
use Rattle.class_marks.specs.Marks.{is_within}
use Rattle.class_marks.proofs.all_roles.is_in_part.Goals as goal

pub returns-in-Some : goal.returns-in-Some
returns-in-Some c = λ yes k less.
    let tok = c.args.tok.now in
    let each = c.text-text.ensures.sound.each in
    let within : k < length tok.text = omega (arith, less, each) in
    ap (is_within (Some c.args.part)) (c.in-Some.ensures k within)
    ∙ c.holds_row.ensures yes k (omega (arith, less, c.length-count.ensures))
