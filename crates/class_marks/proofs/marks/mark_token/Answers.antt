use Rattle.std.proofs.Common.{◌<◌, length, ap, ◌∙◌, arith, List, Option}
use Rattle.std.specs.List.{fold}
use Rattle.std.proofs.lemmas.List.{take_all}
use Rattle.cs_base.specs.declared.positions.Pos.{Pos}
use Rattle.class_marks.specs.Marks.{with_character}
use Rattle.class_marks.proofs.MarkLemmas.{origin_step}
use Rattle.class_marks.proofs.marks.mark_token.Goals as goal

pub loop-k-preserved : goal.loop-k-preserved
loop-k-preserved c =
    let within : c.loop-k.k < length c.args.tok.now.origins = omega (arith, c.loop-k-test.true, c.length-count.ensures) in (
      origin_step c.args.classes.now c.args.tok.now c.loop-k.k c.args.marks.now.items c.loop-k.marks.items c.mark_next-part.new.marks.items within
          c.loop-k.invariant.0
          (c.mark_next-part.ensures.answer ∙ ap (with_character c.args.classes.now c.loop-k.marks.items) c.origins.ensures.answer),
      c.mark_next-part.ensures.part,
    )

pub returns : goal.returns
returns c =
    let all = take_all c.loop-k.k c.args.tok.now.origins (omega (arith, c.loop-k-test.false, c.length-count.ensures)) in
    c.loop-k.invariant.0 ∙ ap (λ (os : List (Option Pos)). fold (with_character c.args.classes.now) c.args.marks.now.items os) all
