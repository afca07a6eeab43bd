use Rattle.std.proofs.Common.{◌++◌, ◌∙◌, List, ℕ, ap, sym, option_map, unwrap_or, []}
use Rattle.std.proofs.lemmas.Bool.{OnTrue_at}
use Rattle.std.specs.List.{flat_map}
use Rattle.std.specs.Rc.{rc_slice_items}
use Rattle.line_shape.specs.MacroLine.{spellings}
use Rattle.macro_body.specs.Hides.{lacking}
use Rattle.macro_body.proofs.NamePartLemmas.{lacking-more, lacking-passed}
use Rattle.macro_body.proofs.hide_set.push_lacking_parts.Goals.{then-not-have_part+in_ok-push_lacking, else-not-have_part}
use Rattle.macro_body.proofs.hide_set.push_lacking_parts.Goals as goal

pub loop-part-preserved : goal.loop-part-preserved
loop-part-preserved c = elim c.if-not-have_part.branch [
  | then-not-have_part+in_ok-push_lacking w ↦
      lacking-more c.args.hides.now (spellings c.args.all.now.items) (spellings c.if-not-have_part.all.items) (spellings c.loop-part.all.items) c.args.parts.now
      c.loop-part.part-index c.part-item.result c.loop-part-test.true c.part-item.is
      (ap (λ v. spellings v.items) w.all-is ∙ w.in_ok-push_lacking.ensures
      ∙ ap (λ (names : List (List ℕ)). spellings c.loop-part.all.items ++ lacking c.args.hides.now names) w.toks.ensures)
      c.loop-part.invariant
  | else-not-have_part w ↦
      lacking-passed c.args.hides.now (spellings c.args.all.now.items) (spellings c.if-not-have_part.all.items)
      (spellings (unwrap_or (option_map rc_slice_items c.hides.inside.last) [])) (unwrap_or (option_map rc_slice_items c.hides.inside.full) [])
      c.args.parts.now c.loop-part.part-index c.part-item.result c.loop-part-test.true c.part-item.is c.hides.view_is
      (sym (ap (λ (ps : List (List (List ℕ))). lacking (flat_map (λ p. p) ps) c.part-item.result) c.parts_in.ensures)
      ∙ OnTrue_at w.if-not-have_part.false c.have_part.ensures)
      (ap (λ v. spellings v.items) w.all-is ∙ c.loop-part.invariant)
]
