use Rattle.std.proofs.Common.{◌≡◌, ◌∙◌, sym}
use Rattle.std.proofs.lemmas.Bool.{OnTrue_from}
use Rattle.std.specs.Rc.{rc_slice_items}
use Rattle.cs_base.proofs.FileMapLemmas.{bytes_eq-equal}
use Rattle.line_shape.specs.MacroLine.{spellings}
use Rattle.macro_body.proofs.NamePartLemmas.{same-names}
use Rattle.macro_body.proofs.name_parts.NamePart.is_alike.Goals as goal

pub returns-then-eq : goal.returns-then-eq
returns-then-eq c = OnTrue_from c.eq-then-eq.result (c.args.self.now ≡ c.args.other.now) (λ same.
    let lengths : rc_slice_items c.self.inside.lengths ≡ rc_slice_items c.other.inside.lengths =
    sym c.as_slice.ensures.value ∙ bytes_eq-equal c.as_slice.result.now c.as_slice-2.result.now (sym c.eq.ensures ∙ c.if-eq.true) ∙ c.as_slice-2.ensures.value in
    let texts : rc_slice_items c.self.inside.text ≡ rc_slice_items c.other.inside.text =
    sym c.as_slice-then-eq.ensures.value
    ∙ bytes_eq-equal c.as_slice-then-eq.result.now c.as_slice-then-eq-2.result.now (sym c.eq-then-eq.ensures ∙ same) ∙ c.as_slice-then-eq-2.ensures.value in
    sym c.self.view_is
    ∙ same-names (spellings (rc_slice_items c.self.inside.names)) (spellings (rc_slice_items c.other.inside.names))
    (sym c.self.invariant.2 ∙ lengths ∙ c.other.invariant.2) (sym c.self.invariant.1 ∙ texts ∙ c.other.invariant.1)
    ∙ c.other.view_is)
