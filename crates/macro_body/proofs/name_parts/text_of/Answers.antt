use Rattle.std.proofs.Common.{◌∙◌, ◌++◌, ap, List, ℕ}
use Rattle.macro_body.proofs.NamePartLemmas.{text-more}
use Rattle.macro_body.proofs.name_parts.text_of.Goals as goal

pub loop-name-preserved : goal.loop-name-preserved
loop-name-preserved c =
    text-more c.loop-name.text.items c.extend_from_slice.new.self.items c.args.names.now c.loop-name.name-index c.name-item.result c.loop-name-test.true c.name-item.is
    (c.in_ok-extend_from_slice.ensures.items ∙ ap (λ (l : List ℕ). c.loop-name.text.items ++ l) c.text.ensures.answer) c.loop-name.invariant
