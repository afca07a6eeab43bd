use Rattle.std.proofs.Common.{◌∙◌, ◌++◌, ◌∷◌, [], List, ℕ, ap}
use Rattle.line_shape.specs.MacroLine.{spellings}
use Rattle.macro_body.proofs.NamePartLemmas.{parts-merged}
use Rattle.macro_body.proofs.name_parts.with_part.Goals as goal

pub returns : goal.returns
returns c =
    let part = c.in_ok-merged.field-0 in
    parts-merged c.args.parts.now c.push.new.self.items c.staying-stay.result part (spellings c.args.names.items)
    (c.in_ok-push.ensures.items ∙ ap (λ (l : List (List (List ℕ))). l ++ part ∷ []) c.in_ok-all.ensures) c.in_ok-merged.ensures
