use Rattle.std.proofs.Common.{◌∙◌, ap, List}
use Rattle.cs_base.specs.Token.{Token}
use Rattle.line_shape.specs.Items.{items_of}
use Rattle.analysis.proofs.ProcessedLemmas.{text_told}
use Rattle.unseen_names.proofs.files.items_in.Goals as goal

pub returns : goal.returns
returns c =
    let file = c.args.file.now in
    let text = c.text-text.result.now in
    let told = text_told file.number file.bytes text c.text-text.ensures in
    c.items.ensures text c.text-text.ensures ∙ ap (λ (ts : List Token). items_of ts text.firsts) told.0
    ∙ ap (items_of _) told.1
