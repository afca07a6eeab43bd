use Rattle.macro_body.specs.Live.{table_of}
use Rattle.macro_expand.proofs.TracedLemmas.{on_ok-more, traced-with_macro}
use Rattle.expansion_rows.proofs.expansion_texts.define.Goals as goal

pub returns : goal.returns
returns c =
    on_ok-more c.define.result c.define.ensures.answer
    (λ is. traced-with_macro c.args.definition (table_of c.args.macros.now) (table_of c.define.new.self) is c.requires.body c.requires.traced)
