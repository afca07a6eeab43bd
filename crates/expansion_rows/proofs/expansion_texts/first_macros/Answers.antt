use Rattle.macro_body.specs.Live.{table_of}
use Rattle.macro_expand.proofs.TracedLemmas.{traced-none}
use Rattle.expansion_rows.proofs.expansion_texts.first_macros.Goals as goal

pub define-requires-clause-traced : goal.define-requires-clause-traced
define-requires-clause-traced c = traced-none (table_of c.new-macros.result) c.new-macros.ensures
