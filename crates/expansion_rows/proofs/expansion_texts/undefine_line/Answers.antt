use Rattle.macro_body.specs.Live.{table_of}
use Rattle.macro_expand.proofs.TracedLemmas.{traced-without_macro}
use Rattle.expansion_rows.proofs.expansion_texts.undefine_line.Goals as goal

pub returns-in-Some : goal.returns-in-Some
returns-in-Some c = traced-without_macro c.text.result.now (table_of c.args.macros.now) (table_of c.undef.new.self) c.undef.ensures c.requires
