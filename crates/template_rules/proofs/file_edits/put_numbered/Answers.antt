use Rattle.std.proofs.Common.{sym}
use Rattle.edited_files.proofs.EditLemmas.{with_each-none}
use Rattle.template_rules.proofs.EditLemmas.{kept_text}
use Rattle.template_rules.proofs.file_edits.put_numbered.Goals as goal

pub put_file-requires-clause-text : goal.put_file-requires-clause-text
put_file-requires-clause-text c = kept_text c.args.a.now.value.table c.args.number c.in-Some.file.now c.requires.text (sym c.in-Some.ensures)

pub returns-in-None : goal.returns-in-None
returns-in-None c = rw (← c.in-None.ensures) (sym (with_each-none c.args.edits.now))
