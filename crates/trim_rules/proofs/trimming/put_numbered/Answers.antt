use Rattle.std.proofs.Common.{sym}
use Rattle.edited_files.proofs.EditLemmas.{with_each-none}
use Rattle.trim_rules.proofs.TrimmedLemmas.{kept-text}
use Rattle.trim_rules.proofs.trimming.put_numbered.Goals as goal

pub put_file-requires : goal.put_file-requires
put_file-requires c = record { text = kept-text c.args.a.now.value.table c.args.number c.in-Some.file.now c.requires.text (sym c.in-Some.ensures) }

pub returns-in-None : goal.returns-in-None
returns-in-None c = rw (← c.in-None.ensures) (sym (with_each-none c.args.edits.now))
