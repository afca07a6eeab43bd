use Rattle.rename_rules.proofs.occurrences.occurring_in_file.Goals as goal

pub returns : goal.returns
returns c = rw (← c.toks.ensures.answer c.args.file.now.number c.args.file.now.bytes c.text.ensures) c.occurring_in.ensures
