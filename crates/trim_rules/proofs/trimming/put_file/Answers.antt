use Rattle.trim_rules.proofs.TrimmedLemmas.{file-made, file-none}
use Rattle.trim_rules.proofs.trimming.put_file.Goals as goal

pub returns-in-Some : goal.returns-in-Some
returns-in-Some c =
    file-made c.args.lines.now c.args.file.now c.in_ok-made.made c.in-Some.new c.args.edits.now c.put_made.new.edits c.put_made.result c.in-Some.is c.in_ok-made.ensures
    c.put_made.ensures

pub returns-in-None : goal.returns-in-None
returns-in-None c = file-none c.args.lines.now c.args.file.now c.in_ok-made.made c.args.edits.now c.in-None.is c.in_ok-made.ensures
