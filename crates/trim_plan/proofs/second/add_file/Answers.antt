use Rattle.std.proofs.Common.{◌≡◌, ◌∙◌, sym, ap, rules}
use Rattle.analysis.specs.Below.include_tree.PseudoFiles.{is_pseudo}
use Rattle.trim_plan.proofs.OverLemmas.{file-more}
use Rattle.trim_plan.proofs.second.add_file.Goals as goal

pub returns-in_ok-add_trimmed-in-Ok : goal.returns-in_ok-add_trimmed-in-Ok
returns-in_ok-add_trimmed-in-Ok c =
    file-more c.args.lines.now c.args.a.now.value.table c.args.files.now.files c.add_trimmed.new.files.files c.args.number c.in-Some.file.now c.in-Ok.path.now
    (sym c.in-Some.ensures) (ap is_pseudo (sym c.path-own.ensures) ∙ sym c.if-is_pseudo.ensures) (search rules) c.in_ok-add_trimmed-in-Ok.ensures c.requires
