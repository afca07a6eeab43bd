use Rattle.std.proofs.Common.{sym, ap, ◌∙◌}
use Rattle.analysis.specs.Analysed.{Analysed}
use Rattle.trim_rules.specs.Judging.{told_of}
use Rattle.trim_rules.proofs.JudgingLemmas.{known-all}
use Rattle.trim_rules.proofs.judging.Judging.of.Goals as goal

pub note_units-requires : goal.note_units-requires
note_units-requires c = c.units-units.ensures ∙ ap (λ (x : Analysed). x.value.units) (sym c.analysis-a.ensures)

pub returns : goal.returns
returns c =
    known-all c.args.all.now.value c.args.lines.now (told_of c.in_ok-judging.judging.whys) (told_of c.note_files.new.self.whys) (told_of c.note_units.new.self.whys)
    c.in_ok-judging.ensures (rw c.analysis-a.ensures at c.in_ok-note_files.ensures) (rw c.analysis-a.ensures at c.in_ok-note_units.ensures)
