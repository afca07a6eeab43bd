-- A renaming is refused in one way: the first offence, its place and its cause, is one.
use Rattle.std.proofs.Common.{sym, ◌∙◌}
use Rattle.analysis.proofs.OnceLemmas.{paths_once}
use Rattle.edited_unit_laws.proofs.AnalysedUnitLemmas.{no_lines, lines_first}
use Rattle.offences.proofs.TiedLemmas.{one_refusal}
use Rattle.rename_rules.specs.Offences.{offences_of}
use Rattle.rename_meaning.specs.Plans.{RefusalsAreOne}

pub refusals_are_one : RefusalsAreOne
refusals_are_one = λ source ws a members name strings x y is analysed p q.
    p.2
    ∙ (one_refusal a (paths_once source ws a is analysed) (no_lines source ws a analysed) (lines_first source ws a analysed) (offences_of a members name strings) p.0 q.0 p.1 q.1
    ∙ sym q.2)
