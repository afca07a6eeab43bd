use Rattle.unit_laws.proofs.ReorderedLemmas.{units_are_reordered}
use Rattle.unit_laws.proofs.reordered.units_are_reordered.Goals as goal

pub returns : goal.returns
returns c = record {
  reordered = units_are_reordered c.runs_are_arranged.ensures.arranged c.runs_have_cuts.ensures.cuts c.notes_tell_what_happened.ensures.notes;
}
