use Rattle.reordered_text_laws.proofs.MarkLemmas.{marked_cuts_are_nested}
use Rattle.reordered_text_laws.proofs.OfLemmas.{nested_marks_have_cuts}
use Rattle.reordered_text_laws.proofs.SplitLemmas.{marked_cuts_split}
use Rattle.reordered_text_laws.proofs.TellLemmas.{marks_tell_cuts}
use Rattle.reordered_text_laws.proofs.cuts.cuts_are_marked.Goals as goal

pub returns : goal.returns
returns c = record { nested = marked_cuts_are_nested; told = marks_tell_cuts; had = nested_marks_have_cuts; split = marked_cuts_split }
