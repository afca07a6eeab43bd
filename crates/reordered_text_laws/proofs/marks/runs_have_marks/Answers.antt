use Rattle.reordered_text_laws.proofs.RunMarkLemmas.{runs_have_marks}
use Rattle.reordered_text_laws.proofs.SignLemmas.{signed_marks_stand}
use Rattle.reordered_text_laws.proofs.marks.runs_have_marks.Goals as goal

pub returns : goal.returns
returns c = record { signs = signed_marks_stand; marks = runs_have_marks }
