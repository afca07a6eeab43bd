use Rattle.reordered_text_laws.proofs.TreeLemmas.{trees_have_marks}
use Rattle.reordered_text_laws.proofs.marks.trees_have_marks.Goals as goal

pub returns : goal.returns
returns c = record { marks = trees_have_marks }
