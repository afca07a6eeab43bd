use Rattle.cs_base.specs.declared.positions.Part.{Part}
use Rattle.analysis.specs.FileTokens.{IsFileToken}
use Rattle.find_names.proofs.QuestionLemmas.{NoneBefore}
use Rattle.find_names.proofs.class_facts.is_cut.Given as goal

abbrev pub invariant-loop-member : goal.invariant-loop-member
invariant-loop-member l = NoneBefore (λ (m : Part). IsFileToken l.a.value m → ⊥) l.members l.member-index
