use Rattle.std.proofs.Common.{◌∙◌, sym}
use Rattle.std.proofs.lemmas.Bool.{false≢true}
use Rattle.template_plan.proofs.trees.has_items.Goals as goal

pub returns-then-is_among : goal.returns-then-is_among
returns-then-is_among c = λ passed is. c.items_are.ensures passed

pub returns-else-is_among : goal.returns-else-is_among
returns-else-is_among c = λ passed is. absurd (false≢true (c.if-is_among.ensures ∙ is))
