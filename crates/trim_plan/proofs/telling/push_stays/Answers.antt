use Rattle.trim_plan.proofs.telling.push_stays.Goals as goal

pub returns : goal.returns
returns c = rw c.as_slice-judged.ensures.value at c.push_each.ensures
