-- The joins so far relabel no more than the weight.
use Rattle.std.proofs.Common.{ℕ, ◌+◌, ◌-◌, ◌≤◌, arith}
use Rattle.eclass_map.specs.ClassTable.{Table, relabelled_in, weight_in}
use Rattle.eclass_map.specs.History.{History, JoinsRelabelLittle}
use Rattle.eclass_map.specs.History.History.{made, kept, joined}
use Rattle.class_labels.proofs.WeightFacts.{weight-most}

within_weight : (t : Table) (r n : ℕ) → History t r n → (r ≤ n) × (n ≤ weight_in t)
within_weight t r n (made none) = (omega arith, omega arith)
within_weight t r n (kept h same) = let w = within_weight _ _ _ h in let le = w.1 in (w.0, omega arith)
within_weight t r n (joined h least most) = let w = within_weight _ _ _ h in let few = w.0 in let le = w.1 in (omega arith, omega arith)

pub joins_relabel_little : JoinsRelabelLittle
joins_relabel_little t r n h =
    let w = within_weight t r n h in
    let le = w.1 in
    let most = weight-most t.labels in
    (w.0, omega arith)

-- a join, by its clauses on ticks
pub joined_by : (t u : Table) (r n before after : ℕ) → History t r n → relabelled_in t u + before ≤ after → after + weight_in t ≤ before + weight_in u → History u (r + relabelled_in t u) (n + (after - before))
joined_by t u r n before after h enough bound = joined h (omega arith) (omega arith)
