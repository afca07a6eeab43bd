use Rattle.std.proofs.Common.{◌≡◌, ◌+◌, ◌-◌, ℕ, inl, inr, sym, subst, arith}
use Rattle.eclass_map.specs.ClassTable.{Table, relabelled_in}
use Rattle.eclass_map.specs.History.{History}
use Rattle.class_rows.proofs.history_tests.join.Goals as goal

-- nothing was joined
stays : (t u : Table) (r n k m : ℕ) → u ≡ t → k ≡ m → History t r n → History u r (n + (k - m))
stays t u r n k m same steps h =
    let none : n + (k - m) ≡ n = omega (arith, steps) in
    subst (λ (x : ℕ). History u r x) (sym none) (subst (λ (v : Table). History v r n) (sym same) h)

pub returns-clause-more : goal.returns-clause-more
returns-clause-more g c = elim c.join_whole.ensures.unchanged [
  | inl is ↦ let enough = (c.join_whole.ensures.joined is).enough in omega (arith, enough)
  | inr same ↦ let steps = same.1 in omega (arith, steps)
]

pub returns-clause-history : goal.returns-clause-history
returns-clause-history g c = λ r n h. elim c.join_whole.ensures.unchanged [
  | inl is ↦ (r + relabelled_in c.args.classes.now c.join_whole.new.self, (c.join_whole.ensures.joined is).history r n h)
  | inr same ↦ (r, stays c.args.classes.now c.join_whole.new.self r n c.join_whole.new.steps c.args.steps.now same.0 same.1 h)
]
