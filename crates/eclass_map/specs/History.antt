-- A table after any calls: how many characters the joins gave another class number, and how many ticks they took.
use Rattle.std.specs.Prelude.{ℕ, ◌+◌, ◌*◌, ◌≡◌, ◌≤◌}
use Rattle.class_labels.specs.Weight.{digits}
use Rattle.eclass_map.specs.ClassTable.{Table, relabelled_in, weight_in, parts_in}

-- r characters were relabelled and n ticks taken, in sum, when the table came to be
pub data History : Table → ℕ → ℕ → Type 0 where
  -- no call but the one that made the table
  made : {t : Table} → weight_in t ≡ 0 → History t 0 0
  -- a call that joins nothing
  kept : {t u : Table} {r n : ℕ} → History t r n → weight_in u ≡ weight_in t → History u r n
  -- a join with k ticks
  joined : {t u : Table} {r n k : ℕ} → History t r n → relabelled_in t u ≤ k → k + weight_in t ≤ weight_in u → History u (r + relabelled_in t u) (n + k)

-- all joins so far relabelled at most N times the binary digits of N characters, where the table has N parts
abbrev pub JoinsRelabelLittle : Type 0
JoinsRelabelLittle = (t : Table) (r n : ℕ) → History t r n → (r ≤ n) × (n ≤ parts_in t * digits (parts_in t))
