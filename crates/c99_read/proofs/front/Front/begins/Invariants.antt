use Rattle.std.proofs.Common.{ℕ, ◌≡◌, ◌<◌}
use Rattle.c99_grammar.specs.Standard.{grammar}
use Rattle.c99_read.specs.State.{base_at, spelling_at}
use Rattle.c99_read.proofs.front.Front.begins.Given as goal

-- the tokens before token k are alike
abbrev pub invariant-tokens : goal.invariant-tokens
invariant-tokens l =
    (j : ℕ) → j < l.k
    → (base_at (grammar l.self.dialect) l.self.toks j ≡ base_at (grammar l.self.dialect) l.toks j) × (spelling_at l.self.toks j ≡ spelling_at l.toks j)
