use Rattle.std.proofs.Common.{List, ℕ, Bor, sym}
use Rattle.trim_plan.specs.Places.{has_path}
use Rattle.trim_plan.proofs.CompareLemmas.{absent-more}
use Rattle.trim_plan.proofs.comparing.Absent.add.Goals as goal

-- a key of these bytes
abbrev lent : List ℕ → Bor (List ℕ)
lent bytes = record { ref_ptr = (0, 0); now = bytes }

pub returns : goal.returns
returns c =
    absent-more c.args.a.now.value.table (has_path c.args.self.now.paths) (has_path c.insert.new.self) c.in-Some.path.now c.args.number c.requires
    (sym c.in-Some.ensures) (λ x. c.in_ok-insert.ensures.updates.0 (lent x))
