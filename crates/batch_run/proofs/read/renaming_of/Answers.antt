use Rattle.std.proofs.Common.{List, ℕ, subst, sym}
use Rattle.std.specs.Prelude.{IsUtf8}
use Rattle.batch_run.proofs.WordLemmas.{IsUtf8-normal_path_of}
use Rattle.batch_run.proofs.read.renaming_of.Goals as goal

pub new-requires-2 : goal.new-requires-2
new-requires-2 c =
    let P : List ℕ → Type 0 = λ path. IsUtf8 path in
    subst P (sym c.in_ok-path.ensures) (IsUtf8-normal_path_of c.args.path.now c.requires)
