use Rattle.std.proofs.Common.{List, ℕ, subst, sym}
use Rattle.std.specs.Prelude.{IsUtf8}
use Rattle.batch_run.proofs.WordLemmas.{IsUtf8-normal_path_of}
use Rattle.cscout_run.proofs.noting.note_at.Goals as goal

pub path_text-requires : goal.path_text-requires
path_text-requires g c =
    let P : List ℕ → Type 0 = λ path. IsUtf8 path in
    subst P (sym c.in-Ok.ensures) (IsUtf8-normal_path_of c.as_bytes.result.now c.as_bytes.ensures.utf8)
