use Rattle.std.proofs.Common.{sym, refl}
use Rattle.cs_base.proofs.HeldFilesLemmas.{bytes_at-files_in-None, bytes_at-files_in-Some}
use Rattle.cs_base.proofs.held_files.bytes_of.Goals as goal

pub returns-in_err-k : goal.returns-in_err-k
returns-in_err-k c =
    rw c.from_residual.ensures
    (sym (bytes_at-files_in-None c.args.store.now c.args.path.now c.args.files.now (sym c.in_err-k.ensures)))

pub returns : goal.returns
returns c =
    rw (bytes_at-files_in-Some c.args.store.now c.args.path.now c.args.files.now c.in_ok-k.k c.index-files-k.result (sym c.in_ok-k.ensures), ← c.index-files-k.is) refl
