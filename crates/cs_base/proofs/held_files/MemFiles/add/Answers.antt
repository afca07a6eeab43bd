use Rattle.std.proofs.Common.{◌≡◌, refl, rules, length, ℕ, List, [], ◌∷◌, ◌++◌}
use Rattle.cs_base.specs.declared.held_files.HeldFile.{HeldFile}
use Rattle.cs_base.specs.Stored.{stored}
use Rattle.cs_base.proofs.HeldFilesLemmas.{files_in-push, last_path-append}
use Rattle.cs_base.proofs.held_files.MemFiles.add.Goals as goal

pub returns-clause-ok : goal.returns-clause-ok
returns-clause-ok c =
    let old = c.self.inside.store.bytes in
    let files = c.self.inside.files.items in
    let new : List ℕ = c.args.bytes.now in
    let added : HeldFile = record { path = c.args.path.now; start = c.len-start.result; end = c.len-end.result } in
    let store_is : c.grow.new.self ≡ stored (old ++ new) c.self.inside.store.room = search rules in
    let files_are : c.push.new.self.items ≡ files ++ added ∷ [] = search rules in
    let starts : c.len-start.result ≡ length old = search rules in
    let ends : c.len-end.result ≡ length (old ++ new) = search rules in
    rw (← c.self.view_is, store_is, files_are, files_in-push old new files added c.self.invariant.ranges starts ends, last_path-append files (added ∷ []) c.self.inside.last_failed c.self.invariant.there) refl
