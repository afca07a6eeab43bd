use Rattle.std.proofs.Common.{◌≡◌, ◌≤◌, ◌-◌, ap, refl, rules, arith, List, ℕ, ◌++◌, false, length, get_or}
use Rattle.std.specs.Prelude.{None, Some}
use Rattle.std.specs.List.{position}
use Rattle.cs_base.specs.declared.held_files.HeldFile.{HeldFile}
use Rattle.cs_base.specs.Outside.{bytes_at}
use Rattle.cs_base.specs.Stored.{stored}
use Rattle.cs_base.specs.Calls.{is_listed}
use Rattle.cs_base.specs.World.{World}
use Rattle.cs_base.proofs.HeldFilesLemmas.{has_path, range_of, bytes_at-files_in-None, bytes_at-files_in-Some, last_path-Held, last_path-set, with_file-files_in}
use Rattle.cs_base.proofs.WorldLemmas.{put_fails-None, put_fails-Some}
use Rattle.cs_base.proofs.held_files.MemFilesFiles.put.Goals as goal

pub returns-in_default-clause-answer : goal.returns-in_default-clause-answer
returns-in_default-clause-answer c =
    let files = c.self.inside.files.items in
    let absent : position (has_path c.args.path.now) files ≡ None = search rules in
    let none : bytes_at c.args.path.now c.args.self.now.files ≡ None =
    rw (← c.self.view_is) (bytes_at-files_in-None c.self.inside.store.bytes c.args.path.now files absent) in
    put_fails-None c.args.path.now c.args.bytes.now c.args.self.now none

pub returns-in_default-clause-after : goal.returns-in_default-clause-after
returns-in_default-clause-after c =
    let files = c.self.inside.files.items in
    let absent : position (has_path c.args.path.now) files ≡ None = search rules in
    let none = bytes_at-files_in-None c.self.inside.store.bytes c.args.path.now files absent in
    let begun = c.begin-listed.ensures in
    rw (← c.self.view_is, none, begun.fails, begun.made, c.saturating_add-self-inside.ensures) refl

pub returns-then-listed-clause-after : goal.returns-then-listed-clause-after
returns-then-listed-clause-after c =
    let path : List ℕ = c.args.path.now in
    let files = c.self.inside.files.items in
    let any : HeldFile = record { path = path; start = 0; end = 0 } in
    let found : position (has_path path) files ≡ Some c.in-Some.k = search rules in
    let told = last_path-Held path files c.in-Some.k any found in
    let held = bytes_at-files_in-Some c.self.inside.store.bytes path files c.in-Some.k any found in
    let begun = c.begin-listed.ensures in
    rw (← c.self.view_is, told, held, begun.fails, begun.made, c.saturating_add-self-inside-then-listed.ensures) refl

pub returns-then-listed-clause-faults : goal.returns-then-listed-clause-faults
returns-then-listed-clause-faults c =
    let files = c.self.inside.files.items in
    let any : HeldFile = record { path = c.args.path.now; start = 0; end = 0 } in
    let found : position (has_path c.args.path.now) files ≡ Some c.in-Some.k = search rules in
    rw (last_path-Held c.args.path.now files c.in-Some.k any found, ← c.self.view_is) (search rules)

pub returns-clause-answer : goal.returns-clause-answer
returns-clause-answer c =
    let path : List ℕ = c.args.path.now in
    let files = c.self.inside.files.items in
    let file : HeldFile = c.index_mut-file.result.now in
    let found : position (has_path path) files ≡ Some c.in-Some.k = search rules in
    let w = c.args.self.now in
    let bytes = range_of c.self.inside.store.bytes (get_or files c.in-Some.k file) in
    let held : bytes_at path w.files ≡ Some bytes =
    rw (← c.self.view_is) (bytes_at-files_in-Some c.self.inside.store.bytes path files c.in-Some.k file found) in
    let unlisted : is_listed w.fails w.calls ≡ false = rw (← c.self.view_is) (search rules) in
    let fits : length c.args.bytes.now ≤ w.room = rw (← c.self.view_is) (search rules) in
    put_fails-Some path c.args.bytes.now bytes w held unlisted fits

pub returns-clause-after : goal.returns-clause-after
returns-clause-after c =
    let path : List ℕ = c.args.path.now in
    let new : List ℕ = c.args.bytes.now in
    let old = c.self.inside.store.bytes in
    let files = c.self.inside.files.items in
    let file : HeldFile = c.index_mut-file.result.now in
    let added : HeldFile = record { path = file.path; start = c.len-start.result; end = c.len-end.result } in
    let found : position (has_path path) files ≡ Some c.in-Some.k = search rules in
    let same : file.path ≡ (get_or files c.in-Some.k file).path = ap (λ (f : HeldFile). f.path) c.index_mut-file.ensures.value in
    let store_is : c.fill.new.self ≡ stored (old ++ new) (c.self.inside.store.room - length new) = search rules in
    let starts : added.start ≡ length old = search rules in
    let ends : added.end ≡ length (old ++ new) = search rules in
    let put = with_file-files_in old path new files c.in-Some.k file added c.self.invariant.ranges found same starts ends in
    let told = last_path-set files c.self.inside.last_failed c.in-Some.k file added same in
    let begun = c.begin-listed.ensures in
    rw (← c.self.view_is, store_is, put, told, begun.fails, begun.made) refl

pub returns-clause-held : goal.returns-clause-held
returns-clause-held c = ap (λ (w : World). Some w.files) (returns-clause-after c)

pub returns-clause-faults : goal.returns-clause-faults
returns-clause-faults c =
    let after = returns-clause-after c in
    let puts = ap (λ (w : World). w.failed_puts) after in
    let reads = ap (λ (w : World). w.failed_reads) after in
    let told = ap (λ (w : World). w.last_failed) after in
    record { grows = omega arith; rises = search rules; told = search rules; stays = λ _. (puts, told); apart = reads }
