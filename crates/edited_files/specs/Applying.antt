-- What putting the edits does to the files held and to the counts of what failed.
use Rattle.std.specs.Prelude.{ℕ, ◌≡◌, ◌⊎◌, ◌+◌, ◌<◌, ◌≤◌, List, Option, IfSome, length, take, slice_get}
use Rattle.std.specs.Option.{option_map}
use Rattle.cs_base.specs.Edit.{Edit, with_edits}
use Rattle.cs_base.specs.Outside.{FileMap, FilesTold, Rose}
use Rattle.edited_files.specs.declared.applying.Applied.{Applied}
use Rattle.edited_files.specs.declared.applying.Applied.TheVariants.{Done, Failed}

-- Done: every edit is put. Failed: so many edits are put, the next one or not, and no other.
abbrev pub Applies : List Edit → Option FileMap → Option FileMap → Applied → Type 0
Applies edits before now Done = now ≡ option_map (with_edits edits) before
Applies edits before now (Failed written) =
    (written < length edits)
    × ((now ≡ option_map (with_edits (take written edits)) before)
    ⊎ (now ≡ option_map (with_edits (take (written + 1) edits)) before))

-- The counts: that of the reads stands; that of the puts, and the last failed path, stand where all is
-- done. Where a put failed its count rose, and the last failed path, where told, is that of this edit.
pub record AppliesCounts (edits : List Edit) (old new : FilesTold) (applied : Applied) : Type 0 where
  pub reads_stay : new.reads ≡ old.reads
  pub grows : old.puts ≤ new.puts
  pub done : applied ≡ Done → (new.puts ≡ old.puts) × (new.last ≡ old.last)
  pub failed : (written : ℕ) → applied ≡ Failed written
      → Rose old.puts new.puts × IfSome new.last (λ path. IfSome (slice_get edits written) (λ e. path ≡ e.path))
