use Rattle.std.proofs.Common.{◌≡◌, ◌+◌, ◌*◌, drop}
use Rattle.std.specs.Prelude.{IfSome}
use Rattle.source_files.specs.Files.{Source}
use Rattle.include_tree.specs.Walk.{items_in, walk, file_items}
use Rattle.source_files.specs.Tables.{AreFound}
use Rattle.source_files.specs.Answers.{ReadsOn}
use Rattle.unit_steps.specs.Keeping.{put_after}
use Rattle.unit_steps.specs.Moments.{state_in, IsAble}
use Rattle.source_files.specs.Sources.{source_at}
use Rattle.include_tree.specs.GivenFiles.{unit_context}
use Rattle.include_tree.specs.Walking.{inner_in}
use Rattle.include_tree.proofs.walking.+walk.Given as goal

-- How many more files may be open counts most.
abbrev pub decreases-walk_file : goal.decreases-walk_file
decreases-walk_file g l = 6 * l.room + 3

abbrev pub decreases-walk_item : goal.decreases-walk_item
decreases-walk_item g l = 6 * l.room + 2

abbrev pub decreases-walk_line : goal.decreases-walk_line
decreases-walk_line g l = 6 * l.room + 1

abbrev pub decreases-include_file : goal.decreases-include_file
decreases-include_file g l = 6 * l.room

abbrev pub decreases-enter_file : goal.decreases-enter_file
decreases-enter_file g l = 6 * l.room + 5

abbrev pub decreases-read_file : goal.decreases-read_file
decreases-read_file g l = 6 * l.room + 4

-- The items that are left give what all of them give.
abbrev pub invariant-walk_file-loop-k : goal.invariant-walk_file-loop-k
invariant-walk_file-loop-k g l = record {
  told : g.F.Files.told l.files ≡ g.F.Files.told l.fn.files;
  answer : (source : Source) → AreFound source l.cache.table → IfSome (source_at l.fn.cache.table l.number) (λ file.
      put_after l.fn.p.text (file_items (unit_context source l.unit l.fn.cache.toks) l.room file (state_in l.fn.cache.table l.fn.p))
      ≡ put_after l.p.text (walk (unit_context source l.unit l.fn.cache.toks) (inner_in (unit_context source l.unit l.fn.cache.toks) l.room) file l.k
      (drop l.k (items_in file)) l.sections (state_in l.cache.table l.p)));
  same : source_at l.cache.table l.number ≡ source_at l.fn.cache.table l.number;
  able : IsAble l.p;
  most : l.p.most ≡ l.fn.p.most;
  cache : ReadsOn (g.F.Files.told l.fn.files).held l.fn.cache l.cache;
}
