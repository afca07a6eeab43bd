-- The private fields of a cache.
use Rattle.std.specs.Prelude.{◌≡◌, ◌≤◌, ℕ}
use Rattle.cs_base.specs.Limits.{most_bytes_of_all, most_files, most_tokens_of_all}
use Rattle.source_files.specs.Files.{Table, files_opened, bytes_opened}

-- What is true of the fields of every cache: the files that were opened and their bytes are counted.
pub record IsCache (table : Table) (files bytes toks : ℕ) : Type 0 where
  pub counted : files ≡ files_opened table
  pub measured : bytes ≡ bytes_opened table
  pub few_files : files ≤ most_files
  pub few_bytes : bytes ≤ most_bytes_of_all
  pub few_toks : toks ≤ most_tokens_of_all
