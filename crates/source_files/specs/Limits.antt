-- This project's limits on translation units. The standard sets lower bounds for some (ISO/IEC 9899:1999,
-- 5.2.4.1).
use Rattle.std.specs.Prelude.{ℕ}
use Rattle.cs_base.specs.Limits.{most_bytes_of_all, most_files, most_open_files, most_tokens, most_tokens_of_all, most_work}

-- How many files may be read, and how many bytes in them together; how many files may be open inside one
-- another, that of the unit among them; what the replacements of macros in a unit may cost together; how
-- many tokens a unit may have, and all units together.
pub record Limits : Type 0 where
  pub files : ℕ
  pub all_bytes : ℕ
  pub open_files : ℕ
  pub work : ℕ
  pub unit_toks : ℕ
  pub all_toks : ℕ

-- limits of these parts
abbrev pub limits : ℕ → ℕ → ℕ → ℕ → ℕ → ℕ → Limits
limits files all_bytes open_files work unit_toks all_toks = record {
  files = files;
  all_bytes = all_bytes;
  open_files = open_files;
  work = work;
  unit_toks = unit_toks;
  all_toks = all_toks;
}

-- the limits that hold; that on the bytes of one file is the lexer's
abbrev pub the_limits : Limits
the_limits = limits most_files most_bytes_of_all most_open_files most_work most_tokens most_tokens_of_all
