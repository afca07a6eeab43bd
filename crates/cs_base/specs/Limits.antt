-- This project's limits on what is read. The standard sets lower bounds for some (ISO/IEC 9899:1999, 5.2.4.1).
use Rattle.std.specs.Prelude.{ℕ, ◌^◌}

-- how many bytes a file may have
abbrev pub most_bytes : ℕ
most_bytes = 2 ^ 22

-- how many bytes all files may have together
abbrev pub most_bytes_of_all : ℕ
most_bytes_of_all = 2 ^ 28

-- how many files may be read
abbrev pub most_files : ℕ
most_files = 4096

-- how many files may be open inside one another, that of the unit among them
abbrev pub most_open_files : ℕ
most_open_files = 200

-- how many units a workspace may have
abbrev pub most_units : ℕ
most_units = 8192

-- how many bytes the pseudo file of a unit's settings may have
abbrev pub most_defines : ℕ
most_defines = 2 ^ 16

-- how many tokens a unit may have
abbrev pub most_tokens : ℕ
most_tokens = 2 ^ 22

-- how many tokens all units may have together
abbrev pub most_tokens_of_all : ℕ
most_tokens_of_all = 2 ^ 27

-- what the replacements of macros in a unit may cost together
abbrev pub most_work : ℕ
most_work = 2 ^ 22
