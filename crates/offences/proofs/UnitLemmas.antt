-- The files of a table, one after another.
use Rattle.std.proofs.Common.{◌≡◌, ℕ, ◌+◌, [], ◌++◌, ◌<◌, drop, length, refl, ◌∙◌}
use Rattle.std.specs.Option.{option_map_or}
use Rattle.std.proofs.lemmas.Option.{slice_get-get_or}
use Rattle.std.proofs.lemmas.List.{at_drop_more}
use Rattle.analysis.specs.Below.source_files.Files.{Table, Absent, Entry, entry}
use Rattle.analysis.specs.Below.source_files.KeptFiles.{kept_at}
use Rattle.offences.specs.Tokens.{file_toks, kept_tokens}

pub kept-more : (table : Table) (k : ℕ) → k < length table
    → kept_tokens k (drop k table) ≡ option_map_or file_toks (kept_at table k) [] ++ kept_tokens (k + 1) (drop (k + 1) table)
unfolding kept_tokens
kept-more table k within =
    let d : Entry = entry [] Absent in
    let found = slice_get-get_or table k d within in
    at_drop_more (kept_tokens k) table k d within ∙ rw found refl
