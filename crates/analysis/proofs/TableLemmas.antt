-- Facts on tables of files.
use Rattle.std.proofs.Common.{List, Some, [], ap, drop, false, length, map, refl, subst, suc, sym, ℕ, ◌++◌, ◌+◌, ◌<◌, ◌∙◌, ◌∷◌, ◌≡◌}
use Rattle.std.proofs.lemmas.Option.{none-some, same_Some, slice_get-get_or}
use Rattle.std.proofs.lemmas.List.{at_drop_more}
use Rattle.std.specs.Option.{option_map, option_map_or}
use Rattle.analysis.specs.FileTokens.{kept_tokens, table_tokens}
use Rattle.analysis.specs.Tables.{IsPseudoIfMade}
use Rattle.analysis.specs.Changed.{Editing, edited_from}
use Rattle.include_tree.specs.Below.source_files.Files.{Absent, Entry, Found, Lines, Made, Opened, Source, Table, Unopened, entry}
use Rattle.include_tree.specs.Below.source_files.KeptFiles.{KeptValue, kept_at, kept_bytes, kept as kept_file}
use Rattle.include_tree.specs.Below.source_files.Tables.{IsFound}
use Rattle.include_tree.specs.PseudoFiles.{is_pseudo}
use Rattle.include_tree.proofs.EditedLemmas.{not_both}

pub parted-more : (table : Table) (k : ℕ) → k < length table
    → table_tokens k (drop k table) ≡ option_map_or kept_tokens (kept_at table k) [] ++ table_tokens (k + 1) (drop (k + 1) table)
unfolding table_tokens
parted-more table k within =
    let d : Entry = entry [] Absent in
    let found = slice_get-get_or table k d within in
    at_drop_more (table_tokens k) table k d within ∙ rw found refl

pub entry_held : (source : Source) (number : ℕ) (path : List ℕ) (found : Found) (f : KeptValue) → IsFound source path found → IsPseudoIfMade path found
    → is_pseudo f.path ≡ false → option_map (kept_file number path) (kept_bytes found) ≡ Some f → source f.path ≡ Some f.bytes
entry_held source number path Lines f is made real at = absurd (none-some f at)
entry_held source number path Absent f is made real at = absurd (none-some f at)
entry_held source number path (Unopened bytes) f is made real at = absurd (none-some f at)
entry_held source number path (Opened bytes) f is made real at =
    subst (λ (g : KeptValue). source g.path ≡ Some g.bytes) (same_Some (kept_file number path bytes) f at) is
entry_held source number path (Made bytes) f is made real at =
    absurd (not_both path made (subst (λ (g : KeptValue). is_pseudo g.path ≡ false) (sym (same_Some (kept_file number path bytes) f at)) real))

pub paths-from : (edit : Editing) (number : ℕ) (table : Table) → map (λ (e : Entry). e.path) (edited_from edit number table) ≡ map (λ (e : Entry). e.path) table
paths-from edit number [] = refl
paths-from edit number (e ∷ table) = ap (λ (paths : List (List ℕ)). e.path ∷ paths) (paths-from edit (suc number) table)
