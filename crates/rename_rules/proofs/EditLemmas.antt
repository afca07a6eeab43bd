-- Edits of files, one after another.
use Rattle.std.proofs.Common.{◌≡◌, ℕ, ◌≤◌, List, [], ◌++◌, length, take, drop, sym, ◌∙◌, append_assoc, append-nil}
use Rattle.std.specs.List.{flat_map}
use Rattle.cs_base.specs.declared.positions.Part.{Part}
use Rattle.cs_base.specs.Edit.{Edit}
use Rattle.cs_base.proofs.PlaceLemmas.{none_left}
use Rattle.analysis.specs.Analysis.{AnalysisValue}
use Rattle.rename_rules.specs.Runs.{edit_of, edits_of, run_length, runs}
use Rattle.rename_rules.proofs.RunLemmas.{runs-none}
use Rattle.rename_rules.proofs.SizeLemmas.{runs_at}

pub edits_next : (a : AnalysisValue) (name : List ℕ) (rest : List Part) (edits more whole : List Edit) → 1 ≤ length rest
    → more ≡ edits ++ edit_of a name (take (run_length rest) rest)
    → edits ++ flat_map (edit_of a name) (runs rest) ≡ whole
    → more ++ flat_map (edit_of a name) (runs (drop (run_length rest) rest)) ≡ whole
edits_next a name rest edits more whole some added so_far =
    let here = edit_of a name (take (run_length rest) rest) in
    let later = flat_map (edit_of a name) (runs (drop (run_length rest) rest)) in
    let all : edits ++ (here ++ later) ≡ whole = rw (runs_at rest some) at so_far in
    rw added (append_assoc edits here later ∙ all)

pub edits_end : (a : AnalysisValue) (name : List ℕ) (rest members : List Part) (edits : List Edit) → length rest ≡ 0
    → edits ++ flat_map (edit_of a name) (runs rest) ≡ flat_map (edit_of a name) (runs members) → edits ≡ edits_of a members name
unfolding edits_of
edits_end a name rest members edits none so_far =
    let end : edits ++ [] ≡ flat_map (edit_of a name) (runs members) = rw (none_left rest none, runs-none) at so_far in
    sym (append-nil edits) ∙ end
