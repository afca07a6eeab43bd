use Rattle.std.proofs.Common.{◌≡◌, ◌≤◌, ap, arith, drop, length, take, ◌∙◌}
use Rattle.std.specs.Prelude.{ℕ, List}
use Rattle.std.specs.List.{flat_map}
use Rattle.cs_base.specs.declared.positions.Part.{Part}
use Rattle.rename_rules.specs.Runs.{edit_of, run_length, runs}
use Rattle.rename_rules.proofs.RunLemmas.{apart_drop}
use Rattle.rename_rules.proofs.SizeLemmas.{front_in_order}
use Rattle.rename_rules.proofs.EditLemmas.{edits_next, edits_end}
use Rattle.rename_rules.proofs.PathLemmas.{behind_next, by_path_drop, is_next}
use Rattle.rename_rules.proofs.edits.edit_files.Goals as goal

pub with_run-requires-clause-order : goal.with_run-requires-clause-order
with_run-requires-clause-order c =
    let rest : List Part = c.files.rest.now in
    let front : c.split_at.result.0.now ≡ take (run_length rest) rest = c.split_at.ensures.front ∙ ap (λ (n : ℕ). take n rest) c.run_length.ensures.answer in
    rw front (front_in_order rest c.files.invariant.apart)

pub with_run-requires-clause-next : goal.with_run-requires-clause-next
with_run-requires-clause-next c =
    let table = c.args.a.now.value.table in
    let rest : List Part = c.files.rest.now in
    let front : c.split_at.result.0.now ≡ take (run_length rest) rest = c.split_at.ensures.front ∙ ap (λ (n : ℕ). take n rest) c.run_length.ensures.answer in
    rw front (is_next table c.files.edits rest c.requires.text c.files.invariant.behind)

pub files-preserved : goal.files-preserved
files-preserved c =
    let a = c.args.a.now.value in
    let name = c.args.name.now in
    let rest : List Part = c.files.rest.now in
    let some : 1 ≤ length rest = omega (arith, c.files-test.true) in
    let front : c.split_at.result.0.now ≡ take (run_length rest) rest = c.split_at.ensures.front ∙ ap (λ (n : ℕ). take n rest) c.run_length.ensures.answer in
    let back : c.split_at.result.1.now ≡ drop (run_length rest) rest = c.split_at.ensures.back ∙ ap (λ (n : ℕ). drop n rest) c.run_length.ensures.answer in
    let more = rw front at c.in_ok-edits.ensures in
    record {
      apart = rw back (apart_drop (run_length rest) rest c.files.invariant.apart);
      by_path = rw back (by_path_drop a.table (run_length rest) rest c.files.invariant.by_path);
      behind = rw back (behind_next a name rest c.files.edits _ some more c.files.invariant.by_path c.files.invariant.behind);
      made = rw back
          (edits_next a name rest c.files.edits _ (flat_map (edit_of a name) (runs c.args.members.now)) some more c.files.invariant.made);
    }

pub returns : goal.returns
returns c =
    edits_end c.args.a.now.value c.args.name.now c.files.rest.now c.args.members.now c.files.edits (omega (arith, c.files-test.false)) c.files.invariant.made
