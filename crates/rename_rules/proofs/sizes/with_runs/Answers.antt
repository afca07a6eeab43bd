use Rattle.std.proofs.Common.{◌≡◌, ◌+◌, ◌≤◌, ap, arith, drop, length, take, ◌∙◌}
use Rattle.std.specs.Prelude.{ℕ, List, min}
use Rattle.std.specs.List.{flat_map}
use Rattle.cs_base.specs.declared.causes.Cause.TheVariants as cause
use Rattle.cs_base.specs.declared.positions.Part.{Part}
use Rattle.offences.specs.First.{standing}
use Rattle.rename_rules.specs.Offences.{large_place}
use Rattle.rename_rules.specs.Runs.{most_size, new_sizes, run_length, runs}
use Rattle.rename_rules.proofs.RunLemmas.{apart_drop}
use Rattle.rename_rules.proofs.SizeLemmas.{first_end, first_next, front_in_order, total_end, total_next}
use Rattle.rename_rules.proofs.sizes.with_runs.Goals as goal

pub with_run-requires-clause-order : goal.with_run-requires-clause-order
with_run-requires-clause-order c =
    let rest : List Part = c.files.rest.now in
    let front : c.split_at.result.0.now ≡ take (run_length rest) rest = c.split_at.ensures.front ∙ ap (λ (n : ℕ). take n rest) c.run_length.ensures.answer in
    rw front (front_in_order rest c.files.invariant.apart)

pub files-preserved : goal.files-preserved
files-preserved c =
    let a = c.args.a.now.value in
    let name = c.args.name.now in
    let rest : List Part = c.files.rest.now in
    let some : 1 ≤ length rest = omega (arith, c.files-test.true) in
    let front : c.split_at.result.0.now ≡ take (run_length rest) rest = c.split_at.ensures.front ∙ ap (λ (n : ℕ). take n rest) c.run_length.ensures.answer in
    let back : c.split_at.result.1.now ≡ drop (run_length rest) rest = c.split_at.ensures.back ∙ ap (λ (n : ℕ). drop n rest) c.run_length.ensures.answer in
    record {
      apart = rw back (apart_drop (run_length rest) rest c.files.invariant.apart);
      within = omega (arith, c.in_ok-now.ensures.total);
      total = rw back
          (total_next a name rest c.files.now.total c.in_ok-now.now.total (min (c.args.grown.total + new_sizes a name (runs c.args.members.now)) most_size) some
          (rw front at c.in_ok-now.ensures.total) c.files.invariant.total);
      first = rw back
          (first_next a name rest (standing cause.TooLarge (flat_map (large_place a name) (runs c.args.members.now))) c.args.grown.first c.files.now.first c.in_ok-now.now.first some
          c.files.invariant.first (rw front at c.in_ok-now.ensures.first));
    }

pub returns-clause-total : goal.returns-clause-total
returns-clause-total c =
    let a = c.args.a.now.value in
    let name = c.args.name.now in
    total_end a name c.files.rest.now c.files.now.total (min (c.args.grown.total + new_sizes a name (runs c.args.members.now)) most_size)
    (omega (arith, c.files-test.false)) c.files.invariant.within c.files.invariant.total

pub returns-clause-first : goal.returns-clause-first
returns-clause-first c =
    let a = c.args.a.now.value in
    let name = c.args.name.now in
    first_end a name c.files.rest.now (standing cause.TooLarge (flat_map (large_place a name) (runs c.args.members.now))) c.args.grown.first c.files.now.first
    (omega (arith, c.files-test.false)) c.files.invariant.first
