use Rattle.std.proofs.Common.{◌≡◌, ◌+◌, ◌<◌, ◌^◌, ◌-◌, rules, ◌∙◌, arith, ap, refl, sym, subst, slice_get, length, Some}
use Rattle.std.proofs.lemmas.Grind.{common_steps}
use Rattle.std.specs.Prelude.{IfSome}
use Rattle.cs_base.proofs.ListLemmas.{read_at}
use Rattle.include_tree.specs.Below.source_files.Files.{Carried, source_of}
use Rattle.include_tree.specs.Below.source_files.Tables.{AreFound, HasEachOnce}
use Rattle.include_tree.proofs.Below.source_files.AgreeLemmas.{some_source}
use Rattle.include_tree.proofs.Below.source_files.TableLemmas.{earlier_found}
use Rattle.analysis.specs.Answers.{fault_of}
use Rattle.analysis.specs.Carrying.{IsFresh}
use Rattle.analysis.specs.MadeAgain.{all_units}
use Rattle.analysis.proofs.CarryLemmas.{fresh_first, none_found, found_more}
use Rattle.analysis.proofs.MadeAgainLemmas.{made_so, taken_first, taken_on}
use Rattle.analysis.proofs.TakenLemmas.{fresh_far}
use Rattle.analysis.proofs.UnitsLemmas.{rest_first, rest_fault, rest_more, rest_end}
use Rattle.analysis.proofs.accepting.accepted_units.Goals as goal

pub loop-i-init : goal.loop-i-init
loop-i-init g c = record {
  told = refl;
  each = rw (c.new-taken.ensures.kept, c.new-taken.ensures.others) refl;
  fresh = subst (λ (k : Carried). IsFresh 1 k.table) (sym c.requires.first) (fresh_first 1);
  once = subst (λ (k : Carried). HasEachOnce k.table) (sym c.requires.first) refl;
  found = subst (λ (k : Carried). IfSome (g.F.Files.told c.args.files.now).held (λ held. AreFound (source_of held) k.table)) (sym c.requires.first)
      (none_found (g.F.Files.told c.args.files.now).held);
  fronts = c.new-shared.ensures c.args.cache.now.table;
  taken = taken_first c.args.cache.now.table c.args.units.now c.new-taken.result.kept.items c.new-taken.result.others c.new-taken.result.begins.items c.new-taken.result.brought.items
      c.new-taken.ensures.kept c.new-taken.ensures.others c.new-taken.ensures.begins c.new-taken.ensures.brought;
  rest = λ source found. rw (c.new-taken.ensures.kept, c.new-taken.ensures.others) (rest_first source c.args.units.now c.args.cache.now c.requires.first);
}

pub returns-in-Err-clause-over : goal.returns-in-Err-clause-over
returns-in-Err-clause-over g c =
    let i = c.loop-i.invariant in
    let reads = rw i.told at c.in-Err.ensures.reads in
    let all = all_units c.loop-i.cache.table c.args.units.now c.loop-i.taken.kept.items c.loop-i.taken.others in
    record {
      once = reads.once;
      found = found_more (g.F.Files.told c.args.files.now).held c.loop-i.cache.table c.next_unit.new.cache.table i.found reads.found;
      each = λ source found.
          rest_fault source c.args.units.now c.loop-i.i c.index-units-i.result c.index-units-i.result all c.loop-i.cache
          (fault_of c.in-Err.fault) c.loop-i-test.true c.index-units-i.is (i.rest source (earlier_found source c.loop-i.cache.table c.next_unit.new.cache.table reads.grown found))
          (c.in-Err.ensures.answer i.fresh source found);
    }

pub add-requires : goal.add-requires
add-requires g c = record { few = omega (arith, c.loop-i.invariant.each, c.loop-i-test.true, c.requires.few) }

pub loop-i-preserved : goal.loop-i-preserved
loop-i-preserved g c =
    let i = c.loop-i.invariant in
    let reads = rw i.told at c.in-Ok.ensures.reads in
    let units = c.args.units.now in
    let unit = c.index-units-i.result in
    let u = c.in-Ok.unit in
    let old = c.loop-i.taken in
    let new = c.add.new.self in
    let before = c.loop-i.cache in
    let after = c.next_unit.new.cache in
    let less = c.loop-i-test.true in
    let at : slice_get units (length old.kept.items + old.others) ≡ Some unit = ap (slice_get units) i.each ∙ read_at units c.loop-i.i unit less c.index-units-i.is in
    let within : length old.kept.items + old.others < length units = omega (arith, i.each, less) in
    let some = some_source after.table reads.once in
    let made = made_so some.0 (c.loop-i.i + 1) unit before after u (c.in-Ok.ensures.answer i.fresh some.0 some.1) in
    let fresh = c.in-Ok.ensures.fresh i.fresh in
    let far : IsFresh (2 ^ 32 - 1) after.table = fresh_far (c.loop-i.i + 1 + 1) after.table (omega (arith, less, c.requires.few)) fresh in
    let on = taken_on before.table after.table units unit u old.kept.items new.kept.items old.others new.others old.begins.items new.begins.items old.brought.items new.brought.items
    within c.requires.few at reads.grown made far i.taken c.in_ok-add-in-Ok.ensures.takes c.in_ok-add-in-Ok.ensures.begins c.in_ok-add-in-Ok.ensures.brought in
    record {
      told = c.in-Ok.ensures.faults.told ∙ i.told;
      each = omega (arith, on.count, i.each);
      fresh = fresh;
      once = reads.once;
      found = found_more (g.F.Files.told c.args.files.now).held before.table after.table i.found reads.found;
      fronts = c.in-Ok.ensures.shared;
      taken = on.taken;
      rest = λ source found.
          rest_more source units c.loop-i.i unit unit (all_units before.table units old.kept.items old.others) (all_units after.table units new.kept.items new.others)
          u before after less c.index-units-i.is on.all
          (i.rest source (earlier_found source before.table after.table reads.grown found)) (c.in-Ok.ensures.answer i.fresh source found);
    }

pub returns-in_err-add-in-Ok-clause-over : goal.returns-in_err-add-in-Ok-clause-over
returns-in_err-add-in-Ok-clause-over g c =
    let i = c.loop-i.invariant in
    let reads = rw i.told at c.in-Ok.ensures.reads in
    record {
      once = reads.once;
      found = found_more (g.F.Files.told c.args.files.now).held c.loop-i.cache.table c.next_unit.new.cache.table i.found reads.found;
      each = λ source found. first_of (search rules, grind (arith, common_steps));
    }

pub returns-clause-taken : goal.returns-clause-taken
returns-clause-taken g c = c.loop-i.invariant.taken

pub returns-clause-over : goal.returns-clause-over
returns-clause-over g c =
    let i = c.loop-i.invariant in
    record {
      once = i.once;
      found = i.found;
      each = λ source found.
          rest_end source c.args.units.now c.loop-i.i (all_units c.loop-i.cache.table c.args.units.now c.loop-i.taken.kept.items c.loop-i.taken.others) c.loop-i.cache c.loop-i-test.false
          (i.rest source found);
    }
