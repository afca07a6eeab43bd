use Rattle.std.proofs.Common.{rules, ◌∙◌, arith, refl, sym, subst}
use Rattle.std.proofs.lemmas.Grind.{common_steps}
use Rattle.std.specs.Prelude.{IfSome}
use Rattle.include_tree.specs.Below.source_files.Files.{Carried, source_of}
use Rattle.include_tree.specs.Below.source_files.Tables.{AreFound, HasEachOnce}
use Rattle.include_tree.proofs.Below.source_files.TableLemmas.{earlier_found}
use Rattle.analysis.specs.Answers.{fault_of}
use Rattle.analysis.specs.Carrying.{IsFresh}
use Rattle.analysis.proofs.CarryLemmas.{fresh_first, none_found, found_more}
use Rattle.analysis.proofs.TextsLemmas.{length-more, rest_first, rest_fault, rest_more, rest_end}
use Rattle.analysis.proofs.preprocessing.unit_texts.Goals as goal

pub loop-i-init : goal.loop-i-init
loop-i-init g c = record {
  told = refl;
  each = search rules;
  fresh = subst (λ (k : Carried). IsFresh 1 k.table) (sym c.requires.first) (fresh_first 1);
  once = subst (λ (k : Carried). HasEachOnce k.table) (sym c.requires.first) refl;
  found = subst (λ (k : Carried). IfSome (g.F.Files.told c.args.files.now).held (λ held. AreFound (source_of held) k.table)) (sym c.requires.first)
      (none_found (g.F.Files.told c.args.files.now).held);
  fronts = c.new-fronts.ensures c.args.cache.now.table;
  rest = λ source found. rw c.new-all.ensures.items (rest_first source c.args.units.now c.args.cache.now c.requires.first);
}

pub returns-in-Err-clause-over : goal.returns-in-Err-clause-over
returns-in-Err-clause-over g c =
    let i = c.loop-i.invariant in
    let reads = rw i.told at c.in-Err.ensures.reads in
    record {
      once = reads.once;
      found = found_more (g.F.Files.told c.args.files.now).held c.loop-i.cache.table c.next_text.new.cache.table i.found reads.found;
      each = λ source found.
          rest_fault source c.args.units.now c.loop-i.i c.index-units-i.result c.index-units-i.result c.loop-i.all.items c.loop-i.cache
          (fault_of c.in-Err.fault) c.loop-i-test.true c.index-units-i.is (i.rest source (earlier_found source c.loop-i.cache.table c.next_text.new.cache.table reads.grown found))
          (c.in-Err.ensures.answer i.fresh source found);
    }

pub loop-i-preserved : goal.loop-i-preserved
loop-i-preserved g c =
    let i = c.loop-i.invariant in
    let reads = rw i.told at c.in-Ok.ensures.reads in
    record {
      told = c.in-Ok.ensures.faults.told ∙ i.told;
      each = length-more c.loop-i.all.items c.add.new.all.items c.in-Ok.text c.loop-i.i c.in_ok-add-in-Ok.ensures i.each;
      fresh = c.in-Ok.ensures.fresh i.fresh;
      once = reads.once;
      found = found_more (g.F.Files.told c.args.files.now).held c.loop-i.cache.table c.next_text.new.cache.table i.found reads.found;
      fronts = c.in-Ok.ensures.fronts;
      rest = λ source found.
          rest_more source c.args.units.now c.loop-i.i c.index-units-i.result c.index-units-i.result c.loop-i.all.items c.add.new.all.items
          c.in-Ok.text c.loop-i.cache c.next_text.new.cache c.loop-i-test.true c.index-units-i.is c.in_ok-add-in-Ok.ensures
          (i.rest source (earlier_found source c.loop-i.cache.table c.next_text.new.cache.table reads.grown found)) (c.in-Ok.ensures.answer i.fresh source found);
    }

pub returns-in_err-add-in-Ok-clause-over : goal.returns-in_err-add-in-Ok-clause-over
returns-in_err-add-in-Ok-clause-over g c =
    let i = c.loop-i.invariant in
    let reads = rw i.told at c.in-Ok.ensures.reads in
    record {
      once = reads.once;
      found = found_more (g.F.Files.told c.args.files.now).held c.loop-i.cache.table c.next_text.new.cache.table i.found reads.found;
      each = λ source found. first_of (search rules, grind (arith, common_steps));
    }

pub returns-clause-over : goal.returns-clause-over
returns-clause-over g c =
    let i = c.loop-i.invariant in
    record {
      once = i.once;
      found = i.found;
      each = λ source found. rest_end source c.args.units.now c.loop-i.i c.loop-i.all.items c.loop-i.cache c.loop-i-test.false (i.rest source found);
    }
