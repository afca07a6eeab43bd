use Rattle.std.proofs.Common.{refl}
use Rattle.std.proofs.lemmas.Option.{slice_get-get_or}
use Rattle.class_marks.proofs.AnswerLemmas.{told_false, told_true}
use Rattle.find_names.specs.Found.{PrintsLine}
use Rattle.find_names.proofs.FoundLemmas.{shown_all, shown_more, shown_none, shown_same}
use Rattle.find_names.proofs.found_classes.lines.Goals as goal
use Rattle.find_names.proofs.found_classes.lines.Goals.{then-found+in_ok-push_line, else-found}

pub loop-part-init : goal.loop-part-init
loop-part-init c = record {
  shown = λ q read. shown_none c.args.a.now.value q c.firsts-firsts.result.now c.new-text.result.items c.new-text.ensures.items;
  told = c.of-told.ensures;
}

pub class_number_near-class-requires : goal.class_number_near-class-requires
class_number_near-class-requires c =
    (c.firsts-firsts.ensures.each c.loop-part.part-index _ (slice_get-get_or c.firsts-firsts.result.now c.loop-part.part-index _ c.loop-part-test.true)).is_part

pub members-members-requires : goal.members-members-requires
members-members-requires c =
    (c.firsts-firsts.ensures.each c.loop-part.part-index _ (slice_get-get_or c.firsts-firsts.result.now c.loop-part.part-index _ c.loop-part-test.true)).is_part

pub facts_of-facts-requires-clause-class : goal.facts_of-facts-requires-clause-class
facts_of-facts-requires-clause-class c = record {
  first = c.firsts-firsts.ensures.each c.loop-part.part-index _ (slice_get-get_or c.firsts-firsts.result.now c.loop-part.part-index _ c.loop-part-test.true);
  are_members = c.members-members.ensures;
}

pub is_found-requires-clause-class : goal.is_found-requires-clause-class
is_found-requires-clause-class c = record {
  first = c.firsts-firsts.ensures.each c.loop-part.part-index _ (slice_get-get_or c.firsts-firsts.result.now c.loop-part.part-index _ c.loop-part-test.true);
  are_members = c.members-members.ensures;
}

pub push_line-requires : goal.push_line-requires
push_line-requires c = record {
  first = c.firsts-firsts.ensures.each c.loop-part.part-index _ (slice_get-get_or c.firsts-firsts.result.now c.loop-part.part-index _ c.loop-part-test.true);
  are_members = c.members-members.ensures;
}

pub loop-part-preserved : goal.loop-part-preserved
loop-part-preserved c = record {
  told = c.in_ok-found.ensures.told;
  shown = λ q read.
      let a = c.args.a.now.value in
      let firsts = c.firsts-firsts.result.now in
      let k = c.loop-part.part-index in
      let tells = c.in_ok-found.ensures.answer q read in
      elim c.if-found.branch [
        | then-found+in_ok-push_line w ↦
            shown_more a q firsts k _ c.loop-part.text.items c.if-found.text.items c.loop-part-test.true (told_true c.in_ok-found.found _ _ w.if-found.true tells)
            (rw w.text-is w.in_ok-push_line.ensures) (c.loop-part.invariant.shown q read)
        | else-found w ↦
            shown_same a q firsts k _ c.loop-part.text.items c.if-found.text.items c.loop-part-test.true (told_false c.in_ok-found.found _ _ w.if-found.false tells)
            (rw w.text-is refl) (c.loop-part.invariant.shown q read)
      ];
}

pub returns : goal.returns
returns c = λ q read.
    shown_all c.args.a.now.value q c.firsts-firsts.result.now c.loop-part.part-index c.loop-part.text.items c.loop-part-test.false c.firsts-firsts.ensures
    (c.loop-part.invariant.shown q read)
