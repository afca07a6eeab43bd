use Rattle.std.proofs.Common.{◌≡◌, filter, sym, subst}
use Rattle.unused_names.specs.Lines.{has_position, is_chosen, lines_in}
use Rattle.unused_names.specs.Unneeded.{AreUnneeded}
use Rattle.class_marks.proofs.AnswerLemmas.{if_ok_then}
use Rattle.unused_names.proofs.UnneededLemmas.{are_unneeded}
use Rattle.unused_names.proofs.unneeded_lines.unneeded.Goals as goal

pub returns : goal.returns
returns c =
    let a = c.args.a.now.value in
    let lines = c.in_ok-lines.lines in
    let places = c.in_ok-places.places.items in
    let same = rw c.all.ensures at c.in_ok-places.ensures.same in
    let told = are_unneeded a (lines_in lines.all.items lines.needed) places c.in_ok-lines.ensures same c.in_ok-places.ensures.sorted in
    if_ok_then c.chosen.result (λ out. out.items ≡ filter (is_chosen a (has_position lines.needed)) c.deref.result.now)
    (λ out. AreUnneeded a out.items) c.chosen.ensures
    (λ out is. subst (AreUnneeded a) (sym (rw c.deref.ensures.value at is)) told)
