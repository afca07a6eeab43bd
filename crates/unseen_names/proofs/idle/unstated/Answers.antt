use Rattle.std.proofs.Common.{◌≡◌, List, [], length, sym, subst, rules}
use Rattle.cs_base.specs.declared.positions.Part.{Part}
use Rattle.class_marks.specs.Keeping.{Keeps}
use Rattle.class_marks.proofs.KeepLemmas.{keeps_none}
use Rattle.unseen_names.specs.Unseen.{IsUnstated}
use Rattle.unseen_names.proofs.UnseenLemmas.{empty_list}
use Rattle.unseen_names.proofs.idle.unstated.Goals as goal

pub returns-then-is_empty : goal.returns-then-is_empty
returns-then-is_empty c =
    let P : Part → Type 0 = IsUnstated c.args.a.now.value in
    let items = c.args.places.items in
    let zero : length items ≡ 0 = search rules in
    let none : items ≡ [] = empty_list items zero in
    subst (λ (ps : List Part). Keeps P ps items) (sym none) (keeps_none P items none)

pub unstated_by-left-requires-clause-places : goal.unstated_by-left-requires-clause-places
unstated_by-left-requires-clause-places c = rw c.deref-2.ensures.value c.requires

pub unstated_by-left-requires-clause-marks : goal.unstated_by-left-requires-clause-marks
unstated_by-left-requires-clause-marks c = rw c.deref.ensures.value c.in_ok-marks.ensures
