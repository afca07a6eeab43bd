use Rattle.std.proofs.Common.{◌≡◌, List, [], refl, subst, rules}
use Rattle.std.proofs.lemmas.List.{take_all}
use Rattle.std.proofs.lemmas.Option.{slice_get-get_or}
use Rattle.cs_base.specs.declared.positions.Part.{Part}
use Rattle.class_marks.specs.Keeping.{Keeps}
use Rattle.class_marks.proofs.KeepLemmas.{keeps_more, keeps_none, keeps_same}
use Rattle.unseen_names.specs.Unseen.{IsUnstated}
use Rattle.unseen_names.proofs.idle.unstated_by.Goals as goal
use Rattle.unseen_names.proofs.idle.unstated_by.Goals.{then-is_unstated+in_ok-push, else-is_unstated}

pub loop-place-init : goal.loop-place-init
loop-place-init c =
    let none : c.new-out.result.items ≡ [] = search rules in
    keeps_none (IsUnstated c.args.a.now.value) c.new-out.result.items none

pub is_unstated-requires-clause-place : goal.is_unstated-requires-clause-place
is_unstated-requires-clause-place c =
    c.requires.places c.loop-place.place-index _ (slice_get-get_or c.args.places.now c.loop-place.place-index _ c.loop-place-test.true)

pub loop-place-preserved : goal.loop-place-preserved
loop-place-preserved c =
    let P : Part → Type 0 = IsUnstated c.args.a.now.value in
    let places = c.args.places.now in
    let k = c.loop-place.place-index in
    elim c.if-is_unstated.branch [
      | then-is_unstated+in_ok-push w ↦
          keeps_more P places k _ c.loop-place.out.items c.if-is_unstated.out.items c.loop-place-test.true w.if-is_unstated.ensures
          (rw w.out-is w.in_ok-push.ensures.items) c.loop-place.invariant
      | else-is_unstated w ↦
          keeps_same P places k _ c.loop-place.out.items c.if-is_unstated.out.items c.loop-place-test.true w.if-is_unstated.ensures
          (rw w.out-is refl) c.loop-place.invariant
    ]

pub returns : goal.returns
returns c =
    let P : Part → Type 0 = IsUnstated c.args.a.now.value in
    subst (λ (ps : List Part). Keeps P ps c.loop-place.out.items) (take_all c.loop-place.place-index c.args.places.now c.loop-place-test.false)
    c.loop-place.invariant
