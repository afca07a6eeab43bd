use Rattle.std.proofs.Common.{◌≡◌}
use Rattle.cs_base.specs.declared.positions.Pos.{Pos}
use Rattle.unseen_names.specs.Characters.{is_marked}
use Rattle.unseen_names.specs.Groups.{is_in_group}
use Rattle.unseen_names.specs.declared.names.Group.TheVariants.{Wide}
use Rattle.unseen_names.proofs.GroupLemmas.{told_wide}
use Rattle.unseen_names.proofs.reach.is_wide.Goals as goal

pub returns : goal.returns
returns c =
    let a = c.args.a.now.value in
    let of : (p : Pos) → is_marked c.deref.result.now p ≡ is_in_group Wide a p = rw c.deref.ensures.value c.in_ok-marks.ensures in
    told_wide a c.args.part c.members.result.now c.deref.result.now c.any_marked-wide.result c.members.ensures of c.any_marked-wide.ensures
