use Rattle.std.specs.Prelude.{vec_len, vec_capacity}
use Rattle.class_labels.proofs.PlaceFacts.{fits_first}
use Rattle.class_labels.proofs.regrowth.add_first.Goals as goal

pub add_piece-requires : goal.add_piece-requires
add_piece-requires c =
    fits_first c.args.class c.args.len c.args.spots.now _ _ (vec_len c.args.all.now) (vec_capacity c.args.all.now) c.in-Some.ensures.cases.0 c.requires
