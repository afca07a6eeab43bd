use Rattle.std.proofs.lemmas.Option.{slice_get-get_or}
use Rattle.library_rows.proofs.advance_tests.show_class.Goals as goal

pub spelling-requires : goal.spelling-requires
spelling-requires c =
    (c.members-members.ensures.each c.loop-k.k _ (slice_get-get_or c.members-members.result.now c.loop-k.k _ c.loop-k-test.true)).is_part
