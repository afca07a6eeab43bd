use Rattle.std.proofs.Common.{arith}
use Rattle.std.specs.Prelude.{nat_lt}
use Rattle.std.proofs.lemmas.List.Sums.{prefix_len-le-length}
use Rattle.template_rules.specs.FileLists.{begin_of}
use Rattle.template_rules.proofs.file_lists.put_list.Goals as goal

pub insert-requires : goal.insert-requires
insert-requires c =
    omega (arith, c.place_for-k.ensures, prefix_len-le-length (λ m. nat_lt (begin_of m) c.begin_of-at.result) c.as_slice.result.now, c.as_slice.ensures.len)
