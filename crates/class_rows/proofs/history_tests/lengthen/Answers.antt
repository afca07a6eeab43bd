use Rattle.std.proofs.Common.{refl}
use Rattle.class_rows.proofs.history_tests.lengthen.Goals as goal

pub resize-requires-clause-within : goal.resize-requires-clause-within
resize-requires-clause-within c = c.if-can_resize.ensures.within refl
