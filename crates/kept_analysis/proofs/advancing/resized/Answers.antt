use Rattle.std.proofs.Common.{refl}
use Rattle.kept_analysis.proofs.advancing.resized.Goals as goal

pub resize-requires-clause-within : goal.resize-requires-clause-within
resize-requires-clause-within c = c.if-not-can_resize.ensures.within refl
