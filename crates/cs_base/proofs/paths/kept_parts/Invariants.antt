use Rattle.std.proofs.Common.{◌≡◌}
use Rattle.cs_base.specs.Paths.{kept_of}
use Rattle.cs_base.specs.Parts.{texts_of, stack_of}
use Rattle.cs_base.proofs.paths.kept_parts.Given as goal

abbrev pub invariant-loop-part : goal.invariant-loop-part
invariant-loop-part l = stack_of l.kept.items ≡ kept_of l.absolute (texts_of l.yielded)
