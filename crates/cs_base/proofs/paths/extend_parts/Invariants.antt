use Rattle.std.proofs.Common.{◌≡◌, ◌++◌, drop}
use Rattle.cs_base.specs.Parts.{texts_of, slashed}
use Rattle.cs_base.proofs.paths.extend_parts.Given as goal

abbrev pub invariant-loop-part : goal.invariant-loop-part
invariant-loop-part l =
    l.path.items ++ slashed (texts_of (drop l.part-index l.parts)) ≡ l.initial.path.items ++ slashed (texts_of l.parts)
