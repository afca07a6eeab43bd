use Rattle.std.proofs.Common.{◌≡◌, take}
use Rattle.macro_body.specs.Hides.{toks_of}
use Rattle.macro_body.proofs.operands.toks_of.Given as goal

abbrev pub invariant-loop-h : goal.invariant-loop-h
invariant-loop-h l = l.toks.items ≡ toks_of (take l.h-index l.argument)
