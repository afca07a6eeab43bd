use Rattle.std.proofs.Common.{take}
use Rattle.name_chains.specs.Spellings.{AreNumbered, AreSigns}
use Rattle.name_chains.proofs.spellings.told.Given as goal

abbrev pub invariant-toks : goal.invariant-toks
invariant-toks l = AreNumbered (take l.tok-index l.toks) l.numbers.items l.spellings × AreSigns l.signs l.spellings
