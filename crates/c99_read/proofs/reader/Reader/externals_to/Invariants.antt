use Rattle.std.proofs.Common.{◌≡◌, Ok}
use Rattle.c99_grammar.specs.Standard.{grammar}
use Rattle.c99_read.specs.Fronts.{externals}
use Rattle.c99_read.specs.Reading.{tokens_left}
use Rattle.c99_read.proofs.reader.Reader.externals_to.Given as goal

-- so many external declarations have been read
abbrev pub invariant-turns : goal.invariant-turns
invariant-turns l = (l.self.dialect ≡ l.dialect) × (externals (grammar l.dialect) l.count l.fn.self.state ≡ Ok l.self.state)

abbrev pub decreases-turns : goal.decreases-turns
decreases-turns l = tokens_left l.self.state
