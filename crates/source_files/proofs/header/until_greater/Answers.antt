use Rattle.std.proofs.Common.{ℕ, take, sym, ap}
use Rattle.std.specs.Option.{option_map}
use Rattle.source_files.proofs.header.until_greater.Goals as goal

pub returns-in-Some : goal.returns-in-Some
returns-in-Some c = sym (ap (option_map (λ (k : ℕ). take k c.args.toks.now)) c.in-Some.ensures.answer)

pub returns-in-None : goal.returns-in-None
returns-in-None c = sym (ap (option_map (λ (k : ℕ). take k c.args.toks.now)) c.in-None.ensures.answer)
