use Rattle.std.proofs.Common.{◌∙◌, sym, arith, vec_len}
use Rattle.std.proofs.lemmas.Bool.{eqb-true}
use Rattle.std.proofs.lemmas.List.{nil_from_length}
use Rattle.macro_expand.proofs.FrameLemmas.{raised}
use Rattle.macro_expand.proofs.rest.raise.Goals as goal

pub returns-in-Some-clause-same : goal.returns-in-Some-clause-same
returns-in-Some-clause-same c = λ low.
    raised c.args.names.now c.args.toks.now.items c.args.below.now.items c.pop.new.self.items c.in-Some.frame low (nil_from_length c.args.toks.now.items (omega (arith, eqb-true (vec_len c.args.toks.now) 0 (sym c.is_empty.ensures ∙ c.if-is_empty.true)))) c.in-Some.ensures.items
