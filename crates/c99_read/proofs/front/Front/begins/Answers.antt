use Rattle.std.proofs.Common.{◌≡◌, get_or, length, ap, ◌∙◌, arith}
use Rattle.c99_grammar.specs.Standard.{grammar}
use Rattle.c99_read.specs.Fronts.{FrontValue}
use Rattle.c99_read.proofs.FrontLemmas.{alike_more}
use Rattle.c99_read.proofs.front.Front.begins.Goals as goal

pub tokens-preserved : goal.tokens-preserved
tokens-preserved c =
    let of : c.self.inside.toks.items ≡ c.args.self.now.toks = ap (λ (f : FrontValue). f.toks) c.self.view_is in
    let long = ap length of in
    let same = c.is_alike.ensures c.if-not-is_alike.false in
    alike_more (grammar c.args.self.now.dialect) c.args.self.now.toks c.args.toks.now c.tokens.k c.index.result.now c.index-toks-k.result c.tokens.invariant
    (omega (arith, long, c.tokens-test.true, c.len-count.ensures)) (omega (arith, c.tokens-test.true, c.if-count-toks.false))
    (c.index.ensures ∙ ap (λ ts. get_or ts c.tokens.k c.index.result.now) of) c.index-toks-k.is same.0 same.1
