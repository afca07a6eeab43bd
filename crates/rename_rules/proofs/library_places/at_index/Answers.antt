use Rattle.std.proofs.Common.{ap, sym, ◌∙◌, Some}
use Rattle.cs_base.specs.Token.{Token}
use Rattle.std.proofs.lemmas.Option.{slice_get-get_or, slice_get_past}
use Rattle.offences.proofs.FirstLemmas.{then_none}
use Rattle.rename_rules.proofs.library_places.at_index.Goals as goal

pub returns-then-k-toks : goal.returns-then-k-toks
returns-then-k-toks c =
    let at = slice_get-get_or c.args.toks.now c.args.k c.index-toks-k.result c.if-k-toks.true ∙ ap (λ (t : Token). Some t) (sym c.index-toks-k.is) in
    rw at c.at_token.ensures

pub returns-else-k-toks : goal.returns-else-k-toks
returns-else-k-toks c = rw (slice_get_past c.args.toks.now c.args.k c.if-k-toks.false) (then_none c.args.a.now.value.table c.args.first)
