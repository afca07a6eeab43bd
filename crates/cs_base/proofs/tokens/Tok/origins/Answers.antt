use Rattle.std.proofs.Common.{length, sym, ◌∙◌}
use Rattle.cs_base.specs.Form.{spelled, spans_in}
use Rattle.cs_base.proofs.OriginLemmas.{slice_get-origins_by}
use Rattle.cs_base.proofs.tokens.Tok.origins.Goals as goal

pub returns : goal.returns
returns c =
    let form = c.self.inside.form in
    let told = slice_get-origins_by (length (spelled form)) c.args.k (spans_in form) c.self.invariant.spans in
    record { answer = rw (← c.self.view_is) (c.origin.ensures ∙ sym told) }
