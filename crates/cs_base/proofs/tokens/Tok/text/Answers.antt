use Rattle.std.proofs.Common.{length}
use Rattle.cs_base.specs.Form.{spelled, spans_in}
use Rattle.cs_base.proofs.OriginLemmas.{length-origins_by}
use Rattle.cs_base.proofs.tokens.Tok.text.Goals as goal

pub returns-clause-sound : goal.returns-clause-sound
returns-clause-sound c =
    let inside = c.self.inside in
    rw (← c.self.view_is)
    (record {
      each = length-origins_by (length (spelled inside.form)) (spans_in inside.form);
      short = c.self.invariant.short;
      traced = c.self.invariant.traced;
    })
