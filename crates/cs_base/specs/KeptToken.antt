-- What is true of the private fields of every token (ISO/IEC 9899:1999, 6.4).
use Rattle.std.specs.Prelude.{◌<◌, ◌^◌, length}
use Rattle.cs_base.specs.Token.{IsTraced}
use Rattle.cs_base.specs.Spans.{AreSpans, origins_by}
use Rattle.cs_base.specs.Form.{spelled, spans_in, IsForm}
use Rattle.cs_base.specs.declared.tokens.Kind.{Kind}
use Rattle.cs_base.specs.declared.forms.Form.{Form}

pub record IsKept (kind : Kind) (form : Form) : Type 0 where
  pub room : IsForm form
  pub spans : AreSpans (length (spelled form)) (spans_in form)
  pub short : length (spelled form) < 2 ^ 32
  pub traced : IsTraced kind (origins_by (length (spelled form)) (spans_in form))
