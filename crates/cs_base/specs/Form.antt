-- What a token keeps of its spelling and of its characters' origins (ISO/IEC 9899:1999, 6.4).
use Rattle.std.specs.Prelude.{ℕ, List, [], ◌∷◌, ◌≤◌, take, length}
use Rattle.std.specs.Rc.{rc_slice_items}
use Rattle.cs_base.specs.Spans.{whole}
use Rattle.cs_base.specs.declared.spans.Span.{Span}
use Rattle.cs_base.specs.declared.forms.Form.{Form}
use Rattle.cs_base.specs.declared.forms.Form.TheVariants.{Short, Long, Apart}

abbrev pub spelled : Form → List ℕ
spelled (Short short _) = take short.len short.bytes
spelled (Long text _) = rc_slice_items text
spelled (Apart text _) = rc_slice_items text

abbrev pub spans_in : Form → List Span
spans_in (Short short first) = whole (length (take short.len short.bytes)) first ∷ []
spans_in (Long text first) = whole (length (rc_slice_items text)) first ∷ []
spans_in (Apart _ spans) = rc_slice_items spans

-- a short text has no more bytes than there is room for
abbrev pub IsForm : Form → Type 0
IsForm (Short short _) = short.len ≤ 14
IsForm _ = Unit {0}
