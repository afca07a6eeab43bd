-- Names that are processed, and macros that are defined, step by step.
use Rattle.std.proofs.Common.{◌≡◌, List, Option, None, sym, ◌∙◌, ap}
use Rattle.cs_base.specs.Token.{Token}
use Rattle.unit_steps.specs.Names.{spelled_in, linked_with}
use Rattle.unit_steps.specs.Texts.{UnitTextValue}
use Rattle.unit_steps.specs.Keeping.{noted_in}
use Rattle.unit_steps.proofs.KeepingLemmas.{noted_in-nil}

-- a spelling that is new is not linked
pub link-none : (k : UnitTextValue) (name : Token) (names : List Token) → spelled_in names name.text ≡ None → k ≡ noted_in k (linked_with name (spelled_in names name.text))
link-none k name names none = sym (noted_in-nil k) ∙ ap (λ (o : Option Token). noted_in k (linked_with name o)) (sym none)
