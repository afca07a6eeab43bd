use Rattle.std.proofs.Common.{◌∙◌, ap}
use Rattle.macro_expand.specs.Below.macro_body.declared.definitions.Definition.{Definition}
use Rattle.macro_expand.specs.Below.macro_body.Defining.{counter_macro}
use Rattle.macro_expand.specs.Below.macro_body.Live.{table_of, with_macro}
use Rattle.macro_expand.specs.Below.macro_body.Macro.{Table}
use Rattle.unit_steps.proofs.beginning.gnu_macros.Goals as goal

pub returns : goal.returns
returns c =
    c.in_ok-define.ensures.answer
    ∙ ap (λ (m : Definition). with_macro m (table_of c.in_ok-macros.macros)) c.in_ok-counter.ensures
    ∙ ap (λ (t : Table). with_macro counter_macro t) c.in_ok-macros.ensures
