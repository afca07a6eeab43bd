-- Refusals as faults of the definitions.
use Rattle.std.specs.Prelude.{Option, Some, None}
use Rattle.paste_origin.specs.declared.glue_refusal.GlueRefusal.{GlueRefusal}
use Rattle.paste_origin.specs.declared.glue_refusal.GlueRefusal.TheVariants as glue
use Rattle.paste_origin.specs.declared.string_refusal.StrRefusal.{StrRefusal}
use Rattle.paste_origin.specs.declared.string_refusal.StrRefusal.TheVariants as str
use Rattle.paste_origin.specs.Pasting.{PasteFault, NotOneToken}
use Rattle.paste_origin.specs.Strings.{StringFault, NotAString}

-- the fault that a refusal to paste names: none for want of memory alone
abbrev pub paste_fault_of : GlueRefusal → Option PasteFault
paste_fault_of glue.NotOneToken = Some NotOneToken
paste_fault_of glue.Memory = None

-- the fault that a refusal to make a string names: none for want of memory alone
abbrev pub string_fault_of : StrRefusal → Option StringFault
string_fault_of str.NotAString = Some NotAString
string_fault_of str.Memory = None
