-- Refusals of `lex` as faults of the definition.
use Rattle.std.specs.Prelude.{Option, Some, None}
use Rattle.lexer.specs.declared.refusal.LexRefusal.{LexRefusal}
use Rattle.lexer.specs.declared.refusal.LexRefusal.TheVariants as refusal
use Rattle.lexer.specs.FileText.{LexFault, FileTooLarge, OpenComment}

-- the fault that a refusal names: none for want of memory alone
abbrev pub fault_of : LexRefusal → Option LexFault
fault_of refusal.FileTooLarge = Some FileTooLarge
fault_of (refusal.OpenComment at line column) = Some (OpenComment at line column)
fault_of refusal.Memory = None
