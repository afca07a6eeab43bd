use Rattle.std.proofs.Common.{◌≡◌, ℕ, List, Ok, refl}
use Rattle.lexer.specs.FileText.{TextValue, file_text}
use Rattle.source_files.specs.declared.slot.Slot.TheVariants as slot
use Rattle.source_files.specs.declared.status.Status.TheVariants as status
use Rattle.source_files.specs.Files.{Table}
use Rattle.source_files.specs.KeptFiles.{KeptValue}
use Rattle.source_files.specs.Statuses.{IsStatus}
use Rattle.source_files.specs.FileTableFields.{Stands}
use Rattle.source_files.proofs.status.status_of.Goals as goal

opened_status : (table : Table) (path : List ℕ) (number : ℕ) (f : KeptValue) (text : TextValue) → Stands table path number (slot.Opened f)
    → file_text f.number f.bytes ≡ Ok text → IsStatus table path (status.Kept number)
opened_status table path number f text st read =
    (st.number_is, (f.bytes, text, rw st.found refl, rw st.numbered.0 at read))

made_status : (table : Table) (path : List ℕ) (number : ℕ) (f : KeptValue) (text : TextValue) → Stands table path number (slot.Made f)
    → file_text f.number f.bytes ≡ Ok text → IsStatus table path (status.Kept number)
made_status table path number f text st read =
    (st.number_is, (f.bytes, text, rw st.found refl, rw st.numbered.0 at read))

pub returns-in-Some-default-Opened : goal.returns-in-Some-default-Opened
returns-in-Some-default-Opened c =
    opened_status c.args.table.now c.args.path.now c.in-Some-default-Opened.number c.in-Some-default-Opened.file c.text-text.result.now
    (rw c.in-Some-default-Opened.field-0-1-is at c.in-Some-default-Opened.ensures.some) c.text-text.ensures

pub returns-in-Some-default-Made : goal.returns-in-Some-default-Made
returns-in-Some-default-Made c =
    made_status c.args.table.now c.args.path.now c.in-Some-default-Made.number c.in-Some-default-Made.file c.text-text-in-Some-default-Made.result.now
    (rw c.in-Some-default-Made.field-0-1-is at c.in-Some-default-Made.ensures.some) c.text-text-in-Some-default-Made.ensures
