-- The tokens of a unit are spelled as their kinds say.
use Rattle.std.proofs.Common.{◌≡◌, ℕ, ◌^◌, ◌&&◌, Bool, true, false, nat_lt, List, Option, Some, None, Result, Ok, Err, refl, subst}
use Rattle.std.specs.List.{list_all}
use Rattle.std.specs.Option.{option_and_then}
use Rattle.std.proofs.lemmas.Option.{none-some, same_Some}
use Rattle.std.proofs.lemmas.Bool.{and_parts}
use Rattle.cs_base.specs.Token.{Token}
use Rattle.lexer.specs.FileText.{TextValue, LexFault, file_text}
use Rattle.source_files.specs.Files.{SourceFile, Table, source_file}
use Rattle.source_files.specs.KeptFiles.{KeptValue, kept_at}
use Rattle.unit_steps.specs.Notes.{Note}
use Rattle.source_files.specs.Sources.{read_as, source_kept}
use Rattle.unit_steps.specs.Conditions.{answer_for}
use Rattle.expansion_laws.specs.Spelled.{fits, is_spelled}
use Rattle.expansion_laws.proofs.ListLemmas.{toks_pass, pass_toks}
use Rattle.expansion_laws.proofs.SpelledLaw.{standing_spelled, pasted_spelled, string_spelled, number_spelled, counted_spelled, path_spelled}
use Rattle.unit_laws.specs.UnitLinks.{IsIn}
use Rattle.unit_laws.specs.UnitSpelling.{FilesAreSpelled, UnitTokensAreSpelled}
use Rattle.unit_laws.proofs.DoneLemmas.{UnitRules}
use Rattle.unit_laws.proofs.FileLemmas.{text_spelled}
use Rattle.unit_laws.proofs.NoteLemmas.{LinkHas, EventHas, in_at}
use Rattle.unit_laws.proofs.PartLemmas.{from_files}
use Rattle.unit_laws.proofs.TextLemmas.{text_is, unit_text_has}

-- ---- kept files

read_spelled : (number : ℕ) (path bytes : List ℕ) (file : SourceFile) (r : Result TextValue LexFault) → file_text number bytes ≡ r → read_as number path r ≡ Some file
    → list_all is_spelled file.text.toks ≡ true
read_spelled number path bytes file (Err fault) is e = absurd (none-some file e)
read_spelled number path bytes file (Ok text) is e =
    subst (λ (f : SourceFile). list_all is_spelled f.text.toks ≡ true) (same_Some (source_file number path text) file e) (text_spelled number bytes text is)

kept_spelled : (o : Option KeptValue) (file : SourceFile) → option_and_then source_kept o ≡ Some file → list_all is_spelled file.text.toks ≡ true
kept_spelled None file e = absurd (none-some file e)
kept_spelled (Some k) file e = read_spelled k.number k.path k.bytes file (file_text k.number k.bytes) refl e

pub files_are_spelled : FilesAreSpelled
files_are_spelled = λ table number file is. kept_spelled (kept_at table number) file is

-- ---- units

abbrev IsSpelled : Token → Type 0
IsSpelled t = is_spelled t ≡ true

answer_spelled : (word : Token) (b : Bool) → IsSpelled word → IsSpelled (answer_for word b)
answer_spelled word true h = (let both = and_parts (fits word.kind word.text) (nat_lt word.line (2 ^ 64)) h in both.1)
answer_spelled word false h = (let both = and_parts (fits word.kind word.text) (nat_lt word.line (2 ^ 64)) h in both.1)

rules_spelled : (M : Note → Type 0) (table : Table) → UnitRules IsSpelled M table
rules_spelled M table = record {
  spaced = λ t gap h. h;
  moved = λ t h. h;
  placed = λ name t gap here h. standing_spelled name t here h;
  items = λ number k evaluated before file i is at told. from_files IsSpelled table (λ number file is. toks_pass is_spelled file.text.toks (files_are_spelled table number file is)) number k evaluated file i is at;
  lines = λ name run before more here is brought. number_spelled name here;
  numbers = λ name n run before here low brought. counted_spelled name n here low;
  answers = λ word b here brought. answer_spelled word b here;
  paths = λ path name here. path_spelled path name here;
  strings = λ name gap toks s here all is. string_spelled name toks s here is;
  pastes = λ name x y z run before here px py is told. pasted_spelled name x y z here px py is;
}

pub unit_tokens_are_spelled : UnitTokensAreSpelled
unit_tokens_are_spelled = λ source number unit before p is.
    let i = text_is source number unit before p is in
    let has = unit_text_has IsSpelled source number unit before p i (rules_spelled (IsIn i.did.notes) i.did.state.table) in
    record {
      toks = pass_toks is_spelled p.text.toks has.toks;
      links = λ l at. (let here = in_at (LinkHas IsSpelled) p.text.links has.links l at.0 at.1 in (here.0, here.1));
      pasted = pass_toks is_spelled p.text.pasted has.pasted;
      stringized = pass_toks is_spelled p.text.stringized has.stringized;
      header = pass_toks is_spelled p.text.header has.header;
      answers = pass_toks is_spelled p.text.answers has.answers;
      names = λ e name at is. (let here = in_at (EventHas IsSpelled) p.text.events has.events e at.0 at.1 in here.name name is);
    }
