-- Tests that a unit keeps.
use Rattle.std.proofs.Common.{◌≡◌, true, false, List, sym, subst}
use Rattle.cs_base.specs.Token.{Token}
use Rattle.macro_body.specs.Substitution.{number_token}
use Rattle.source_files.specs.Files.{Table}
use Rattle.unit_steps.specs.Notes.{Note}
use Rattle.unit_steps.specs.Conditions.{answer_for}
use Rattle.unit_steps.specs.Texts.{UnitTextValue, unit_text}
use Rattle.expansion_laws.specs.Passing.{Test, IsBlind, standing_at, MadePass}
use Rattle.expansion_laws.proofs.ListLemmas.{toks_at, toks_pass, pass_toks}
use Rattle.unit_laws.specs.UnitLinks.{IsIn}
use Rattle.unit_laws.specs.UnitTests.{FilesPass, BroughtPass, UnitKeepsTests}
use Rattle.unit_laws.proofs.DoneLemmas.{UnitRules}
use Rattle.unit_laws.proofs.NoteLemmas.{LinkHas, EventHas, in_at}
use Rattle.unit_laws.proofs.PartLemmas.{from_files}
use Rattle.unit_laws.proofs.TextLemmas.{text_is, unit_text_has, line_event, number_among, answer_among}

abbrev Passes : Test → Token → Type 0
Passes p t = p t ≡ true

rules_pass : (p : Test) (text : UnitTextValue) (notes : List Note) (toks : List Token) (table : Table) → unit_text toks notes ≡ text
    → IsBlind p → FilesPass p table → BroughtPass p text → MadePass p → UnitRules (Passes p) (IsIn notes) table
rules_pass p text notes toks table is blind files brought made = record {
  spaced = λ t gap h. blind t gap t.direct h;
  moved = λ t h. blind t t.gap false h;
  placed = λ name t gap here h. blind (standing_at name t) gap false (files.placed name t here h);
  items = λ number k evaluated before file i is at told. from_files (Passes p) table (λ number file at. toks_pass p file.text.toks (files.toks number file at)) number k evaluated file i is at;
  lines = λ name run before more here spelled at.
      let e = line_event text notes toks name run before more is spelled at in
      brought.lines e.0 name e.1.0 e.1.1 here;
  numbers = λ name n run before here low at.
      let among = number_among text notes toks (number_token name n) run before is at in
      toks_at (Passes p) text.answers (toks_pass p text.answers brought.answers) (number_token name n) among.0 among.1;
  answers = λ word b here at.
      let among = answer_among text notes toks (answer_for word b) is at in
      toks_at (Passes p) text.answers (toks_pass p text.answers brought.answers) (answer_for word b) among.0 among.1;
  paths = λ path name here. brought.paths path name here;
  strings = λ name gap ts s here all is. blind (standing_at name s) gap false (made.strings name ts s here (pass_toks p ts all) is);
  pastes = λ name x y z run before here px py is told. blind (standing_at name z) x.gap false (made.pastes name x y z here px py is);
}

pub unit_keeps_tests : UnitKeepsTests
unit_keeps_tests = λ p source number unit before u is blind files brought made.
    let i = text_is source number unit before u is in
    let passes : FilesPass p i.did.state.table = subst (FilesPass p) (sym i.table) files in
    let P : Token → Type 0 = Passes p in
    let has = unit_text_has P source number unit before u i (rules_pass p u.text i.did.notes i.did.value i.did.state.table i.text blind passes brought made) in
    record {
      toks = pass_toks p u.text.toks has.toks;
      links = λ l at. (let here = in_at (LinkHas P) u.text.links has.links l at.0 at.1 in (here.0, here.1));
      pasted = pass_toks p u.text.pasted has.pasted;
      stringized = pass_toks p u.text.stringized has.stringized;
      header = pass_toks p u.text.header has.header;
      names = λ e name at named. (let here = in_at (EventHas P) u.text.events has.events e at.0 at.1 in here.name name named);
    }
