-- Links, whole tokens and places of units.
use Rattle.std.proofs.Common.{◌≡◌, false, List, refl, sym, ◌∙◌, subst}
use Rattle.cs_base.specs.Token.{Token}
use Rattle.lexer.specs.Characters.{double_quote}
use Rattle.macro_body.specs.Substitution.{put_in, number_token, line_number, path_string}
use Rattle.source_files.specs.Files.{Table}
use Rattle.unit_steps.specs.Notes.{Note}
use Rattle.unit_steps.specs.Conditions.{answer_for}
use Rattle.unit_steps.specs.Texts.{UnitTextValue, unit_text}
use Rattle.expansion_laws.specs.Pieces.{Characters, IsWhole}
use Rattle.expansion_laws.proofs.ListLemmas.{toks_at, each_tok}
use Rattle.expansion_laws.proofs.PiecesLemmas.{whole_as, pasted_whole, string_whole, quoted_fails}
use Rattle.unit_laws.specs.UnitLinks.{IsIn, UnitLinksAreAlike}
use Rattle.unit_laws.specs.UnitTokens.{FilesAreWhole, NumbersAreWhole, UnitTokensAreWhole, StandsInFile, UnitTokensStandInFiles}
use Rattle.unit_laws.proofs.DoneLemmas.{UnitRules}
use Rattle.unit_laws.proofs.NoteLemmas.{in_at, LinkHas, EventHas}
use Rattle.unit_laws.proofs.PartLemmas.{from_files}
use Rattle.unit_laws.proofs.TextLemmas.{text_is, unit_text_has, line_event, number_among, answer_among}

-- ---- links

abbrev Any : Token → Type 0
Any t = Unit {0}

rules_any : (M : Note → Type 0) (table : Table) → UnitRules Any M table
rules_any M table = record {
  spaced = λ t gap h. tt;
  moved = λ t h. tt;
  placed = λ name t gap here h. tt;
  items = λ number k evaluated before file i is at told. from_files Any table (λ number file is. each_tok Any file.text.toks (λ t k at. tt)) number k evaluated file i is at;
  lines = λ name run before more here is brought. tt;
  numbers = λ name n run before here low brought. tt;
  answers = λ word b here brought. tt;
  paths = λ path name here. tt;
  strings = λ name gap toks s here all is. tt;
  pastes = λ name x y z run before here px py is told. tt;
}

pub unit_links_are_alike : UnitLinksAreAlike
unit_links_are_alike = λ source number unit before p is l at.
    let i = text_is source number unit before p is in
    let has = unit_text_has Any source number unit before p i (rules_any (IsIn i.did.notes) i.did.state.table) in
    let here = in_at (LinkHas Any) p.text.links has.links l at.0 at.1 in
    here.2

-- ---- whole tokens

rules_whole : (among : Characters) (files : List Token) (text : UnitTextValue) (notes : List Note) (toks : List Token) (table : Table) → among double_quote ≡ false → unit_text toks notes ≡ text
    → FilesAreWhole among files table → NumbersAreWhole among files text → UnitRules (IsWhole among files) (IsIn notes) table
rules_whole among files text notes toks table quote is whole numbers = record {
  spaced = λ t gap h. whole_as among files t (record t { gap = gap }) refl refl h;
  moved = λ t h. whole_as among files t (record t { direct = false }) refl refl h;
  placed = λ name t gap here h. whole_as among files t (put_in name gap t) refl refl h;
  items = λ number k evaluated before file i is at told. from_files (IsWhole among files) table (λ number file at. each_tok (IsWhole among files) file.text.toks (λ t k e. whole number file at t (k, e))) number k evaluated file i is at;
  lines = λ name run before more here spelled brought.
      let e = line_event text notes toks name run before more is spelled brought in
      numbers.lines e.0 name e.1.0 e.1.1;
  numbers = λ name n run before here low brought. numbers.answers (number_token name n) (number_among text notes toks (number_token name n) run before is brought);
  answers = λ word b here brought. numbers.answers (answer_for word b) (answer_among text notes toks (answer_for word b) is brought);
  paths = λ path name here. λ h. absurd (quoted_fails among _ _ quote refl h);
  strings = λ name gap ts s here all made. string_whole among files name gap ts s quote made;
  pastes = λ name x y z run before here px py made told. pasted_whole among files name x y z px py made;
}

pub unit_tokens_are_whole : UnitTokensAreWhole
unit_tokens_are_whole = λ among files source number unit before p quote is whole numbers.
    let i = text_is source number unit before p is in
    let files_whole : FilesAreWhole among files i.did.state.table = subst (FilesAreWhole among files) (sym i.table) whole in
    let P : Token → Type 0 = IsWhole among files in
    let has = unit_text_has P source number unit before p i (rules_whole among files p.text i.did.notes i.did.value i.did.state.table quote i.text files_whole numbers) in
    record {
      toks = λ t at. toks_at P p.text.toks has.toks t at.0 at.1;
      links = λ l at. (let here = in_at (LinkHas P) p.text.links has.links l at.0 at.1 in (here.0, here.1));
      pasted = λ t at. toks_at P p.text.pasted has.pasted t at.0 at.1;
      stringized = λ t at. toks_at P p.text.stringized has.stringized t at.0 at.1;
      header = λ t at. toks_at P p.text.header has.header t at.0 at.1;
      names = λ e name at is. (let here = in_at (EventHas P) p.text.events has.events e at.0 at.1 in here.name name is);
    }

-- ---- places

stands_as : (table : Table) (name t : Token) → StandsInFile table name → t.at ≡ name.at → t.line ≡ name.line → StandsInFile table t
stands_as table name t h at line = record {
  number = h.number;
  file = h.file;
  is_kept = h.is_kept;
  place = (let place = h.place in record { token = place.token; one = place.one; at = at ∙ place.at; line = line ∙ place.line });
}

rules_stand : (M : Note → Type 0) (table : Table) → UnitRules (StandsInFile table) M table
rules_stand M table = record {
  spaced = λ t gap h. stands_as table t (record t { gap = gap }) h refl refl;
  moved = λ t h. stands_as table t (record t { direct = false }) h refl refl;
  placed = λ name t gap here h. stands_as table name (put_in name gap t) here refl refl;
  items = λ number k evaluated before file i is at told. from_files (StandsInFile table) table (λ number file is. each_tok (StandsInFile table) file.text.toks (λ t k at. record {
    number = number;
    file = file;
    is_kept = is;
    place = record { token = t; one = (k, at); at = refl; line = refl };
  })) number k evaluated file i is at;
  lines = λ name run before more here is brought. stands_as table name (line_number name) here refl refl;
  numbers = λ name n run before here low brought. stands_as table name (number_token name n) here refl refl;
  answers = λ word b here brought. stands_as table word (answer_for word b) here refl refl;
  paths = λ path name here. stands_as table name (path_string path name) here refl refl;
  strings = λ name gap toks s here all is. stands_as table name (put_in name gap s) here refl refl;
  pastes = λ name x y z run before here px py is told. stands_as table name (put_in name x.gap z) here refl refl;
}

pub unit_tokens_stand_in_files : UnitTokensStandInFiles
unit_tokens_stand_in_files = λ source number unit before p is.
    let i = text_is source number unit before p is in
    let P : Token → Type 0 = StandsInFile p.after.table in
    let rules : UnitRules P (IsIn i.did.notes) i.did.state.table =
    subst (λ (t : Table). UnitRules P (IsIn i.did.notes) t) (sym i.table) (rules_stand (IsIn i.did.notes) p.after.table) in
    let has = unit_text_has P source number unit before p i rules in
    record {
      toks = λ t at. toks_at P p.text.toks has.toks t at.0 at.1;
      links = λ l at. (let here = in_at (LinkHas P) p.text.links has.links l at.0 at.1 in (here.0, here.1));
      pasted = λ t at. toks_at P p.text.pasted has.pasted t at.0 at.1;
      stringized = λ t at. toks_at P p.text.stringized has.stringized t at.0 at.1;
      header = λ t at. toks_at P p.text.header has.header t at.0 at.1;
      answers = λ t at. toks_at P p.text.answers has.answers t at.0 at.1;
      names = λ e name at is. (let here = in_at (EventHas P) p.text.events has.events e at.0 at.1 in here.name name is);
      events = λ e at. (let here = in_at (EventHas P) p.text.events has.events e at.0 at.1 in here.at);
    }
