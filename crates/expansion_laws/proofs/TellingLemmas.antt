-- What the notes of an expansion tell did happen.
use Rattle.std.proofs.Common.{◌≡◌, Bool, List, Ok, refl, sym, ap}
use Rattle.cs_base.specs.Token.{Token}
use Rattle.lexer.specs.Spelling.{is_plain_string_text}
use Rattle.macro_body.specs.Below.paste_origin.Strings.{stringize_of, string_text, string_origins, string_token}
use Rattle.macro_body.specs.Notes.{Note, Linked}
use Rattle.macro_body.proofs.Below.paste_origin.MadeLemmas.{cond_made}
use Rattle.macro_expand.specs.Expansion.{Setting}
use Rattle.expansion_laws.specs.Telling.{StandUnderNames, AreAlike, LinksAreAlike, DidHappen, NotesAreTrue}
use Rattle.expansion_laws.proofs.ListLemmas.{AllToks, each_tok, notes_at, all_notes}
use Rattle.expansion_laws.proofs.RuleLemmas.{Rules}
use Rattle.expansion_laws.proofs.ClosureLemmas.{expansion_keeps}

-- the string that tokens make
pub string_is : (toks : List Token) (s : Token) → stringize_of toks ≡ Ok s → s ≡ string_token (string_text toks) (string_origins toks)
unfolding stringize_of
string_is toks s e = sym (cond_made (is_plain_string_text (string_text toks)) (string_token (string_text toks) (string_origins toks)) s e)

string_keeps : (toks : List Token) (s : Token) → stringize_of toks ≡ Ok s → s.origins ≡ string_origins toks
string_keeps toks s e = ap (λ (t : Token). t.origins) (string_is toks s e)

-- nothing is asked of tokens or notes
abbrev pub Any : {A : Type 0} → A → Type 0
Any a = Unit {0}

pub any_toks : (ts : List Token) → AllToks (λ t. (gap : Bool) → Any t) ts
any_toks ts = each_tok (λ t. (gap : Bool) → Any t) ts (λ t k e gap. tt)

rules_true : (set : Setting) → Rules Any Any (DidHappen set.table) set
rules_true set = record {
  spaced = λ t gap h. tt;
  moved = λ t h. tt;
  bodies = λ name m here found. any_toks m.body;
  lines = λ name m before here found is brought. tt;
  numbers = λ name n here low brought. tt;
  paths = λ name m here found is. tt;
  strings = λ name gap toks s here all made. tt;
  pastes = λ name x y z here px py made told. tt;
  replaced = λ name m before here is found. record { identifier = is; definition = m; defined = found; same = refl };
  linked = λ name m here is found links. record { identifier = is; definition = m; defined = found; same = refl };
  stringized = λ toks s all made. record { made = made; origins = string_keeps toks s made };
  pasted = λ name x y z px py pz made. record { token = z; made = made; same = record { kind = refl; text = refl; origins = refl } };
  counted = λ name n here z. record { name = name; number = n; same = refl };
}

pub notes_are_true : NotesAreTrue
notes_are_true = λ table path run work e is note at.
    let set : Setting = record { table = table; path = path } in
    let good = expansion_keeps Any Any (DidHappen table) table path (rules_true set) run work e (each_tok Any run (λ t k at. tt)) is (all_notes e.notes) in
    notes_at (DidHappen table) e.notes good.1 note at.0 at.1

-- the two tokens of a link are alike
abbrev LinkIsAlike : Note → Type 0
LinkIsAlike (Linked x y) = AreAlike x y
LinkIsAlike _ = Unit {0}

rules_alike : (set : Setting) → StandUnderNames set.table → Rules Any Any LinkIsAlike set
rules_alike set names = record {
  spaced = λ t gap h. tt;
  moved = λ t h. tt;
  bodies = λ name m here found. any_toks m.body;
  lines = λ name m before here found is brought. tt;
  numbers = λ name n here low brought. tt;
  paths = λ name m here found is. tt;
  strings = λ name gap toks s here all made. tt;
  pastes = λ name x y z here px py made told. tt;
  replaced = λ name m before here is found. tt;
  linked = λ name m here is found links. record { first = is; second = names.identifier name.text m found links; text = sym (names.text name.text m found links) };
  stringized = λ toks s all made. tt;
  pasted = λ name x y z px py pz made. tt;
  counted = λ name n here z. tt;
}

pub links_are_alike : LinksAreAlike
links_are_alike = λ table path run work e is names x y at.
    let set : Setting = record { table = table; path = path } in
    let good = expansion_keeps Any Any LinkIsAlike table path (rules_alike set names) run work e (each_tok Any run (λ t k at. tt)) is (all_notes e.notes) in
    notes_at LinkIsAlike e.notes good.1 (Linked x y) at.0 at.1
