-- Tests that an expansion keeps.
use Rattle.std.proofs.Common.{◌≡◌, Bool, true, false, List, refl}
use Rattle.cs_base.specs.Token.{Token}
use Rattle.macro_body.specs.Hides.{toks_of}
use Rattle.macro_body.specs.Notes.{Note}
use Rattle.macro_body.specs.Substitution.{put_in}
use Rattle.macro_expand.specs.Expansion.{Setting}
use Rattle.expansion_laws.specs.Telling.{IsAmong}
use Rattle.expansion_laws.specs.Passing.{Test, IsBlind, standing_at, MacrosPass, MadePass, note_passes, TestsAreKept}
use Rattle.expansion_laws.proofs.ListLemmas.{each_note, hidden_toks, toks_more, toks_pass, pass_toks, pass_notes}
use Rattle.expansion_laws.proofs.RuleLemmas.{Rules}
use Rattle.expansion_laws.proofs.ClosureLemmas.{expansion_keeps}

abbrev Passes : Test → Token → Type 0
Passes p t = p t ≡ true

abbrev NotePasses : Test → Note → Type 0
NotePasses p n = note_passes p n ≡ true

rules_pass : (p : Test) (set : Setting) (notes : List Note) → IsBlind p → MacrosPass p set.table set.path notes → MadePass p
    → Rules (Passes p) (IsAmong notes) (NotePasses p) set
rules_pass p set notes blind macros made = record {
  spaced = λ t gap h. blind t gap t.direct h;
  moved = λ t h. blind t t.gap false h;
  bodies = λ name m here found.
      toks_more (λ t. p (standing_at name t) ≡ true) (λ t. (gap : Bool) → Passes p (put_in name gap t)) m.body
      (toks_pass (λ t. p (standing_at name t)) m.body (macros.bodies name m here found))
      (λ t h gap. blind (standing_at name t) gap false h);
  lines = λ name m before here found is brought. macros.lines name m before here found is brought;
  numbers = λ name n here low brought. macros.numbers name n here low brought;
  paths = λ name m here found is. macros.paths name m here found is;
  strings = λ name gap toks s here all is. blind (standing_at name s) gap false (made.strings name toks s here (pass_toks p toks all) is);
  pastes = λ name x y z here px py is told. blind (standing_at name z) x.gap false (made.pastes name x y z here px py is);
  replaced = λ name m before here is found. here;
  linked = λ name m here is found links. let other = macros.names name.text m found links in rw (here, other) refl;
  stringized = λ toks s all is. pass_toks p toks all;
  pasted = λ name x y z px py pz is. rw (px, py, pz) refl;
  counted = λ name n here z. z;
}

pub tests_are_kept : TestsAreKept
tests_are_kept = λ p table path run work e is blind macros made pass.
    let set : Setting = record { table = table; path = path } in
    let good = expansion_keeps (Passes p) (IsAmong e.notes) (NotePasses p) table path (rules_pass p set e.notes blind macros made) run work e
    (toks_pass p run pass) is (each_note (IsAmong e.notes) e.notes (λ n k at. (k, at))) in
    record {
      toks = pass_toks p (toks_of e.toks) (hidden_toks (Passes p) e.toks good.0);
      notes = pass_notes (note_passes p) e.notes good.1;
    }
