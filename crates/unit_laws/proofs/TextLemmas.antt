-- The text that a unit without a fault gives.
use Rattle.std.proofs.Common.{◌≡◌, ℕ, ◌+◌, Bool, List, length, Result, Ok, Err, refl, ap, subst, codes}
use Rattle.std.specs.List.{flat_map}
use Rattle.cs_base.specs.Token.{Token, origin_at}
use Rattle.cs_base.specs.Units.{UnitValue}
use Rattle.lexer.specs.FileText.{file_text}
use Rattle.macro_body.specs.Notes as expansion
use Rattle.macro_body.specs.Defining.{line_macro}
use Rattle.unit_steps.specs.declared.events.Event.{Event}
use Rattle.unit_steps.specs.declared.events.EventKind.TheVariants as kind
use Rattle.source_files.specs.Limits.{the_limits}
use Rattle.source_files.specs.Faults.{Fault}
use Rattle.source_files.specs.Files.{Source, Carried, carried}
use Rattle.unit_steps.specs.Notes.{Note, Happened, Answered, answers_of, events_of, named_event, before_in}
use Rattle.unit_steps.specs.State.{Did, Outcome}
use Rattle.include_tree.specs.Unit.{unit_outcome}
use Rattle.unit_steps.specs.Texts.{UnitTextValue, unit_text}
use Rattle.include_tree.specs.Preprocessed.{Preprocessed, preprocessed_by, preprocessed}
use Rattle.expansion_laws.specs.Pieces.{IsOneOf}
use Rattle.unit_laws.specs.UnitLinks.{IsIn}
use Rattle.unit_laws.specs.UnitTokens.{BringsLine}
use Rattle.unit_laws.proofs.DoneLemmas.{UnitRules}
use Rattle.unit_laws.proofs.UnitLemmas.{unit_has}
use Rattle.unit_laws.proofs.NoteLemmas.{each_in, flat_in, TextHas, text_has}

-- ---- units

-- what a unit without a fault gives
pub record IsText (source : Source) (number : ℕ) (unit : UnitValue) (before : Carried) (p : Preprocessed) : Type 0 where
  pub did : Did (List Token)
  pub outcome : unit_outcome the_limits file_text source number unit before ≡ Ok did
  pub text : unit_text did.value did.notes ≡ p.text
  pub table : did.state.table ≡ p.after.table

same_ok : (q p : Preprocessed) → ◌≡◌ {A = Result Preprocessed Fault} (Ok q) (Ok p) → q ≡ p
same_ok q p e = cc

text_by : (source : Source) (number : ℕ) (unit : UnitValue) (before : Carried) (p : Preprocessed) (o : Outcome (List Token)) → unit_outcome the_limits file_text source number unit before ≡ o
    → preprocessed_by before.toks o ≡ Ok p → IsText source number unit before p
text_by source number unit before p (Err found) is e = absurd (cc)
text_by source number unit before p (Ok d) is e =
    let q : Preprocessed = record { text = unit_text d.value d.notes; after = carried d.state.table (before.toks + length d.value) } in
    let same : q ≡ p = same_ok q p e in
    record { did = d; outcome = is; text = ap (λ (x : Preprocessed). x.text) same; table = ap (λ (x : Preprocessed). x.after.table) same }

pub text_is : (source : Source) (number : ℕ) (unit : UnitValue) (before : Carried) (p : Preprocessed) → preprocessed source number unit before ≡ Ok p → IsText source number unit before p
unfolding preprocessed
text_is source number unit before p e = text_by source number unit before p (unit_outcome the_limits file_text source number unit before) refl e

pub unit_text_has : (P : Token → Type 0) (source : Source) (number : ℕ) (unit : UnitValue) (before : Carried) (p : Preprocessed) → (i : IsText source number unit before p)
    → UnitRules P (IsIn i.did.notes) i.did.state.table → TextHas P p.text
unit_text_has P source number unit before p i rules =
    let has = unit_has P (IsIn i.did.notes) source number unit before i.did i.outcome rules (each_in (IsIn i.did.notes) i.did.notes (λ n k at. (k, at))) in
    subst (TextHas P) i.text (text_has P i.did.value i.did.notes has.0 has.1)

-- a line that was brought is told of by an event
pub line_event : (text : UnitTextValue) (notes : List Note) (toks : List Token) (name : Token) (run : Bool) (before more : ℕ) → unit_text toks notes ≡ text → name.text ≡ codes "__LINE__"
    → IsIn notes (Happened run before (expansion.Replaced name line_macro.name more)) → (e : Event) × (IsIn text.events e × BringsLine e name)
line_event text notes toks name run before more is spelled at =
    let e : Event = named_event kind.Replaced name (origin_at line_macro.name 0) (before_in run before more) in
    let there : IsIn (flat_map events_of notes) e = flat_in events_of notes (Happened run before (expansion.Replaced name line_macro.name more)) e at.0 at.1 (0, refl) in
    (e, (subst (λ (u : UnitTextValue). IsIn u.events e) is there, record { kind = refl; name = refl; first = refl; spelled = spelled }))

-- a number that was brought in place of a name is among the answers
pub number_among : (text : UnitTextValue) (notes : List Note) (toks : List Token) (t : Token) (run : Bool) (before : ℕ) → unit_text toks notes ≡ text
    → IsIn notes (Happened run before (expansion.Counted t)) → IsOneOf text.answers t
number_among text notes toks t run before is at =
    let there : IsIn (flat_map answers_of notes) t = flat_in answers_of notes (Happened run before (expansion.Counted t)) t at.0 at.1 (0, refl) in
    subst (λ (u : UnitTextValue). IsIn u.answers t) is there

-- a number that stands for an operand of `defined` is among the answers
pub answer_among : (text : UnitTextValue) (notes : List Note) (toks : List Token) (t : Token) → unit_text toks notes ≡ text → IsIn notes (Answered t) → IsOneOf text.answers t
answer_among text notes toks t is at =
    let there : IsIn (flat_map answers_of notes) t = flat_in answers_of notes (Answered t) t at.0 at.1 (0, refl) in
    subst (λ (u : UnitTextValue). IsIn u.answers t) is there
