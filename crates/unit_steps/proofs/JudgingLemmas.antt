-- Conditions that are valued, and the names left over.
use Rattle.std.proofs.Common.{◌≡◌, ℕ, ◌≤◌, Bool, true, false, List, ◌∷◌, drop, length, Option, Some, None, Result, Ok, Err, refl, sym, ◌∙◌, ap}
use Rattle.std.specs.Prelude.{IfSome}
use Rattle.std.specs.List.{list_any}
use Rattle.std.specs.Option.{option_map}
use Rattle.std.proofs.lemmas.List.{at_drop_all}
use Rattle.std.proofs.lemmas.Option.{same_Some}
use Rattle.cs_base.specs.declared.causes.Cause.TheVariants as cause
use Rattle.cs_base.specs.declared.positions.Pos.{Pos}
use Rattle.cs_base.specs.Token.{Token}
use Rattle.source_files.specs.Below.line_shape.Signs.{is_name}
use Rattle.cond_eval.specs.declared.faults.CondFault.{CondFault}
use Rattle.cond_eval.specs.Evaluation.{condition}
use Rattle.unit_steps.specs.declared.events.EventKind.TheVariants as kind
use Rattle.unit_steps.specs.declared.progress.Progress.{Progress}
use Rattle.source_files.specs.Files.{SourceFile, Table}
use Rattle.source_files.specs.Faults.{Fault, fault_at}
use Rattle.unit_steps.specs.Notes.{Left}
use Rattle.unit_steps.specs.State.{State, Outcome}
use Rattle.unit_steps.specs.Names.{spelled_in, linked_with, with_name}
use Rattle.unit_steps.specs.Expanding.{expanded_in}
use Rattle.unit_steps.specs.Conditions.{Piece, is_defined, pieces_from, answered, left_over, condition_fault, valued, judged, asked_pieces, asked_toks}
use Rattle.unit_steps.specs.Texts.{UnitTextValue}
use Rattle.unit_steps.specs.Keeping.{noted_in, kept_after}
use Rattle.unit_steps.specs.Moments.{state_in, named_in, with_event}
use Rattle.unit_steps.specs.Answering.{asked_kept, asked_in, left_kept}
use Rattle.unit_steps.proofs.KeepingLemmas.{noted_in-nil, noted_in-append}
use Rattle.unit_steps.proofs.DefiningLemmas.{left-known, state-noted}
use Rattle.unit_steps.proofs.GoingLemmas.{kept-onward}

-- ---- names left over

pub left-step : (table : Table) (p q : Progress) (t : Token) (toks : List Token) → is_name t ≡ true → q ≡ named_in t (with_event kind.Left t p)
    → left_kept p.text (left_over (t ∷ toks) (state_in table p)) ≡ left_kept q.text (left_over toks (state_in table q))
unfolding left_over
left-step table p q t toks named is =
    let notes = Left t (length p.text.toks) ∷ linked_with t (spelled_in p.names t.text) in
    let known = left-known p q t is in
    let d = left_over toks (with_name t (state_in table p)) in
    rw named (ap (λ (u : UnitTextValue). (d.state, u)) (noted_in-append p.text notes d.notes)
    ∙ ap (λ (s : State). left_kept (noted_in p.text notes) (left_over toks s)) (sym (state-noted table p q t notes known))
    ∙ ap (λ (x : Progress). left_kept x.text (left_over toks (state_in table q))) (sym known))

pub left-other : (k : UnitTextValue) (t : Token) (toks : List Token) (s : State) → is_name t ≡ false → left_kept k (left_over (t ∷ toks) s) ≡ left_kept k (left_over toks s)
unfolding left_over
left-other k t toks s other = rw other refl

pub left-end : (k : UnitTextValue) (s : State) (toks : List Token) (i : ℕ) → length toks ≤ i → left_kept k (left_over (drop i toks) s) ≡ (s, k)
unfolding left_over
left-end k s toks i past =
    at_drop_all (λ (ts : List Token). left_kept k (left_over ts s)) toks i past ∙ ap (λ (t : UnitTextValue). (s, t)) (noted_in-nil k)

-- ---- the value

-- a fault that is told
pub kept-fault : {A : Type 0} (k : UnitTextValue) (m : Outcome A) (g : Fault) (q : Option Fault) → m ≡ Err g → IfSome q (λ f. f ≡ g) → IfSome q (λ f. kept_after k m ≡ Err f)
kept-fault k m g None is h = tt
kept-fault {A} k m g (Some f) is h = ap (λ (o : Outcome A). kept_after k o) is ∙ ap (λ (x : Fault). Err x) (sym h)

pub judged-defined : (file : SourceFile) (at : Pos) (toks : List Token) (s : State) → list_any is_defined toks ≡ true
    → ◌≡◌ {A = Outcome Bool} (judged file at toks s) (Err (fault_at file at cause.DefinedFromMacro))
judged-defined file at toks s asks = rw asks refl

pub judged-refused : (file : SourceFile) (at : Pos) (toks : List Token) (s : State) (found : CondFault) → list_any is_defined toks ≡ false → Err found ≡ condition toks
    → ◌≡◌ {A = Outcome Bool} (judged file at toks s) (Err (condition_fault file at toks found))
judged-refused file at toks s found none is = rw none (ap (λ (r : Result Bool CondFault). valued file at toks s r) (sym is))

pub judged-value : (file : SourceFile) (at : Pos) (toks : List Token) (s t : State) (k k2 : UnitTextValue) (b : Bool) → list_any is_defined toks ≡ false → Ok b ≡ condition toks
    → left_kept k (left_over toks s) ≡ (t, k2) → kept_after k (judged file at toks s) ≡ Ok (b, t, k2)
judged-value file at toks s t k k2 b none is left =
    rw none (ap (λ (r : Result Bool CondFault). kept_after k (valued file at toks s r)) (sym is)
    ∙ ap (λ (r : State × UnitTextValue). Ok (b, r.0, r.1)) left)

-- ---- the condition of a line

pieces-none : (k : UnitTextValue) (file : SourceFile) (at : Pos) (s : State) (o : Option (List Piece)) → asked_kept k (option_map (λ pieces. answered pieces s) o) ≡ None
    → ◌≡◌ {A = Outcome (List Token)} (asked_pieces file at s o) (Err (fault_at file at cause.BadDirective))
pieces-none k file at s None e = refl
pieces-none k file at s (Some pieces) e = absurd (cc)

pub asked-none : (k : UnitTextValue) (file : SourceFile) (at : Pos) (toks : List Token) (s : State) → asked_in k 0 toks s ≡ None
    → ◌≡◌ {A = Outcome (List Token)} (asked_toks file at toks s) (Err (fault_at file at cause.BadDirective))
unfolding asked_in
asked-none k file at toks s e = pieces-none k file at s (pieces_from 0 toks) e

pieces-some : (k k2 : UnitTextValue) (file : SourceFile) (at : Pos) (out : List Token) (s t : State) (o : Option (List Piece))
    → asked_kept k (option_map (λ pieces. answered pieces s) o) ≡ Some (out, t, k2)
    → kept_after k (asked_pieces file at s o) ≡ kept_after k2 (expanded_in false file out t)
pieces-some k k2 file at out s t None e = absurd (cc)
pieces-some k k2 file at out s t (Some pieces) e =
    let d = answered pieces s in
    let same = same_Some (d.value, d.state, noted_in k d.notes) (out, t, k2) e in
    kept-onward k k2 (Ok d) (expanded_in false file) out t (ap (λ (r : List Token × State × UnitTextValue). Ok r) same)

-- the operands are answered, and the rest is to be expanded
pub asked-some : (k k2 : UnitTextValue) (file : SourceFile) (at : Pos) (toks out : List Token) (s t : State) → asked_in k 0 toks s ≡ Some (out, t, k2)
    → kept_after k (asked_toks file at toks s) ≡ kept_after k2 (expanded_in false file out t)
unfolding asked_in
asked-some k k2 file at toks out s t e = pieces-some k k2 file at out s t (pieces_from 0 toks) e
