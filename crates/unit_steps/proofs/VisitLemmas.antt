-- What is kept where a file is entered, left, passed over or read once.
use Rattle.std.proofs.Common.{◌≡◌, ℕ, Bool, false, List, [], ◌∷◌, ◌++◌, length, Ok, sym, ap, ◌∙◌}
use Rattle.cs_base.specs.declared.positions.Pos.{Pos}
use Rattle.unit_steps.specs.declared.events.EventKind.TheVariants as kind
use Rattle.unit_steps.specs.declared.progress.Progress.{Progress}
use Rattle.source_files.specs.Files.{Table, SourceFile}
use Rattle.unit_steps.specs.Notes.{Entered, Exited, ReadOnce, once_kind, file_event}
use Rattle.unit_steps.specs.Directives.{said_once}
use Rattle.unit_steps.specs.Texts.{UnitTextValue, reached_in}
use Rattle.unit_steps.specs.Keeping.{noted_in, put_in, put_after}
use Rattle.unit_steps.specs.State.{State, only}
use Rattle.unit_steps.specs.Moments.{state_in}
use Rattle.unit_steps.proofs.KeepingLemmas.{noted_in-nil, put-nil}
use Rattle.unit_steps.proofs.DefiningLemmas.{one-event as only-events}

pub event-entered : (k : UnitTextValue) (at : Pos) (n b : ℕ) → record k { events = k.events ++ file_event kind.Enter at n b ∷ [] } ≡ noted_in k (Entered at n b ∷ [])
unfolding reached_in
event-entered k at n b = only-events k (file_event kind.Enter at n b ∷ [])

pub event-left : (k : UnitTextValue) (at : Pos) (n b : ℕ) → record k { events = k.events ++ file_event kind.Leave at n b ∷ [] } ≡ noted_in k (Exited at n b ∷ [])
unfolding reached_in
event-left k at n b = only-events k (file_event kind.Leave at n b ∷ [])

pub event-once : (passed : Bool) (k : UnitTextValue) (at : Pos) (n b : ℕ)
    → record k { events = k.events ++ file_event (once_kind passed) at n b ∷ [] } ≡ noted_in k (ReadOnce passed at n b ∷ [])
unfolding reached_in
event-once passed k at n b = only-events k (file_event (once_kind passed) at n b ∷ [])

-- a line said that its file is read once
pub said-known : (table : Table) (p q : Progress) (file : SourceFile) (at : Pos) (n : ℕ) → file.number ≡ n
    → q ≡ record p { text = noted_in p.text (ReadOnce false at n (length p.text.toks) ∷ []); once = q.once } → q.once.items ≡ p.once.items ++ n ∷ []
    → put_after p.text (said_once file at (state_in table p)) ≡ Ok (state_in table q, q.text)
said-known table p q file at n number is more =
    let text : UnitTextValue = noted_in p.text (ReadOnce false at n (length p.text.toks) ∷ []) in
    rw number
    (ap (λ (x : UnitTextValue). Ok (record (state_in table p) { once = p.once.items ++ n ∷ [] }, x)) (put-nil text)
    ∙ ap (λ (ns : List ℕ). Ok (record (state_in table p) { once = ns }, text)) (sym more)
    ∙ ap (λ (x : Progress). Ok (state_in table x, x.text)) (sym is))

-- a line that says nothing
pub unsaid-known : (k : UnitTextValue) (s : State) → put_after k (only [] s) ≡ Ok (s, k)
unsaid-known k s = ap (λ (t : UnitTextValue). Ok (s, put_in t [])) (noted_in-nil k) ∙ ap (λ (t : UnitTextValue). Ok (s, t)) (put-nil k)
