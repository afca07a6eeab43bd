-- Steps of a unit as the program takes them: what comes to what all comes to.
use Rattle.std.proofs.Common.{◌≡◌, ℕ, ◌+◌, ◌-◌, ◌≤◌, Bool, false, nat_lt, List, [], length, Result, Ok, Err, sym, ◌∙◌, ap, arith, length-append}
use Rattle.cs_base.specs.Token.{Token}
use Rattle.macro_expand.specs.Below.macro_body.declared.notes.Work.{Work}
use Rattle.macro_expand.specs.Below.macro_body.Hides.{toks_of}
use Rattle.macro_expand.specs.Below.macro_body.Notes as expansion
use Rattle.macro_expand.specs.Below.macro_body.Kept.{Kept, kept, kept_with, expanded_kept}
use Rattle.macro_expand.proofs.Below.macro_body.ResultLemmas.{ok_same}
use Rattle.source_files.specs.Files.{SourceFile}
use Rattle.source_files.specs.Faults.{Fault}
use Rattle.unit_steps.specs.State.{Context, State, Outcome, onward}
use Rattle.unit_steps.specs.Texts.{UnitTextValue}
use Rattle.unit_steps.specs.Expanding.{expanded_as, most_toks, put_out}
use Rattle.unit_steps.specs.Keeping.{noted_in, put_in, expanded_into, kept_after, put_after}
use Rattle.unit_steps.proofs.KeepingLemmas.{noted_in-nil, expanded_into-noted, kept-noted, put-noted}

-- ---- one step behind another

value_or : {A : Type 0} → A → Result A Fault → A
value_or d (Ok a) = a
value_or d (Err e) = d

pub done_same : {A : Type 0} (a b : A) → ◌≡◌ {A = Result A Fault} (Ok a) (Ok b) → a ≡ b
unfolding value_or
done_same a b e = ap (value_or a) e

-- the next step behind one that is done
pub put-onward : {A : Type 0} (k k2 : UnitTextValue) (m : Outcome A) (next : A → State → Outcome (List Token)) (a : A) (t : State)
    → kept_after k m ≡ Ok (a, t, k2) → put_after k (onward m next) ≡ put_after k2 (next a t)
put-onward {A} k k2 (Ok d) next a t h =
    put-noted k d.notes (next d.value d.state)
    ∙ ap (λ (r : A × State × UnitTextValue). put_after r.2 (next r.0 r.1)) (done_same (d.value, d.state, noted_in k d.notes) (a, t, k2) h)
put-onward k k2 (Err f) next a t h = absurd (cc)

pub kept-onward : {A B : Type 0} (k k2 : UnitTextValue) (m : Outcome A) (next : A → State → Outcome B) (a : A) (t : State)
    → kept_after k m ≡ Ok (a, t, k2) → kept_after k (onward m next) ≡ kept_after k2 (next a t)
kept-onward {A} {B} k k2 (Ok d) next a t h =
    kept-noted k d.notes (next d.value d.state)
    ∙ ap (λ (r : A × State × UnitTextValue). kept_after r.2 (next r.0 r.1)) (done_same (d.value, d.state, noted_in k d.notes) (a, t, k2) h)
kept-onward k k2 (Err f) next a t h = absurd (cc)

pub err_same : {A : Type 0} (f g : Fault) → ◌≡◌ {A = Result A Fault} (Err f) (Err g) → f ≡ g
err_same f g e = cc

-- the fault of a step is that of the steps behind it
pub put-onward_fault : {A : Type 0} (k : UnitTextValue) (m : Outcome A) (next : A → State → Outcome (List Token)) (f : Fault)
    → kept_after k m ≡ Err f → put_after k (onward m next) ≡ Err f
put-onward_fault k (Ok d) next f h = absurd (cc)
put-onward_fault {A} k (Err g) next f h = ap (λ (x : Fault). Err x) (err_same {A = A × State × UnitTextValue} g f h)

-- ---- an expansion

pub expanded-done : (run : Bool) (file : SourceFile) (s : State) (k new : UnitTextValue) (r : Result expansion.Expanded expansion.Fault) (out : List Token) (left : Work) (notes : Kept)
    → s.before ≡ length k.toks → expanded_kept (kept [] [] [] [] []) r ≡ Ok (out, left, notes) → new ≡ expanded_into k run s.before notes
    → kept_after k (expanded_as run file s r) ≡ Ok (out, record s { work = left; before = length new.toks }, new)
expanded-done run file s k new (Ok e) out left notes before is news =
    ap (λ (t : UnitTextValue). Ok (toks_of e.toks, record s { work = e.left }, t)) (expanded_into-noted k run s.before e.notes)
    ∙ ap (λ (p : List Token × Work × Kept). Ok (p.0, record s { work = p.1 }, expanded_into k run s.before p.2))
    (ok_same (toks_of e.toks, e.left, kept_with (kept [] [] [] [] []) e.notes) (out, left, notes) is)
    ∙ ap (λ (t : UnitTextValue). Ok (out, record s { work = left }, t)) (sym news)
    ∙ ap (λ (n : ℕ). Ok (out, record s { work = left; before = n }, new)) (before ∙ sym (ap (λ (t : UnitTextValue). length t.toks) news))
expanded-done run file s k new (Err f) out left notes before is news = absurd (cc)

-- ---- tokens are put out

pub put-done : (ctx : Context) (file : SourceFile) (toks : List Token) (s : State) (k new : UnitTextValue) (most : ℕ) → most_toks ctx ≡ most → s.before ≡ length k.toks
    → length toks ≤ most - s.before → s.before ≤ most → new ≡ put_in k toks → put_after k (put_out ctx file toks s) ≡ Ok (record s { before = length new.toks }, new)
put-done ctx file toks s k new most limit before room within is =
    let b : nat_lt (most_toks ctx) (s.before + length toks) ≡ false = grind (arith, limit) in
    let n : s.before + length toks ≡ length new.toks = omega (arith, length-append k.toks toks, ap (λ (t : UnitTextValue). length t.toks) is) in
    rw b (ap (λ (t : UnitTextValue). Ok (record s { before = s.before + length toks }, put_in t toks)) (noted_in-nil k)
    ∙ ap (λ (t : UnitTextValue). Ok (record s { before = s.before + length toks }, t)) (sym is)
    ∙ ap (λ (m : ℕ). Ok (record s { before = m }, new)) n)
