-- A replacement's result, and what is kept of what happened, by its two steps.
use Rattle.std.proofs.Common.{◌≡◌, suc, ◌≤◌, List, length, ◌++◌, Option, Some, None, Result, Ok, Err, refl, ap, sym, subst, ◌∙◌, true}
use Rattle.std.specs.Prelude.{IfSome}
use Rattle.cs_base.specs.Token.{Token}
use Rattle.macro_body.specs.Hides.{Hidden}
use Rattle.macro_body.specs.Bodies.{Part}
use Rattle.macro_body.specs.Notes.{Fault, Note, onward}
use Rattle.macro_body.specs.Substitution.{Arguments, Made, made, with_gap, cost_of, chains_made, chains_pasted, result_of}
use Rattle.macro_body.specs.Kept.{Kept, kept_with, made_kept}
use Rattle.macro_body.specs.Sound.{all_sound, chains_traced}
use Rattle.macro_body.proofs.ResultLemmas.{ok_same, err_ok}
use Rattle.macro_body.proofs.KeptLemmas.{kept_with-append}
use Rattle.macro_body.proofs.LengthLemmas.{length-result_of}
use Rattle.macro_body.proofs.MakingLemmas.{made_kept-onward}
use Rattle.macro_body.proofs.SoundLemmas.{SoundCall, result_of-sound}

-- what was made, from what is kept of it
made_kept-ok : {A : Type 0} (kept kept2 : Kept) (r : Result (Made A) Fault) (v : A) → made_kept kept r ≡ Ok (v, kept2) → (m : Made A) × (r ≡ Ok m) × (m.value ≡ v)
made_kept-ok kept kept2 (Err fault) v e = err_ok fault (v, kept2) e
made_kept-ok {A} kept kept2 (Ok m) v e = (m, refl, ap (λ (pair : A × Kept). pair.0) (ok_same (m.value, kept_with kept m.notes) (v, kept2) e))

-- the tokens pasted and under the gap of the name
abbrev finished : Token → List Note → Made (List Hidden) → Result (Made (List Hidden)) Fault
finished name notes v = Ok (made (with_gap name.gap v.value) (notes ++ v.notes))

finished-is : (name : Token) (notes : List Note) (r : Result (Made (List Hidden)) Fault) (kept kept2 : Kept) (v toks : List Hidden)
    → made_kept (kept_with kept notes) r ≡ Ok (v, kept2) → toks ≡ with_gap name.gap v → made_kept kept (onward r (finished name notes)) ≡ Ok (toks, kept2)
finished-is name notes (Err fault) kept kept2 v toks e is = err_ok fault (v, kept2) e
finished-is name notes (Ok m) kept kept2 v toks e is =
    let P : List Hidden × Kept → Type 0 = λ pair.
    ◌≡◌ {A = Result (List Hidden × Kept) Fault} (Ok (with_gap name.gap m.value, kept_with (kept_with kept notes) m.notes)) (Ok (with_gap name.gap pair.0, pair.1)) in
    ap (λ k. Ok (with_gap name.gap m.value, k)) (kept_with-append kept notes m.notes)
    ∙ subst P (ok_same (m.value, kept_with (kept_with kept notes) m.notes) (v, kept2) e) refl
    ∙ ap (λ l. Ok (l, kept2)) (sym is)

finished-fault : (name : Token) (notes : List Note) (r : Result (Made (List Hidden)) Fault) (kept : Kept) (fault : Fault)
    → made_kept (kept_with kept notes) r ≡ Err fault → made_kept kept (onward r (finished name notes)) ≡ Err fault
finished-fault name notes (Ok m) kept fault e = err_ok fault (m.value, kept_with (kept_with kept notes) m.notes) (sym e)
finished-fault name notes (Err first) kept fault e = e

-- what comes behind the strings
abbrev behind_strings : Token → Made (List (List (List Hidden))) → Result (Made (List Hidden)) Fault
behind_strings name s = onward (chains_pasted name s.value) (finished name s.notes)

strings-is : (name : Token) (r : Result (Made (List (List (List Hidden)))) Fault) (kept kept2 : Kept) (s : List (List (List Hidden))) (out : Result (List Hidden × Kept) Fault)
    → made_kept kept r ≡ Ok (s, kept2)
    → ((notes : List Note) → kept_with kept notes ≡ kept2 → made_kept kept (onward (chains_pasted name s) (finished name notes)) ≡ out)
    → made_kept kept (onward r (behind_strings name)) ≡ out
strings-is name (Err fault) kept kept2 s out e rest = err_ok fault (s, kept2) e
strings-is name (Ok m) kept kept2 s out e rest =
    let same = ok_same (m.value, kept_with kept m.notes) (s, kept2) e in
    ap (λ v. made_kept kept (onward (chains_pasted name v) (finished name m.notes))) (ap (λ (pair : List (List (List Hidden)) × Kept). pair.0) same)
    ∙ rest m.notes (ap (λ (pair : List (List (List Hidden)) × Kept). pair.1) same)

-- strings are made, and then tokens are pasted
pub result-is : (name : Token) (args : Arguments) (chains : List (List Part)) (kept kept2 kept3 : Kept) (s : List (List (List Hidden))) (v toks : List Hidden)
    → made_kept kept (chains_made name args chains) ≡ Ok (s, kept2) → made_kept kept2 (chains_pasted name s) ≡ Ok (v, kept3) → toks ≡ with_gap name.gap v
    → made_kept kept (result_of name args chains) ≡ Ok (toks, kept3)
unfolding result_of
result-is name args chains kept kept2 kept3 s v toks first second is =
    strings-is name (chains_made name args chains) kept kept2 s (Ok (toks, kept3)) first
    (λ notes same. finished-is name notes (chains_pasted name s) kept kept3 v toks (ap (λ k. made_kept k (chains_pasted name s)) same ∙ second) is)

-- a string is not made
pub result-no_string : (name : Token) (args : Arguments) (chains : List (List Part)) (kept : Kept) (fault : Option Fault)
    → IfSome fault (λ f. made_kept kept (chains_made name args chains) ≡ Err f) → IfSome fault (λ f. made_kept kept (result_of name args chains) ≡ Err f)
unfolding result_of
result-no_string name args chains kept None first = tt
result-no_string name args chains kept (Some fault) first = made_kept-onward kept (chains_made name args chains) (behind_strings name) fault first

-- a token is not pasted
pub result-no_token : (name : Token) (args : Arguments) (chains : List (List Part)) (kept kept2 : Kept) (s : List (List (List Hidden))) (fault : Option Fault)
    → made_kept kept (chains_made name args chains) ≡ Ok (s, kept2) → IfSome fault (λ f. made_kept kept2 (chains_pasted name s) ≡ Err f)
    → IfSome fault (λ f. made_kept kept (result_of name args chains) ≡ Err f)
unfolding result_of
result-no_token name args chains kept kept2 s None first second = tt
result-no_token name args chains kept kept2 s (Some fault) first second =
    strings-is name (chains_made name args chains) kept kept2 s (Err fault) first
    (λ notes same. finished-fault name notes (chains_pasted name s) kept fault (ap (λ k. made_kept k (chains_pasted name s)) same ∙ second))

-- what a replacement puts in, from what is kept of it
pub result-within : (name : Token) (args : Arguments) (chains : List (List Part)) (kept kept2 : Kept) (toks : List Hidden)
    → made_kept kept (result_of name args chains) ≡ Ok (toks, kept2) → suc (length toks) ≤ cost_of name args chains
result-within name args chains kept kept2 toks e =
    let m = made_kept-ok kept kept2 (result_of name args chains) toks e in
    subst (λ v. suc (length v) ≤ cost_of name args chains) m.2 (length-result_of name args chains m.0 m.1)

pub result-sound : (name : Token) (args : Arguments) (chains : List (List Part)) (kept kept2 : Kept) (toks : List Hidden) → SoundCall name args → chains_traced chains ≡ true
    → made_kept kept (result_of name args chains) ≡ Ok (toks, kept2) → all_sound toks ≡ true
result-sound name args chains kept kept2 toks call here e =
    let m = made_kept-ok kept kept2 (result_of name args chains) toks e in
    subst (λ v. all_sound v ≡ true) m.2 (result_of-sound name args call chains here m.0 m.1)
