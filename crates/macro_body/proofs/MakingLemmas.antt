-- What is made, and what is kept of what happened, step by step.
use Rattle.std.proofs.Common.{◌≡◌, ℕ, ◌+◌, ◌<◌, Bool, List, [], ◌∷◌, ◌++◌, length, get_or, drop, Option, Some, None, Result, Ok, Err, refl, ap, sym, subst, ◌∙◌, append_assoc}
use Rattle.std.specs.Prelude.{IfSome}
use Rattle.std.proofs.lemmas.List.{at_drop_more}
use Rattle.cs_base.specs.Answer.{result_map_err}
use Rattle.cs_base.specs.Token.{Token}
use Rattle.paste_origin.specs.Strings.{StringFault}
use Rattle.macro_body.specs.Hides.{Hidden, hidden}
use Rattle.macro_body.specs.Bodies.{Part}
use Rattle.macro_body.specs.Notes.{Fault, NotAString, Stringized, onward}
use Rattle.macro_body.specs.Substitution.{Arguments, Made, made_both, put_in, is_alone, string_made, operand_made, operands_made, chains_made}
use Rattle.macro_body.specs.Kept.{Kept, kept_with, made_kept}
use Rattle.macro_body.proofs.ResultLemmas.{ok_same, err_ok}
use Rattle.macro_body.proofs.KeptLemmas.{kept_with-append}

-- a list that is made, behind what was made before
abbrev pub behind : {A : Type 0} → List A → Kept → Result (Made (List A)) Fault → Result (List A × Kept) Fault
behind out kept (Ok m) = Ok (out ++ m.value, kept_with kept m.notes)
behind out kept (Err fault) = Err fault

-- what is made first, in front of the rest
pub behind-more : {A : Type 0} (out : List A) (kept kept2 : Kept) (m : Result (Made A) Fault) (r : Result (Made (List A)) Fault) (v : A)
    → made_kept kept m ≡ Ok (v, kept2)
    → behind out kept (onward m (λ x. onward r (λ xs. Ok (made_both (λ y ys. y ∷ ys) x xs)))) ≡ behind (out ++ v ∷ []) kept2 r
behind-more {A} out kept kept2 (Err fault) r v e = err_ok fault (v, kept2) e
behind-more {A} out kept kept2 (Ok m) r v e =
    let P : A × Kept → Type 0 = λ pair. behind out kept (onward r (λ xs. Ok (made_both (λ y ys. y ∷ ys) m xs))) ≡ behind (out ++ pair.0 ∷ []) pair.1 r in
    subst P (ok_same (m.value, kept_with kept m.notes) (v, kept2) e) (by r)
  where
    by : (r : Result (Made (List A)) Fault)
        → behind out kept (onward r (λ xs. Ok (made_both (λ y ys. y ∷ ys) m xs))) ≡ behind (out ++ m.value ∷ []) (kept_with kept m.notes) r
    by (Err fault) = refl
    by (Ok xs) = λ i. Ok (sym (append_assoc out (m.value ∷ []) xs.value) i, kept_with-append kept m.notes xs.notes i)

-- the same where a list is made first
pub behind-appended : {A : Type 0} (out : List A) (kept kept2 : Kept) (m r : Result (Made (List A)) Fault) (v : List A)
    → made_kept kept m ≡ Ok (v, kept2)
    → behind out kept (onward m (λ x. onward r (λ xs. Ok (made_both (λ y ys. y ++ ys) x xs)))) ≡ behind (out ++ v) kept2 r
behind-appended {A} out kept kept2 (Err fault) r v e = err_ok fault (v, kept2) e
behind-appended {A} out kept kept2 (Ok m) r v e =
    let P : List A × Kept → Type 0 = λ pair. behind out kept (onward r (λ xs. Ok (made_both (λ y ys. y ++ ys) m xs))) ≡ behind (out ++ pair.0) pair.1 r in
    subst P (ok_same (m.value, kept_with kept m.notes) (v, kept2) e) (by r)
  where
    by : (r : Result (Made (List A)) Fault)
        → behind out kept (onward r (λ xs. Ok (made_both (λ y ys. y ++ ys) m xs))) ≡ behind (out ++ m.value) (kept_with kept m.notes) r
    by (Err fault) = refl
    by (Ok xs) = λ i. Ok (sym (append_assoc out m.value xs.value) i, kept_with-append kept m.notes xs.notes i)

-- what is kept of a fault, whatever was kept before
pub made_kept-fault : {A : Type 0} (kept : Kept) (m : Result (Made A) Fault) (fault : Fault) → made_kept kept m ≡ Err fault → m ≡ Err fault
made_kept-fault kept (Ok m) fault e = err_ok fault (m.value, kept_with kept m.notes) (sym e)
made_kept-fault {A} kept (Err first) fault e = ap (λ f. Err f) (ap fault_or e)
  where
    fault_or : Result (A × Kept) Fault → Fault
    fault_or (Ok v) = first
    fault_or (Err f) = f

pub made_kept-onward : {A B : Type 0} (kept : Kept) (m : Result (Made A) Fault) (next : Made A → Result (Made B) Fault) (fault : Fault)
    → made_kept kept m ≡ Err fault → made_kept kept (onward m next) ≡ Err fault
made_kept-onward kept m next fault e = ap (λ r. made_kept kept (onward r next)) (made_kept-fault kept m fault e)

-- a fault of the first is the fault of all
pub behind-fault : {A B : Type 0} (out : List B) (kept : Kept) (m : Result (Made A) Fault) (next : Made A → Result (Made (List B)) Fault) (fault : Fault)
    → made_kept kept m ≡ Err fault → behind out kept (onward m next) ≡ Err fault
behind-fault out kept m next fault e = ap (λ r. behind out kept (onward r next)) (made_kept-fault kept m fault e)

-- the operands of a chain, from one on
pub operands-step : (name : Token) (args : Arguments) (lone : Bool) (parts : List Part) (k : ℕ) (p : Part) (start : Result (List (List Hidden) × Kept) Fault)
    → (out out2 : List (List Hidden)) (kept kept2 : Kept) (v : List Hidden) → k < length parts → p ≡ get_or parts k p
    → start ≡ behind out kept (operands_made name args lone (drop k parts)) → made_kept kept (operand_made name args lone p) ≡ Ok (v, kept2)
    → out2 ≡ out ++ v ∷ [] → start ≡ behind out2 kept2 (operands_made name args lone (drop (k + 1) parts))
operands-step name args lone parts k p start out out2 kept kept2 v within is before step new =
    before
    ∙ at_drop_more (λ ps. behind out kept (operands_made name args lone ps)) parts k p within
    ∙ ap (λ q. behind out kept (operands_made name args lone (q ∷ drop (k + 1) parts))) (sym is)
    ∙ behind-more out kept kept2 (operand_made name args lone p) (operands_made name args lone (drop (k + 1) parts)) v step
    ∙ ap (λ o. behind o kept2 (operands_made name args lone (drop (k + 1) parts))) (sym new)

pub operands-fault : (name : Token) (args : Arguments) (lone : Bool) (parts : List Part) (k : ℕ) (p : Part) (start : Result (List (List Hidden) × Kept) Fault)
    → (out : List (List Hidden)) (kept : Kept) (fault : Option Fault) → k < length parts → p ≡ get_or parts k p
    → start ≡ behind out kept (operands_made name args lone (drop k parts))
    → IfSome fault (λ f. made_kept kept (operand_made name args lone p) ≡ Err f) → IfSome fault (λ f. start ≡ Err f)
operands-fault name args lone parts k p start out kept None within is before step = tt
operands-fault name args lone parts k p start out kept (Some fault) within is before step =
    before
    ∙ at_drop_more (λ ps. behind out kept (operands_made name args lone ps)) parts k p within
    ∙ ap (λ q. behind out kept (operands_made name args lone (q ∷ drop (k + 1) parts))) (sym is)
    ∙ behind-fault out kept (operand_made name args lone p) (λ x. onward (operands_made name args lone (drop (k + 1) parts)) (λ xs. Ok (made_both (λ y ys. y ∷ ys) x xs))) fault step

-- the operands of the chains, from one on
pub chains-step : (name : Token) (args : Arguments) (chains : List (List Part)) (k : ℕ) (c : List Part) (start : Result (List (List (List Hidden)) × Kept) Fault)
    → (out out2 : List (List (List Hidden))) (kept kept2 : Kept) (v : List (List Hidden)) → k < length chains → c ≡ get_or chains k c
    → start ≡ behind out kept (chains_made name args (drop k chains)) → made_kept kept (operands_made name args (is_alone c) c) ≡ Ok (v, kept2)
    → out2 ≡ out ++ v ∷ [] → start ≡ behind out2 kept2 (chains_made name args (drop (k + 1) chains))
chains-step name args chains k c start out out2 kept kept2 v within is before step new =
    before
    ∙ at_drop_more (λ cs. behind out kept (chains_made name args cs)) chains k c within
    ∙ ap (λ d. behind out kept (chains_made name args (d ∷ drop (k + 1) chains))) (sym is)
    ∙ behind-more out kept kept2 (operands_made name args (is_alone c) c) (chains_made name args (drop (k + 1) chains)) v step
    ∙ ap (λ o. behind o kept2 (chains_made name args (drop (k + 1) chains))) (sym new)

pub chains-fault : (name : Token) (args : Arguments) (chains : List (List Part)) (k : ℕ) (c : List Part) (start : Result (List (List (List Hidden)) × Kept) Fault)
    → (out : List (List (List Hidden))) (kept : Kept) (fault : Option Fault) → k < length chains → c ≡ get_or chains k c
    → start ≡ behind out kept (chains_made name args (drop k chains))
    → IfSome fault (λ f. made_kept kept (operands_made name args (is_alone c) c) ≡ Err f) → IfSome fault (λ f. start ≡ Err f)
chains-fault name args chains k c start out kept None within is before step = tt
chains-fault name args chains k c start out kept (Some fault) within is before step =
    before
    ∙ at_drop_more (λ cs. behind out kept (chains_made name args cs)) chains k c within
    ∙ ap (λ d. behind out kept (chains_made name args (d ∷ drop (k + 1) chains))) (sym is)
    ∙ behind-fault out kept (operands_made name args (is_alone c) c) (λ x. onward (chains_made name args (drop (k + 1) chains)) (λ xs. Ok (made_both (λ y ys. y ∷ ys) x xs))) fault step

-- a string is made
pub string-is : (name sign : Token) (toks : List Token) (g : Result Token StringFault) (s : Token) (kept kept2 : Kept) (v : List Hidden)
    → result_map_err (λ _. NotAString name.at) g ≡ Ok s → v ≡ hidden (put_in name sign.gap s) [] ∷ [] → kept2 ≡ kept_with kept (Stringized toks s ∷ [])
    → made_kept kept (string_made name sign toks g) ≡ Ok (v, kept2)
string-is name sign toks (Err fault) s kept kept2 v e value notes = err_ok (NotAString name.at) s e
string-is name sign toks (Ok s) s2 kept kept2 v e value notes =
    let same = ok_same s s2 e in
    ap (λ t. made_kept kept (string_made name sign toks (Ok t))) same ∙ ap (λ w. Ok (w, kept_with kept (Stringized toks s2 ∷ []))) (sym value) ∙ ap (λ k. Ok (v, k)) (sym notes)
