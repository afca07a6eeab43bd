-- The arguments of a call, expanded one after the other, and what a replacement makes of them.
use Rattle.std.proofs.Common.{◌≡◌, ℕ, suc, ◌+◌, ◌-◌, ◌<◌, Bool, true, false, cond, nat_lt, List, [], ◌∷◌, ◌++◌, length, get_or, drop, Some, None, Result, Ok, Err, refl, sym, ap, subst, ◌∙◌, add-one, append_assoc}
use Rattle.std.proofs.lemmas.List.{drop_more}
use Rattle.std.proofs.lemmas.Option.{none-some, same_Some}
use Rattle.cs_base.specs.Answer.{Gives}
use Rattle.cs_base.specs.Limits.{most_bytes}
use Rattle.cs_base.specs.Token.{Token}
use Rattle.macro_body.specs.declared.notes.Work.{Work}
use Rattle.macro_body.specs.declared.definitions.Definition.{Definition}
use Rattle.macro_body.specs.declared.fault.ExpandFault.{ExpandFault}
use Rattle.macro_body.specs.Hides.{Hidden, hidden}
use Rattle.macro_body.specs.Bodies.{Part, chains_of, occurs_alone}
use Rattle.macro_body.specs.Notes.{Fault, TooMuchWork, Counted, Expanded, expanded, noted, onward}
use Rattle.macro_body.specs.Substitution.{Arguments, Made, number_token, cost_of, result_of}
use Rattle.macro_expand.specs.Expansion.{Next, Full, with_full, full_step, full_from, spent, numbered, counted, substituted}
use Rattle.macro_body.specs.Kept.{Kept, kept_with, made_kept, finished}
use Rattle.macro_body.specs.Faults.{fault_of}
use Rattle.macro_expand.specs.Going.{one_spent, full_of, all_full}
use Rattle.macro_body.proofs.ResultLemmas.{ok_same, err_ok}
use Rattle.macro_body.proofs.KeptLemmas.{kept_with-append}
use Rattle.macro_expand.proofs.GoingLemmas.{Ending, ok_err, fault_more, finished-noted}

-- what arguments come to
abbrev pub FullEnding : Type 0
FullEnding = Result (List (List Hidden) × Work × Kept) Fault

full_step-full_of : (b : Bool) (next : Next) (depth before : ℕ) (name : Token) (a : List Hidden) (work : Work) (rest : Work → Result Full Fault)
    → full_step b next depth before name a work rest ≡ onward (full_of b next depth before name a work) (λ e. onward (rest e.left) (λ f. Ok (with_full e f)))
full_step-full_of true next depth before name a work rest = refl
full_step-full_of false next depth before name a work rest = refl

all_full-with : (k : Kept) (front : List (List Hidden)) (e : Expanded) (r : Result Full Fault)
    → all_full k front (onward r (λ f. Ok (with_full e f))) ≡ all_full (kept_with k e.notes) (front ++ e.toks ∷ []) r
all_full-with k front e (Err f) = refl
all_full-with k front e (Ok f) =
    let F : List (List Hidden) → Kept → FullEnding = λ lists s. Ok (lists, f.left, s) in
    ap (F (front ++ e.toks ∷ f.lists)) (kept_with-append k e.notes f.notes)
    ∙ ap (λ (lists : List (List Hidden)). F lists (kept_with (kept_with k e.notes) f.notes)) (sym (append_assoc front (e.toks ∷ []) f.lists))

-- one argument, and then the rest
turned : (k k2 : Kept) (front : List (List Hidden)) (r : Result Expanded Fault) (rest : Work → Result Full Fault) (toks : List Hidden) (left : Work)
    → finished k [] r ≡ Ok (toks, left, k2)
    → all_full k front (onward r (λ e. onward (rest e.left) (λ f. Ok (with_full e f)))) ≡ all_full k2 (front ++ toks ∷ []) (rest left)
turned k k2 front (Err f) rest toks left h = err_ok f _ h
turned k k2 front (Ok e) rest toks left h =
    all_full-with k front e (rest e.left)
    ∙ ap (λ (v : List Hidden × Work × Kept). all_full v.2 (front ++ v.0 ∷ []) (rest v.1)) (ok_same (e.toks, e.left, kept_with k e.notes) (toks, left, k2) h)

faulted : (k : Kept) (front : List (List Hidden)) (r : Result Expanded Fault) (next : Expanded → Result Full Fault) (f : Fault) → finished k [] r ≡ Err f → all_full k front (onward r next) ≡ Err f
faulted k front (Ok e) next f h = ok_err _ f h
faulted k front (Err g) next f h = ap (λ (r : Result (List Hidden × Work × Kept) Fault). lists_of r) h
  where
    lists_of : Result (List Hidden × Work × Kept) Fault → FullEnding
    lists_of (Ok v) = Ok ([], v.1, v.2)
    lists_of (Err f) = Err f

-- the argument at a place, and those behind it
full-at : (next : Next) (depth before : ℕ) (name : Token) (chains : List (List Part)) (i : ℕ) (raw : List (List Hidden)) (a : List Hidden) (lone : Bool) (work : Work)
    → i < length raw → a ≡ get_or raw i a → lone ≡ occurs_alone i chains
    → full_from next depth before name chains i (drop i raw) work
    ≡ onward (full_of lone next depth before name a work) (λ e. onward (full_from next depth before name chains (suc i) (drop (i + 1) raw) e.left) (λ f. Ok (with_full e f)))
full-at next depth before name chains i raw a lone work inside is alone =
    let rest : Work → Result Full Fault = full_from next depth before name chains (suc i) (drop (i + 1) raw) in
    ap (λ (lists : List (List Hidden)). full_from next depth before name chains i lists work)
    (drop_more raw i a inside ∙ ap (λ (x : List Hidden). x ∷ drop (i + 1) raw) (sym is))
    ∙ full_step-full_of (occurs_alone i chains) next depth before name a work rest
    ∙ ap (λ (b : Bool). onward (full_of b next depth before name a work) (λ e. onward (rest e.left) (λ f. Ok (with_full e f)))) (sym alone)

pub full-turn : (next : Next) (depth before : ℕ) (name : Token) (chains : List (List Part)) (i : ℕ) (raw : List (List Hidden)) (a : List Hidden) (lone : Bool) (work left : Work)
    → (k k2 : Kept) (front front2 : List (List Hidden)) (toks : List Hidden) (all : FullEnding)
    → i < length raw → a ≡ get_or raw i a → lone ≡ occurs_alone i chains
    → finished k [] (full_of lone next depth before name a work) ≡ Ok (toks, left, k2) → front2 ≡ front ++ toks ∷ []
    → all_full k front (full_from next depth before name chains i (drop i raw) work) ≡ all
    → all_full k2 front2 (full_from next depth before name chains (i + 1) (drop (i + 1) raw) left) ≡ all
full-turn next depth before name chains i raw a lone work left k k2 front front2 toks all inside is alone gives pushed so_far =
    ap (λ (lists : List (List Hidden)). all_full k2 lists (full_from next depth before name chains (i + 1) (drop (i + 1) raw) left)) pushed
    ∙ ap (λ (j : ℕ). all_full k2 (front ++ toks ∷ []) (full_from next depth before name chains j (drop (i + 1) raw) left)) (add-one i)
    ∙ sym (turned k k2 front (full_of lone next depth before name a work) (full_from next depth before name chains (suc i) (drop (i + 1) raw)) toks left gives)
    ∙ ap (λ (r : Result Full Fault). all_full k front r) (sym (full-at next depth before name chains i raw a lone work inside is alone))
    ∙ so_far

pub full-fault : (next : Next) (depth before : ℕ) (name : Token) (chains : List (List Part)) (i : ℕ) (raw : List (List Hidden)) (a : List Hidden) (lone : Bool) (work : Work)
    → (k : Kept) (front : List (List Hidden)) (all : FullEnding)
    → i < length raw → a ≡ get_or raw i a → lone ≡ occurs_alone i chains
    → all_full k front (full_from next depth before name chains i (drop i raw) work) ≡ all
    → (f : Fault) → finished k [] (full_of lone next depth before name a work) ≡ Err f → all ≡ Err f
full-fault next depth before name chains i raw a lone work k front all inside is alone so_far f h =
    sym so_far
    ∙ ap (λ (r : Result Full Fault). all_full k front r) (full-at next depth before name chains i raw a lone work inside is alone)
    ∙ faulted k front (full_of lone next depth before name a work) (λ e. onward (full_from next depth before name chains (suc i) (drop (i + 1) raw) e.left) (λ v. Ok (with_full e v))) f h

-- ---- the cost, and what is made

all_full-spent : (name : Token) (cost : List (List Hidden) → ℕ) (made_of : List (List Hidden) → Result (Made (List Hidden)) Fault) (r : Result Full Fault) (k k2 : Kept) (lists : List (List Hidden)) (left : Work)
    → all_full k [] r ≡ Ok (lists, left, k2)
    → finished k [] (onward r (λ f. onward (spent name (cost f.lists) f.left (made_of f.lists)) (λ e. Ok (noted f.notes e)))) ≡ finished k2 [] (spent name (cost lists) left (made_of lists))
all_full-spent name cost made_of (Err f) k k2 lists left h = err_ok f _ h
all_full-spent name cost made_of (Ok f) k k2 lists left h =
    finished-noted k [] f.notes (spent name (cost f.lists) f.left (made_of f.lists))
    ∙ ap (λ (v : List (List Hidden) × Work × Kept). finished v.2 [] (spent name (cost v.0) v.1 (made_of v.0))) (ok_same (f.lists, f.left, kept_with k f.notes) (lists, left, k2) h)

-- what was made, with the work that is left
abbrev less : Work → ℕ → Work
less work cost = record work { left = work.left - cost }

abbrev with_left : Work → Result (List Hidden × Kept) Fault → Ending
with_left w (Ok v) = Ok (v.0, w, v.1)
with_left w (Err f) = Err f

spent-made : (name : Token) (cost : ℕ) (work : Work) (made : Result (Made (List Hidden)) Fault) (k : Kept) → nat_lt work.left cost ≡ false
    → finished k [] (spent name cost work made) ≡ with_left (less work cost) (made_kept k made)
spent-made name cost work made k enough =
    ap (λ (b : Bool). finished k [] (cond b (Err (TooMuchWork name.at)) (onward made (λ m. Ok (expanded m.value m.notes (less work cost)))))) enough ∙ kept made
  where
    kept : (made : Result (Made (List Hidden)) Fault) → finished k [] (onward made (λ m. Ok (expanded m.value m.notes (less work cost)))) ≡ with_left (less work cost) (made_kept k made)
    kept (Ok m) = refl
    kept (Err f) = refl

some_left : (b : Bool) (n left : ℕ) → Some left ≡ cond b None (Some n) → (b ≡ false) × (left ≡ n)
some_left true n left e = absurd (none-some left (sym e))
some_left false n left e = (refl, same_Some left n e)

given_left : {V : Type 0} (view : V → List Hidden) (n : Work) (k : Kept) (r : Result V ExpandFault) (x : Result (List Hidden × Kept) Fault)
    → Gives {Y = List Hidden × Kept} (λ v. (view v, k)) fault_of r x → Gives {Y = List Hidden × Work × Kept} (λ v. (view v, n, k)) fault_of r (with_left n x)
given_left view n k (Ok v) x h = ap (with_left n) h
given_left view n k (Err e) x h = fault_more (fault_of e) (λ f. x ≡ Err f) (λ f. with_left n x ≡ Err f) (λ f is. ap (with_left n) is) h

-- A replacement whose arguments are expanded, and whose cost is at most the work that is left.
pub substituted-given : {V : Type 0} (view : V → List Hidden) (next : Next) (depth before : ℕ) (name : Token) (m : Definition) (raw lists full : List (List Hidden)) (chains : List (List Part))
    → (work left : Work) (left2 : ℕ) (k k2 k3 : Kept) (r : Result V ExpandFault) → chains ≡ chains_of m → full ≡ lists
    → all_full k [] (full_from next depth before name chains 0 raw work) ≡ Ok (lists, left, k2)
    → Some left2 ≡ cond (nat_lt left.left (cost_of name (record { raw = raw; full = full }) chains)) None (Some (left.left - cost_of name (record { raw = raw; full = full }) chains))
    → Gives {Y = List Hidden × Kept} (λ v. (view v, k3)) fault_of r (made_kept k2 (result_of name (record { raw = raw; full = full }) chains))
    → Gives {Y = List Hidden × Work × Kept} (λ v. (view v, record left { left = left2 }, k3)) fault_of r (finished k [] (substituted next depth before name m raw work))
substituted-given {V} view next depth before name m raw lists full chains work left left2 k k2 k3 r is same gives enough made =
    let args : List (List Hidden) → Arguments = λ ls. record { raw = raw; full = ls } in
    let cost = cost_of name (args full) chains in
    let l = some_left (nat_lt left.left cost) (left.left - cost) left2 enough in
    let all : finished k [] (substituted next depth before name m raw work) ≡ with_left (record left { left = left2 }) (made_kept k2 (result_of name (args full) chains)) =
    ap (λ (cs : List (List Part)). finished k [] (onward (full_from next depth before name cs 0 raw work) (λ f. onward (spent name (cost_of name (args f.lists) cs) f.left (result_of name (args f.lists) cs)) (λ e. Ok (noted f.notes e))))) (sym is)
    ∙ all_full-spent name (λ ls. cost_of name (args ls) chains) (λ ls. result_of name (args ls) chains) (full_from next depth before name chains 0 raw work) k k2 lists left gives
    ∙ ap (λ (ls : List (List Hidden)). finished k2 [] (spent name (cost_of name (args ls) chains) left (result_of name (args ls) chains))) (sym same)
    ∙ spent-made name cost left (result_of name (args full) chains) k2 l.0
    ∙ ap (λ (n : ℕ). with_left (record left { left = n }) (made_kept k2 (result_of name (args full) chains))) (sym l.1) in
    let P : Ending → Type 0 = Gives {X = V} {Y = List Hidden × Work × Kept} (λ v. (view v, record left { left = left2 }, k3)) fault_of r in
    subst P (sym all) (given_left view (record left { left = left2 }) k3 r (made_kept k2 (result_of name (args full) chains)) made)

-- ---- the next number of the unit

abbrev with_kept : Kept → Result (List Hidden × Work) Fault → Ending
with_kept k (Ok v) = Ok (v.0, v.1, k)
with_kept k (Err f) = Err f

given_kept : {V : Type 0} (view : V → List Hidden) (w : Work) (k : Kept) (r : Result V ExpandFault) (x : Result (List Hidden × Work) Fault)
    → Gives {Y = List Hidden × Work} (λ v. (view v, w)) fault_of r x → Gives {Y = List Hidden × Work × Kept} (λ v. (view v, w, k)) fault_of r (with_kept k x)
given_kept view w k (Ok v) x h = ap (with_kept k) h
given_kept view w k (Err e) x h = fault_more (fault_of e) (λ f. x ≡ Err f) (λ f. with_kept k x ≡ Err f) (λ f is. ap (with_kept k) is) h

counted-one : (b : Bool) (fault : Fault) (t : Token) (w : Work) (k : Kept)
    → finished k [] (cond b (Err fault) (Ok (expanded (hidden t [] ∷ []) (Counted t ∷ []) w))) ≡ with_kept (kept_with k (Counted t ∷ [])) (cond b (Err fault) (Ok (hidden t [] ∷ [], w)))
counted-one true fault t w k = refl
counted-one false fault t w k = refl

-- it takes the place of a name, is noted, and the one behind it is the next
pub counted-given : {V : Type 0} (view : V → List Hidden) (name t : Token) (work work1 work2 : Work) (k k2 : Kept) (r : Result V ExpandFault)
    → nat_lt work.counter most_bytes ≡ true → t ≡ number_token name work.counter → work1 ≡ record work { counter = work.counter + 1 } → k2 ≡ kept_with k (Counted t ∷ [])
    → Gives {Y = List Hidden × Work} (λ v. (view v, work2)) fault_of r (one_spent name t work1)
    → Gives {Y = List Hidden × Work × Kept} (λ v. (view v, work2, k2)) fault_of r (finished k [] (counted name work))
counted-given {V} view name t work work1 work2 k k2 r few t_is work_is k_is gives =
    let n : Token = number_token name work.counter in
    let w : Work = record work { counter = work.counter + 1 } in
    let all : finished k [] (counted name work) ≡ with_kept k2 (one_spent name t work1) =
    ap (λ (b : Bool). finished k [] (cond b (numbered name work) (Err (TooMuchWork name.at)))) few
    ∙ counted-one (nat_lt work.left 1) (TooMuchWork name.at) n (record w { left = work.left - 1 }) k
    ∙ ap (λ (x : Token). with_kept (kept_with k (Counted x ∷ [])) (one_spent name x w)) (sym t_is)
    ∙ ap (λ (x : Kept). with_kept x (one_spent name t w)) (sym k_is)
    ∙ ap (λ (x : Work). with_kept k2 (one_spent name t x)) (sym work_is) in
    subst (λ (x : Ending). Gives {X = V} {Y = List Hidden × Work × Kept} (λ v. (view v, work2, k2)) fault_of r x) (sym all)
    (given_kept view work2 k2 r (one_spent name t work1) gives)

-- there are no more
pub counted-past : (name : Token) (work : Work) (k : Kept) → nat_lt work.counter most_bytes ≡ false → finished k [] (counted name work) ≡ Err (TooMuchWork name.at)
counted-past name work k past = ap (λ (b : Bool). finished k [] (cond b (numbered name work) (Err (TooMuchWork name.at)))) past
