-- Tokens are expanded part by part where no call reaches past the first part.
use Rattle.std.proofs.Common.{◌≡◌, ℕ, zero, suc, ◌+◌, ◌<◌, ◌&&◌, Bool, true, false, cond, List, [], ◌∷◌, ◌++◌, length, map, Option, Some, None, Result, Ok, refl, ap, sym, subst, ◌∙◌, arith, length-append, append_assoc}
use Rattle.std.specs.Option.{option_map}
use Rattle.std.proofs.lemmas.List.{length-map}
use Rattle.std.proofs.lemmas.Option.{none-some, same_Some}
use Rattle.cs_base.specs.Token.{Token}
use Rattle.line_shape.specs.Signs.{is_open}
use Rattle.macro_body.specs.declared.notes.Work.{Work}
use Rattle.macro_body.specs.declared.definitions.Definition.{Definition}
use Rattle.macro_body.specs.Hides.{Hidden, hide_more}
use Rattle.macro_body.specs.Macro.{Table, is_function}
use Rattle.macro_expand.specs.Calls.{Call, Role, Closes, Separates, Belongs, CallFrom, role_of, level_after, fewer, with_token, with_argument, closed, call_step, call_from, commas_of, arguments_of}
use Rattle.macro_body.specs.Notes.{Fault, OpenCall, WrongArguments, Expanded, expanded, put_out, noted, onward}
use Rattle.macro_expand.specs.Expansion.{Setting, Next, one_more, stays, put_for, first_notes, replaced, added_by, called_with, called, behind_name, act, macro_of, step, whole}
use Rattle.macro_expand.specs.Laws.{put_out_after, begins_open, is_callable, ends_callable, ExpandsInParts}
use Rattle.macro_body.proofs.ResultLemmas.{ok_same, err_ok, onward_ok}
use Rattle.macro_expand.proofs.CallLemmas.{option_map_is, AllWithin, none, Shorter, call_shorter, arguments_within}
use Rattle.macro_expand.proofs.StepLemmas.{put_for_puts}
use Rattle.macro_expand.proofs.WholeLemmas.{whole_below_itself, whole_is_step}
use Rattle.macro_expand.proofs.PutOutLemmas.{count_later, count_none}

-- Calls with more tokens behind them.

abbrev with_rest : List Hidden → Call → Call
with_rest ys call = record { arguments = call.arguments; close = call.close; rest = call.rest ++ ys }

step_with_rest : (ys : List Hidden) (role : Role) (commas : Option ℕ) (level : ℕ) (t : Hidden) (ts : List Hidden) (behind behind2 : CallFrom)
    → ((c : Option ℕ) (l : ℕ) (call : Call) → behind c l ≡ Some call → behind2 c l ≡ Some (with_rest ys call))
    → (call : Call) → call_step role commas level t ts behind ≡ Some call → call_step role commas level t (ts ++ ys) behind2 ≡ Some (with_rest ys call)
step_with_rest ys Closes commas level t ts behind behind2 h call e = ap (λ c. Some (with_rest ys c)) (same_Some (closed t ts) call e)
step_with_rest ys Separates commas level t ts behind behind2 h call e =
    let i = option_map_is with_argument (behind (fewer commas) level) call e in
    ap (option_map with_argument) (h (fewer commas) level i.0 i.1) ∙ ap (λ c. Some (with_rest ys c)) i.2
step_with_rest ys Belongs commas level t ts behind behind2 h call e =
    let i = option_map_is (with_token t) (behind commas (level_after t.tok level)) call e in
    ap (option_map (with_token t)) (h commas (level_after t.tok level) i.0 i.1) ∙ ap (λ c. Some (with_rest ys c)) i.2

call_with_rest : (ys ts : List Hidden) (commas : Option ℕ) (level : ℕ) (call : Call) → call_from ts commas level ≡ Some call
    → call_from (ts ++ ys) commas level ≡ Some (with_rest ys call)
unfolding call_from
call_with_rest ys [] commas level call e = absurd (none-some call e)
call_with_rest ys (t ∷ ts) commas level call e =
    step_with_rest ys (role_of commas level t.tok) commas level t ts (call_from ts) (call_from (ts ++ ys)) (call_with_rest ys ts) call e

-- The expansion of both parts.

abbrev both : Expanded → Expanded → Expanded
both x y = expanded (x.toks ++ y.toks) (x.notes ++ y.notes) y.left

-- what is to be shown of tokens that are expanded to x, with ys behind them
abbrev Joins : Setting → ℕ → ℕ → List Hidden → Expanded → Result Expanded Fault → Type 0
Joins set depth before ys x res = (y : Expanded) → (ends_callable set.table x.toks && begins_open ys) ≡ false
    → whole set depth (put_out_after depth before (length x.toks)) ys x.left ≡ Ok y → res ≡ Ok (both x y)

-- so it is with fewer than b tokens and steps of work together
unfoldable JoinsBelow : Setting → List Hidden → ℕ → Type 0
JoinsBelow set ys b = (depth before : ℕ) (xs : List Hidden) (work : Work) (x : Expanded) → work.left + length xs < b
    → whole set depth before xs work ≡ Ok x → Joins set depth before ys x (whole set depth before (xs ++ ys) work)

ends_later : (table : Table) (t : Hidden) (ts ys : List Hidden) → (ends_callable table (t ∷ ts) && begins_open ys) ≡ false → (ends_callable table ts && begins_open ys) ≡ false
ends_later table t [] ys h = refl
ends_later table t (u ∷ us) ys h = h

stays_joins : (set : Setting) (ys : List Hidden) (b : ℕ) → JoinsBelow set ys b → (depth before : ℕ) (t : Hidden) (xs : List Hidden) (work : Work) (x : Expanded)
    → work.left + length xs < b → stays (whole set) depth before t xs work ≡ Ok x → Joins set depth before ys x (stays (whole set) depth before t (xs ++ ys) work)
unfolding JoinsBelow
stays_joins set ys b below depth before t xs work x h is =
    let i = onward_ok {A = Expanded} (whole set depth (one_more depth before) xs work) (λ o. Ok (put_out t o)) x is in
    subst (λ v. Joins set depth before ys v (stays (whole set) depth before t (xs ++ ys) work)) (ok_same (put_out t i.0) x i.2) (λ y apart y_is.
    let k = below depth (one_more depth before) xs work i.0 h i.1 y (ends_later set.table t i.0.toks ys apart)
    (ap (λ n. whole set depth n ys i.0.left) (sym (count_later depth before (length i.0.toks))) ∙ y_is) in
    ap (λ v. onward v (λ o. Ok (put_out t o))) k)

abbrev after : Next → ℕ → ℕ → Token → Definition → List (List ℕ) → List Hidden → Expanded → Result Expanded Fault
after next depth before name m added ts e =
    onward (next depth before (map (hide_more added) e.toks ++ ts) e.left) (λ rest. Ok (noted (first_notes name m before ++ e.notes) rest))

replaced_joins : (set : Setting) (ys : List Hidden) (b : ℕ) → JoinsBelow set ys b → (depth before : ℕ) (name : Token) (m : Definition) (added : List (List ℕ)) (n : ℕ)
    → (raw : List (List Hidden)) → AllWithin n raw → (xs : List Hidden) (work : Work) (x : Expanded) → work.left + n < b → work.left + length xs < b
    → replaced set (whole set) depth before name m added raw xs work ≡ Ok x → Joins set depth before ys x (replaced set (whole set) depth before name m added raw (xs ++ ys) work)
unfolding JoinsBelow
replaced_joins set ys b below depth before name m added n raw within xs work x h h2 is =
    let i = onward_ok {A = Expanded} (put_for m.form set.path (whole set) depth before name m raw work) (after (whole set) depth before name m added xs) x is in
    let list : List Hidden = map (hide_more added) i.0.toks ++ xs in
    let j = onward_ok {A = Expanded} (whole set depth before list i.0.left) (λ rest. Ok (noted (first_notes name m before ++ i.0.notes) rest)) x i.2 in
    let puts = (put_for_puts b (whole set) (whole set) (whole_below_itself set b) m.form set.path depth before name m n raw within work h).falls i.0 i.1 in
    let room : i.0.left.left + length list < b = omega (arith, length-append (map (hide_more added) i.0.toks) xs, length-map i.0.toks (hide_more added)) in
    subst (λ v. Joins set depth before ys v (replaced set (whole set) depth before name m added raw (xs ++ ys) work)) (ok_same (noted (first_notes name m before ++ i.0.notes) j.0) x j.2) (λ y apart y_is.
    let k = below depth before list i.0.left j.0 room j.1 y apart y_is in
    ap (λ v. onward v (after (whole set) depth before name m added (xs ++ ys))) i.1
    ∙ ap (λ l. onward (whole set depth before l i.0.left) (λ rest. Ok (noted (first_notes name m before ++ i.0.notes) rest))) (sym (append_assoc (map (hide_more added) i.0.toks) xs ys))
    ∙ ap (λ v. onward v (λ rest. Ok (noted (first_notes name m before ++ i.0.notes) rest))) k
    ∙ ap (λ notes. Ok (expanded (j.0.toks ++ y.toks) notes y.left)) (sym (append_assoc (first_notes name m before ++ i.0.notes) j.0.notes y.notes)))

called_with_joins : (set : Setting) (ys : List Hidden) (b : ℕ) → JoinsBelow set ys b → (depth before : ℕ) (t : Hidden) (m : Definition) (call : Call) (n : ℕ) (work : Work) → Shorter n call → work.left + n < b
    → (raw : Option (List (List Hidden))) → arguments_of m call.arguments ≡ raw → (x : Expanded) → called_with set (whole set) depth before t m call work raw ≡ Ok x
    → Joins set depth before ys x (called_with set (whole set) depth before t m (with_rest ys call) work raw)
called_with_joins set ys b below depth before t m call n work short h None args_are x is = err_ok (WrongArguments t.tok.at) x is
called_with_joins set ys b below depth before t m call n work short h (Some raw) args_are x is =
    let behind = short.behind in
    replaced_joins set ys b below depth before t.tok m (added_by t call.close) n raw (arguments_within m n call.arguments raw short.each args_are) call.rest work x h (omega arith) is

called_joins : (set : Setting) (ys : List Hidden) (b : ℕ) → JoinsBelow set ys b → (depth before : ℕ) (t : Hidden) (m : Definition) (ts : List Hidden) (work : Work) → work.left + length ts < b
    → (call : Option Call) → call_from ts (commas_of m) 0 ≡ call → (x : Expanded) → called set (whole set) depth before t m work call ≡ Ok x
    → Joins set depth before ys x (called set (whole set) depth before t m work (call_from (ts ++ ys) (commas_of m) 0))
called_joins set ys b below depth before t m ts work h None call_is x is = err_ok (OpenCall t.tok.at) x is
called_joins set ys b below depth before t m ts work h (Some call) call_is x is = λ y apart y_is.
    ap (called set (whole set) depth before t m work) (call_with_rest ys ts (commas_of m) 0 call call_is)
    ∙ called_with_joins set ys b below depth before t m call (length ts) work (call_shorter ts (commas_of m) 0 call call_is) h (arguments_of m call.arguments) refl x is y apart y_is

-- a function-like macro's name at the end
last_joins : (set : Setting) (ys : List Hidden) (depth before : ℕ) (t : Hidden) (m : Definition) (work : Work) (x : Expanded) → macro_of set.table t ≡ Some m → is_function m.form ≡ true
    → stays (whole set) depth before t [] work ≡ Ok x → Joins set depth before ys x (behind_name set (whole set) depth before t m ys work)
last_joins set ys depth before t m work x is_m fn is =
    let i = onward_ok {A = Expanded} (whole set depth (one_more depth before) [] work) (λ o. Ok (put_out t o)) x is in
    let nothing : expanded [] [] work ≡ i.0 = ok_same (expanded [] [] work) i.0 (sym (whole_is_step set depth (one_more depth before) [] work) ∙ i.1) in
    let one : expanded (t ∷ []) [] work ≡ x = ap (put_out t) nothing ∙ ok_same (put_out t i.0) x i.2 in
    subst (λ v. Joins set depth before ys v (behind_name set (whole set) depth before t m ys work)) one (λ y apart y_is.
    let callable : is_callable (macro_of set.table t) ≡ true = ap is_callable is_m ∙ fn in
    let closed_off : begins_open ys ≡ false = ap (λ c. c && begins_open ys) (sym callable) ∙ apart in
    let rest : whole set depth (one_more depth before) ys work ≡ Ok y =
    ap (λ n. whole set depth n ys work) (sym (count_none depth (one_more depth before)) ∙ sym (count_later depth before 0)) ∙ y_is in
    stays_behind ys closed_off ∙ ap (λ v. onward v (λ o. Ok (put_out t o))) rest)
  where
    stays_behind : (zs : List Hidden) → begins_open zs ≡ false → behind_name set (whole set) depth before t m zs work ≡ stays (whole set) depth before t zs work
    stays_behind [] h = refl
    stays_behind (p ∷ zs) h = ap (λ b. cond b (called set (whole set) depth before t m work (call_from zs (commas_of m) 0)) (stays (whole set) depth before t (p ∷ zs) work)) h

cond_joins : (set : Setting) (depth before : ℕ) (ys : List Hidden) (x : Expanded) (b : Bool) (r r2 s s2 : Result Expanded Fault)
    → (r ≡ Ok x → Joins set depth before ys x r2) → (s ≡ Ok x → Joins set depth before ys x s2) → cond b r s ≡ Ok x → Joins set depth before ys x (cond b r2 s2)
cond_joins set depth before ys x true r r2 s s2 h k is = h is
cond_joins set depth before ys x false r r2 s s2 h k is = k is

function_joins : (set : Setting) (ys : List Hidden) (b : ℕ) → JoinsBelow set ys b → (depth before : ℕ) (t : Hidden) (m : Definition) (xs : List Hidden) (work : Work) (x : Expanded)
    → macro_of set.table t ≡ Some m → is_function m.form ≡ true → work.left + length xs < b
    → behind_name set (whole set) depth before t m xs work ≡ Ok x → Joins set depth before ys x (behind_name set (whole set) depth before t m (xs ++ ys) work)
function_joins set ys b below depth before t m [] work x is_m fn h is = last_joins set ys depth before t m work x is_m fn is
function_joins set ys b below depth before t m (p ∷ ts) work x is_m fn h is =
    cond_joins set depth before ys x (is_open p.tok)
    (called set (whole set) depth before t m work (call_from ts (commas_of m) 0)) (called set (whole set) depth before t m work (call_from (ts ++ ys) (commas_of m) 0))
    (stays (whole set) depth before t (p ∷ ts) work) (stays (whole set) depth before t (p ∷ ts ++ ys) work)
    (λ e. called_joins set ys b below depth before t m ts work (omega arith) (call_from ts (commas_of m) 0) refl x e)
    (λ e. stays_joins set ys b below depth before t (p ∷ ts) work x h e) is

act_joins : (set : Setting) (ys : List Hidden) (b : ℕ) → JoinsBelow set ys b → (depth before : ℕ) (t : Hidden) (xs : List Hidden) (work : Work) (x : Expanded) → work.left + length xs < b
    → (m : Option Definition) → macro_of set.table t ≡ m → act set (whole set) depth before t xs work m ≡ Ok x → Joins set depth before ys x (act set (whole set) depth before t (xs ++ ys) work m)
act_joins set ys b below depth before t xs work x h None is_m is = stays_joins set ys b below depth before t xs work x h is
act_joins set ys b below depth before t xs work x h (Some m) is_m is = by (is_function m.form) refl is
  where
    by : (fn : Bool) → is_function m.form ≡ fn
        → cond fn (behind_name set (whole set) depth before t m xs work) (replaced set (whole set) depth before t.tok m (t.hides ++ t.tok.text ∷ []) [] xs work) ≡ Ok x
        → Joins set depth before ys x (act set (whole set) depth before t (xs ++ ys) work (Some m))
    by true fn e = λ y apart y_is.
        ap (λ v. cond v (behind_name set (whole set) depth before t m (xs ++ ys) work) (replaced set (whole set) depth before t.tok m (t.hides ++ t.tok.text ∷ []) [] (xs ++ ys) work)) fn
        ∙ function_joins set ys b below depth before t m xs work x is_m fn h e y apart y_is
    by false fn e = λ y apart y_is.
        ap (λ v. cond v (behind_name set (whole set) depth before t m (xs ++ ys) work) (replaced set (whole set) depth before t.tok m (t.hides ++ t.tok.text ∷ []) [] (xs ++ ys) work)) fn
        ∙ replaced_joins set ys b below depth before t.tok m (t.hides ++ t.tok.text ∷ []) 0 [] none xs work x (omega arith) h e y apart y_is

step_joins : (set : Setting) (ys : List Hidden) (b : ℕ) → JoinsBelow set ys b → (depth before : ℕ) (xs : List Hidden) (work : Work) (x : Expanded) → work.left + length xs < suc b
    → step set (whole set) depth before xs work ≡ Ok x → Joins set depth before ys x (whole set depth before (xs ++ ys) work)
step_joins set ys b below depth before [] work x h is =
    subst (λ v. Joins set depth before ys v (whole set depth before ys work)) (ok_same (expanded [] [] work) x is)
    (λ y apart y_is. ap (λ n. whole set depth n ys work) (sym (count_none depth before)) ∙ y_is)
step_joins set ys b below depth before (t ∷ xs) work x h is = λ y apart y_is.
    whole_is_step set depth before (t ∷ xs ++ ys) work
    ∙ act_joins set ys b below depth before t xs work x (omega arith) (macro_of set.table t) refl is y apart y_is

joins_below : (set : Setting) (ys : List Hidden) (b : ℕ) → JoinsBelow set ys b
unfolding JoinsBelow
joins_below set ys zero = λ depth before xs work x h is. absurd (omega arith)
joins_below set ys (suc b) = λ depth before xs work x h is. step_joins set ys b (joins_below set ys b) depth before xs work x h (sym (whole_is_step set depth before xs work) ∙ is)

-- the law
pub expands_in_parts : ExpandsInParts
unfolding JoinsBelow
expands_in_parts = λ set depth before xs ys work x y is apart y_is.
    let below : (depth before : ℕ) (zs : List Hidden) (work2 : Work) (x : Expanded) → work2.left + length zs < suc (work.left + length xs)
    → whole set depth before zs work2 ≡ Ok x → Joins set depth before ys x (whole set depth before (zs ++ ys) work2) = joins_below set ys (suc (work.left + length xs)) in
    below depth before xs work x (omega arith) is y apart y_is
