-- An expansion splits at each token that no macro put in.
use Rattle.std.proofs.Common.{◌≡◌, ℕ, zero, suc, ◌+◌, ◌<◌, Bool, true, false, cond, List, [], ◌∷◌, ◌++◌, length, map, Option, Some, None, Result, Ok, refl, ap, sym, subst, ◌∙◌, arith, length-append, append_assoc}
use Rattle.std.specs.Option.{option_map}
use Rattle.std.proofs.lemmas.List.{length-map}
use Rattle.std.proofs.lemmas.Option.{none-some, same_Some}
use Rattle.cs_base.specs.Token.{Token}
use Rattle.line_shape.specs.Signs.{is_open}
use Rattle.macro_body.specs.declared.notes.Work.{Work}
use Rattle.macro_body.specs.declared.definitions.Definition.{Definition}
use Rattle.macro_body.specs.Hides.{Hidden, hide_more}
use Rattle.macro_body.specs.Macro.{is_function}
use Rattle.macro_expand.specs.Calls.{Call, Role, Closes, Separates, Belongs, role_of, level_after, fewer, with_token, with_argument, closed, call_step, call_from, commas_of, arguments_of}
use Rattle.macro_body.specs.Notes.{Fault, OpenCall, WrongArguments, Note, Expanded, expanded, put_out, noted, onward}
use Rattle.macro_expand.specs.Expansion.{Setting, Next, one_more, stays, put_for, first_notes, replaced, added_by, called_with, called, behind_name, act, macro_of, whole}
use Rattle.macro_expand.specs.Laws.{put_out_after, begins_open}
use Rattle.macro_body.proofs.ResultLemmas.{ok_same, err_ok, onward_ok}
use Rattle.macro_expand.proofs.CallLemmas.{option_map_is, AllWithin, none, Shorter, call_shorter, arguments_within}
use Rattle.macro_expand.proofs.StepLemmas.{put_for_puts}
use Rattle.macro_expand.proofs.WholeLemmas.{whole_below_itself, whole_is_step}
use Rattle.macro_expand.proofs.PutOutLemmas.{count_later, count_none}
use Rattle.expansion_laws.proofs.ListLemmas.{AllHidden, hidden_more}
use Rattle.expansion_laws.specs.Splitting.{both, Splits, ExpansionSplits}
use Rattle.expansion_laws.proofs.PutLemmas.{IsPut, put_for_put}

-- ---- calls, whatever follows them

record CallAt (ts : List Hidden) (commas : Option ℕ) (level : ℕ) (call : Call) : Type 0 where
  us : List Hidden
  run : ts ≡ us ++ call.rest
  again : (vs : List Hidden) → call_from (us ++ vs) commas level ≡ Some (record call { rest = vs })

step_cut : (t : Hidden) (ts : List Hidden) (commas : Option ℕ) (level : ℕ) (role : Role) → role_of commas level t.tok ≡ role
    → ((c : Option ℕ) (l : ℕ) (call : Call) → call_from ts c l ≡ Some call → CallAt ts c l call)
    → (call : Call) → call_step role commas level t ts (call_from ts) ≡ Some call → CallAt (t ∷ ts) commas level call
unfolding call_from
step_cut t ts commas level Closes is later call e =
    subst (CallAt (t ∷ ts) commas level) (same_Some (closed t ts) call e)
    (record { us = t ∷ []; run = refl; again = λ vs. ap (λ (r : Role). call_step r commas level t vs (call_from vs)) is })
step_cut t ts commas level Separates is later call e =
    let i = option_map_is with_argument (call_from ts (fewer commas) level) call e in
    let k = later (fewer commas) level i.0 i.1 in
    subst (CallAt (t ∷ ts) commas level) i.2
    (record {
      us = t ∷ k.us;
      run = ap (λ (l : List Hidden). t ∷ l) k.run;
      again = λ vs. ap (λ (r : Role). call_step r commas level t (k.us ++ vs) (call_from (k.us ++ vs))) is ∙ ap (option_map with_argument) (k.again vs);
    })
step_cut t ts commas level Belongs is later call e =
    let i = option_map_is (with_token t) (call_from ts commas (level_after t.tok level)) call e in
    let k = later commas (level_after t.tok level) i.0 i.1 in
    subst (CallAt (t ∷ ts) commas level) i.2
    (record {
      us = t ∷ k.us;
      run = ap (λ (l : List Hidden). t ∷ l) k.run;
      again = λ vs. ap (λ (r : Role). call_step r commas level t (k.us ++ vs) (call_from (k.us ++ vs))) is ∙ ap (option_map (with_token t)) (k.again vs);
    })

call_cut : (ts : List Hidden) (commas : Option ℕ) (level : ℕ) (call : Call) → call_from ts commas level ≡ Some call → CallAt ts commas level call
unfolding call_from
call_cut [] commas level call e = absurd (none-some call e)
call_cut (t ∷ ts) commas level call e = step_cut t ts commas level (role_of commas level t.tok) refl (call_cut ts) call e

-- ---- a direct token stands behind what was put in

put_direct : (u t : Hidden) → u.tok.direct ≡ false → t.tok.direct ≡ true → u ≡ t → ⊥
put_direct u t h d same =
    let no : true ≡ false = sym d ∙ ap (λ (v : Hidden). v.tok.direct) (sym same) ∙ h in
    absurd cc

pub first_same : (u t : Hidden) (us ts : List Hidden) → u ∷ us ≡ t ∷ ts → u ≡ t
first_same u t us ts e = cc

pub rest_same : (u t : Hidden) (us ts : List Hidden) → u ∷ us ≡ t ∷ ts → us ≡ ts
rest_same u t us ts e = cc

put_apart : (us ts xs ys : List Hidden) (t : Hidden) → AllHidden IsPut us → t.tok.direct ≡ true → us ++ ts ≡ xs ++ t ∷ ys
    → (zs : List Hidden) × (xs ≡ us ++ zs) × (ts ≡ zs ++ t ∷ ys)
put_apart [] ts xs ys t h d e = (xs, refl, e)
put_apart (u ∷ us) ts [] ys t h d e = absurd (put_direct u t h.0 d (first_same u t (us ++ ts) ys e))
put_apart (u ∷ us) ts (x ∷ xs) ys t h d e =
    let k = put_apart us ts xs ys t h.1 d (rest_same u x (us ++ ts) (xs ++ t ∷ ys) e) in
    let same : x ≡ u = sym (first_same u x (us ++ ts) (xs ++ t ∷ ys) e) in
    (k.0, ap (λ (l : List Hidden). x ∷ l) k.1 ∙ ap (λ (v : Hidden). v ∷ (us ++ k.0)) same, k.2)

-- ---- counts

-- ---- the law

-- what is to be shown of tokens that are expanded to e
abbrev SplitsAll : Setting → ℕ → ℕ → (List Hidden → Result Expanded Fault) → List Hidden → Expanded → Type 0
SplitsAll set depth before expand ts e = (ex : List Hidden) (t : Hidden) (ey : List Hidden) → e.toks ≡ ex ++ t ∷ ey → t.tok.direct ≡ true
    → Splits set depth before expand ts e ex t ey

-- so it is with fewer than b tokens and steps of work together
unfoldable SplitsBelow : Setting → ℕ → Type 0
SplitsBelow set b = (depth before : ℕ) (ts : List Hidden) (work : Work) (e : Expanded) → work.left + length ts < b
    → whole set depth before ts work ≡ Ok e → SplitsAll set depth before (λ xs. whole set depth before xs work) ts e

-- behind tokens that are read first
behind_splits : (set : Setting) (depth before : ℕ) (us : List Hidden) (f g : List Hidden → Result Expanded Fault) → ((vs : List Hidden) → g (us ++ vs) ≡ f vs)
    → (ts : List Hidden) (e : Expanded) → SplitsAll set depth before f ts e → SplitsAll set depth before g (us ++ ts) e
behind_splits set depth before us f g same ts e splits ex t ey is d =
    let s = splits ex t ey is d in
    record {
      xs = us ++ s.xs;
      ys = s.ys;
      x = s.x;
      z = s.z;
      run = ap (λ (l : List Hidden). us ++ l) s.run ∙ sym (append_assoc us s.xs (t ∷ s.ys));
      first = same s.xs ∙ s.first;
      stays = s.stays;
      behind = s.behind;
      toks = s.toks;
      more = s.more;
      all = s.all;
      composes = λ vs y y_is. ap g (append_assoc us s.xs (t ∷ vs)) ∙ same (s.xs ++ t ∷ vs) ∙ s.composes vs y y_is;
    }

-- a token that stays

open_front : (xs ys : List Hidden) (t : Hidden) → begins_open (xs ++ t ∷ ys) ≡ false → begins_open xs ≡ false
open_front [] ys t h = refl
open_front (x ∷ xs) ys t h = h

open_same : (xs ys vs : List Hidden) (t : Hidden) → begins_open (xs ++ t ∷ ys) ≡ false → begins_open (xs ++ t ∷ vs) ≡ false
open_same [] ys vs t h = h
open_same (x ∷ xs) ys vs t h = h

-- it stays before whatever begins with no `(` where what follows it does not
abbrev Stays : Setting → ℕ → ℕ → Hidden → List Hidden → Work → Type 0
Stays set depth before t ts work = (vs : List Hidden) → (begins_open ts ≡ false → begins_open vs ≡ false)
    → whole set depth before (t ∷ vs) work ≡ stays (whole set) depth before t vs work

put_more : (t : Hidden) (r : Result Expanded Fault) (x : Expanded) → r ≡ Ok x → onward r (λ o. Ok (put_out t o)) ≡ Ok (put_out t x)
put_more t r x is = ap (λ (v : Result Expanded Fault). onward v (λ o. Ok (put_out t o))) is

stays_splits : (set : Setting) (b : ℕ) → SplitsBelow set b → (depth before : ℕ) (t : Hidden) (ts : List Hidden) (work : Work) (e : Expanded) → work.left + length ts < b
    → Stays set depth before t ts work → whole set depth before (t ∷ ts) work ≡ Ok e → SplitsAll set depth before (λ xs. whole set depth before xs work) (t ∷ ts) e
unfolding SplitsBelow
stays_splits set b below depth before t ts work e h stay is [] t0 ey toks_are d =
    let i = onward_ok {A = Expanded} (whole set depth (one_more depth before) ts work) (λ o. Ok (put_out t o)) e (sym (stay ts (λ k. k)) ∙ is) in
    let e_is : put_out t i.0 ≡ e = ok_same (put_out t i.0) e i.2 in
    let list : t ∷ i.0.toks ≡ t0 ∷ ey = ap (λ (v : Expanded). v.toks) e_is ∙ toks_are in
    let same : t ≡ t0 = first_same t t0 i.0.toks ey list in
    let one : put_out_after depth before 1 ≡ one_more depth before = count_later depth before 0 ∙ count_none depth (one_more depth before) in
    record {
      xs = [];
      ys = ts;
      x = expanded [] [] work;
      z = i.0;
      run = ap (λ (v : Hidden). v ∷ ts) same;
      first = whole_is_step set depth before [] work;
      stays =
          ap (λ n. whole set depth n (t0 ∷ ts) work) (count_none depth before) ∙ ap (λ (v : Hidden). whole set depth before (v ∷ ts) work) (sym same)
          ∙ is ∙ ap (λ (v : Expanded). Ok v) (sym e_is) ∙ ap (λ (v : Hidden). Ok (put_out v i.0)) same;
      behind = ap (λ n. whole set depth n ts work) one ∙ i.1;
      toks = refl;
      more = rest_same t t0 i.0.toks ey list;
      all = sym e_is ∙ ap (λ (v : Hidden). put_out v i.0) same;
      composes = λ vs y y_is. ap (λ n. whole set depth n (t0 ∷ vs) work) (sym (count_none depth before)) ∙ y_is;
    }
stays_splits set b below depth before t ts work e h stay is (u ∷ ex) t0 ey toks_are d =
    let i = onward_ok {A = Expanded} (whole set depth (one_more depth before) ts work) (λ o. Ok (put_out t o)) e (sym (stay ts (λ k. k)) ∙ is) in
    let e_is : put_out t i.0 ≡ e = ok_same (put_out t i.0) e i.2 in
    let list : t ∷ i.0.toks ≡ u ∷ (ex ++ t0 ∷ ey) = ap (λ (v : Expanded). v.toks) e_is ∙ toks_are in
    let same : t ≡ u = first_same t u i.0.toks (ex ++ t0 ∷ ey) list in
    let s = below depth (one_more depth before) ts work i.0 h i.1 ex t0 ey (rest_same t u i.0.toks (ex ++ t0 ∷ ey) list) d in
    let later : put_out_after depth before (suc (length s.x.toks)) ≡ put_out_after depth (one_more depth before) (length s.x.toks) = count_later depth before (length s.x.toks) in
    let later2 : put_out_after depth before (suc (suc (length s.x.toks))) ≡ put_out_after depth (one_more depth before) (suc (length s.x.toks)) = count_later depth before (suc (length s.x.toks)) in
    let begins : begins_open ts ≡ begins_open (s.xs ++ t0 ∷ s.ys) = ap begins_open s.run in
    record {
      xs = t ∷ s.xs;
      ys = s.ys;
      x = put_out t s.x;
      z = s.z;
      run = ap (λ (l : List Hidden). t ∷ l) s.run;
      first = stay s.xs (λ k. open_front s.xs s.ys t0 (sym begins ∙ k)) ∙ put_more t (whole set depth (one_more depth before) s.xs work) s.x s.first;
      stays = ap (λ n. whole set depth n (t0 ∷ s.ys) s.x.left) later ∙ s.stays;
      behind = ap (λ n. whole set depth n s.ys s.x.left) later2 ∙ s.behind;
      toks = ap (λ (l : List Hidden). t ∷ l) s.toks ∙ ap (λ (v : Hidden). v ∷ ex) same;
      more = s.more;
      all = sym e_is ∙ ap (put_out t) s.all;
      composes = λ vs y y_is.
          stay (s.xs ++ t0 ∷ vs) (λ k. open_same s.xs s.ys vs t0 (sym begins ∙ k))
          ∙ put_more t (whole set depth (one_more depth before) (s.xs ++ t0 ∷ vs) work) (both s.x y)
          (s.composes vs y (ap (λ n. whole set depth n (t0 ∷ vs) s.x.left) (sym later) ∙ y_is));
    }

-- a replacement

abbrev after : Next → ℕ → ℕ → Token → Definition → List (List ℕ) → List Hidden → Expanded → Result Expanded Fault
after next depth before name m added ts e =
    onward (next depth before (map (hide_more added) e.toks ++ ts) e.left) (λ rest. Ok (noted (first_notes name m before ++ e.notes) rest))

note_more : (notes : List Note) (r : Result Expanded Fault) (x : Expanded) → r ≡ Ok x → onward r (λ rest. Ok (noted notes rest)) ≡ Ok (noted notes x)
note_more notes r x is = ap (λ (v : Result Expanded Fault). onward v (λ rest. Ok (noted notes rest))) is

replaced_splits : (set : Setting) (b : ℕ) → SplitsBelow set b → (depth before : ℕ) (name : Token) (m : Definition) (added : List (List ℕ)) (n : ℕ)
    → (raw : List (List Hidden)) → AllWithin n raw → (ts : List Hidden) (work : Work) (e : Expanded) → work.left + n < b → work.left + length ts < b
    → replaced set (whole set) depth before name m added raw ts work ≡ Ok e
    → SplitsAll set depth before (λ vs. replaced set (whole set) depth before name m added raw vs work) ts e
unfolding SplitsBelow
replaced_splits set b below depth before name m added n raw within ts work e h h2 is ex t ey toks_are d =
    let i = onward_ok {A = Expanded} (put_for m.form set.path (whole set) depth before name m raw work) (after (whole set) depth before name m added ts) e is in
    let put : List Hidden = map (hide_more added) i.0.toks in
    let notes : List Note = first_notes name m before ++ i.0.notes in
    let j = onward_ok {A = Expanded} (whole set depth before (put ++ ts) i.0.left) (λ rest. Ok (noted notes rest)) e i.2 in
    let e_is : noted notes j.0 ≡ e = ok_same (noted notes j.0) e j.2 in
    let puts = (put_for_puts b (whole set) (whole set) (whole_below_itself set b) m.form set.path depth before name m n raw within work h).falls i.0 i.1 in
    let room : i.0.left.left + length (put ++ ts) < b = omega (arith, length-append put ts, length-map i.0.toks (hide_more added)) in
    let s = below depth before (put ++ ts) i.0.left j.0 room j.1 ex t ey (ap (λ (v : Expanded). v.toks) e_is ∙ toks_are) d in
    let all_put : AllHidden IsPut put = hidden_more IsPut added i.0.toks (put_for_put m.form set.path (whole set) depth before name m raw work i.0 i.1) in
    let p = put_apart put ts s.xs s.ys t all_put d s.run in
    let zs : List Hidden = p.0 in
    let first_is : whole set depth before (put ++ zs) i.0.left ≡ Ok s.x = ap (λ (l : List Hidden). whole set depth before l i.0.left) (sym p.1) ∙ s.first in
    record {
      xs = zs;
      ys = s.ys;
      x = noted notes s.x;
      z = s.z;
      run = p.2;
      first =
          ap (λ (v : Result Expanded Fault). onward v (after (whole set) depth before name m added zs)) i.1
          ∙ note_more notes (whole set depth before (put ++ zs) i.0.left) s.x first_is;
      stays = s.stays;
      behind = s.behind;
      toks = s.toks;
      more = s.more;
      all = sym e_is ∙ ap (noted notes) s.all ∙ ap (λ (l : List Note). expanded (s.x.toks ++ t ∷ s.z.toks) l s.z.left) (sym (append_assoc notes s.x.notes s.z.notes));
      composes = λ vs y y_is.
          let list : put ++ (zs ++ t ∷ vs) ≡ s.xs ++ t ∷ vs = sym (append_assoc put zs (t ∷ vs)) ∙ ap (λ (l : List Hidden). l ++ t ∷ vs) (sym p.1) in
          ap (λ (v : Result Expanded Fault). onward v (after (whole set) depth before name m added (zs ++ t ∷ vs))) i.1
          ∙ note_more notes (whole set depth before (put ++ (zs ++ t ∷ vs)) i.0.left) (both s.x y)
          (ap (λ (l : List Hidden). whole set depth before l i.0.left) list ∙ s.composes vs y y_is)
          ∙ ap (λ (l : List Note). Ok (expanded (s.x.toks ++ y.toks) l y.left)) (sym (append_assoc notes s.x.notes y.notes));
    }

-- a call

called_with_splits : (set : Setting) (b : ℕ) → SplitsBelow set b → (depth before : ℕ) (t : Hidden) (m : Definition) (call : Call) (n : ℕ) (work : Work) → Shorter n call → work.left + n < b
    → (raw : Option (List (List Hidden))) → arguments_of m call.arguments ≡ raw → (e : Expanded) → called_with set (whole set) depth before t m call work raw ≡ Ok e
    → SplitsAll set depth before (λ vs. called_with set (whole set) depth before t m (record call { rest = vs }) work raw) call.rest e
called_with_splits set b below depth before t m call n work short h None args_are e is = err_ok (WrongArguments t.tok.at) e is
called_with_splits set b below depth before t m call n work short h (Some raw) args_are e is =
    let behind = short.behind in
    replaced_splits set b below depth before t.tok m (added_by t call.close) n raw (arguments_within m n call.arguments raw short.each args_are) call.rest work e h (omega arith) is

called_splits : (set : Setting) (b : ℕ) → SplitsBelow set b → (depth before : ℕ) (t p : Hidden) (m : Definition) (ts : List Hidden) (work : Work) → work.left + length ts < b
    → ((vs : List Hidden) → whole set depth before (t ∷ p ∷ vs) work ≡ called set (whole set) depth before t m work (call_from vs (commas_of m) 0))
    → (call : Option Call) → call_from ts (commas_of m) 0 ≡ call → (e : Expanded) → called set (whole set) depth before t m work call ≡ Ok e
    → SplitsAll set depth before (λ xs. whole set depth before xs work) (t ∷ p ∷ ts) e
called_splits set b below depth before t p m ts work h goes None call_is e is = err_ok (OpenCall t.tok.at) e is
called_splits set b below depth before t p m ts work h goes (Some call) call_is e is =
    let k = call_cut ts (commas_of m) 0 call call_is in
    let f : List Hidden → Result Expanded Fault = λ vs. called_with set (whole set) depth before t m (record call { rest = vs }) work (arguments_of m call.arguments) in
    let here = called_with_splits set b below depth before t m call (length ts) work (call_shorter ts (commas_of m) 0 call call_is) h (arguments_of m call.arguments) refl e is in
    let all = behind_splits set depth before (t ∷ p ∷ k.us) f (λ xs. whole set depth before xs work)
    (λ vs. goes (k.us ++ vs) ∙ ap (called set (whole set) depth before t m work) (k.again vs)) call.rest e here in
    subst (λ (l : List Hidden). SplitsAll set depth before (λ xs. whole set depth before xs work) (t ∷ p ∷ l) e) (sym k.run) all

-- a function-like macro's name

behind_goes : (set : Setting) (depth before : ℕ) (t : Hidden) (m : Definition) (work : Work) → macro_of set.table t ≡ Some m → is_function m.form ≡ true
    → (vs : List Hidden) → whole set depth before (t ∷ vs) work ≡ behind_name set (whole set) depth before t m vs work
behind_goes set depth before t m work is_m fn vs =
    whole_is_step set depth before (t ∷ vs) work
    ∙ ap (act set (whole set) depth before t vs work) is_m
    ∙ ap (λ (v : Bool). cond v (behind_name set (whole set) depth before t m vs work) (replaced set (whole set) depth before t.tok m (t.hides ++ t.tok.text ∷ []) [] vs work)) fn

closed_goes : (set : Setting) (depth before : ℕ) (t : Hidden) (m : Definition) (work : Work) → macro_of set.table t ≡ Some m → is_function m.form ≡ true
    → (vs : List Hidden) → begins_open vs ≡ false → whole set depth before (t ∷ vs) work ≡ stays (whole set) depth before t vs work
closed_goes set depth before t m work is_m fn [] shut = behind_goes set depth before t m work is_m fn []
closed_goes set depth before t m work is_m fn (p ∷ vs) shut =
    behind_goes set depth before t m work is_m fn (p ∷ vs)
    ∙ ap (λ (v : Bool). cond v (called set (whole set) depth before t m work (call_from vs (commas_of m) 0)) (stays (whole set) depth before t (p ∷ vs) work)) shut

open_goes : (set : Setting) (depth before : ℕ) (t p : Hidden) (m : Definition) (work : Work) → macro_of set.table t ≡ Some m → is_function m.form ≡ true → is_open p.tok ≡ true
    → (vs : List Hidden) → whole set depth before (t ∷ p ∷ vs) work ≡ called set (whole set) depth before t m work (call_from vs (commas_of m) 0)
open_goes set depth before t p m work is_m fn opens vs =
    behind_goes set depth before t m work is_m fn (p ∷ vs)
    ∙ ap (λ (v : Bool). cond v (called set (whole set) depth before t m work (call_from vs (commas_of m) 0)) (stays (whole set) depth before t (p ∷ vs) work)) opens

function_splits : (set : Setting) (b : ℕ) → SplitsBelow set b → (depth before : ℕ) (t : Hidden) (m : Definition) (ts : List Hidden) (work : Work) (e : Expanded)
    → macro_of set.table t ≡ Some m → is_function m.form ≡ true → work.left + length ts < b
    → whole set depth before (t ∷ ts) work ≡ Ok e → SplitsAll set depth before (λ xs. whole set depth before xs work) (t ∷ ts) e
function_splits set b below depth before t m [] work e is_m fn h is =
    stays_splits set b below depth before t [] work e h (λ vs k. closed_goes set depth before t m work is_m fn vs (k refl)) is
function_splits set b below depth before t m (p ∷ ts) work e is_m fn h is = by (is_open p.tok) refl
  where
    by : (v : Bool) → is_open p.tok ≡ v → SplitsAll set depth before (λ xs. whole set depth before xs work) (t ∷ p ∷ ts) e
    by true opens =
        called_splits set b below depth before t p m ts work (omega arith) (open_goes set depth before t p m work is_m fn opens) (call_from ts (commas_of m) 0) refl e
        (sym (open_goes set depth before t p m work is_m fn opens ts) ∙ is)
    by false shut =
        stays_splits set b below depth before t (p ∷ ts) work e h (λ vs k. closed_goes set depth before t m work is_m fn vs (k shut)) is

act_splits : (set : Setting) (b : ℕ) → SplitsBelow set b → (depth before : ℕ) (t : Hidden) (ts : List Hidden) (work : Work) (e : Expanded) → work.left + length ts < b
    → (m : Option Definition) → macro_of set.table t ≡ m → whole set depth before (t ∷ ts) work ≡ Ok e
    → SplitsAll set depth before (λ xs. whole set depth before xs work) (t ∷ ts) e
act_splits set b below depth before t ts work e h None is_m is =
    stays_splits set b below depth before t ts work e h
    (λ vs k. whole_is_step set depth before (t ∷ vs) work ∙ ap (act set (whole set) depth before t vs work) is_m) is
act_splits set b below depth before t ts work e h (Some m) is_m is = by (is_function m.form) refl
  where
    f : List Hidden → Result Expanded Fault
    f vs = replaced set (whole set) depth before t.tok m (t.hides ++ t.tok.text ∷ []) [] vs work

    goes : is_function m.form ≡ false → (vs : List Hidden) → whole set depth before (t ∷ vs) work ≡ f vs
    goes fn vs =
        whole_is_step set depth before (t ∷ vs) work ∙ ap (act set (whole set) depth before t vs work) is_m
        ∙ ap (λ (v : Bool). cond v (behind_name set (whole set) depth before t m vs work) (f vs)) fn

    by : (fn : Bool) → is_function m.form ≡ fn → SplitsAll set depth before (λ xs. whole set depth before xs work) (t ∷ ts) e
    by true fn = function_splits set b below depth before t m ts work e is_m fn h is
    by false fn =
        behind_splits set depth before (t ∷ []) f (λ xs. whole set depth before xs work) (goes fn) ts e
        (replaced_splits set b below depth before t.tok m (t.hides ++ t.tok.text ∷ []) 0 [] none ts work e (omega arith) h (sym (goes fn ts) ∙ is))

nothing_splits : (set : Setting) (depth before : ℕ) (work : Work) (e : Expanded) → whole set depth before [] work ≡ Ok e → SplitsAll set depth before (λ xs. whole set depth before xs work) [] e
nothing_splits set depth before work e is ex t ey toks_are d =
    let e_is : expanded [] [] work ≡ e = ok_same (expanded [] [] work) e (sym (whole_is_step set depth before [] work) ∙ is) in
    let list : [] ≡ ex ++ t ∷ ey = ap (λ (v : Expanded). v.toks) e_is ∙ toks_are in
    let n : 0 ≡ length ex + suc (length ey) = ap length list ∙ length-append ex (t ∷ ey) in
    absurd (omega arith)

step_splits : (set : Setting) (b : ℕ) → SplitsBelow set b → (depth before : ℕ) (ts : List Hidden) (work : Work) (e : Expanded) → work.left + length ts < suc b
    → whole set depth before ts work ≡ Ok e → SplitsAll set depth before (λ xs. whole set depth before xs work) ts e
step_splits set b below depth before [] work e h is = nothing_splits set depth before work e is
step_splits set b below depth before (t ∷ ts) work e h is = act_splits set b below depth before t ts work e (omega arith) (macro_of set.table t) refl is

splits_below : (set : Setting) (b : ℕ) → SplitsBelow set b
unfolding SplitsBelow
splits_below set zero = λ depth before ts work e h is. absurd (omega arith)
splits_below set (suc b) = λ depth before ts work e h is. step_splits set b (splits_below set b) depth before ts work e h is

pub expansion_splits : ExpansionSplits
unfolding SplitsBelow
expansion_splits = λ set depth before ts work e ex t ey is toks_are d.
    let below : (depth before : ℕ) (zs : List Hidden) (work2 : Work) (e : Expanded) → work2.left + length zs < suc (work.left + length ts)
    → whole set depth before zs work2 ≡ Ok e → SplitsAll set depth before (λ xs. whole set depth before xs work2) zs e = splits_below set (suc (work.left + length ts)) in
    below depth before ts work e (omega arith) is ex t ey toks_are d
