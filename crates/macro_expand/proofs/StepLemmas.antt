-- One step of an expansion asks less of the rest: fewer tokens and work together.
use Rattle.std.proofs.Common.{◌≡◌, ℕ, suc, ◌+◌, ◌-◌, ◌<◌, ◌≤◌, Bool, true, false, cond, List, [], ◌∷◌, ◌++◌, length, map, Option, Some, None, Result, Ok, Err, refl, ap, ◌∙◌, arith, length-append, nat_lt}
use Rattle.std.proofs.lemmas.List.{length-map}
use Rattle.std.proofs.lemmas.Bool.{ltb-false}
use Rattle.cs_base.specs.Limits.{most_bytes}
use Rattle.cs_base.specs.Token.{Token}
use Rattle.macro_body.specs.declared.notes.Work.{Work}
use Rattle.macro_body.specs.declared.definitions.Form.{Form}
use Rattle.macro_body.specs.declared.definitions.Form.TheVariants as form
use Rattle.macro_body.specs.declared.definitions.Definition.{Definition}
use Rattle.macro_body.specs.Below.line_shape.Signs.{is_open}
use Rattle.macro_body.specs.Hides.{Hidden, hidden, hide_more}
use Rattle.macro_body.specs.Macro.{is_function}
use Rattle.macro_body.specs.Bodies.{Part, chains_of, occurs_alone}
use Rattle.macro_expand.specs.Calls.{Call, call_from, commas_of, arguments_of}
use Rattle.macro_body.specs.Notes.{Fault, OpenCall, WrongArguments, TooMuchWork, TooDeep, Note, Counted, Expanded, expanded, put_out, noted, onward}
use Rattle.macro_body.specs.Substitution.{Made, made, cost_of, result_of, number_token, line_number, path_string}
use Rattle.macro_expand.specs.Expansion.{Setting, Next, most_depth, one_more, stays, Full, full, with_full, without_full, alone, full_step, full_from, spent, numbered, counted, substituted, put_for, first_notes, replaced, added_by, called_with, called, behind_name, act, macro_of, step}
use Rattle.macro_body.proofs.ResultLemmas.{ok_same, err_ok, onward_ok, onward_agree, cond_ok, cond_ok_yes}
use Rattle.macro_body.proofs.LengthLemmas.{length-result_of}
use Rattle.macro_expand.proofs.CallLemmas.{AllWithin, none, more, Shorter, call_shorter, arguments_within}

-- Two expansions agree, and the work only falls.
pub record Same (work : Work) (r r2 : Result Expanded Fault) : Type 0 where
  pub agree : r ≡ r2
  pub falls : (e : Expanded) → r ≡ Ok e → e.left.left ≤ work.left

-- two expansions agree on fewer than b tokens and steps of work together
unfoldable pub Below : ℕ → Next → Next → Type 0
Below b f g = (depth before : ℕ) (ts : List Hidden) (work : Work) → work.left + length ts < b → Same work (f depth before ts work) (g depth before ts work)

stays_same : (b : ℕ) (f g : Next) → Below b f g → (depth before : ℕ) (t : Hidden) (ts : List Hidden) (work : Work)
    → work.left + length ts < b → Same work (stays f depth before t ts work) (stays g depth before t ts work)
unfolding Below
stays_same b f g below depth before t ts work h =
    let s : Same work (f depth (one_more depth before) ts work) (g depth (one_more depth before) ts work) = below depth (one_more depth before) ts work h in
    record {
      agree = ap (λ r. onward r (λ e. Ok (put_out t e))) s.agree;
      falls = λ e is.
          let i = onward_ok {A = Expanded} (f depth (one_more depth before) ts work) (λ o. Ok (put_out t o)) e is in
          let l : i.0.left.left ≡ e.left.left = ap (λ (o : Expanded). o.left.left) (ok_same (put_out t i.0) e i.2) in
          let w = s.falls i.0 i.1 in
          omega (arith, l);
    }

-- The same for the arguments of a call.
record SameFull (work : Work) (r r2 : Result Full Fault) : Type 0 where
  agree : r ≡ r2
  falls : (f : Full) → r ≡ Ok f → f.left.left ≤ work.left

alone_same : (b : ℕ) (f g : Next) → Below b f g → (depth before : ℕ) (name : Token) (a : List Hidden) (work : Work)
    → work.left + length a < b → Same work (alone f depth before name a work) (alone g depth before name a work)
unfolding Below
alone_same b f g below depth before name a work h =
    let s : Same work (f (suc depth) before a work) (g (suc depth) before a work) = below (suc depth) before a work h in
    record {
      agree = ap (λ r. cond (nat_lt depth most_depth) r (Err (TooDeep name.at))) s.agree;
      falls = λ e is. s.falls e (cond_ok_yes (nat_lt depth most_depth) (TooDeep name.at) (f (suc depth) before a work) e is).1;
    }

full_step_same : (b : ℕ) (f g : Next) → Below b f g → (wanted : Bool) (depth before : ℕ) (name : Token) (a : List Hidden) (work : Work)
    → (rest rest2 : Work → Result Full Fault) → ((w : Work) → w.left ≤ work.left → SameFull w (rest w) (rest2 w)) → work.left + length a < b
    → SameFull work (full_step wanted f depth before name a work rest) (full_step wanted g depth before name a work rest2)
full_step_same b f g below false depth before name a work rest rest2 r h =
    let s = r work (omega arith) in
    record {
      agree = ap (λ v. onward v (λ full. Ok (without_full full))) s.agree;
      falls = λ e is.
          let i = onward_ok {A = Full} (rest work) (λ full. Ok (without_full full)) e is in
          let l : i.0.left.left ≡ e.left.left = ap (λ (o : Full). o.left.left) (ok_same (without_full i.0) e i.2) in
          let w = s.falls i.0 i.1 in
          omega (arith, l);
    }
full_step_same b f g below true depth before name a work rest rest2 r h =
    let s = alone_same b f g below depth before name a work h in
    record {
      agree =
          onward_agree (alone f depth before name a work) (λ e. onward (rest e.left) (λ full. Ok (with_full e full))) (λ e. onward (rest2 e.left) (λ full. Ok (with_full e full)))
          (λ e is. ap (λ v. onward v (λ full. Ok (with_full e full))) (r e.left (s.falls e is)).agree)
          ∙ ap (λ v. onward v (λ e. onward (rest2 e.left) (λ full. Ok (with_full e full)))) s.agree;
      falls = λ e is.
          let i = onward_ok {A = Expanded} (alone f depth before name a work) (λ o. onward (rest o.left) (λ full. Ok (with_full o full))) e is in
          let j = onward_ok {A = Full} (rest i.0.left) (λ full. Ok (with_full i.0 full)) e i.2 in
          let l : j.0.left.left ≡ e.left.left = ap (λ (o : Full). o.left.left) (ok_same (with_full i.0 j.0) e j.2) in
          let w = s.falls i.0 i.1 in
          let w2 = (r i.0.left w).falls j.0 j.1 in
          omega (arith, l);
    }

full_from_same : (b : ℕ) (f g : Next) → Below b f g → (depth before : ℕ) (name : Token) (chains : List (List Part)) (i n : ℕ)
    → (lists : List (List Hidden)) → AllWithin n lists → (work : Work) → work.left + n < b
    → SameFull work (full_from f depth before name chains i lists work) (full_from g depth before name chains i lists work)
full_from_same b f g below depth before name chains i n [] none work h = record {
  agree = refl;
  falls = λ e is. let l : work.left ≡ e.left.left = ap (λ (o : Full). o.left.left) (ok_same (full [] [] work) e is) in omega (arith, l);
}
full_from_same b f g below depth before name chains i n (a ∷ lists) (more here behind) work h =
    full_step_same b f g below (occurs_alone i chains) depth before name a work
    (full_from f depth before name chains (suc i) lists) (full_from g depth before name chains (suc i) lists)
    (λ w le. full_from_same b f g below depth before name chains (suc i) n lists behind w (omega arith)) (omega arith)

-- What is put in, and the work that is left, are together at most the work before.
pub record Puts (work : Work) (r r2 : Result Expanded Fault) : Type 0 where
  pub agree : r ≡ r2
  pub falls : (e : Expanded) → r ≡ Ok e → e.left.left + length e.toks ≤ work.left

spent_puts : (name : Token) (cost : ℕ) (work : Work) (r : Result (Made (List Hidden)) Fault) → ((m : Made (List Hidden)) → r ≡ Ok m → length m.value ≤ cost)
    → Puts work (spent name cost work r) (spent name cost work r)
spent_puts name cost work r short = record {
  agree = refl;
  falls = λ e is.
      let c = cond_ok (nat_lt work.left cost) (TooMuchWork name.at) (onward r (λ m. Ok (expanded m.value m.notes (record work { left = work.left - cost })))) e is in
      let i = onward_ok {A = Made (List Hidden)} r (λ m. Ok (expanded m.value m.notes (record work { left = work.left - cost }))) e c.1 in
      let l : work.left - cost ≡ e.left.left = ap (λ (o : Expanded). o.left.left) (ok_same (expanded i.0.value i.0.notes (record work { left = work.left - cost })) e i.2) in
      let n : length i.0.value ≡ length e.toks = ap (λ (o : Expanded). length o.toks) (ok_same (expanded i.0.value i.0.notes (record work { left = work.left - cost })) e i.2) in
      let le = ltb-false work.left cost c.0 in
      omega (arith, l, n, short i.0 i.1);
}

substituted_puts : (b : ℕ) (f g : Next) → Below b f g → (depth before : ℕ) (name : Token) (m : Definition) (n : ℕ) (raw : List (List Hidden)) → AllWithin n raw
    → (work : Work) → work.left + n < b → Puts work (substituted f depth before name m raw work) (substituted g depth before name m raw work)
substituted_puts b f g below depth before name m n raw within work h =
    let s = full_from_same b f g below depth before name (chains_of m) 0 n raw within work h in
    let made_of : List (List Hidden) → Result (Made (List Hidden)) Fault = λ lists. result_of name (record { raw = raw; full = lists }) (chains_of m) in
    let next : Full → Result Expanded Fault = λ full. onward (spent name (cost_of name (record { raw = raw; full = full.lists }) (chains_of m)) full.left
    (made_of full.lists)) (λ e. Ok (noted full.notes e)) in
    record {
      agree = ap (λ v. onward v next) s.agree;
      falls = λ e is.
          let i = onward_ok {A = Full} (full_from f depth before name (chains_of m) 0 raw work) next e is in
          let cost = cost_of name (record { raw = raw; full = i.0.lists }) (chains_of m) in
          let j = onward_ok {A = Expanded} (spent name cost i.0.left (made_of i.0.lists)) (λ o. Ok (noted i.0.notes o)) e i.2 in
          let l : j.0.left.left + length j.0.toks ≡ e.left.left + length e.toks = ap (λ (o : Expanded). o.left.left + length o.toks) (ok_same (noted i.0.notes j.0) e j.2) in
          let p = spent_puts name cost i.0.left (made_of i.0.lists) (λ v vs. let k = length-result_of name (record { raw = raw; full = i.0.lists }) (chains_of m) v vs in omega (arith, k)) in
          let w = s.falls i.0 i.1 in
          let w2 = p.falls j.0 j.1 in
          omega (arith, l);
    }

one_short : (x : Hidden) (notes : List Note) (m : Made (List Hidden)) → ◌≡◌ {A = Result (Made (List Hidden)) Fault} (Ok (made (x ∷ []) notes)) (Ok m) → length m.value ≤ 1
one_short x notes m e = let l : 1 ≡ length m.value = ap (λ (v : Made (List Hidden)). length v.value) (ok_same (made (x ∷ []) notes) m e) in omega (arith, l)

-- the next number costs one
counted_puts : (name : Token) (work : Work) → Puts work (counted name work) (counted name work)
counted_puts name work = record {
  agree = refl;
  falls = λ e is.
      let c = cond_ok_yes (nat_lt work.counter most_bytes) (TooMuchWork name.at) (numbered name work) e is in
      (spent_puts name 1 (record work { counter = work.counter + 1 }) _ (one_short (hidden (number_token name work.counter) []) (Counted (number_token name work.counter) ∷ []))).falls e c.1;
}

pub put_for_puts : (b : ℕ) (f g : Next) → Below b f g → (form : Form) (path : List ℕ) (depth before : ℕ) (name : Token) (m : Definition) (n : ℕ) (raw : List (List Hidden))
    → AllWithin n raw → (work : Work) → work.left + n < b → Puts work (put_for form path f depth before name m raw work) (put_for form path g depth before name m raw work)
put_for_puts b f g below form.Line path depth before name m n raw within work h = spent_puts name 1 work _ (one_short (hidden (line_number name) []) [])
put_for_puts b f g below form.File path depth before name m n raw within work h = spent_puts name 1 work _ (one_short (hidden (path_string path name) []) [])
put_for_puts b f g below form.Counter path depth before name m n raw within work h = counted_puts name work
put_for_puts b f g below form.Object path depth before name m n raw within work h = substituted_puts b f g below depth before name m n raw within work h
put_for_puts b f g below form.Function path depth before name m n raw within work h = substituted_puts b f g below depth before name m n raw within work h

replaced_same : (set : Setting) (b : ℕ) (f g : Next) → Below b f g → (depth before : ℕ) (name : Token) (m : Definition) (added : List (List ℕ)) (n : ℕ) (raw : List (List Hidden))
    → AllWithin n raw → (ts : List Hidden) (work : Work) → work.left + n < b → work.left + length ts < b
    → Same work (replaced set f depth before name m added raw ts work) (replaced set g depth before name m added raw ts work)
unfolding Below
replaced_same set b f g below depth before name m added n raw within ts work h h2 =
    let p = put_for_puts b f g below m.form set.path depth before name m n raw within work h in
    let after : Next → Expanded → Result Expanded Fault = λ next e.
    onward (next depth before (map (hide_more added) e.toks ++ ts) e.left) (λ rest. Ok (noted (first_notes name m before ++ e.notes) rest)) in
    let room : (e : Expanded) → put_for m.form set.path f depth before name m raw work ≡ Ok e → e.left.left + length (map (hide_more added) e.toks ++ ts) < b =
    λ e is. let w = p.falls e is in omega (arith, length-append (map (hide_more added) e.toks) ts, length-map e.toks (hide_more added)) in
    record {
      agree =
          onward_agree (put_for m.form set.path f depth before name m raw work) (after f) (after g)
          (λ e is. ap (λ v. onward v (λ rest. Ok (noted (first_notes name m before ++ e.notes) rest))) (below depth before (map (hide_more added) e.toks ++ ts) e.left (room e is)).agree)
          ∙ ap (λ v. onward v (after g)) p.agree;
      falls = λ o is.
          let i = onward_ok {A = Expanded} (put_for m.form set.path f depth before name m raw work) (after f) o is in
          let j = onward_ok {A = Expanded} (f depth before (map (hide_more added) i.0.toks ++ ts) i.0.left) (λ rest. Ok (noted (first_notes name m before ++ i.0.notes) rest)) o i.2 in
          let l : j.0.left.left ≡ o.left.left = ap (λ (v : Expanded). v.left.left) (ok_same (noted (first_notes name m before ++ i.0.notes) j.0) o j.2) in
          let w = p.falls i.0 i.1 in
          let w2 = (below depth before (map (hide_more added) i.0.toks ++ ts) i.0.left (room i.0 i.1)).falls j.0 j.1 in
          omega (arith, l);
    }

-- a fault is the same for all
fault_same : (work : Work) (fault : Fault) → Same work (Err fault) (Err fault)
fault_same work fault = record { agree = refl; falls = λ e is. err_ok fault e is }

called_with_same : (set : Setting) (b : ℕ) (f g : Next) → Below b f g → (depth before : ℕ) (t : Hidden) (m : Definition) (call : Call) (n : ℕ) (work : Work)
    → Shorter n call → work.left + n < b → (raw : Option (List (List Hidden))) → arguments_of m call.arguments ≡ raw
    → Same work (called_with set f depth before t m call work raw) (called_with set g depth before t m call work raw)
called_with_same set b f g below depth before t m call n work short h None is = fault_same work (WrongArguments t.tok.at)
called_with_same set b f g below depth before t m call n work short h (Some raw) is =
    let behind = short.behind in
    replaced_same set b f g below depth before t.tok m (added_by t call.close) n raw (arguments_within m n call.arguments raw short.each is) call.rest work h (omega arith)

called_same : (set : Setting) (b : ℕ) (f g : Next) → Below b f g → (depth before : ℕ) (t : Hidden) (m : Definition) (ts : List Hidden) (work : Work)
    → work.left + length ts < b → (call : Option Call) → call_from ts (commas_of m) 0 ≡ call
    → Same work (called set f depth before t m work call) (called set g depth before t m work call)
called_same set b f g below depth before t m ts work h None is = fault_same work (OpenCall t.tok.at)
called_same set b f g below depth before t m ts work h (Some call) is =
    called_with_same set b f g below depth before t m call (length ts) work (call_shorter ts (commas_of m) 0 call is) h (arguments_of m call.arguments) refl

cond_same : (work : Work) (b : Bool) (x x2 y y2 : Result Expanded Fault) → Same work x x2 → Same work y y2 → Same work (cond b x y) (cond b x2 y2)
cond_same work true x x2 y y2 p q = p
cond_same work false x x2 y y2 p q = q

behind_name_same : (set : Setting) (b : ℕ) (f g : Next) → Below b f g → (depth before : ℕ) (t : Hidden) (m : Definition) (ts : List Hidden) (work : Work)
    → work.left + length ts < b → Same work (behind_name set f depth before t m ts work) (behind_name set g depth before t m ts work)
behind_name_same set b f g below depth before t m [] work h = stays_same b f g below depth before t [] work h
behind_name_same set b f g below depth before t m (p ∷ ts) work h =
    cond_same work (is_open p.tok) _ _ _ _
    (called_same set b f g below depth before t m ts work (omega arith) (call_from ts (commas_of m) 0) refl)
    (stays_same b f g below depth before t (p ∷ ts) work h)

act_same : (set : Setting) (b : ℕ) (f g : Next) → Below b f g → (depth before : ℕ) (t : Hidden) (ts : List Hidden) (work : Work) → work.left + length ts < b → (m : Option Definition)
    → Same work (act set f depth before t ts work m) (act set g depth before t ts work m)
act_same set b f g below depth before t ts work h None = stays_same b f g below depth before t ts work h
act_same set b f g below depth before t ts work h (Some m) =
    cond_same work (is_function m.form) _ _ _ _
    (behind_name_same set b f g below depth before t m ts work h)
    (replaced_same set b f g below depth before t.tok m (t.hides ++ t.tok.text ∷ []) 0 [] none ts work (omega arith) h)

step_same : (set : Setting) (b : ℕ) (f g : Next) → Below b f g → (depth before : ℕ) (ts : List Hidden) (work : Work) → work.left + length ts < suc b
    → Same work (step set f depth before ts work) (step set g depth before ts work)
step_same set b f g below depth before [] work h = record {
  agree = refl;
  falls = λ e is. let l : work.left ≡ e.left.left = ap (λ (o : Expanded). o.left.left) (ok_same (expanded [] [] work) e is) in omega (arith, l);
}
step_same set b f g below depth before (t ∷ ts) work h = act_same set b f g below depth before t ts work (omega arith) (macro_of set.table t)

-- one step more
pub step_below : (set : Setting) (b : ℕ) (f g : Next) → Below b f g → Below (suc b) (step set f) (step set g)
unfolding Below
step_below set b f g below = λ depth before ts work h. step_same set b f g below depth before ts work h
