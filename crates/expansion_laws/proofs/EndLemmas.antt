-- The first and the last token of an expansion.
use Rattle.std.proofs.Common.{◌≡◌, ℕ, zero, suc, ◌+◌, ◌-◌, ◌<◌, slice_get, unwrap_or, Bool, true, false, cond, inl, inr, ◌&&◌, List, [], ◌∷◌, ◌++◌, length, map, Option, Some, None, Result, Ok, refl, ap, sym, subst, ◌∙◌, arith, length-append, append_assoc}
use Rattle.std.proofs.lemmas.List.{length-map, map-append}
use Rattle.std.proofs.lemmas.Bool.{cases_Bool}
use Rattle.std.proofs.lemmas.Option.{none-some, same_Some}
use Rattle.cs_base.specs.Token.{Token}
use Rattle.line_shape.specs.Signs.{is_name, is_open, is_close, is_comma}
use Rattle.macro_body.specs.declared.notes.Work.{Work}
use Rattle.macro_body.specs.declared.definitions.Definition.{Definition}
use Rattle.macro_body.specs.Hides.{Hidden, hidden, hide_more, unhidden, toks_of}
use Rattle.macro_body.specs.Macro.{is_function}
use Rattle.macro_expand.specs.Calls.{Call, Role, Closes, Separates, Belongs, role_of, level_after, fewer, with_token, with_argument, closed, call_step, call_from, commas_of, separates, arguments_of}
use Rattle.macro_body.specs.Notes.{Fault, OpenCall, WrongArguments, Note, Expanded, expanded, put_out, noted, onward}
use Rattle.macro_expand.specs.Expansion.{Setting, Next, one_more, stays, put_for, first_notes, replaced, added_by, called_with, called, behind_name, act, macro_of, whole}
use Rattle.macro_body.proofs.ResultLemmas.{ok_same, err_ok, onward_ok}
use Rattle.macro_expand.proofs.CallLemmas.{option_map_is, AllWithin, none, Shorter, call_shorter, arguments_within}
use Rattle.macro_expand.proofs.StepLemmas.{put_for_puts}
use Rattle.macro_expand.proofs.WholeLemmas.{whole_below_itself, whole_is_step}
use Rattle.macro_expand.proofs.PutOutLemmas.{no_macro}
use Rattle.expansion_laws.specs.Ends.{FirstStays, LastStays, FirstPasses, LastPasses, NamesPass, ClosesPass, ExpansionsEndAlike}

-- ---- no macro replaces a token that is no name

token_stays : (set : Setting) (depth before : ℕ) (t : Hidden) (ts : List Hidden) (work : Work) → is_name t.tok ≡ false
    → whole set depth before (t ∷ ts) work ≡ stays (whole set) depth before t ts work
token_stays set depth before t ts work h = whole_is_step set depth before (t ∷ ts) work ∙ ap (act set (whole set) depth before t ts work) (no_macro set.table t h)

pub first_stays : FirstStays
first_stays = λ set depth before t ts work e no_name is.
    let i = onward_ok {A = Expanded} (whole set depth (one_more depth before) ts work) (λ o. Ok (put_out t o)) e (sym (token_stays set depth before t ts work no_name) ∙ is) in
    (i.0.toks, sym (ap (λ (v : Expanded). v.toks) (ok_same (put_out t i.0) e i.2)))

-- ---- the last token

-- these tokens end with it
abbrev EndsWith : Hidden → List Hidden → Type 0
EndsWith t ts = (zs : List Hidden) × (ts ≡ zs ++ t ∷ [])

ends_behind : (t : Hidden) (us ts : List Hidden) → EndsWith t ts → EndsWith t (us ++ ts)
ends_behind t us ts e = (us ++ e.0, ap (λ (l : List Hidden). us ++ l) e.1 ∙ sym (append_assoc us e.0 (t ∷ [])))

-- so does what stands behind one more token, where something does
ends_rest : (t u v : Hidden) (ts zs : List Hidden) → u ∷ v ∷ ts ≡ zs ++ t ∷ [] → EndsWith t (v ∷ ts)
ends_rest t u v ts [] e = let n = ap length e in absurd (omega (arith, n))
ends_rest t u v ts (z ∷ zs) e = (zs, ap tail e)
  where
    tail : List Hidden → List Hidden
    tail [] = []
    tail (x ∷ xs) = xs

-- one token that ends with it is it
ends_one : (t u : Hidden) (zs : List Hidden) → u ∷ [] ≡ zs ++ t ∷ [] → u ≡ t
ends_one t u [] e = ap head e
  where
    head : List Hidden → Hidden
    head [] = u
    head (x ∷ xs) = x
ends_one t u (z ∷ zs) e = let n = ap length e ∙ ap (λ (k : ℕ). suc k) (length-append zs (t ∷ [])) in absurd (omega (arith, n))

-- ---- calls

-- the `)` of a call is one
closes_close : (commas : Option ℕ) (level : ℕ) (u : Token) → role_of commas level u ≡ Closes → is_close u ≡ true
closes_close commas (suc level) u is = absurd cc
closes_close commas zero u is = elim (cases_Bool (is_close u)) [
  | inl close ↦ close
  | inr other ↦ absurd (not_closes (is_comma u && separates commas) (rw other at is))
]
  where
    not_closes : (b : Bool) → cond b Separates Belongs ≡ Closes → ⊥
    not_closes true e = cc
    not_closes false e = cc

-- one token makes a call where it is the `)`
one_call : (t u : Hidden) (commas : Option ℕ) (level : ℕ) (call : Call) (role : Role) → is_close t.tok ≡ false → u ≡ t → role_of commas level u.tok ≡ role
    → call_step role commas level u [] (call_from []) ≡ Some call → ⊥
unfolding call_from
one_call t u commas level call Closes no_close one is e =
    let nost : true ≡ false = sym (closes_close commas level u.tok is) ∙ ap (λ (v : Hidden). is_close v.tok) one ∙ no_close in
    absurd cc
one_call t u commas level call Separates no_close one is e = none-some call e
one_call t u commas level call Belongs no_close one is e = none-some call e

step_ends : (t u v : Hidden) (ts : List Hidden) (commas : Option ℕ) (level : ℕ) (role : Role) → EndsWith t (v ∷ ts)
    → ((c : Option ℕ) (l : ℕ) (call : Call) → call_from (v ∷ ts) c l ≡ Some call → EndsWith t call.rest)
    → (call : Call) → call_step role commas level u (v ∷ ts) (call_from (v ∷ ts)) ≡ Some call → EndsWith t call.rest
step_ends t u v ts commas level Closes ends later call e = subst (λ (c : Call). EndsWith t c.rest) (same_Some (closed u (v ∷ ts)) call e) ends
step_ends t u v ts commas level Separates ends later call e =
    let i = option_map_is with_argument (call_from (v ∷ ts) (fewer commas) level) call e in
    subst (λ (c : Call). EndsWith t c.rest) i.2 (later (fewer commas) level i.0 i.1)
step_ends t u v ts commas level Belongs ends later call e =
    let i = option_map_is (with_token u) (call_from (v ∷ ts) commas (level_after u.tok level)) call e in
    subst (λ (c : Call). EndsWith t c.rest) i.2 (later commas (level_after u.tok level) i.0 i.1)

call_ends : (t : Hidden) → is_close t.tok ≡ false → (ts : List Hidden) (commas : Option ℕ) (level : ℕ) (call : Call) → EndsWith t ts → call_from ts commas level ≡ Some call → EndsWith t call.rest
unfolding call_from
call_ends t no_close [] commas level call ends e = absurd (none-some call e)
call_ends t no_close (u ∷ []) commas level call ends e =
    absurd (one_call t u commas level call (role_of commas level u.tok) no_close (ends_one t u ends.0 ends.1) refl e)
call_ends t no_close (u ∷ v ∷ ts) commas level call ends e =
    let rest = ends_rest t u v ts ends.0 ends.1 in
    step_ends t u v ts commas level (role_of commas level u.tok) rest (λ c l k is. call_ends t no_close (v ∷ ts) c l k rest is) call e

-- ---- steps

-- so it is with fewer than b tokens and steps of work together
unfoldable LastBelow : Setting → Hidden → ℕ → Type 0
LastBelow set t b = (depth before : ℕ) (ts : List Hidden) (work : Work) (e : Expanded) → work.left + length ts < b → EndsWith t ts → whole set depth before ts work ≡ Ok e → EndsWith t e.toks

-- one token less
last_stays_on : (set : Setting) (t : Hidden) (b : ℕ) → LastBelow set t b → (depth before : ℕ) (u : Hidden) (ts : List Hidden) (work : Work) (e : Expanded) → work.left + length ts < b
    → EndsWith t (u ∷ ts) → stays (whole set) depth before u ts work ≡ Ok e → EndsWith t e.toks
unfolding LastBelow
last_stays_on set t b below depth before u [] work e h ends is =
    let i = onward_ok {A = Expanded} (whole set depth (one_more depth before) [] work) (λ o. Ok (put_out u o)) e is in
    let none : expanded [] [] work ≡ i.0 = ok_same (expanded [] [] work) i.0 (sym (whole_is_step set depth (one_more depth before) [] work) ∙ i.1) in
    let one = ends_one t u ends.0 ends.1 in
    let toks : e.toks ≡ t ∷ [] =
    sym (ap (λ (v : Expanded). v.toks) (ok_same (put_out u i.0) e i.2)) ∙ ap (λ (v : Expanded). u ∷ v.toks) (sym none) ∙ ap (λ (v : Hidden). v ∷ []) one in
    ([], toks)
last_stays_on set t b below depth before u (v ∷ ts) work e h ends is =
    let i = onward_ok {A = Expanded} (whole set depth (one_more depth before) (v ∷ ts) work) (λ o. Ok (put_out u o)) e is in
    let rest = below depth (one_more depth before) (v ∷ ts) work i.0 h (ends_rest t u v ts ends.0 ends.1) i.1 in
    subst (EndsWith t) (ap (λ (x : Expanded). x.toks) (ok_same (put_out u i.0) e i.2)) (ends_behind t (u ∷ []) i.0.toks rest)

abbrev after : Next → ℕ → ℕ → Token → Definition → List (List ℕ) → List Hidden → Expanded → Result Expanded Fault
after next depth before name m added ts e =
    onward (next depth before (map (hide_more added) e.toks ++ ts) e.left) (λ rest. Ok (noted (first_notes name m before ++ e.notes) rest))

replaced_ends : (set : Setting) (t : Hidden) (b : ℕ) → LastBelow set t b → (depth before : ℕ) (name : Token) (m : Definition) (added : List (List ℕ)) (n : ℕ)
    → (raw : List (List Hidden)) → AllWithin n raw → (ts : List Hidden) (work : Work) (e : Expanded) → work.left + n < b → work.left + length ts < b → EndsWith t ts
    → replaced set (whole set) depth before name m added raw ts work ≡ Ok e → EndsWith t e.toks
unfolding LastBelow
replaced_ends set t b below depth before name m added n raw within ts work e h h2 ends is =
    let i = onward_ok {A = Expanded} (put_for m.form set.path (whole set) depth before name m raw work) (after (whole set) depth before name m added ts) e is in
    let put : List Hidden = map (hide_more added) i.0.toks in
    let notes : List Note = first_notes name m before ++ i.0.notes in
    let j = onward_ok {A = Expanded} (whole set depth before (put ++ ts) i.0.left) (λ rest. Ok (noted notes rest)) e i.2 in
    let puts = (put_for_puts b (whole set) (whole set) (whole_below_itself set b) m.form set.path depth before name m n raw within work h).falls i.0 i.1 in
    let room : i.0.left.left + length (put ++ ts) < b = omega (arith, length-append put ts, length-map i.0.toks (hide_more added)) in
    let rest = below depth before (put ++ ts) i.0.left j.0 room (ends_behind t put ts ends) j.1 in
    subst (EndsWith t) (ap (λ (x : Expanded). x.toks) (ok_same (noted notes j.0) e j.2)) rest

called_with_ends : (set : Setting) (t : Hidden) (b : ℕ) → LastBelow set t b → (depth before : ℕ) (u : Hidden) (m : Definition) (call : Call) (n : ℕ) (work : Work) → Shorter n call → work.left + n < b
    → EndsWith t call.rest → (raw : Option (List (List Hidden))) → arguments_of m call.arguments ≡ raw → (e : Expanded) → called_with set (whole set) depth before u m call work raw ≡ Ok e
    → EndsWith t e.toks
called_with_ends set t b below depth before u m call n work short h ends None args_are e is = err_ok (WrongArguments u.tok.at) e is
called_with_ends set t b below depth before u m call n work short h ends (Some raw) args_are e is =
    let behind = short.behind in
    replaced_ends set t b below depth before u.tok m (added_by u call.close) n raw (arguments_within m n call.arguments raw short.each args_are) call.rest work e h (omega arith) ends is

called_ends : (set : Setting) (t : Hidden) (b : ℕ) → is_close t.tok ≡ false → LastBelow set t b → (depth before : ℕ) (u : Hidden) (m : Definition) (ts : List Hidden) (work : Work) → work.left + length ts < b
    → EndsWith t ts → (call : Option Call) → call_from ts (commas_of m) 0 ≡ call → (e : Expanded) → called set (whole set) depth before u m work call ≡ Ok e → EndsWith t e.toks
called_ends set t b no_close below depth before u m ts work h ends None call_is e is = err_ok (OpenCall u.tok.at) e is
called_ends set t b no_close below depth before u m ts work h ends (Some call) call_is e is =
    called_with_ends set t b below depth before u m call (length ts) work (call_shorter ts (commas_of m) 0 call call_is) h (call_ends t no_close ts (commas_of m) 0 call ends call_is)
    (arguments_of m call.arguments) refl e is

-- nothing is called behind the last token
no_call : (set : Setting) (depth before : ℕ) (u : Hidden) (m : Definition) (work : Work) (e : Expanded) → called set (whole set) depth before u m work (call_from [] (commas_of m) 0) ≡ Ok e → ⊥
unfolding call_from
no_call set depth before u m work e is = err_ok (OpenCall u.tok.at) e is

behind_ends : (set : Setting) (t : Hidden) (b : ℕ) → is_close t.tok ≡ false → LastBelow set t b → (depth before : ℕ) (u : Hidden) (m : Definition) (ts : List Hidden) (work : Work) (e : Expanded)
    → work.left + length ts < b → EndsWith t (u ∷ ts) → behind_name set (whole set) depth before u m ts work ≡ Ok e → EndsWith t e.toks
behind_ends set t b no_close below depth before u m [] work e h ends is = last_stays_on set t b below depth before u [] work e h ends is
behind_ends set t b no_close below depth before u m (p ∷ []) work e h ends is = elim (cases_Bool (is_open p.tok)) [
  | inl opens ↦ absurd (no_call set depth before u m work e (rw opens at is))
  | inr shut ↦ last_stays_on set t b below depth before u (p ∷ []) work e h ends (rw shut at is)
]
behind_ends set t b no_close below depth before u m (p ∷ q ∷ ts) work e h ends is = elim (cases_Bool (is_open p.tok)) [
  | inl opens ↦
      let one = ends_rest t u p (q ∷ ts) ends.0 ends.1 in
      called_ends set t b no_close below depth before u m (q ∷ ts) work (omega arith) (ends_rest t p q ts one.0 one.1) (call_from (q ∷ ts) (commas_of m) 0) refl e (rw opens at is)
  | inr shut ↦ last_stays_on set t b below depth before u (p ∷ q ∷ ts) work e h ends (rw shut at is)
]

act_ends : (set : Setting) (t : Hidden) (b : ℕ) → is_name t.tok ≡ false → is_close t.tok ≡ false → LastBelow set t b → (depth before : ℕ) (u : Hidden) (ts : List Hidden) (work : Work) (e : Expanded)
    → work.left + length ts < b → EndsWith t (u ∷ ts) → (m : Option Definition) → macro_of set.table u ≡ m → act set (whole set) depth before u ts work m ≡ Ok e → EndsWith t e.toks
act_ends set t b no_name no_close below depth before u ts work e h ends None is_m is = last_stays_on set t b below depth before u ts work e h ends is
act_ends set t b no_name no_close below depth before u ts work e h ends (Some m) is_m is = elim (cases_Bool (is_function m.form)) [
  | inl fn ↦ behind_ends set t b no_close below depth before u m ts work e h ends (rw fn at is)
  | inr object ↦ object_ends ts h ends (rw object at is)
]
  where
    object_ends : (ts : List Hidden) → work.left + length ts < b → EndsWith t (u ∷ ts)
        → replaced set (whole set) depth before u.tok m (u.hides ++ u.tok.text ∷ []) [] ts work ≡ Ok e → EndsWith t e.toks
    object_ends [] h ends is =
        let one = ends_one t u ends.0 ends.1 in
        let name : macro_of set.table u ≡ None = ap (macro_of set.table) one ∙ no_macro set.table t no_name in
        absurd (none-some m (sym name ∙ is_m))
    object_ends (v ∷ ts) h ends is =
        replaced_ends set t b below depth before u.tok m (u.hides ++ u.tok.text ∷ []) 0 [] none (v ∷ ts) work e (omega arith) h (ends_rest t u v ts ends.0 ends.1) is

nothing_ends : (t : Hidden) (zs : List Hidden) → [] ≡ zs ++ t ∷ [] → ⊥
nothing_ends t zs e = let n = ap length e ∙ length-append zs (t ∷ []) in absurd (omega (arith, n))

step_last : (set : Setting) (t : Hidden) (b : ℕ) → is_name t.tok ≡ false → is_close t.tok ≡ false → LastBelow set t b → (depth before : ℕ) (ts : List Hidden) (work : Work) (e : Expanded)
    → work.left + length ts < suc b → EndsWith t ts → whole set depth before ts work ≡ Ok e → EndsWith t e.toks
step_last set t b no_name no_close below depth before [] work e h ends is = absurd (nothing_ends t ends.0 ends.1)
step_last set t b no_name no_close below depth before (u ∷ ts) work e h ends is =
    act_ends set t b no_name no_close below depth before u ts work e (omega arith) ends (macro_of set.table u) refl (sym (whole_is_step set depth before (u ∷ ts) work) ∙ is)

last_below : (set : Setting) (t : Hidden) → is_name t.tok ≡ false → is_close t.tok ≡ false → (b : ℕ) → LastBelow set t b
unfolding LastBelow
last_below set t no_name no_close zero = λ depth before ts work e h ends is. absurd (omega arith)
last_below set t no_name no_close (suc b) = λ depth before ts work e h ends is.
    step_last set t b no_name no_close (last_below set t no_name no_close b) depth before ts work e h ends is

pub last_stays : LastStays
unfolding LastBelow
last_stays = λ set depth before xs t work e no_name no_close is.
    let ts = xs ++ t ∷ [] in
    let below : (depth before : ℕ) (zs : List Hidden) (work2 : Work) (e : Expanded) → work2.left + length zs < suc (work.left + length ts) → EndsWith t zs
    → whole set depth before zs work2 ≡ Ok e → EndsWith t e.toks = last_below set t no_name no_close (suc (work.left + length ts)) in
    below depth before ts work e (omega arith) (xs, refl) is

-- ---- by tests of tokens

last_split : (ts : List Token) (t : Token) → slice_get ts (length ts - 1) ≡ Some t → (us : List Token) × (ts ≡ us ++ t ∷ [])
last_split [] t there = absurd cc
last_split (u ∷ []) t there = ([], ap (λ (v : Token). v ∷ []) (ap (λ (o : Option Token). unwrap_or o t) there))
last_split (u ∷ v ∷ ts) t there =
    let less : suc (suc (length ts)) - 1 ≡ suc (suc (length ts) - 1) = omega arith in
    let r = last_split (v ∷ ts) t (sym (ap (slice_get (u ∷ v ∷ ts)) less) ∙ there) in
    (u ∷ r.0, ap (λ (l : List Token). u ∷ l) r.1)

last_there : (us : List Token) (t : Token) → slice_get (us ++ t ∷ []) (length (us ++ t ∷ []) - 1) ≡ Some t
last_there [] t = refl
last_there (u ∷ us) t =
    let long = length-append us (t ∷ []) in
    let less : suc (length (us ++ t ∷ [])) - 1 ≡ suc (length (us ++ t ∷ []) - 1) = omega (arith, long) in
    ap (slice_get (u ∷ (us ++ t ∷ []))) less ∙ last_there us t

ends_some : (set : Setting) (depth before : ℕ) (ts : List Token) (work : Work) (x : Expanded) → whole set depth before (unhidden ts) work ≡ Ok x → 0 < length (toks_of x.toks) → 0 < length ts
ends_some set depth before [] work x is some =
    let none_out : expanded [] [] work ≡ x = ok_same (expanded [] [] work) x (sym (whole_is_step set depth before [] work) ∙ is) in
    let zero = ap (λ (v : Expanded). length (toks_of v.toks)) none_out in
    absurd (omega (arith, some, zero))
ends_some set depth before (t ∷ ts) work x is some = omega arith

ends_first : (set : Setting) (depth before : ℕ) (ts : List Token) (work : Work) (x : Expanded) → whole set depth before (unhidden ts) work ≡ Ok x
    → (q : Token → Bool) → NamesPass q → FirstPasses q (toks_of x.toks) → FirstPasses q ts
ends_first set depth before [] work x is q names out t there = absurd cc
ends_first set depth before (u ∷ ts) work x is q names out t there =
    let same : u ≡ t = ap (λ (o : Option Token). unwrap_or o t) there in
    elim (cases_Bool (is_name u)) [
      | inl name ↦ ap q (sym same) ∙ names u name
      | inr other ↦
          let r = first_stays set depth before (hidden u []) (unhidden ts) work x other is in
          ap q (sym same) ∙ out u (ap (λ (l : List Hidden). slice_get (toks_of l) 0) r.1)
    ]

ends_last : (set : Setting) (depth before : ℕ) (ts : List Token) (work : Work) (x : Expanded) → whole set depth before (unhidden ts) work ≡ Ok x
    → (q : Token → Bool) → NamesPass q → ClosesPass q → LastPasses q (toks_of x.toks) → LastPasses q ts
ends_last set depth before ts work x is q names closes out t there = elim (cases_Bool (is_name t)) [
  | inl name ↦ names t name
  | inr other ↦ elim (cases_Bool (is_close t)) [
    | inl close ↦ closes t close
    | inr no_close ↦
        let s = last_split ts t there in
        let parts : unhidden ts ≡ unhidden s.0 ++ hidden t [] ∷ [] = ap unhidden s.1 ∙ map-append (λ (u : Token). hidden u []) s.0 (t ∷ []) in
        let r = last_stays set depth before (unhidden s.0) (hidden t []) work x other no_close (ap (λ (l : List Hidden). whole set depth before l work) (sym parts) ∙ is) in
        let toks : toks_of x.toks ≡ toks_of r.0 ++ t ∷ [] = ap toks_of r.1 ∙ map-append (λ (h : Hidden). h.tok) r.0 (hidden t [] ∷ []) in
        out t (ap (λ (l : List Token). slice_get l (length l - 1)) toks ∙ last_there (toks_of r.0) t)
  ]
]

pub expansions_end_alike : ExpansionsEndAlike
expansions_end_alike = λ set depth before ts work x is. record {
  some = ends_some set depth before ts work x is;
  first = ends_first set depth before ts work x is;
  last = ends_last set depth before ts work x is;
}
