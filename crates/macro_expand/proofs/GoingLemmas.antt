-- An expansion from its first token on, with what is kept of what happens.
use Rattle.std.proofs.Common.{◌≡◌, ℕ, Bool, true, false, cond, List, [], ◌∷◌, ◌++◌, map, Option, Some, None, Result, Ok, Err, refl, sym, ap, ◌∙◌, append_assoc}
use Rattle.std.specs.Option.{IfSome}
use Rattle.std.proofs.lemmas.List.{append-nil}
use Rattle.cs_base.specs.Token.{Token}
use Rattle.macro_body.specs.declared.notes.Work.{Work}
use Rattle.macro_body.specs.declared.definitions.Definition.{Definition}
use Rattle.macro_body.specs.Below.line_shape.Signs.{is_open}
use Rattle.macro_body.specs.Hides.{Hidden, hide_more}
use Rattle.macro_body.specs.Macro.{is_function}
use Rattle.macro_expand.specs.Calls.{Call, call_from, commas_of, arguments_of}
use Rattle.macro_body.specs.Notes.{Fault, Note, Expanded, expanded, put_out, noted, onward}
use Rattle.macro_expand.specs.Expansion.{Setting, Next, stays, put_for, first_notes, replaced, called, called_with, behind_name, act, macro_of, whole}
use Rattle.macro_expand.specs.Laws.{begins_open}
use Rattle.macro_body.specs.Kept.{Kept, kept_with, finished}
use Rattle.macro_expand.specs.Going.{brought, read_with, read_from}
use Rattle.macro_body.proofs.ResultLemmas.{ok_same, err_ok}
use Rattle.macro_body.proofs.KeptLemmas.{kept_with-append, kept_with-nil}
use Rattle.macro_expand.proofs.WholeLemmas.{whole_is_step}

-- what an expansion comes to
abbrev pub Ending : Type 0
Ending = Result (List Hidden × Work × Kept) Fault

pub ok_err : {A : Type 0} {P : Type 0} (a : A) (f : Fault) → ◌≡◌ {A = Result A Fault} (Ok a) (Err f) → P
ok_err a f e = err_ok f a (sym e)

-- a fault that follows from another
pub fault_more : (o : Option Fault) (P Q : Fault → Type 0) → ((f : Fault) → P f → Q f) → IfSome o P → IfSome o Q
fault_more None P Q more h = h
fault_more (Some f) P Q more h = more f h

-- ---- endings

pub finished-noted : (k : Kept) (out : List Hidden) (notes : List Note) (r : Result Expanded Fault)
    → finished k out (onward r (λ x. Ok (noted notes x))) ≡ finished (kept_with k notes) out r
finished-noted k out notes (Ok e) = let F : Kept → Ending = λ s. Ok (out ++ e.toks, e.left, s) in ap F (kept_with-append k notes e.notes)
finished-noted k out notes (Err f) = refl

pub finished-stays : (k : Kept) (t : Hidden) (r : Result Expanded Fault) → finished k [] (onward r (λ e. Ok (put_out t e))) ≡ finished k (t ∷ []) r
finished-stays k t (Ok e) = refl
finished-stays k t (Err f) = refl

-- an ending behind tokens that were put out before
abbrev in_front : List Hidden → Ending → Ending
in_front out (Ok v) = Ok (out ++ v.0, v.1, v.2)
in_front out (Err f) = Err f

finished-append : (k : Kept) (out ts : List Hidden) (r : Result Expanded Fault) → finished k (out ++ ts) r ≡ in_front out (finished k ts r)
finished-append k out ts (Ok e) = let F : List Hidden → Ending = λ xs. Ok (xs, e.left, kept_with k e.notes) in ap F (append_assoc out ts e.toks)
finished-append k out ts (Err f) = refl

-- One token on, all comes to the same behind what was put out before.
pub finished_turn : (k k2 : Kept) (out out2 ts : List Hidden) (r r2 : Result Expanded Fault) (all : Ending)
    → finished k [] r ≡ finished k2 ts r2 → out2 ≡ out ++ ts → finished k out r ≡ all → finished k2 out2 r2 ≡ all
finished_turn k k2 out out2 ts r r2 all same more before =
    ap (λ (xs : List Hidden). finished k2 xs r2) more ∙ finished-append k2 out ts r2 ∙ ap (in_front out) (sym same) ∙ sym (finished-append k out [] r)
    ∙ ap (λ (xs : List Hidden). finished k xs r) (append-nil out) ∙ before

pub finished_fault : (k : Kept) (out : List Hidden) (r : Result Expanded Fault) (f : Fault) → finished k [] r ≡ Err f → finished k out r ≡ Err f
finished_fault k out (Ok e) f h = ok_err _ f h
finished_fault k out (Err g) f h = h

pub finished_end : (k : Kept) (out : List Hidden) (work : Work) → finished k out (Ok (expanded [] [] work)) ≡ Ok (out, work, k)
finished_end k out work =
    let F : List Hidden → Kept → Ending = λ xs s. Ok (xs, work, s) in
    ap (λ (xs : List Hidden). F xs (kept_with k [])) (append-nil out) ∙ ap (F out) (kept_with-nil k)

-- ---- what a replacement brings

-- put in front of what follows, it comes to what the replacement comes to
finished-brought : (k k2 : Kept) (first : List Note) (r : Result Expanded Fault) (next : List Hidden → Work → Result Expanded Fault) (toks : List Hidden) (left : Work)
    → finished k [] (onward r (λ e. Ok (noted first e))) ≡ Ok (toks, left, k2)
    → finished k [] (onward r (λ e. onward (next e.toks e.left) (λ rest. Ok (noted (first ++ e.notes) rest)))) ≡ finished k2 [] (next toks left)
finished-brought k k2 first (Err f) next toks left h = err_ok f _ h
finished-brought k k2 first (Ok e) next toks left h =
    finished-noted k [] (first ++ e.notes) (next e.toks e.left)
    ∙ ap (λ (v : List Hidden × Work × Kept). finished v.2 [] (next v.0 v.1)) (ok_same (e.toks, e.left, kept_with k (first ++ e.notes)) (toks, left, k2) h)

brought_fault : (k : Kept) (first : List Note) (r : Result Expanded Fault) (next : Expanded → Result Expanded Fault) (f : Fault)
    → finished k [] (onward r (λ e. Ok (noted first e))) ≡ Err f → finished k [] (onward r next) ≡ Err f
brought_fault k first (Ok e) next f h = ok_err _ f h
brought_fault k first (Err g) next f h = h

-- A replacement, put in front of what follows it.
pub finished-replaced : (set : Setting) (depth before : ℕ) (name : Token) (m : Definition) (added : List (List ℕ)) (raw : List (List Hidden)) (ts : List Hidden) (work : Work)
    → (k k2 : Kept) (toks ts2 : List Hidden) (left : Work)
    → finished k [] (brought set (whole set) depth before name m raw work) ≡ Ok (toks, left, k2) → ts2 ≡ map (hide_more added) toks ++ ts
    → finished k [] (replaced set (whole set) depth before name m added raw ts work) ≡ finished k2 [] (whole set depth before ts2 left)
finished-replaced set depth before name m added raw ts work k k2 toks ts2 left brings is =
    finished-brought k k2 (first_notes name m before) (put_for m.form set.path (whole set) depth before name m raw work)
    (λ xs n. whole set depth before (map (hide_more added) xs ++ ts) n) toks left brings
    ∙ ap (λ (xs : List Hidden). finished k2 [] (whole set depth before xs left)) (sym is)

pub replaced_fault : (set : Setting) (depth before : ℕ) (name : Token) (m : Definition) (added : List (List ℕ)) (raw : List (List Hidden)) (ts : List Hidden) (work : Work)
    → (k : Kept) (f : Fault) → finished k [] (brought set (whole set) depth before name m raw work) ≡ Err f
    → finished k [] (replaced set (whole set) depth before name m added raw ts work) ≡ Err f
replaced_fault set depth before name m added raw ts work k f h =
    brought_fault k (first_notes name m before) (put_for m.form set.path (whole set) depth before name m raw work)
    (λ e. onward (whole set depth before (map (hide_more added) e.toks ++ ts) e.left) (λ rest. Ok (noted (first_notes name m before ++ e.notes) rest))) f h

-- ---- the whole expansion by its first token

pub whole-nothing : (set : Setting) (depth before : ℕ) (work : Work) → whole set depth before [] work ≡ Ok (expanded [] [] work)
whole-nothing set depth before work = whole_is_step set depth before [] work

-- the first token is acted on by the macro that replaces it
whole-first : (set : Setting) (depth before : ℕ) (t : Hidden) (ts : List Hidden) (work : Work) (m : Option Definition) → macro_of set.table t ≡ m
    → whole set depth before (t ∷ ts) work ≡ act set (whole set) depth before t ts work m
whole-first set depth before t ts work m is =
    whole_is_step set depth before (t ∷ ts) work ∙ ap (λ (o : Option Definition). act set (whole set) depth before t ts work o) is

pub whole-stays : (set : Setting) (depth before : ℕ) (t : Hidden) (ts : List Hidden) (work : Work) → macro_of set.table t ≡ None
    → whole set depth before (t ∷ ts) work ≡ stays (whole set) depth before t ts work
whole-stays set depth before t ts work is = whole-first set depth before t ts work None is

pub whole-object : (set : Setting) (depth before : ℕ) (t : Hidden) (ts : List Hidden) (work : Work) (m : Definition) → macro_of set.table t ≡ Some m → is_function m.form ≡ false
    → whole set depth before (t ∷ ts) work ≡ replaced set (whole set) depth before t.tok m (t.hides ++ t.tok.text ∷ []) [] ts work
whole-object set depth before t ts work m is object =
    whole-first set depth before t ts work (Some m) is
    ∙ ap (λ (b : Bool). cond b (behind_name set (whole set) depth before t m ts work) (replaced set (whole set) depth before t.tok m (t.hides ++ t.tok.text ∷ []) [] ts work)) object

-- a function-like macro's name
whole-function : (set : Setting) (depth before : ℕ) (t : Hidden) (ts : List Hidden) (work : Work) (m : Definition) → macro_of set.table t ≡ Some m → is_function m.form ≡ true
    → whole set depth before (t ∷ ts) work ≡ behind_name set (whole set) depth before t m ts work
whole-function set depth before t ts work m is function =
    whole-first set depth before t ts work (Some m) is
    ∙ ap (λ (b : Bool). cond b (behind_name set (whole set) depth before t m ts work) (replaced set (whole set) depth before t.tok m (t.hides ++ t.tok.text ∷ []) [] ts work)) function

behind_name-stays : (set : Setting) (next : Next) (depth before : ℕ) (t : Hidden) (m : Definition) (ts : List Hidden) (work : Work) → begins_open ts ≡ false
    → behind_name set next depth before t m ts work ≡ stays next depth before t ts work
behind_name-stays set next depth before t m [] work closed = refl
behind_name-stays set next depth before t m (p ∷ ts) work closed =
    ap (λ (b : Bool). cond b (called set next depth before t m work (call_from ts (commas_of m) 0)) (stays next depth before t (p ∷ ts) work)) closed

pub whole-alone : (set : Setting) (depth before : ℕ) (t : Hidden) (ts : List Hidden) (work : Work) (m : Definition) → macro_of set.table t ≡ Some m → is_function m.form ≡ true
    → begins_open ts ≡ false → whole set depth before (t ∷ ts) work ≡ stays (whole set) depth before t ts work
whole-alone set depth before t ts work m is function closed =
    whole-function set depth before t ts work m is function ∙ behind_name-stays set (whole set) depth before t m ts work closed

-- a call that is read, and then replaced
called-read : (set : Setting) (next : Next) (depth before : ℕ) (t : Hidden) (m : Definition) (work : Work) (call : Option Call)
    → called set next depth before t m work call ≡ onward (read_from t m call) (λ r. replaced set next depth before t.tok m r.1 r.0 r.2 work)
called-read set next depth before t m work None = refl
called-read set next depth before t m work (Some call) = called_with-read (arguments_of m call.arguments)
  where
    called_with-read : (raw : Option (List (List Hidden)))
        → called_with set next depth before t m call work raw ≡ onward (read_with t call.close call.rest raw) (λ r. replaced set next depth before t.tok m r.1 r.0 r.2 work)
    called_with-read None = refl
    called_with-read (Some raw) = refl

pub whole-call : (set : Setting) (depth before : ℕ) (t p : Hidden) (ts : List Hidden) (work : Work) (m : Definition) → macro_of set.table t ≡ Some m → is_function m.form ≡ true
    → is_open p.tok ≡ true
    → whole set depth before (t ∷ p ∷ ts) work ≡ onward (read_from t m (call_from ts (commas_of m) 0)) (λ r. replaced set (whole set) depth before t.tok m r.1 r.0 r.2 work)
whole-call set depth before t p ts work m is function opens =
    whole-function set depth before t (p ∷ ts) work m is function
    ∙ ap (λ (b : Bool). cond b (called set (whole set) depth before t m work (call_from ts (commas_of m) 0)) (stays (whole set) depth before t (p ∷ ts) work)) opens
    ∙ called-read set (whole set) depth before t m work (call_from ts (commas_of m) 0)
