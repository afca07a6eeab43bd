-- One turn of an expansion: the first token stays, or what replaces it is put before what follows.
use Rattle.std.proofs.Common.{◌≡◌, ℕ, true, false, List, [], ◌∷◌, ◌++◌, map, Option, Some, None, option_to_list, Result, Ok, Err, sym, ap, ◌∙◌}
use Rattle.std.proofs.lemmas.Bool.{false≢true}
use Rattle.cs_base.specs.Token.{Token}
use Rattle.macro_body.specs.declared.notes.Work.{Work}
use Rattle.macro_body.specs.declared.definitions.Definition.{Definition}
use Rattle.macro_body.specs.declared.fault.ExpandFault.{ExpandFault}
use Rattle.macro_body.specs.Below.line_shape.Signs.{is_open}
use Rattle.macro_body.specs.Hides.{Hidden, hide_more}
use Rattle.macro_body.specs.Macro.{is_function}
use Rattle.macro_expand.specs.Calls.{call_from, commas_of}
use Rattle.macro_expand.specs.Following.{IsTaken}
use Rattle.macro_body.specs.Notes.{Fault, Expanded, onward}
use Rattle.macro_expand.specs.Expansion.{Setting, one_more, replaced, macro_of, whole}
use Rattle.macro_expand.specs.Laws.{begins_open}
use Rattle.macro_body.specs.Kept.{Kept, finished}
use Rattle.macro_body.specs.Faults.{fault_of}
use Rattle.macro_expand.specs.Going.{before_behind, brought, read_from}
use Rattle.macro_expand.proofs.CallLemmas.{nothing_taken}
use Rattle.macro_expand.proofs.GoingLemmas.{Ending, fault_more, finished-stays, finished_turn, finished_fault, finished_end, finished-replaced, replaced_fault, whole-nothing, whole-stays, whole-object, whole-alone, whole-call}
use Rattle.std.specs.Option.{IfSome}

-- a refusal that another brings
pub refused_more : {Y Z : Type 0} (e : ExpandFault) (all : Result Y Fault) (all2 : Result Z Fault) → ((f : Fault) → all ≡ Err f → all2 ≡ Err f)
    → IfSome (fault_of e) (λ f. all ≡ Err f) → IfSome (fault_of e) (λ f. all2 ≡ Err f)
refused_more e all all2 more h = fault_more (fault_of e) (λ f. all ≡ Err f) (λ f. all2 ≡ Err f) more h

-- ---- a token that stays

pub stays-goes : (set : Setting) (depth before : ℕ) (t : Hidden) (ts : List Hidden) (work : Work) (k : Kept) → macro_of set.table t ≡ None
    → finished k [] (whole set depth before (t ∷ ts) work) ≡ finished k (t ∷ []) (whole set depth (one_more depth before) ts work)
stays-goes set depth before t ts work k is =
    ap (λ (r : Result Expanded Fault). finished k [] r) (whole-stays set depth before t ts work is)
    ∙ finished-stays k t (whole set depth (one_more depth before) ts work)

pub alone-goes : (set : Setting) (depth before : ℕ) (t : Hidden) (ts : List Hidden) (work : Work) (m : Definition) (k : Kept) → macro_of set.table t ≡ Some m → is_function m.form ≡ true
    → begins_open ts ≡ false → finished k [] (whole set depth before (t ∷ ts) work) ≡ finished k (t ∷ []) (whole set depth (one_more depth before) ts work)
alone-goes set depth before t ts work m k is function closed =
    ap (λ (r : Result Expanded Fault). finished k [] r) (whole-alone set depth before t ts work m is function closed)
    ∙ finished-stays k t (whole set depth (one_more depth before) ts work)

-- ---- an object-like macro's name

object-is : (set : Setting) (depth before : ℕ) (t : Hidden) (name : Token) (m : Definition) (ts : List Hidden) (added : List (List ℕ)) (work : Work)
    → macro_of set.table t ≡ Some m → is_function m.form ≡ false → name ≡ t.tok → added ≡ t.hides ++ t.tok.text ∷ []
    → whole set depth before (t ∷ ts) work ≡ replaced set (whole set) depth before name m added [] ts work
object-is set depth before t name m ts added work is object named adds =
    whole-object set depth before t ts work m is object
    ∙ ap (λ (n : Token). replaced set (whole set) depth before n m (t.hides ++ t.tok.text ∷ []) [] ts work) (sym named)
    ∙ ap (λ (a : List (List ℕ)). replaced set (whole set) depth before name m a [] ts work) (sym adds)

pub object-goes : (set : Setting) (depth before : ℕ) (t : Hidden) (name : Token) (m : Definition) (ts ts2 toks : List Hidden) (added : List (List ℕ)) (work left : Work) (k k2 : Kept)
    → macro_of set.table t ≡ Some m → is_function m.form ≡ false → name ≡ t.tok → added ≡ t.hides ++ t.tok.text ∷ []
    → finished k [] (brought set (whole set) depth before name m [] work) ≡ Ok (toks, left, k2) → ts2 ≡ map (hide_more added) toks ++ ts
    → finished k [] (whole set depth before (t ∷ ts) work) ≡ finished k2 [] (whole set depth before ts2 left)
object-goes set depth before t name m ts ts2 toks added work left k k2 is object named adds brings put =
    ap (λ (r : Result Expanded Fault). finished k [] r) (object-is set depth before t name m ts added work is object named adds)
    ∙ finished-replaced set depth before name m added [] ts work k k2 toks ts2 left brings put

pub object-faults : (set : Setting) (depth before : ℕ) (t : Hidden) (name : Token) (m : Definition) (ts : List Hidden) (added : List (List ℕ)) (work : Work) (k : Kept)
    → macro_of set.table t ≡ Some m → is_function m.form ≡ false → name ≡ t.tok → added ≡ t.hides ++ t.tok.text ∷ []
    → (f : Fault) → finished k [] (brought set (whole set) depth before name m [] work) ≡ Err f → finished k [] (whole set depth before (t ∷ ts) work) ≡ Err f
object-faults set depth before t name m ts added work k is object named adds f h =
    ap (λ (r : Result Expanded Fault). finished k [] r) (object-is set depth before t name m ts added work is object named adds)
    ∙ replaced_fault set depth before name m added [] ts work k f h

-- ---- a call

-- the `(` that was taken
open_taken : (o : Option Hidden) (old new : List Hidden) → IsTaken o old new → begins_open old ≡ true → (p : Hidden) × (old ≡ p ∷ new) × (is_open p.tok ≡ true)
open_taken None old new taken opens = absurd (false≢true (sym (ap begins_open taken.0) ∙ opens))
open_taken (Some p) old new taken opens = (p, taken, sym (ap begins_open taken) ∙ opens)

-- The name of a function-like macro, and a `(` that was taken behind it.
pub record Calling (set : Setting) (t : Hidden) (m : Definition) (o : Option Hidden) (old new : List Hidden) : Type 0 where
  pub named : macro_of set.table t ≡ Some m
  pub function : is_function m.form ≡ true
  pub opens : begins_open old ≡ true
  pub taken : IsTaken o old new

call-is : (set : Setting) (depth before : ℕ) (t : Hidden) (m : Definition) (o : Option Hidden) (old new : List Hidden) (work : Work) → Calling set t m o old new
    → whole set depth before (t ∷ old) work ≡ onward (read_from t m (call_from new (commas_of m) 0)) (λ r. replaced set (whole set) depth before t.tok m r.1 r.0 r.2 work)
call-is set depth before t m o old new work c =
    let p = open_taken o old new c.taken c.opens in
    ap (λ (ts : List Hidden). whole set depth before (t ∷ ts) work) p.1 ∙ whole-call set depth before t p.0 new work m c.named c.function p.2

pub call-unread : (set : Setting) (depth before : ℕ) (t : Hidden) (m : Definition) (o : Option Hidden) (old new : List Hidden) (work : Work) (k : Kept) → Calling set t m o old new
    → (f : Fault) → read_from t m (call_from new (commas_of m) 0) ≡ Err f → finished k [] (whole set depth before (t ∷ old) work) ≡ Err f
call-unread set depth before t m o old new work k c f h =
    ap (λ (r : Result Expanded Fault). finished k [] r)
    (call-is set depth before t m o old new work c
    ∙ ap (λ (r : Result (List (List Hidden) × List (List ℕ) × List Hidden) Fault). onward r (λ v. replaced set (whole set) depth before t.tok m v.1 v.0 v.2 work)) h)

read-is : (set : Setting) (depth before : ℕ) (t : Hidden) (name : Token) (m : Definition) (o : Option Hidden) (old new rest : List Hidden) (raw raw2 : List (List Hidden)) (added : List (List ℕ)) (work : Work)
    → Calling set t m o old new → read_from t m (call_from new (commas_of m) 0) ≡ Ok (raw, added, rest) → name ≡ t.tok → raw2 ≡ raw
    → whole set depth before (t ∷ old) work ≡ replaced set (whole set) depth before name m added raw2 rest work
read-is set depth before t name m o old new rest raw raw2 added work c h named same =
    call-is set depth before t m o old new work c
    ∙ ap (λ (r : Result (List (List Hidden) × List (List ℕ) × List Hidden) Fault). onward r (λ v. replaced set (whole set) depth before t.tok m v.1 v.0 v.2 work)) h
    ∙ ap (λ (n : Token). replaced set (whole set) depth before n m added raw rest work) (sym named)
    ∙ ap (λ (a : List (List Hidden)). replaced set (whole set) depth before name m added a rest work) (sym same)

pub call-goes : (set : Setting) (depth before : ℕ) (t : Hidden) (name : Token) (m : Definition) (o : Option Hidden) (old new rest ts2 toks : List Hidden) (raw raw2 : List (List Hidden)) (added : List (List ℕ))
    → (work left : Work) (k k2 : Kept) → Calling set t m o old new → read_from t m (call_from new (commas_of m) 0) ≡ Ok (raw, added, rest) → name ≡ t.tok → raw2 ≡ raw
    → finished k [] (brought set (whole set) depth before name m raw2 work) ≡ Ok (toks, left, k2) → ts2 ≡ map (hide_more added) toks ++ rest
    → finished k [] (whole set depth before (t ∷ old) work) ≡ finished k2 [] (whole set depth before ts2 left)
call-goes set depth before t name m o old new rest ts2 toks raw raw2 added work left k k2 c h named same brings put =
    ap (λ (r : Result Expanded Fault). finished k [] r) (read-is set depth before t name m o old new rest raw raw2 added work c h named same)
    ∙ finished-replaced set depth before name m added raw2 rest work k k2 toks ts2 left brings put

pub call-faults : (set : Setting) (depth before : ℕ) (t : Hidden) (name : Token) (m : Definition) (o : Option Hidden) (old new rest : List Hidden) (raw raw2 : List (List Hidden)) (added : List (List ℕ))
    → (work : Work) (k : Kept) → Calling set t m o old new → read_from t m (call_from new (commas_of m) 0) ≡ Ok (raw, added, rest) → name ≡ t.tok → raw2 ≡ raw
    → (f : Fault) → finished k [] (brought set (whole set) depth before name m raw2 work) ≡ Err f → finished k [] (whole set depth before (t ∷ old) work) ≡ Err f
call-faults set depth before t name m o old new rest raw raw2 added work k c h named same f fault =
    ap (λ (r : Result Expanded Fault). finished k [] r) (read-is set depth before t name m o old new rest raw raw2 added work c h named same)
    ∙ replaced_fault set depth before name m added raw2 rest work k f fault

-- ---- the list

pub whole-turn : (set : Setting) (depth before before2 : ℕ) (first : Hidden) (stayed : Option Hidden) (ts rest rest2 out out2 : List Hidden) (work work2 : Work) (k k2 : Kept) (all : Ending)
    → ts ≡ first ∷ rest
    → finished k [] (whole set depth before (first ∷ rest) work) ≡ finished k2 (option_to_list stayed) (whole set depth (before_behind stayed depth before) rest2 work2)
    → before2 ≡ before_behind stayed depth before → out2 ≡ out ++ option_to_list stayed → finished k out (whole set depth before ts work) ≡ all
    → finished k2 out2 (whole set depth before2 rest2 work2) ≡ all
whole-turn set depth before before2 first stayed ts rest rest2 out out2 work work2 k k2 all split goes counted pushed so_far =
    ap (λ (n : ℕ). finished k2 out2 (whole set depth n rest2 work2)) counted
    ∙ finished_turn k k2 out out2 (option_to_list stayed) (whole set depth before (first ∷ rest) work) (whole set depth (before_behind stayed depth before) rest2 work2) all goes pushed
    (ap (λ (xs : List Hidden). finished k out (whole set depth before xs work)) (sym split) ∙ so_far)

pub whole-fault : (set : Setting) (depth before : ℕ) (first : Hidden) (ts rest out : List Hidden) (work : Work) (k : Kept) (all : Ending)
    → ts ≡ first ∷ rest → finished k out (whole set depth before ts work) ≡ all
    → (f : Fault) → finished k [] (whole set depth before (first ∷ rest) work) ≡ Err f → all ≡ Err f
whole-fault set depth before first ts rest out work k all split so_far f h =
    sym so_far ∙ ap (λ (xs : List Hidden). finished k out (whole set depth before xs work)) split ∙ finished_fault k out (whole set depth before (first ∷ rest) work) f h

pub whole-end : (set : Setting) (depth before : ℕ) (o : Option Hidden) (ts new out : List Hidden) (work : Work) (k : Kept) (all : Ending) → o ≡ None → IsTaken o ts new
    → finished k out (whole set depth before ts work) ≡ all → all ≡ Ok (out, work, k)
whole-end set depth before o ts new out work k all is taken so_far =
    sym so_far ∙ ap (λ (xs : List Hidden). finished k out (whole set depth before xs work)) (nothing_taken o ts new is taken)
    ∙ ap (λ (r : Result Expanded Fault). finished k out r) (whole-nothing set depth before work) ∙ finished_end k out work
