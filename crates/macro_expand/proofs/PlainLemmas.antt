-- A run expanded token by token: what is put out has no hide sets.
use Rattle.std.proofs.Common.{◌≡◌, ℕ, ◌+◌, ◌≤◌, ◌&&◌, Bool, not, if◌then◌else◌, List, [], ◌∷◌, ◌++◌, length, map, reverse, true, false, is_some, Option, Some, None, option_to_list, Result, Ok, Err, IfOk, refl, sym, ap, subst, ◌∙◌, append_assoc, length-append, arith}
use Rattle.std.proofs.lemmas.Bool.{and_parts, false≢true}
use Rattle.std.proofs.lemmas.List.{append-nil, map-append, length-map, reverse-append}
use Rattle.cs_base.specs.Answer.{Gives}
use Rattle.cs_base.specs.Token.{Token}
use Rattle.macro_body.specs.declared.notes.Work.{Work}
use Rattle.macro_body.specs.declared.fault.ExpandFault.{ExpandFault}
use Rattle.macro_body.specs.Faults.{fault_of}
use Rattle.macro_body.specs.declared.definitions.Definition.{Definition}
use Rattle.macro_body.specs.Below.line_shape.Signs.{is_name}
use Rattle.macro_body.specs.Hides.{Hidden, hidden, hide_more, hides_name, with_names, toks_of, unhidden}
use Rattle.macro_body.specs.Macro.{Table}
use Rattle.macro_body.specs.Notes.{Fault, Expanded}
use Rattle.macro_body.specs.Sound.{is_sound, all_sound}
use Rattle.macro_body.specs.Kept.{Kept, kept_with, finished, expanded_kept}
use Rattle.macro_body.proofs.KeptLemmas.{kept_with-nil}
use Rattle.macro_expand.specs.Expansion.{Setting, one_more, macro_of, whole, expansion}
use Rattle.macro_expand.specs.Following.{is_macro_name, IsTaken, IsPlain, IsPopped}
use Rattle.macro_expand.specs.Frames.{rest_of}
use Rattle.macro_expand.specs.Going.{before_behind, plain}
use Rattle.macro_expand.proofs.GoingLemmas.{whole-nothing}
use Rattle.macro_expand.proofs.CallLemmas.{nothing_taken}
use Rattle.macro_expand.proofs.TurnLemmas.{stays-goes}

-- what an expansion comes to without hide sets
abbrev pub PlainEnding : Type 0
PlainEnding = Result (List Token × Work × Kept) Fault

pub plain-expanded : (k : Kept) (r : Result Expanded Fault) → plain [] (finished k [] r) ≡ expanded_kept k r
plain-expanded k (Ok e) = refl
plain-expanded k (Err f) = refl

plain-finished : (k : Kept) (out : List Token) (ts : List Hidden) (r : Result Expanded Fault) → plain (out ++ toks_of ts) (finished k [] r) ≡ plain out (finished k ts r)
plain-finished k out ts (Ok e) =
    let F : List Token → PlainEnding = λ xs. Ok (xs, e.left, kept_with k e.notes) in
    ap F (append_assoc out (toks_of ts) (toks_of e.toks) ∙ ap (λ (xs : List Token). out ++ xs) (sym (map-append (λ (h : Hidden). h.tok) ts e.toks)))
plain-finished k out ts (Err f) = refl

pub plain-turn : (set : Setting) (depth before before2 : ℕ) (first : Hidden) (stayed : Option Hidden) (ts rest rest2 : List Hidden) (out out2 : List Token) (work work2 : Work) (k k2 : Kept) (all : PlainEnding)
    → ts ≡ first ∷ rest
    → finished k [] (whole set depth before (first ∷ rest) work) ≡ finished k2 (option_to_list stayed) (whole set depth (before_behind stayed depth before) rest2 work2)
    → before2 ≡ before_behind stayed depth before → out2 ≡ out ++ toks_of (option_to_list stayed) → plain out (finished k [] (whole set depth before ts work)) ≡ all
    → plain out2 (finished k2 [] (whole set depth before2 rest2 work2)) ≡ all
plain-turn set depth before before2 first stayed ts rest rest2 out out2 work work2 k k2 all split goes counted pushed so_far =
    ap (λ (n : ℕ). plain out2 (finished k2 [] (whole set depth n rest2 work2))) counted
    ∙ ap (λ (xs : List Token). plain xs (finished k2 [] (whole set depth (before_behind stayed depth before) rest2 work2))) pushed
    ∙ plain-finished k2 out (option_to_list stayed) (whole set depth (before_behind stayed depth before) rest2 work2)
    ∙ ap (plain out) (sym goes) ∙ ap (λ (xs : List Hidden). plain out (finished k [] (whole set depth before xs work))) (sym split) ∙ so_far

-- no macro replaces a token that is no macro's name
pub plain-none : (table : Table) (t : Token) (hides : List (List ℕ)) → is_macro_name table t ≡ false → macro_of table (hidden t hides) ≡ None
plain-none table t hides plain = none (is_name t) (hides_name hides t.text) (table t.text) plain
  where
    none : (name out : Bool) (m : Option Definition) → (name && is_some m) ≡ false → (if name && not out then m else None) ≡ None
    none false out m plain = refl
    none true true m plain = refl
    none true false None plain = refl
    none true false (Some m) plain = absurd (false≢true (sym plain))

-- a token that no macro replaces is put out
pub plain-stays : (set : Setting) (depth before before2 : ℕ) (t : Token) (hides : List (List ℕ)) (ts rest : List Hidden) (out out2 : List Token) (work : Work) (k : Kept) (all : PlainEnding)
    → depth ≡ 0 → ts ≡ hidden t hides ∷ rest → macro_of set.table (hidden t hides) ≡ None → before2 ≡ before + 1 → out2 ≡ out ++ t ∷ []
    → plain out (finished k [] (whole set depth before ts work)) ≡ all → plain out2 (finished k [] (whole set depth before2 rest work)) ≡ all
plain-stays set depth before before2 t hides ts rest out out2 work k all outermost split none counted pushed so_far =
    plain-turn set depth before before2 (hidden t hides) (Some (hidden t hides)) ts rest rest out out2 work work k k all
    split (stays-goes set depth before (hidden t hides) rest work k none)
    (counted ∙ sym (ap (λ (d : ℕ). one_more d before) outermost)) pushed so_far

-- what was taken, where something was
pub plain_taken : (table : Table) (o : Option Token) (t : Token) (ts rest : List Hidden) → o ≡ Some t → IsPlain table o ts rest
    → (hides : List (List ℕ)) × (ts ≡ hidden t hides ∷ rest) × (macro_of table (hidden t hides) ≡ None)
plain_taken table o t ts rest is taken =
    let P : Option Token → Type 0 = λ v. IsPlain table v ts rest in subst P is taken

pub sound_behind : (t : Token) (hides : List (List ℕ)) (ts rest : List Hidden) → ts ≡ hidden t hides ∷ rest → all_sound ts ≡ true → all_sound rest ≡ true
sound_behind t hides ts rest split sound =
    (and_parts (is_sound (hidden t hides)) (all_sound rest) (sym (ap all_sound split) ∙ sound)).1

-- a token that was taken from what was lent
pub lent_plain : (table : Table) (t : Token) (ts rest : List Hidden) → is_macro_name table t ≡ false → ts ≡ hidden t [] ∷ rest → IsPlain table (Some t) ts rest
lent_plain table t ts rest plain split = ([], split, plain-none table t [] plain)

-- a token that was taken from the top frame
pub popped_plain : (table : Table) (o : Option Token) (names : List (List ℕ)) (toks toks2 low ts : List Hidden) → IsPopped table o toks toks2 → rest_of names toks ++ low ≡ ts
    → IsPlain table o ts (rest_of names toks2 ++ low)
popped_plain table None names toks toks2 low ts popped is = sym is ∙ ap (λ (xs : List Hidden). rest_of names xs ++ low) popped
popped_plain table (Some t) names toks toks2 low ts popped is =
    let hides = with_names popped.0 names in
    let split : rest_of names toks ≡ hidden t hides ∷ rest_of names toks2 =
    ap (λ (xs : List Hidden). map (hide_more names) (reverse xs)) popped.1 ∙ ap (map (hide_more names)) (reverse-append toks2 (hidden t popped.0 ∷ [])) in
    (hides, sym is ∙ ap (λ (xs : List Hidden). xs ++ low) split, plain-none table t hides popped.2)

pub plain-fault : (set : Setting) (depth before : ℕ) (first : Hidden) (ts rest : List Hidden) (out : List Token) (work : Work) (k : Kept) (all : PlainEnding)
    → ts ≡ first ∷ rest → plain out (finished k [] (whole set depth before ts work)) ≡ all
    → (f : Fault) → finished k [] (whole set depth before (first ∷ rest) work) ≡ Err f → all ≡ Err f
plain-fault set depth before first ts rest out work k all split so_far f h =
    sym so_far ∙ ap (λ (xs : List Hidden). plain out (finished k [] (whole set depth before xs work))) split ∙ ap (plain out) h

pub plain-end : (set : Setting) (depth before : ℕ) (o : Option Hidden) (ts new : List Hidden) (out : List Token) (work : Work) (k : Kept) (all : PlainEnding) → o ≡ None → IsTaken o ts new
    → plain out (finished k [] (whole set depth before ts work)) ≡ all → all ≡ Ok (out, work, k)
plain-end set depth before o ts new out work k all is taken so_far =
    let F : List Token → Kept → PlainEnding = λ xs s. Ok (xs, work, s) in
    sym so_far ∙ ap (λ (xs : List Hidden). plain out (finished k [] (whole set depth before xs work))) (nothing_taken o ts new is taken)
    ∙ ap (λ (r : Result Expanded Fault). plain out (finished k [] r)) (whole-nothing set depth before work)
    ∙ ap (λ (xs : List Token). F xs (kept_with k [])) (append-nil out) ∙ ap (F out) (kept_with-nil k)

-- ---- counts

-- a token further, what is put out and what is left are no more than before
pub plain-few : (stayed : Option Hidden) (work work2 n : ℕ) (first : Hidden) (ts rest rest2 : List Hidden) (out out2 : List Token)
    → out2 ≡ out ++ toks_of (option_to_list stayed) → ts ≡ first ∷ rest → work2 + length rest2 ≤ work + length rest
    → length out + work + length ts ≤ n → length out2 + work2 + length rest2 ≤ n
plain-few stayed work work2 n first ts rest rest2 out out2 pushed split shorter few =
    let put : length out2 ≤ length out + 1 = subst (λ (xs : List Token). length xs ≤ length out + 1) (sym pushed) (put_out-le stayed) in
    let len = ap length split in
    omega (arith, put, len)
  where
    put_out-le : (stayed : Option Hidden) → length (out ++ toks_of (option_to_list stayed)) ≤ length out + 1
    put_out-le None = let len = length-append out [] in omega (arith, len)
    put_out-le (Some t) = let len = length-append out (t.tok ∷ []) in omega (arith, len)

-- ---- the public call

expansion-whole : (table : Table) (path : List ℕ) (run : List Token) (rest : List Hidden) (work : Work) → rest ≡ unhidden run
    → whole (record { table = table; path = path }) 0 0 rest work ≡ expansion table path run work
unfolding expansion
expansion-whole table path run rest work is = ap (λ (ts : List Hidden). whole (record { table = table; path = path }) 0 0 ts work) is

pub run-goes : {X : Type 0} (view : X → List Token × Work × Kept) (result : Result X ExpandFault) (table : Table) (path : List ℕ) (run : List Token) (rest : List Hidden) (work : Work) (k : Kept)
    → rest ≡ unhidden run → Gives view fault_of result (expanded_kept k (whole (record { table = table; path = path }) 0 0 rest work))
    → Gives view fault_of result (expanded_kept k (expansion table path run work))
run-goes view result table path run rest work k is h =
    subst (λ (r : Result Expanded Fault). Gives view fault_of result (expanded_kept k r)) (expansion-whole table path run rest work is) h

pub run-few : {X E : Type 0} (result : Result X E) (toks : X → List Token) (run : List Token) (rest : List Hidden) (work left : ℕ) → rest ≡ unhidden run
    → IfOk result (λ v. left + length (toks v) ≤ work + length rest) → IfOk result (λ v. left + length (toks v) ≤ work + length run)
run-few (Ok v) toks run rest work left is few = let len = ap length is ∙ length-map run (λ t. hidden t []) in omega (arith, len)
run-few (Err e) toks run rest work left is few = tt
