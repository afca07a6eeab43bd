-- Names that an expansion replaces are linked with the names of their macros.
use Rattle.std.proofs.Common.{◌≡◌, ℕ, zero, suc, ◌+◌, ◌-◌, Bool, true, false, cond, List, [], ◌∷◌, ◌++◌, length, map, Option, Some, None, Result, Ok, refl, subst, nat_lt}
use Rattle.std.proofs.lemmas.Option.{none-some}
use Rattle.cs_base.specs.Limits.{most_bytes}
use Rattle.cs_base.specs.Token.{Token}
use Rattle.line_shape.specs.Signs.{is_name, is_open}
use Rattle.macro_body.specs.declared.notes.Work.{Work}
use Rattle.macro_body.specs.declared.definitions.Form.{Form}
use Rattle.macro_body.specs.declared.definitions.Form.TheVariants as form
use Rattle.macro_body.specs.declared.definitions.Definition.{Definition}
use Rattle.macro_body.specs.Hides.{Hidden, hidden, hide_more, unhidden}
use Rattle.macro_body.specs.Live.{no_macro}
use Rattle.macro_body.specs.Macro.{Table, is_function}
use Rattle.macro_body.specs.Bodies.{Part, chains_of, occurs_alone}
use Rattle.macro_expand.specs.Calls.{Call, call_from, commas_of, arguments_of}
use Rattle.macro_body.specs.Notes.{Fault, OpenCall, WrongArguments, TooMuchWork, TooDeep, Note, Counted, Replaced, Linked, Stringized, Pasted, Expanded, expanded, put_out, noted, onward}
use Rattle.macro_body.specs.Substitution.{Arguments, Made, made, result_of, cost_of, number_token, line_number, path_string}
use Rattle.macro_expand.specs.Expansion.{Setting, Next, most_depth, one_more, stays, Full, full, with_full, without_full, alone, full_step, full_from, spent, numbered, substituted, put_for, links_name, first_notes, replaced, added_by, called_with, called, behind_name, act, macro_of, step, steps, whole, expansion}
use Rattle.macro_body.proofs.ResultLemmas.{ok_same, err_ok, onward_ok, cond_ok, cond_ok_yes}
use Rattle.expansion_laws.proofs.ListLemmas.{AllHidden, AllLists, AllNotes, notes_split, notes_both}
use Rattle.expansion_laws.proofs.RuleLemmas.{Rules, HasPutIn, chains_of_have, result_kept}
use Rattle.expansion_laws.proofs.TellingLemmas.{Any, any_toks}
use Rattle.expansion_laws.proofs.ClosureLemmas.{found_macro}

-- ---- notes of strings and of pasted tokens

-- the note tells of no replacement
abbrev IsMaking : Note → Type 0
IsMaking (Replaced name m before) = ⊥
IsMaking _ = Unit {0}

-- where there are no macros, all is so
abbrev no_setting : List ℕ → Setting
no_setting path = record { table = no_macro; path = path }

rules_making : (path : List ℕ) → Rules Any Any IsMaking (no_setting path)
rules_making path = record {
  spaced = λ t gap h. tt;
  moved = λ t h. tt;
  bodies = λ name m here found. any_toks m.body;
  lines = λ name m before here found is brought. tt;
  numbers = λ name n here low brought. tt;
  paths = λ name m here found is. tt;
  strings = λ name gap toks s here all made. tt;
  pastes = λ name x y z here px py made told. tt;
  replaced = λ name m before here is found. absurd (none-some m found);
  linked = λ name m here is found links. tt;
  stringized = λ toks s all made. tt;
  pasted = λ name x y z px py pz made. tt;
  counted = λ name n here z. tt;
}

any_hidden : (hs : List Hidden) → AllHidden Any hs
any_hidden [] = tt
any_hidden (h ∷ hs) = (tt, any_hidden hs)

any_notes : (notes : List Note) → AllNotes Any notes
any_notes [] = tt
any_notes (n ∷ notes) = (tt, any_notes notes)

any_lists : (lists : List (List Hidden)) → AllLists Any lists
any_lists [] = tt
any_lists (l ∷ lists) = (any_hidden l, any_lists lists)

result_making : (name : Token) (m : Definition) (args : Arguments) (v : Made (List Hidden)) → result_of name args (chains_of m) ≡ Ok v → AllNotes IsMaking v.notes
result_making name m args v e =
    (result_kept Any Any IsMaking (no_setting []) (rules_making []) name tt args (record { raw = any_lists args.raw; full = any_lists args.full }) (chains_of m)
    (chains_of_have (HasPutIn Any name) m (any_toks m.body)) v e (any_notes v.notes)).1

-- ---- what is told of a name

-- both tokens of a link are mapped to the same
abbrev pub LinkAgrees : (Token → List ℕ) → Note → Type 0
LinkAgrees map (Linked x y) = map x ≡ map y
LinkAgrees map _ = Unit {0}

-- a macro of this name stood under the identifier, and is linked with it
pub record IsReplacedBy (map : Token → List ℕ) (table : Table) (name macro_name : Token) : Type 0 where
  pub identifier : is_name name ≡ true
  pub definition : Definition
  pub defined : table name.text ≡ Some definition
  pub same : definition.name ≡ macro_name
  pub agrees : links_name definition.form ≡ true → map name ≡ map definition.name

abbrev pub NameAgrees : (Token → List ℕ) → Table → Note → Type 0
NameAgrees map table (Replaced name m before) = IsReplacedBy map table name m
NameAgrees map table _ = Unit {0}

making_agrees : (map : Token → List ℕ) (table : Table) (notes : List Note) → AllNotes IsMaking notes → AllNotes (NameAgrees map table) notes
making_agrees map table [] h = tt
making_agrees map table (Replaced name m before ∷ notes) h = absurd (h.0)
making_agrees map table (Linked x y ∷ notes) h = (tt, making_agrees map table notes h.1)
making_agrees map table (Stringized toks s ∷ notes) h = (tt, making_agrees map table notes h.1)
making_agrees map table (Pasted x y z ∷ notes) h = (tt, making_agrees map table notes h.1)
making_agrees map table (Counted z ∷ notes) h = (tt, making_agrees map table notes h.1)

-- where links agree, names agree with those of their macros
abbrev Agrees : (Token → List ℕ) → Table → List Note → Type 0
Agrees map table notes = AllNotes (LinkAgrees map) notes → AllNotes (NameAgrees map table) notes

-- an expansion does so
unfoldable Keeps : (Token → List ℕ) → Table → Next → Type 0
Keeps map table f = (depth before : ℕ) (ts : List Hidden) (work : Work) (e : Expanded) → f depth before ts work ≡ Ok e → Agrees map table e.notes

module _ (mapped : Token → List ℕ) (set : Setting) (f : Next) (keeps : Keeps mapped set.table f) where
  abbrev M : Note → Type 0
  M = LinkAgrees mapped

  abbrev N : Note → Type 0
  N = NameAgrees mapped set.table

  next_good : (depth before : ℕ) (ts : List Hidden) (work : Work) (e : Expanded) → f depth before ts work ≡ Ok e → AllNotes M e.notes → AllNotes N e.notes
  unfolding Keeps
  next_good = keeps

  stays_good : (depth before : ℕ) (t : Hidden) (ts : List Hidden) (work : Work) (e : Expanded) → stays f depth before t ts work ≡ Ok e → AllNotes M e.notes → AllNotes N e.notes
  stays_good depth before t ts work e is told =
      let i = onward_ok {A = Expanded} (f depth (one_more depth before) ts work) (λ o. Ok (put_out t o)) e is in
      let Q : Expanded → Type 0 = λ v. AllNotes M v.notes → AllNotes N v.notes in
      subst Q (ok_same (put_out t i.0) e i.2) (λ r. next_good depth (one_more depth before) ts work i.0 i.1 r) told

  full_step_good : (wanted : Bool) (depth before : ℕ) (name : Token) (a : List Hidden) (work : Work) (rest : Work → Result Full Fault)
      → ((left : Work) (v : Full) → rest left ≡ Ok v → AllNotes M v.notes → AllNotes N v.notes)
      → (v : Full) → full_step wanted f depth before name a work rest ≡ Ok v → AllNotes M v.notes → AllNotes N v.notes
  full_step_good false depth before name a work rest behind v is told =
      let i = onward_ok {A = Full} (rest work) (λ x. Ok (without_full x)) v is in
      let Q : Full → Type 0 = λ x. AllNotes M x.notes → AllNotes N x.notes in
      subst Q (ok_same (without_full i.0) v i.2) (λ r. behind work i.0 i.1 r) told
  full_step_good true depth before name a work rest behind v is told =
      let i = onward_ok {A = Expanded} (alone f depth before name a work) (λ e. onward (rest e.left) (λ x. Ok (with_full e x))) v is in
      let j = onward_ok {A = Full} (rest i.0.left) (λ x. Ok (with_full i.0 x)) v i.2 in
      let c = cond_ok_yes (nat_lt depth most_depth) (TooDeep name.at) (f (suc depth) before a work) i.0 i.1 in
      let Q : Full → Type 0 = λ x. AllNotes M x.notes → AllNotes N x.notes in
      subst Q (ok_same (with_full i.0 j.0) v j.2) (λ both.
      let each = notes_split M i.0.notes j.0.notes both in
      notes_both N i.0.notes j.0.notes (next_good (suc depth) before a work i.0 c.1 each.0) (behind i.0.left j.0 j.1 each.1)) told

  full_good : (depth before : ℕ) (name : Token) (chains : List (List Part)) (i : ℕ) (lists : List (List Hidden)) (work : Work) (v : Full)
      → full_from f depth before name chains i lists work ≡ Ok v → AllNotes M v.notes → AllNotes N v.notes
  full_good depth before name chains i [] work v is told =
      let Q : Full → Type 0 = λ x. AllNotes N x.notes in
      subst Q (ok_same (full [] [] work) v is) tt
  full_good depth before name chains i (a ∷ lists) work v is told =
      full_step_good (occurs_alone i chains) depth before name a work (full_from f depth before name chains (suc i) lists)
      (λ left x x_is r. full_good depth before name chains (suc i) lists left x x_is r) v is told

  spent_good : (name : Token) (cost : ℕ) (work : Work) (r : Result (Made (List Hidden)) Fault) → ((m : Made (List Hidden)) → r ≡ Ok m → AllNotes N m.notes)
      → (e : Expanded) → spent name cost work r ≡ Ok e → AllNotes N e.notes
  spent_good name cost work r fine e is =
      let put : Made (List Hidden) → Result Expanded Fault = λ m. Ok (expanded m.value m.notes (record work { left = work.left - cost })) in
      let c = cond_ok (nat_lt work.left cost) (TooMuchWork name.at) (onward r put) e is in
      let i = onward_ok {A = Made (List Hidden)} r put e c.1 in
      let Q : Expanded → Type 0 = λ x. AllNotes N x.notes in
      subst Q (ok_same (expanded i.0.value i.0.notes (record work { left = work.left - cost })) e i.2) (fine i.0 i.1)

  substituted_good : (depth before : ℕ) (name : Token) (m : Definition) (raw : List (List Hidden)) (work : Work) (e : Expanded)
      → substituted f depth before name m raw work ≡ Ok e → AllNotes M e.notes → AllNotes N e.notes
  substituted_good depth before name m raw work e is told =
      let args : List (List Hidden) → Arguments = λ lists. record { raw = raw; full = lists } in
      let next : Full → Result Expanded Fault = λ x. onward (spent name (cost_of name (args x.lists) (chains_of m)) x.left (result_of name (args x.lists) (chains_of m))) (λ o. Ok (noted x.notes o)) in
      let i = onward_ok {A = Full} (full_from f depth before name (chains_of m) 0 raw work) next e is in
      let cost = cost_of name (args i.0.lists) (chains_of m) in
      let j = onward_ok {A = Expanded} (spent name cost i.0.left (result_of name (args i.0.lists) (chains_of m))) (λ o. Ok (noted i.0.notes o)) e i.2 in
      let Q : Expanded → Type 0 = λ v. AllNotes M v.notes → AllNotes N v.notes in
      subst Q (ok_same (noted i.0.notes j.0) e j.2) (λ both.
      let each = notes_split M i.0.notes j.0.notes both in
      let k = full_good depth before name (chains_of m) 0 raw work i.0 i.1 each.0 in
      let l = spent_good name cost i.0.left (result_of name (args i.0.lists) (chains_of m))
      (λ v v_is. making_agrees mapped set.table v.notes (result_making name m (args i.0.lists) v v_is)) j.0 j.1 in
      notes_both N i.0.notes j.0.notes k l) told

  no_notes : (t : Token) (m : Made (List Hidden)) → ◌≡◌ {A = Result (Made (List Hidden)) Fault} (Ok (made (hidden t [] ∷ []) [])) (Ok m) → AllNotes N m.notes
  no_notes t m e =
      let Q : Made (List Hidden) → Type 0 = λ x. AllNotes N x.notes in
      subst Q (ok_same (made (hidden t [] ∷ []) []) m e) tt

  one_number : (t : Token) (m : Made (List Hidden)) → ◌≡◌ {A = Result (Made (List Hidden)) Fault} (Ok (made (hidden t [] ∷ []) (Counted t ∷ []))) (Ok m) → AllNotes N m.notes
  one_number t m e =
      let Q : Made (List Hidden) → Type 0 = λ x. AllNotes N x.notes in
      subst Q (ok_same (made (hidden t [] ∷ []) (Counted t ∷ [])) m e) (tt, tt)

  put_for_good : (kind : Form) (depth before : ℕ) (name : Token) (m : Definition) (raw : List (List Hidden)) (work : Work) (e : Expanded)
      → put_for kind set.path f depth before name m raw work ≡ Ok e → AllNotes M e.notes → AllNotes N e.notes
  put_for_good form.Line depth before name m raw work e is told =
      spent_good name 1 work (Ok (made (hidden (line_number name) [] ∷ []) [])) (no_notes (line_number name)) e is
  put_for_good form.File depth before name m raw work e is told =
      spent_good name 1 work (Ok (made (hidden (path_string set.path name) [] ∷ []) [])) (no_notes (path_string set.path name)) e is
  put_for_good form.Counter depth before name m raw work e is told =
      let c = cond_ok_yes (nat_lt work.counter most_bytes) (TooMuchWork name.at) (numbered name work) e is in
      spent_good name 1 (record work { counter = work.counter + 1 }) _ (one_number (number_token name work.counter)) e c.1
  put_for_good form.Object depth before name m raw work e is told = substituted_good depth before name m raw work e is told
  put_for_good form.Function depth before name m raw work e is told = substituted_good depth before name m raw work e is told

  -- the first notes of a replacement
  first_good : (b : Bool) (name : Token) (m : Definition) (before : ℕ) → links_name m.form ≡ b → (is_name name ≡ true) × (set.table name.text ≡ Some m)
      → AllNotes M (Replaced name m.name before ∷ cond b (Linked name m.name ∷ []) []) → AllNotes N (Replaced name m.name before ∷ cond b (Linked name m.name ∷ []) [])
  first_good true name m before is found told = (record { identifier = found.0; definition = m; defined = found.1; same = refl; agrees = λ links. told.1.0 }, (tt, tt))
  first_good false name m before is found told = (record { identifier = found.0; definition = m; defined = found.1; same = refl; agrees = λ links. absurd (cc) }, tt)

  replaced_good : (depth before : ℕ) (name : Token) (m : Definition) (added : List (List ℕ)) → (is_name name ≡ true) × (set.table name.text ≡ Some m)
      → (raw : List (List Hidden)) (ts : List Hidden) (work : Work) (e : Expanded)
      → replaced set f depth before name m added raw ts work ≡ Ok e → AllNotes M e.notes → AllNotes N e.notes
  replaced_good depth before name m added found raw ts work e is told =
      let after : Expanded → Result Expanded Fault = λ x. onward (f depth before (map (hide_more added) x.toks ++ ts) x.left) (λ rest. Ok (noted (first_notes name m before ++ x.notes) rest)) in
      let i = onward_ok {A = Expanded} (put_for m.form set.path f depth before name m raw work) after e is in
      let list : List Hidden = map (hide_more added) i.0.toks ++ ts in
      let j = onward_ok {A = Expanded} (f depth before list i.0.left) (λ rest. Ok (noted (first_notes name m before ++ i.0.notes) rest)) e i.2 in
      let Q : Expanded → Type 0 = λ v. AllNotes M v.notes → AllNotes N v.notes in
      subst Q (ok_same (noted (first_notes name m before ++ i.0.notes) j.0) e j.2) (λ all.
      let first = notes_split M (first_notes name m before ++ i.0.notes) j.0.notes all in
      let second = notes_split M (first_notes name m before) i.0.notes first.0 in
      let k = put_for_good m.form depth before name m raw work i.0 i.1 second.1 in
      let l = next_good depth before list i.0.left j.0 j.1 first.1 in
      let own : AllNotes N (first_notes name m before) = first_good (links_name m.form) name m before refl found second.0 in
      notes_both N (first_notes name m before ++ i.0.notes) j.0.notes (notes_both N (first_notes name m before) i.0.notes own k) l) told

  called_good : (depth before : ℕ) (t : Hidden) (m : Definition) → (is_name t.tok ≡ true) × (set.table t.tok.text ≡ Some m) → (work : Work) (call : Option Call) (e : Expanded)
      → called set f depth before t m work call ≡ Ok e → AllNotes M e.notes → AllNotes N e.notes
  called_good depth before t m found work None e is told = err_ok (OpenCall t.tok.at) e is
  called_good depth before t m found work (Some call) e is told = by (arguments_of m call.arguments) is
    where
      by : (raw : Option (List (List Hidden))) → called_with set f depth before t m call work raw ≡ Ok e → AllNotes N e.notes
      by None k = err_ok (WrongArguments t.tok.at) e k
      by (Some raw) k = replaced_good depth before t.tok m (added_by t call.close) found raw call.rest work e k told

  act_good : (depth before : ℕ) (t : Hidden) (ts : List Hidden) (work : Work) (e : Expanded) (m : Option Definition)
      → macro_of set.table t ≡ m → act set f depth before t ts work m ≡ Ok e → AllNotes M e.notes → AllNotes N e.notes
  act_good depth before t ts work e None is_m is told = stays_good depth before t ts work e is told
  act_good depth before t ts work e (Some m) is_m is told = by (is_function m.form) is
    where
      found : (is_name t.tok ≡ true) × (set.table t.tok.text ≡ Some m)
      found = found_macro set.table t m is_m

      in_call : (zs : List Hidden) → behind_name set f depth before t m zs work ≡ Ok e → AllNotes N e.notes
      in_call [] k = stays_good depth before t [] work e k told
      in_call (p ∷ zs) k = opened (is_open p.tok) k
        where
          opened : (opens : Bool) → cond opens (called set f depth before t m work (call_from zs (commas_of m) 0)) (stays f depth before t (p ∷ zs) work) ≡ Ok e → AllNotes N e.notes
          opened true l = called_good depth before t m found work (call_from zs (commas_of m) 0) e l told
          opened false l = stays_good depth before t (p ∷ zs) work e l told

      by : (fn : Bool) → cond fn (behind_name set f depth before t m ts work) (replaced set f depth before t.tok m (t.hides ++ t.tok.text ∷ []) [] ts work) ≡ Ok e → AllNotes N e.notes
      by true k = in_call ts k
      by false k = replaced_good depth before t.tok m (t.hides ++ t.tok.text ∷ []) found [] ts work e k told

  step_good : (depth before : ℕ) (ts : List Hidden) (work : Work) (e : Expanded) → step set f depth before ts work ≡ Ok e → AllNotes M e.notes → AllNotes N e.notes
  step_good depth before [] work e is told =
      let Q : Expanded → Type 0 = λ x. AllNotes N x.notes in
      subst Q (ok_same (expanded [] [] work) e is) tt
  step_good depth before (t ∷ ts) work e is told = act_good depth before t ts work e (macro_of set.table t) refl is told

step_keeps : (map : Token → List ℕ) (set : Setting) (f : Next) → Keeps map set.table f → Keeps map set.table (step set f)
unfolding Keeps
step_keeps map set f keeps = λ depth before ts work e is told. step_good map set f keeps depth before ts work e is told

steps_keep : (map : Token → List ℕ) (set : Setting) (n : ℕ) → Keeps map set.table (steps n set)
unfolding Keeps steps
steps_keep map set zero = λ depth before ts work e is told.
    let Q : Expanded → Type 0 = λ x. AllNotes (NameAgrees map set.table) x.notes in
    subst Q (ok_same (expanded [] [] work) e is) tt
steps_keep map set (suc n) = step_keeps map set (steps n set) (steps_keep map set n)

whole_keeps : (map : Token → List ℕ) (set : Setting) (depth before : ℕ) (ts : List Hidden) (work : Work) (e : Expanded)
    → whole set depth before ts work ≡ Ok e → Agrees map set.table e.notes
unfolding whole Keeps
whole_keeps map set depth before ts work e is =
    let keeps : (depth before : ℕ) (ts2 : List Hidden) (work2 : Work) (e : Expanded) → steps (suc (work.left + length ts)) set depth before ts2 work2 ≡ Ok e
    → Agrees map set.table e.notes = steps_keep map set (suc (work.left + length ts)) in
    keeps depth before ts work e is

-- Where both tokens of each link are mapped to the same, so are replaced names and those of their macros.
pub replaced_agree : (map : Token → List ℕ) (table : Table) (path : List ℕ) (run : List Token) (work : Work) (e : Expanded)
    → expansion table path run work ≡ Ok e → AllNotes (LinkAgrees map) e.notes → AllNotes (NameAgrees map table) e.notes
unfolding expansion
replaced_agree map table path run work e is told = whole_keeps map (record { table = table; path = path }) 0 0 (unhidden run) work e is told
