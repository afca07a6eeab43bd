-- What an expansion keeps true of its tokens, and of what happens in it.
use Rattle.std.proofs.Common.{◌≡◌, ℕ, zero, suc, ◌+◌, ◌-◌, ◌&&◌, Bool, true, false, not, cond, List, [], ◌∷◌, ◌++◌, length, map, Option, Some, None, Result, Ok, refl, sym, subst, nat_lt}
use Rattle.std.proofs.lemmas.Option.{none-some}
use Rattle.cs_base.specs.Limits.{most_bytes}
use Rattle.cs_base.specs.Token.{Token}
use Rattle.line_shape.specs.Signs.{is_name, is_open}
use Rattle.macro_body.specs.declared.notes.Work.{Work}
use Rattle.macro_body.specs.declared.definitions.Form.{Form}
use Rattle.macro_body.specs.declared.definitions.Form.TheVariants as form
use Rattle.macro_body.specs.declared.definitions.Definition.{Definition}
use Rattle.macro_body.specs.Hides.{Hidden, hidden, hide_more, hides_name, unhidden}
use Rattle.macro_body.specs.Macro.{Table, is_function}
use Rattle.macro_body.specs.Bodies.{Part, chains_of, occurs_alone}
use Rattle.macro_expand.specs.Calls.{Call, call_from, commas_of, arguments_of}
use Rattle.macro_body.specs.Notes.{Fault, OpenCall, WrongArguments, TooMuchWork, TooDeep, Note, Counted, Replaced, Linked, Expanded, expanded, put_out, noted, onward}
use Rattle.macro_body.specs.Substitution.{Arguments, Made, made, result_of, cost_of, number_token, line_number, path_string}
use Rattle.macro_expand.specs.Expansion.{Setting, Next, most_depth, one_more, stays, Full, full, with_full, without_full, alone, full_step, full_from, spent, numbered, substituted, put_for, links_name, first_notes, replaced, added_by, called_with, called, behind_name, act, macro_of, step, steps, whole, expansion}
use Rattle.macro_body.proofs.ResultLemmas.{ok_same, err_ok, onward_ok, cond_ok, cond_ok_yes}
use Rattle.expansion_laws.proofs.ListLemmas.{AllToks, AllHidden, AllLists, AllNotes, notes_split, notes_both, hidden_both, hidden_more, good_call, good_arguments}
use Rattle.expansion_laws.proofs.RuleLemmas.{Rules, HasPutIn, Fine, FineArguments, chains_of_have, result_kept}

-- what is true of an expansion
abbrev pub Good : (Token → Type 0) → (Note → Type 0) → Expanded → Type 0
Good P N e = AllHidden P e.toks × AllNotes N e.notes

-- the same of expanded arguments
abbrev GoodFull : (Token → Type 0) → (Note → Type 0) → Full → Type 0
GoodFull P N v = AllLists P v.lists × AllNotes N v.notes

-- an expansion of such tokens is so
unfoldable Keeps : (Token → Type 0) → (Note → Type 0) → (Note → Type 0) → Next → Type 0
Keeps P M N f = (depth before : ℕ) (ts : List Hidden) (work : Work) (e : Expanded) → AllHidden P ts → f depth before ts work ≡ Ok e → AllNotes M e.notes → Good P N e

pub found_macro : (table : Table) (t : Hidden) (m : Definition) → macro_of table t ≡ Some m → (is_name t.tok ≡ true) × (table t.tok.text ≡ Some m)
found_macro table t m e = by (is_name t.tok) refl e
  where
    by : (b : Bool) → is_name t.tok ≡ b → cond (b && not (hides_name t.hides t.tok.text)) (table t.tok.text) None ≡ Some m → (is_name t.tok ≡ true) × (table t.tok.text ≡ Some m)
    by false is k = absurd (none-some m k)
    by true is k = open_ (hides_name t.hides t.tok.text) k
      where
        open_ : (h : Bool) → cond (not h) (table t.tok.text) None ≡ Some m → (is_name t.tok ≡ true) × (table t.tok.text ≡ Some m)
        open_ true l = absurd (none-some m l)
        open_ false l = (is, l)

module _ (P : Token → Type 0) (M N : Note → Type 0) (set : Setting) (rules : Rules P M N set) (f : Next) (keeps : Keeps P M N f) where
  next_good : (depth before : ℕ) (ts : List Hidden) (work : Work) (e : Expanded) → AllHidden P ts → f depth before ts work ≡ Ok e → AllNotes M e.notes → Good P N e
  unfolding Keeps
  next_good = keeps

  stays_good : (depth before : ℕ) (t : Hidden) (ts : List Hidden) (work : Work) (e : Expanded) → AllHidden P (t ∷ ts)
      → stays f depth before t ts work ≡ Ok e → AllNotes M e.notes → Good P N e
  stays_good depth before t ts work e good is told =
      let i = onward_ok {A = Expanded} (f depth (one_more depth before) ts work) (λ o. Ok (put_out t o)) e is in
      let Q : Expanded → Type 0 = λ v. AllNotes M v.notes → Good P N v in
      subst Q (ok_same (put_out t i.0) e i.2) (λ r.
      let k = next_good depth (one_more depth before) ts work i.0 good.1 i.1 r in
      ((good.0, k.0), k.1)) told

  full_step_good : (wanted : Bool) (depth before : ℕ) (name : Token) (a : List Hidden) (work : Work) (rest : Work → Result Full Fault)
      → AllHidden P a → ((left : Work) (v : Full) → rest left ≡ Ok v → AllNotes M v.notes → GoodFull P N v)
      → (v : Full) → full_step wanted f depth before name a work rest ≡ Ok v → AllNotes M v.notes → GoodFull P N v
  full_step_good false depth before name a work rest here behind v is told =
      let i = onward_ok {A = Full} (rest work) (λ x. Ok (without_full x)) v is in
      let Q : Full → Type 0 = λ x. AllNotes M x.notes → GoodFull P N x in
      subst Q (ok_same (without_full i.0) v i.2) (λ r. let k = behind work i.0 i.1 r in ((tt, k.0), k.1)) told
  full_step_good true depth before name a work rest here behind v is told =
      let i = onward_ok {A = Expanded} (alone f depth before name a work) (λ e. onward (rest e.left) (λ x. Ok (with_full e x))) v is in
      let j = onward_ok {A = Full} (rest i.0.left) (λ x. Ok (with_full i.0 x)) v i.2 in
      let c = cond_ok_yes (nat_lt depth most_depth) (TooDeep name.at) (f (suc depth) before a work) i.0 i.1 in
      let Q : Full → Type 0 = λ x. AllNotes M x.notes → GoodFull P N x in
      subst Q (ok_same (with_full i.0 j.0) v j.2) (λ both.
      let each = notes_split M i.0.notes j.0.notes both in
      let first = next_good (suc depth) before a work i.0 here c.1 each.0 in
      let later = behind i.0.left j.0 j.1 each.1 in
      ((first.0, later.0), notes_both N i.0.notes j.0.notes first.1 later.1)) told

  full_good : (depth before : ℕ) (name : Token) (chains : List (List Part)) (i : ℕ) (lists : List (List Hidden)) → AllLists P lists
      → (work : Work) (v : Full) → full_from f depth before name chains i lists work ≡ Ok v → AllNotes M v.notes → GoodFull P N v
  full_good depth before name chains i [] good work v is told = subst (GoodFull P N) (ok_same (full [] [] work) v is) (tt, tt)
  full_good depth before name chains i (a ∷ lists) good work v is told =
      full_step_good (occurs_alone i chains) depth before name a work (full_from f depth before name chains (suc i) lists) good.0
      (λ left x x_is r. full_good depth before name chains (suc i) lists good.1 left x x_is r) v is told

  spent_good : (name : Token) (cost : ℕ) (work : Work) (r : Result (Made (List Hidden)) Fault) → ((m : Made (List Hidden)) → r ≡ Ok m → AllNotes M m.notes → Fine P N m)
      → (e : Expanded) → spent name cost work r ≡ Ok e → AllNotes M e.notes → Good P N e
  spent_good name cost work r fine e is told =
      let put : Made (List Hidden) → Result Expanded Fault = λ m. Ok (expanded m.value m.notes (record work { left = work.left - cost })) in
      let c = cond_ok (nat_lt work.left cost) (TooMuchWork name.at) (onward r put) e is in
      let i = onward_ok {A = Made (List Hidden)} r put e c.1 in
      let Q : Expanded → Type 0 = λ v. AllNotes M v.notes → Good P N v in
      subst Q (ok_same (expanded i.0.value i.0.notes (record work { left = work.left - cost })) e i.2) (λ all. fine i.0 i.1 all) told

  substituted_good : (depth before : ℕ) (name : Token) (m : Definition) → P name → AllToks (HasPutIn P name) m.body → (raw : List (List Hidden)) → AllLists P raw
      → (work : Work) (e : Expanded) → substituted f depth before name m raw work ≡ Ok e → AllNotes M e.notes → Good P N e
  substituted_good depth before name m here body raw good work e is told =
      let args : List (List Hidden) → Arguments = λ lists. record { raw = raw; full = lists } in
      let next : Full → Result Expanded Fault = λ x. onward (spent name (cost_of name (args x.lists) (chains_of m)) x.left (result_of name (args x.lists) (chains_of m))) (λ o. Ok (noted x.notes o)) in
      let i = onward_ok {A = Full} (full_from f depth before name (chains_of m) 0 raw work) next e is in
      let cost = cost_of name (args i.0.lists) (chains_of m) in
      let j = onward_ok {A = Expanded} (spent name cost i.0.left (result_of name (args i.0.lists) (chains_of m))) (λ o. Ok (noted i.0.notes o)) e i.2 in
      let Q : Expanded → Type 0 = λ v. AllNotes M v.notes → Good P N v in
      subst Q (ok_same (noted i.0.notes j.0) e j.2) (λ both.
      let each = notes_split M i.0.notes j.0.notes both in
      let k = full_good depth before name (chains_of m) 0 raw good work i.0 i.1 each.0 in
      let fine_args : FineArguments P (args i.0.lists) = record { raw = good; full = k.0 } in
      let l = spent_good name cost i.0.left (result_of name (args i.0.lists) (chains_of m))
      (λ v v_is all. result_kept P M N set rules name here (args i.0.lists) fine_args (chains_of m) (chains_of_have (HasPutIn P name) m body) v v_is all) j.0 j.1 each.1 in
      (l.0, notes_both N i.0.notes j.0.notes k.1 l.1)) told

  one_fine : (t : Token) → P t → (m : Made (List Hidden)) → ◌≡◌ {A = Result (Made (List Hidden)) Fault} (Ok (made (hidden t [] ∷ []) [])) (Ok m) → Fine P N m
  one_fine t here m e = subst (Fine P N) (ok_same (made (hidden t [] ∷ []) []) m e) ((here, tt), tt)

  number_fine : (name : Token) (n : ℕ) → P name → nat_lt n most_bytes ≡ true → (m : Made (List Hidden))
      → ◌≡◌ {A = Result (Made (List Hidden)) Fault} (Ok (made (hidden (number_token name n) [] ∷ []) (Counted (number_token name n) ∷ []))) (Ok m) → AllNotes M m.notes → Fine P N m
  number_fine name n here low m e told =
      let Q : Made (List Hidden) → Type 0 = λ v. AllNotes M v.notes → Fine P N v in
      subst Q (ok_same (made (hidden (number_token name n) [] ∷ []) (Counted (number_token name n) ∷ [])) m e)
      (λ all. let z = rules.numbers name n here low all.0 in ((z, tt), (rules.counted name n here z, tt))) told

  put_for_good : (kind : Form) (depth before : ℕ) (name : Token) (m : Definition) → m.form ≡ kind → P name → set.table name.text ≡ Some m
      → M (Replaced name m.name before) → (raw : List (List Hidden)) → AllLists P raw → (work : Work) (e : Expanded)
      → put_for kind set.path f depth before name m raw work ≡ Ok e → AllNotes M e.notes → Good P N e
  put_for_good form.Line depth before name m form_is here found brought raw good work e is told =
      spent_good name 1 work (Ok (made (hidden (line_number name) [] ∷ []) [])) (λ v v_is all. one_fine (line_number name) (rules.lines name m before here found form_is brought) v v_is) e is told
  put_for_good form.File depth before name m form_is here found brought raw good work e is told =
      spent_good name 1 work (Ok (made (hidden (path_string set.path name) [] ∷ []) [])) (λ v v_is all. one_fine (path_string set.path name) (rules.paths name m here found form_is) v v_is) e is told
  put_for_good form.Counter depth before name m form_is here found brought raw good work e is told =
      let c = cond_ok_yes (nat_lt work.counter most_bytes) (TooMuchWork name.at) (numbered name work) e is in
      spent_good name 1 (record work { counter = work.counter + 1 }) _ (number_fine name work.counter here c.0) e c.1 told
  put_for_good form.Object depth before name m form_is here found brought raw good work e is told =
      substituted_good depth before name m here (rules.bodies name m here found) raw good work e is told
  put_for_good form.Function depth before name m form_is here found brought raw good work e is told =
      substituted_good depth before name m here (rules.bodies name m here found) raw good work e is told

  link_good : (b : Bool) (name : Token) (m : Definition) → links_name m.form ≡ b → P name → is_name name ≡ true → set.table name.text ≡ Some m
      → AllNotes N (cond b (Linked name m.name ∷ []) [])
  link_good false name m is here name_is found = tt
  link_good true name m is here name_is found = (rules.linked name m here name_is found is, tt)

  replaced_good : (depth before : ℕ) (name : Token) (m : Definition) (added : List (List ℕ)) → P name → is_name name ≡ true → set.table name.text ≡ Some m
      → (raw : List (List Hidden)) → AllLists P raw → (ts : List Hidden) → AllHidden P ts → (work : Work) (e : Expanded)
      → replaced set f depth before name m added raw ts work ≡ Ok e → AllNotes M e.notes → Good P N e
  replaced_good depth before name m added here name_is found raw good ts good_ts work e is told =
      let after : Expanded → Result Expanded Fault = λ x. onward (f depth before (map (hide_more added) x.toks ++ ts) x.left) (λ rest. Ok (noted (first_notes name m before ++ x.notes) rest)) in
      let i = onward_ok {A = Expanded} (put_for m.form set.path f depth before name m raw work) after e is in
      let list : List Hidden = map (hide_more added) i.0.toks ++ ts in
      let j = onward_ok {A = Expanded} (f depth before list i.0.left) (λ rest. Ok (noted (first_notes name m before ++ i.0.notes) rest)) e i.2 in
      let Q : Expanded → Type 0 = λ v. AllNotes M v.notes → Good P N v in
      subst Q (ok_same (noted (first_notes name m before ++ i.0.notes) j.0) e j.2) (λ all.
      let first = notes_split M (first_notes name m before ++ i.0.notes) j.0.notes all in
      let second = notes_split M (first_notes name m before) i.0.notes first.0 in
      let k = put_for_good m.form depth before name m refl here found second.0.0 raw good work i.0 i.1 second.1 in
      let l = next_good depth before list i.0.left j.0 (hidden_both P (map (hide_more added) i.0.toks) ts (hidden_more P added i.0.toks k.0) good_ts) j.1 first.1 in
      let own : AllNotes N (first_notes name m before) = (rules.replaced name m before here name_is found, link_good (links_name m.form) name m refl here name_is found) in
      (l.0, notes_both N (first_notes name m before ++ i.0.notes) j.0.notes (notes_both N (first_notes name m before) i.0.notes own k.1) l.1)) told

  called_good : (depth before : ℕ) (t : Hidden) (m : Definition) → P t.tok → is_name t.tok ≡ true → set.table t.tok.text ≡ Some m
      → (ts : List Hidden) (work : Work) → AllHidden P ts → (call : Option Call) → call_from ts (commas_of m) 0 ≡ call → (e : Expanded)
      → called set f depth before t m work call ≡ Ok e → AllNotes M e.notes → Good P N e
  called_good depth before t m here name_is found ts work good None call_is e is told = err_ok (OpenCall t.tok.at) e is
  called_good depth before t m here name_is found ts work good (Some call) call_is e is told = by (arguments_of m call.arguments) refl is
    where
      by : (raw : Option (List (List Hidden))) → arguments_of m call.arguments ≡ raw → called_with set f depth before t m call work raw ≡ Ok e → Good P N e
      by None args_are k = err_ok (WrongArguments t.tok.at) e k
      by (Some raw) args_are k =
          let fine = good_call P ts (commas_of m) 0 good call call_is in
          replaced_good depth before t.tok m (added_by t call.close) here name_is found raw
          (good_arguments P m call.arguments raw fine.each args_are) call.rest fine.rest work e k told

  act_good : (depth before : ℕ) (t : Hidden) (ts : List Hidden) (work : Work) → AllHidden P (t ∷ ts) → (e : Expanded) (m : Option Definition)
      → macro_of set.table t ≡ m → act set f depth before t ts work m ≡ Ok e → AllNotes M e.notes → Good P N e
  act_good depth before t ts work good e None is_m is told = stays_good depth before t ts work e good is told
  act_good depth before t ts work good e (Some m) is_m is told = by (is_function m.form) is
    where
      found : (is_name t.tok ≡ true) × (set.table t.tok.text ≡ Some m)
      found = found_macro set.table t m is_m

      in_call : (zs : List Hidden) → zs ≡ ts → behind_name set f depth before t m zs work ≡ Ok e → Good P N e
      in_call [] zs_are k = stays_good depth before t [] work e (good.0, tt) k told
      in_call (p ∷ zs) zs_are k = opened (is_open p.tok) k
        where
          fine : AllHidden P (p ∷ zs)
          fine = subst (AllHidden P) (sym zs_are) good.1

          opened : (opens : Bool) → cond opens (called set f depth before t m work (call_from zs (commas_of m) 0)) (stays f depth before t (p ∷ zs) work) ≡ Ok e → Good P N e
          opened true k = called_good depth before t m good.0 found.0 found.1 zs work fine.1 (call_from zs (commas_of m) 0) refl e k told
          opened false k = stays_good depth before t (p ∷ zs) work e (good.0, fine) k told

      by : (fn : Bool) → cond fn (behind_name set f depth before t m ts work) (replaced set f depth before t.tok m (t.hides ++ t.tok.text ∷ []) [] ts work) ≡ Ok e → Good P N e
      by true k = in_call ts refl k
      by false k = replaced_good depth before t.tok m (t.hides ++ t.tok.text ∷ []) good.0 found.0 found.1 [] tt ts good.1 work e k told

  step_good : (depth before : ℕ) (ts : List Hidden) (work : Work) (e : Expanded) → AllHidden P ts → step set f depth before ts work ≡ Ok e → AllNotes M e.notes → Good P N e
  step_good depth before [] work e good is told = subst (Good P N) (ok_same (expanded [] [] work) e is) (tt, tt)
  step_good depth before (t ∷ ts) work e good is told = act_good depth before t ts work good e (macro_of set.table t) refl is told

-- One step keeps it where what follows does; so do all.
step_keeps : (P : Token → Type 0) (M N : Note → Type 0) (set : Setting) → Rules P M N set → (f : Next) → Keeps P M N f → Keeps P M N (step set f)
unfolding Keeps
step_keeps P M N set rules f keeps = λ depth before ts work e good is told. step_good P M N set rules f keeps depth before ts work e good is told

steps_keep : (P : Token → Type 0) (M N : Note → Type 0) (set : Setting) → Rules P M N set → (n : ℕ) → Keeps P M N (steps n set)
unfolding Keeps steps
steps_keep P M N set rules zero = λ depth before ts work e good is told. subst (Good P N) (ok_same (expanded [] [] work) e is) (tt, tt)
steps_keep P M N set rules (suc n) = step_keeps P M N set rules (steps n set) (steps_keep P M N set rules n)

pub whole_keeps : (P : Token → Type 0) (M N : Note → Type 0) (set : Setting) → Rules P M N set → (depth before : ℕ) (ts : List Hidden) (work : Work) (e : Expanded)
    → AllHidden P ts → whole set depth before ts work ≡ Ok e → AllNotes M e.notes → Good P N e
unfolding whole Keeps
whole_keeps P M N set rules depth before ts work e good is told =
    let keeps : (depth before : ℕ) (ts2 : List Hidden) (work2 : Work) (e : Expanded) → AllHidden P ts2 → steps (suc (work.left + length ts)) set depth before ts2 work2 ≡ Ok e
    → AllNotes M e.notes → Good P N e = steps_keep P M N set rules (suc (work.left + length ts)) in
    keeps depth before ts work e good is told

unhidden_good : (P : Token → Type 0) (run : List Token) → AllToks P run → AllHidden P (unhidden run)
unhidden_good P [] h = tt
unhidden_good P (t ∷ ts) h = (h.0, unhidden_good P ts h.1)

pub expansion_keeps : (P : Token → Type 0) (M N : Note → Type 0) (table : Table) (path : List ℕ) → Rules P M N (record { table = table; path = path })
    → (run : List Token) (work : Work) (e : Expanded) → AllToks P run → expansion table path run work ≡ Ok e → AllNotes M e.notes → Good P N e
unfolding expansion
expansion_keeps P M N table path rules run work e good is told =
    whole_keeps P M N (record { table = table; path = path }) rules 0 0 (unhidden run) work e (unhidden_good P run good) is told
