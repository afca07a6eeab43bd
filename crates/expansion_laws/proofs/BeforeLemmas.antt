-- The notes of an expansion tell how many tokens were put out before: never fewer than before its first token, and never more
-- than behind its last one.
use Rattle.std.proofs.Common.{◌≡◌, ℕ, zero, suc, ◌+◌, ◌-◌, ◌≤◌, Bool, true, false, cond, List, [], ◌∷◌, ◌++◌, length, map, Option, Some, None, Result, Ok, subst, nat_lt, arith}
use Rattle.std.proofs.lemmas.Option.{none-some}
use Rattle.cs_base.specs.Limits.{most_bytes}
use Rattle.cs_base.specs.Token.{Token}
use Rattle.line_shape.specs.Signs.{is_open}
use Rattle.macro_body.specs.declared.notes.Work.{Work}
use Rattle.macro_body.specs.declared.definitions.Form.{Form}
use Rattle.macro_body.specs.declared.definitions.Form.TheVariants as form
use Rattle.macro_body.specs.declared.definitions.Definition.{Definition}
use Rattle.macro_body.specs.Hides.{Hidden, hidden, hide_more}
use Rattle.macro_body.specs.Live.{no_macro}
use Rattle.macro_body.specs.Macro.{is_function}
use Rattle.macro_body.specs.Bodies.{Part, chains_of, occurs_alone}
use Rattle.macro_expand.specs.Calls.{Call, call_from, commas_of, arguments_of}
use Rattle.macro_body.specs.Notes.{Fault, OpenCall, WrongArguments, TooMuchWork, TooDeep, Note, Counted, Replaced, Linked, Stringized, Pasted, Expanded, expanded, put_out, noted, onward}
use Rattle.macro_body.specs.Substitution.{Arguments, Made, made, result_of, cost_of, number_token, line_number, path_string}
use Rattle.macro_expand.specs.Expansion.{Setting, Next, most_depth, one_more, stays, Full, full, with_full, without_full, alone, full_step, full_from, spent, numbered, substituted, put_for, links_name, first_notes, replaced, added_by, called_with, called, behind_name, act, macro_of, step, steps, whole}
use Rattle.macro_expand.specs.Laws.{put_out_after}
use Rattle.macro_body.proofs.ResultLemmas.{ok_same, err_ok, onward_ok, cond_ok, cond_ok_yes}
use Rattle.expansion_laws.proofs.ListLemmas.{AllHidden, AllLists, AllNotes, notes_both}
use Rattle.expansion_laws.proofs.RuleLemmas.{Rules, HasPutIn, chains_of_have, result_kept}
use Rattle.expansion_laws.proofs.TellingLemmas.{Any, any_toks}

-- ---- notes of strings and of pasted tokens

-- the note tells of no replacement
abbrev IsMaking : Note → Type 0
IsMaking (Replaced name m before) = ⊥
IsMaking _ = Unit {0}

-- where there are no macros, all is so
abbrev no_setting : Setting
no_setting = record { table = no_macro; path = [] }

rules_making : Rules Any Any IsMaking no_setting
rules_making = record {
  spaced = λ t gap h. tt;
  moved = λ t h. tt;
  bodies = λ name m here found. any_toks m.body;
  lines = λ name m before here found is brought. tt;
  numbers = λ name n here low brought. tt;
  paths = λ name m here found is. tt;
  strings = λ name gap toks s here all made. tt;
  pastes = λ name x y z here px py made told. tt;
  replaced = λ name m before here is found. absurd (none-some m found);
  linked = λ name m here is found links. tt;
  stringized = λ toks s all made. tt;
  pasted = λ name x y z px py pz made. tt;
  counted = λ name n here z. tt;
}

any_hidden : (hs : List Hidden) → AllHidden Any hs
any_hidden [] = tt
any_hidden (h ∷ hs) = (tt, any_hidden hs)

any_notes : (notes : List Note) → AllNotes Any notes
any_notes [] = tt
any_notes (n ∷ notes) = (tt, any_notes notes)

any_lists : (lists : List (List Hidden)) → AllLists Any lists
any_lists [] = tt
any_lists (l ∷ lists) = (any_hidden l, any_lists lists)

result_making : (name : Token) (m : Definition) (args : Arguments) (v : Made (List Hidden)) → result_of name args (chains_of m) ≡ Ok v → AllNotes IsMaking v.notes
result_making name m args v e =
    (result_kept Any Any IsMaking no_setting rules_making name tt args (record { raw = any_lists args.raw; full = any_lists args.full }) (chains_of m)
    (chains_of_have (HasPutIn Any name) m (any_toks m.body)) v e (any_notes v.notes)).1

-- ---- so many tokens before

-- a name was replaced behind so many tokens at least, and at most
abbrev pub Between : ℕ → ℕ → Note → Type 0
Between low high (Replaced name m before) = (low ≤ before) × (before ≤ high)
Between low high _ = Unit {0}

between_more : (low high low2 high2 : ℕ) → low2 ≤ low → high ≤ high2 → (note : Note) → Between low high note → Between low2 high2 note
between_more low high low2 high2 h k (Replaced name m before) b = (omega (arith, b.0, h), omega (arith, b.1, k))
between_more low high low2 high2 h k (Linked x y) b = tt
between_more low high low2 high2 h k (Stringized toks s) b = tt
between_more low high low2 high2 h k (Pasted x y z) b = tt
between_more low high low2 high2 h k (Counted z) b = tt

pub wider : (low high low2 high2 : ℕ) (notes : List Note) → low2 ≤ low → high ≤ high2 → AllNotes (Between low high) notes → AllNotes (Between low2 high2) notes
wider low high low2 high2 [] h k all = tt
wider low high low2 high2 (note ∷ notes) h k all = (between_more low high low2 high2 h k note all.0, wider low high low2 high2 notes h k all.1)

making_between : (low high : ℕ) (notes : List Note) → AllNotes IsMaking notes → AllNotes (Between low high) notes
making_between low high [] h = tt
making_between low high (Replaced name m before ∷ notes) h = absurd (h.0)
making_between low high (Linked x y ∷ notes) h = (tt, making_between low high notes h.1)
making_between low high (Stringized toks s ∷ notes) h = (tt, making_between low high notes h.1)
making_between low high (Pasted x y z ∷ notes) h = (tt, making_between low high notes h.1)
making_between low high (Counted z ∷ notes) h = (tt, making_between low high notes h.1)

one_less : (depth before n : ℕ) → put_out_after depth (one_more depth before) n ≤ put_out_after depth before (suc n)
one_less zero before n = omega arith
one_less (suc depth) before n = omega arith

one_later : (depth before : ℕ) → before ≤ one_more depth before
one_later zero before = omega arith
one_later (suc depth) before = omega arith

later : (depth before n : ℕ) → before ≤ put_out_after depth before n
later zero before n = omega arith
later (suc depth) before n = omega arith

-- an expansion tells so
unfoldable Tells : Next → Type 0
Tells f = (depth before : ℕ) (ts : List Hidden) (work : Work) (e : Expanded) → f depth before ts work ≡ Ok e
    → AllNotes (Between before (put_out_after depth before (length e.toks))) e.notes

module _ (set : Setting) (f : Next) (tells : Tells f) where
  abbrev Here : ℕ → List Note → Type 0
  Here before notes = AllNotes (Between before before) notes

  next_tells : (depth before : ℕ) (ts : List Hidden) (work : Work) (e : Expanded) → f depth before ts work ≡ Ok e
      → AllNotes (Between before (put_out_after depth before (length e.toks))) e.notes
  unfolding Tells
  next_tells = tells

  stays_tells : (depth before : ℕ) (t : Hidden) (ts : List Hidden) (work : Work) (e : Expanded) → stays f depth before t ts work ≡ Ok e
      → AllNotes (Between before (put_out_after depth before (length e.toks))) e.notes
  stays_tells depth before t ts work e is =
      let i = onward_ok {A = Expanded} (f depth (one_more depth before) ts work) (λ o. Ok (put_out t o)) e is in
      let Q : Expanded → Type 0 = λ v. AllNotes (Between before (put_out_after depth before (length v.toks))) v.notes in
      subst Q (ok_same (put_out t i.0) e i.2)
      (wider (one_more depth before) (put_out_after depth (one_more depth before) (length i.0.toks)) before (put_out_after depth before (suc (length i.0.toks)))
      i.0.notes (one_later depth before) (one_less depth before (length i.0.toks)) (next_tells depth (one_more depth before) ts work i.0 i.1))

  full_step_tells : (wanted : Bool) (depth before : ℕ) (name : Token) (a : List Hidden) (work : Work) (rest : Work → Result Full Fault)
      → ((left : Work) (v : Full) → rest left ≡ Ok v → Here before v.notes)
      → (v : Full) → full_step wanted f depth before name a work rest ≡ Ok v → Here before v.notes
  full_step_tells false depth before name a work rest behind v is =
      let i = onward_ok {A = Full} (rest work) (λ x. Ok (without_full x)) v is in
      let Q : Full → Type 0 = λ x. Here before x.notes in
      subst Q (ok_same (without_full i.0) v i.2) (behind work i.0 i.1)
  full_step_tells true depth before name a work rest behind v is =
      let i = onward_ok {A = Expanded} (alone f depth before name a work) (λ e. onward (rest e.left) (λ x. Ok (with_full e x))) v is in
      let j = onward_ok {A = Full} (rest i.0.left) (λ x. Ok (with_full i.0 x)) v i.2 in
      let c = cond_ok_yes (nat_lt depth most_depth) (TooDeep name.at) (f (suc depth) before a work) i.0 i.1 in
      let Q : Full → Type 0 = λ x. Here before x.notes in
      subst Q (ok_same (with_full i.0 j.0) v j.2)
      (notes_both (Between before before) i.0.notes j.0.notes (next_tells (suc depth) before a work i.0 c.1) (behind i.0.left j.0 j.1))

  full_tells : (depth before : ℕ) (name : Token) (chains : List (List Part)) (i : ℕ) (lists : List (List Hidden)) (work : Work) (v : Full)
      → full_from f depth before name chains i lists work ≡ Ok v → Here before v.notes
  full_tells depth before name chains i [] work v is =
      let Q : Full → Type 0 = λ x. Here before x.notes in
      subst Q (ok_same (full [] [] work) v is) tt
  full_tells depth before name chains i (a ∷ lists) work v is =
      full_step_tells (occurs_alone i chains) depth before name a work (full_from f depth before name chains (suc i) lists)
      (λ left x x_is. full_tells depth before name chains (suc i) lists left x x_is) v is

  spent_tells : (before : ℕ) (name : Token) (cost : ℕ) (work : Work) (r : Result (Made (List Hidden)) Fault) → ((m : Made (List Hidden)) → r ≡ Ok m → Here before m.notes)
      → (e : Expanded) → spent name cost work r ≡ Ok e → Here before e.notes
  spent_tells before name cost work r fine e is =
      let put : Made (List Hidden) → Result Expanded Fault = λ m. Ok (expanded m.value m.notes (record work { left = work.left - cost })) in
      let c = cond_ok (nat_lt work.left cost) (TooMuchWork name.at) (onward r put) e is in
      let i = onward_ok {A = Made (List Hidden)} r put e c.1 in
      let Q : Expanded → Type 0 = λ x. Here before x.notes in
      subst Q (ok_same (expanded i.0.value i.0.notes (record work { left = work.left - cost })) e i.2) (fine i.0 i.1)

  substituted_tells : (depth before : ℕ) (name : Token) (m : Definition) (raw : List (List Hidden)) (work : Work) (e : Expanded)
      → substituted f depth before name m raw work ≡ Ok e → Here before e.notes
  substituted_tells depth before name m raw work e is =
      let args : List (List Hidden) → Arguments = λ lists. record { raw = raw; full = lists } in
      let next : Full → Result Expanded Fault = λ x. onward (spent name (cost_of name (args x.lists) (chains_of m)) x.left (result_of name (args x.lists) (chains_of m))) (λ o. Ok (noted x.notes o)) in
      let i = onward_ok {A = Full} (full_from f depth before name (chains_of m) 0 raw work) next e is in
      let cost = cost_of name (args i.0.lists) (chains_of m) in
      let j = onward_ok {A = Expanded} (spent name cost i.0.left (result_of name (args i.0.lists) (chains_of m))) (λ o. Ok (noted i.0.notes o)) e i.2 in
      let Q : Expanded → Type 0 = λ v. Here before v.notes in
      subst Q (ok_same (noted i.0.notes j.0) e j.2)
      (notes_both (Between before before) i.0.notes j.0.notes (full_tells depth before name (chains_of m) 0 raw work i.0 i.1)
      (spent_tells before name cost i.0.left (result_of name (args i.0.lists) (chains_of m))
      (λ v v_is. making_between before before v.notes (result_making name m (args i.0.lists) v v_is)) j.0 j.1))

  no_notes : (before : ℕ) (t : Token) (m : Made (List Hidden)) → ◌≡◌ {A = Result (Made (List Hidden)) Fault} (Ok (made (hidden t [] ∷ []) [])) (Ok m) → Here before m.notes
  no_notes before t m e =
      let Q : Made (List Hidden) → Type 0 = λ x. Here before x.notes in
      subst Q (ok_same (made (hidden t [] ∷ []) []) m e) tt

  one_number : (before : ℕ) (t : Token) (m : Made (List Hidden)) → ◌≡◌ {A = Result (Made (List Hidden)) Fault} (Ok (made (hidden t [] ∷ []) (Counted t ∷ []))) (Ok m)
      → Here before m.notes
  one_number before t m e =
      let Q : Made (List Hidden) → Type 0 = λ x. Here before x.notes in
      subst Q (ok_same (made (hidden t [] ∷ []) (Counted t ∷ [])) m e) (tt, tt)

  put_for_tells : (kind : Form) (depth before : ℕ) (name : Token) (m : Definition) (raw : List (List Hidden)) (work : Work) (e : Expanded)
      → put_for kind set.path f depth before name m raw work ≡ Ok e → Here before e.notes
  put_for_tells form.Line depth before name m raw work e is =
      spent_tells before name 1 work (Ok (made (hidden (line_number name) [] ∷ []) [])) (no_notes before (line_number name)) e is
  put_for_tells form.File depth before name m raw work e is =
      spent_tells before name 1 work (Ok (made (hidden (path_string set.path name) [] ∷ []) [])) (no_notes before (path_string set.path name)) e is
  put_for_tells form.Counter depth before name m raw work e is =
      let c = cond_ok_yes (nat_lt work.counter most_bytes) (TooMuchWork name.at) (numbered name work) e is in
      spent_tells before name 1 (record work { counter = work.counter + 1 }) _ (one_number before (number_token name work.counter)) e c.1
  put_for_tells form.Object depth before name m raw work e is = substituted_tells depth before name m raw work e is
  put_for_tells form.Function depth before name m raw work e is = substituted_tells depth before name m raw work e is

  -- the first notes of a replacement
  first_tells : (b : Bool) (name : Token) (m : Definition) (before : ℕ)
      → Here before (Replaced name m.name before ∷ cond b (Linked name m.name ∷ []) [])
  first_tells true name m before = ((omega arith, omega arith), (tt, tt))
  first_tells false name m before = ((omega arith, omega arith), tt)

  replaced_tells : (depth before : ℕ) (name : Token) (m : Definition) (added : List (List ℕ)) (raw : List (List Hidden)) (ts : List Hidden) (work : Work) (e : Expanded)
      → replaced set f depth before name m added raw ts work ≡ Ok e → AllNotes (Between before (put_out_after depth before (length e.toks))) e.notes
  replaced_tells depth before name m added raw ts work e is =
      let after : Expanded → Result Expanded Fault = λ x. onward (f depth before (map (hide_more added) x.toks ++ ts) x.left) (λ rest. Ok (noted (first_notes name m before ++ x.notes) rest)) in
      let i = onward_ok {A = Expanded} (put_for m.form set.path f depth before name m raw work) after e is in
      let list : List Hidden = map (hide_more added) i.0.toks ++ ts in
      let j = onward_ok {A = Expanded} (f depth before list i.0.left) (λ rest. Ok (noted (first_notes name m before ++ i.0.notes) rest)) e i.2 in
      let high = put_out_after depth before (length j.0.toks) in
      let own : AllNotes (Between before before) (first_notes name m before ++ i.0.notes) =
      notes_both (Between before before) (first_notes name m before) i.0.notes (first_tells (links_name m.form) name m before) (put_for_tells m.form depth before name m raw work i.0 i.1) in
      let Q : Expanded → Type 0 = λ v. AllNotes (Between before (put_out_after depth before (length v.toks))) v.notes in
      subst Q (ok_same (noted (first_notes name m before ++ i.0.notes) j.0) e j.2)
      (notes_both (Between before high) (first_notes name m before ++ i.0.notes) j.0.notes
      (wider before before before high (first_notes name m before ++ i.0.notes) (omega arith) (later depth before (length j.0.toks)) own)
      (next_tells depth before list i.0.left j.0 j.1))

  called_tells : (depth before : ℕ) (t : Hidden) (m : Definition) (work : Work) (call : Option Call) (e : Expanded)
      → called set f depth before t m work call ≡ Ok e → AllNotes (Between before (put_out_after depth before (length e.toks))) e.notes
  called_tells depth before t m work None e is = err_ok (OpenCall t.tok.at) e is
  called_tells depth before t m work (Some call) e is = by (arguments_of m call.arguments) is
    where
      by : (raw : Option (List (List Hidden))) → called_with set f depth before t m call work raw ≡ Ok e → AllNotes (Between before (put_out_after depth before (length e.toks))) e.notes
      by None k = err_ok (WrongArguments t.tok.at) e k
      by (Some raw) k = replaced_tells depth before t.tok m (added_by t call.close) raw call.rest work e k

  act_tells : (depth before : ℕ) (t : Hidden) (ts : List Hidden) (work : Work) (e : Expanded) (m : Option Definition)
      → act set f depth before t ts work m ≡ Ok e → AllNotes (Between before (put_out_after depth before (length e.toks))) e.notes
  act_tells depth before t ts work e None is = stays_tells depth before t ts work e is
  act_tells depth before t ts work e (Some m) is = by (is_function m.form) is
    where
      in_call : (zs : List Hidden) → behind_name set f depth before t m zs work ≡ Ok e → AllNotes (Between before (put_out_after depth before (length e.toks))) e.notes
      in_call [] k = stays_tells depth before t [] work e k
      in_call (p ∷ zs) k = opened (is_open p.tok) k
        where
          opened : (opens : Bool) → cond opens (called set f depth before t m work (call_from zs (commas_of m) 0)) (stays f depth before t (p ∷ zs) work) ≡ Ok e
              → AllNotes (Between before (put_out_after depth before (length e.toks))) e.notes
          opened true l = called_tells depth before t m work (call_from zs (commas_of m) 0) e l
          opened false l = stays_tells depth before t (p ∷ zs) work e l

      by : (fn : Bool) → cond fn (behind_name set f depth before t m ts work) (replaced set f depth before t.tok m (t.hides ++ t.tok.text ∷ []) [] ts work) ≡ Ok e
          → AllNotes (Between before (put_out_after depth before (length e.toks))) e.notes
      by true k = in_call ts k
      by false k = replaced_tells depth before t.tok m (t.hides ++ t.tok.text ∷ []) [] ts work e k

  step_tells : (depth before : ℕ) (ts : List Hidden) (work : Work) (e : Expanded) → step set f depth before ts work ≡ Ok e
      → AllNotes (Between before (put_out_after depth before (length e.toks))) e.notes
  step_tells depth before [] work e is =
      let Q : Expanded → Type 0 = λ x. AllNotes (Between before (put_out_after depth before (length x.toks))) x.notes in
      subst Q (ok_same (expanded [] [] work) e is) tt
  step_tells depth before (t ∷ ts) work e is = act_tells depth before t ts work e (macro_of set.table t) is

step_keeps : (set : Setting) (f : Next) → Tells f → Tells (step set f)
unfolding Tells
step_keeps set f tells = λ depth before ts work e is. step_tells set f tells depth before ts work e is

steps_keep : (set : Setting) (n : ℕ) → Tells (steps n set)
unfolding Tells steps
steps_keep set zero = λ depth before ts work e is.
    let Q : Expanded → Type 0 = λ x. AllNotes (Between before (put_out_after depth before (length x.toks))) x.notes in
    subst Q (ok_same (expanded [] [] work) e is) tt
steps_keep set (suc n) = step_keeps set (steps n set) (steps_keep set n)

-- an expansion outside of arguments tells of replacements within its tokens
pub told_between : (set : Setting) (before : ℕ) (ts : List Hidden) (work : Work) (e : Expanded) → whole set 0 before ts work ≡ Ok e
    → AllNotes (Between before (before + length e.toks)) e.notes
unfolding whole Tells
told_between set before ts work e is =
    let keeps : (depth before : ℕ) (ts2 : List Hidden) (work2 : Work) (e : Expanded) → steps (suc (work.left + length ts)) set depth before ts2 work2 ≡ Ok e
    → AllNotes (Between before (put_out_after depth before (length e.toks))) e.notes = steps_keep set (suc (work.left + length ts)) in
    keeps 0 before ts work e is
