-- The simulation of a renaming, from one replacement to the whole expansion.
use Rattle.std.proofs.Common.{◌≡◌, ℕ, zero, suc, ◌+◌, ◌<◌, ◌⊎◌, Bool, true, false, cond, List, [], ◌∷◌, ◌++◌, length, map, Option, Some, None, Result, Ok, refl, ap, sym, subst, ◌∙◌, inl, inr, arith, length-append, codes}
use Rattle.std.specs.Option.{option_map}
use Rattle.std.proofs.lemmas.List.{map-append, length-map}
use Rattle.cs_base.specs.Token.{Token}
use Rattle.macro_body.specs.declared.notes.Work.{Work}
use Rattle.macro_body.specs.declared.definitions.Definition.{Definition}
use Rattle.line_shape.specs.Signs.{is_open}
use Rattle.macro_body.specs.Hides.{Hidden, hidden, hide_more, in_both, unhidden}
use Rattle.macro_body.specs.Macro.{is_function}
use Rattle.macro_expand.specs.Calls.{Call, call_from, commas_of, arguments_of}
use Rattle.macro_body.specs.Notes.{Fault, OpenCall, WrongArguments, Replaced, Linked, Expanded, expanded, noted, onward}
use Rattle.macro_expand.specs.Expansion.{Setting, Next, stays, put_for, links_name, first_notes, replaced, added_by, called_with, called, behind_name, act, macro_of, step, whole, expansion}
use Rattle.macro_expand.specs.Renaming.{Renaming, spelled, renamed, renamed_hidden, renamed_macro, renamed_note, AllOccur, AllRespected, ExpansionIsRenamed}
use Rattle.macro_body.proofs.ResultLemmas.{ok_same, err_ok, onward_ok}
use Rattle.macro_expand.proofs.CallLemmas.{AllWithin, none, Shorter, call_shorter, arguments_within}
use Rattle.macro_expand.proofs.StepLemmas.{Below, put_for_puts}
use Rattle.macro_expand.proofs.WholeLemmas.{whole_below_itself, whole_is_step}
use Rattle.expansion_laws.proofs.RenamedLemmas.{renamed_lists, renamed_call, is_sign-renamed, call_from-renamed, commas_of-renamed, arguments_of-renamed}
use Rattle.macro_expand.specs.Laws.{AllDefined}
use Rattle.expansion_laws.proofs.GroundLemmas.{AllDefined-append, AllDefined-in_both}
use Rattle.expansion_laws.proofs.WorldLemmas.{World, Good, GoodLists, Good-occur, Good-append, Good-hide_more, in_both-renamed, with_names-renamed, GoodCall, good_call, good_arguments, macro_none, macro_same, macro_either, replaced_by}
use Rattle.expansion_laws.proofs.MadeLemmas.{notes_renamed, respected_split}
use Rattle.expansion_laws.proofs.SimulationLemmas.{Followed, Follows, stays_follows, put_for_follows}

-- what stays the same in the new expansion
abbrev pub new_setting : World → List ℕ → Setting
new_setting w path = record { table = w.new; path = path }

abbrev pub old_setting : World → List ℕ → Setting
old_setting w path = record { table = w.old; path = path }

hide_more-renamed : (w : World) (names : List (List ℕ)) (hs : List Hidden) → AllDefined w.old names → Good w hs
    → map (hide_more (map w.r.macro_name names)) (map (renamed_hidden w.r) hs) ≡ map (renamed_hidden w.r) (map (hide_more names) hs)
hide_more-renamed w names [] d g = refl
hide_more-renamed w names (h ∷ hs) d g =
    ap (λ hides. hidden (renamed w.r h.tok) hides ∷ map (hide_more (map w.r.macro_name names)) (map (renamed_hidden w.r) hs)) (with_names-renamed w h.hides names g.1 d)
    ∙ ap (λ l. renamed_hidden w.r (hide_more names h) ∷ l) (hide_more-renamed w names hs d g.2)

link-renamed : (w : World) (b : Bool) (x y : Token) → cond b (Linked (renamed w.r x) (renamed w.r y) ∷ []) [] ≡ notes_renamed w (cond b (Linked x y ∷ []) [])
link-renamed w true x y = refl
link-renamed w false x y = refl

first_notes-renamed : (w : World) (name : Token) (m : Definition) (before : ℕ)
    → first_notes (renamed w.r name) (renamed_macro w.r m) before ≡ notes_renamed w (first_notes name m before)
first_notes-renamed w name m before = ap (λ l. Replaced (renamed w.r name) (renamed w.r m.name) before ∷ l) (link-renamed w (links_name m.form) name m.name)

-- what follows a replacement in an expansion
abbrev after : Next → ℕ → ℕ → Token → Definition → List (List ℕ) → List Hidden → Expanded → Result Expanded Fault
after next depth before name m added ts e =
    onward (next depth before (map (hide_more added) e.toks ++ ts) e.left) (λ rest. Ok (noted (first_notes name m before ++ e.notes) rest))

-- A replacement.
replaced_follows : (w : World) (b : ℕ) (f g : Next) → Below b f f → Follows w b f g → (path : List ℕ) (depth before : ℕ) (name : Token) (m : Definition) (d : List ℕ)
    → w.old d ≡ Some m → (added : List (List ℕ)) → AllDefined w.old added → (n : ℕ) (raw : List (List Hidden)) → AllWithin n raw → GoodLists w raw → (ts : List Hidden) → Good w ts
    → (work : Work) → work.left + n < b → work.left + length ts < b → (e : Expanded)
    → replaced (old_setting w path) f depth before name m added raw ts work ≡ Ok e → AllRespected w.o w.r e.notes
    → Followed w e (replaced (new_setting w path) g depth before (renamed w.r name) (renamed_macro w.r m) (map w.r.macro_name added) (renamed_lists w.r raw) (map (renamed_hidden w.r) ts) work)
unfolding Follows
replaced_follows w b f g below follows path depth before name m d is_m added defined n raw within good ts good_ts work h h2 e is resp =
    let i = onward_ok {A = Expanded} (put_for m.form path f depth before name m raw work) (after f depth before name m added ts) e is in
    let j = onward_ok {A = Expanded} (f depth before (map (hide_more added) i.0.toks ++ ts) i.0.left) (λ rest. Ok (noted (first_notes name m before ++ i.0.notes) rest)) e i.2 in
    let name2 : Token = renamed w.r name in
    let m2 : Definition = renamed_macro w.r m in
    let added2 : List (List ℕ) = map w.r.macro_name added in
    let ts2 : List Hidden = map (renamed_hidden w.r) ts in
    let P : Expanded → Type 0 = λ v. AllRespected w.o w.r v.notes → Followed w v (replaced (new_setting w path) g depth before name2 m2 added2 (renamed_lists w.r raw) ts2 work) in
    subst P (ok_same (noted (first_notes name m before ++ i.0.notes) j.0) e j.2) (λ all.
    let first = respected_split w (first_notes name m before ++ i.0.notes) j.0.notes all in
    let second = respected_split w (first_notes name m before) i.0.notes first.0 in
    let k = put_for_follows w b f g below follows m.form path depth before name m n (w.keeps.body d m is_m) raw within good work h i.0 i.1 second.1 in
    let puts = (put_for_puts b f f below m.form path depth before name m n raw within work h).falls i.0 i.1 in
    let room : i.0.left.left + length (map (hide_more added) i.0.toks ++ ts) < b = omega (arith, length-append (map (hide_more added) i.0.toks) ts, length-map i.0.toks (hide_more added)) in
    let good_all : Good w (map (hide_more added) i.0.toks ++ ts) = Good-append w (map (hide_more added) i.0.toks) ts (Good-hide_more w added i.0.toks defined k.1) good_ts in
    let l = follows depth before (map (hide_more added) i.0.toks ++ ts) i.0.left j.0 room good_all j.1 first.1 in
    let list_is : map (hide_more added2) (map (renamed_hidden w.r) i.0.toks) ++ ts2 ≡ map (renamed_hidden w.r) (map (hide_more added) i.0.toks ++ ts) =
    ap (λ v. v ++ ts2) (hide_more-renamed w added i.0.toks defined k.1) ∙ sym (map-append (renamed_hidden w.r) (map (hide_more added) i.0.toks) ts) in
    let notes_are : (first_notes name2 m2 before ++ notes_renamed w i.0.notes) ++ notes_renamed w j.0.notes ≡ notes_renamed w ((first_notes name m before ++ i.0.notes) ++ j.0.notes) =
    ap (λ v. (v ++ notes_renamed w i.0.notes) ++ notes_renamed w j.0.notes) (first_notes-renamed w name m before)
    ∙ ap (λ v. v ++ notes_renamed w j.0.notes) (sym (map-append (renamed_note w.r) (first_notes name m before) i.0.notes))
    ∙ sym (map-append (renamed_note w.r) (first_notes name m before ++ i.0.notes) j.0.notes) in (
      ap (λ v. onward v (after g depth before name2 m2 added2 ts2)) k.0
          ∙ ap (λ v. onward (g depth before v i.0.left) (λ rest. Ok (noted (first_notes name2 m2 before ++ notes_renamed w i.0.notes) rest))) list_is
          ∙ ap (λ v. onward v (λ rest. Ok (noted (first_notes name2 m2 before ++ notes_renamed w i.0.notes) rest))) l.0
          ∙ ap (λ v. Ok (expanded (map (renamed_hidden w.r) j.0.toks) v j.0.left)) notes_are,
      l.1,
    ))
    resp

-- a replaced name has the new spelling of its macro's name
replaced_name : (w : World) (set : Setting) (f : Next) (depth before : ℕ) (name : Token) (m : Definition) (added : List (List ℕ)) (raw : List (List Hidden)) (ts : List Hidden) (work : Work) (e : Expanded)
    → replaced set f depth before name m added raw ts work ≡ Ok e → AllRespected w.o w.r e.notes → spelled w.r name ≡ w.r.macro_name name.text
replaced_name w set f depth before name m added raw ts work e is resp =
    let i = onward_ok {A = Expanded} (put_for m.form set.path f depth before name m raw work) (after f depth before name m added ts) e is in
    let j = onward_ok {A = Expanded} (f depth before (map (hide_more added) i.0.toks ++ ts) i.0.left) (λ rest. Ok (noted (first_notes name m before ++ i.0.notes) rest)) e i.2 in
    let P : Expanded → Type 0 = λ v. AllRespected w.o w.r v.notes → spelled w.r name ≡ w.r.macro_name name.text in
    subst P (ok_same (noted (first_notes name m before ++ i.0.notes) j.0) e j.2) (λ all. all.0) resp

-- Calls.

added-renamed : (w : World) (t : Hidden) (close : List (List ℕ)) → AllDefined w.old t.hides → AllDefined w.old close → spelled w.r t.tok ≡ w.r.macro_name t.tok.text
    → added_by (renamed_hidden w.r t) (map w.r.macro_name close) ≡ map w.r.macro_name (added_by t close)
added-renamed w t close h k same =
    ap (λ l. l ++ spelled w.r t.tok ∷ []) (in_both-renamed w t.hides close h k)
    ∙ ap (λ text. map w.r.macro_name (in_both t.hides close) ++ text ∷ []) same
    ∙ sym (map-append w.r.macro_name (in_both t.hides close) (t.tok.text ∷ []))

-- what the old expansion of a token and its macro did, followed by the new one
abbrev CallFollowed : World → Hidden → Expanded → Result Expanded Fault → Type 0
CallFollowed w t e res = (spelled w.r t.tok ≡ w.r.macro_name t.tok.text) × Followed w e res

called_with_follows : (w : World) (b : ℕ) (f g : Next) → Below b f f → Follows w b f g → (path : List ℕ) (depth before : ℕ) (t : Hidden) (m : Definition)
    → AllDefined w.old t.hides → w.old t.tok.text ≡ Some m → (call : Call) (n : ℕ) (work : Work) → Shorter n call → GoodCall w call → work.left + n < b
    → (raw : Option (List (List Hidden))) → arguments_of m call.arguments ≡ raw → (e : Expanded)
    → called_with (old_setting w path) f depth before t m call work raw ≡ Ok e → AllRespected w.o w.r e.notes
    → CallFollowed w t e (called_with (new_setting w path) g depth before (renamed_hidden w.r t) (renamed_macro w.r m) (renamed_call w.r call) work (option_map (renamed_lists w.r) raw))
called_with_follows w b f g below follows path depth before t m hides is_m call n work short good h None args_are e is resp = err_ok (WrongArguments t.tok.at) e is
called_with_follows w b f g below follows path depth before t m hides is_m call n work short good h (Some raw) args_are e is resp =
    let same = replaced_name w (old_setting w path) f depth before t.tok m (added_by t call.close) raw call.rest work e is resp in
    let behind = short.behind in
    let defined : AllDefined w.old (added_by t call.close) = AllDefined-append w.old (in_both t.hides call.close) (t.tok.text ∷ []) (AllDefined-in_both w.old t.hides call.close hides) ((m, is_m), tt) in
    let k = replaced_follows w b f g below follows path depth before t.tok m t.tok.text is_m (added_by t call.close) defined n raw (arguments_within m n call.arguments raw short.each args_are)
    (good_arguments w m call.arguments raw good.each args_are) call.rest good.rest work h (omega arith) e is resp in (
      same,
      (
        ap (λ added. replaced (new_setting w path) g depth before (renamed w.r t.tok) (renamed_macro w.r m) added (renamed_lists w.r raw) (map (renamed_hidden w.r) call.rest) work)
            (added-renamed w t call.close hides good.close same) ∙ k.0,
        k.1,
      ),
    )

called_follows : (w : World) (b : ℕ) (f g : Next) → Below b f f → Follows w b f g → (path : List ℕ) (depth before : ℕ) (t : Hidden) (m : Definition)
    → AllDefined w.old t.hides → w.old t.tok.text ≡ Some m → (ts : List Hidden) (work : Work) → Good w ts → work.left + length ts < b
    → (call : Option Call) → call_from ts (commas_of m) 0 ≡ call → (e : Expanded)
    → called (old_setting w path) f depth before t m work call ≡ Ok e → AllRespected w.o w.r e.notes
    → CallFollowed w t e (called (new_setting w path) g depth before (renamed_hidden w.r t) (renamed_macro w.r m) work (option_map (renamed_call w.r) call))
called_follows w b f g below follows path depth before t m hides is_m ts work good h None call_is e is resp = err_ok (OpenCall t.tok.at) e is
called_follows w b f g below follows path depth before t m hides is_m ts work good h (Some call) call_is e is resp =
    let k = called_with_follows w b f g below follows path depth before t m hides is_m call (length ts) work (call_shorter ts (commas_of m) 0 call call_is)
    (good_call w ts (commas_of m) 0 good call call_is) h (arguments_of m call.arguments) refl e is resp in
    (k.0, (ap (called_with (new_setting w path) g depth before (renamed_hidden w.r t) (renamed_macro w.r m) (renamed_call w.r call) work) (arguments_of-renamed w.r m call.arguments) ∙ k.1.0, k.1.1))

-- the call that the new expansion reads
call_is-renamed : (w : World) (m : Definition) (ts : List Hidden) → Good w ts
    → call_from (map (renamed_hidden w.r) ts) (commas_of (renamed_macro w.r m)) 0 ≡ option_map (renamed_call w.r) (call_from ts (commas_of m) 0)
call_is-renamed w m ts good =
    ap (λ c. call_from (map (renamed_hidden w.r) ts) c 0) (commas_of-renamed w.r m)
    ∙ call_from-renamed w.o w.r w.old w.new w.keeps ts (Good-occur w ts good) (commas_of m) 0

-- The first token.

-- the token stays in the new expansion, whatever its name is there
stays_anew : (w : World) (g : Next) (path : List ℕ) (depth before : ℕ) (t : Hidden) (m : Definition) (ts : List Hidden) (work : Work)
    → (macro_of w.new (renamed_hidden w.r t) ≡ None) ⊎ (macro_of w.new (renamed_hidden w.r t) ≡ Some (renamed_macro w.r m))
    → act (new_setting w path) g depth before (renamed_hidden w.r t) (map (renamed_hidden w.r) ts) work (Some (renamed_macro w.r m)) ≡ stays g depth before (renamed_hidden w.r t) (map (renamed_hidden w.r) ts) work
    → act (new_setting w path) g depth before (renamed_hidden w.r t) (map (renamed_hidden w.r) ts) work (macro_of w.new (renamed_hidden w.r t)) ≡ stays g depth before (renamed_hidden w.r t) (map (renamed_hidden w.r) ts) work
stays_anew w g path depth before t m ts work (inl e) is = ap (act (new_setting w path) g depth before (renamed_hidden w.r t) (map (renamed_hidden w.r) ts) work) e
stays_anew w g path depth before t m ts work (inr e) is = ap (act (new_setting w path) g depth before (renamed_hidden w.r t) (map (renamed_hidden w.r) ts) work) e ∙ is

-- a function-like macro's name with tokens behind it
function_follows : (w : World) (b : ℕ) (f g : Next) → Below b f f → Follows w b f g → (path : List ℕ) (depth before : ℕ) (t p : Hidden) (ts : List Hidden) (work : Work) (m : Definition)
    → is_function m.form ≡ true → Good w (t ∷ p ∷ ts) → macro_of w.old t ≡ Some m → work.left + length (p ∷ ts) < b → (e : Expanded) → (opens : Bool) → is_open p.tok ≡ opens
    → cond opens (called (old_setting w path) f depth before t m work (call_from ts (commas_of m) 0)) (stays f depth before t (p ∷ ts) work) ≡ Ok e → AllRespected w.o w.r e.notes
    → Followed w e (act (new_setting w path) g depth before (renamed_hidden w.r t) (map (renamed_hidden w.r) (p ∷ ts)) work (macro_of w.new (renamed_hidden w.r t)))
unfolding is_open
function_follows w b f g below follows path depth before t p ts work m fn good is_m h e true opens is resp =
    let k = called_follows w b f g below follows path depth before t m good.1 (replaced_by w.old t m is_m).2 ts work good.2.2 (omega arith) (call_from ts (commas_of m) 0) refl e is resp in (
      ap (act (new_setting w path) g depth before (renamed_hidden w.r t) (map (renamed_hidden w.r) (p ∷ ts)) work) (macro_same w t m good.1 is_m k.0)
          ∙ ap (λ v. cond v (behind_name (new_setting w path) g depth before (renamed_hidden w.r t) (renamed_macro w.r m) (map (renamed_hidden w.r) (p ∷ ts)) work)
          (replaced (new_setting w path) g depth before (renamed w.r t.tok) (renamed_macro w.r m) (map w.r.macro_name t.hides ++ spelled w.r t.tok ∷ []) [] (map (renamed_hidden w.r) (p ∷ ts)) work)) fn
          ∙ ap (λ v. cond v (called (new_setting w path) g depth before (renamed_hidden w.r t) (renamed_macro w.r m) work (call_from (map (renamed_hidden w.r) ts) (commas_of (renamed_macro w.r m)) 0))
          (stays g depth before (renamed_hidden w.r t) (map (renamed_hidden w.r) (p ∷ ts)) work)) (is_sign-renamed w.o w.r w.old w.new w.keeps (codes "(") p.tok good.2.0 ∙ opens)
          ∙ ap (called (new_setting w path) g depth before (renamed_hidden w.r t) (renamed_macro w.r m) work) (call_is-renamed w m ts good.2.2)
          ∙ k.1.0,
      k.1.1,
    )
function_follows w b f g below follows path depth before t p ts work m fn good is_m h e false opens is resp =
    let k = stays_follows w b f g follows depth before t (p ∷ ts) work e h good is resp in
    let stays_there : act (new_setting w path) g depth before (renamed_hidden w.r t) (map (renamed_hidden w.r) (p ∷ ts)) work (Some (renamed_macro w.r m)) ≡ stays g depth before (renamed_hidden w.r t) (map (renamed_hidden w.r) (p ∷ ts)) work =
    ap (λ v. cond v (behind_name (new_setting w path) g depth before (renamed_hidden w.r t) (renamed_macro w.r m) (map (renamed_hidden w.r) (p ∷ ts)) work)
    (replaced (new_setting w path) g depth before (renamed w.r t.tok) (renamed_macro w.r m) (map w.r.macro_name t.hides ++ spelled w.r t.tok ∷ []) [] (map (renamed_hidden w.r) (p ∷ ts)) work)) fn
    ∙ ap (λ v. cond v (called (new_setting w path) g depth before (renamed_hidden w.r t) (renamed_macro w.r m) work (call_from (map (renamed_hidden w.r) ts) (commas_of (renamed_macro w.r m)) 0))
    (stays g depth before (renamed_hidden w.r t) (map (renamed_hidden w.r) (p ∷ ts)) work)) (is_sign-renamed w.o w.r w.old w.new w.keeps (codes "(") p.tok good.2.0 ∙ opens) in
    (stays_anew w g path depth before t m (p ∷ ts) work (macro_either w t m good.0 good.1 is_m) stays_there ∙ k.0, k.1)

-- a macro's name, function-like or not
named_follows : (w : World) (b : ℕ) (f g : Next) → Below b f f → Follows w b f g → (path : List ℕ) (depth before : ℕ) (t : Hidden) (ts : List Hidden) (work : Work) (m : Definition)
    → Good w (t ∷ ts) → macro_of w.old t ≡ Some m → work.left + length ts < b → (e : Expanded) → (fn : Bool) → is_function m.form ≡ fn
    → cond fn (behind_name (old_setting w path) f depth before t m ts work) (replaced (old_setting w path) f depth before t.tok m (t.hides ++ t.tok.text ∷ []) [] ts work) ≡ Ok e → AllRespected w.o w.r e.notes
    → Followed w e (act (new_setting w path) g depth before (renamed_hidden w.r t) (map (renamed_hidden w.r) ts) work (macro_of w.new (renamed_hidden w.r t)))
named_follows w b f g below follows path depth before t [] work m good is_m h e true fn is resp =
    let k = stays_follows w b f g follows depth before t [] work e h good is resp in
    let stays_there : act (new_setting w path) g depth before (renamed_hidden w.r t) [] work (Some (renamed_macro w.r m)) ≡ stays g depth before (renamed_hidden w.r t) [] work =
    ap (λ v. cond v (stays g depth before (renamed_hidden w.r t) [] work)
    (replaced (new_setting w path) g depth before (renamed w.r t.tok) (renamed_macro w.r m) (map w.r.macro_name t.hides ++ spelled w.r t.tok ∷ []) [] [] work)) fn in
    (stays_anew w g path depth before t m [] work (macro_either w t m good.0 good.1 is_m) stays_there ∙ k.0, k.1)
named_follows w b f g below follows path depth before t (p ∷ ts) work m good is_m h e true fn is resp =
    function_follows w b f g below follows path depth before t p ts work m fn good is_m h e (is_open p.tok) refl is resp
named_follows w b f g below follows path depth before t ts work m good is_m h e false fn is resp =
    let same = replaced_name w (old_setting w path) f depth before t.tok m (t.hides ++ t.tok.text ∷ []) [] ts work e is resp in
    let old_is = (replaced_by w.old t m is_m).2 in
    let k = replaced_follows w b f g below follows path depth before t.tok m t.tok.text old_is (t.hides ++ t.tok.text ∷ [])
    (AllDefined-append w.old t.hides (t.tok.text ∷ []) good.1 ((m, old_is), tt)) 0 [] none tt ts good.2 work (omega arith) h e is resp in (
      ap (act (new_setting w path) g depth before (renamed_hidden w.r t) (map (renamed_hidden w.r) ts) work) (macro_same w t m good.1 is_m same)
          ∙ ap (λ v. cond v (behind_name (new_setting w path) g depth before (renamed_hidden w.r t) (renamed_macro w.r m) (map (renamed_hidden w.r) ts) work)
          (replaced (new_setting w path) g depth before (renamed w.r t.tok) (renamed_macro w.r m) (map w.r.macro_name t.hides ++ spelled w.r t.tok ∷ []) [] (map (renamed_hidden w.r) ts) work)) fn
          ∙ ap (λ v. replaced (new_setting w path) g depth before (renamed w.r t.tok) (renamed_macro w.r m) (map w.r.macro_name t.hides ++ v ∷ []) [] (map (renamed_hidden w.r) ts) work) same
          ∙ ap (λ v. replaced (new_setting w path) g depth before (renamed w.r t.tok) (renamed_macro w.r m) v [] (map (renamed_hidden w.r) ts) work) (sym (map-append w.r.macro_name t.hides (t.tok.text ∷ [])))
          ∙ k.0,
      k.1,
    )

act_follows : (w : World) (b : ℕ) (f g : Next) → Below b f f → Follows w b f g → (path : List ℕ) (depth before : ℕ) (t : Hidden) (ts : List Hidden) (work : Work)
    → Good w (t ∷ ts) → work.left + length ts < b → (e : Expanded) → (m : Option Definition) → macro_of w.old t ≡ m
    → act (old_setting w path) f depth before t ts work m ≡ Ok e → AllRespected w.o w.r e.notes
    → Followed w e (act (new_setting w path) g depth before (renamed_hidden w.r t) (map (renamed_hidden w.r) ts) work (macro_of w.new (renamed_hidden w.r t)))
act_follows w b f g below follows path depth before t ts work good h e None is_m is resp =
    let k = stays_follows w b f g follows depth before t ts work e h good is resp in
    (ap (act (new_setting w path) g depth before (renamed_hidden w.r t) (map (renamed_hidden w.r) ts) work) (macro_none w t good.0 good.1 is_m) ∙ k.0, k.1)
act_follows w b f g below follows path depth before t ts work good h e (Some m) is_m is resp =
    named_follows w b f g below follows path depth before t ts work m good is_m h e (is_function m.form) refl is resp

step_follows : (w : World) (b : ℕ) (f g : Next) → Below b f f → Follows w b f g → (path : List ℕ) (depth before : ℕ) (ts : List Hidden) (work : Work)
    → Good w ts → work.left + length ts < suc b → (e : Expanded) → step (old_setting w path) f depth before ts work ≡ Ok e → AllRespected w.o w.r e.notes
    → Followed w e (step (new_setting w path) g depth before (map (renamed_hidden w.r) ts) work)
step_follows w b f g below follows path depth before [] work good h e is resp =
    let P : Expanded → Type 0 = λ v. Followed w v (Ok (expanded [] [] work)) in
    subst P (ok_same (expanded [] [] work) e is) (refl, tt)
step_follows w b f g below follows path depth before (t ∷ ts) work good h e is resp =
    act_follows w b f g below follows path depth before t ts work good (omega arith) e (macro_of w.old t) refl is resp

-- the whole expansion
whole_follows : (w : World) (path : List ℕ) (b : ℕ) → Follows w b (whole (old_setting w path)) (whole (new_setting w path))
unfolding Follows
whole_follows w path zero = λ depth before ts work e h good is resp. absurd (omega arith)
whole_follows w path (suc b) = λ depth before ts work e h good is resp.
    let k = step_follows w b (whole (old_setting w path)) (whole (new_setting w path)) (whole_below_itself (old_setting w path) b) (whole_follows w path b)
    path depth before ts work good h e (sym (whole_is_step (old_setting w path) depth before ts work) ∙ is) resp in
    (whole_is_step (new_setting w path) depth before (map (renamed_hidden w.r) ts) work ∙ k.0, k.1)

Good-unhidden : (w : World) (run : List Token) → AllOccur w.o run → Good w (unhidden run)
Good-unhidden w [] h = tt
Good-unhidden w (t ∷ ts) h = (h.0, tt, Good-unhidden w ts h.1)

unhidden-renamed : (r : Renaming) (run : List Token) → unhidden (map (renamed r) run) ≡ map (renamed_hidden r) (unhidden run)
unhidden-renamed r [] = refl
unhidden-renamed r (t ∷ ts) = ap (λ l. hidden (renamed r t) [] ∷ l) (unhidden-renamed r ts)

-- the law
pub expansion_is_renamed : ExpansionIsRenamed
unfolding Follows expansion
expansion_is_renamed = λ o r old new path run work e keeps occur is resp.
    let w : World = record { o = o; r = r; old = old; new = new; keeps = keeps } in
    let follows : (depth before : ℕ) (ts : List Hidden) (work2 : Work) (e : Expanded) → work2.left + length ts < suc (work.left + length (unhidden run)) → Good w ts
    → whole (old_setting w path) depth before ts work2 ≡ Ok e → AllRespected o r e.notes → Followed w e (whole (new_setting w path) depth before (map (renamed_hidden r) ts) work2) =
    whole_follows w path (suc (work.left + length (unhidden run))) in
    ap (λ ts. whole (new_setting w path) 0 0 ts work) (unhidden-renamed r run)
    ∙ (follows 0 0 (unhidden run) work e (omega arith) (Good-unhidden w run occur) is resp).0
