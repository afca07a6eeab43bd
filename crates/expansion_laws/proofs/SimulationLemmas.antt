-- The simulation of a renaming: an expansion without a fault, each note of which is respected, is the renamed
-- expansion of the renamed tokens.
use Rattle.std.proofs.Common.{◌≡◌, ℕ, zero, suc, ◌+◌, ◌-◌, ◌*◌, ◌<◌, ◌≤◌, Bool, true, false, cond, List, [], ◌∷◌, length, map, Option, None, Result, Ok, Err, refl, ap, sym, subst, ◌∙◌, arith, nat_lt, replicate}
use Rattle.std.specs.Option.{is_none}
use Rattle.std.specs.List.{list_all}
use Rattle.std.specs.Fmt.{decimal}
use Rattle.std.proofs.lemmas.List.{map-append}
use Rattle.cs_base.specs.Limits.{most_bytes}
use Rattle.cs_base.specs.Token.{Token, token}
use Rattle.cs_base.specs.declared.tokens.Kind.TheVariants.{Number, Str}
use Rattle.cs_base.specs.declared.positions.Pos.{Pos}
use Rattle.macro_body.specs.declared.notes.Work.{Work}
use Rattle.macro_body.specs.declared.definitions.Form.{Form}
use Rattle.macro_body.specs.declared.definitions.Form.TheVariants as form
use Rattle.macro_body.specs.declared.definitions.Definition.{Definition}
use Rattle.macro_body.specs.Hides.{Hidden, hidden}
use Rattle.macro_body.specs.Bodies.{Part, chains_of, occurs_alone}
use Rattle.macro_body.specs.Notes.{Counted, Fault, TooMuchWork, TooDeep, Expanded, expanded, put_out, noted, onward}
use Rattle.macro_body.specs.Substitution.{Arguments, Made, made, cost_of, result_of, number_token, line_number, path_string, path_text, digit_origins}
use Rattle.macro_expand.specs.Expansion.{Next, most_depth, one_more, stays, Full, full, with_full, without_full, alone, full_step, full_from, spent, numbered, substituted, put_for}
use Rattle.macro_expand.specs.Renaming.{renamed, renamed_hidden, renamed_macro, renamed_note, renamed_expansion, occurs, AllRespected, KeepsBody}
use Rattle.macro_body.proofs.ResultLemmas.{ok_same, onward_ok, cond_ok, cond_ok_yes}
use Rattle.macro_expand.proofs.CallLemmas.{AllWithin, none, more}
use Rattle.macro_expand.proofs.StepLemmas.{Below}
use Rattle.expansion_laws.proofs.RenamedLemmas.{renamed_chains, renamed_lists, renamed_arguments, chains_of-renamed, occurs_alone-renamed, cost_of-renamed}
use Rattle.expansion_laws.proofs.WorldLemmas.{World, Good, GoodLists}
use Rattle.expansion_laws.proofs.MadeLemmas.{notes_renamed, respected_split, chains_of-occur, GoodArguments, IsMade}
use Rattle.expansion_laws.proofs.PastedLemmas.{result-renamed}

-- the new expansion is the old one, renamed; and its tokens are good
abbrev pub Followed : World → Expanded → Result Expanded Fault → Type 0
Followed w e res = (res ≡ Ok (renamed_expansion w.r e)) × Good w e.toks

-- one expansion follows another on fewer than b tokens and steps of work together
unfoldable pub Follows : World → ℕ → Next → Next → Type 0
Follows w b f g = (depth before : ℕ) (ts : List Hidden) (work : Work) (e : Expanded) → work.left + length ts < b → Good w ts
    → f depth before ts work ≡ Ok e → AllRespected w.o w.r e.notes → Followed w e (g depth before (map (renamed_hidden w.r) ts) work)

pub stays_follows : (w : World) (b : ℕ) (f g : Next) → Follows w b f g → (depth before : ℕ) (t : Hidden) (ts : List Hidden) (work : Work) (e : Expanded)
    → work.left + length ts < b → Good w (t ∷ ts) → stays f depth before t ts work ≡ Ok e → AllRespected w.o w.r e.notes
    → Followed w e (stays g depth before (renamed_hidden w.r t) (map (renamed_hidden w.r) ts) work)
unfolding Follows
stays_follows w b f g follows depth before t ts work e h good is resp =
    let i = onward_ok {A = Expanded} (f depth (one_more depth before) ts work) (λ o. Ok (put_out t o)) e is in
    let P : Expanded → Type 0 = λ v. AllRespected w.o w.r v.notes → Followed w v (stays g depth before (renamed_hidden w.r t) (map (renamed_hidden w.r) ts) work) in
    subst P (ok_same (put_out t i.0) e i.2) (λ r.
    let k = follows depth (one_more depth before) ts work i.0 h good.2 i.1 r in
    (ap (λ v. onward v (λ o. Ok (put_out (renamed_hidden w.r t) o))) k.0, (good.0, good.1, k.1)))
    resp

-- Arguments.

abbrev full_renamed : World → Full → Full
full_renamed w f = full (renamed_lists w.r f.lists) (notes_renamed w f.notes) f.left

abbrev FullFollowed : World → Full → Result Full Fault → Type 0
FullFollowed w f res = (res ≡ Ok (full_renamed w f)) × GoodLists w f.lists

alone_follows : (w : World) (b : ℕ) (f g : Next) → Follows w b f g → (depth before : ℕ) (name : Token) (a : List Hidden) (work : Work) (e : Expanded)
    → work.left + length a < b → Good w a → alone f depth before name a work ≡ Ok e → AllRespected w.o w.r e.notes
    → Followed w e (alone g depth before (renamed w.r name) (map (renamed_hidden w.r) a) work)
unfolding Follows
alone_follows w b f g follows depth before name a work e h good is resp =
    let c = cond_ok_yes (nat_lt depth most_depth) (TooDeep name.at) (f (suc depth) before a work) e is in
    let k = follows (suc depth) before a work e h good c.1 resp in
    (ap (λ t. cond t (g (suc depth) before (map (renamed_hidden w.r) a) work) (Err (TooDeep (renamed w.r name).at))) c.0 ∙ k.0, k.1)

full_step_follows : (w : World) (b : ℕ) (f g : Next) → Follows w b f g → (wanted : Bool) (depth before : ℕ) (name : Token) (a : List Hidden) (work : Work)
    → (rest rest2 : Work → Result Full Fault) → work.left + length a < b → Good w a
    → ((e : Expanded) → alone f depth before name a work ≡ Ok e → e.left.left ≤ work.left)
    → ((left : Work) (v : Full) → left.left ≤ work.left → rest left ≡ Ok v → AllRespected w.o w.r v.notes → FullFollowed w v (rest2 left))
    → (v : Full) → full_step wanted f depth before name a work rest ≡ Ok v → AllRespected w.o w.r v.notes
    → FullFollowed w v (full_step wanted g depth before (renamed w.r name) (map (renamed_hidden w.r) a) work rest2)
full_step_follows w b f g follows false depth before name a work rest rest2 h good falls behind v is resp =
    let i = onward_ok {A = Full} (rest work) (λ x. Ok (without_full x)) v is in
    let P : Full → Type 0 = λ x. AllRespected w.o w.r x.notes → FullFollowed w x (full_step false g depth before (renamed w.r name) (map (renamed_hidden w.r) a) work rest2) in
    subst P (ok_same (without_full i.0) v i.2) (λ r.
    let k = behind work i.0 (omega arith) i.1 r in
    (ap (λ x. onward x (λ y. Ok (without_full y))) k.0, (tt, k.1)))
    resp
full_step_follows w b f g follows true depth before name a work rest rest2 h good falls behind v is resp =
    let i = onward_ok {A = Expanded} (alone f depth before name a work) (λ e. onward (rest e.left) (λ x. Ok (with_full e x))) v is in
    let j = onward_ok {A = Full} (rest i.0.left) (λ x. Ok (with_full i.0 x)) v i.2 in
    let P : Full → Type 0 = λ x. AllRespected w.o w.r x.notes → FullFollowed w x (full_step true g depth before (renamed w.r name) (map (renamed_hidden w.r) a) work rest2) in
    subst P (ok_same (with_full i.0 j.0) v j.2) (λ both.
    let each = respected_split w i.0.notes j.0.notes both in
    let k = alone_follows w b f g follows depth before name a work i.0 h good i.1 each.0 in
    let l = behind i.0.left j.0 (falls i.0 i.1) j.1 each.1 in (
      ap (λ x. onward x (λ (e : Expanded). onward (rest2 e.left) (λ y. Ok (with_full e y)))) k.0
          ∙ ap (λ x. onward x (λ y. Ok (with_full (renamed_expansion w.r i.0) y))) l.0
          ∙ ap (λ n. Ok (full (map (renamed_hidden w.r) i.0.toks ∷ renamed_lists w.r j.0.lists) n j.0.left)) (sym (map-append (renamed_note w.r) i.0.notes j.0.notes)),
      (k.1, l.1),
    ))
    resp

full_from_follows : (w : World) (b : ℕ) (f g : Next) → Below b f f → Follows w b f g → (depth before : ℕ) (name : Token) (chains : List (List Part)) (i n : ℕ)
    → (lists : List (List Hidden)) → AllWithin n lists → GoodLists w lists → (work : Work) → work.left + n < b → (v : Full)
    → full_from f depth before name chains i lists work ≡ Ok v → AllRespected w.o w.r v.notes
    → FullFollowed w v (full_from g depth before (renamed w.r name) (renamed_chains w.r chains) i (renamed_lists w.r lists) work)
unfolding Below
full_from_follows w b f g below follows depth before name chains i n [] none good work h v is resp =
    let P : Full → Type 0 = λ x. FullFollowed w x (Ok (full [] [] work)) in
    subst P (ok_same (full [] [] work) v is) (refl, tt)
full_from_follows w b f g below follows depth before name chains i n (a ∷ lists) (more here behind) good work h v is resp =
    let falls : (e : Expanded) → alone f depth before name a work ≡ Ok e → e.left.left ≤ work.left =
    λ e e_is. (below (suc depth) before a work (omega arith)).falls e (cond_ok_yes (nat_lt depth most_depth) (TooDeep name.at) (f (suc depth) before a work) e e_is).1 in
    let k = full_step_follows w b f g follows (occurs_alone i chains) depth before name a work
    (full_from f depth before name chains (suc i) lists)
    (full_from g depth before (renamed w.r name) (renamed_chains w.r chains) (suc i) (renamed_lists w.r lists))
    (omega arith) good.0 falls
    (λ left x le x_is r. full_from_follows w b f g below follows depth before name chains (suc i) n lists behind good.1 left (omega arith) x x_is r)
    v is resp in (
      ap (λ wanted. full_step wanted g depth before (renamed w.r name) (map (renamed_hidden w.r) a) work
          (full_from g depth before (renamed w.r name) (renamed_chains w.r chains) (suc i) (renamed_lists w.r lists))) (occurs_alone-renamed w.r i chains) ∙ k.0,
      k.1,
    )

-- Replacements.

spent_follows : (w : World) (name : Token) (cost : ℕ) (work : Work) (r r2 : Result (Made (List Hidden)) Fault)
    → ((m : Made (List Hidden)) → r ≡ Ok m → AllRespected w.o w.r m.notes → IsMade w m r2)
    → (e : Expanded) → spent name cost work r ≡ Ok e → AllRespected w.o w.r e.notes → Followed w e (spent (renamed w.r name) cost work r2)
spent_follows w name cost work r r2 is_made e is resp =
    let put : Made (List Hidden) → Result Expanded Fault = λ m. Ok (expanded m.value m.notes (record work { left = work.left - cost })) in
    let c = cond_ok (nat_lt work.left cost) (TooMuchWork name.at) (onward r put) e is in
    let i = onward_ok {A = Made (List Hidden)} r put e c.1 in
    let P : Expanded → Type 0 = λ v. AllRespected w.o w.r v.notes → Followed w v (spent (renamed w.r name) cost work r2) in
    subst P (ok_same (expanded i.0.value i.0.notes (record work { left = work.left - cost })) e i.2) (λ n.
    let k = is_made i.0 i.1 n in
    (ap (λ t. cond t (Err (TooMuchWork (renamed w.r name).at)) (onward r2 put)) c.0 ∙ ap (λ v. onward v put) k.0, k.1))
    resp

substituted_follows : (w : World) (b : ℕ) (f g : Next) → Below b f f → Follows w b f g → (depth before : ℕ) (name : Token) (m : Definition) (n : ℕ)
    → KeepsBody w.o w.r m m.body → (raw : List (List Hidden)) → AllWithin n raw → GoodLists w raw → (work : Work) → work.left + n < b → (e : Expanded)
    → substituted f depth before name m raw work ≡ Ok e → AllRespected w.o w.r e.notes
    → Followed w e (substituted g depth before (renamed w.r name) (renamed_macro w.r m) (renamed_lists w.r raw) work)
substituted_follows w b f g below follows depth before name m n body raw within good work h e is resp =
    let args : List (List Hidden) → Arguments = λ lists. record { raw = raw; full = lists } in
    let next : Full → Result Expanded Fault = λ x. onward (spent name (cost_of name (args x.lists) (chains_of m)) x.left (result_of name (args x.lists) (chains_of m))) (λ o. Ok (noted x.notes o)) in
    let i = onward_ok {A = Full} (full_from f depth before name (chains_of m) 0 raw work) next e is in
    let cost = cost_of name (args i.0.lists) (chains_of m) in
    let j = onward_ok {A = Expanded} (spent name cost i.0.left (result_of name (args i.0.lists) (chains_of m))) (λ o. Ok (noted i.0.notes o)) e i.2 in
    let name2 : Token = renamed w.r name in
    let next2 : List (List Part) → Full → Result Expanded Fault = λ chains x. onward (spent name2 (cost_of name2 (record { raw = renamed_lists w.r raw; full = x.lists }) chains) x.left
    (result_of name2 (record { raw = renamed_lists w.r raw; full = x.lists }) chains)) (λ o. Ok (noted x.notes o)) in
    let P : Expanded → Type 0 = λ v. AllRespected w.o w.r v.notes → Followed w v (substituted g depth before name2 (renamed_macro w.r m) (renamed_lists w.r raw) work) in
    subst P (ok_same (noted i.0.notes j.0) e j.2) (λ both.
    let each = respected_split w i.0.notes j.0.notes both in
    let k = full_from_follows w b f g below follows depth before name (chains_of m) 0 n raw within good work h i.0 i.1 each.0 in
    let good_args : GoodArguments w (args i.0.lists) = record { raw = good; full = k.1 } in
    let l = spent_follows w name cost i.0.left (result_of name (args i.0.lists) (chains_of m)) (result_of name2 (renamed_arguments w.r (args i.0.lists)) (renamed_chains w.r (chains_of m)))
    (λ v v_is r. result-renamed w name (args i.0.lists) good_args (chains_of m) (chains_of-occur w m body) v v_is r) j.0 j.1 each.1 in (
      ap (λ chains. onward (full_from g depth before name2 chains 0 (renamed_lists w.r raw) work) (next2 chains)) (chains_of-renamed w.o w.r w.old w.new w.keeps m body)
          ∙ ap (λ v. onward v (next2 (renamed_chains w.r (chains_of m)))) k.0
          ∙ ap (λ c. onward (spent name2 c i.0.left (result_of name2 (renamed_arguments w.r (args i.0.lists)) (renamed_chains w.r (chains_of m)))) (λ o. Ok (noted (notes_renamed w i.0.notes) o))) (cost_of-renamed w.r name (args i.0.lists) (chains_of m))
          ∙ ap (λ v. onward v (λ o. Ok (noted (notes_renamed w i.0.notes) o))) l.0
          ∙ ap (λ notes. Ok (expanded (map (renamed_hidden w.r) j.0.toks) notes j.0.left)) (sym (map-append (renamed_note w.r) i.0.notes j.0.notes)),
      l.1,
    ))
    resp

-- a number that stands for a name stays
number_stays : (w : World) (name : Token) (n : ℕ) → number_token (renamed w.r name) n ≡ renamed w.r (number_token name n)
number_stays w name n =
    let k = w.keeps.numbers (8 * n) (length (decimal n)) (decimal n) in
    ap (λ text. token Number text (digit_origins (8 * n) (length (decimal n))) name.gap (w.r.move name.at) name.line false) (sym k.0)
    ∙ ap (λ origins. token Number (w.r.spell (digit_origins (8 * n) (length (decimal n))) (decimal n)) origins name.gap (w.r.move name.at) name.line false) (sym k.1)

abbrev nones : ℕ → List (Option Pos)
nones n = replicate n None

none_replicated : (n : ℕ) → list_all is_none (nones n) ≡ true
none_replicated zero = refl
none_replicated (suc n) = none_replicated n

-- the string that stands for a path stays
path_stays : (w : World) (path : List ℕ) (name : Token) → path_string path (renamed w.r name) ≡ renamed w.r (path_string path name)
path_stays w path name =
    let origins = nones (length (path_text path)) in
    let k = w.keeps.untraced origins (path_text path) (none_replicated (length (path_text path))) in
    ap (λ text. token Str text origins name.gap (w.r.move name.at) name.line false) (sym k.0)
    ∙ ap (λ os. token Str (w.r.spell origins (path_text path)) os name.gap (w.r.move name.at) name.line false) (sym k.1)

one_made : (w : World) (t t2 : Token) → t2 ≡ renamed w.r t → occurs w.o t ≡ true → (m : Made (List Hidden))
    → ◌≡◌ {A = Result (Made (List Hidden)) Fault} (Ok (made (hidden t [] ∷ []) [])) (Ok m) → AllRespected w.o w.r m.notes → IsMade w m (Ok (made (hidden t2 [] ∷ []) []))
one_made w t t2 same here m e resp =
    let P : Made (List Hidden) → Type 0 = λ v. IsMade w v (Ok (made (hidden t2 [] ∷ []) [])) in
    subst P (ok_same (made (hidden t [] ∷ []) []) m e) (ap (λ v. Ok (made (hidden v [] ∷ []) [])) same, (here, tt, tt))

one_counted : (w : World) (t t2 : Token) → t2 ≡ renamed w.r t → occurs w.o t ≡ true → (m : Made (List Hidden))
    → ◌≡◌ {A = Result (Made (List Hidden)) Fault} (Ok (made (hidden t [] ∷ []) (Counted t ∷ []))) (Ok m) → AllRespected w.o w.r m.notes
    → IsMade w m (Ok (made (hidden t2 [] ∷ []) (Counted t2 ∷ [])))
one_counted w t t2 same here m e resp =
    let P : Made (List Hidden) → Type 0 = λ v. IsMade w v (Ok (made (hidden t2 [] ∷ []) (Counted t2 ∷ []))) in
    subst P (ok_same (made (hidden t [] ∷ []) (Counted t ∷ [])) m e) (ap (λ v. Ok (made (hidden v [] ∷ []) (Counted v ∷ []))) same, (here, tt, tt))

pub put_for_follows : (w : World) (b : ℕ) (f g : Next) → Below b f f → Follows w b f g → (form : Form) (path : List ℕ) (depth before : ℕ) (name : Token) (m : Definition) (n : ℕ)
    → KeepsBody w.o w.r m m.body → (raw : List (List Hidden)) → AllWithin n raw → GoodLists w raw → (work : Work) → work.left + n < b → (e : Expanded)
    → put_for form path f depth before name m raw work ≡ Ok e → AllRespected w.o w.r e.notes
    → Followed w e (put_for form path g depth before (renamed w.r name) (renamed_macro w.r m) (renamed_lists w.r raw) work)
put_for_follows w b f g below follows form.Line path depth before name m n body raw within good work h e is resp =
    spent_follows w name 1 work (Ok (made (hidden (line_number name) [] ∷ []) [])) (Ok (made (hidden (line_number (renamed w.r name)) [] ∷ []) []))
    (one_made w (line_number name) (line_number (renamed w.r name)) (number_stays w name name.line) (w.keeps.others Number _ _ refl refl)) e is resp
put_for_follows w b f g below follows form.File path depth before name m n body raw within good work h e is resp =
    spent_follows w name 1 work (Ok (made (hidden (path_string path name) [] ∷ []) [])) (Ok (made (hidden (path_string path (renamed w.r name)) [] ∷ []) []))
    (one_made w (path_string path name) (path_string path (renamed w.r name)) (path_stays w path name) (w.keeps.others Str _ _ refl refl)) e is resp
put_for_follows w b f g below follows form.Counter path depth before name m n body raw within good work h e is resp =
    let t : Token = number_token name work.counter in
    let t2 : Token = number_token (renamed w.r name) work.counter in
    let c = cond_ok_yes (nat_lt work.counter most_bytes) (TooMuchWork name.at) (numbered name work) e is in
    let k = spent_follows w name 1 (record work { counter = work.counter + 1 }) (Ok (made (hidden t [] ∷ []) (Counted t ∷ []))) (Ok (made (hidden t2 [] ∷ []) (Counted t2 ∷ [])))
    (one_counted w t t2 (number_stays w name work.counter) (w.keeps.others Number _ _ refl refl)) e c.1 resp in
    (ap (λ b. cond b (numbered (renamed w.r name) work) (Err (TooMuchWork (renamed w.r name).at))) c.0 ∙ k.0, k.1)
put_for_follows w b f g below follows form.Object path depth before name m n body raw within good work h e is resp =
    substituted_follows w b f g below follows depth before name m n body raw within good work h e is resp
put_for_follows w b f g below follows form.Function path depth before name m n body raw within good work h e is resp =
    substituted_follows w b f g below follows depth before name m n body raw within good work h e is resp
