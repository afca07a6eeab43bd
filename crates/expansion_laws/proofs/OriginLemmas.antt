-- The tokens of an expansion come from somewhere.
use Rattle.std.proofs.Common.{◌≡◌, ℕ, zero, suc, ◌+◌, ◌-◌, ◌<◌, ◌≤◌, ◌&&◌, Bool, true, false, not, cond, List, [], ◌∷◌, ◌++◌, length, map, get_or, Option, Some, None, Result, Ok, Err, refl, sym, subst, ◌∙◌, arith, length-append, nat_lt}
use Rattle.std.proofs.lemmas.List.{length-map}
use Rattle.std.proofs.lemmas.Option.{none-some}
use Rattle.cs_base.specs.Limits.{most_bytes}
use Rattle.cs_base.specs.Token.{Token}
use Rattle.line_shape.specs.Signs.{is_name, is_open}
use Rattle.macro_body.specs.declared.notes.Work.{Work}
use Rattle.macro_body.specs.Below.paste_origin.Pasting.{PasteFault, glue_of}
use Rattle.macro_body.specs.Below.paste_origin.Strings.{StringFault, stringize_of}
use Rattle.macro_body.specs.declared.definitions.Form.{Form}
use Rattle.macro_body.specs.declared.definitions.Form.TheVariants as form
use Rattle.macro_body.specs.declared.definitions.Definition.{Definition}
use Rattle.macro_body.specs.Hides.{Hidden, hidden, hide_more, in_both, toks_of, hides_name}
use Rattle.macro_body.specs.Macro.{Table, is_function}
use Rattle.macro_body.specs.Bodies.{Part, Plain, Param, Quote, Paste, Rest, chains_of, occurs_alone}
use Rattle.macro_expand.specs.Calls.{Call, call_from, commas_of, arguments_of}
use Rattle.macro_body.specs.Notes.{Fault, OpenCall, WrongArguments, TooMuchWork, TooDeep, Note, Counted, Replaced, Linked, Stringized, Pasted, Expanded, expanded, put_out, noted, onward}
use Rattle.macro_body.specs.Substitution.{Arguments, Made, made, made_both, with_gap, put_in, argument_for, rest_tokens, rest_for, is_alone, string_made, operand_made, operands_made, chains_made, token_pasted, pasted_behind, two_pasted, chain_pasted, chains_pasted, result_of, cost_of, number_token, line_number, path_string}
use Rattle.macro_expand.specs.Expansion.{Setting, Next, most_depth, one_more, stays, Full, full, with_full, without_full, alone, full_step, full_from, spent, numbered, substituted, put_for, first_notes, replaced, added_by, called_with, called, behind_name, act, macro_of, step, whole}
use Rattle.macro_expand.specs.Renaming.{Occurring, occurs, AllOccur}
use Rattle.macro_expand.specs.Laws.{AllDefined, Passes, AllMadePass, TokensComeFromSomewhere}
use Rattle.macro_body.proofs.ResultLemmas.{ok_same, err_ok, onward_ok, cond_ok, cond_ok_yes}
use Rattle.macro_expand.proofs.CallLemmas.{AllWithin, none, more, call_shorter, arguments_within}
use Rattle.macro_expand.proofs.StepLemmas.{Below, put_for_puts}
use Rattle.macro_expand.proofs.WholeLemmas.{whole_below_itself, whole_is_step}
use Rattle.expansion_laws.proofs.GroundLemmas.{Ground, AllDefined-append, AllDefined-in_both, Good, GoodLists, Good-append, Good-hide_more, Good-get_or, Good-with_gap, Good-moved_in, Good-argument_for, good_call, good_arguments}
use Rattle.expansion_laws.proofs.PartLemmas.{PartOccurs, PartsOccur, ChainsOccur, chains_of-occur}

made_split : (o : Occurring) (xs ys : List Note) → AllMadePass o (xs ++ ys) → AllMadePass o xs × AllMadePass o ys
made_split o [] ys h = (tt, h)
made_split o (Stringized toks s ∷ xs) ys h = let k = made_split o xs ys h.1 in ((h.0, k.0), k.1)
made_split o (Pasted x y z ∷ xs) ys h = let k = made_split o xs ys h.1 in ((h.0, k.0), k.1)
made_split o (Replaced name m n ∷ xs) ys h = made_split o xs ys h
made_split o (Linked x y ∷ xs) ys h = made_split o xs ys h
made_split o (Counted z ∷ xs) ys h = made_split o xs ys h

-- What is made.

record GoodArguments (g : Ground) (args : Arguments) : Type 0 where
  raw : GoodLists g args.raw
  full : GoodLists g args.full

string_good : (g : Ground) (name sign : Token) (toks : List Token) (r : Result Token StringFault) (m : Made (List Hidden))
    → string_made name sign toks r ≡ Ok m → AllMadePass g.o m.notes → Good g m.value
string_good g name sign toks (Err f) m e pass = err_ok _ m e
string_good g name sign toks (Ok s) m e pass =
    let P : Made (List Hidden) → Type 0 = λ v. AllMadePass g.o v.notes → Good g v.value in
    subst P (ok_same (made (hidden (put_in name sign.gap s) [] ∷ []) (Stringized toks s ∷ [])) m e) (λ r. (r.0, tt, tt)) pass

rest_good : (g : Ground) (b : Bool) (name t : Token) (hs : List Hidden) → occurs g.o t ≡ true → Good g hs → Good g (rest_tokens b name t hs)
rest_good g true name t hs here good = (here, tt, Good-moved_in g hs good)
rest_good g false name t hs here good = tt

operand_good : (g : Ground) (name : Token) (args : Arguments) → GoodArguments g args → (lone : Bool) (p : Part) → PartOccurs g p → (m : Made (List Hidden))
    → operand_made name args lone p ≡ Ok m → AllMadePass g.o m.notes → Good g m.value
operand_good g name args good lone (Plain t) here m e pass = subst (λ (v : Made (List Hidden)). Good g v.value) (ok_same (made (hidden (put_in name t.gap t) [] ∷ []) []) m e) (here, tt, tt)
operand_good g name args good lone (Paste t) here m e pass = subst (λ (v : Made (List Hidden)). Good g v.value) (ok_same (made (hidden (put_in name t.gap t) [] ∷ []) []) m e) (here, tt, tt)
operand_good g name args good true (Param t i) here m e pass =
    subst (λ (v : Made (List Hidden)). Good g v.value) (ok_same (made (argument_for t (get_or args.full i [])) []) m e) (Good-argument_for g t (get_or args.full i []) (Good-get_or g args.full i good.full))
operand_good g name args good false (Param t i) here m e pass =
    subst (λ (v : Made (List Hidden)). Good g v.value) (ok_same (made (argument_for t (get_or args.raw i [])) []) m e) (Good-argument_for g t (get_or args.raw i []) (Good-get_or g args.raw i good.raw))
operand_good g name args good lone (Quote t i) here m e pass =
    string_good g name t (toks_of (get_or args.raw i [])) (stringize_of (toks_of (get_or args.raw i []))) m e pass
operand_good g name args good lone (Rest t i) here m e pass =
    subst (λ (v : Made (List Hidden)). Good g v.value) (ok_same (made (rest_for name t args.raw i) []) m e)
    (rest_good g (nat_lt i (length args.raw)) name t (get_or args.raw i []) here (Good-get_or g args.raw i good.raw))

abbrev put_first : {A : Type 0} → Made A → Made (List A) → Result (Made (List A)) Fault
put_first v vs = Ok (made_both (λ x xs. x ∷ xs) v vs)

operands_good : (g : Ground) (name : Token) (args : Arguments) → GoodArguments g args → (lone : Bool) (ps : List Part) → PartsOccur g ps → (m : Made (List (List Hidden)))
    → operands_made name args lone ps ≡ Ok m → AllMadePass g.o m.notes → GoodLists g m.value
operands_good g name args good lone [] here m e pass = subst (λ (v : Made (List (List Hidden))). GoodLists g v.value) (ok_same (made [] []) m e) tt
operands_good g name args good lone (p ∷ ps) here m e pass =
    let i = onward_ok {A = Made (List Hidden)} (operand_made name args lone p) (λ v. onward (operands_made name args lone ps) (put_first v)) m e in
    let j = onward_ok {A = Made (List (List Hidden))} (operands_made name args lone ps) (put_first i.0) m i.2 in
    let P : Made (List (List Hidden)) → Type 0 = λ v. AllMadePass g.o v.notes → GoodLists g v.value in
    subst P (ok_same (made_both (λ x xs. x ∷ xs) i.0 j.0) m j.2) (λ both.
    let each = made_split g.o i.0.notes j.0.notes both in
    (operand_good g name args good lone p here.0 i.0 i.1 each.0, operands_good g name args good lone ps here.1 j.0 j.1 each.1)) pass

abbrev GoodChains : Ground → List (List (List Hidden)) → Type 0
GoodChains g [] = Unit {0}
GoodChains g (c ∷ cs) = GoodLists g c × GoodChains g cs

chains_good : (g : Ground) (name : Token) (args : Arguments) → GoodArguments g args → (cs : List (List Part)) → ChainsOccur g cs → (m : Made (List (List (List Hidden))))
    → chains_made name args cs ≡ Ok m → AllMadePass g.o m.notes → GoodChains g m.value
chains_good g name args good [] here m e pass = subst (λ (v : Made (List (List (List Hidden)))). GoodChains g v.value) (ok_same (made [] []) m e) tt
chains_good g name args good (c ∷ cs) here m e pass =
    let i = onward_ok {A = Made (List (List Hidden))} (operands_made name args (is_alone c) c) (λ v. onward (chains_made name args cs) (put_first v)) m e in
    let j = onward_ok {A = Made (List (List (List Hidden)))} (chains_made name args cs) (put_first i.0) m i.2 in
    let P : Made (List (List (List Hidden))) → Type 0 = λ v. AllMadePass g.o v.notes → GoodChains g v.value in
    subst P (ok_same (made_both (λ x xs. x ∷ xs) i.0 j.0) m j.2) (λ both.
    let each = made_split g.o i.0.notes j.0.notes both in
    (operands_good g name args good (is_alone c) c here.0 i.0 i.1 each.0, chains_good g name args good cs here.1 j.0 j.1 each.1)) pass

-- What is pasted.

token_good : (g : Ground) (name : Token) (x y : Hidden) → AllDefined g.old x.hides → (r : Result Token PasteFault) (m : Made Hidden)
    → token_pasted name x y r ≡ Ok m → AllMadePass g.o m.notes → Good g (m.value ∷ [])
token_good g name x y hides (Err f) m e pass = err_ok _ m e
token_good g name x y hides (Ok z) m e pass =
    let P : Made Hidden → Type 0 = λ v. AllMadePass g.o v.notes → Good g (v.value ∷ []) in
    subst P (ok_same (made (hidden (put_in name x.tok.gap z) (in_both x.hides y.hides)) (Pasted x.tok y.tok (put_in name x.tok.gap z) ∷ [])) m e)
    (λ r. (r.0, AllDefined-in_both g.old x.hides y.hides hides, tt)) pass

behind_good : (g : Ground) (name : Token) (x : Hidden) (xs ys : List Hidden) → Good g (x ∷ xs) → Good g ys → (m : Made (List Hidden))
    → pasted_behind name x xs ys ≡ Ok m → AllMadePass g.o m.notes → Good g m.value
behind_good g name x [] [] gx gy m e pass = subst (λ (v : Made (List Hidden)). Good g v.value) (ok_same (made (x ∷ []) []) m e) gx
behind_good g name x [] (y ∷ ys) gx gy m e pass =
    let i = onward_ok {A = Made Hidden} (token_pasted name x y (glue_of x.tok y.tok)) (λ z. Ok (made (z.value ∷ ys) z.notes)) m e in
    let P : Made (List Hidden) → Type 0 = λ v. AllMadePass g.o v.notes → Good g v.value in
    subst P (ok_same (made (i.0.value ∷ ys) i.0.notes) m i.2) (λ r.
    let a = token_good g name x y gx.1 (glue_of x.tok y.tok) i.0 i.1 r in (a.0, a.1, gy.2)) pass
behind_good g name x (x2 ∷ xs) ys gx gy m e pass =
    let i = onward_ok {A = Made (List Hidden)} (pasted_behind name x2 xs ys) (λ zs. Ok (made (x ∷ zs.value) zs.notes)) m e in
    let P : Made (List Hidden) → Type 0 = λ v. AllMadePass g.o v.notes → Good g v.value in
    subst P (ok_same (made (x ∷ i.0.value) i.0.notes) m i.2) (λ r. (gx.0, gx.1, behind_good g name x2 xs ys gx.2 gy i.0 i.1 r)) pass

two_good : (g : Ground) (name : Token) (xs ys : List Hidden) → Good g xs → Good g ys → (m : Made (List Hidden)) → two_pasted name xs ys ≡ Ok m → AllMadePass g.o m.notes → Good g m.value
two_good g name [] ys gx gy m e pass = subst (λ (v : Made (List Hidden)). Good g v.value) (ok_same (made ys []) m e) gy
two_good g name (x ∷ xs) ys gx gy m e pass = behind_good g name x xs ys gx gy m e pass

chain_good : (g : Ground) (name : Token) (xs : List Hidden) (yss : List (List Hidden)) → Good g xs → GoodLists g yss → (m : Made (List Hidden))
    → chain_pasted name xs yss ≡ Ok m → AllMadePass g.o m.notes → Good g m.value
chain_good g name xs [] gx gy m e pass = subst (λ (v : Made (List Hidden)). Good g v.value) (ok_same (made xs []) m e) gx
chain_good g name xs (ys ∷ yss) gx gy m e pass =
    let i = onward_ok {A = Made (List Hidden)} (two_pasted name xs ys) (λ z. onward (chain_pasted name z.value yss) (λ zs. Ok (made zs.value (z.notes ++ zs.notes)))) m e in
    let j = onward_ok {A = Made (List Hidden)} (chain_pasted name i.0.value yss) (λ zs. Ok (made zs.value (i.0.notes ++ zs.notes))) m i.2 in
    let P : Made (List Hidden) → Type 0 = λ v. AllMadePass g.o v.notes → Good g v.value in
    subst P (ok_same (made j.0.value (i.0.notes ++ j.0.notes)) m j.2) (λ both.
    let each = made_split g.o i.0.notes j.0.notes both in
    chain_good g name i.0.value yss (two_good g name xs ys gx gy.0 i.0 i.1 each.0) gy.1 j.0 j.1 each.1) pass

pasted_good : (g : Ground) (name : Token) (cs : List (List (List Hidden))) → GoodChains g cs → (m : Made (List Hidden)) → chains_pasted name cs ≡ Ok m → AllMadePass g.o m.notes → Good g m.value
pasted_good g name [] good m e pass = subst (λ (v : Made (List Hidden)). Good g v.value) (ok_same (made [] []) m e) tt
pasted_good g name (c ∷ cs) good m e pass =
    let i = onward_ok {A = Made (List Hidden)} (chain_pasted name [] c) (λ v. onward (chains_pasted name cs) (λ vs. Ok (made_both (λ x xs. x ++ xs) v vs))) m e in
    let j = onward_ok {A = Made (List Hidden)} (chains_pasted name cs) (λ vs. Ok (made_both (λ x xs. x ++ xs) i.0 vs)) m i.2 in
    let P : Made (List Hidden) → Type 0 = λ v. AllMadePass g.o v.notes → Good g v.value in
    subst P (ok_same (made_both (λ x xs. x ++ xs) i.0 j.0) m j.2) (λ both.
    let each = made_split g.o i.0.notes j.0.notes both in
    Good-append g i.0.value j.0.value (chain_good g name [] c tt good.0 i.0 i.1 each.0) (pasted_good g name cs good.1 j.0 j.1 each.1)) pass

result_good : (g : Ground) (name : Token) (args : Arguments) → GoodArguments g args → (cs : List (List Part)) → ChainsOccur g cs → (m : Made (List Hidden))
    → result_of name args cs ≡ Ok m → AllMadePass g.o m.notes → Good g m.value
unfolding result_of
result_good g name args good cs here m e pass =
    let i = onward_ok {A = Made (List (List (List Hidden)))} (chains_made name args cs) (λ s. onward (chains_pasted name s.value) (λ v. Ok (made (with_gap name.gap v.value) (s.notes ++ v.notes)))) m e in
    let j = onward_ok {A = Made (List Hidden)} (chains_pasted name i.0.value) (λ v. Ok (made (with_gap name.gap v.value) (i.0.notes ++ v.notes))) m i.2 in
    let P : Made (List Hidden) → Type 0 = λ v. AllMadePass g.o v.notes → Good g v.value in
    subst P (ok_same (made (with_gap name.gap j.0.value) (i.0.notes ++ j.0.notes)) m j.2) (λ both.
    let each = made_split g.o i.0.notes j.0.notes both in
    Good-with_gap g name.gap j.0.value (pasted_good g name i.0.value (chains_good g name args good cs here i.0 i.1 each.0) j.0 j.1 each.1)) pass

-- Expansions.

-- so it is with fewer than b tokens and steps of work together
unfoldable HoldsBelow : Ground → ℕ → Next → Type 0
HoldsBelow g b f = (depth before : ℕ) (ts : List Hidden) (work : Work) (e : Expanded) → work.left + length ts < b → Good g ts → f depth before ts work ≡ Ok e → AllMadePass g.o e.notes → Good g e.toks

stays_good : (g : Ground) (b : ℕ) (f : Next) → HoldsBelow g b f → (depth before : ℕ) (t : Hidden) (ts : List Hidden) (work : Work) (e : Expanded) → work.left + length ts < b → Good g (t ∷ ts)
    → stays f depth before t ts work ≡ Ok e → AllMadePass g.o e.notes → Good g e.toks
unfolding HoldsBelow
stays_good g b f holds depth before t ts work e h good is pass =
    let i = onward_ok {A = Expanded} (f depth (one_more depth before) ts work) (λ o. Ok (put_out t o)) e is in
    let P : Expanded → Type 0 = λ v. AllMadePass g.o v.notes → Good g v.toks in
    subst P (ok_same (put_out t i.0) e i.2) (λ r. (good.0, good.1, holds depth (one_more depth before) ts work i.0 h good.2 i.1 r)) pass

full_step_good : (g : Ground) (f : Next) (wanted : Bool) (depth before : ℕ) (name : Token) (a : List Hidden) (work : Work) (rest : Work → Result Full Fault)
    → ((e : Expanded) → alone f depth before name a work ≡ Ok e → (e.left.left ≤ work.left) × (AllMadePass g.o e.notes → Good g e.toks))
    → ((left : Work) (v : Full) → left.left ≤ work.left → rest left ≡ Ok v → AllMadePass g.o v.notes → GoodLists g v.lists)
    → (v : Full) → full_step wanted f depth before name a work rest ≡ Ok v → AllMadePass g.o v.notes → GoodLists g v.lists
full_step_good g f false depth before name a work rest here behind v is pass =
    let i = onward_ok {A = Full} (rest work) (λ x. Ok (without_full x)) v is in
    let P : Full → Type 0 = λ x. AllMadePass g.o x.notes → GoodLists g x.lists in
    subst P (ok_same (without_full i.0) v i.2) (λ r. (tt, behind work i.0 (omega arith) i.1 r)) pass
full_step_good g f true depth before name a work rest here behind v is pass =
    let i = onward_ok {A = Expanded} (alone f depth before name a work) (λ e. onward (rest e.left) (λ x. Ok (with_full e x))) v is in
    let j = onward_ok {A = Full} (rest i.0.left) (λ x. Ok (with_full i.0 x)) v i.2 in
    let P : Full → Type 0 = λ x. AllMadePass g.o x.notes → GoodLists g x.lists in
    subst P (ok_same (with_full i.0 j.0) v j.2) (λ both.
    let each = made_split g.o i.0.notes j.0.notes both in
    let k = here i.0 i.1 in
    (k.1 each.0, behind i.0.left j.0 k.0 j.1 each.1)) pass

full_good : (g : Ground) (b : ℕ) (f : Next) → Below b f f → HoldsBelow g b f → (depth before : ℕ) (name : Token) (chains : List (List Part)) (i n : ℕ) (lists : List (List Hidden))
    → AllWithin n lists → GoodLists g lists → (work : Work) → work.left + n < b → (v : Full) → full_from f depth before name chains i lists work ≡ Ok v → AllMadePass g.o v.notes → GoodLists g v.lists
unfolding Below HoldsBelow
full_good g b f below holds depth before name chains i n [] none good work h v is pass =
    subst (λ (x : Full). GoodLists g x.lists) (ok_same (full [] [] work) v is) tt
full_good g b f below holds depth before name chains i n (a ∷ lists) (more here behind) good work h v is pass =
    full_step_good g f (occurs_alone i chains) depth before name a work (full_from f depth before name chains (suc i) lists)
    (λ e e_is.
    let c = cond_ok_yes (nat_lt depth most_depth) (TooDeep name.at) (f (suc depth) before a work) e e_is in
    ((below (suc depth) before a work (omega arith)).falls e c.1, (λ r. holds (suc depth) before a work e (omega arith) good.0 c.1 r)))
    (λ left x le x_is r. full_good g b f below holds depth before name chains (suc i) n lists behind good.1 left (omega arith) x x_is r)
    v is pass

spent_good : (g : Ground) (name : Token) (cost : ℕ) (work : Work) (r : Result (Made (List Hidden)) Fault) → ((m : Made (List Hidden)) → r ≡ Ok m → AllMadePass g.o m.notes → Good g m.value)
    → (e : Expanded) → spent name cost work r ≡ Ok e → AllMadePass g.o e.notes → Good g e.toks
spent_good g name cost work r is_good e is pass =
    let put : Made (List Hidden) → Result Expanded Fault = λ m. Ok (expanded m.value m.notes (record work { left = work.left - cost })) in
    let c = cond_ok (nat_lt work.left cost) (TooMuchWork name.at) (onward r put) e is in
    let i = onward_ok {A = Made (List Hidden)} r put e c.1 in
    let P : Expanded → Type 0 = λ v. AllMadePass g.o v.notes → Good g v.toks in
    subst P (ok_same (expanded i.0.value i.0.notes (record work { left = work.left - cost })) e i.2) (λ n. is_good i.0 i.1 n) pass

substituted_good : (g : Ground) (b : ℕ) (f : Next) → Below b f f → HoldsBelow g b f → (depth before : ℕ) (name : Token) (m : Definition) (n : ℕ) → AllOccur g.o m.body
    → (raw : List (List Hidden)) → AllWithin n raw → GoodLists g raw → (work : Work) → work.left + n < b → (e : Expanded)
    → substituted f depth before name m raw work ≡ Ok e → AllMadePass g.o e.notes → Good g e.toks
substituted_good g b f below holds depth before name m n body raw within good work h e is pass =
    let args : List (List Hidden) → Arguments = λ lists. record { raw = raw; full = lists } in
    let next : Full → Result Expanded Fault = λ x. onward (spent name (cost_of name (args x.lists) (chains_of m)) x.left (result_of name (args x.lists) (chains_of m))) (λ o. Ok (noted x.notes o)) in
    let i = onward_ok {A = Full} (full_from f depth before name (chains_of m) 0 raw work) next e is in
    let cost = cost_of name (args i.0.lists) (chains_of m) in
    let j = onward_ok {A = Expanded} (spent name cost i.0.left (result_of name (args i.0.lists) (chains_of m))) (λ o. Ok (noted i.0.notes o)) e i.2 in
    let P : Expanded → Type 0 = λ v. AllMadePass g.o v.notes → Good g v.toks in
    subst P (ok_same (noted i.0.notes j.0) e j.2) (λ both.
    let each = made_split g.o i.0.notes j.0.notes both in
    let k = full_good g b f below holds depth before name (chains_of m) 0 n raw within good work h i.0 i.1 each.0 in
    let good_args : GoodArguments g (args i.0.lists) = record { raw = good; full = k } in
    spent_good g name cost i.0.left (result_of name (args i.0.lists) (chains_of m)) (λ v v_is r. result_good g name (args i.0.lists) good_args (chains_of m) (chains_of-occur g m body) v v_is r) j.0 j.1 each.1) pass

one_good : (g : Ground) (t : Token) (notes : List Note) → occurs g.o t ≡ true → (m : Made (List Hidden)) → ◌≡◌ {A = Result (Made (List Hidden)) Fault} (Ok (made (hidden t [] ∷ []) notes)) (Ok m)
    → AllMadePass g.o m.notes → Good g m.value
one_good g t notes here m e pass = subst (λ (v : Made (List Hidden)). Good g v.value) (ok_same (made (hidden t [] ∷ []) notes) m e) (here, tt, tt)

put_for_good : (g : Ground) (set : Setting) → Passes g.o set → (b : ℕ) (f : Next) → Below b f f → HoldsBelow g b f → (form : Form) (depth before : ℕ) (name : Token) (m : Definition) (n : ℕ)
    → AllOccur g.o m.body → (raw : List (List Hidden)) → AllWithin n raw → GoodLists g raw → (work : Work) → work.left + n < b → (e : Expanded)
    → put_for form set.path f depth before name m raw work ≡ Ok e → AllMadePass g.o e.notes → Good g e.toks
put_for_good g set passes b f below holds form.Line depth before name m n body raw within good work h e is pass =
    spent_good g name 1 work (Ok (made (hidden (line_number name) [] ∷ []) [])) (one_good g (line_number name) [] (passes.numbers name name.line)) e is pass
put_for_good g set passes b f below holds form.File depth before name m n body raw within good work h e is pass =
    spent_good g name 1 work (Ok (made (hidden (path_string set.path name) [] ∷ []) [])) (one_good g (path_string set.path name) [] (passes.paths name)) e is pass
put_for_good g set passes b f below holds form.Counter depth before name m n body raw within good work h e is pass =
    let t : Token = number_token name work.counter in
    let c = cond_ok_yes (nat_lt work.counter most_bytes) (TooMuchWork name.at) (numbered name work) e is in
    spent_good g name 1 (record work { counter = work.counter + 1 }) _ (one_good g t (Counted t ∷ []) (passes.numbers name work.counter)) e c.1 pass
put_for_good g set passes b f below holds form.Object depth before name m n body raw within good work h e is pass = substituted_good g b f below holds depth before name m n body raw within good work h e is pass
put_for_good g set passes b f below holds form.Function depth before name m n body raw within good work h e is pass = substituted_good g b f below holds depth before name m n body raw within good work h e is pass

abbrev ground_of : Occurring → Setting → Ground
ground_of o set = record { o = o; old = set.table }

replaced_good : (o : Occurring) (set : Setting) → Passes o set → (b : ℕ) (f : Next) → Below b f f → HoldsBelow (ground_of o set) b f → (depth before : ℕ) (name : Token) (m : Definition)
    → AllOccur o m.body → (added : List (List ℕ)) → AllDefined set.table added → (n : ℕ) (raw : List (List Hidden)) → AllWithin n raw → GoodLists (ground_of o set) raw
    → (ts : List Hidden) → Good (ground_of o set) ts → (work : Work) → work.left + n < b → work.left + length ts < b → (e : Expanded)
    → replaced set f depth before name m added raw ts work ≡ Ok e → AllMadePass o e.notes → Good (ground_of o set) e.toks
unfolding HoldsBelow
replaced_good o set passes b f below holds depth before name m body added defined n raw within good ts good_ts work h h2 e is pass =
    let g : Ground = ground_of o set in
    let after : Expanded → Result Expanded Fault = λ x. onward (f depth before (map (hide_more added) x.toks ++ ts) x.left) (λ rest. Ok (noted (first_notes name m before ++ x.notes) rest)) in
    let i = onward_ok {A = Expanded} (put_for m.form set.path f depth before name m raw work) after e is in
    let list : List Hidden = map (hide_more added) i.0.toks ++ ts in
    let j = onward_ok {A = Expanded} (f depth before list i.0.left) (λ rest. Ok (noted (first_notes name m before ++ i.0.notes) rest)) e i.2 in
    let puts = (put_for_puts b f f below m.form set.path depth before name m n raw within work h).falls i.0 i.1 in
    let room : i.0.left.left + length list < b = omega (arith, length-append (map (hide_more added) i.0.toks) ts, length-map i.0.toks (hide_more added)) in
    let P : Expanded → Type 0 = λ v. AllMadePass o v.notes → Good g v.toks in
    subst P (ok_same (noted (first_notes name m before ++ i.0.notes) j.0) e j.2) (λ all.
    let first = made_split o (first_notes name m before ++ i.0.notes) j.0.notes all in
    let second = made_split o (first_notes name m before) i.0.notes first.0 in
    let k = put_for_good g set passes b f below holds m.form depth before name m n body raw within good work h i.0 i.1 second.1 in
    holds depth before list i.0.left j.0 room (Good-append g (map (hide_more added) i.0.toks) ts (Good-hide_more g added i.0.toks defined k) good_ts) j.1 first.1) pass

replaced_by : (table : Table) (t : Hidden) (m : Definition) → macro_of table t ≡ Some m → table t.tok.text ≡ Some m
replaced_by table t m e = found (is_name t.tok && not (hides_name t.hides t.tok.text)) e
  where
    found : (b : Bool) → cond b (table t.tok.text) None ≡ Some m → table t.tok.text ≡ Some m
    found true k = k
    found false k = absurd (none-some m k)

called_good : (o : Occurring) (set : Setting) → Passes o set → (b : ℕ) (f : Next) → Below b f f → HoldsBelow (ground_of o set) b f → (depth before : ℕ) (t : Hidden) (m : Definition)
    → set.table t.tok.text ≡ Some m → AllDefined set.table t.hides → (ts : List Hidden) (work : Work) → Good (ground_of o set) ts → work.left + length ts < b
    → (call : Option Call) → call_from ts (commas_of m) 0 ≡ call → (e : Expanded) → called set f depth before t m work call ≡ Ok e → AllMadePass o e.notes → Good (ground_of o set) e.toks
called_good o set passes b f below holds depth before t m is_m hides ts work good h None call_is e is pass = err_ok (OpenCall t.tok.at) e is
called_good o set passes b f below holds depth before t m is_m hides ts work good h (Some call) call_is e is pass = by (arguments_of m call.arguments) refl is
  where
    by : (raw : Option (List (List Hidden))) → arguments_of m call.arguments ≡ raw → called_with set f depth before t m call work raw ≡ Ok e → Good (ground_of o set) e.toks
    by None args_are k = err_ok (WrongArguments t.tok.at) e k
    by (Some raw) args_are k =
        let g : Ground = ground_of o set in
        let short = call_shorter ts (commas_of m) 0 call call_is in
        let fine = good_call g ts (commas_of m) 0 good call call_is in
        let behind = short.behind in
        replaced_good o set passes b f below holds depth before t.tok m (passes.bodies t.tok.text m is_m) (added_by t call.close)
        (AllDefined-append set.table (in_both t.hides call.close) (t.tok.text ∷ []) (AllDefined-in_both set.table t.hides call.close hides) ((m, is_m), tt))
        (length ts) raw (arguments_within m (length ts) call.arguments raw short.each args_are) (good_arguments g m call.arguments raw fine.each args_are) call.rest fine.rest work h (omega arith) e k pass

act_good : (o : Occurring) (set : Setting) → Passes o set → (b : ℕ) (f : Next) → Below b f f → HoldsBelow (ground_of o set) b f → (depth before : ℕ) (t : Hidden) (ts : List Hidden) (work : Work)
    → Good (ground_of o set) (t ∷ ts) → work.left + length ts < b → (e : Expanded) → (m : Option Definition) → macro_of set.table t ≡ m → act set f depth before t ts work m ≡ Ok e → AllMadePass o e.notes → Good (ground_of o set) e.toks
act_good o set passes b f below holds depth before t ts work good h e None is_m is pass = stays_good (ground_of o set) b f holds depth before t ts work e h good is pass
act_good o set passes b f below holds depth before t ts work good h e (Some m) is_m is pass = by (is_function m.form) is
  where
    in_call : (zs : List Hidden) → zs ≡ ts → behind_name set f depth before t m zs work ≡ Ok e → Good (ground_of o set) e.toks
    in_call [] zs_are k = stays_good (ground_of o set) b f holds depth before t [] work e (subst (λ l. work.left + length l < b) (sym zs_are) h) (subst (λ l. Good (ground_of o set) (t ∷ l)) (sym zs_are) good) k pass
    in_call (p ∷ zs) zs_are k = opened (is_open p.tok) k
      where
        room : work.left + length (p ∷ zs) < b
        room = subst (λ l. work.left + length l < b) (sym zs_are) h

        fine : Good (ground_of o set) (t ∷ p ∷ zs)
        fine = subst (λ l. Good (ground_of o set) (t ∷ l)) (sym zs_are) good

        opened : (opens : Bool) → cond opens (called set f depth before t m work (call_from zs (commas_of m) 0)) (stays f depth before t (p ∷ zs) work) ≡ Ok e → Good (ground_of o set) e.toks
        opened true k = called_good o set passes b f below holds depth before t m (replaced_by set.table t m is_m) good.1 zs work fine.2.2 (let r = room in omega arith) (call_from zs (commas_of m) 0) refl e k pass
        opened false k = stays_good (ground_of o set) b f holds depth before t (p ∷ zs) work e room fine k pass

    by : (fn : Bool) → cond fn (behind_name set f depth before t m ts work) (replaced set f depth before t.tok m (t.hides ++ t.tok.text ∷ []) [] ts work) ≡ Ok e → Good (ground_of o set) e.toks
    by true k = in_call ts refl k
    by false k =
        let old_is = replaced_by set.table t m is_m in
        replaced_good o set passes b f below holds depth before t.tok m (passes.bodies t.tok.text m old_is) (t.hides ++ t.tok.text ∷ [])
        (AllDefined-append set.table t.hides (t.tok.text ∷ []) good.1 ((m, old_is), tt)) 0 [] none tt ts good.2 work (omega arith) h e k pass

step_good : (o : Occurring) (set : Setting) → Passes o set → (b : ℕ) → HoldsBelow (ground_of o set) b (whole set) → (depth before : ℕ) (ts : List Hidden) (work : Work) (e : Expanded)
    → work.left + length ts < suc b → Good (ground_of o set) ts → step set (whole set) depth before ts work ≡ Ok e → AllMadePass o e.notes → Good (ground_of o set) e.toks
step_good o set passes b holds depth before [] work e h good is pass = subst (λ (v : Expanded). Good (ground_of o set) v.toks) (ok_same (expanded [] [] work) e is) tt
step_good o set passes b holds depth before (t ∷ ts) work e h good is pass =
    act_good o set passes b (whole set) (whole_below_itself set b) holds depth before t ts work good (omega arith) e (macro_of set.table t) refl is pass

holds_below : (o : Occurring) (set : Setting) → Passes o set → (b : ℕ) → HoldsBelow (ground_of o set) b (whole set)
unfolding HoldsBelow
holds_below o set passes zero = λ depth before ts work e h good is pass. absurd (omega arith)
holds_below o set passes (suc b) = λ depth before ts work e h good is pass.
    step_good o set passes b (holds_below o set passes b) depth before ts work e h good (sym (whole_is_step set depth before ts work) ∙ is) pass

-- the law
pub tokens_come_from_somewhere : TokensComeFromSomewhere
unfolding HoldsBelow
tokens_come_from_somewhere = λ o set depth before ts work e passes held is pass.
    let holds : (depth before : ℕ) (ts2 : List Hidden) (work2 : Work) (e : Expanded) → work2.left + length ts2 < suc (work.left + length ts) → Good (ground_of o set) ts2
    → whole set depth before ts2 work2 ≡ Ok e → AllMadePass o e.notes → Good (ground_of o set) e.toks = holds_below o set passes (suc (work.left + length ts)) in
    holds depth before ts work e (omega arith) held is pass
