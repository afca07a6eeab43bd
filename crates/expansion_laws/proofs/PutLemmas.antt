-- What macros put in is not direct.
use Rattle.std.proofs.Common.{◌≡◌, ℕ, Bool, true, false, List, [], ◌∷◌, ◌++◌, map, get_or, Result, Ok, Err, refl, subst, length, nat_lt, ◌+◌, ◌-◌}
use Rattle.cs_base.specs.Limits.{most_bytes}
use Rattle.cs_base.specs.Token.{Token}
use Rattle.macro_body.specs.declared.notes.Work.{Work}
use Rattle.macro_body.specs.Below.paste_origin.Pasting.{PasteFault, glue_of}
use Rattle.macro_body.specs.Below.paste_origin.Strings.{StringFault, stringize_of}
use Rattle.macro_body.specs.declared.definitions.Form.{Form}
use Rattle.macro_body.specs.declared.definitions.Form.TheVariants as form
use Rattle.macro_body.specs.declared.definitions.Definition.{Definition}
use Rattle.macro_body.specs.Hides.{Hidden, hidden, in_both, toks_of}
use Rattle.macro_body.specs.Bodies.{Part, Plain, Param, Quote, Paste, Rest, chains_of}
use Rattle.macro_body.specs.Notes.{Note, Fault, NotOneToken, NotAString, TooMuchWork, Stringized, Pasted, Expanded, expanded, noted, Counted, onward}
use Rattle.macro_body.specs.Substitution.{Arguments, Made, made, made_both, put_in, moved_in, with_gap, argument_for, rest_tokens, rest_for, is_alone, string_made, operand_made, operands_made, chains_made, token_pasted, pasted_behind, two_pasted, chain_pasted, chains_pasted, result_of, cost_of, number_token, line_number, path_string}
use Rattle.macro_expand.specs.Expansion.{Next, Full, full_from, spent, numbered, substituted, put_for}
use Rattle.macro_body.proofs.ResultLemmas.{ok_same, err_ok, onward_ok, cond_ok, cond_ok_yes}
use Rattle.expansion_laws.proofs.ListLemmas.{AllHidden, AllLists, hidden_both}

-- a token that a macro put in
abbrev pub IsPut : Token → Type 0
IsPut t = t.direct ≡ false

abbrev AllChains : List (List (List Hidden)) → Type 0
AllChains [] = Unit {0}
AllChains (c ∷ cs) = AllLists IsPut c × AllChains cs

gap_put : (gap : Bool) (hs : List Hidden) → AllHidden IsPut hs → AllHidden IsPut (with_gap gap hs)
gap_put gap [] h = tt
gap_put gap (x ∷ xs) h = (h.0, h.1)

moved_put : (hs : List Hidden) → AllHidden IsPut (map moved_in hs)
moved_put [] = tt
moved_put (x ∷ xs) = (refl, moved_put xs)

argument_put : (t : Token) (hs : List Hidden) → AllHidden IsPut (argument_for t hs)
argument_put t hs = gap_put t.gap (map moved_in hs) (moved_put hs)

string_put : (name sign : Token) (toks : List Token) (r : Result Token StringFault) (m : Made (List Hidden))
    → string_made name sign toks r ≡ Ok m → AllHidden IsPut m.value
string_put name sign toks (Err f) m e = err_ok (NotAString name.at) m e
string_put name sign toks (Ok s) m e =
    subst (λ (v : Made (List Hidden)). AllHidden IsPut v.value) (ok_same (made (hidden (put_in name sign.gap s) [] ∷ []) (Stringized toks s ∷ [])) m e) (refl, tt)

rest_put : (b : Bool) (name t : Token) (hs : List Hidden) → AllHidden IsPut (rest_tokens b name t hs)
rest_put true name t hs = (refl, moved_put hs)
rest_put false name t hs = tt

operand_put : (name : Token) (args : Arguments) (lone : Bool) (p : Part) (m : Made (List Hidden)) → operand_made name args lone p ≡ Ok m → AllHidden IsPut m.value
operand_put name args lone (Plain t) m e =
    subst (λ (v : Made (List Hidden)). AllHidden IsPut v.value) (ok_same (made (hidden (put_in name t.gap t) [] ∷ []) []) m e) (refl, tt)
operand_put name args lone (Paste t) m e =
    subst (λ (v : Made (List Hidden)). AllHidden IsPut v.value) (ok_same (made (hidden (put_in name t.gap t) [] ∷ []) []) m e) (refl, tt)
operand_put name args true (Param t i) m e =
    subst (λ (v : Made (List Hidden)). AllHidden IsPut v.value) (ok_same (made (argument_for t (get_or args.full i [])) []) m e) (argument_put t (get_or args.full i []))
operand_put name args false (Param t i) m e =
    subst (λ (v : Made (List Hidden)). AllHidden IsPut v.value) (ok_same (made (argument_for t (get_or args.raw i [])) []) m e) (argument_put t (get_or args.raw i []))
operand_put name args lone (Quote t i) m e =
    string_put name t (toks_of (get_or args.raw i [])) (stringize_of (toks_of (get_or args.raw i []))) m e
operand_put name args lone (Rest t i) m e =
    subst (λ (v : Made (List Hidden)). AllHidden IsPut v.value) (ok_same (made (rest_for name t args.raw i) []) m e) (rest_put (nat_lt i (length args.raw)) name t (get_or args.raw i []))

abbrev put_first : {A : Type 0} → Made A → Made (List A) → Result (Made (List A)) Fault
put_first v vs = Ok (made_both (λ x xs. x ∷ xs) v vs)

operands_put : (name : Token) (args : Arguments) (lone : Bool) (ps : List Part) (m : Made (List (List Hidden))) → operands_made name args lone ps ≡ Ok m → AllLists IsPut m.value
operands_put name args lone [] m e = subst (λ (v : Made (List (List Hidden))). AllLists IsPut v.value) (ok_same (made [] []) m e) tt
operands_put name args lone (p ∷ ps) m e =
    let i = onward_ok {A = Made (List Hidden)} (operand_made name args lone p) (λ v. onward (operands_made name args lone ps) (put_first v)) m e in
    let j = onward_ok {A = Made (List (List Hidden))} (operands_made name args lone ps) (put_first i.0) m i.2 in
    subst (λ (v : Made (List (List Hidden))). AllLists IsPut v.value) (ok_same (made_both (λ x xs. x ∷ xs) i.0 j.0) m j.2)
    (operand_put name args lone p i.0 i.1, operands_put name args lone ps j.0 j.1)

chains_put : (name : Token) (args : Arguments) (cs : List (List Part)) (m : Made (List (List (List Hidden)))) → chains_made name args cs ≡ Ok m → AllChains m.value
chains_put name args [] m e = subst (λ (v : Made (List (List (List Hidden)))). AllChains v.value) (ok_same (made [] []) m e) tt
chains_put name args (c ∷ cs) m e =
    let i = onward_ok {A = Made (List (List Hidden))} (operands_made name args (is_alone c) c) (λ v. onward (chains_made name args cs) (put_first v)) m e in
    let j = onward_ok {A = Made (List (List (List Hidden)))} (chains_made name args cs) (put_first i.0) m i.2 in
    subst (λ (v : Made (List (List (List Hidden)))). AllChains v.value) (ok_same (made_both (λ x xs. x ∷ xs) i.0 j.0) m j.2)
    (operands_put name args (is_alone c) c i.0 i.1, chains_put name args cs j.0 j.1)

token_put : (name : Token) (x y : Hidden) (r : Result Token PasteFault) (m : Made Hidden) → token_pasted name x y r ≡ Ok m → m.value.tok.direct ≡ false
token_put name x y (Err f) m e = err_ok (NotOneToken name.at) m e
token_put name x y (Ok z) m e =
    subst (λ (v : Made Hidden). v.value.tok.direct ≡ false)
    (ok_same (made (hidden (put_in name x.tok.gap z) (in_both x.hides y.hides)) (Pasted x.tok y.tok (put_in name x.tok.gap z) ∷ [])) m e) refl

behind_put : (name : Token) (x : Hidden) (xs ys : List Hidden) → AllHidden IsPut (x ∷ xs) → AllHidden IsPut ys → (m : Made (List Hidden))
    → pasted_behind name x xs ys ≡ Ok m → AllHidden IsPut m.value
behind_put name x [] [] gx gy m e = subst (λ (v : Made (List Hidden)). AllHidden IsPut v.value) (ok_same (made (x ∷ []) []) m e) gx
behind_put name x [] (y ∷ ys) gx gy m e =
    let i = onward_ok {A = Made Hidden} (token_pasted name x y (glue_of x.tok y.tok)) (λ z. Ok (made (z.value ∷ ys) z.notes)) m e in
    subst (λ (v : Made (List Hidden)). AllHidden IsPut v.value) (ok_same (made (i.0.value ∷ ys) i.0.notes) m i.2)
    (token_put name x y (glue_of x.tok y.tok) i.0 i.1, gy.1)
behind_put name x (x2 ∷ xs) ys gx gy m e =
    let i = onward_ok {A = Made (List Hidden)} (pasted_behind name x2 xs ys) (λ zs. Ok (made (x ∷ zs.value) zs.notes)) m e in
    subst (λ (v : Made (List Hidden)). AllHidden IsPut v.value) (ok_same (made (x ∷ i.0.value) i.0.notes) m i.2)
    (gx.0, behind_put name x2 xs ys gx.1 gy i.0 i.1)

two_put : (name : Token) (xs ys : List Hidden) → AllHidden IsPut xs → AllHidden IsPut ys → (m : Made (List Hidden)) → two_pasted name xs ys ≡ Ok m → AllHidden IsPut m.value
two_put name [] ys gx gy m e = subst (λ (v : Made (List Hidden)). AllHidden IsPut v.value) (ok_same (made ys []) m e) gy
two_put name (x ∷ xs) ys gx gy m e = behind_put name x xs ys gx gy m e

chain_put : (name : Token) (xs : List Hidden) (yss : List (List Hidden)) → AllHidden IsPut xs → AllLists IsPut yss → (m : Made (List Hidden))
    → chain_pasted name xs yss ≡ Ok m → AllHidden IsPut m.value
chain_put name xs [] gx gy m e = subst (λ (v : Made (List Hidden)). AllHidden IsPut v.value) (ok_same (made xs []) m e) gx
chain_put name xs (ys ∷ yss) gx gy m e =
    let i = onward_ok {A = Made (List Hidden)} (two_pasted name xs ys) (λ z. onward (chain_pasted name z.value yss) (λ zs. Ok (made zs.value (z.notes ++ zs.notes)))) m e in
    let j = onward_ok {A = Made (List Hidden)} (chain_pasted name i.0.value yss) (λ zs. Ok (made zs.value (i.0.notes ++ zs.notes))) m i.2 in
    subst (λ (v : Made (List Hidden)). AllHidden IsPut v.value) (ok_same (made j.0.value (i.0.notes ++ j.0.notes)) m j.2)
    (chain_put name i.0.value yss (two_put name xs ys gx gy.0 i.0 i.1) gy.1 j.0 j.1)

pasted_put : (name : Token) (cs : List (List (List Hidden))) → AllChains cs → (m : Made (List Hidden)) → chains_pasted name cs ≡ Ok m → AllHidden IsPut m.value
pasted_put name [] g m e = subst (λ (v : Made (List Hidden)). AllHidden IsPut v.value) (ok_same (made [] []) m e) tt
pasted_put name (c ∷ cs) g m e =
    let i = onward_ok {A = Made (List Hidden)} (chain_pasted name [] c) (λ v. onward (chains_pasted name cs) (λ vs. Ok (made_both (λ x xs. x ++ xs) v vs))) m e in
    let j = onward_ok {A = Made (List Hidden)} (chains_pasted name cs) (λ vs. Ok (made_both (λ x xs. x ++ xs) i.0 vs)) m i.2 in
    subst (λ (v : Made (List Hidden)). AllHidden IsPut v.value) (ok_same (made_both (λ x xs. x ++ xs) i.0 j.0) m j.2)
    (hidden_both IsPut i.0.value j.0.value (chain_put name [] c tt g.0 i.0 i.1) (pasted_put name cs g.1 j.0 j.1))

result_put : (name : Token) (args : Arguments) (cs : List (List Part)) (m : Made (List Hidden)) → result_of name args cs ≡ Ok m → AllHidden IsPut m.value
unfolding result_of
result_put name args cs m e =
    let i = onward_ok {A = Made (List (List (List Hidden)))} (chains_made name args cs) (λ s. onward (chains_pasted name s.value) (λ v. Ok (made (with_gap name.gap v.value) (s.notes ++ v.notes)))) m e in
    let j = onward_ok {A = Made (List Hidden)} (chains_pasted name i.0.value) (λ v. Ok (made (with_gap name.gap v.value) (i.0.notes ++ v.notes))) m i.2 in
    subst (λ (v : Made (List Hidden)). AllHidden IsPut v.value) (ok_same (made (with_gap name.gap j.0.value) (i.0.notes ++ j.0.notes)) m j.2)
    (gap_put name.gap j.0.value (pasted_put name i.0.value (chains_put name args cs i.0 i.1) j.0 j.1))

spent_put : (name : Token) (cost : ℕ) (work : Work) (r : Result (Made (List Hidden)) Fault) → ((m : Made (List Hidden)) → r ≡ Ok m → AllHidden IsPut m.value)
    → (e : Expanded) → spent name cost work r ≡ Ok e → AllHidden IsPut e.toks
spent_put name cost work r all e is =
    let c = cond_ok (nat_lt work.left cost) (TooMuchWork name.at) (onward r (λ m. Ok (expanded m.value m.notes (record work { left = work.left - cost })))) e is in
    let i = onward_ok {A = Made (List Hidden)} r (λ m. Ok (expanded m.value m.notes (record work { left = work.left - cost }))) e c.1 in
    subst (λ (v : Expanded). AllHidden IsPut v.toks) (ok_same (expanded i.0.value i.0.notes (record work { left = work.left - cost })) e i.2) (all i.0 i.1)

one_put : (x : Hidden) (notes : List Note) → x.tok.direct ≡ false → (m : Made (List Hidden)) → ◌≡◌ {A = Result (Made (List Hidden)) Fault} (Ok (made (x ∷ []) notes)) (Ok m)
    → AllHidden IsPut m.value
one_put x notes h m e = subst (λ (v : Made (List Hidden)). AllHidden IsPut v.value) (ok_same (made (x ∷ []) notes) m e) (h, tt)

substituted_put : (next : Next) (depth before : ℕ) (name : Token) (m : Definition) (raw : List (List Hidden)) (work : Work) (e : Expanded)
    → substituted next depth before name m raw work ≡ Ok e → AllHidden IsPut e.toks
substituted_put next depth before name m raw work e is =
    let made_of : List (List Hidden) → Result (Made (List Hidden)) Fault = λ lists. result_of name (record { raw = raw; full = lists }) (chains_of m) in
    let i = onward_ok {A = Full} (full_from next depth before name (chains_of m) 0 raw work) (λ f.
    onward (spent name (cost_of name (record { raw = raw; full = f.lists }) (chains_of m)) f.left (made_of f.lists)) (λ o. Ok (noted f.notes o))) e is in
    let cost = cost_of name (record { raw = raw; full = i.0.lists }) (chains_of m) in
    let j = onward_ok {A = Expanded} (spent name cost i.0.left (made_of i.0.lists)) (λ o. Ok (noted i.0.notes o)) e i.2 in
    subst (λ (v : Expanded). AllHidden IsPut v.toks) (ok_same (noted i.0.notes j.0) e j.2)
    (spent_put name cost i.0.left (made_of i.0.lists) (λ v vs. result_put name (record { raw = raw; full = i.0.lists }) (chains_of m) v vs) j.0 j.1)

pub put_for_put : (form : Form) (path : List ℕ) (next : Next) (depth before : ℕ) (name : Token) (m : Definition) (raw : List (List Hidden)) (work : Work) (e : Expanded)
    → put_for form path next depth before name m raw work ≡ Ok e → AllHidden IsPut e.toks
put_for_put form.Line path next depth before name m raw work e is = spent_put name 1 work _ (one_put (hidden (line_number name) []) [] refl) e is
put_for_put form.File path next depth before name m raw work e is = spent_put name 1 work _ (one_put (hidden (path_string path name) []) [] refl) e is
put_for_put form.Counter path next depth before name m raw work e is =
    let t : Token = number_token name work.counter in
    let c = cond_ok_yes (nat_lt work.counter most_bytes) (TooMuchWork name.at) (numbered name work) e is in
    spent_put name 1 (record work { counter = work.counter + 1 }) _ (one_put (hidden t []) (Counted t ∷ []) refl) e c.1
put_for_put form.Object path next depth before name m raw work e is = substituted_put next depth before name m raw work e is
put_for_put form.Function path next depth before name m raw work e is = substituted_put next depth before name m raw work e is
