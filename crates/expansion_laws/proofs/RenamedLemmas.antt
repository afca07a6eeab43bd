-- What a renaming leaves as it is: signs, parts, chains, calls and costs.
use Rattle.std.proofs.Common.{◌≡◌, ℕ, zero, suc, ◌+◌, ◌-◌, ◌&&◌, ◌||◌, Bool, true, false, cond, nat_lt, List, [], ◌∷◌, ◌++◌, length, map, get_or, Option, Some, None, is_some, refl, ap, ◌∙◌, inl, inr, arith, codes}
use Rattle.std.specs.Option.{option_map}
use Rattle.std.specs.Str.{bytes_eq}
use Rattle.std.proofs.lemmas.List.{length-map}
use Rattle.std.proofs.lemmas.Bool.{cases_Bool}
use Rattle.cs_base.specs.Token.{Token}
use Rattle.macro_body.specs.declared.definitions.Definition.{Definition}
use Rattle.line_shape.specs.Signs.{is_punctuator, is_sign, is_open, is_close, is_comma, is_hash, is_paste}
use Rattle.macro_body.specs.Hides.{Hidden, hidden, toks_of}
use Rattle.macro_body.specs.Macro.{Table, arity, is_function, parameter_at}
use Rattle.macro_body.specs.Bodies.{Part, Plain, Param, Quote, Paste, Rest, token_of, next_parameter, quoted_parameter, param_or_plain, lone_part, quote_or, parts_from, is_operator, pasted_to, chains_in, is_number, is_plain_comma, rest_param, rest_of, rest_or, rest_or_chain, chains_of, is_lone, occurs_alone}
use Rattle.macro_expand.specs.Calls.{Call, Role, Closes, Separates, Belongs, CallFrom, separates, fewer, role_of, level_after, onto_first, with_token, with_argument, call_step, call_from, commas_of, is_blank, arguments_of}
use Rattle.macro_expand.proofs.CallLemmas.{cond_has, arguments_mapped}
use Rattle.macro_body.specs.Substitution.{Arguments, put_in, with_gap, moved_in, argument_for, rest_tokens, tokens_for, part_cost, parts_cost, is_alone, chains_cost, cost_of}
use Rattle.macro_expand.specs.Renaming.{Renaming, renamed, renamed_hidden, renamed_macro, Occurring, occurs, KeepsBody, Keeps}

-- Signs.

pub is_sign-renamed : (o : Occurring) (r : Renaming) (old new : Table) → Keeps o r old new → (text : List ℕ) (t : Token) → occurs o t ≡ true
    → is_sign text (renamed r t) ≡ is_sign text t
is_sign-renamed o r old new keeps text t here = elim (cases_Bool (is_punctuator t.kind)) [
  | inl p ↦ ap (λ s. is_punctuator t.kind && bytes_eq s text) (keeps.signs t here p)
  | inr p ↦ rw p refl
]

pub is_hash-renamed : (o : Occurring) (r : Renaming) (old new : Table) → Keeps o r old new → (t : Token) → occurs o t ≡ true → is_hash (renamed r t) ≡ is_hash t
unfolding is_hash
is_hash-renamed o r old new keeps t here =
    ap (λ b. b || is_sign (codes "%:") (renamed r t)) (is_sign-renamed o r old new keeps (codes "#") t here)
    ∙ ap (λ b. is_sign (codes "#") t || b) (is_sign-renamed o r old new keeps (codes "%:") t here)

pub is_paste-renamed : (o : Occurring) (r : Renaming) (old new : Table) → Keeps o r old new → (t : Token) → occurs o t ≡ true → is_paste (renamed r t) ≡ is_paste t
unfolding is_paste
is_paste-renamed o r old new keeps t here =
    ap (λ b. b || is_sign (codes "%:%:") (renamed r t)) (is_sign-renamed o r old new keeps (codes "##") t here)
    ∙ ap (λ b. is_sign (codes "##") t || b) (is_sign-renamed o r old new keeps (codes "%:%:") t here)

-- Parts and chains.

abbrev pub renamed_part : Renaming → Part → Part
renamed_part r (Plain t) = Plain (renamed r t)
renamed_part r (Param t i) = Param (renamed r t) i
renamed_part r (Quote t i) = Quote (renamed r t) i
renamed_part r (Paste t) = Paste (renamed r t)
renamed_part r (Rest t i) = Rest (renamed r t) i

next_parameter-renamed : (o : Occurring) (r : Renaming) (m : Definition) (ts : List Token) → KeepsBody o r m ts
    → next_parameter (renamed_macro r m) (map (renamed r) ts) ≡ next_parameter m ts
next_parameter-renamed o r m [] h = refl
next_parameter-renamed o r m (t ∷ ts) h = h.1

quoted_parameter-renamed : (o : Occurring) (r : Renaming) (old new : Table) → Keeps o r old new → (m : Definition) (t : Token) (ts : List Token)
    → occurs o t ≡ true → KeepsBody o r m ts
    → quoted_parameter (renamed_macro r m) (renamed r t) (map (renamed r) ts) ≡ quoted_parameter m t ts
quoted_parameter-renamed o r old new keeps m t ts here behind =
    ap (λ b. cond (is_function m.form && b) (next_parameter (renamed_macro r m) (map (renamed r) ts)) None) (is_hash-renamed o r old new keeps t here)
    ∙ ap (λ p. cond (is_function m.form && is_hash t) p None) (next_parameter-renamed o r m ts behind)

param_or_plain-renamed : (r : Renaming) (t : Token) (p : Option ℕ) → param_or_plain (renamed r t) p ≡ renamed_part r (param_or_plain t p)
param_or_plain-renamed r t (Some i) = refl
param_or_plain-renamed r t None = refl

pub cond_map : {A B : Type 0} (f : A → B) (b : Bool) (x y : A) → cond b (f x) (f y) ≡ f (cond b x y)
cond_map f true x y = refl
cond_map f false x y = refl

lone_part-renamed : (o : Occurring) (r : Renaming) (old new : Table) → Keeps o r old new → (m : Definition) (t : Token)
    → occurs o t ≡ true → parameter_at (renamed_macro r m) (renamed r t) ≡ parameter_at m t
    → lone_part (renamed_macro r m) (renamed r t) ≡ renamed_part r (lone_part m t)
lone_part-renamed o r old new keeps m t here same =
    ap (λ b. cond b (Paste (renamed r t)) (param_or_plain (renamed r t) (parameter_at (renamed_macro r m) (renamed r t)))) (is_paste-renamed o r old new keeps t here)
    ∙ ap (λ p. cond (is_paste t) (Paste (renamed r t)) (param_or_plain (renamed r t) p)) same
    ∙ ap (λ p. cond (is_paste t) (Paste (renamed r t)) p) (param_or_plain-renamed r t (parameter_at m t))
    ∙ cond_map (renamed_part r) (is_paste t) (Paste t) (param_or_plain t (parameter_at m t))

quote_or-renamed : (r : Renaming) (t : Token) (part : Part) (q : Option ℕ) → quote_or (renamed r t) (renamed_part r part) q ≡ renamed_part r (quote_or t part q)
quote_or-renamed r t part (Some i) = refl
quote_or-renamed r t part None = refl

parts_from-renamed : (o : Occurring) (r : Renaming) (old new : Table) → Keeps o r old new → (m : Definition) (taken : Bool) (ts : List Token) → KeepsBody o r m ts
    → parts_from (renamed_macro r m) taken (map (renamed r) ts) ≡ map (renamed_part r) (parts_from m taken ts)
unfolding parts_from
parts_from-renamed o r old new keeps m taken [] h = refl
parts_from-renamed o r old new keeps m true (t ∷ ts) h = parts_from-renamed o r old new keeps m false ts h.2
parts_from-renamed o r old new keeps m false (t ∷ ts) h =
    let q = quoted_parameter m t ts in
    let q2 = quoted_parameter (renamed_macro r m) (renamed r t) (map (renamed r) ts) in
    let same : q2 ≡ q = quoted_parameter-renamed o r old new keeps m t ts h.0 h.2 in
    ap (λ v. quote_or (renamed r t) (lone_part (renamed_macro r m) (renamed r t)) v ∷ parts_from (renamed_macro r m) (is_some v) (map (renamed r) ts)) same
    ∙ ap (λ p. quote_or (renamed r t) p q ∷ parts_from (renamed_macro r m) (is_some q) (map (renamed r) ts)) (lone_part-renamed o r old new keeps m t h.0 h.1)
    ∙ ap (λ p. p ∷ parts_from (renamed_macro r m) (is_some q) (map (renamed r) ts)) (quote_or-renamed r t (lone_part m t) q)
    ∙ ap (λ ps. renamed_part r (quote_or t (lone_part m t) q) ∷ ps) (parts_from-renamed o r old new keeps m (is_some q) ts h.2)

is_operator-renamed : (r : Renaming) (p : Part) → is_operator (renamed_part r p) ≡ is_operator p
is_operator-renamed r (Plain t) = refl
is_operator-renamed r (Param t i) = refl
is_operator-renamed r (Quote t i) = refl
is_operator-renamed r (Paste t) = refl
is_operator-renamed r (Rest t i) = refl

abbrev pub renamed_chains : Renaming → List (List Part) → List (List Part)
renamed_chains r chains = map (map (renamed_part r)) chains

pasted_to-renamed : (r : Renaming) (p : Part) (chains : List (List Part)) → pasted_to (renamed_part r p) (renamed_chains r chains) ≡ renamed_chains r (pasted_to p chains)
pasted_to-renamed r p [] = refl
pasted_to-renamed r p (chain ∷ chains) = refl

chains_in-renamed : (r : Renaming) (ps : List Part) → chains_in (map (renamed_part r) ps) ≡ renamed_chains r (chains_in ps)
unfolding chains_in
chains_in-renamed r [] = refl
chains_in-renamed r (p ∷ []) = refl
chains_in-renamed r (p ∷ q ∷ ps) =
    ap (λ b. cond b (pasted_to (renamed_part r p) (chains_in (map (renamed_part r) ps))) ((renamed_part r p ∷ []) ∷ chains_in (renamed_part r q ∷ map (renamed_part r) ps))) (is_operator-renamed r q)
    ∙ ap (λ c. cond (is_operator q) (pasted_to (renamed_part r p) c) ((renamed_part r p ∷ []) ∷ chains_in (renamed_part r q ∷ map (renamed_part r) ps))) (chains_in-renamed r ps)
    ∙ ap (λ c. cond (is_operator q) c ((renamed_part r p ∷ []) ∷ chains_in (renamed_part r q ∷ map (renamed_part r) ps))) (pasted_to-renamed r p (chains_in ps))
    ∙ ap (λ c. cond (is_operator q) (renamed_chains r (pasted_to p (chains_in ps))) ((renamed_part r p ∷ []) ∷ c)) (chains_in-renamed r (q ∷ ps))
    ∙ cond_map (renamed_chains r) (is_operator q) (pasted_to p (chains_in ps)) ((p ∷ []) ∷ chains_in (q ∷ ps))

-- Commas stay commas.

abbrev CommaStays : Renaming → Part → Type 0
CommaStays r p = is_plain_comma (renamed_part r p) ≡ is_plain_comma p

abbrev PartsStay : Renaming → List Part → Type 0
PartsStay r [] = Unit {0}
PartsStay r (p ∷ ps) = CommaStays r p × PartsStay r ps

abbrev ChainsStay : Renaming → List (List Part) → Type 0
ChainsStay r [] = Unit {0}
ChainsStay r (c ∷ cs) = PartsStay r c × ChainsStay r cs

comma-stays : (o : Occurring) (r : Renaming) (old new : Table) → Keeps o r old new → (t : Token) → occurs o t ≡ true → (i : Option ℕ) → CommaStays r (param_or_plain t i)
unfolding is_comma
comma-stays o r old new keeps t here (Some i) = refl
comma-stays o r old new keeps t here None = is_sign-renamed o r old new keeps (codes ",") t here

quote-stays : (r : Renaming) (t : Token) (part : Part) (i : Option ℕ) → CommaStays r part → CommaStays r (quote_or t part i)
quote-stays r t part (Some i) h = refl
quote-stays r t part None h = h

parts_from-stay : (o : Occurring) (r : Renaming) (old new : Table) → Keeps o r old new → (m : Definition) (taken : Bool) (ts : List Token) → KeepsBody o r m ts
    → PartsStay r (parts_from m taken ts)
unfolding parts_from
parts_from-stay o r old new keeps m taken [] h = tt
parts_from-stay o r old new keeps m true (t ∷ ts) h = parts_from-stay o r old new keeps m false ts h.2
parts_from-stay o r old new keeps m false (t ∷ ts) h = (
  quote-stays r t (lone_part m t) (quoted_parameter m t ts)
      (cond_has (CommaStays r) (is_paste t) (Paste t) (param_or_plain t (parameter_at m t)) refl (comma-stays o r old new keeps t h.0 (parameter_at m t))),
  parts_from-stay o r old new keeps m (is_some (quoted_parameter m t ts)) ts h.2,
)

pasted_to-stay : (r : Renaming) (p : Part) (cs : List (List Part)) → CommaStays r p → ChainsStay r cs → ChainsStay r (pasted_to p cs)
pasted_to-stay r p [] h k = ((h, tt), tt)
pasted_to-stay r p (c ∷ cs) h k = ((h, k.0), k.1)

chains_in-stay : (r : Renaming) (ps : List Part) → PartsStay r ps → ChainsStay r (chains_in ps)
unfolding chains_in
chains_in-stay r [] h = tt
chains_in-stay r (p ∷ []) h = ((h.0, tt), tt)
chains_in-stay r (p ∷ q ∷ ps) h =
    cond_has (ChainsStay r) (is_operator q) (pasted_to p (chains_in ps)) ((p ∷ []) ∷ chains_in (q ∷ ps))
    (pasted_to-stay r p (chains_in ps) h.0 (chains_in-stay r ps h.1.1))
    ((h.0, tt), chains_in-stay r (q ∷ ps) h.1)

pub commas_of-renamed : (r : Renaming) (m : Definition) → commas_of (renamed_macro r m) ≡ commas_of m
commas_of-renamed r m = ap (λ n. cond m.variadic (Some n) (cond m.named (Some (n - 1)) None)) (length-map m.params (renamed r))

token_of-renamed : (r : Renaming) (p : Part) → token_of (renamed_part r p) ≡ renamed r (token_of p)
token_of-renamed r (Plain t) = refl
token_of-renamed r (Param t i) = refl
token_of-renamed r (Quote t i) = refl
token_of-renamed r (Paste t) = refl
token_of-renamed r (Rest t i) = refl

rest_param-renamed : (r : Renaming) (m : Definition) (p : Part) → rest_param (renamed_macro r m) (renamed_part r p) ≡ rest_param m p
rest_param-renamed r m (Param t i) = ap (λ o. cond (is_number i o) (Some i) None) (commas_of-renamed r m)
rest_param-renamed r m (Plain t) = refl
rest_param-renamed r m (Quote t i) = refl
rest_param-renamed r m (Paste t) = refl
rest_param-renamed r m (Rest t i) = refl

rest_of-renamed : (r : Renaming) (m : Definition) (chain : List Part) → PartsStay r chain → rest_of (renamed_macro r m) (map (renamed_part r) chain) ≡ rest_of m chain
rest_of-renamed r m [] h = refl
rest_of-renamed r m (p ∷ []) h = refl
rest_of-renamed r m (p ∷ q ∷ []) h =
    ap (λ b. cond (m.gnu && b) (rest_param (renamed_macro r m) (renamed_part r q)) None) h.0
    ∙ ap (λ i. cond (m.gnu && is_plain_comma p) i None) (rest_param-renamed r m q)
rest_of-renamed r m (p ∷ q ∷ s ∷ ps) h = refl

rest_or-renamed : (r : Renaming) (chain : List Part) (i : Option ℕ) → rest_or (map (renamed_part r) chain) i ≡ map (renamed_part r) (rest_or chain i)
rest_or-renamed r chain None = refl
rest_or-renamed r [] (Some i) = refl
rest_or-renamed r (p ∷ ps) (Some i) = ap (λ t. Rest t i ∷ []) (token_of-renamed r p)

rests-renamed : (r : Renaming) (m : Definition) (cs : List (List Part)) → ChainsStay r cs
    → map (rest_or_chain (renamed_macro r m)) (renamed_chains r cs) ≡ renamed_chains r (map (rest_or_chain m) cs)
rests-renamed r m [] h = refl
rests-renamed r m (c ∷ cs) h =
    ap (λ i. rest_or (map (renamed_part r) c) i ∷ map (rest_or_chain (renamed_macro r m)) (renamed_chains r cs)) (rest_of-renamed r m c h.0)
    ∙ ap (λ v. v ∷ map (rest_or_chain (renamed_macro r m)) (renamed_chains r cs)) (rest_or-renamed r c (rest_of m c))
    ∙ ap (λ v. map (renamed_part r) (rest_or_chain m c) ∷ v) (rests-renamed r m cs h.1)

pub chains_of-renamed : (o : Occurring) (r : Renaming) (old new : Table) → Keeps o r old new → (m : Definition) → KeepsBody o r m m.body
    → chains_of (renamed_macro r m) ≡ renamed_chains r (chains_of m)
unfolding chains_of
chains_of-renamed o r old new keeps m body =
    ap (λ cs. map (rest_or_chain (renamed_macro r m)) cs) (ap chains_in (parts_from-renamed o r old new keeps m false m.body body) ∙ chains_in-renamed r (parts_from m false m.body))
    ∙ rests-renamed r m (chains_in (parts_from m false m.body)) (chains_in-stay r (parts_from m false m.body) (parts_from-stay o r old new keeps m false m.body body))

is_lone-renamed : (r : Renaming) (i : ℕ) (chain : List Part) → is_lone i (map (renamed_part r) chain) ≡ is_lone i chain
is_lone-renamed r i [] = refl
is_lone-renamed r i (Plain t ∷ ps) = refl
is_lone-renamed r i (Quote t k ∷ ps) = refl
is_lone-renamed r i (Paste t ∷ ps) = refl
is_lone-renamed r i (Rest t k ∷ ps) = refl
is_lone-renamed r i (Param t k ∷ []) = refl
is_lone-renamed r i (Param t k ∷ p ∷ ps) = refl

pub occurs_alone-renamed : (r : Renaming) (i : ℕ) (chains : List (List Part)) → occurs_alone i (renamed_chains r chains) ≡ occurs_alone i chains
occurs_alone-renamed r i [] = refl
occurs_alone-renamed r i (c ∷ cs) =
    ap (λ b. b || occurs_alone i (renamed_chains r cs)) (is_lone-renamed r i c) ∙ ap (λ b. is_lone i c || b) (occurs_alone-renamed r i cs)

-- Lists of tokens with hide sets.

abbrev pub renamed_lists : Renaming → List (List Hidden) → List (List Hidden)
renamed_lists r lists = map (map (renamed_hidden r)) lists

pub toks_of-renamed : (r : Renaming) (hs : List Hidden) → toks_of (map (renamed_hidden r) hs) ≡ map (renamed r) (toks_of hs)
toks_of-renamed r [] = refl
toks_of-renamed r (h ∷ hs) = ap (λ ts. renamed r h.tok ∷ ts) (toks_of-renamed r hs)

pub get_or-renamed : (r : Renaming) (lists : List (List Hidden)) (i : ℕ) → get_or (renamed_lists r lists) i [] ≡ map (renamed_hidden r) (get_or lists i [])
get_or-renamed r [] i = refl
get_or-renamed r (l ∷ ls) zero = refl
get_or-renamed r (l ∷ ls) (suc i) = get_or-renamed r ls i

pub with_gap-renamed : (r : Renaming) (gap : Bool) (hs : List Hidden) → with_gap gap (map (renamed_hidden r) hs) ≡ map (renamed_hidden r) (with_gap gap hs)
with_gap-renamed r gap [] = refl
with_gap-renamed r gap (h ∷ hs) = refl

moved_in-renamed : (r : Renaming) (hs : List Hidden) → map moved_in (map (renamed_hidden r) hs) ≡ map (renamed_hidden r) (map moved_in hs)
moved_in-renamed r [] = refl
moved_in-renamed r (h ∷ hs) = ap (λ ts. renamed_hidden r (moved_in h) ∷ ts) (moved_in-renamed r hs)

argument_for-renamed : (r : Renaming) (p : Token) (hs : List Hidden) → argument_for (renamed r p) (map (renamed_hidden r) hs) ≡ map (renamed_hidden r) (argument_for p hs)
argument_for-renamed r p hs = ap (with_gap p.gap) (moved_in-renamed r hs) ∙ with_gap-renamed r p.gap (map moved_in hs)

abbrev pub renamed_arguments : Renaming → Arguments → Arguments
renamed_arguments r args = record { raw = renamed_lists r args.raw; full = renamed_lists r args.full }

rest_tokens-renamed : (r : Renaming) (b : Bool) (name comma : Token) (hs : List Hidden)
    → rest_tokens b (renamed r name) (renamed r comma) (map (renamed_hidden r) hs) ≡ map (renamed_hidden r) (rest_tokens b name comma hs)
rest_tokens-renamed r true name comma hs =
    ap (λ l. hidden (put_in (renamed r name) (renamed r comma).gap (renamed r comma)) [] ∷ l) (moved_in-renamed r hs)
rest_tokens-renamed r false name comma hs = refl

pub tokens_for-renamed : (r : Renaming) (name : Token) (args : Arguments) (lone : Bool) (p : Part)
    → tokens_for (renamed r name) (renamed_arguments r args) lone (renamed_part r p) ≡ map (renamed_hidden r) (tokens_for name args lone p)
tokens_for-renamed r name args lone (Plain t) = refl
tokens_for-renamed r name args lone (Paste t) = refl
tokens_for-renamed r name args lone (Quote t i) = refl
tokens_for-renamed r name args true (Param t i) =
    ap (argument_for (renamed r t)) (get_or-renamed r args.full i) ∙ argument_for-renamed r t (get_or args.full i [])
tokens_for-renamed r name args false (Param t i) =
    ap (argument_for (renamed r t)) (get_or-renamed r args.raw i) ∙ argument_for-renamed r t (get_or args.raw i [])
tokens_for-renamed r name args lone (Rest t i) =
    ap (λ n. rest_tokens (nat_lt i n) (renamed r name) (renamed r t) (get_or (renamed_lists r args.raw) i [])) (length-map args.raw (map (renamed_hidden r)))
    ∙ ap (λ l. rest_tokens (nat_lt i (length args.raw)) (renamed r name) (renamed r t) l) (get_or-renamed r args.raw i)
    ∙ rest_tokens-renamed r (nat_lt i (length args.raw)) name t (get_or args.raw i [])

part_cost-renamed : (r : Renaming) (name : Token) (args : Arguments) (lone : Bool) (p : Part)
    → part_cost (renamed r name) (renamed_arguments r args) lone (renamed_part r p) ≡ part_cost name args lone p
part_cost-renamed r name args lone (Quote t i) = refl
part_cost-renamed r name args lone (Plain t) = refl
part_cost-renamed r name args lone (Paste t) = refl
part_cost-renamed r name args lone (Param t i) =
    ap length (tokens_for-renamed r name args lone (Param t i)) ∙ length-map (tokens_for name args lone (Param t i)) (renamed_hidden r)
part_cost-renamed r name args lone (Rest t i) =
    ap length (tokens_for-renamed r name args lone (Rest t i)) ∙ length-map (tokens_for name args lone (Rest t i)) (renamed_hidden r)

parts_cost-renamed : (r : Renaming) (name : Token) (args : Arguments) (lone : Bool) (ps : List Part)
    → parts_cost (renamed r name) (renamed_arguments r args) lone (map (renamed_part r) ps) ≡ parts_cost name args lone ps
parts_cost-renamed r name args lone [] = refl
parts_cost-renamed r name args lone (p ∷ ps) = omega (arith, part_cost-renamed r name args lone p, parts_cost-renamed r name args lone ps)

pub is_alone-renamed : (r : Renaming) (chain : List Part) → is_alone (map (renamed_part r) chain) ≡ is_alone chain
is_alone-renamed r [] = refl
is_alone-renamed r (p ∷ []) = refl
is_alone-renamed r (p ∷ q ∷ ps) = refl

chains_cost-renamed : (r : Renaming) (name : Token) (args : Arguments) (cs : List (List Part))
    → chains_cost (renamed r name) (renamed_arguments r args) (renamed_chains r cs) ≡ chains_cost name args cs
chains_cost-renamed r name args [] = refl
chains_cost-renamed r name args (c ∷ cs) =
    let lone : parts_cost (renamed r name) (renamed_arguments r args) (is_alone (map (renamed_part r) c)) (map (renamed_part r) c) ≡ parts_cost name args (is_alone c) c =
    ap (λ b. parts_cost (renamed r name) (renamed_arguments r args) b (map (renamed_part r) c)) (is_alone-renamed r c) ∙ parts_cost-renamed r name args (is_alone c) c in
    omega (arith, lone, length-map c (renamed_part r), chains_cost-renamed r name args cs)

pub cost_of-renamed : (r : Renaming) (name : Token) (args : Arguments) (cs : List (List Part))
    → cost_of (renamed r name) (renamed_arguments r args) (renamed_chains r cs) ≡ cost_of name args cs
cost_of-renamed r name args cs = ap (λ n. 1 + n) (chains_cost-renamed r name args cs)

-- Calls.

-- each of the tokens occurs
abbrev pub AllOccurHidden : Occurring → List Hidden → Type 0
AllOccurHidden o [] = Unit {0}
AllOccurHidden o (h ∷ hs) = (occurs o h.tok ≡ true) × AllOccurHidden o hs

abbrev pub renamed_call : Renaming → Call → Call
renamed_call r call = record {
  arguments = renamed_lists r call.arguments;
  close = map r.macro_name call.close;
  rest = map (renamed_hidden r) call.rest;
}

role_of-renamed : (o : Occurring) (r : Renaming) (old new : Table) → Keeps o r old new → (commas : Option ℕ) (level : ℕ) (t : Token) → occurs o t ≡ true
    → role_of commas level (renamed r t) ≡ role_of commas level t
unfolding is_close is_comma
role_of-renamed o r old new keeps commas (suc level) t here = refl
role_of-renamed o r old new keeps commas zero t here =
    ap (λ b. cond b Closes (cond (is_comma (renamed r t) && separates commas) Separates Belongs)) (is_sign-renamed o r old new keeps (codes ")") t here)
    ∙ ap (λ b. cond (is_close t) Closes (cond (b && separates commas) Separates Belongs)) (is_sign-renamed o r old new keeps (codes ",") t here)

level_after-renamed : (o : Occurring) (r : Renaming) (old new : Table) → Keeps o r old new → (t : Token) (level : ℕ) → occurs o t ≡ true
    → level_after (renamed r t) level ≡ level_after t level
unfolding is_open is_close
level_after-renamed o r old new keeps t level here =
    ap (λ b. cond b (level + 1) (cond (is_close (renamed r t)) (level - 1) level)) (is_sign-renamed o r old new keeps (codes "(") t here)
    ∙ ap (λ b. cond (is_open t) (level + 1) (cond b (level - 1) level)) (is_sign-renamed o r old new keeps (codes ")") t here)

onto_first-renamed : (r : Renaming) (t : Hidden) (lists : List (List Hidden)) → onto_first (renamed_hidden r t) (renamed_lists r lists) ≡ renamed_lists r (onto_first t lists)
onto_first-renamed r t [] = refl
onto_first-renamed r t (l ∷ ls) = refl

with_token-renamed : (r : Renaming) (t : Hidden) (call : Option Call)
    → option_map (with_token (renamed_hidden r t)) (option_map (renamed_call r) call) ≡ option_map (renamed_call r) (option_map (with_token t) call)
with_token-renamed r t None = refl
with_token-renamed r t (Some call) =
    ap (λ lists. Some (record { arguments = lists; close = map r.macro_name call.close; rest = map (renamed_hidden r) call.rest })) (onto_first-renamed r t call.arguments)

with_argument-renamed : (r : Renaming) (call : Option Call)
    → option_map with_argument (option_map (renamed_call r) call) ≡ option_map (renamed_call r) (option_map with_argument call)
with_argument-renamed r None = refl
with_argument-renamed r (Some call) = refl

call_step-renamed : (r : Renaming) (role : Role) (commas : Option ℕ) (level : ℕ) (t : Hidden) (ts : List Hidden) (behind behind2 : CallFrom)
    → ((c : Option ℕ) (l : ℕ) → behind2 c l ≡ option_map (renamed_call r) (behind c l))
    → level_after (renamed r t.tok) level ≡ level_after t.tok level
    → call_step role commas level (renamed_hidden r t) (map (renamed_hidden r) ts) behind2 ≡ option_map (renamed_call r) (call_step role commas level t ts behind)
call_step-renamed r Closes commas level t ts behind behind2 h same = refl
call_step-renamed r Separates commas level t ts behind behind2 h same =
    ap (option_map with_argument) (h (fewer commas) level) ∙ with_argument-renamed r (behind (fewer commas) level)
call_step-renamed r Belongs commas level t ts behind behind2 h same =
    ap (λ l. option_map (with_token (renamed_hidden r t)) (behind2 commas l)) same
    ∙ ap (option_map (with_token (renamed_hidden r t))) (h commas (level_after t.tok level))
    ∙ with_token-renamed r t (behind commas (level_after t.tok level))

pub call_from-renamed : (o : Occurring) (r : Renaming) (old new : Table) → Keeps o r old new → (ts : List Hidden) → AllOccurHidden o ts → (commas : Option ℕ) (level : ℕ)
    → call_from (map (renamed_hidden r) ts) commas level ≡ option_map (renamed_call r) (call_from ts commas level)
unfolding call_from
call_from-renamed o r old new keeps [] here commas level = refl
call_from-renamed o r old new keeps (t ∷ ts) here commas level =
    ap (λ role. call_step role commas level (renamed_hidden r t) (map (renamed_hidden r) ts) (call_from (map (renamed_hidden r) ts))) (role_of-renamed o r old new keeps commas level t.tok here.0)
    ∙ call_step-renamed r (role_of commas level t.tok) commas level t ts (call_from ts) (call_from (map (renamed_hidden r) ts))
    (call_from-renamed o r old new keeps ts here.1) (level_after-renamed o r old new keeps t.tok level here.0)

arity-renamed : (r : Renaming) (m : Definition) → arity (renamed_macro r m) ≡ arity m
arity-renamed r m = ap (λ n. n + cond m.variadic 1 0) (length-map m.params (renamed r))

is_blank-renamed : (r : Renaming) (lists : List (List Hidden)) → is_blank (renamed_lists r lists) ≡ is_blank lists
is_blank-renamed r [] = refl
is_blank-renamed r ([] ∷ []) = refl
is_blank-renamed r ([] ∷ l ∷ ls) = refl
is_blank-renamed r ((h ∷ hs) ∷ ls) = refl

pub arguments_of-renamed : (r : Renaming) (m : Definition) (lists : List (List Hidden))
    → arguments_of (renamed_macro r m) (renamed_lists r lists) ≡ option_map (renamed_lists r) (arguments_of m lists)
arguments_of-renamed r m lists =
    arguments_mapped (map (renamed_hidden r)) refl m (renamed_macro r m) (arity-renamed r m) (commas_of-renamed r m) refl lists (is_blank-renamed r lists)
