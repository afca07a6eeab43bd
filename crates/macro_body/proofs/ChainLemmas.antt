-- Chains read part by part.
use Rattle.std.proofs.Common.{◌≡◌, ℕ, ◌&&◌, Bool, true, false, cond, List, [], ◌∷◌, ◌++◌, map, Option, Some, None, refl, ap, sym, ◌∙◌, append_assoc}
use Rattle.std.specs.Prelude.{is_some}
use Rattle.std.specs.List.{list_all}
use Rattle.std.proofs.lemmas.Bool.{and_parts, and_from}
use Rattle.cs_base.specs.Token.{Token}
use Rattle.line_shape.specs.Signs.{is_paste, is_comma}
use Rattle.macro_body.specs.declared.definitions.Definition.{Definition}
use Rattle.macro_body.specs.Macro.{parameter_at}
use Rattle.macro_body.specs.Bodies.{Part, Plain, Param, Quote, Paste, Rest, token_of, is_operator, param_or_plain, lone_part, quote_or, quoted_parameter, parts_from, pasted_to, chains_in, rest_param, rest_of, rest_or, rest_or_chain, chains_of}
use Rattle.macro_body.specs.BodyParts.{goes_on, onto_last, behind_operand, with_parts}
use Rattle.macro_body.specs.Sound.{is_traced, chains_traced}

-- the last chain goes on
onto_last-append : (cs : List (List Part)) (c : List Part) (more : List (List Part)) → onto_last (cs ++ c ∷ []) more ≡ cs ++ goes_on c more
onto_last-append [] c more = refl
onto_last-append (d ∷ []) c more = refl
onto_last-append (d ∷ e ∷ cs) c more = ap (λ v. d ∷ v) (onto_last-append (e ∷ cs) c more)

pub onto_last-nil : (cs : List (List Part)) → onto_last cs [] ≡ cs
onto_last-nil [] = refl
onto_last-nil (c ∷ []) = refl
onto_last-nil (c ∷ d ∷ cs) = ap (λ v. c ∷ v) (onto_last-nil (d ∷ cs))

goes_on-pasted_to : (c : List Part) (p : Part) (more : List (List Part)) → goes_on (c ++ p ∷ []) more ≡ goes_on c (pasted_to p more)
goes_on-pasted_to c p [] = refl
goes_on-pasted_to c p (d ∷ more) = ap (λ v. v ∷ more) (append_assoc c (p ∷ []) d)

-- an operand is read behind a chain that goes on
pub behind-more : (cs : List (List Part)) (c : List Part) (p : Part) (ps : List Part)
    → behind_operand (cs ++ (c ++ p ∷ []) ∷ []) ps ≡ cs ++ goes_on c (chains_in (p ∷ ps))
unfolding chains_in
behind-more cs c p [] = refl
behind-more cs c p (q ∷ ps) = by (is_operator q)
  where
    by : (operator : Bool) → cond operator (onto_last (cs ++ (c ++ p ∷ []) ∷ []) (chains_in ps)) ((cs ++ (c ++ p ∷ []) ∷ []) ++ chains_in (q ∷ ps))
        ≡ cs ++ goes_on c (cond operator (pasted_to p (chains_in ps)) ((p ∷ []) ∷ chains_in (q ∷ ps)))
    by true = onto_last-append cs (c ++ p ∷ []) (chains_in ps) ∙ ap (λ v. cs ++ v) (goes_on-pasted_to c p (chains_in ps))
    by false = append_assoc cs ((c ++ p ∷ []) ∷ []) (chains_in (q ∷ ps))

goes_on-pasted_nil : (p : Part) (more : List (List Part)) → goes_on [] (pasted_to p more) ≡ pasted_to p more
goes_on-pasted_nil p [] = refl
goes_on-pasted_nil p (d ∷ more) = refl

goes_on-none : (p : Part) (ps : List Part) → goes_on [] (chains_in (p ∷ ps)) ≡ chains_in (p ∷ ps)
unfolding chains_in
goes_on-none p [] = refl
goes_on-none p (q ∷ ps) = by (is_operator q)
  where
    by : (operator : Bool) → goes_on [] (cond operator (pasted_to p (chains_in ps)) ((p ∷ []) ∷ chains_in (q ∷ ps)))
        ≡ cond operator (pasted_to p (chains_in ps)) ((p ∷ []) ∷ chains_in (q ∷ ps))
    by true = goes_on-pasted_nil p (chains_in ps)
    by false = refl

-- an operand begins a chain
pub behind-begun : (cs : List (List Part)) (p : Part) (ps : List Part) → behind_operand (cs ++ (p ∷ []) ∷ []) ps ≡ cs ++ chains_in (p ∷ ps)
behind-begun cs p ps = behind-more cs [] p ps ∙ ap (λ v. cs ++ v) (goes_on-none p ps)

-- the operand goes on with the last chain
pub behind-last : (old front new : List (List Part)) (c : List Part) (p : Part) → old ≡ front ++ c ∷ [] → new ≡ front ++ (c ++ p ∷ []) ∷ []
    → (ps : List Part) → behind_operand new ps ≡ onto_last old (chains_in (p ∷ ps))
behind-last old front new c p was is ps =
    ap (λ v. behind_operand v ps) is ∙ behind-more front c p ps ∙ sym (onto_last-append front c (chains_in (p ∷ ps))) ∙ ap (λ v. onto_last v (chains_in (p ∷ ps))) (sym was)

-- a part is read: an operand, a `##`, or one that begins a chain
pub part-begun : (old new : List (List Part)) (p : Part) → is_operator p ≡ false → new ≡ old ++ (p ∷ []) ∷ []
    → (ps : List Part) → behind_operand new ps ≡ behind_operand old (p ∷ ps)
part-begun old new p plain is ps =
    ap (λ v. behind_operand v ps) is ∙ behind-begun old p ps
    ∙ sym (ap (λ b. cond b (onto_last old (chains_in ps)) (old ++ chains_in (p ∷ ps))) plain)

-- one token more
pub parts_from-taken : (m : Definition) (t : Token) (ts : List Token) → parts_from m true (t ∷ ts) ≡ parts_from m false ts
unfolding parts_from
parts_from-taken m t ts = refl

pub parts_from-more : (m : Definition) (t : Token) (ts : List Token)
    → parts_from m false (t ∷ ts) ≡ quote_or t (lone_part m t) (quoted_parameter m t ts) ∷ parts_from m (is_some (quoted_parameter m t ts)) ts
unfolding parts_from
parts_from-more m t ts = refl

-- no token more
pub read-all : (m : Definition) (operand taken : Bool) (cs : List (List Part)) → with_parts operand cs (parts_from m taken []) ≡ cs
unfolding parts_from chains_in
read-all m true taken cs = onto_last-nil cs
read-all m false taken cs = refl

pub read-none : (m : Definition) → with_parts true [] (parts_from m false m.body) ≡ chains_in (parts_from m false m.body)
read-none m = refl

-- the tokens of parts come from somewhere
abbrev parts_traced : List Part → Bool
parts_traced ps = list_all (λ p. is_traced (token_of p)) ps

lone_part-traced : (t : Token) (paste : Bool) (i : Option _) → token_of (cond paste (Paste t) (param_or_plain t i)) ≡ t
lone_part-traced t true i = refl
lone_part-traced t false (Some i) = refl
lone_part-traced t false None = refl

quote_or-token : (t : Token) (p : Part) → token_of p ≡ t → (i : Option _) → token_of (quote_or t p i) ≡ t
quote_or-token t p same (Some i) = refl
quote_or-token t p same None = same

parts_from-traced : (m : Definition) (taken : Bool) (ts : List Token) → list_all is_traced ts ≡ true → parts_traced (parts_from m taken ts) ≡ true
unfolding parts_from
parts_from-traced m taken [] all = refl
parts_from-traced m true (t ∷ ts) all = parts_from-traced m false ts (and_parts (is_traced t) (list_all is_traced ts) all).1
parts_from-traced m false (t ∷ ts) all =
    let each = and_parts (is_traced t) (list_all is_traced ts) all in
    let is = quote_or-token t (lone_part m t) (lone_part-traced t (is_paste t) (parameter_at m t)) (quoted_parameter m t ts) in
    and_from (is_traced (token_of (quote_or t (lone_part m t) (quoted_parameter m t ts)))) (parts_traced (parts_from m (is_some (quoted_parameter m t ts)) ts))
    (ap is_traced is ∙ each.0) (parts_from-traced m (is_some (quoted_parameter m t ts)) ts each.1)

pasted_to-traced : (p : Part) (cs : List (List Part)) → is_traced (token_of p) ≡ true → chains_traced cs ≡ true → chains_traced (pasted_to p cs) ≡ true
pasted_to-traced p [] here all = ap (λ b. (b && true) && true) here
pasted_to-traced p (c ∷ cs) here all =
    let each = and_parts (parts_traced c) (chains_traced cs) all in
    and_from (is_traced (token_of p) && parts_traced c) (chains_traced cs) (and_from (is_traced (token_of p)) (parts_traced c) here each.0) each.1

either-traced : (operator : Bool) (p : Part) (first second : List (List Part)) → is_traced (token_of p) ≡ true → chains_traced first ≡ true → chains_traced second ≡ true
    → chains_traced (cond operator (pasted_to p first) ((p ∷ []) ∷ second)) ≡ true
either-traced true p first second here all all2 = pasted_to-traced p first here all
either-traced false p first second here all all2 = and_from (is_traced (token_of p) && true) (chains_traced second) (ap (λ b. b && true) here) all2

chains_in-traced : (ps : List Part) → parts_traced ps ≡ true → chains_traced (chains_in ps) ≡ true
unfolding chains_in
chains_in-traced [] all = refl
chains_in-traced (p ∷ []) all = ap (λ b. (b && true) && true) (and_parts (is_traced (token_of p)) true all).0
chains_in-traced (p ∷ q ∷ ps) all =
    let each = and_parts (is_traced (token_of p)) (parts_traced (q ∷ ps)) all in
    let behind = and_parts (is_traced (token_of q)) (parts_traced ps) each.1 in
    either-traced (is_operator q) p (chains_in ps) (chains_in (q ∷ ps)) each.0 (chains_in-traced ps behind.1) (chains_in-traced (q ∷ ps) each.1)

rest_or-traced : (chain : List Part) (i : Option ℕ) → parts_traced chain ≡ true → parts_traced (rest_or chain i) ≡ true
rest_or-traced chain None all = all
rest_or-traced [] (Some i) all = refl
rest_or-traced (p ∷ ps) (Some i) all = ap (λ b. b && true) (and_parts (is_traced (token_of p)) (parts_traced ps) all).0

rests-traced : (m : Definition) (cs : List (List Part)) → chains_traced cs ≡ true → chains_traced (map (rest_or_chain m) cs) ≡ true
rests-traced m [] all = refl
rests-traced m (c ∷ cs) all =
    let each = and_parts (parts_traced c) (chains_traced cs) all in
    and_from (parts_traced (rest_or_chain m c)) (chains_traced (map (rest_or_chain m) cs)) (rest_or-traced c (rest_of m c) each.0) (rests-traced m cs each.1)

-- the tokens of chains come from somewhere where those of the replacement list do
pub chains_of-traced : (m : Definition) (cs : List (List Part)) → cs ≡ chains_of m → list_all is_traced m.body ≡ true → chains_traced cs ≡ true
unfolding chains_of
chains_of-traced m cs is all =
    ap chains_traced is ∙ rests-traced m (chains_in (parts_from m false m.body)) (chains_in-traced (parts_from m false m.body) (parts_from-traced m false m.body all))

-- the chains that were read make those of the macro
pub rests-all : (m : Definition) (read cs : List (List Part)) → read ≡ chains_in (parts_from m false m.body) → cs ≡ map (rest_or_chain m) read → cs ≡ chains_of m
unfolding chains_of
rests-all m read cs was is = is ∙ ap (map (rest_or_chain m)) was

-- in a unit of another standard a chain is as it is
rest_of-none : (m : Definition) (c : List Part) → m.gnu ≡ false → rest_of m c ≡ None
rest_of-none m [] other = refl
rest_of-none m (p ∷ []) other = refl
rest_of-none m (p ∷ q ∷ []) other = rw other refl
rest_of-none m (p ∷ q ∷ r ∷ ps) other = refl

rests-none : (m : Definition) (cs : List (List Part)) → m.gnu ≡ false → map (rest_or_chain m) cs ≡ cs
rests-none m [] other = refl
rests-none m (c ∷ cs) other =
    ap (λ (o : Option ℕ). rest_or c o ∷ map (rest_or_chain m) cs) (rest_of-none m c other) ∙ ap (λ v. c ∷ v) (rests-none m cs other)

pub no-rests : (m : Definition) (cs : List (List Part)) → m.gnu ≡ false → cs ≡ chains_in (parts_from m false m.body) → cs ≡ chains_of m
unfolding chains_of
no-rests m cs other is = is ∙ sym (rests-none m (chains_in (parts_from m false m.body)) other)

-- the operand is the first one
pub behind-first : (old mid new : List (List Part)) (p : Part) → old ≡ [] → mid ≡ [] → new ≡ mid ++ (p ∷ []) ∷ []
    → (ps : List Part) → behind_operand new ps ≡ onto_last old (chains_in (p ∷ ps))
behind-first old mid new p none none2 is ps =
    ap (λ v. behind_operand v ps) (is ∙ ap (λ v. v ++ (p ∷ []) ∷ []) none2) ∙ behind-begun [] p ps ∙ ap (λ v. onto_last v (chains_in (p ∷ ps))) (sym none)

-- a token is read that belongs to the part before
pub read-taken : (m : Definition) (t : Token) (ts : List Token) (operand taken : Bool) (cs : List (List Part)) → taken ≡ true
    → with_parts operand cs (parts_from m false ts) ≡ with_parts operand cs (parts_from m taken (t ∷ ts))
read-taken m t ts operand taken cs is = sym (ap (λ b. with_parts operand cs (parts_from m b (t ∷ ts))) is ∙ ap (with_parts operand cs) (parts_from-taken m t ts))

-- a token is read that begins a part
pub read-part : (m : Definition) (t : Token) (ts : List Token) (operand next taken takes : Bool) (old new : List (List Part)) (p : Part) → taken ≡ false
    → takes ≡ is_some (quoted_parameter m t ts) → p ≡ quote_or t (lone_part m t) (quoted_parameter m t ts)
    → ((ps : List Part) → with_parts next new ps ≡ with_parts operand old (p ∷ ps))
    → with_parts next new (parts_from m takes ts) ≡ with_parts operand old (parts_from m taken (t ∷ ts))
read-part m t ts operand next taken takes old new p free takes_is is added =
    added (parts_from m takes ts)
    ∙ ap (λ b. with_parts operand old (p ∷ parts_from m b ts)) takes_is
    ∙ ap (λ v. with_parts operand old (v ∷ parts_from m (is_some (quoted_parameter m t ts)) ts)) is
    ∙ ap (with_parts operand old) (sym (parts_from-more m t ts))
    ∙ ap (λ b. with_parts operand old (parts_from m b (t ∷ ts))) (sym free)

-- what is true of a chain, and of the part that a comma and the variable arguments make
no_rest : (Q : List Part → Type 0) (p q : Part) (o : Option ℕ) (gnu : Bool) → Q (p ∷ q ∷ []) → Q (rest_or (p ∷ q ∷ []) (cond (gnu && false) o None))
no_rest Q p q o true h = h
no_rest Q p q o false h = h

pub rest_by : (Q : List Part → Type 0) (m : Definition) (c : List Part) → Q c → ((t : Token) (q : Part) (i : ℕ) → c ≡ Plain t ∷ q ∷ [] → Q (Rest t i ∷ []))
    → Q (rest_or_chain m c)
rest_by Q m [] h one = h
rest_by Q m (p ∷ []) h one = h
rest_by Q m (p ∷ q ∷ r ∷ ps) h one = h
rest_by Q m (Param t i ∷ q ∷ []) h one = no_rest Q (Param t i) q (rest_param m q) m.gnu h
rest_by Q m (Quote t i ∷ q ∷ []) h one = no_rest Q (Quote t i) q (rest_param m q) m.gnu h
rest_by Q m (Paste t ∷ q ∷ []) h one = no_rest Q (Paste t) q (rest_param m q) m.gnu h
rest_by Q m (Rest t i ∷ q ∷ []) h one = no_rest Q (Rest t i) q (rest_param m q) m.gnu h
rest_by Q m (Plain t ∷ q ∷ []) h one = by (m.gnu && is_comma t) (rest_param m q)
  where
    by : (b : Bool) (o : Option ℕ) → Q (rest_or (Plain t ∷ q ∷ []) (cond b o None))
    by true (Some i) = one t q i refl
    by true None = h
    by false o = h
