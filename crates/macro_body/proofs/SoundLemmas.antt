-- What a replacement puts in comes from somewhere.
use Rattle.std.proofs.Common.{◌≡◌, ℕ, zero, suc, ◌^◌, ◌==◌, ◌&&◌, ◌||◌, nat_lt, Bool, true, false, cond, List, [], ◌∷◌, ◌++◌, length, map, get_or, Option, Some, None, Result, Ok, Err, refl, ap, sym, subst, ◌∙◌}
use Rattle.std.specs.Prelude.{is_some}
use Rattle.std.specs.List.{list_all, list_any}
use Rattle.std.proofs.lemmas.Bool.{and_parts, and_from, or_right}
use Rattle.std.proofs.lemmas.List.Folds.{list_all-append, list_any-append}
use Rattle.cs_base.specs.declared.tokens.Kind.{Kind}
use Rattle.cs_base.specs.Token.{Token}
use Rattle.lexer.specs.Characters.{double_quote}
use Rattle.lexer.specs.OneToken.{one_token_of}
use Rattle.lexer.specs.Spelling.{is_plain_string_text}
use Rattle.paste_origin.specs.Pasting.{PasteFault, joined, pasted_as, glue_of}
use Rattle.paste_origin.specs.Strings.{NotAString as NotAString_of, StringFault, string_text, string_origins, string_token, stringize_of}
use Rattle.macro_body.specs.Hides.{Hidden, hidden, in_both, toks_of}
use Rattle.macro_body.specs.Bodies.{Part, Plain, Param, Quote, Paste, Rest, token_of}
use Rattle.macro_body.specs.Notes.{Fault, NotOneToken, NotAString, Stringized, Pasted, onward}
use Rattle.macro_body.specs.Substitution.{Arguments, Made, made, made_both, put_in, moved_in, with_gap, argument_for, rest_tokens, rest_for, is_alone, string_made, operand_made, operands_made, chains_made, token_pasted, pasted_behind, two_pasted, chain_pasted, chains_pasted, result_of}
use Rattle.macro_body.specs.Sound.{is_traced, is_low, is_sound, all_sound, is_argument, chains_traced}
use Rattle.macro_body.proofs.ResultLemmas.{ok_same, err_ok, onward_ok}

-- What a replacement is given: a name at a line of a source file, and arguments that come from somewhere.
pub record SoundCall (name : Token) (args : Arguments) : Type 0 where
  pub low : is_low name ≡ true
  pub raw : list_all all_sound args.raw ≡ true
  pub full : list_all all_sound args.full ≡ true

-- arguments alone
pub arguments-sound : (lists : List (List Hidden)) → list_all is_argument lists ≡ true → list_all all_sound lists ≡ true
arguments-sound [] all = refl
arguments-sound (a ∷ lists) all =
    let each = and_parts (is_argument a) (list_all is_argument lists) all in
    and_from (all_sound a) (list_all all_sound lists) (and_parts (all_sound a) (nat_lt (length a) (2 ^ 32)) each.0).0 (arguments-sound lists each.1)

one-sound : (lists : List (List Hidden)) (i : ℕ) → list_all all_sound lists ≡ true → all_sound (get_or lists i []) ≡ true
one-sound [] i all = refl
one-sound (a ∷ lists) zero all = (and_parts (all_sound a) (list_all all_sound lists) all).0
one-sound (a ∷ lists) (suc i) all = one-sound lists i (and_parts (all_sound a) (list_all all_sound lists) all).1

moved-sound : (hs : List Hidden) → all_sound hs ≡ true → all_sound (map moved_in hs) ≡ true
moved-sound [] all = refl
moved-sound (h ∷ hs) all =
    let each = and_parts (is_sound h) (all_sound hs) all in
    and_from (is_sound (moved_in h)) (all_sound (map moved_in hs)) each.0 (moved-sound hs each.1)

with_gap-sound : (gap : Bool) (hs : List Hidden) → all_sound hs ≡ true → all_sound (with_gap gap hs) ≡ true
with_gap-sound gap [] all = refl
with_gap-sound gap (h ∷ hs) all = all

argument_for-sound : (t : Token) (hs : List Hidden) → all_sound hs ≡ true → all_sound (argument_for t hs) ≡ true
argument_for-sound t hs all = with_gap-sound t.gap (map moved_in hs) (moved-sound hs all)

-- a token that is put in for a name
put_in-sound : (name : Token) (gap : Bool) (t : Token) (hides : List (List ℕ)) → is_low name ≡ true → is_traced t ≡ true → is_sound (hidden (put_in name gap t) hides) ≡ true
put_in-sound name gap t hides low traced = and_from (is_traced t) (is_low name) traced low

only-sound : (h : Hidden) → is_sound h ≡ true → all_sound (h ∷ []) ≡ true
only-sound h here = ap (λ b. b && true) here

-- a string has a quote
string-traced : (toks : List Token) (s : Token) → stringize_of toks ≡ Ok s → is_traced s ≡ true
unfolding stringize_of
string-traced toks s e = by (is_plain_string_text (string_text toks)) e
  where
    value_or : Result Token StringFault → Token
    value_or (Ok t) = t
    value_or (Err fault) = s

    by : (is : Bool) → cond is (Ok (string_token (string_text toks) (string_origins toks))) (Err NotAString_of) ≡ Ok s → is_traced s ≡ true
    by true k = ap is_traced (sym (ap value_or k)) ∙ or_right (list_all is_some (string_token (string_text toks) (string_origins toks)).origins) true refl
    by false k = absurd (cc)

-- a token that is pasted of two that come from somewhere
either-quoted : (x y : Token) → is_traced x ≡ true → is_traced y ≡ true
    → (list_all is_some x.origins && list_all is_some y.origins || (list_any (λ c. c == double_quote) x.text || list_any (λ c. c == double_quote) y.text)) ≡ true
either-quoted x y h k = by (list_all is_some x.origins) (list_all is_some y.origins) (list_any (λ c. c == double_quote) x.text) (list_any (λ c. c == double_quote) y.text) h k
  where
    by : (a b p q : Bool) → (a || p) ≡ true → (b || q) ≡ true → (a && b || (p || q)) ≡ true
    by true true p q m n = refl
    by true false p true m n = or_right p true refl
    by true false p false m n = absurd (cc)
    by false b true q m n = refl
    by false b false q m n = absurd (cc)

joined-traced : (x y : Token) (kind : Kind) → is_traced x ≡ true → is_traced y ≡ true → is_traced (joined x y kind) ≡ true
joined-traced x y kind h k =
    ap (λ b. b || list_any (λ c. c == double_quote) (x.text ++ y.text)) (list_all-append is_some x.origins y.origins)
    ∙ ap (λ b. list_all is_some x.origins && list_all is_some y.origins || b) (list_any-append (λ c. c == double_quote) x.text y.text)
    ∙ either-quoted x y h k

glue-traced : (x y z : Token) → is_traced x ≡ true → is_traced y ≡ true → glue_of x y ≡ Ok z → is_traced z ≡ true
unfolding glue_of
glue-traced x y z h k e = by (one_token_of (x.text ++ y.text)) e
  where
    value_or : Result Token PasteFault → Token
    value_or (Ok t) = t
    value_or (Err fault) = z

    by : (made : Option Kind) → pasted_as x y made ≡ Ok z → is_traced z ≡ true
    by (Some kind) is = ap is_traced (sym (ap value_or is)) ∙ joined-traced x y kind h k
    by None is = absurd (cc)

-- operands, strings made
string_made-sound : (name sign : Token) → is_low name ≡ true → (toks : List Token) (r : Result Token StringFault) (m : Made (List Hidden)) → ((s : Token) → r ≡ Ok s → is_traced s ≡ true)
    → string_made name sign toks r ≡ Ok m → all_sound m.value ≡ true
string_made-sound name sign low toks (Ok s) m traced e =
    let v : Made (List Hidden) = made (hidden (put_in name sign.gap s) [] ∷ []) (Stringized toks s ∷ []) in
    subst (λ (w : Made (List Hidden)). all_sound w.value ≡ true) (ok_same v m e)
    (only-sound (hidden (put_in name sign.gap s) []) (put_in-sound name sign.gap s [] low (traced s refl)))
string_made-sound name sign low toks (Err fault) m traced e = err_ok (NotAString name.at) m e

alone-sound : (v : List Hidden) (m : Made (List Hidden)) → all_sound v ≡ true → ◌≡◌ {A = Result (Made (List Hidden)) Fault} (Ok (made v [])) (Ok m) → all_sound m.value ≡ true
alone-sound v m here e = subst (λ (w : Made (List Hidden)). all_sound w.value ≡ true) (ok_same (made v []) m e) here

-- a comma with the variable arguments behind it
rest_tokens-sound : (b : Bool) (name comma : Token) (hs : List Hidden) → is_low name ≡ true → is_traced comma ≡ true → all_sound hs ≡ true → all_sound (rest_tokens b name comma hs) ≡ true
rest_tokens-sound true name comma hs low here all =
    and_from (is_sound (hidden (put_in name comma.gap comma) [])) (all_sound (map moved_in hs)) (put_in-sound name comma.gap comma [] low here) (moved-sound hs all)
rest_tokens-sound false name comma hs low here all = refl

operand_made-sound : (name : Token) (args : Arguments) → SoundCall name args → (lone : Bool) (p : Part) → is_traced (token_of p) ≡ true → (m : Made (List Hidden))
    → operand_made name args lone p ≡ Ok m → all_sound m.value ≡ true
operand_made-sound name args call lone (Plain t) here m e =
    alone-sound (hidden (put_in name t.gap t) [] ∷ []) m (only-sound (hidden (put_in name t.gap t) []) (put_in-sound name t.gap t [] call.low here)) e
operand_made-sound name args call lone (Paste t) here m e =
    alone-sound (hidden (put_in name t.gap t) [] ∷ []) m (only-sound (hidden (put_in name t.gap t) []) (put_in-sound name t.gap t [] call.low here)) e
operand_made-sound name args call true (Param t i) here m e =
    alone-sound (argument_for t (get_or args.full i [])) m (argument_for-sound t (get_or args.full i []) (one-sound args.full i call.full)) e
operand_made-sound name args call false (Param t i) here m e =
    alone-sound (argument_for t (get_or args.raw i [])) m (argument_for-sound t (get_or args.raw i []) (one-sound args.raw i call.raw)) e
operand_made-sound name args call lone (Quote t i) here m e =
    string_made-sound name t call.low (toks_of (get_or args.raw i [])) (stringize_of (toks_of (get_or args.raw i []))) m (string-traced (toks_of (get_or args.raw i []))) e
operand_made-sound name args call lone (Rest t i) here m e =
    alone-sound (rest_for name t args.raw i) m
    (rest_tokens-sound (nat_lt i (length args.raw)) name t (get_or args.raw i []) call.low here (one-sound args.raw i call.raw)) e

operands_made-sound : (name : Token) (args : Arguments) → SoundCall name args → (lone : Bool) (ps : List Part) → list_all (λ p. is_traced (token_of p)) ps ≡ true
    → (m : Made (List (List Hidden))) → operands_made name args lone ps ≡ Ok m → list_all all_sound m.value ≡ true
operands_made-sound name args call lone [] here m e = subst (λ (w : Made (List (List Hidden))). list_all all_sound w.value ≡ true) (ok_same (made [] []) m e) refl
operands_made-sound name args call lone (p ∷ ps) here m e =
    let each = and_parts (is_traced (token_of p)) (list_all (λ p. is_traced (token_of p)) ps) here in
    let i = onward_ok {A = Made (List Hidden)} (operand_made name args lone p) (λ v. onward (operands_made name args lone ps) (λ vs. Ok (made_both (λ x xs. x ∷ xs) v vs))) m e in
    let j = onward_ok {A = Made (List (List Hidden))} (operands_made name args lone ps) (λ vs. Ok (made_both (λ x xs. x ∷ xs) i.0 vs)) m i.2 in
    subst (λ (w : Made (List (List Hidden))). list_all all_sound w.value ≡ true) (ok_same (made_both (λ x xs. x ∷ xs) i.0 j.0) m j.2)
    (and_from (all_sound i.0.value) (list_all all_sound j.0.value) (operand_made-sound name args call lone p each.0 i.0 i.1) (operands_made-sound name args call lone ps each.1 j.0 j.1))

chains_made-sound : (name : Token) (args : Arguments) → SoundCall name args → (cs : List (List Part)) → chains_traced cs ≡ true
    → (m : Made (List (List (List Hidden)))) → chains_made name args cs ≡ Ok m → list_all (list_all all_sound) m.value ≡ true
chains_made-sound name args call [] here m e = subst (λ (w : Made (List (List (List Hidden)))). list_all (list_all all_sound) w.value ≡ true) (ok_same (made [] []) m e) refl
chains_made-sound name args call (c ∷ cs) here m e =
    let each = and_parts (list_all (λ p. is_traced (token_of p)) c) (chains_traced cs) here in
    let i = onward_ok {A = Made (List (List Hidden))} (operands_made name args (is_alone c) c) (λ v. onward (chains_made name args cs) (λ vs. Ok (made_both (λ x xs. x ∷ xs) v vs))) m e in
    let j = onward_ok {A = Made (List (List (List Hidden)))} (chains_made name args cs) (λ vs. Ok (made_both (λ x xs. x ∷ xs) i.0 vs)) m i.2 in
    subst (λ (w : Made (List (List (List Hidden)))). list_all (list_all all_sound) w.value ≡ true) (ok_same (made_both (λ x xs. x ∷ xs) i.0 j.0) m j.2)
    (and_from (list_all all_sound i.0.value) (list_all (list_all all_sound) j.0.value) (operands_made-sound name args call (is_alone c) c each.0 i.0 i.1) (chains_made-sound name args call cs each.1 j.0 j.1))

-- tokens are pasted
token_pasted-sound : (name : Token) → is_low name ≡ true → (x y : Hidden) (r : Result Token PasteFault) (m : Made Hidden) → ((z : Token) → r ≡ Ok z → is_traced z ≡ true)
    → token_pasted name x y r ≡ Ok m → is_sound m.value ≡ true
token_pasted-sound name low x y (Ok z) m traced e =
    let v : Made Hidden = made (hidden (put_in name x.tok.gap z) (in_both x.hides y.hides)) (Pasted x.tok y.tok (put_in name x.tok.gap z) ∷ []) in
    subst (λ (w : Made Hidden). is_sound w.value ≡ true) (ok_same v m e) (put_in-sound name x.tok.gap z (in_both x.hides y.hides) low (traced z refl))
token_pasted-sound name low x y (Err fault) m traced e = err_ok (NotOneToken name.at) m e

pasted_behind-sound : (name : Token) → is_low name ≡ true → (x : Hidden) (xs ys : List Hidden) → is_sound x ≡ true → all_sound xs ≡ true → all_sound ys ≡ true
    → (m : Made (List Hidden)) → pasted_behind name x xs ys ≡ Ok m → all_sound m.value ≡ true
pasted_behind-sound name low x [] [] here all all2 m e = alone-sound (x ∷ []) m (only-sound x here) e
pasted_behind-sound name low x [] (y ∷ ys) here all all2 m e =
    let each = and_parts (is_sound y) (all_sound ys) all2 in
    let a = and_parts (is_traced x.tok) (is_low x.tok) here in
    let b = and_parts (is_traced y.tok) (is_low y.tok) each.0 in
    let i = onward_ok {A = Made Hidden} (token_pasted name x y (glue_of x.tok y.tok)) (λ z. Ok (made (z.value ∷ ys) z.notes)) m e in
    subst (λ (w : Made (List Hidden)). all_sound w.value ≡ true) (ok_same (made (i.0.value ∷ ys) i.0.notes) m i.2)
    (and_from (is_sound i.0.value) (all_sound ys) (token_pasted-sound name low x y (glue_of x.tok y.tok) i.0 (λ z is. glue-traced x.tok y.tok z a.0 b.0 is) i.1) each.1)
pasted_behind-sound name low x (x2 ∷ xs) ys here all all2 m e =
    let each = and_parts (is_sound x2) (all_sound xs) all in
    let i = onward_ok {A = Made (List Hidden)} (pasted_behind name x2 xs ys) (λ zs. Ok (made (x ∷ zs.value) zs.notes)) m e in
    subst (λ (w : Made (List Hidden)). all_sound w.value ≡ true) (ok_same (made (x ∷ i.0.value) i.0.notes) m i.2)
    (and_from (is_sound x) (all_sound i.0.value) here (pasted_behind-sound name low x2 xs ys each.0 each.1 all2 i.0 i.1))

two_pasted-sound : (name : Token) → is_low name ≡ true → (xs ys : List Hidden) → all_sound xs ≡ true → all_sound ys ≡ true
    → (m : Made (List Hidden)) → two_pasted name xs ys ≡ Ok m → all_sound m.value ≡ true
two_pasted-sound name low [] ys all all2 m e = alone-sound ys m all2 e
two_pasted-sound name low (x ∷ xs) ys all all2 m e =
    let each = and_parts (is_sound x) (all_sound xs) all in pasted_behind-sound name low x xs ys each.0 each.1 all2 m e

chain_pasted-sound : (name : Token) → is_low name ≡ true → (xs : List Hidden) (yss : List (List Hidden)) → all_sound xs ≡ true → list_all all_sound yss ≡ true
    → (m : Made (List Hidden)) → chain_pasted name xs yss ≡ Ok m → all_sound m.value ≡ true
chain_pasted-sound name low xs [] all all2 m e = alone-sound xs m all e
chain_pasted-sound name low xs (ys ∷ yss) all all2 m e =
    let each = and_parts (all_sound ys) (list_all all_sound yss) all2 in
    let next : Made (List Hidden) → Result (Made (List Hidden)) Fault = λ z. onward (chain_pasted name z.value yss) (λ zs. Ok (made zs.value (z.notes ++ zs.notes))) in
    let i = onward_ok {A = Made (List Hidden)} (two_pasted name xs ys) next m e in
    let j = onward_ok {A = Made (List Hidden)} (chain_pasted name i.0.value yss) (λ zs. Ok (made zs.value (i.0.notes ++ zs.notes))) m i.2 in
    subst (λ (w : Made (List Hidden)). all_sound w.value ≡ true) (ok_same (made j.0.value (i.0.notes ++ j.0.notes)) m j.2)
    (chain_pasted-sound name low i.0.value yss (two_pasted-sound name low xs ys all each.0 i.0 i.1) each.1 j.0 j.1)

appended-sound : (xs ys : List Hidden) → all_sound xs ≡ true → all_sound ys ≡ true → all_sound (xs ++ ys) ≡ true
appended-sound xs ys all all2 = list_all-append is_sound xs ys ∙ and_from (all_sound xs) (all_sound ys) all all2

chains_pasted-sound : (name : Token) → is_low name ≡ true → (cs : List (List (List Hidden))) → list_all (list_all all_sound) cs ≡ true
    → (m : Made (List Hidden)) → chains_pasted name cs ≡ Ok m → all_sound m.value ≡ true
chains_pasted-sound name low [] all m e = alone-sound [] m refl e
chains_pasted-sound name low (c ∷ cs) all m e =
    let each = and_parts (list_all all_sound c) (list_all (list_all all_sound) cs) all in
    let i = onward_ok {A = Made (List Hidden)} (chain_pasted name [] c) (λ v. onward (chains_pasted name cs) (λ vs. Ok (made_both (λ x xs. x ++ xs) v vs))) m e in
    let j = onward_ok {A = Made (List Hidden)} (chains_pasted name cs) (λ vs. Ok (made_both (λ x xs. x ++ xs) i.0 vs)) m i.2 in
    subst (λ (w : Made (List Hidden)). all_sound w.value ≡ true) (ok_same (made_both (λ x xs. x ++ xs) i.0 j.0) m j.2)
    (appended-sound i.0.value j.0.value (chain_pasted-sound name low [] c refl each.0 i.0 i.1) (chains_pasted-sound name low cs each.1 j.0 j.1))

-- what a replacement puts in
pub result_of-sound : (name : Token) (args : Arguments) → SoundCall name args → (cs : List (List Part)) → chains_traced cs ≡ true → (m : Made (List Hidden))
    → result_of name args cs ≡ Ok m → all_sound m.value ≡ true
unfolding result_of
result_of-sound name args call cs here m e =
    let next : Made (List (List (List Hidden))) → Result (Made (List Hidden)) Fault = λ s. onward (chains_pasted name s.value) (λ v. Ok (made (with_gap name.gap v.value) (s.notes ++ v.notes))) in
    let i = onward_ok {A = Made (List (List (List Hidden)))} (chains_made name args cs) next m e in
    let j = onward_ok {A = Made (List Hidden)} (chains_pasted name i.0.value) (λ v. Ok (made (with_gap name.gap v.value) (i.0.notes ++ v.notes))) m i.2 in
    subst (λ (w : Made (List Hidden)). all_sound w.value ≡ true) (ok_same (made (with_gap name.gap j.0.value) (i.0.notes ++ j.0.notes)) m j.2)
    (with_gap-sound name.gap j.0.value (chains_pasted-sound name call.low i.0.value (chains_made-sound name args call cs here i.0 i.1) j.0 j.1))
