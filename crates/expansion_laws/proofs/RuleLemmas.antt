-- What an expansion keeps true of its tokens and of what happens in it, and what is made in a replacement.
use Rattle.std.proofs.Common.{◌≡◌, ℕ, Bool, true, false, nat_lt, List, [], ◌∷◌, ◌++◌, length, map, get_or, Option, Some, None, Result, Ok, Err, is_some, refl, subst}
use Rattle.cs_base.specs.Limits.{most_bytes}
use Rattle.cs_base.specs.Token.{Token}
use Rattle.line_shape.specs.Signs.{is_name, is_paste}
use Rattle.macro_body.specs.Below.paste_origin.Pasting.{PasteFault, glue_of}
use Rattle.macro_body.specs.Below.paste_origin.Strings.{StringFault, stringize_of}
use Rattle.macro_body.specs.declared.definitions.Form.TheVariants as form
use Rattle.macro_body.specs.declared.definitions.Definition.{Definition}
use Rattle.macro_body.specs.Hides.{Hidden, hidden, in_both, toks_of}
use Rattle.macro_body.specs.Macro.{parameter_at}
use Rattle.macro_body.specs.Bodies.{Part, Plain, Param, Quote, Paste, Rest, quoted_parameter, param_or_plain, lone_part, quote_or, parts_from, is_operator, pasted_to, chains_in, rest_or_chain, chains_of}
use Rattle.macro_body.proofs.ChainLemmas.{rest_by}
use Rattle.macro_body.specs.Notes.{Fault, Note, Counted, Replaced, Linked, Stringized, Pasted, onward}
use Rattle.macro_body.specs.Substitution.{Arguments, Made, made, made_both, with_gap, put_in, moved_in, argument_for, rest_tokens, rest_for, is_alone, string_made, operand_made, operands_made, chains_made, token_pasted, pasted_behind, two_pasted, chain_pasted, chains_pasted, result_of, number_token, line_number, path_string}
use Rattle.macro_expand.specs.Expansion.{Setting, links_name}
use Rattle.macro_body.proofs.ResultLemmas.{ok_same, err_ok, onward_ok}
use Rattle.macro_expand.proofs.CallLemmas.{cond_has}
use Rattle.expansion_laws.proofs.ListLemmas.{AllToks, AllHidden, AllLists, AllNotes, notes_split, notes_both, hidden_both, hidden_at, hidden_toks}

-- What keeps P of tokens: where a token comes from elsewhere, or is made; and what then is N of notes. Of the
-- notes themselves M is known.
pub record Rules (P : Token → Type 0) (M N : Note → Type 0) (set : Setting) : Type 0 where
  -- the labels of a token: its gap, and whether it is direct
  pub spaced : (t : Token) (gap : Bool) → P t → P (record t { gap = gap })
  pub moved : (t : Token) → P t → P (record t { direct = false })
  -- tokens from elsewhere
  pub bodies : (name : Token) (m : Definition) → P name → set.table name.text ≡ Some m → AllToks (λ t. (gap : Bool) → P (put_in name gap t)) m.body
  pub lines : (name : Token) (m : Definition) (before : ℕ) → P name → set.table name.text ≡ Some m → m.form ≡ form.Line → M (Replaced name m.name before) → P (line_number name)
  pub numbers : (name : Token) (n : ℕ) → P name → nat_lt n most_bytes ≡ true → M (Counted (number_token name n)) → P (number_token name n)
  pub paths : (name : Token) (m : Definition) → P name → set.table name.text ≡ Some m → m.form ≡ form.File → P (path_string set.path name)
  -- tokens that are made
  pub strings : (name : Token) (gap : Bool) (toks : List Token) (s : Token) → P name → AllToks P toks → stringize_of toks ≡ Ok s → P (put_in name gap s)
  pub pastes : (name x y z : Token) → P name → P x → P y → glue_of x y ≡ Ok z → M (Pasted x y (put_in name x.gap z)) → P (put_in name x.gap z)
  -- notes
  pub replaced : (name : Token) (m : Definition) (before : ℕ) → P name → is_name name ≡ true → set.table name.text ≡ Some m → N (Replaced name m.name before)
  pub linked : (name : Token) (m : Definition) → P name → is_name name ≡ true → set.table name.text ≡ Some m → links_name m.form ≡ true → N (Linked name m.name)
  pub stringized : (toks : List Token) (s : Token) → AllToks P toks → stringize_of toks ≡ Ok s → N (Stringized toks s)
  pub pasted : (name x y z : Token) → P x → P y → P (put_in name x.gap z) → glue_of x y ≡ Ok z → N (Pasted x y (put_in name x.gap z))
  pub counted : (name : Token) (n : ℕ) → P name → P (number_token name n) → N (Counted (number_token name n))

-- Replacement lists.

abbrev pub PartHas : (Token → Type 0) → Part → Type 0
PartHas P (Plain t) = P t
PartHas P (Paste t) = P t
PartHas P (Param t i) = Unit {0}
PartHas P (Quote t i) = Unit {0}
PartHas P (Rest t i) = P t

abbrev pub PartsHave : (Token → Type 0) → List Part → Type 0
PartsHave P [] = Unit {0}
PartsHave P (p ∷ ps) = PartHas P p × PartsHave P ps

abbrev pub ChainsHave : (Token → Type 0) → List (List Part) → Type 0
ChainsHave P [] = Unit {0}
ChainsHave P (c ∷ cs) = PartsHave P c × ChainsHave P cs

param_has : (P : Token → Type 0) (t : Token) (i : Option ℕ) → P t → PartHas P (param_or_plain t i)
param_has P t (Some i) h = tt
param_has P t None h = h

quote_has : (P : Token → Type 0) (t : Token) (part : Part) (i : Option ℕ) → PartHas P part → PartHas P (quote_or t part i)
quote_has P t part (Some i) h = tt
quote_has P t part None h = h

parts_have : (P : Token → Type 0) (m : Definition) (taken : Bool) (ts : List Token) → AllToks P ts → PartsHave P (parts_from m taken ts)
unfolding parts_from
parts_have P m taken [] h = tt
parts_have P m true (t ∷ ts) h = parts_have P m false ts h.1
parts_have P m false (t ∷ ts) h = (
  quote_has P t (lone_part m t) (quoted_parameter m t ts)
      (cond_has (PartHas P) (is_paste t) (Paste t) (param_or_plain t (parameter_at m t)) h.0 (param_has P t (parameter_at m t) h.0)),
  parts_have P m (is_some (quoted_parameter m t ts)) ts h.1,
)

pasted_to_has : (P : Token → Type 0) (p : Part) (cs : List (List Part)) → PartHas P p → ChainsHave P cs → ChainsHave P (pasted_to p cs)
pasted_to_has P p [] h k = ((h, tt), tt)
pasted_to_has P p (c ∷ cs) h k = ((h, k.0), k.1)

chains_have : (P : Token → Type 0) (ps : List Part) → PartsHave P ps → ChainsHave P (chains_in ps)
unfolding chains_in
chains_have P [] h = tt
chains_have P (p ∷ []) h = ((h.0, tt), tt)
chains_have P (p ∷ q ∷ ps) h =
    cond_has (ChainsHave P) (is_operator q) (pasted_to p (chains_in ps)) ((p ∷ []) ∷ chains_in (q ∷ ps))
    (pasted_to_has P p (chains_in ps) h.0 (chains_have P ps h.1.1))
    ((h.0, tt), chains_have P (q ∷ ps) h.1)

rests_have : (P : Token → Type 0) (m : Definition) (cs : List (List Part)) → ChainsHave P cs → ChainsHave P (map (rest_or_chain m) cs)
rests_have P m [] h = tt
rests_have P m (c ∷ cs) h = (rest_by (PartsHave P) m c h.0 (λ t q i is. ((subst (PartsHave P) is h.0).0, tt)), rests_have P m cs h.1)

pub chains_of_have : (P : Token → Type 0) (m : Definition) → AllToks P m.body → ChainsHave P (chains_of m)
unfolding chains_of
chains_of_have P m h = rests_have P m (chains_in (parts_from m false m.body)) (chains_have P (parts_from m false m.body) (parts_have P m false m.body h))

-- What is made.

-- what is true of the tokens and the notes
abbrev pub Fine : (Token → Type 0) → (Note → Type 0) → Made (List Hidden) → Type 0
Fine P N m = AllHidden P m.value × AllNotes N m.notes

abbrev pub FineLists : (Token → Type 0) → (Note → Type 0) → Made (List (List Hidden)) → Type 0
FineLists P N m = AllLists P m.value × AllNotes N m.notes

abbrev AllChains : (Token → Type 0) → List (List (List Hidden)) → Type 0
AllChains P [] = Unit {0}
AllChains P (c ∷ cs) = AllLists P c × AllChains P cs

abbrev FineChains : (Token → Type 0) → (Note → Type 0) → Made (List (List (List Hidden))) → Type 0
FineChains P N m = AllChains P m.value × AllNotes N m.notes

pub record FineArguments (P : Token → Type 0) (args : Arguments) : Type 0 where
  pub raw : AllLists P args.raw
  pub full : AllLists P args.full

abbrev put_first : {A : Type 0} → Made A → Made (List A) → Result (Made (List A)) Fault
put_first v vs = Ok (made_both (λ x xs. x ∷ xs) v vs)

-- a token has P once it is put in for a name
abbrev pub HasPutIn : (Token → Type 0) → Token → Token → Type 0
HasPutIn P name t = (gap : Bool) → P (put_in name gap t)

module _ (P : Token → Type 0) (M N : Note → Type 0) (set : Setting) (rules : Rules P M N set) (name : Token) (here : P name) where
  gap_kept : (gap : Bool) (hs : List Hidden) → AllHidden P hs → AllHidden P (with_gap gap hs)
  gap_kept gap [] h = tt
  gap_kept gap (x ∷ xs) h = (rules.spaced x.tok gap h.0, h.1)

  moved_kept : (hs : List Hidden) → AllHidden P hs → AllHidden P (map moved_in hs)
  moved_kept [] h = tt
  moved_kept (x ∷ xs) h = (rules.moved x.tok h.0, moved_kept xs h.1)

  argument_kept : (t : Token) (hs : List Hidden) → AllHidden P hs → AllHidden P (argument_for t hs)
  argument_kept t hs h = gap_kept t.gap (map moved_in hs) (moved_kept hs h)

  string_kept : (sign : Token) (toks : List Token) → AllToks P toks → (r : Result Token StringFault) → stringize_of toks ≡ r
      → (m : Made (List Hidden)) → string_made name sign toks r ≡ Ok m → Fine P N m
  string_kept sign toks all (Err f) is m e = err_ok _ m e
  string_kept sign toks all (Ok s) is m e =
      subst (Fine P N) (ok_same (made (hidden (put_in name sign.gap s) [] ∷ []) (Stringized toks s ∷ [])) m e)
      ((rules.strings name sign.gap toks s here all is, tt), (rules.stringized toks s all is, tt))

  rest_kept : (b : Bool) (t : Token) (hs : List Hidden) → HasPutIn P name t → AllHidden P hs → AllHidden P (rest_tokens b name t hs)
  rest_kept true t hs h all = (h t.gap, moved_kept hs all)
  rest_kept false t hs h all = tt

  operand_kept : (args : Arguments) → FineArguments P args → (lone : Bool) (p : Part) → PartHas (HasPutIn P name) p → (m : Made (List Hidden))
      → operand_made name args lone p ≡ Ok m → Fine P N m
  operand_kept args fine lone (Plain t) h m e =
      subst (Fine P N) (ok_same (made (hidden (put_in name t.gap t) [] ∷ []) []) m e) ((h t.gap, tt), tt)
  operand_kept args fine lone (Paste t) h m e =
      subst (Fine P N) (ok_same (made (hidden (put_in name t.gap t) [] ∷ []) []) m e) ((h t.gap, tt), tt)
  operand_kept args fine true (Param t i) h m e =
      subst (Fine P N) (ok_same (made (argument_for t (get_or args.full i [])) []) m e)
      (argument_kept t (get_or args.full i []) (hidden_at P args.full i fine.full), tt)
  operand_kept args fine false (Param t i) h m e =
      subst (Fine P N) (ok_same (made (argument_for t (get_or args.raw i [])) []) m e)
      (argument_kept t (get_or args.raw i []) (hidden_at P args.raw i fine.raw), tt)
  operand_kept args fine lone (Quote t i) h m e =
      string_kept t (toks_of (get_or args.raw i [])) (hidden_toks P (get_or args.raw i []) (hidden_at P args.raw i fine.raw))
      (stringize_of (toks_of (get_or args.raw i []))) refl m e
  operand_kept args fine lone (Rest t i) h m e =
      subst (Fine P N) (ok_same (made (rest_for name t args.raw i) []) m e)
      (rest_kept (nat_lt i (length args.raw)) t (get_or args.raw i []) h (hidden_at P args.raw i fine.raw), tt)

  operands_kept : (args : Arguments) → FineArguments P args → (lone : Bool) (ps : List Part) → PartsHave (HasPutIn P name) ps → (m : Made (List (List Hidden)))
      → operands_made name args lone ps ≡ Ok m → FineLists P N m
  operands_kept args fine lone [] h m e = subst (FineLists P N) (ok_same (made [] []) m e) (tt, tt)
  operands_kept args fine lone (p ∷ ps) h m e =
      let i = onward_ok {A = Made (List Hidden)} (operand_made name args lone p) (λ v. onward (operands_made name args lone ps) (put_first v)) m e in
      let j = onward_ok {A = Made (List (List Hidden))} (operands_made name args lone ps) (put_first i.0) m i.2 in
      let first = operand_kept args fine lone p h.0 i.0 i.1 in
      let rest = operands_kept args fine lone ps h.1 j.0 j.1 in
      subst (FineLists P N) (ok_same (made_both (λ x xs. x ∷ xs) i.0 j.0) m j.2)
      ((first.0, rest.0), notes_both N i.0.notes j.0.notes first.1 rest.1)

  chains_kept : (args : Arguments) → FineArguments P args → (cs : List (List Part)) → ChainsHave (HasPutIn P name) cs → (m : Made (List (List (List Hidden))))
      → chains_made name args cs ≡ Ok m → FineChains P N m
  chains_kept args fine [] h m e = subst (FineChains P N) (ok_same (made [] []) m e) (tt, tt)
  chains_kept args fine (c ∷ cs) h m e =
      let i = onward_ok {A = Made (List (List Hidden))} (operands_made name args (is_alone c) c) (λ v. onward (chains_made name args cs) (put_first v)) m e in
      let j = onward_ok {A = Made (List (List (List Hidden)))} (chains_made name args cs) (put_first i.0) m i.2 in
      let first = operands_kept args fine (is_alone c) c h.0 i.0 i.1 in
      let rest = chains_kept args fine cs h.1 j.0 j.1 in
      subst (FineChains P N) (ok_same (made_both (λ x xs. x ∷ xs) i.0 j.0) m j.2)
      ((first.0, rest.0), notes_both N i.0.notes j.0.notes first.1 rest.1)

  -- What is pasted.

  token_kept : (x y : Hidden) → P x.tok → P y.tok → (r : Result Token PasteFault) → glue_of x.tok y.tok ≡ r → (m : Made Hidden)
      → token_pasted name x y r ≡ Ok m → AllNotes M m.notes → P m.value.tok × AllNotes N m.notes
  token_kept x y px py (Err f) is m e told = err_ok _ m e
  token_kept x y px py (Ok z) is m e told =
      let Q : Made Hidden → Type 0 = λ v. AllNotes M v.notes → P v.value.tok × AllNotes N v.notes in
      subst Q (ok_same (made (hidden (put_in name x.tok.gap z) (in_both x.hides y.hides)) (Pasted x.tok y.tok (put_in name x.tok.gap z) ∷ [])) m e)
      (λ here_told.
      let pz = rules.pastes name x.tok y.tok z here px py is here_told.0 in
      (pz, (rules.pasted name x.tok y.tok z px py pz is, tt))) told

  behind_kept : (x : Hidden) (xs ys : List Hidden) → AllHidden P (x ∷ xs) → AllHidden P ys → (m : Made (List Hidden))
      → pasted_behind name x xs ys ≡ Ok m → AllNotes M m.notes → Fine P N m
  behind_kept x [] [] gx gy m e told = subst (Fine P N) (ok_same (made (x ∷ []) []) m e) (gx, tt)
  behind_kept x [] (y ∷ ys) gx gy m e told =
      let i = onward_ok {A = Made Hidden} (token_pasted name x y (glue_of x.tok y.tok)) (λ z. Ok (made (z.value ∷ ys) z.notes)) m e in
      let Q : Made (List Hidden) → Type 0 = λ v. AllNotes M v.notes → Fine P N v in
      subst Q (ok_same (made (i.0.value ∷ ys) i.0.notes) m i.2) (λ all.
      let k = token_kept x y gx.0 gy.0 (glue_of x.tok y.tok) refl i.0 i.1 all in
      ((k.0, gy.1), k.1)) told
  behind_kept x (x2 ∷ xs) ys gx gy m e told =
      let i = onward_ok {A = Made (List Hidden)} (pasted_behind name x2 xs ys) (λ zs. Ok (made (x ∷ zs.value) zs.notes)) m e in
      let Q : Made (List Hidden) → Type 0 = λ v. AllNotes M v.notes → Fine P N v in
      subst Q (ok_same (made (x ∷ i.0.value) i.0.notes) m i.2) (λ all.
      let k = behind_kept x2 xs ys gx.1 gy i.0 i.1 all in
      ((gx.0, k.0), k.1)) told

  two_kept : (xs ys : List Hidden) → AllHidden P xs → AllHidden P ys → (m : Made (List Hidden)) → two_pasted name xs ys ≡ Ok m → AllNotes M m.notes → Fine P N m
  two_kept [] ys gx gy m e told = subst (Fine P N) (ok_same (made ys []) m e) (gy, tt)
  two_kept (x ∷ xs) ys gx gy m e told = behind_kept x xs ys gx gy m e told

  chain_kept : (xs : List Hidden) (yss : List (List Hidden)) → AllHidden P xs → AllLists P yss → (m : Made (List Hidden))
      → chain_pasted name xs yss ≡ Ok m → AllNotes M m.notes → Fine P N m
  chain_kept xs [] gx gy m e told = subst (Fine P N) (ok_same (made xs []) m e) (gx, tt)
  chain_kept xs (ys ∷ yss) gx gy m e told =
      let i = onward_ok {A = Made (List Hidden)} (two_pasted name xs ys) (λ z. onward (chain_pasted name z.value yss) (λ zs. Ok (made zs.value (z.notes ++ zs.notes)))) m e in
      let j = onward_ok {A = Made (List Hidden)} (chain_pasted name i.0.value yss) (λ zs. Ok (made zs.value (i.0.notes ++ zs.notes))) m i.2 in
      let Q : Made (List Hidden) → Type 0 = λ v. AllNotes M v.notes → Fine P N v in
      subst Q (ok_same (made j.0.value (i.0.notes ++ j.0.notes)) m j.2) (λ all.
      let each = notes_split M i.0.notes j.0.notes all in
      let first = two_kept xs ys gx gy.0 i.0 i.1 each.0 in
      let rest = chain_kept i.0.value yss first.0 gy.1 j.0 j.1 each.1 in
      (rest.0, notes_both N i.0.notes j.0.notes first.1 rest.1)) told

  pasted_kept : (cs : List (List (List Hidden))) → AllChains P cs → (m : Made (List Hidden)) → chains_pasted name cs ≡ Ok m → AllNotes M m.notes → Fine P N m
  pasted_kept [] g m e told = subst (Fine P N) (ok_same (made [] []) m e) (tt, tt)
  pasted_kept (c ∷ cs) g m e told =
      let i = onward_ok {A = Made (List Hidden)} (chain_pasted name [] c) (λ v. onward (chains_pasted name cs) (λ vs. Ok (made_both (λ x xs. x ++ xs) v vs))) m e in
      let j = onward_ok {A = Made (List Hidden)} (chains_pasted name cs) (λ vs. Ok (made_both (λ x xs. x ++ xs) i.0 vs)) m i.2 in
      let Q : Made (List Hidden) → Type 0 = λ v. AllNotes M v.notes → Fine P N v in
      subst Q (ok_same (made_both (λ x xs. x ++ xs) i.0 j.0) m j.2) (λ all.
      let each = notes_split M i.0.notes j.0.notes all in
      let first = chain_kept [] c tt g.0 i.0 i.1 each.0 in
      let rest = pasted_kept cs g.1 j.0 j.1 each.1 in
      (hidden_both P i.0.value j.0.value first.0 rest.0, notes_both N i.0.notes j.0.notes first.1 rest.1)) told

  pub result_kept : (args : Arguments) → FineArguments P args → (cs : List (List Part)) → ChainsHave (HasPutIn P name) cs → (m : Made (List Hidden))
      → result_of name args cs ≡ Ok m → AllNotes M m.notes → Fine P N m
  unfolding result_of
  result_kept args fine cs h m e told =
      let i = onward_ok {A = Made (List (List (List Hidden)))} (chains_made name args cs) (λ s. onward (chains_pasted name s.value) (λ v. Ok (made (with_gap name.gap v.value) (s.notes ++ v.notes)))) m e in
      let j = onward_ok {A = Made (List Hidden)} (chains_pasted name i.0.value) (λ v. Ok (made (with_gap name.gap v.value) (i.0.notes ++ v.notes))) m i.2 in
      let first = chains_kept args fine cs h i.0 i.1 in
      let Q : Made (List Hidden) → Type 0 = λ v. AllNotes M v.notes → Fine P N v in
      subst Q (ok_same (made (with_gap name.gap j.0.value) (i.0.notes ++ j.0.notes)) m j.2) (λ all.
      let each = notes_split M i.0.notes j.0.notes all in
      let rest = pasted_kept i.0.value first.0 j.0 j.1 each.1 in
      (gap_kept name.gap j.0.value rest.0, notes_both N i.0.notes j.0.notes first.1 rest.1)) told
