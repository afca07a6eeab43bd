-- What macros put in, where lines, white space before the first token, and places are left out.
use Rattle.std.proofs.Common.{◌≡◌, ℕ, zero, suc, ◌+◌, Bool, true, false, cond, nat_lt, List, [], ◌∷◌, ◌++◌, length, map, get_or, Option, Some, None, Result, Ok, Err, refl, ap, sym, ◌∙◌, arith}
use Rattle.std.specs.List.{flat_map}
use Rattle.std.proofs.lemmas.List.{length-map, map-append}
use Rattle.cs_base.specs.declared.positions.Pos.{Pos}
use Rattle.cs_base.specs.declared.tokens.Kind.{Kind}
use Rattle.cs_base.specs.declared.tokens.Kind.TheVariants.{Str}
use Rattle.cs_base.specs.Token.{Token, token}
use Rattle.cs_base.proofs.OptionLemmas.{ok_same as value_same}
use Rattle.macro_body.specs.Below.paste_origin.Pasting.{PasteFault, joined, pasted_as, glue_of}
use Rattle.lexer.specs.OneToken.{one_token_of}
use Rattle.lexer.specs.Places.{pos}
use Rattle.lexer.specs.Spelling.{is_plain_string_text}
use Rattle.lexer.specs.Characters.{double_quote}
use Rattle.macro_body.specs.Below.paste_origin.Strings.{NotAString, later_spelling, spellings_of, later_origins, all_origins, string_text, string_origins, string_token, stringize_of}
use Rattle.macro_body.specs.Hides.{Hidden, hidden, toks_of, in_both}
use Rattle.macro_body.specs.Bodies.{Part, Plain, Param, Quote, Paste, Rest}
use Rattle.macro_body.specs.Notes.{Fault, TooMuchWork, Note, Stringized, Pasted, onward}
use Rattle.macro_body.specs.Substitution.{Arguments, Made, made, made_both, put_in, moved_in, with_gap, argument_for, rest_tokens, tokens_for, part_cost, parts_cost, chains_cost, cost_of, is_alone, string_made, operand_made, operands_made, chains_made, token_pasted, pasted_behind, two_pasted, chain_pasted, chains_pasted, result_of}
use Rattle.expansion_laws.specs.Alike.{kept_origins, kept}
use Rattle.expansion_laws.specs.Alike as alike

-- ---- origins

later_places : (ts : List Token) → flat_map later_origins (map (alike.unlined false) ts) ≡ flat_map later_origins ts
later_places [] = refl
later_places (t ∷ ts) = ap (λ (l : List (Option Pos)). later_origins t ++ l) (later_places ts)

places_plain : (ts : List Token) → all_origins (map (alike.unlined false) ts) ≡ all_origins ts
places_plain [] = refl
places_plain (t ∷ ts) = rw (later_places ts) refl

string_places : (far : Bool) (us ts : List Token) → map (alike.unlined far) us ≡ map (alike.unlined far) ts → kept_origins far (string_origins us) ≡ kept_origins far (string_origins ts)
string_places true us ts e = refl
string_places false us ts e = ap (λ (l : List (Option Pos)). None ∷ l ++ None ∷ []) (sym (places_plain us) ∙ ap all_origins e ∙ places_plain ts)

kept_both : (far : Bool) (xs ys : List (Option Pos)) → kept_origins far xs ++ kept_origins far ys ≡ kept_origins far (xs ++ ys)
kept_both true xs ys = refl
kept_both false xs ys = refl

-- ---- results

-- what is made, with another value and plain notes, or none
abbrev pub mapped : (far : Bool) {A B : Type 0} → (A → B) → Result (Made A) Fault → Result (Made B) Fault
mapped far f (Ok m) = Ok (made (f m.value) (map (alike.plain_note far) m.notes))
mapped far f (Err x) = Err (TooMuchWork (pos 0 0))

-- what is made of the one is made of the other
pub mapped_ok : (far : Bool) {A B : Type 0} (f : A → B) (r : Result (Made A) Fault) (b : Made B) → mapped far f r ≡ Ok b
    → (m : Made A) × (r ≡ Ok m) × (f m.value ≡ b.value) × (map (alike.plain_note far) m.notes ≡ b.notes)
mapped_ok far f (Ok m) b e =
    let same = value_same {D = Fault} (made (f m.value) (map (alike.plain_note far) m.notes)) b e in
    (m, refl, ap (λ (v : Made _). v.value) same, ap (λ (v : Made _). v.notes) same)
mapped_ok far f (Err x) b e = absurd cc

module _ (far : Bool) where
  abbrev unlined : Token → Token
  unlined t = alike.unlined far t

  abbrev unlined_hidden : Hidden → Hidden
  unlined_hidden h = alike.unlined_hidden far h

  abbrev label : Bool → Token → Token
  label loose t = alike.label far loose t

  abbrev canon : Bool → List Hidden → List Hidden
  canon loose hs = alike.canon far loose hs

  abbrev plain_note : Note → Note
  plain_note n = alike.plain_note far n

  abbrev out : List Hidden → List Hidden
  out hs = map unlined_hidden hs

  abbrev pub unlined_lists : List (List Hidden) → List (List Hidden)
  unlined_lists ls = map (map unlined_hidden) ls

  -- tokens without lines, and the first without white space before it
  abbrev pub plain : List Hidden → List Hidden
  plain hs = canon true hs

  -- arguments without these labels
  abbrev pub plain_arguments : Arguments → Arguments
  plain_arguments args = record { raw = unlined_lists args.raw; full = map plain args.full }

  -- two results that are alike, and what follows them
  then_same : {A B A2 B2 : Type 0} (f : A → A2) (g : B → B2) (r r2 : Result (Made A) Fault) (k k2 : Made A → Result (Made B) Fault) → mapped far f r2 ≡ mapped far f r
      → ((v v2 : Made A) → f v2.value ≡ f v.value → map plain_note v2.notes ≡ map plain_note v.notes → mapped far g (k2 v2) ≡ mapped far g (k v))
      → mapped far g (onward r2 k2) ≡ mapped far g (onward r k)
  then_same f g (Err x) (Err y) k k2 e more = refl
  then_same f g (Err x) (Ok v2) k k2 e more = absurd cc
  then_same f g (Ok v) (Err y) k k2 e more = absurd cc
  then_same f g (Ok v) (Ok v2) k k2 e more =
      let same = value_same {D = Fault} (made (f v2.value) (map plain_note v2.notes)) (made (f v.value) (map plain_note v.notes)) e in
      more v v2 (ap (λ (m : Made _). m.value) same) (ap (λ (m : Made _). m.notes) same)

  notes_same : (xs ys us vs : List Note) → map plain_note xs ≡ map plain_note us → map plain_note ys ≡ map plain_note vs → map plain_note (xs ++ ys) ≡ map plain_note (us ++ vs)
  notes_same xs ys us vs h k =
      map-append plain_note xs ys ∙ ap (λ (l : List Note). l ++ map plain_note ys) h ∙ ap (λ (l : List Note). map plain_note us ++ l) k ∙ sym (map-append plain_note us vs)

  -- a value with notes
  made_same : {A B : Type 0} (f : A → B) (a a2 : A) (notes notes2 : List Note) → f a2 ≡ f a → map plain_note notes2 ≡ map plain_note notes
      → mapped far f (Ok (made a2 notes2)) ≡ mapped far f (Ok (made a notes))
  made_same f a a2 notes notes2 v n = ap (λ (x : _). Ok (made x (map plain_note notes2))) v ∙ ap (λ (l : List Note). Ok (made (f a) l)) n

  both_same : {A B C A2 B2 C2 : Type 0} (f : A → A2) (g : B → B2) (h : C → C2) (k : A → B → C) → ((a a2 : A) (b b2 : B) → f a2 ≡ f a → g b2 ≡ g b → h (k a2 b2) ≡ h (k a b))
      → (r r2 : Result (Made A) Fault) (s s2 : Result (Made B) Fault) → mapped far f r2 ≡ mapped far f r → mapped far g s2 ≡ mapped far g s
      → mapped far h (onward r2 (λ v. onward s2 (λ vs. Ok (made_both k v vs)))) ≡ mapped far h (onward r (λ v. onward s (λ vs. Ok (made_both k v vs))))
  both_same f g h k same r r2 s s2 e e2 =
      then_same f h r r2 (λ v. onward s (λ vs. Ok (made_both k v vs))) (λ v. onward s2 (λ vs. Ok (made_both k v vs))) e
      (λ v v2 x n. then_same g h s s2 (λ vs. Ok (made_both k v vs)) (λ vs. Ok (made_both k v2 vs)) e2
      (λ u u2 y m. made_same h (k v.value u.value) (k v2.value u2.value) (v.notes ++ u.notes) (v2.notes ++ u2.notes) (same v.value v2.value u.value u2.value x y)
      (notes_same v2.notes u2.notes v.notes u.notes n m)))

  -- ---- arguments

  at_lists : (f : List Hidden → List Hidden) → f [] ≡ [] → (ls : List (List Hidden)) (i : ℕ) → get_or (map f ls) i [] ≡ f (get_or ls i [])
  at_lists f none [] i = sym none
  at_lists f none (l ∷ ls) zero = refl
  at_lists f none (l ∷ ls) (suc i) = at_lists f none ls i

  at_same : (f : List Hidden → List Hidden) → f [] ≡ [] → (ls ls2 : List (List Hidden)) → map f ls2 ≡ map f ls → (i : ℕ) → f (get_or ls2 i []) ≡ f (get_or ls i [])
  at_same f none ls ls2 e i = sym (at_lists f none ls2 i) ∙ ap (λ (l : List (List Hidden)). get_or l i []) e ∙ at_lists f none ls i

  moved_lines : (hs : List Hidden) → map moved_in (map unlined_hidden hs) ≡ map unlined_hidden (map moved_in hs)
  moved_lines [] = refl
  moved_lines (h ∷ hs) = ap (λ (l : List Hidden). unlined_hidden (moved_in h) ∷ l) (moved_lines hs)

  raw_argument : (t : Token) (hs : List Hidden) → argument_for t (map unlined_hidden hs) ≡ map unlined_hidden (argument_for t hs)
  raw_argument t [] = refl
  raw_argument t (h ∷ hs) = ap (λ (l : List Hidden). hidden (record (unlined (moved_in h).tok) { gap = t.gap }) h.hides ∷ l) (moved_lines hs)

  full_argument : (t : Token) (hs : List Hidden) → argument_for t (plain hs) ≡ map unlined_hidden (argument_for t hs)
  full_argument t [] = refl
  full_argument t (h ∷ hs) = ap (λ (l : List Hidden). hidden (record (unlined (moved_in h).tok) { gap = t.gap }) h.hides ∷ l) (moved_lines hs)

  -- ---- strings

  toks_plain : (hs : List Hidden) → toks_of (map unlined_hidden hs) ≡ map unlined (toks_of hs)
  toks_plain [] = refl
  toks_plain (h ∷ hs) = ap (λ (l : List Token). unlined h.tok ∷ l) (toks_plain hs)

  later_texts : (ts : List Token) → flat_map later_spelling (map unlined ts) ≡ flat_map later_spelling ts
  later_texts [] = refl
  later_texts (t ∷ ts) = ap (λ (l : List ℕ). later_spelling t ++ l) (later_texts ts)

  texts_plain : (ts : List Token) → spellings_of (map unlined ts) ≡ spellings_of ts
  texts_plain [] = refl
  texts_plain (t ∷ ts) = rw (later_texts ts) refl

  abbrev glued : Result Token PasteFault → Result Token PasteFault
  glued (Ok z) = Ok (unlined z)
  glued (Err f) = Err f

  module _ (loose : Bool) (name name2 : Token) (names : label loose name2 ≡ label loose name) where
    string_same : (sign : Token) (us ts : List Token) → map unlined us ≡ map unlined ts
        → mapped far out (string_made name2 sign us (stringize_of us)) ≡ mapped far out (string_made name sign ts (stringize_of ts))
    unfolding stringize_of
    string_same sign us ts e =
        let text : string_text us ≡ string_text ts =
        ap (λ (l : List ℕ). double_quote ∷ l ++ double_quote ∷ []) (sym (texts_plain us) ∙ ap spellings_of e ∙ texts_plain ts) in
        ap (λ (l : List ℕ). mapped far out (string_made name2 sign us (cond (is_plain_string_text l) (Ok (string_token l (string_origins us))) (Err NotAString)))) text
        ∙ by (is_plain_string_text (string_text ts))
      where
        by : (b : Bool) → mapped far out (string_made name2 sign us (cond b (Ok (string_token (string_text ts) (string_origins us))) (Err NotAString)))
            ≡ mapped far out (string_made name sign ts (cond b (Ok (string_token (string_text ts) (string_origins ts))) (Err NotAString)))
        by false = refl
        by true =
            let step : List (Option Pos) → List Token → Token → Result (Made (List Hidden)) Fault = λ places toks n.
            Ok (made (hidden (token Str (string_text ts) places sign.gap n.at 0 false) [] ∷ []) (Stringized toks (token Str (string_text ts) places false (pos 0 0) 0 false) ∷ [])) in
            ap (λ (p : List (Option Pos)). step p (map unlined us) (label loose name2)) (string_places far us ts e)
            ∙ ap (λ (l : List Token). step (kept_origins far (string_origins ts)) l (label loose name2)) e
            ∙ ap (λ (n : Token). step (kept_origins far (string_origins ts)) (map unlined ts) n) names

    module _ (args args2 : Arguments) (alikes : plain_arguments args2 ≡ plain_arguments args) where
      raws : unlined_lists args2.raw ≡ unlined_lists args.raw
      raws = ap (λ (a : Arguments). a.raw) alikes

      fulls : map plain args2.full ≡ map plain args.full
      fulls = ap (λ (a : Arguments). a.full) alikes

      body_same : (t : Token) → out (hidden (put_in name2 t.gap t) [] ∷ []) ≡ out (hidden (put_in name t.gap t) [] ∷ [])
      body_same t = ap (λ (n : Token). hidden (record t { origins = kept_origins far t.origins; at = n.at; line = 0; direct = false }) [] ∷ []) names

      rest_same : (b : Bool) (t : Token) (hs2 hs : List Hidden) → out hs2 ≡ out hs → out (rest_tokens b name2 t hs2) ≡ out (rest_tokens b name t hs)
      rest_same true t hs2 hs same =
          ap (λ (l : List Hidden). l ++ out (map moved_in hs2)) (body_same t)
          ∙ ap (λ (l : List Hidden). out (hidden (put_in name t.gap t) [] ∷ []) ++ l) (sym (moved_lines hs2) ∙ ap (map moved_in) same ∙ moved_lines hs)
      rest_same false t hs2 hs same = refl

      raw_length : length args2.raw ≡ length args.raw
      raw_length = sym (length-map args2.raw (map unlined_hidden)) ∙ ap length raws ∙ length-map args.raw (map unlined_hidden)

      tokens_same : (lone : Bool) (p : Part) → out (tokens_for name2 args2 lone p) ≡ out (tokens_for name args lone p)
      tokens_same lone (Plain t) = body_same t
      tokens_same lone (Paste t) = body_same t
      tokens_same true (Param t i) =
          sym (full_argument t (get_or args2.full i [])) ∙ ap (argument_for t) (at_same plain refl args.full args2.full fulls i) ∙ full_argument t (get_or args.full i [])
      tokens_same false (Param t i) =
          sym (raw_argument t (get_or args2.raw i [])) ∙ ap (argument_for t) (at_same (map unlined_hidden) refl args.raw args2.raw raws i) ∙ raw_argument t (get_or args.raw i [])
      tokens_same lone (Quote t i) = refl
      tokens_same lone (Rest t i) =
          ap (λ (n : ℕ). out (rest_tokens (nat_lt i n) name2 t (get_or args2.raw i []))) raw_length
          ∙ rest_same (nat_lt i (length args.raw)) t (get_or args2.raw i []) (get_or args.raw i []) (at_same out refl args.raw args2.raw raws i)

      part_same : (lone : Bool) (p : Part) → part_cost name2 args2 lone p ≡ part_cost name args lone p
      part_same lone (Quote t i) = refl
      part_same lone (Plain t) = refl
      part_same lone (Paste t) = refl
      part_same lone (Param t i) =
          sym (length-map (tokens_for name2 args2 lone (Param t i)) unlined_hidden) ∙ ap length (tokens_same lone (Param t i)) ∙ length-map (tokens_for name args lone (Param t i)) unlined_hidden
      part_same lone (Rest t i) =
          sym (length-map (tokens_for name2 args2 lone (Rest t i)) unlined_hidden) ∙ ap length (tokens_same lone (Rest t i)) ∙ length-map (tokens_for name args lone (Rest t i)) unlined_hidden

      parts_same : (lone : Bool) (ps : List Part) → parts_cost name2 args2 lone ps ≡ parts_cost name args lone ps
      parts_same lone [] = refl
      parts_same lone (p ∷ ps) = omega (arith, part_same lone p, parts_same lone ps)

      costs_same : (cs : List (List Part)) → chains_cost name2 args2 cs ≡ chains_cost name args cs
      costs_same [] = refl
      costs_same (c ∷ cs) = omega (arith, parts_same (is_alone c) c, costs_same cs)

      operand_same : (lone : Bool) (p : Part) → mapped far out (operand_made name2 args2 lone p) ≡ mapped far out (operand_made name args lone p)
      operand_same lone (Plain t) = ap (λ (l : List Hidden). Ok (made l [])) (body_same t)
      operand_same lone (Paste t) = ap (λ (l : List Hidden). Ok (made l [])) (body_same t)
      operand_same true (Param t i) = ap (λ (l : List Hidden). Ok (made l [])) (tokens_same true (Param t i))
      operand_same false (Param t i) = ap (λ (l : List Hidden). Ok (made l [])) (tokens_same false (Param t i))
      operand_same lone (Quote t i) =
          string_same t (toks_of (get_or args2.raw i [])) (toks_of (get_or args.raw i []))
          (sym (toks_plain (get_or args2.raw i [])) ∙ ap toks_of (at_same out refl args.raw args2.raw raws i) ∙ toks_plain (get_or args.raw i []))
      operand_same lone (Rest t i) = ap (λ (l : List Hidden). Ok (made l [])) (tokens_same lone (Rest t i))

      cons_same : {A B : Type 0} (f : A → B) (a a2 : A) (b b2 : List A) → f a2 ≡ f a → map f b2 ≡ map f b → map f (a2 ∷ b2) ≡ map f (a ∷ b)
      cons_same f a a2 b b2 h k = ap (λ (x : _). x ∷ map f b2) h ∙ ap (λ (l : List _). f a ∷ l) k

      operands_same : (lone : Bool) (ps : List Part) → mapped far unlined_lists (operands_made name2 args2 lone ps) ≡ mapped far unlined_lists (operands_made name args lone ps)
      operands_same lone [] = refl
      operands_same lone (p ∷ ps) =
          both_same out unlined_lists unlined_lists (λ x xs. x ∷ xs) (cons_same out) (operand_made name args lone p) (operand_made name2 args2 lone p)
          (operands_made name args lone ps) (operands_made name2 args2 lone ps) (operand_same lone p) (operands_same lone ps)

      chains_same : (cs : List (List Part)) → mapped far (map unlined_lists) (chains_made name2 args2 cs) ≡ mapped far (map unlined_lists) (chains_made name args cs)
      chains_same [] = refl
      chains_same (c ∷ cs) =
          both_same unlined_lists (map unlined_lists) (map unlined_lists) (λ x xs. x ∷ xs) (cons_same unlined_lists) (operands_made name args (is_alone c) c) (operands_made name2 args2 (is_alone c) c)
          (chains_made name args cs) (chains_made name2 args2 cs) (operands_same (is_alone c) c) (chains_same cs)

    -- ---- pasting

    pasted_plain : (x y : Token) (k : Option Kind) → pasted_as (unlined x) (unlined y) k ≡ glued (pasted_as x y k)
    pasted_plain x y (Some kind) = ap (λ (l : List (Option Pos)). Ok (record (unlined (joined x y kind)) { origins = l })) (kept_both far x.origins y.origins)
    pasted_plain x y None = refl

    glue_plain : (x y : Token) → glue_of (unlined x) (unlined y) ≡ glued (glue_of x y)
    unfolding glue_of
    glue_plain x y = pasted_plain x y (one_token_of (x.text ++ y.text))

    glue_same : (x x2 y y2 : Token) → unlined x2 ≡ unlined x → unlined y2 ≡ unlined y → glued (glue_of x2 y2) ≡ glued (glue_of x y)
    glue_same x x2 y y2 h k = sym (glue_plain x2 y2) ∙ ap (λ (t : Token). glue_of t (unlined y2)) h ∙ ap (glue_of (unlined x)) k ∙ glue_plain x y

    token_same : (x x2 y y2 : Hidden) → unlined_hidden x2 ≡ unlined_hidden x → unlined_hidden y2 ≡ unlined_hidden y → (r r2 : Result Token PasteFault) → glued r2 ≡ glued r
        → mapped far unlined_hidden (token_pasted name2 x2 y2 r2) ≡ mapped far unlined_hidden (token_pasted name x y r)
    token_same x x2 y y2 h k (Err f) (Err g) e = refl
    token_same x x2 y y2 h k (Err f) (Ok z) e = absurd cc
    token_same x x2 y y2 h k (Ok z) (Err g) e = absurd cc
    token_same x x2 y y2 h k (Ok z) (Ok z2) e =
        let same : unlined z2 ≡ unlined z = value_same {D = PasteFault} (unlined z2) (unlined z) e in
        let makes : Token → Hidden → Hidden → Token → Result (Made Hidden) Fault = λ v a b n.
        let put : Hidden = hidden (record v { gap = a.tok.gap; at = n.at; direct = false }) (in_both a.hides b.hides) in
        Ok (made put (Pasted a.tok b.tok put.tok ∷ [])) in
        ap (λ (v : Token). makes v (unlined_hidden x2) (unlined_hidden y2) (label loose name2)) same
        ∙ ap (λ (a : Hidden). makes (unlined z) a (unlined_hidden y2) (label loose name2)) h
        ∙ ap (λ (b : Hidden). makes (unlined z) (unlined_hidden x) b (label loose name2)) k
        ∙ ap (λ (n : Token). makes (unlined z) (unlined_hidden x) (unlined_hidden y) n) names

    first_out : (x y : Hidden) (xs ys : List Hidden) → out (x ∷ xs) ≡ out (y ∷ ys) → unlined_hidden x ≡ unlined_hidden y
    first_out x y xs ys e = cc

    rest_out : (x y : Hidden) (xs ys : List Hidden) → out (x ∷ xs) ≡ out (y ∷ ys) → out xs ≡ out ys
    rest_out x y xs ys e = cc

    onto_out : (x y : Hidden) (xs ys : List Hidden) → unlined_hidden x ≡ unlined_hidden y → out xs ≡ out ys → out (x ∷ xs) ≡ out (y ∷ ys)
    onto_out x y xs ys h k = ap (λ (v : Hidden). v ∷ out xs) h ∙ ap (λ (l : List Hidden). unlined_hidden y ∷ l) k

    behind_same : (x x2 : Hidden) → unlined_hidden x2 ≡ unlined_hidden x → (xs xs2 : List Hidden) → out xs2 ≡ out xs → (ys ys2 : List Hidden) → out ys2 ≡ out ys
        → mapped far out (pasted_behind name2 x2 xs2 ys2) ≡ mapped far out (pasted_behind name x xs ys)
    behind_same x x2 h [] (y ∷ xs2) e ys ys2 k = absurd cc
    behind_same x x2 h (y ∷ xs) [] e ys ys2 k = absurd cc
    behind_same x x2 h [] [] e [] [] k = ap (λ (v : Hidden). Ok (made (v ∷ []) [])) h
    behind_same x x2 h [] [] e [] (y ∷ ys2) k = absurd cc
    behind_same x x2 h [] [] e (y ∷ ys) [] k = absurd cc
    behind_same x x2 h [] [] e (y ∷ ys) (y2 ∷ ys2) k =
        let first = first_out y2 y ys2 ys k in
        let rest = rest_out y2 y ys2 ys k in
        then_same unlined_hidden out (token_pasted name x y (glue_of x.tok y.tok)) (token_pasted name2 x2 y2 (glue_of x2.tok y2.tok)) (λ z. Ok (made (z.value ∷ ys) z.notes)) (λ z. Ok (made (z.value ∷ ys2) z.notes))
        (token_same x x2 y y2 h first (glue_of x.tok y.tok) (glue_of x2.tok y2.tok) (glue_same x.tok x2.tok y.tok y2.tok (ap (λ (v : Hidden). v.tok) h) (ap (λ (v : Hidden). v.tok) first)))
        (λ z z2 v n. made_same out (z.value ∷ ys) (z2.value ∷ ys2) z.notes z2.notes (onto_out z2.value z.value ys2 ys v rest) n)
    behind_same x x2 h (u ∷ xs) (u2 ∷ xs2) e ys ys2 k =
        then_same out out (pasted_behind name u xs ys) (pasted_behind name2 u2 xs2 ys2) (λ zs. Ok (made (x ∷ zs.value) zs.notes)) (λ zs. Ok (made (x2 ∷ zs.value) zs.notes))
        (behind_same u u2 (first_out u2 u xs2 xs e) xs xs2 (rest_out u2 u xs2 xs e) ys ys2 k)
        (λ z z2 v n. made_same out (x ∷ z.value) (x2 ∷ z2.value) z.notes z2.notes (onto_out x2 x z2.value z.value h v) n)

    two_same : (xs xs2 ys ys2 : List Hidden) → out xs2 ≡ out xs → out ys2 ≡ out ys → mapped far out (two_pasted name2 xs2 ys2) ≡ mapped far out (two_pasted name xs ys)
    two_same [] [] ys ys2 h k = ap (λ (l : List Hidden). Ok (made l [])) k
    two_same [] (x2 ∷ xs2) ys ys2 h k = absurd cc
    two_same (x ∷ xs) [] ys ys2 h k = absurd cc
    two_same (x ∷ xs) (x2 ∷ xs2) ys ys2 h k = behind_same x x2 (first_out x2 x xs2 xs h) xs xs2 (rest_out x2 x xs2 xs h) ys ys2 k

    first_lists : (a b : List Hidden) (ls ks : List (List Hidden)) → unlined_lists (a ∷ ls) ≡ unlined_lists (b ∷ ks) → out a ≡ out b
    first_lists a b ls ks e = cc

    rest_lists : (a b : List Hidden) (ls ks : List (List Hidden)) → unlined_lists (a ∷ ls) ≡ unlined_lists (b ∷ ks) → unlined_lists ls ≡ unlined_lists ks
    rest_lists a b ls ks e = cc

    chain_same : (yss yss2 : List (List Hidden)) → unlined_lists yss2 ≡ unlined_lists yss → (xs xs2 : List Hidden) → out xs2 ≡ out xs
        → mapped far out (chain_pasted name2 xs2 yss2) ≡ mapped far out (chain_pasted name xs yss)
    chain_same [] [] k xs xs2 h = ap (λ (l : List Hidden). Ok (made l [])) h
    chain_same [] (ys2 ∷ yss2) k xs xs2 h = absurd cc
    chain_same (ys ∷ yss) [] k xs xs2 h = absurd cc
    chain_same (ys ∷ yss) (ys2 ∷ yss2) k xs xs2 h =
        then_same out out (two_pasted name xs ys) (two_pasted name2 xs2 ys2) (λ z. onward (chain_pasted name z.value yss) (λ zs. Ok (made zs.value (z.notes ++ zs.notes))))
        (λ z. onward (chain_pasted name2 z.value yss2) (λ zs. Ok (made zs.value (z.notes ++ zs.notes)))) (two_same xs xs2 ys ys2 h (first_lists ys2 ys yss2 yss k))
        (λ z z2 v n. then_same out out (chain_pasted name z.value yss) (chain_pasted name2 z2.value yss2) (λ zs. Ok (made zs.value (z.notes ++ zs.notes))) (λ zs. Ok (made zs.value (z2.notes ++ zs.notes)))
        (chain_same yss yss2 (rest_lists ys2 ys yss2 yss k) z.value z2.value v)
        (λ u u2 v2 n2. made_same out u.value u2.value (z.notes ++ u.notes) (z2.notes ++ u2.notes) v2 (notes_same z2.notes u2.notes z.notes u.notes n n2)))

    first_chain : (a b : List (List Hidden)) (ls ks : List (List (List Hidden))) → map unlined_lists (a ∷ ls) ≡ map unlined_lists (b ∷ ks) → unlined_lists a ≡ unlined_lists b
    first_chain a b ls ks e = cc

    rest_chains : (a b : List (List Hidden)) (ls ks : List (List (List Hidden))) → map unlined_lists (a ∷ ls) ≡ map unlined_lists (b ∷ ks) → map unlined_lists ls ≡ map unlined_lists ks
    rest_chains a b ls ks e = cc

    append_out : (a a2 b b2 : List Hidden) → out a2 ≡ out a → out b2 ≡ out b → out (a2 ++ b2) ≡ out (a ++ b)
    append_out a a2 b b2 h k =
        map-append unlined_hidden a2 b2 ∙ ap (λ (l : List Hidden). l ++ out b2) h ∙ ap (λ (l : List Hidden). out a ++ l) k ∙ sym (map-append unlined_hidden a b)

    all_same : (cs cs2 : List (List (List Hidden))) → map unlined_lists cs2 ≡ map unlined_lists cs → mapped far out (chains_pasted name2 cs2) ≡ mapped far out (chains_pasted name cs)
    all_same [] [] e = refl
    all_same [] (c ∷ cs2) e = absurd cc
    all_same (c ∷ cs) [] e = absurd cc
    all_same (c ∷ cs) (c2 ∷ cs2) e =
        both_same out out out (λ x xs. x ++ xs) append_out (chain_pasted name [] c) (chain_pasted name2 [] c2) (chains_pasted name cs) (chains_pasted name2 cs2)
        (chain_same c c2 (first_chain c2 c cs2 cs e) [] [] refl) (all_same cs cs2 (rest_chains c2 c cs2 cs e))

    -- ---- results

    gap_same : (hs hs2 : List Hidden) → out hs2 ≡ out hs → canon loose (with_gap name2.gap hs2) ≡ canon loose (with_gap name.gap hs)
    gap_same [] [] e = refl
    gap_same [] (h2 ∷ hs2) e = absurd cc
    gap_same (h ∷ hs) [] e = absurd cc
    gap_same (h ∷ hs) (h2 ∷ hs2) e =
        ap (λ (n : Token). hidden (record (unlined h2.tok) { gap = n.gap }) h2.hides ∷ out hs2) names
        ∙ ap (λ (v : Hidden). hidden (record v.tok { gap = kept loose name.gap }) v.hides ∷ out hs2) (first_out h2 h hs2 hs e)
        ∙ ap (λ (l : List Hidden). hidden (record (unlined h.tok) { gap = kept loose name.gap }) h.hides ∷ l) (rest_out h2 h hs2 hs e)

    pub result_same : (args args2 : Arguments) (cs : List (List Part)) → plain_arguments args2 ≡ plain_arguments args
        → (mapped far (canon loose) (result_of name2 args2 cs) ≡ mapped far (canon loose) (result_of name args cs)) × (cost_of name2 args2 cs ≡ cost_of name args cs)
    unfolding result_of
    result_same args args2 cs e = (
      then_same (map unlined_lists) (canon loose) (chains_made name args cs) (chains_made name2 args2 cs)
          (λ s. onward (chains_pasted name s.value) (λ v. Ok (made (with_gap name.gap v.value) (s.notes ++ v.notes))))
          (λ s. onward (chains_pasted name2 s.value) (λ v. Ok (made (with_gap name2.gap v.value) (s.notes ++ v.notes)))) (chains_same args args2 e cs)
          (λ s s2 v n. then_same out (canon loose) (chains_pasted name s.value) (chains_pasted name2 s2.value) (λ v. Ok (made (with_gap name.gap v.value) (s.notes ++ v.notes)))
          (λ v. Ok (made (with_gap name2.gap v.value) (s2.notes ++ v.notes))) (all_same s.value s2.value v)
          (λ u u2 v2 n2. made_same (canon loose) (with_gap name.gap u.value) (with_gap name2.gap u2.value) (s.notes ++ u.notes) (s2.notes ++ u2.notes) (gap_same u.value u2.value v2)
          (notes_same s2.notes u2.notes s.notes u.notes n n2))),
      ap (λ (k : ℕ). 1 + k) (costs_same args args2 e cs),
    )
