-- Lists of tokens that come from somewhere, as the program changes them.
use Rattle.std.proofs.Common.{◌≡◌, ℕ, zero, suc, ◌+◌, ◌<◌, ◌≤◌, ◌^◌, ◌&&◌, Bool, true, nat_lt, List, [], ◌∷◌, ◌++◌, length, map, Option, Some, None, option_to_list, IsTrue, refl, ap, sym, subst, ◌∙◌, arith, length-append}
use Rattle.std.specs.List.{list_all}
use Rattle.std.specs.Option.{IfSome}
use Rattle.std.proofs.lemmas.Bool.{and_parts, and_from, ltb-true, lt-ltb}
use Rattle.std.proofs.lemmas.List.Folds.{list_all-append, list_all-map}
use Rattle.cs_base.specs.Token.{Token}
use Rattle.macro_body.specs.Hides.{Hidden, hidden, hide_more, unhidden}
use Rattle.macro_expand.specs.Expansion.{one_more}
use Rattle.macro_body.specs.Sound.{is_traced, is_low, is_sound, all_sound, is_argument, are_fitting}
use Rattle.macro_expand.specs.Going.{before_behind}

-- two lists, one behind the other
both_sound : {X : Type 0} (p : X → Bool) (xs ys : List X) → list_all p xs ≡ true → list_all p ys ≡ true → list_all p (xs ++ ys) ≡ true
both_sound p xs ys h k = list_all-append p xs ys ∙ and_from (list_all p xs) (list_all p ys) h k

pub put_sound : (names : List (List ℕ)) (toks rest new : List Hidden) → new ≡ map (hide_more names) toks ++ rest → all_sound toks ≡ true → all_sound rest ≡ true → all_sound new ≡ true
put_sound names toks rest new is h k =
    ap all_sound is ∙ both_sound is_sound (map (hide_more names) toks) rest (list_all-map is_sound (hide_more names) toks ∙ h) k

pub out_sound : (out out2 : List Hidden) (stayed : Option Hidden) → out2 ≡ out ++ option_to_list stayed → all_sound out ≡ true → IfSome stayed (λ t. IsTrue (is_sound t)) → all_sound out2 ≡ true
out_sound out out2 None is h k = ap all_sound is ∙ both_sound is_sound out [] h refl
out_sound out out2 (Some t) is h k = ap all_sound is ∙ both_sound is_sound out (t ∷ []) h (and_from (is_sound t) true k refl)

pub lists_sound : (lists lists2 : List (List Hidden)) (toks : List Hidden) → lists2 ≡ lists ++ toks ∷ [] → list_all all_sound lists ≡ true → all_sound toks ≡ true → list_all all_sound lists2 ≡ true
lists_sound lists lists2 toks is h k = ap (list_all all_sound) is ∙ both_sound all_sound lists (toks ∷ []) h (and_from (all_sound toks) true k refl)

pub run_sound : (run : List Token) (toks rest : List Hidden) → rest ≡ toks → toks ≡ unhidden run → list_all (λ t. is_traced t && is_low t) run ≡ true → all_sound rest ≡ true
run_sound run toks rest is is2 h = ap all_sound (is ∙ is2) ∙ list_all-map is_sound (λ t. hidden t []) run ∙ h

-- arguments that can be expanded are short enough for `#`
pub fitting_arguments : (n : ℕ) (lists : List (List Hidden)) → are_fitting n lists ≡ true → list_all is_argument lists ≡ true
fitting_arguments n [] h = refl
fitting_arguments n (a ∷ rest) h =
    let p = and_parts (all_sound a && nat_lt (n + length a) (2 ^ 32)) (are_fitting n rest) h in
    let q = and_parts (all_sound a) (nat_lt (n + length a) (2 ^ 32)) p.0 in
    let few = ltb-true (n + length a) (2 ^ 32) q.1 in
    and_from (is_argument a) (list_all is_argument rest)
    (and_from (all_sound a) (nat_lt (length a) (2 ^ 32)) q.0 (lt-ltb (length a) (2 ^ 32) (omega arith)))
    (fitting_arguments n rest p.1)

before_behind-le : (stayed : Option Hidden) (depth before : ℕ) → before_behind stayed depth before ≤ before + 1
before_behind-le None depth before = omega arith
before_behind-le (Some t) depth before = one_more-le depth before
  where
    one_more-le : (depth before : ℕ) → one_more depth before ≤ before + 1
    one_more-le zero before = omega arith
    one_more-le (suc depth) before = omega arith

-- a token further, the counts still fit
pub turn_fits : (stayed : Option Hidden) (depth before before2 work work2 : ℕ) (first : Hidden) (ts rest rest2 : List Hidden)
    → before2 ≡ before_behind stayed depth before → ts ≡ first ∷ rest → work2 + length rest2 ≤ work + length rest
    → before + work + length ts < 2 ^ 32 → before2 + work2 + length rest2 < 2 ^ 32
turn_fits stayed depth before before2 work work2 first ts rest rest2 is split shorter fits =
    let le = before_behind-le stayed depth before in
    let len = ap length split in
    omega (arith, le, len)

put_out-le : (out : List Hidden) (stayed : Option Hidden) → length (out ++ option_to_list stayed) ≤ length out + 1
put_out-le out None = let len = length-append out [] in omega (arith, len)
put_out-le out (Some t) = let len = length-append out (t ∷ []) in omega (arith, len)

-- a token further, what is put out and what is left are no more than before
pub turn_few : (stayed : Option Hidden) (work work2 n : ℕ) (first : Hidden) (ts rest rest2 out out2 : List Hidden)
    → out2 ≡ out ++ option_to_list stayed → ts ≡ first ∷ rest → work2 + length rest2 ≤ work + length rest
    → length out + work + length ts ≤ n → length out2 + work2 + length rest2 ≤ n
turn_few stayed work work2 n first ts rest rest2 out out2 pushed split shorter few =
    let put : length out2 ≤ length out + 1 = subst (λ (xs : List Hidden). length xs ≤ length out + 1) (sym pushed) (put_out-le out stayed) in
    let len = ap length split in
    omega (arith, put, len)
