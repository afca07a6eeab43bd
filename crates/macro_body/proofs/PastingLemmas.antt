-- Pasted tokens, and what is kept of what happened, step by step.
use Rattle.std.proofs.Common.{◌≡◌, ℕ, zero, suc, ◌<◌, ◌&&◌, true, false, List, [], ◌∷◌, ◌++◌, length, take, Option, Some, None, Result, Ok, Err, refl, ap, sym, subst, ◌∙◌, arith}
use Rattle.std.specs.Prelude.{IfSome, is_some, slice_get}
use Rattle.std.specs.Option.{option_and_then}
use Rattle.std.specs.List.{list_all}
use Rattle.cs_base.specs.Answer.{result_map_err}
use Rattle.cs_base.specs.Token.{Token}
use Rattle.paste_origin.specs.Pasting.{PasteFault}
use Rattle.macro_body.specs.Hides.{Hidden, hidden, in_both}
use Rattle.macro_body.specs.Notes.{Fault, NotOneToken, Note, Pasted, onward}
use Rattle.macro_body.specs.Substitution.{Made, made, put_in, token_pasted, pasted_behind, two_pasted, chain_pasted, chains_pasted}
use Rattle.macro_body.specs.Kept.{Kept, kept_with, made_kept}
use Rattle.macro_body.proofs.ResultLemmas.{ok_same, err_ok}
use Rattle.macro_body.proofs.KeptLemmas.{kept_with-append}
use Rattle.macro_body.proofs.MakingLemmas.{behind, behind-appended, made_kept-fault}

-- two tokens are pasted
pub token-is : (name : Token) (x y : Hidden) (g : Result Token PasteFault) (t z : Token) (hides : List (List ℕ)) (kept kept2 : Kept) (v : Hidden)
    → result_map_err (λ _. NotOneToken name.at) g ≡ Ok t → z ≡ put_in name x.tok.gap t → hides ≡ in_both x.hides y.hides → v ≡ hidden z hides
    → kept2 ≡ kept_with kept (Pasted x.tok y.tok z ∷ []) → made_kept kept (token_pasted name x y g) ≡ Ok (v, kept2)
token-is name x y (Err fault) t z hides kept kept2 v e is both value notes = err_ok (NotOneToken name.at) t e
token-is name x y (Ok g) t z hides kept kept2 v e is both value notes =
    let whole : Token → List (List ℕ) → Result (Hidden × Kept) Fault = λ w hs. Ok (hidden w hs, kept_with kept (Pasted x.tok y.tok w ∷ [])) in
    ap (λ w. whole (put_in name x.tok.gap w) (in_both x.hides y.hides)) (ok_same g t e)
    ∙ ap (λ w. whole w (in_both x.hides y.hides)) (sym is) ∙ ap (λ hs. whole z hs) (sym both)
    ∙ ap (λ h. Ok (h, kept_with kept (Pasted x.tok y.tok z ∷ []))) (sym value) ∙ ap (λ k. Ok (v, k)) (sym notes)

-- the last token of the left operand is pasted, those before it stay
abbrev with_front : List Hidden → Made (List Hidden) → Result (Made (List Hidden)) Fault
with_front front z = Ok (made (front ++ z.value) z.notes)

with_front-nil : (m : Result (Made (List Hidden)) Fault) → m ≡ onward m (with_front [])
with_front-nil (Ok m) = refl
with_front-nil (Err fault) = refl

with_front-more : (f : Hidden) (front : List Hidden) (m : Result (Made (List Hidden)) Fault)
    → onward (onward m (with_front front)) (λ zs. Ok (made (f ∷ zs.value) zs.notes)) ≡ onward m (with_front (f ∷ front))
with_front-more f front (Ok m) = refl
with_front-more f front (Err fault) = refl

pasted-last : (name : Token) (f : Hidden) (front : List Hidden) (x : Hidden) (ys : List Hidden)
    → pasted_behind name f (front ++ x ∷ []) ys ≡ onward (pasted_behind name x [] ys) (with_front (f ∷ front))
pasted-last name f [] x ys = ap (λ m. onward m (λ zs. Ok (made (f ∷ zs.value) zs.notes))) (with_front-nil (pasted_behind name x [] ys)) ∙ with_front-more f [] (pasted_behind name x [] ys)
pasted-last name f (g ∷ front) x ys =
    ap (λ m. onward m (λ zs. Ok (made (f ∷ zs.value) zs.notes))) (pasted-last name g front x ys) ∙ with_front-more f (g ∷ front) (pasted_behind name x [] ys)

two-last : (name : Token) (front : List Hidden) (x : Hidden) (ys : List Hidden)
    → two_pasted name (front ++ x ∷ []) ys ≡ onward (pasted_behind name x [] ys) (with_front front)
two-last name [] x ys = with_front-nil (pasted_behind name x [] ys)
two-last name (f ∷ front) x ys = pasted-last name f front x ys

front-is : (front : List Hidden) (m : Result (Made (List Hidden)) Fault) (kept kept2 : Kept) (zs new : List Hidden) → made_kept kept m ≡ Ok (zs, kept2)
    → new ≡ front ++ zs → made_kept kept (onward m (with_front front)) ≡ Ok (new, kept2)
front-is front (Err fault) kept kept2 zs new e is = err_ok fault (zs, kept2) e
front-is front (Ok m) kept kept2 zs new e is =
    let P : List Hidden × Kept → Type 0 = λ pair. ◌≡◌ {A = Result (List Hidden × Kept) Fault} (Ok (front ++ m.value, kept_with kept m.notes)) (Ok (front ++ pair.0, pair.1)) in
    subst P (ok_same (m.value, kept_with kept m.notes) (zs, kept2) e) refl ∙ ap (λ l. Ok (l, kept2)) (sym is)

pub two-is : (name : Token) (left front : List Hidden) (x : Hidden) (ys zs new : List Hidden) (kept kept2 : Kept) → left ≡ front ++ x ∷ []
    → made_kept kept (pasted_behind name x [] ys) ≡ Ok (zs, kept2) → new ≡ front ++ zs → made_kept kept (two_pasted name left ys) ≡ Ok (new, kept2)
two-is name left front x ys zs new kept kept2 whole e is =
    ap (λ l. made_kept kept (two_pasted name l ys)) whole ∙ ap (made_kept kept) (two-last name front x ys)
    ∙ front-is front (pasted_behind name x [] ys) kept kept2 zs new e is

pub two-fault : (name : Token) (left front : List Hidden) (x : Hidden) (ys : List Hidden) (kept : Kept) (fault : Option Fault) → left ≡ front ++ x ∷ []
    → IfSome fault (λ f. made_kept kept (pasted_behind name x [] ys) ≡ Err f) → IfSome fault (λ f. made_kept kept (two_pasted name left ys) ≡ Err f)
two-fault name left front x ys kept None whole e = tt
two-fault name left front x ys kept (Some fault) whole e =
    ap (λ l. made_kept kept (two_pasted name l ys)) whole ∙ ap (made_kept kept) (two-last name front x ys)
    ∙ ap (λ m. made_kept kept (onward m (with_front front))) (made_kept-fault kept (pasted_behind name x [] ys) fault e)

-- a chain goes on with what is pasted so far
pub chain-step : (name : Token) (kept kept2 : Kept) (xs ys z : List Hidden) (yss : List (List Hidden)) → made_kept kept (two_pasted name xs ys) ≡ Ok (z, kept2)
    → made_kept kept (chain_pasted name xs (ys ∷ yss)) ≡ made_kept kept2 (chain_pasted name z yss)
chain-step name kept kept2 xs ys z yss e = by (two_pasted name xs ys) e
  where
    next : Made (List Hidden) → Result (Made (List Hidden)) Fault
    next m = onward (chain_pasted name m.value yss) (λ zs. Ok (made zs.value (m.notes ++ zs.notes)))

    rest : (notes : List Note) (r : Result (Made (List Hidden)) Fault)
        → made_kept kept (onward r (λ zs. Ok (made zs.value (notes ++ zs.notes)))) ≡ made_kept (kept_with kept notes) r
    rest notes (Ok zs) = ap (λ k. Ok (zs.value, k)) (kept_with-append kept notes zs.notes)
    rest notes (Err fault) = refl

    by : (m : Result (Made (List Hidden)) Fault) → made_kept kept m ≡ Ok (z, kept2)
        → made_kept kept (onward m (λ m. onward (chain_pasted name m.value yss) (λ zs. Ok (made zs.value (m.notes ++ zs.notes))))) ≡ made_kept kept2 (chain_pasted name z yss)
    by (Err fault) is = err_ok fault (z, kept2) is
    by (Ok m) is =
        let P : List Hidden × Kept → Type 0 = λ pair.
        made_kept kept (onward (chain_pasted name m.value yss) (λ zs. Ok (made zs.value (m.notes ++ zs.notes)))) ≡ made_kept pair.1 (chain_pasted name pair.0 yss) in
        subst P (ok_same (m.value, kept_with kept m.notes) (z, kept2) is) (rest m.notes (chain_pasted name m.value yss))

-- the chains, from one on
pub chains-pasted : (name : Token) (out out2 : List Hidden) (kept kept2 : Kept) (c : List (List Hidden)) (cs : List (List (List Hidden))) (v : List Hidden)
    → made_kept kept (chain_pasted name [] c) ≡ Ok (v, kept2) → out2 ≡ out ++ v
    → behind out kept (chains_pasted name (c ∷ cs)) ≡ behind out2 kept2 (chains_pasted name cs)
chains-pasted name out out2 kept kept2 c cs v e new =
    behind-appended out kept kept2 (chain_pasted name [] c) (chains_pasted name cs) v e ∙ ap (λ o. behind o kept2 (chains_pasted name cs)) (sym new)

-- a character without an origin
pub untraced : {X : Type 0} (origins : List (Option X)) (k : ℕ) → k < length origins → is_some (option_and_then (λ o. o) (slice_get origins k)) ≡ false
    → list_all is_some origins ≡ false
untraced [] k within none = absurd (omega arith)
untraced (o ∷ os) zero within none = ap (λ b. b && list_all is_some os) none
untraced (Some o ∷ os) (suc k) within none = untraced os k (omega arith) none
untraced (None ∷ os) (suc k) within none = refl

-- one more character with an origin
pub traced-more : {X : Type 0} (origins : List (Option X)) (k : ℕ) → k < length origins → is_some (option_and_then (λ o. o) (slice_get origins k)) ≡ true
    → list_all is_some (take k origins) ≡ true → list_all is_some (take (suc k) origins) ≡ true
traced-more [] k within some all = absurd (omega arith)
traced-more (o ∷ os) zero within some all = ap (λ b. b && true) some
traced-more (Some o ∷ os) (suc k) within some all = traced-more os k (omega arith) some all
traced-more (None ∷ os) (suc k) within some all = all
