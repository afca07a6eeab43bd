-- A run splits at each mark of a list.
use Rattle.std.proofs.Common.{◌≡◌, ℕ, zero, suc, ◌+◌, Bool, true, false, List, [], ◌∷◌, ◌++◌, length, take, drop, codes, Some, None, Ok, refl, ap, sym, ◌∙◌, arith, append-nil}
use Rattle.std.specs.Prelude.{slice_get}
use Rattle.std.specs.Option.{option_map}
use Rattle.std.proofs.lemmas.List.{take-map, drop-map}
use Rattle.std.proofs.lemmas.Option.{none-some, same_Some, slice_get-map}
use Rattle.cs_base.specs.Token.{Token}
use Rattle.cs_base.proofs.ListLemmas.{drop_at, in_drop, in_take, take_at}
use Rattle.line_shape.specs.Signs.{is_name, is_sign, is_open, is_close, is_comma}
use Rattle.line_shape.proofs.SignLemmas.{sign-no_name, sign-no_sign}
use Rattle.macro_body.specs.declared.notes.Work.{Work}
use Rattle.macro_body.specs.Hides.{Hidden, hidden, toks_of, unhidden}
use Rattle.macro_body.specs.Macro.{Table}
use Rattle.macro_body.specs.Notes.{Note, Expanded, expanded, put_out}
use Rattle.macro_expand.specs.Expansion.{Setting, macro_of, whole}
use Rattle.macro_expand.specs.Laws.{is_callable, ends_callable}
use Rattle.macro_expand.proofs.PutOutLemmas.{no_macro as no_macro_of}
use Rattle.expansion_laws.specs.Arranging.{IsMark, AreDistinct}
use Rattle.expansion_laws.proofs.SplitLemmas.{expansion_splits}
use Rattle.expansion_laws.proofs.SectionLemmas.{sign_alone}

-- ---- places in lists

pub parts_at : {X : Type 0} (xs : List X) (k : ℕ) (x : X) → slice_get xs k ≡ Some x → xs ≡ take k xs ++ x ∷ drop (suc k) xs
parts_at [] k x is = absurd (none-some x is)
parts_at (y ∷ ys) zero x is = ap (λ (v : _). v ∷ ys) (same_Some y x is)
parts_at (y ∷ ys) (suc k) x is = ap (λ (l : List _). y ∷ l) (parts_at ys k x is)

pub length_at : {X : Type 0} (xs : List X) (k : ℕ) (x : X) → slice_get xs k ≡ Some x → length (take k xs) ≡ k
length_at [] k x is = absurd (none-some x is)
length_at (y ∷ ys) zero x is = refl
length_at (y ∷ ys) (suc k) x is = ap (λ (n : ℕ). suc n) (length_at ys k x is)

pub at_seam : {X : Type 0} (xs ys : List X) (x : X) → slice_get (xs ++ x ∷ ys) (length xs) ≡ Some x
at_seam [] ys x = refl
at_seam (y ∷ xs) ys x = at_seam xs ys x

pub take_seam : {X : Type 0} (xs ys : List X) → take (length xs) (xs ++ ys) ≡ xs
take_seam [] ys = refl
take_seam (x ∷ xs) ys = ap (λ (l : List _). x ∷ l) (take_seam xs ys)

pub drop_seam : {X : Type 0} (xs ys : List X) → drop (length xs) (xs ++ ys) ≡ ys
drop_seam [] ys = refl
drop_seam (x ∷ xs) ys = drop_seam xs ys

pub drop_past : {X : Type 0} (xs ys : List X) (x : X) → drop (suc (length xs)) (xs ++ x ∷ ys) ≡ ys
drop_past [] ys x = refl
drop_past (y ∷ xs) ys x = drop_past xs ys x

take_past : {X : Type 0} (xs ys : List X) (x : X) → take (suc (length xs)) (xs ++ x ∷ ys) ≡ xs ++ x ∷ []
take_past [] ys x = refl
take_past (y ∷ xs) ys x = ap (λ (l : List _). y ∷ l) (take_past xs ys x)

pub distinct_take : (n : ℕ) (run : List Token) → AreDistinct run → AreDistinct (take n run)
distinct_take n run d = λ i j t one two. d i j t (in_take n i run t one) (in_take n j run t two)

pub distinct_drop : (n : ℕ) (run : List Token) → AreDistinct run → AreDistinct (drop n run)
distinct_drop n run d = λ i j t one two.
    let same = d (n + i) (n + j) t (in_drop n i run t one) (in_drop n j run t two) in
    omega (arith, same)

-- ---- tokens with their hide sets

pub toks_unhidden : (ts : List Token) → toks_of (unhidden ts) ≡ ts
toks_unhidden [] = refl
toks_unhidden (t ∷ ts) = ap (λ (l : List Token). t ∷ l) (toks_unhidden ts)

-- a token of some is one of them with its hide set
pub hidden_at : (hs : List Hidden) (k : ℕ) (t : Token) → slice_get (toks_of hs) k ≡ Some t → (h : Hidden) × (slice_get hs k ≡ Some h) × (h.tok ≡ t)
hidden_at [] k t is = absurd (none-some t is)
hidden_at (h ∷ hs) zero t is = (h, refl, same_Some h.tok t is)
hidden_at (h ∷ hs) (suc k) t is = hidden_at hs k t is

-- ---- signs

pub open-no_name : (t : Token) → is_open t ≡ true → is_name t ≡ false
unfolding is_open
open-no_name t h = sign-no_name (codes "(") t h

pub close-no_open : (t : Token) → is_close t ≡ true → is_open t ≡ false
unfolding is_close is_open
close-no_open t h = sign-no_sign (codes ")") (codes "(") t h refl

pub comma-no_open : (t : Token) → is_comma t ≡ true → is_open t ≡ false
unfolding is_comma is_open
comma-no_open t h = sign-no_sign (codes ",") (codes "(") t h refl

pub ends_sign : (table : Table) (hs : List Hidden) (h : Hidden) → macro_of table h ≡ None → ends_callable table (hs ++ h ∷ []) ≡ false
ends_sign table [] h is = ap is_callable is
ends_sign table (x ∷ []) h is = ap is_callable is
ends_sign table (x ∷ y ∷ hs) h is = ends_sign table (y ∷ hs) h is

-- ---- a run splits at a mark

-- It falls into what stands before the mark, the mark, and what stands behind it.
pub record SplitAt (set : Setting) (before : ℕ) (run : List Token) (work : Work) (e : Expanded) (k m : ℕ) (mark : Token) : Type 0 where
  pub sign : Hidden
  pub x : Expanded
  pub z : Expanded
  pub same : sign.tok ≡ mark
  pub first : whole set 0 before (unhidden (take k run)) work ≡ Ok x
  pub signed : whole set 0 before (unhidden (take (suc k) run)) work ≡ Ok (expanded (x.toks ++ sign ∷ []) x.notes x.left)
  pub stays : whole set 0 (before + m) (unhidden (drop k run)) x.left ≡ Ok (put_out sign z)
  pub behind : whole set 0 (before + suc m) (unhidden (drop (suc k) run)) x.left ≡ Ok z
  pub x_toks : x.toks ≡ take m e.toks
  pub x_length : length x.toks ≡ m
  pub z_toks : z.toks ≡ drop (suc m) e.toks
  pub upto : x.toks ++ sign ∷ [] ≡ take (suc m) e.toks
  pub from : sign ∷ z.toks ≡ drop m e.toks
  pub toks : e.toks ≡ x.toks ++ sign ∷ z.toks
  pub notes : e.notes ≡ x.notes ++ z.notes
  pub left : e.left ≡ z.left
  pub no_name : is_name sign.tok ≡ false

unhidden_take : (n : ℕ) (ts : List Token) → take n (unhidden ts) ≡ unhidden (take n ts)
unhidden_take n ts = take-map (λ (t : Token). hidden t []) n ts

unhidden_drop : (n : ℕ) (ts : List Token) → drop n (unhidden ts) ≡ unhidden (drop n ts)
unhidden_drop n ts = drop-map (λ (t : Token). hidden t []) n ts

pub split_at : (set : Setting) (before : ℕ) (run : List Token) (work : Work) (e : Expanded) (k m : ℕ) (sign : Token → Bool) (mk : IsMark sign run (toks_of e.toks) k m)
    → ((t : Token) → sign t ≡ true → is_name t ≡ false) → AreDistinct run → whole set 0 before (unhidden run) work ≡ Ok e → SplitAt set before run work e k m mk.mark
split_at set before run work e k m sign mk lacks d is =
    let at = hidden_at e.toks m mk.mark mk.out_has in
    let t : Hidden = at.0 in
    let t_is : t.tok ≡ mk.mark = at.2 in
    let no_name : is_name t.tok ≡ false = ap is_name t_is ∙ lacks mk.mark mk.is_sign in
    let parts : e.toks ≡ take m e.toks ++ t ∷ drop (suc m) e.toks = parts_at e.toks m t at.1 in
    let s = expansion_splits set 0 before (unhidden run) work e (take m e.toks) t (drop (suc m) e.toks) is parts (ap (λ (v : Token). v.direct) t_is ∙ mk.direct) in
    let has : slice_get run (length s.xs) ≡ Some mk.mark =
    ap (λ (l : List Token). slice_get l (length s.xs)) (sym (toks_unhidden run) ∙ ap toks_of s.run)
    ∙ slice_get-map (λ (h : Hidden). h.tok) (s.xs ++ t ∷ s.ys) (length s.xs) ∙ ap (option_map (λ (h : Hidden). h.tok)) (at_seam s.xs s.ys t) ∙ ap (λ (v : Token). Some v) t_is in
    let long : length s.xs ≡ k = d (length s.xs) k mk.mark has mk.run_has in
    let x_long : length s.x.toks ≡ m = ap length s.toks ∙ length_at e.toks m t at.1 in
    let front : s.xs ≡ unhidden (take k run) = sym (take_seam s.xs (t ∷ s.ys)) ∙ ap (take (length s.xs)) (sym s.run) ∙ ap (λ (n : ℕ). take n (unhidden run)) long ∙ unhidden_take k run in
    let front2 : s.xs ++ t ∷ [] ≡ unhidden (take (suc k) run) = sym (take_past s.xs s.ys t) ∙ ap (take (suc (length s.xs))) (sym s.run) ∙ ap (λ (n : ℕ). take (suc n) (unhidden run)) long ∙ unhidden_take (suc k) run in
    let back : t ∷ s.ys ≡ unhidden (drop k run) = sym (drop_seam s.xs (t ∷ s.ys)) ∙ ap (drop (length s.xs)) (sym s.run) ∙ ap (λ (n : ℕ). drop n (unhidden run)) long ∙ unhidden_drop k run in
    let back2 : s.ys ≡ unhidden (drop (suc k) run) = sym (drop_past s.xs s.ys t) ∙ ap (drop (suc (length s.xs))) (sym s.run) ∙ ap (λ (n : ℕ). drop (suc n) (unhidden run)) long ∙ unhidden_drop (suc k) run in
    let alone = sign_alone set 0 (before + length s.x.toks) t s.x.left (no_macro_of set.table t no_name) in
    record {
      sign = t;
      x = s.x;
      z = s.z;
      same = t_is;
      first = ap (λ (l : List Hidden). whole set 0 before l work) (sym front) ∙ s.first;
      signed =
          ap (λ (l : List Hidden). whole set 0 before l work) (sym front2)
          ∙ s.composes [] (expanded (t ∷ []) [] s.x.left) alone
          ∙ ap (λ (l : List Note). Ok (expanded (s.x.toks ++ t ∷ []) l s.x.left)) (append-nil s.x.notes);
      stays = ap (λ (n : ℕ). whole set 0 (before + n) (unhidden (drop k run)) s.x.left) (sym x_long) ∙ ap (λ (l : List Hidden). whole set 0 (before + length s.x.toks) l s.x.left) (sym back) ∙ s.stays;
      behind = ap (λ (n : ℕ). whole set 0 (before + suc n) (unhidden (drop (suc k) run)) s.x.left) (sym x_long) ∙ ap (λ (l : List Hidden). whole set 0 (before + suc (length s.x.toks)) l s.x.left) (sym back2) ∙ s.behind;
      x_toks = s.toks;
      x_length = x_long;
      z_toks = s.more;
      upto = ap (λ (l : List Hidden). l ++ t ∷ []) s.toks ∙ sym (take_at e.toks m t at.1);
      from = ap (λ (l : List Hidden). t ∷ l) s.more ∙ sym (drop_at e.toks m t at.1);
      toks = ap (λ (v : Expanded). v.toks) s.all;
      notes = ap (λ (v : Expanded). v.notes) s.all;
      left = ap (λ (v : Expanded). v.left) s.all;
      no_name = no_name;
    }
