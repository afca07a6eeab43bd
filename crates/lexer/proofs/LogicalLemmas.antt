-- Steps over the bytes of a file, as its logical text takes them.
use Rattle.std.proofs.Common.{◌≡◌, ℕ, zero, suc, ◌+◌, ◌-◌, ◌<◌, ◌≤◌, ◌≢◌, Bool, true, false, not, ◌||◌, ◌==◌, List, [], ◌∷◌, ◌++◌, append_assoc, length, get_or, take, drop, inl, inr, refl, sym, ap, ◌∙◌, arith, add-zero}
use Rattle.std.specs.List.{list_all}
use Rattle.std.proofs.lemmas.Bool.{cases_Bool, ne_eqb, false≢true, and_parts}
use Rattle.std.proofs.lemmas.List.{length-map, length-drop, drop-drop, drop-map, take_all}
use Rattle.lexer.specs.Logical.{Character, character, gone_length, logical_from, spelling}
use Rattle.lexer.specs.Characters.{backslash, carriage_return, cannot_go}
use Rattle.lexer.specs.Walk.{spelled, Passes, IsFirst}
use Rattle.lexer.proofs.GoneLemmas.{logical_from-empty as logical_from-nil}

-- bytes that go are passed over
pub logical_from-skip : (skip at : ℕ) (bs : List ℕ)
    → logical_from skip at bs ≡ logical_from 0 (at + skip) (drop skip bs)
unfolding logical_from
logical_from-skip zero at bs = rw add-zero refl
logical_from-skip (suc skip) at [] = refl
logical_from-skip (suc skip) at (c ∷ cs) =
    let on : at + suc skip ≡ at + 1 + skip = omega arith in rw on (logical_from-skip skip (at + 1) cs)

-- a byte that stays is a character
pub logical_from-stays : (at c : ℕ) (cs : List ℕ) → gone_length c cs ≡ 0
    → logical_from 0 at (c ∷ cs) ≡ character c at ∷ logical_from 0 (at + 1) cs
unfolding logical_from
logical_from-stays at c cs stays = rw stays refl

-- a byte that goes makes none
pub logical_from-goes : (at c n : ℕ) (cs : List ℕ) → gone_length c cs ≡ suc n
    → logical_from 0 at (c ∷ cs) ≡ logical_from 0 (at + suc n) (drop n cs)
unfolding logical_from
logical_from-goes at c n cs goes =
    let some : (suc n == 0) ≡ false = ne_eqb (suc n) 0 (λ e. omega arith) in
    let left : suc n - 1 ≡ n = omega arith in
    let on : at + suc n ≡ at + 1 + n = omega arith in
    rw (goes, some, left, on, logical_from-skip n (at + 1) cs) refl

-- spellings do not depend on where the bytes stand
pub spelling-anywhere : (skip a b : ℕ) (bs : List ℕ) → spelling (logical_from skip a bs) ≡ spelling (logical_from skip b bs)
unfolding logical_from
spelling-anywhere zero a b [] = refl
spelling-anywhere (suc skip) a b [] = refl
spelling-anywhere (suc skip) a b (c ∷ cs) = spelling-anywhere skip (a + 1) (b + 1) cs
spelling-anywhere zero a b (c ∷ cs) =
    elim (cases_Bool (gone_length c cs == 0)) [
      | inl stays ↦ rw stays (ap (λ (zs : List ℕ). c ∷ zs) (spelling-anywhere 0 (a + 1) (b + 1) cs))
      | inr goes ↦ rw goes (spelling-anywhere (gone_length c cs - 1) (a + 1) (b + 1) cs)
    ]

pub spelled-nil : spelled [] ≡ []
unfolding spelled logical_from
spelled-nil = refl

pub spelled-at : (at : ℕ) (bs : List ℕ) → spelling (logical_from 0 at bs) ≡ spelled bs
unfolding spelled
spelled-at at bs = spelling-anywhere 0 at 0 bs

pub length-spelled : (at : ℕ) (bs : List ℕ) → length (logical_from 0 at bs) ≡ length (spelled bs)
length-spelled at bs =
    sym (length-map (logical_from 0 at bs) (λ (c : Character). c.byte)) ∙ ap length (spelled-at at bs)

pub logical_from-within : (skip at : ℕ) (bs : List ℕ) → length (logical_from skip at bs) ≤ length bs
unfolding logical_from
logical_from-within zero at [] = omega arith
logical_from-within (suc skip) at [] = omega arith
logical_from-within (suc skip) at (c ∷ cs) = let rest = logical_from-within skip (at + 1) cs in omega arith
logical_from-within zero at (c ∷ cs) =
    elim (cases_Bool (gone_length c cs == 0)) [
      | inl stays ↦ let rest = logical_from-within 0 (at + 1) cs in rw stays (omega arith)
      | inr goes ↦ let rest = logical_from-within (gone_length c cs - 1) (at + 1) cs in rw goes (omega arith)
    ]

-- there are at most as many characters as bytes
pub spelled-within : (bs : List ℕ) → length (spelled bs) ≤ length bs
spelled-within bs =
    let same = length-spelled 0 bs in
    let few = logical_from-within 0 0 bs in
    omega arith

pub spelled-first : (here : List ℕ) (c : ℕ) (after : List ℕ) → IsFirst here c after → spelled here ≡ c ∷ spelled after
unfolding spelled
spelled-first here c after first =
    let whole = first.whole in
    rw (whole, logical_from-stays 0 c after first.stays)
    (ap (λ (zs : List ℕ). c ∷ zs) (spelling-anywhere 0 (0 + 1) 0 after))

-- Passing over characters.

pub Passes-none : (bs : List ℕ) → Passes 0 bs bs
Passes-none bs =
    let none : length bs - length bs ≡ 0 = omega arith in
    record {
      within = omega arith;
      suffix = rw none refl;
      same = λ at. rw (none, add-zero at) refl;
    }

pub Passes-more : (m n : ℕ) (a b c : List ℕ) → Passes m a b → Passes n b c → Passes (m + n) a c
Passes-more m n a b c p q =
    let inside = p.within in
    let deeper = q.within in
    let x = length a - length b in
    let y = length b - length c in
    let sum : length a - length c ≡ x + y = omega arith in
    record {
      within = omega arith;
      suffix = rw (sum, ← drop-drop y x a) (ap (λ (zs : List ℕ). drop y zs) p.suffix ∙ q.suffix);
      same = λ at.
          let on : at + (x + y) ≡ at + x + y = omega arith in
          rw (sum, ← drop-drop n m (logical_from 0 at a), on)
          (ap (λ (zs : List Character). drop n zs) (p.same at) ∙ q.same (at + x));
    }

-- behind the bytes that go
pub Passes-gone : (c n : ℕ) (cs : List ℕ) → gone_length c cs ≡ suc n → n ≤ length cs → Passes 0 (c ∷ cs) (drop n cs)
Passes-gone c n cs goes within =
    let left = length-drop n cs in
    let passed : length (c ∷ cs) - length (drop n cs) ≡ suc n = omega arith in
    record {
      within = omega arith;
      suffix = rw passed refl;
      same = λ at. rw passed (logical_from-goes at c n cs goes);
    }

-- behind a character
pub Passes-first : (here : List ℕ) (c : ℕ) (after : List ℕ) → IsFirst here c after → Passes 1 here after
Passes-first here c after first =
    let whole = first.whole in
    let one : length (c ∷ after) - length after ≡ 1 = omega arith in
    rw whole (record {
      within = omega arith;
      suffix = rw one refl;
      same = λ at. rw (one, logical_from-stays at c after first.stays) refl;
    })

drop-none : (n : ℕ) → drop {A = Character} n [] ≡ []
drop-none zero = refl
drop-none (suc n) = refl

-- where no character is left, none is behind more of them
pub Passes-all : (m n : ℕ) (a b : List ℕ) → m ≤ n → Passes m a b → Passes 0 b [] → Passes n a b
Passes-all m n a b more p end =
    let on : n ≡ m + (n - m) = omega arith in
    record {
      within = p.within;
      suffix = p.suffix;
      same = λ at.
          let line = logical_from 0 at a in
          let to = at + (length a - length b) in
          let empty : logical_from 0 to b ≡ [] = end.same to ∙ logical_from-nil 0 (to + (length b - 0)) in
          let none : drop m line ≡ [] = p.same at ∙ empty in
          ap (λ k. drop k line) on ∙ sym (drop-drop (n - m) m line) ∙ ap (λ (zs : List Character). drop (n - m) zs) none
          ∙ drop-none (n - m) ∙ sym empty;
    }

pub spelled-passes : (n : ℕ) (bs left : List ℕ) → Passes n bs left → drop n (spelled bs) ≡ spelled left
unfolding spelled
spelled-passes n bs left p =
    drop-map (λ (c : Character). c.byte) n (logical_from 0 0 bs) ∙ ap spelling (p.same 0) ∙ spelling-anywhere 0 _ 0 left

-- behind the bytes that go in front of what is left
pub Passes-step : (bs : List ℕ) (c g : ℕ) (cs : List ℕ) → gone_length c cs ≡ g → g ≢ 0 → g ≤ suc (length cs)
    → Passes 0 bs (c ∷ cs) → Passes 0 bs (drop g (c ∷ cs))
Passes-step bs c zero cs goes some within p = absurd (some refl)
Passes-step bs c (suc n) cs goes some within p =
    Passes-more 0 0 bs (c ∷ cs) (drop n cs) p (Passes-gone c n cs goes (omega arith))

-- the first character of what is left
pub spelled-next : (bs here : List ℕ) (c : ℕ) (after : List ℕ) → Passes 0 bs here → IsFirst here c after
    → spelled bs ≡ c ∷ spelled after
spelled-next bs here c after p first = spelled-passes 0 bs here p ∙ spelled-first here c after first

-- no character is left
pub spelled-end : (bs : List ℕ) → Passes 0 bs [] → spelled bs ≡ []
spelled-end bs p = spelled-passes 0 bs [] p ∙ spelled-nil

-- behind the first character of what is left
pub Passes-next : (bs here : List ℕ) (c : ℕ) (after : List ℕ) → Passes 0 bs here → IsFirst here c after → Passes 1 bs after
Passes-next bs here c after p first = Passes-more 0 1 bs here after p (Passes-first here c after first)

-- one character more of a spelling
pub take-more : (text line more whole : List ℕ) (n k c : ℕ) → k < n → line ≡ c ∷ more
    → text ++ take (n - k) line ≡ whole → (text ++ (c ∷ [])) ++ take (n - (k + 1)) more ≡ whole
take-more text line more whole n k c within is so =
    let left : n - k ≡ suc (n - (k + 1)) = omega arith in
    rw (append_assoc text (c ∷ []) (take (n - (k + 1)) more)) (rw (is, left) at so)

-- the bytes behind the first, as a pattern on a slice gives them
after-first : (c : ℕ) (cs : List ℕ) → take (length (c ∷ cs) - 1) (drop 1 (c ∷ cs)) ≡ cs
after-first c cs =
    let left : suc (length cs) - 1 ≡ length cs = omega arith in
    rw left (take_all (length cs) cs (omega arith))

pub Passes-step-slice : (bs rest : List ℕ) (g : ℕ) → 1 ≤ length rest
    → g ≡ gone_length (get_or rest 0 0) (take (length rest - 1) (drop 1 rest)) → g ≢ 0
    → g ≤ length (take (length rest - 1) (drop 1 rest)) + 1 → Passes 0 bs rest → Passes 0 bs (drop g rest)
Passes-step-slice bs [] g some is goes within p = absurd (omega arith)
Passes-step-slice bs (c ∷ cs) g some is goes within p =
    let first : gone_length c cs ≡ g = sym (rw (after-first c cs) at is) in
    let bound : g ≤ length cs + 1 = rw (after-first c cs) at within in
    Passes-step bs c g cs first goes (omega arith) p

-- ---- Bytes that cannot go

cannot-go : (c : ℕ) (cs : List ℕ) → cannot_go c ≡ true → gone_length c cs ≡ 0
unfolding gone_length
cannot-go c cs here = by (c == backslash) (c == carriage_return) refl refl here
  where
    by : (x y : Bool) → (c == backslash) ≡ x → (c == carriage_return) ≡ y → not (x || y) ≡ true → gone_length c cs ≡ 0
    by true y is also here = absurd (false≢true here)
    by false true is also here = absurd (false≢true here)
    by false false is also here = rw (is, also) refl

pub plain-spelled : (n : ℕ) (bs : List ℕ) → n ≤ length bs → list_all cannot_go (take n bs) ≡ true → take n bs ≡ take n (spelled bs)
plain-spelled zero bs within all = refl
plain-spelled (suc n) [] within all = absurd (omega (arith, within))
plain-spelled (suc n) (c ∷ cs) within all =
    let both = and_parts (cannot_go c) (list_all cannot_go (take n cs)) all in
    let first : IsFirst (c ∷ cs) c cs = record { whole = refl; stays = cannot-go c cs both.0 } in
    ap (λ x. c ∷ x) (plain-spelled n cs (omega (arith, within)) both.1) ∙ ap (take (suc n)) (sym (spelled-first (c ∷ cs) c cs first))
