-- Tokens that are spelled as their kind says stay so when they are pasted.
use Rattle.std.proofs.Common.{◌≡◌, ℕ, zero, suc, ◌+◌, ◌-◌, ◌≤◌, ◌==◌, true, false, not, List, [], ◌∷◌, ◌++◌, length, take, drop, Some, None, is_some, ◌⊎◌, inl, inr, refl, sym, ap, ◌∙◌, subst, arith, length-append}
use Rattle.std.specs.Prelude.{codes}
use Rattle.std.proofs.lemmas.Bool.{cases_Bool, cases_lt, eqb-true, and_parts}
use Rattle.std.proofs.lemmas.Bool.Decides.{nat_tests}
use Rattle.std.proofs.Math.Seq.{take-append_seam}
use Rattle.cs_base.specs.declared.tokens.Kind.{Kind}
use Rattle.cs_base.proofs.BoolLemmas.{not_both as clash}
use Rattle.lexer.specs.Characters.{carriage_return, backslash, less_than, slash, star, capital_l, is_white, is_quote, begins}
use Rattle.lexer.specs.Spelling.{kind_of}
use Rattle.lexer.specs.Logical.{logical_from, logical_of, gone_length, spelling}
use Rattle.lexer.specs.Tokens.{piece_of, found_from, found_of}
use Rattle.lexer.specs.OneToken.{one_token_of}
use Rattle.lexer.proofs.LogicalLemmas.{logical_from-stays}
use Rattle.expansion_laws.specs.Spelled.{fits}
use Rattle.expansion_laws.proofs.FrontLemmas.{begins_token, OneFront, is_dark, stays, logical_behind, logical_plain, one_front}
use Rattle.expansion_laws.proofs.BeginLemmas.{quote_token, begins_each, each_begins, begins_each-dark, quote_slash}
use Rattle.expansion_laws.proofs.TextKindLemmas.{quote_fits, wide_fits, less_fits, inner_fits, inner_less_fits, kind_fits}
use Rattle.expansion_laws.proofs.ShapeLemmas.{IsSolid, Shape, Solid, Quoted, Wide, Less, shape_of, slash_token, star_token}

-- ---- the logical text of what begins so

quote_back : (q : ℕ) → is_quote q ≡ true → (q == backslash) ≡ false
quote_back q h = grind (arith, nat_tests)

quote_return : (q : ℕ) → is_quote q ≡ true → (q == carriage_return) ≡ false
quote_return q h = grind (arith, nat_tests)

quote_stays : (q : ℕ) (cs : List ℕ) → is_quote q ≡ true → gone_length q cs ≡ 0
unfolding gone_length
quote_stays q cs h = rw (quote_back q h, quote_return q h) refl

logical_quoted : (at q : ℕ) (rest : List ℕ) → is_quote q ≡ true → (more : List ℕ) × (spelling (logical_from 0 at (q ∷ rest)) ≡ q ∷ more)
logical_quoted at q rest h = (spelling (logical_from 0 (at + 1) rest), ap spelling (logical_from-stays at q rest (quote_stays q rest h)))

quote_dark : (q : ℕ) → is_quote q ≡ true → not (is_white q) ≡ true
quote_dark q h = grind (arith, nat_tests)

logical_wide : (at q : ℕ) (rest : List ℕ) → is_quote q ≡ true → (more : List ℕ) × (spelling (logical_from 0 at (capital_l ∷ q ∷ rest)) ≡ capital_l ∷ q ∷ more)
logical_wide at q rest h =
    let i = logical_quoted (at + 1) q rest h in
    (i.0, ap spelling (logical_from-stays at capital_l (q ∷ rest) (stays capital_l (q ∷ rest) refl (quote_dark q h))) ∙ ap (λ (l : List ℕ). capital_l ∷ l) i.1)

less_stays : (cs : List ℕ) → gone_length less_than cs ≡ 0
unfolding gone_length
less_stays cs = refl

logical_less : (at : ℕ) (rest : List ℕ) → (more : List ℕ) × (spelling (logical_from 0 at (less_than ∷ rest)) ≡ less_than ∷ more)
logical_less at rest = (spelling (logical_from 0 (at + 1) rest), ap spelling (logical_from-stays at less_than rest (less_stays rest)))

-- ---- parts of lists

drop_behind : (xs ys : List ℕ) (n m : ℕ) → n ≡ length xs + m → drop n (xs ++ ys) ≡ drop m ys
drop_behind [] ys n m h = let same : n ≡ m = omega arith in rw same refl
drop_behind (x ∷ xs) ys zero m h = absurd (omega arith)
drop_behind (x ∷ xs) ys (suc n) m h = drop_behind xs ys n m (omega arith)

take_behind : (xs ys : List ℕ) (n m : ℕ) → n ≡ length xs + m → take n (xs ++ ys) ≡ xs ++ take m ys
take_behind [] ys n m h = let same : n ≡ m = omega arith in rw same refl
take_behind (x ∷ xs) ys zero m h = absurd (omega arith)
take_behind (x ∷ xs) ys (suc n) m h = ap (λ (l : List ℕ). x ∷ l) (take_behind xs ys n m (omega arith))

take_whole : (xs : List ℕ) (n : ℕ) → length xs ≤ n → take n xs ≡ xs
take_whole [] zero h = refl
take_whole [] (suc n) h = refl
take_whole (x ∷ xs) zero h = absurd (omega arith)
take_whole (x ∷ xs) (suc n) h = ap (λ (l : List ℕ). x ∷ l) (take_whole xs n (omega arith))

-- ---- a text that is a token by itself, and another

-- the front of both has all of the first
covers : (x y : List ℕ) (k : Kind) → IsSolid x → (i : OneFront (x ++ y) k) → length x ≤ i.len
covers x y k h i = by h.whole
  where
    by : (is_some (kind_of x) ≡ true) ⊎ (length x ≡ 1) → length x ≤ i.len
    by (inl is) =
        let low = h.some in
        i.most (length x) (omega arith) (omega (arith, length-append x y)) (ap (λ (l : List ℕ). is_some (kind_of l)) (take-append_seam x y) ∙ is)
    by (inr one) = let some = i.some in omega arith

-- where a token begins behind it, the front has more
goes_on : (x y : List ℕ) (k : Kind) (i : OneFront (x ++ y) k) (m : ℕ) → i.len ≡ length x + m → begins_token (drop m y) ≡ true → ⊥
goes_on x y k i m is begins =
    clash (begins_token (drop m y)) begins (ap begins_token (sym (drop_behind x y i.len m is)) ∙ i.rest)

left_over : (n len : ℕ) → len ≤ n → n ≡ len + (n - len)
left_over n len h = omega arith

solid_solid : (x y : List ℕ) (k : Kind) → IsSolid x → IsSolid y → OneFront (x ++ y) k → fits k (x ++ y) ≡ true
solid_solid x y k hx hy i =
    let covered = covers x y k hx i in
    let m : ℕ = i.len - length x in
    let is : i.len ≡ length x + m = left_over i.len (length x) covered in
    elim (cases_lt m (length y)) [
      | inl less ↦ absurd (goes_on x y k i m is (each_begins y m hy.each less))
      | inr all ↦
          let whole : take i.len (x ++ y) ≡ x ++ y = take_whole (x ++ y) i.len (omega (arith, length-append x y)) in
          kind_fits (x ++ y) k (ap kind_of (sym whole) ∙ i.kind)
    ]

solid_quoted : (c : ℕ) (cs : List ℕ) (q : ℕ) (more rest : List ℕ) (k : Kind) → IsSolid (c ∷ cs) → is_quote q ≡ true → OneFront (c ∷ cs ++ q ∷ more) k
    → fits k (c ∷ cs ++ q ∷ rest) ≡ true
solid_quoted c cs q more rest k hx quote i =
    let covered = covers (c ∷ cs) (q ∷ more) k hx i in
    by (i.len - length (c ∷ cs)) (left_over i.len (length (c ∷ cs)) covered)
  where
    by : (m : ℕ) → i.len ≡ length (c ∷ cs) + m → fits k (c ∷ cs ++ q ∷ rest) ≡ true
    by zero is = absurd (goes_on (c ∷ cs) (q ∷ more) k i zero is (quote_token q more quote))
    by (suc m) is =
        inner_fits k c cs q (take m more) rest quote (ap kind_of (sym (take_behind (c ∷ cs) (q ∷ more) i.len (suc m) is)) ∙ i.kind)

one_more : (cs : List ℕ) (q : ℕ) (ys : List ℕ) → (cs ++ capital_l ∷ []) ++ q ∷ ys ≡ cs ++ capital_l ∷ q ∷ ys
one_more [] q ys = refl
one_more (c ∷ cs) q ys = ap (λ (l : List ℕ). c ∷ l) (one_more cs q ys)

solid_wide : (c : ℕ) (cs : List ℕ) (q : ℕ) (more rest : List ℕ) (k : Kind) → IsSolid (c ∷ cs) → is_quote q ≡ true → OneFront (c ∷ cs ++ capital_l ∷ q ∷ more) k
    → fits k (c ∷ cs ++ capital_l ∷ q ∷ rest) ≡ true
solid_wide c cs q more rest k hx quote i =
    let covered = covers (c ∷ cs) (capital_l ∷ q ∷ more) k hx i in
    by (i.len - length (c ∷ cs)) (left_over i.len (length (c ∷ cs)) covered)
  where
    by : (m : ℕ) → i.len ≡ length (c ∷ cs) + m → fits k (c ∷ cs ++ capital_l ∷ q ∷ rest) ≡ true
    by zero is = absurd (goes_on (c ∷ cs) (capital_l ∷ q ∷ more) k i zero is refl)
    by (suc zero) is = absurd (goes_on (c ∷ cs) (capital_l ∷ q ∷ more) k i (suc zero) is (quote_token q more quote))
    by (suc (suc m)) is =
        let front : kind_of (c ∷ (cs ++ capital_l ∷ []) ++ q ∷ take m more) ≡ Some k =
        ap (λ (l : List ℕ). kind_of (c ∷ l)) (one_more cs q (take m more)) ∙ ap kind_of (sym (take_behind (c ∷ cs) (capital_l ∷ q ∷ more) i.len (suc (suc m)) is)) ∙ i.kind in
        subst (λ (l : List ℕ). fits k (c ∷ l) ≡ true) (one_more cs q rest) (inner_fits k c (cs ++ capital_l ∷ []) q (take m more) rest quote front)

solid_less : (c : ℕ) (cs more rest : List ℕ) (k : Kind) → IsSolid (c ∷ cs) → OneFront (c ∷ cs ++ less_than ∷ more) k → fits k (c ∷ cs ++ less_than ∷ rest) ≡ true
solid_less c cs more rest k hx i =
    let covered = covers (c ∷ cs) (less_than ∷ more) k hx i in
    by (i.len - length (c ∷ cs)) (left_over i.len (length (c ∷ cs)) covered)
  where
    by : (m : ℕ) → i.len ≡ length (c ∷ cs) + m → fits k (c ∷ cs ++ less_than ∷ rest) ≡ true
    by zero is = absurd (goes_on (c ∷ cs) (less_than ∷ more) k i zero is refl)
    by (suc m) is =
        inner_less_fits k c cs (take m more) rest (ap kind_of (sym (take_behind (c ∷ cs) (less_than ∷ more) i.len (suc m) is)) ∙ i.kind)

-- ---- where both begin

-- a slash with no slash or star behind it
plain_slash : (c d : ℕ) (ds : List ℕ) → begins_token (c ∷ []) ≡ true → (d == slash) ≡ false → (d == star) ≡ false → begins_token (c ∷ d ∷ ds) ≡ true
plain_slash c d ds h no_slash no_star = elim (cases_Bool (is_white c)) [
  | inl white ↦ let no = rw white at h in absurd (cc)
  | inr dark ↦ elim (cases_Bool (c == slash)) [
    | inl is ↦ rw (dark, is, no_slash, no_star) refl
    | inr other ↦ rw (dark, other) refl
  ]
]

solid_begins : (c : ℕ) (cs : List ℕ) (d : ℕ) (ds : List ℕ) → IsSolid (c ∷ cs) → (d == slash) ≡ false → (d == star) ≡ false → begins_token (c ∷ cs ++ d ∷ ds) ≡ true
solid_begins c [] d ds h no_slash no_star = plain_slash c d ds (and_parts (begins_token (c ∷ [])) true h.each).0 no_slash no_star
solid_begins c (e ∷ cs) d ds h no_slash no_star = (and_parts (begins_token (c ∷ e ∷ cs)) (begins_each (e ∷ cs)) h.each).0

quote_star : (q : ℕ) → is_quote q ≡ true → (q == star) ≡ false
quote_star q h = grind (arith, nat_tests)

-- comments are no tokens
no_comment-1 : one_token_of (codes "//") ≡ None
unfolding one_token_of found_of logical_of logical_from gone_length found_from piece_of
no_comment-1 = refl

no_comment-2 : one_token_of (codes "//=") ≡ None
unfolding one_token_of found_of logical_of logical_from gone_length found_from piece_of
no_comment-2 = refl

no_comment-3 : one_token_of (codes "/*") ≡ None
unfolding one_token_of found_of logical_of logical_from gone_length found_from piece_of
no_comment-3 = refl

no_comment-4 : one_token_of (codes "/*=") ≡ None
unfolding one_token_of found_of logical_of logical_from gone_length found_from piece_of
no_comment-4 = refl

none_some : (text known : List ℕ) (k : Kind) → text ≡ known → one_token_of known ≡ None → one_token_of text ≡ Some k → ⊥
none_some text known k is none e = let both : None ≡ Some k = sym none ∙ ap one_token_of (sym is) ∙ e in absurd (cc)

-- a slash before a slash or a star makes no token
comment : (d : ℕ) (ds : List ℕ) (k : Kind) → IsSolid (d ∷ ds) → (d ≡ slash) ⊎ (d ≡ star) → one_token_of (slash ∷ d ∷ ds) ≡ Some k → ⊥
comment d ds k h (inl is) e =
    let solid : IsSolid (slash ∷ ds) = subst (λ (x : ℕ). IsSolid (x ∷ ds)) is h in
    let there : one_token_of (slash ∷ slash ∷ ds) ≡ Some k = subst (λ (x : ℕ). one_token_of (slash ∷ x ∷ ds) ≡ Some k) is e in
    elim (slash_token ds solid) [
      | inl one ↦ none_some (slash ∷ slash ∷ ds) (codes "//") k (ap (λ (l : List ℕ). slash ∷ l) one) no_comment-1 there
      | inr two ↦ none_some (slash ∷ slash ∷ ds) (codes "//=") k (ap (λ (l : List ℕ). slash ∷ l) two) no_comment-2 there
    ]
comment d ds k h (inr is) e =
    let solid : IsSolid (star ∷ ds) = subst (λ (x : ℕ). IsSolid (x ∷ ds)) is h in
    let there : one_token_of (slash ∷ star ∷ ds) ≡ Some k = subst (λ (x : ℕ). one_token_of (slash ∷ x ∷ ds) ≡ Some k) is e in
    elim (star_token ds solid) [
      | inl one ↦ none_some (slash ∷ star ∷ ds) (codes "/*") k (ap (λ (l : List ℕ). slash ∷ l) one) no_comment-3 there
      | inr two ↦ none_some (slash ∷ star ∷ ds) (codes "/*=") k (ap (λ (l : List ℕ). slash ∷ l) two) no_comment-4 there
    ]

-- a token begins there, unless a comment does
both_begin : (c : ℕ) (cs : List ℕ) (d : ℕ) (ds : List ℕ) (k : Kind) → IsSolid (c ∷ cs) → IsSolid (d ∷ ds) → one_token_of (c ∷ cs ++ d ∷ ds) ≡ Some k
    → begins_token (c ∷ cs ++ d ∷ ds) ≡ true
both_begin c (e ∷ cs) d ds k hx hy is = (and_parts (begins_token (c ∷ e ∷ cs)) (begins_each (e ∷ cs)) hx.each).0
both_begin c [] d ds k hx hy is = elim (cases_Bool (d == slash)) [
  | inl first ↦ by (inl (eqb-true d slash first))
  | inr other ↦ elim (cases_Bool (d == star)) [
    | inl second ↦ by (inr (eqb-true d star second))
    | inr none ↦ solid_begins c [] d ds hx other none
  ]
]
  where
    by : (d ≡ slash) ⊎ (d ≡ star) → begins_token (c ∷ d ∷ ds) ≡ true
    by which = elim (cases_Bool (c == slash)) [
      | inl slashed ↦
          let there : one_token_of (slash ∷ d ∷ ds) ≡ Some k = subst (λ (x : ℕ). one_token_of (x ∷ d ∷ ds) ≡ Some k) (eqb-true c slash slashed) is in
          absurd (comment d ds k hy which there)
      | inr other ↦
          let first = (and_parts (begins_token (c ∷ [])) true hx.each).0 in
          elim (cases_Bool (is_white c)) [
            | inl white ↦ let no = rw white at first in absurd (cc)
            | inr dark ↦ rw (dark, other) refl
          ]
    ]

-- ---- both texts

dark_both : (xs ys : List ℕ) → is_dark xs ≡ true → is_dark ys ≡ true → is_dark (xs ++ ys) ≡ true
dark_both [] ys h k = k
dark_both (x ∷ xs) ys h k =
    let both = and_parts (not (is_white x)) (is_dark xs) h in
    rw (both.0, dark_both xs ys both.1 k) refl

solid_both : (c : ℕ) (cs y : List ℕ) (k : Kind) → IsSolid (c ∷ cs) → IsSolid y → one_token_of (c ∷ cs ++ y) ≡ Some k → fits k (c ∷ cs ++ y) ≡ true
solid_both c cs [] k hx hy e = let some = hy.some in absurd (omega arith)
solid_both c cs (d ∷ ds) k hx hy e =
    let text : List ℕ = c ∷ cs ++ d ∷ ds in
    let dark : is_dark text ≡ true = dark_both (c ∷ cs) (d ∷ ds) (begins_each-dark (c ∷ cs) hx.each) (begins_each-dark (d ∷ ds) hy.each) in
    solid_solid (c ∷ cs) (d ∷ ds) k hx hy (one_front text text k (logical_plain 0 text dark) (both_begin c cs d ds k hx hy e) e)

-- behind a text that is a token by itself
behind_solid : (c : ℕ) (cs y : List ℕ) (k : Kind) → IsSolid (c ∷ cs) → Shape y → one_token_of (c ∷ cs ++ y) ≡ Some k → fits k (c ∷ cs ++ y) ≡ true
behind_solid c cs y k hx (Solid hy) e = solid_both c cs y k hx hy e
behind_solid c cs y k hx (Quoted q rest quote) e =
    let i = logical_quoted (0 + length (c ∷ cs)) q rest quote in
    let is = logical_behind 0 (c ∷ cs) (q ∷ rest) (begins_each-dark (c ∷ cs) hx.each) (quote_dark q quote) ∙ ap (λ (l : List ℕ). c ∷ cs ++ l) i.1 in
    solid_quoted c cs q i.0 rest k hx quote (one_front (c ∷ cs ++ q ∷ rest) (c ∷ cs ++ q ∷ i.0) k is (solid_begins c cs q i.0 hx (quote_slash q quote) (quote_star q quote)) e)
behind_solid c cs y k hx (Wide q rest quote) e =
    let i = logical_wide (0 + length (c ∷ cs)) q rest quote in
    let is = logical_behind 0 (c ∷ cs) (capital_l ∷ q ∷ rest) (begins_each-dark (c ∷ cs) hx.each) refl ∙ ap (λ (l : List ℕ). c ∷ cs ++ l) i.1 in
    solid_wide c cs q i.0 rest k hx quote (one_front (c ∷ cs ++ capital_l ∷ q ∷ rest) (c ∷ cs ++ capital_l ∷ q ∷ i.0) k is (solid_begins c cs capital_l (q ∷ i.0) hx refl refl) e)
behind_solid c cs y k hx (Less rest) e =
    let i = logical_less (0 + length (c ∷ cs)) rest in
    let is = logical_behind 0 (c ∷ cs) (less_than ∷ rest) (begins_each-dark (c ∷ cs) hx.each) refl ∙ ap (λ (l : List ℕ). c ∷ cs ++ l) i.1 in
    solid_less c cs i.0 rest k hx (one_front (c ∷ cs ++ less_than ∷ rest) (c ∷ cs ++ less_than ∷ i.0) k is (solid_begins c cs less_than i.0 hx refl refl) e)

-- the kind of the front, by its first characters
front_one : (c : ℕ) (cs : List ℕ) (k : Kind) → OneFront (c ∷ cs) k → (ws : List ℕ) × (kind_of (c ∷ ws) ≡ Some k)
front_one c cs k i = by i.len i.some i.kind
  where
    by : (n : ℕ) → 1 ≤ n → kind_of (take n (c ∷ cs)) ≡ Some k → (ws : List ℕ) × (kind_of (c ∷ ws) ≡ Some k)
    by zero some e = absurd (omega arith)
    by (suc n) some e = (take n cs, e)

front_two : (c q : ℕ) (cs : List ℕ) (k : Kind) → begins_token (q ∷ cs) ≡ true → OneFront (c ∷ q ∷ cs) k → (ws : List ℕ) × (kind_of (c ∷ q ∷ ws) ≡ Some k)
front_two c q cs k begins i = by i.len i.some i.kind i.rest
  where
    by : (n : ℕ) → 1 ≤ n → kind_of (take n (c ∷ q ∷ cs)) ≡ Some k → begins_token (drop n (c ∷ q ∷ cs)) ≡ false → (ws : List ℕ) × (kind_of (c ∷ q ∷ ws) ≡ Some k)
    by zero some e rest = absurd (omega arith)
    by (suc zero) some e rest = absurd (clash (begins_token (q ∷ cs)) begins rest)
    by (suc (suc n)) some e rest = (take n cs, e)

shapes_fit : (x y : List ℕ) (k : Kind) → Shape x → Shape y → one_token_of (x ++ y) ≡ Some k → fits k (x ++ y) ≡ true
shapes_fit [] y k (Solid hx) hy e = let some = hx.some in absurd (omega arith)
shapes_fit (c ∷ cs) y k (Solid hx) hy e = behind_solid c cs y k hx hy e
shapes_fit x y k (Quoted q rest quote) hy e =
    let i = logical_quoted 0 q (rest ++ y) quote in
    let front = front_one q i.0 k (one_front (q ∷ rest ++ y) (q ∷ i.0) k i.1 (quote_token q i.0 quote) e) in
    quote_fits k q front.0 (rest ++ y) quote front.1
shapes_fit x y k (Wide q rest quote) hy e =
    let i = logical_wide 0 q (rest ++ y) quote in
    let front = front_two capital_l q i.0 k (quote_token q i.0 quote) (one_front (capital_l ∷ q ∷ rest ++ y) (capital_l ∷ q ∷ i.0) k i.1 refl e) in
    wide_fits k q front.0 (rest ++ y) quote front.1
shapes_fit x y k (Less rest) hy e =
    let i = logical_less 0 (rest ++ y) in
    let front = front_one less_than i.0 k (one_front (less_than ∷ rest ++ y) (less_than ∷ i.0) k i.1 refl e) in
    less_fits k front.0 (rest ++ y) front.1

-- what two texts make together is spelled as its kind says
pub pasted_fits : (kx ky k : Kind) (x y : List ℕ) → fits kx x ≡ true → fits ky y ≡ true → one_token_of (x ++ y) ≡ Some k → fits k (x ++ y) ≡ true
pasted_fits kx ky k x y hx hy e = shapes_fit x y k (shape_of kx x hx) (shape_of ky y hy) e
