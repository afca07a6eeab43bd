-- A text that is one token: its front is that token, and no other begins behind it.
use Rattle.std.proofs.Common.{◌≡◌, ℕ, zero, suc, ◌+◌, ◌-◌, ◌≤◌, ◌&&◌, ◌==◌, Bool, true, false, not, List, [], ◌∷◌, ◌++◌, length, take, drop, Option, Some, None, is_some, unwrap_or, refl, sym, ap, ◌∙◌, subst, arith, inl, inr}
use Rattle.std.specs.List.{list_all}
use Rattle.std.proofs.lemmas.Bool.{cases_Bool, cases_eq, not-true, and_parts}
use Rattle.std.proofs.lemmas.Bool.Decides.{nat_tests}
use Rattle.cs_base.specs.declared.tokens.Kind.{Kind}
use Rattle.cs_base.specs.declared.tokens.Kind.TheVariants.{Ident, Number, Char, Str, Punct, Header, Other}
use Rattle.cs_base.specs.Token.{Token}
use Rattle.lexer.specs.Characters.{carriage_return, backslash, slash, star, is_white, begins}
use Rattle.lexer.specs.Spelling.{kind_of, kind_in}
use Rattle.lexer.specs.Logical.{Character, new_line_length, gone_length, logical_from, logical_of, spelling, line_at}
use Rattle.lexer.specs.Tokens.{longest, front_length, kind_or_other, token_piece, piece_of, expects_header, with_token, is_line_start, Found, FoundToken, file_token, found_from, found_of}
use Rattle.lexer.specs.OneToken.{free_kind, only_token, one_token_of}
use Rattle.lexer.proofs.LogicalLemmas.{logical_from-stays}
use Rattle.lexer.proofs.KindLemmas.{kind_in-plain}
use Rattle.lexer.proofs.OrderLemmas.{dark_feed as dark_line}

-- a text begins a token: neither white space stands first, nor a comment
abbrev pub begins_token : List ℕ → Bool
begins_token [] = false
begins_token (c ∷ cs) = not (is_white c) && not (c == slash && begins slash cs) && not (c == slash && begins star cs)

and_three : (a b c : Bool) → (a && b && c) ≡ true → (a ≡ true) × (b ≡ true) × (c ≡ true)
and_three true true true h = (refl, refl, refl)
and_three true true false h = absurd (cc)
and_three true false c h = absurd (cc)
and_three false b c h = absurd (cc)

dark_return : (c : ℕ) → is_white c ≡ false → (c == carriage_return) ≡ false
dark_return c h = grind (arith, nat_tests)

piece_begins : (header : Bool) (c : ℕ) (cs : List ℕ) → begins_token (c ∷ cs) ≡ true → piece_of header c cs ≡ token_piece header (c ∷ cs)
unfolding piece_of
piece_begins header c cs h =
    let parts = and_three (not (is_white c)) (not (c == slash && begins slash cs)) (not (c == slash && begins star cs)) h in
    let dark = not-true (is_white c) parts.0 in
    let line = dark_line c dark in
    let no_line = not-true (c == slash && begins slash cs) parts.1 in
    let no_block = not-true (c == slash && begins star cs) parts.2 in
    rw (line, dark, no_line, no_block) refl

-- where a token begins, something is found
found_some : (file : ℕ) (bytes : List ℕ) (skip : ℕ) (gap : Bool) (front : _) (at : ℕ) (cs : List Character)
    → begins_token (drop skip (spelling cs)) ≡ true → found_from file bytes skip gap front at cs ≡ [] → ⊥
unfolding found_from token_piece
found_some file bytes zero gap front at [] h e = absurd (cc)
found_some file bytes (suc skip) gap front at [] h e = absurd (cc)
found_some file bytes (suc skip) gap front at (c ∷ cs) h e = found_some file bytes skip gap front (at + 1) cs h e
found_some file bytes zero gap front at (c ∷ cs) h e =
    let piece = piece_begins (expects_header front) c.byte (spelling cs) h in
    let some = rw piece at e in
    absurd (cc)

only_is : (t : Token) (first : Bool) (found : List Found) (k : Kind) → only_token (FoundToken t first ∷ found) ≡ Some k → (found ≡ []) × (free_kind t.kind ≡ Some k)
only_is t first [] k e = (refl, e)
only_is t first (f ∷ found) k e = absurd (cc)

free_is : (kind k : Kind) → free_kind kind ≡ Some k → kind ≡ k
free_is Ident k e = cc
free_is Number k e = cc
free_is Char k e = cc
free_is Str k e = cc
free_is Punct k e = cc
free_is Header k e = absurd (cc)
free_is Other k e = absurd (cc)

spelled_is : (o : Option Kind) (k : Kind) → free_kind (unwrap_or o Other) ≡ Some k → o ≡ Some k
spelled_is None k e = absurd (cc)
spelled_is (Some kind) k e = ap (λ (x : Kind). Some x) (free_is kind k e)

longest_some : (n : ℕ) (text : List ℕ) → 1 ≤ longest false n text
longest_some zero text = omega arith
longest_some (suc n) text = elim (cases_Bool (is_some (kind_in false (take (suc n) text)))) [
  | inl is ↦ rw is (omega arith)
  | inr is_not ↦ rw is_not (longest_some n text)
]

longest_most : (n : ℕ) (text : List ℕ) (j : ℕ) → 1 ≤ j → j ≤ n → is_some (kind_of (take j text)) ≡ true → j ≤ longest false n text
longest_most zero text j some within is = absurd (omega arith)
longest_most (suc n) text j some within is = elim (cases_Bool (is_some (kind_in false (take (suc n) text)))) [
  | inl here ↦ rw here within
  | inr not_here ↦ elim (cases_eq j (suc n)) [
    | inl same ↦
        let there : is_some (kind_in false (take (suc n) text)) ≡ true =
        ap is_some (kind_in-plain (take (suc n) text)) ∙ ap (λ (m : ℕ). is_some (kind_of (take m text))) (sym same) ∙ is in
        let both : false ≡ true = sym not_here ∙ there in
        absurd (cc)
    | inr apart ↦ rw not_here (longest_most n text j some (omega arith) is)
  ]
]

-- The text is one token of this kind: that is the longest in front, of `len` characters, and behind it none
-- begins.
pub record OneFront (text : List ℕ) (k : Kind) : Type 0 where
  pub len : ℕ
  pub some : 1 ≤ len
  pub kind : kind_of (take len text) ≡ Some k
  pub rest : begins_token (drop len text) ≡ false
  pub most : (j : ℕ) → 1 ≤ j → j ≤ length text → is_some (kind_of (take j text)) ≡ true → j ≤ len

drop_later : (n : ℕ) (c : ℕ) (cs : List ℕ) → 1 ≤ n → drop n (c ∷ cs) ≡ drop (n - 1) cs
drop_later zero c cs some = absurd (omega arith)
drop_later (suc n) c cs some = let less : suc n - 1 ≡ n = omega arith in rw less refl

front_found : (bytes : List ℕ) (front : _) (c : Character) (cs : List Character) (k : Kind) → expects_header front ≡ false → begins_token (spelling (c ∷ cs)) ≡ true
    → only_token (found_from 0 bytes 0 true front 0 (c ∷ cs)) ≡ Some k → OneFront (spelling (c ∷ cs)) k
unfolding found_from token_piece front_length
front_found bytes front c cs k no_header h e =
    let text : List ℕ = spelling (c ∷ cs) in
    let n = longest false (length text) text in
    let whole = rw (no_header, piece_begins false c.byte (spelling cs) h) at e in
    let parts = only_is (file_token 0 (line_at bytes c.offset) true 0 (kind_or_other false (take n text)) (take n text)) (is_line_start front)
    (found_from 0 bytes (n - 1) false (with_token (take n text) front) 1 cs) k whole in
    let some = longest_some (length text) text in
    record {
      len = n;
      some = some;
      kind = sym (kind_in-plain (take n text)) ∙ spelled_is (kind_in false (take n text)) k parts.1;
      rest = (elim (cases_Bool (begins_token (drop n text))) [
        | inl begins ↦
            let later : begins_token (drop (n - 1) (spelling cs)) ≡ true = ap begins_token (sym (drop_later n c.byte (spelling cs) some)) ∙ begins in
            absurd (found_some 0 bytes (n - 1) false (with_token (take n text) front) 1 cs later parts.0)
        | inr none ↦ none
      ]);
      most = λ j low high is. longest_most (length text) text j low high is;
    }

-- ---- logical text

-- no character of a text is white space
abbrev pub is_dark : List ℕ → Bool
is_dark text = list_all (λ c. not (is_white c)) text

-- white space does not stand first
abbrev pub dark_first : List ℕ → Bool
dark_first [] = true
dark_first (c ∷ cs) = not (is_white c)

no_new_line : (cs : List ℕ) → dark_first cs ≡ true → new_line_length cs ≡ 0
no_new_line [] h = refl
no_new_line (c ∷ cs) h =
    let dark = not-true (is_white c) h in
    rw (dark_line c dark, dark_return c dark) refl

-- a character stays, where no white space stands behind it
pub stays : (c : ℕ) (cs : List ℕ) → is_white c ≡ false → dark_first cs ≡ true → gone_length c cs ≡ 0
unfolding gone_length
stays c cs dark h = elim (cases_Bool (c == backslash)) [
  | inl is ↦ let none = no_new_line cs h in rw (is, none) refl
  | inr other ↦ rw (other, dark_return c dark) refl
]

dark_front : (cs ys : List ℕ) → is_dark cs ≡ true → dark_first ys ≡ true → dark_first (cs ++ ys) ≡ true
dark_front [] ys h k = k
dark_front (c ∷ cs) ys h k = (and_parts (not (is_white c)) (is_dark cs) h).0

-- the logical text of such a text and what stands behind it
pub logical_behind : (at : ℕ) (xs ys : List ℕ) → is_dark xs ≡ true → dark_first ys ≡ true
    → spelling (logical_from 0 at (xs ++ ys)) ≡ xs ++ spelling (logical_from 0 (at + length xs) ys)
logical_behind at [] ys h k = let same : at + 0 ≡ at = omega arith in rw same refl
logical_behind at (c ∷ cs) ys h k =
    let both = and_parts (not (is_white c)) (is_dark cs) h in
    let on : at + suc (length cs) ≡ at + 1 + length cs = omega arith in
    rw (logical_from-stays at c (cs ++ ys) (stays c (cs ++ ys) (not-true (is_white c) both.0) (dark_front cs ys both.1 k)), on)
    (ap (λ (l : List ℕ). c ∷ l) (logical_behind (at + 1) cs ys both.1 k))

pub logical_plain : (at : ℕ) (xs : List ℕ) → is_dark xs ≡ true → spelling (logical_from 0 at xs) ≡ xs
unfolding logical_from
logical_plain at [] h = refl
logical_plain at (c ∷ cs) h =
    let both = and_parts (not (is_white c)) (is_dark cs) h in
    rw (logical_from-stays at c cs (stays c cs (not-true (is_white c) both.0) (dark_all cs both.1)))
    (ap (λ (l : List ℕ). c ∷ l) (logical_plain (at + 1) cs both.1))
  where
    dark_all : (ds : List ℕ) → is_dark ds ≡ true → dark_first ds ≡ true
    dark_all [] k = refl
    dark_all (d ∷ ds) k = (and_parts (not (is_white d)) (is_dark ds) k).0

front_listed : (bytes text : List ℕ) (front : _) (cs : List Character) (k : Kind) → expects_header front ≡ false → spelling cs ≡ text → begins_token text ≡ true
    → only_token (found_from 0 bytes 0 true front 0 cs) ≡ Some k → OneFront text k
front_listed bytes text front [] k no_header is h e =
    let none : begins_token [] ≡ true = ap begins_token is ∙ h in absurd (cc)
front_listed bytes text front (c ∷ cs) k no_header is h e =
    subst (λ (l : List ℕ). OneFront l k) is (front_found bytes front c cs k no_header (ap begins_token is ∙ h) e)

-- a text that is one token, given its logical text
pub one_front : (bytes text : List ℕ) (k : Kind) → spelling (logical_from 0 0 bytes) ≡ text → begins_token text ≡ true → one_token_of bytes ≡ Some k → OneFront text k
unfolding one_token_of found_of logical_of
one_front bytes text k is h e = front_listed bytes text _ (logical_from 0 0 bytes) k refl is h e
