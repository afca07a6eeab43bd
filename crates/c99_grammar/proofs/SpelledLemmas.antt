-- Classes of spellings in a table by rows, and in one table behind another.
use Rattle.std.proofs.Common.{◌≡◌, ◌≢◌, ℕ, zero, suc, ◌+◌, ◌<◌, Bool, true, false, List, [], ◌∷◌, ◌++◌, get_or, if◌then◌else◌, nat_eq, refl, sym, ap, ◌∙◌, arith, eq-eqb}
use Rattle.std.specs.Borrow.{Bor}
use Rattle.std.specs.List.{list_all}
use Rattle.std.specs.Str.{bytes_eq}
use Rattle.std.proofs.lemmas.Slice.Eq.{bytes_eq-Decides}
use Rattle.std.proofs.lemmas.Bool.{and_parts, both_ways, eqb-true, false_from_ne_true}
use Rattle.c99_grammar.specs.declared.spellings.Word.{Word}
use Rattle.c99_grammar.specs.declared.classes.Class.{Class}
use Rattle.c99_grammar.specs.Spellings.{Spelled}
use Rattle.c99_grammar.specs.TokenClasses.{spelled_class}
use Rattle.c99_grammar.specs.Words.{row_of, row_at, in_row, by_rows, AreRows}

-- what one table does not have is looked for in the other
pub spelled_class-append : (words more : List Spelled) (text : List ℕ) (other : Class)
    → spelled_class words text (spelled_class more text other) ≡ spelled_class (words ++ more) text other
unfolding spelled_class
spelled_class-append [] more text other = refl
spelled_class-append (s ∷ words) more text other =
    ap (λ (c : Class). if bytes_eq text s.0 then s.1 else c) (spelled_class-append words more text other)

-- a word of another row is spelled otherwise
other_row : (text word : List ℕ) → nat_eq (row_of word) (row_of text) ≡ false → bytes_eq text word ≡ false
other_row text word apart =
    false_from_ne_true (bytes_eq text word)
    (λ e. both_ways (nat_eq (row_of word) (row_of text)) apart
    (eq-eqb (row_of word) (row_of text) (sym (ap row_of ((bytes_eq-Decides text word).0 e)))))

in_row-first : (r : Bool) (s : Spelled) (row : List Spelled) (text : List ℕ) (other more : Class)
    → (r ≡ false → bytes_eq text s.0 ≡ false) → spelled_class row text other ≡ more
    → spelled_class (if r then s ∷ row else row) text other ≡ (if bytes_eq text s.0 then s.1 else more)
unfolding spelled_class
in_row-first true s row text other more apart e = ap (λ (c : Class). if bytes_eq text s.0 then s.1 else c) e
in_row-first false s row text other more apart e = e ∙ ap (λ b. if b then s.1 else more) (sym (apart refl))

-- a spelling is one of the words of its row
spelled_class-in_row : (words : List Spelled) (text : List ℕ) (other : Class)
    → spelled_class (in_row (row_of text) words) text other ≡ spelled_class words text other
unfolding spelled_class
spelled_class-in_row [] text other = refl
spelled_class-in_row (s ∷ words) text other =
    in_row-first (nat_eq (row_of s.0) (row_of text)) s (in_row (row_of text) words) text other (spelled_class words text other)
    (other_row text s.0) (spelled_class-in_row words text other)

by_rows-at : (words : List Spelled) (k n i : ℕ) → i < n → get_or (by_rows k n words) i [] ≡ in_row (k + i) words
by_rows-at words k zero i within = absurd (omega arith)
by_rows-at words k (suc n) zero within =
    let e : k ≡ k + 0 = omega arith in ap (λ j. in_row j words) e
by_rows-at words k (suc n) (suc i) within =
    let e : suc k + i ≡ k + suc i = omega arith in
    by_rows-at words (suc k) n i (omega arith) ∙ ap (λ j. in_row j words) e

pub row_of-below : (text : List ℕ) → row_of text < 32
row_of-below [] = omega arith
row_of-below (c ∷ more) = omega arith

-- a table by rows gives the class that the list of its words gives
pub spelled_class-by_rows : (rows : List (Bor (List Word))) (words : List Spelled)
    → AreRows rows words → (text : List ℕ) (other : Class) → spelled_class (row_at rows (row_of text)) text other ≡ spelled_class words text other
spelled_class-by_rows rows words are text other =
    let e : 0 + row_of text ≡ row_of text = omega arith in
    ap (λ ws. spelled_class (get_or ws (row_of text) []) text other) are
    ∙ ap (λ ws. spelled_class ws text other) (by_rows-at words 0 32 (row_of text) (row_of-below text))
    ∙ ap (λ k. spelled_class (in_row k words) text other) e
    ∙ spelled_class-in_row words text other

-- where all words stand in one row and a spelling in another, it is none of them
pub spelled_class-none : (words : List Spelled) (k : ℕ) → list_all (λ s. nat_eq (row_of s.0) k) words ≡ true
    → (text : List ℕ) (other : Class) → row_of text ≢ k → spelled_class words text other ≡ other
unfolding spelled_class
spelled_class-none [] k all text other apart = refl
spelled_class-none (s ∷ words) k all text other apart =
    let parts = and_parts (nat_eq (row_of s.0) k) (list_all (λ w. nat_eq (row_of w.0) k) words) all in
    let e : bytes_eq text s.0 ≡ false = false_from_ne_true (bytes_eq text s.0)
    (λ h. apart (ap row_of ((bytes_eq-Decides text s.0).0 h) ∙ eqb-true (row_of s.0) k parts.0)) in
    ap (λ b. if b then s.1 else spelled_class words text other) e ∙ spelled_class-none words k parts.1 text other apart
