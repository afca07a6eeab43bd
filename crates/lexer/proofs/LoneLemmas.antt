-- Quotes that stay open.
use Rattle.std.proofs.Common.{◌≡◌, ℕ, zero, suc, ◌+◌, ◌<◌, Bool, true, false, ◌==◌, List, [], ◌∷◌, drop, None, inl, inr, sym, subst, ◌∙◌, arith}
use Rattle.std.specs.List.{prefix_len}
use Rattle.std.proofs.lemmas.Bool.{cases_Bool, eqb-true, ltb-true, eq-eqb, both_ways}
use Rattle.std.proofs.lemmas.List.{drop-drop}
use Rattle.lexer.specs.declared.lone.Lone.{Lone}
use Rattle.lexer.specs.Characters.{line_feed, single_quote, double_quote, backslash, is_quote, is_on_line}
use Rattle.lexer.specs.Front.{closing}
use Rattle.lexer.specs.Walk.{spelled, Passes, IsFirst}
use Rattle.lexer.proofs.LogicalLemmas.{spelled-passes, spelled-first}
use Rattle.lexer.proofs.FitLemmas.{open-more}
use Rattle.lexer.specs.Lone.{StaysOpen, IsLone, knows_of, lone_behind, lone_with}

later-on : (q : ℕ) (escaped : Bool) (c : ℕ) (cs rest : List ℕ) (j : ℕ) → closing q escaped cs ≡ None → j < 1 + prefix_len is_on_line cs
    → drop j (c ∷ cs) ≡ q ∷ rest → (c ≡ q → closing q false cs ≡ None)
    → ((i : ℕ) → i < prefix_len is_on_line cs → drop i cs ≡ q ∷ rest → closing q false rest ≡ None) → closing q false rest ≡ None
later-on q escaped c cs rest zero none within at here later =
    let first : c ≡ q = cc in
    let same : cs ≡ rest = cc in
    rw same at (here first)
later-on q escaped c cs rest (suc j) none within at here later = later j (omega arith) at

-- where no quote closes, none does behind a later one of the line
closing-later : (q : ℕ) (escaped : Bool) (cs rest : List ℕ) (j : ℕ) → closing q escaped cs ≡ None → j < prefix_len is_on_line cs
    → drop j cs ≡ q ∷ rest → closing q false rest ≡ None
closing-later q escaped [] rest j none within at = absurd (omega arith)
closing-later q true (c ∷ cs) rest j none within at =
    elim (cases_Bool (c == line_feed)) [
      | inl ends ↦ let few = rw ends at within in absurd (omega arith)
      | inr on ↦
          let behind = open-more (closing q false cs) (rw on at none) in
          let more : j < 1 + prefix_len is_on_line cs = rw on at within in
          later-on q false c cs rest j behind more at (λ same. behind) (λ i h d. closing-later q false cs rest i behind h d)
    ]
closing-later q false (c ∷ cs) rest j none within at =
    elim (cases_Bool (c == q)) [
      | inl closed ↦ let some = rw closed at none in absurd cc
      | inr other ↦ elim (cases_Bool (c == line_feed)) [
        | inl ends ↦ let few = rw ends at within in absurd (omega arith)
        | inr on ↦
            let behind = open-more (closing q (c == backslash) cs) (rw (other, on) at none) in
            let more : j < 1 + prefix_len is_on_line cs = rw on at within in
            later-on q (c == backslash) c cs rest j behind more at
            (λ same. absurd (both_ways (c == q) other (eq-eqb c q same)))
            (λ i h d. closing-later q (c == backslash) cs rest i behind h d)
      ]
    ]

pub stays-open : (q : ℕ) (cs : List ℕ) → closing q false cs ≡ None → StaysOpen q (prefix_len is_on_line cs + 1) (q ∷ cs)
stays-open q cs none zero rest within at = let same : cs ≡ rest = cc in rw same at none
stays-open q cs none (suc k) rest within at = closing-later q false cs rest k none (omega arith) at

pub IsLone-none : (lone : Lone) (text : List ℕ) → lone.single ≡ 0 → lone.double ≡ 0 → IsLone lone text
IsLone-none lone text single double = record {
  single = λ k rest h at. absurd (omega arith);
  double = λ k rest h at. absurd (omega arith);
}

pub IsLone-behind : (lone : Lone) (text : List ℕ) (n : ℕ) → IsLone lone text → IsLone (lone_behind lone n) (drop n text)
IsLone-behind lone text n is = record {
  single = λ k rest h at. is.single (n + k) rest (omega arith) (sym (drop-drop k n text) ∙ at);
  double = λ k rest h at. is.double (n + k) rest (omega arith) (sym (drop-drop k n text) ∙ at);
}

-- a quote of the text that is known to stay open
pub known-open : (lone : Lone) (text rest : List ℕ) (q k : ℕ) → is_quote q ≡ true → IsLone lone text → drop k text ≡ q ∷ rest
    → knows_of lone q k ≡ true → closing q false rest ≡ None
known-open lone text rest q k quote is at known =
    elim (cases_Bool (q == single_quote)) [
      | inl single ↦
          let same = eqb-true q single_quote single in
          let below = ltb-true k lone.single (rw single at known) in
          let here : drop k text ≡ single_quote ∷ rest = rw same at at in
          rw same (is.single k rest below here)
      | inr other ↦
          let double : (q == double_quote) ≡ true = rw other at quote in
          let same = eqb-true q double_quote double in
          let below = ltb-true k lone.double (rw other at known) in
          let here : drop k text ≡ double_quote ∷ rest = rw same at at in
          rw same (is.double k rest below here)
    ]

single-with : (lone : Lone) (count : ℕ) (text : List ℕ) → StaysOpen single_quote count text → IsLone lone text
    → IsLone (record { single = count; double = lone.double }) text
single-with lone count text opens is = record { single = opens; double = is.double }

double-with : (lone : Lone) (count : ℕ) (text : List ℕ) → StaysOpen double_quote count text → IsLone lone text
    → IsLone (record { single = lone.single; double = count }) text
double-with lone count text opens is = record { single = is.single; double = opens }

-- one quote more
pub IsLone-with : (lone : Lone) (q : ℕ) (cs : List ℕ) → is_quote q ≡ true → closing q false cs ≡ None → IsLone lone (q ∷ cs)
    → IsLone (lone_with lone q (prefix_len is_on_line cs + 1)) (q ∷ cs)
IsLone-with lone q cs quote none is =
    let count = prefix_len is_on_line cs + 1 in
    let opens = stays-open q cs none in
    elim (cases_Bool (q == single_quote)) [
      | inl single ↦
          let known : StaysOpen single_quote count (q ∷ cs) =
          let same = eqb-true q single_quote single in
          subst (λ d. StaysOpen d count (q ∷ cs)) same opens in
          rw single (single-with lone count (q ∷ cs) known is)
      | inr other ↦
          let double : (q == double_quote) ≡ true = rw other at quote in
          let known : StaysOpen double_quote count (q ∷ cs) =
          let same = eqb-true q double_quote double in
          subst (λ d. StaysOpen d count (q ∷ cs)) same opens in
          rw other (double-with lone count (q ∷ cs) known is)
    ]

-- behind a piece of n characters
pub IsLone-piece : (lone : Lone) (here : List ℕ) (c : ℕ) (after left : List ℕ) (n m : ℕ) → IsFirst here c after → Passes m after left
    → n ≡ suc m → IsLone lone (c ∷ spelled after) → IsLone (lone_behind lone n) (spelled left)
IsLone-piece lone here c after left n m first over size is =
    let behind = IsLone-behind lone (c ∷ spelled after) (suc m) is in
    rw size (rw (spelled-passes m after left over) at behind)

-- over the bytes that go in front
pub IsLone-here : (lone : Lone) (rest here : List ℕ) (c : ℕ) (after : List ℕ) → Passes 0 rest here → IsFirst here c after
    → IsLone lone (spelled rest) → IsLone lone (c ∷ spelled after)
IsLone-here lone rest here c after over first is =
    rw (spelled-passes 0 rest here over, spelled-first here c after first) at is
