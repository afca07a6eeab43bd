-- Lines that lead from one reading to another, wherever in a file of fitting length they stand.
use Rattle.std.proofs.Common.{◌≡◌, ℕ, true, false, ◌+◌, ◌≤◌, ◌^◌, List, [], ◌∷◌, ◌++◌, length, refl, ap, ◌∙◌, arith, length-append, append_assoc}
use Rattle.std.specs.Prelude.{Some, Ok, nat_lt}
use Rattle.std.specs.List.{list_all}
use Rattle.std.proofs.lemmas.Bool.{le-ltb, and_from}
use Rattle.std.proofs.lemmas.List.Folds.{list_all-append}
use Rattle.cs_base.specs.Units.{line_feed, ended_line}
use Rattle.cs_base.specs.Limits.{most_units}
use Rattle.ws_file.specs.Lines.{line_word}
use Rattle.ws_file.specs.Reading.{Reading, with_word, with_line, checked, read_lines}
use Rattle.ws_file.specs.Printing.{lines_text}
use Rattle.ws_file.specs.Taking.{has_no_feed}
use Rattle.ws_file.proofs.ReadLemmas.{read_lines-taken}
use Rattle.ws_file.proofs.PrintedLines.{IsRest, is_line_word, line_with, with_line-line_with, has_no_feed-line_with}

-- The place behind some lines, and that they are read there.
pub record Reached (lines more : List (List ℕ)) (number start : ℕ) (r r' : Reading) : Type 0 where
  pub next_number : ℕ
  pub next_start : ℕ
  pub fits : next_start + length (lines_text more) ≤ 2 ^ 22
  pub same : read_lines number start (lines ++ more) r ≡ read_lines next_number next_start more r'

-- The lines are lines, and reading them leads from r to r'.
pub record Leads (lines : List (List ℕ)) (r r' : Reading) : Type 0 where
  pub are_lines : list_all has_no_feed lines ≡ true
  pub leads : (number start : ℕ) (more : List (List ℕ)) → start + length (lines_text (lines ++ more)) ≤ 2 ^ 22
      → Reached lines more number start r r'

pub Leads-nil : (r : Reading) → Leads [] r r
Leads-nil r = record {
  are_lines = refl;
  leads = λ number start more fits. record { next_number = number; next_start = start; fits = fits; same = refl };
}

pub Leads-append : (xs ys : List (List ℕ)) (r s t : Reading) → Leads xs r s → Leads ys s t → Leads (xs ++ ys) r t
Leads-append xs ys r s t f g = record {
  are_lines = list_all-append has_no_feed xs ys ∙ and_from _ _ f.are_lines g.are_lines;
  leads = λ number start more fits.
      let shape = append_assoc xs ys more in
      let fits' : start + length (lines_text (xs ++ (ys ++ more))) ≤ 2 ^ 22 = rw (← shape) fits in
      let a = f.leads number start (ys ++ more) fits' in
      let b = g.leads a.next_number a.next_start more a.fits in
      record {
        next_number = b.next_number;
        next_start = b.next_start;
        fits = b.fits;
        same = ap (λ (lines : List (List ℕ)). read_lines number start lines r) shape ∙ a.same ∙ b.same;
      };
}

lines_len-cons : (line : List ℕ) (more : List (List ℕ)) → length (lines_text (line ∷ more)) ≡ length line + 1 + length (lines_text more)
lines_len-cons line more =
    length-append (ended_line line) (lines_text more)
    ∙ ap (λ (n : ℕ). n + length (lines_text more)) (length-append line (line_feed ∷ []))

-- a line of a word and a rest
pub Leads-line_with : (word rest : List ℕ) (r r' : Reading) → is_line_word word ≡ true → IsRest rest
    → with_word (line_word word) rest r ≡ Some r' → length r'.units ≤ most_units → Leads (line_with word rest ∷ []) r r'
Leads-line_with word rest r r' w q taken few =
    let line = line_with word rest in
    let few' : nat_lt most_units (length r'.units) ≡ false = le-ltb most_units (length r'.units) few in
    record {
      are_lines = and_from _ _ (has_no_feed-line_with word rest w q) refl;
      leads = λ number start more fits.
          let len = lines_len-cons line more in
          let within : start + length line ≤ 2 ^ 22 = omega (arith, len, fits) in
          let read : with_line start line r ≡ Some r' = with_line-line_with start word rest r w q within ∙ taken in
          let ok : checked number (with_line start line r) ≡ Ok r' = rw (read, few') refl in
          record {
            next_number = number + 1;
            next_start = start + length line + 1;
            fits = omega (arith, len, fits);
            same = read_lines-taken number start line more r r' ok;
          };
    }
