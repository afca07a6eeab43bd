-- The numbers of source files, and the order of files.
use Rattle.std.proofs.Common.{◌≡◌, ℕ, ◌+◌, ◌<◌, ◌≤◌, true, false, List, [], ◌∷◌, ◌++◌, length, drop, get_or, refl, sym, ap, ◌∙◌, append_assoc, ⊎_elim}
use Rattle.std.specs.Prelude.{if◌then◌else◌}
use Rattle.std.specs.Cmp.Lexicographic.{slice_cmp}
use Rattle.std.specs.Ordering.{nat_cmp, ordering_then}
use Rattle.std.specs.declared.cmp.Ordering.{Ordering}
use Rattle.std.specs.declared.cmp.Ordering.TheVariants.{Less, Equal, Greater}
use Rattle.std.proofs.lemmas.Bool.{cases_Bool}
use Rattle.std.proofs.lemmas.Cmp.{then_total, on_total, nat_list_cmp_total, nat_cmp_total}
use Rattle.std.proofs.lemmas.List.{at_drop_more, at_drop_all}
use Rattle.std.proofs.lemmas.Option.{slice_get-get_or}
use Rattle.cs_base.proofs.OrderLemmas.{nat_cmp-tie}
use Rattle.analysis.specs.Below.source_files.Files.{Table, Entry, Absent, entry}
use Rattle.analysis.specs.Below.source_files.KeptFiles.{kept_in, kept_at}
use Rattle.query_report.specs.Order.{is_source, numbers_from, path_at, file_cmp}
use Rattle.query_report.proofs.SortLemmas.{IsStrict}

then_tie : (o p : Ordering) → ordering_then o p ≡ Equal → p ≡ Equal
then_tie Less p e = cc
then_tie Equal p e = e
then_tie Greater p e = cc

-- two files tie only where they are one
pub file_cmp-strict : (table : Table) → IsStrict (file_cmp table)
file_cmp-strict table = record {
  total = then_total (on_total (path_at table) nat_list_cmp_total) nat_cmp_total;
  tie = λ m n e. nat_cmp-tie m n (then_tie (slice_cmp nat_cmp (path_at table m) (path_at table n)) (nat_cmp m n) e);
}

-- one entry more
numbers_from-more : (table : Table) (k : ℕ) → k < length table
    → numbers_from k (drop k table) ≡ (if is_source (kept_at table k) then k ∷ [] else []) ++ numbers_from (k + 1) (drop (k + 1) table)
unfolding numbers_from
numbers_from-more table k within =
    let d : Entry = entry [] Absent in
    let found = slice_get-get_or table k d within in
    let step = at_drop_more (numbers_from k) table k d within in
    step
    ∙ ⊎_elim
    (λ (yes : is_source (kept_in k (get_or table k d)) ≡ true). rw (found, yes) refl)
    (λ (no : is_source (kept_in k (get_or table k d)) ≡ false). rw (found, no) refl)
    (cases_Bool (is_source (kept_in k (get_or table k d))))

-- The numbers so far and those still to come.
pub numbers-more : (table : Table) (k : ℕ) (numbers numbers' whole : List ℕ) → k < length table
    → numbers ++ numbers_from k (drop k table) ≡ whole
    → numbers' ≡ numbers ++ (if is_source (kept_at table k) then k ∷ [] else [])
    → numbers' ++ numbers_from (k + 1) (drop (k + 1) table) ≡ whole
numbers-more table k numbers numbers' whole within so_far added =
    let here : List ℕ = (if is_source (kept_at table k) then k ∷ [] else []) in
    let rest : List ℕ = numbers_from (k + 1) (drop (k + 1) table) in
    ap (λ (ns : List ℕ). ns ++ rest) added ∙ append_assoc numbers here rest
    ∙ ap (λ (ns : List ℕ). numbers ++ ns) (sym (numbers_from-more table k within)) ∙ so_far

pub numbers-end : (table : Table) (k : ℕ) → length table ≤ k → numbers_from k (drop k table) ≡ []
unfolding numbers_from
numbers-end table k past = at_drop_all (numbers_from k) table k past
