-- A file whose lists may move has a text and the items that it had once their items are in another order.
use Rattle.std.proofs.Common.{◌≡◌, ℕ, ◌<◌, ◌≤◌, true, ◌&&◌, ◌==◌, nat_le, List, [], ◌∷◌, length, map, refl, sym, ap, subst, ◌∙◌, arith}
use Rattle.std.specs.List.{list_all}
use Rattle.std.proofs.lemmas.Bool.{and_from, le-leb, eq-eqb}
use Rattle.std.proofs.lemmas.List.{length-map}
use Rattle.lexer.specs.Tokens.{tokens_of, firsts_of}
use Rattle.lexer.specs.FileText.{file_text}
use Rattle.list_cuts.specs.declared.spans.Span.{Span}
use Rattle.list_cuts.specs.Cuts.{Cut, extent_of, AreOf}
use Rattle.list_cuts.specs.Spans.{end_of, stand_in_order, fits}
use Rattle.list_cuts.specs.CutOf.{cut_of}
use Rattle.list_cuts.proofs.CutOfLemmas.{all-as-cut}
use Rattle.arranged_text_laws.specs.Arranging.{character_cut}
use Rattle.arranged_text_laws.specs.Tokens.{cut_in}
use Rattle.arranged_text_laws.specs.FileItems.{placed, FileRuns}
use Rattle.arranged_text_laws.proofs.FileLemmas.{of_weighed}
use Rattle.arranged_text_laws.proofs.TokenLaw.{tokens_of_files_are_arranged}
use Rattle.arranged_text_laws.proofs.FileItemLemmas.{file_items_stay}
use Rattle.arranged_text_laws.specs.Lists.{ListMoves}
use Rattle.arranged_text_laws.specs.Moving.{byte_lists, AreLong, FilesAreArranged}
use Rattle.arranged_text_laws.proofs.Formed.{Chain, chain_end, AllSo}
use Rattle.arranged_text_laws.proofs.Widened.{Widens, wide_span}
use Rattle.arranged_text_laws.proofs.ByteWalk.{first_of, end_of as end_byte_of, bytes_widen}
use Rattle.arranged_text_laws.proofs.FileRuns.{same_directives, file_runs}
use Rattle.arranged_text_laws.proofs.MayLaw.{so, formed_cut, led, tree, close_short, bytes_within_all, file_moves}

-- ---- lists fit

module _ (B E : ℕ → ℕ) (size : ℕ) (w : Widens B E size) (bytes_long : ℕ) (inside : (k : ℕ) → 0 < k → k ≤ size → E k ≤ bytes_long) where
  stands : (more : List Span) (s : Span) (from : ℕ) → Chain (s ∷ more) → end_of s more ≤ size → from ≤ B s.begin → stand_in_order from bytes_long (map (wide_span B E size w) (s ∷ more)) ≡ true
  unfolding stand_in_order end_of
  stands [] s from chain within le =
      let big = w.whole s.begin s.end chain within in
      let last = inside s.end (omega (arith, chain)) within in
      and_from (nat_le from (B s.begin)) (nat_le (B s.begin) (E s.end) && nat_le (E s.end) bytes_long) (le-leb from (B s.begin) le)
      (and_from (nat_le (B s.begin) (E s.end)) (nat_le (E s.end) bytes_long) (le-leb (B s.begin) (E s.end) (omega (arith, big))) (le-leb (E s.end) bytes_long last))
  stands (t ∷ more) s from chain within le =
      let late = chain_end more t chain.2 in
      let big = w.whole s.begin s.end chain.0 (omega (arith, chain.1, late, within)) in
      let over = w.apart s.end t.begin (omega (arith, chain.0)) (omega (arith, chain.1)) (omega (arith, late, within)) in
      and_from (nat_le from (B s.begin)) (nat_le (B s.begin) (E s.end) && stand_in_order (E s.end) bytes_long (map (wide_span B E size w) (t ∷ more))) (le-leb from (B s.begin) le)
      (and_from (nat_le (B s.begin) (E s.end)) (stand_in_order (E s.end) bytes_long (map (wide_span B E size w) (t ∷ more))) (le-leb (B s.begin) (E s.end) (omega (arith, big)))
      (stands more t (E s.end) chain.2 within over))

  all_fit : (order : List ℕ) (q : List Span → Type 0) (lists : List (List Span)) → AllSo q size lists → AreLong (length order) lists
      → list_all (λ l. fits order l bytes_long) (map (map (wide_span B E size w)) lists) ≡ true
  all_fit order q [] all long = refl
  all_fit order q ([] ∷ lists) all long = absurd all.1
  all_fit order q ((s ∷ more) ∷ lists) all long =
      let l = map (wide_span B E size w) (s ∷ more) in
      let many : length l ≡ length order = length-map (s ∷ more) (wide_span B E size w) ∙ long.0 in
      and_from (fits order l bytes_long) (list_all (λ m. fits order m bytes_long) (map (map (wide_span B E size w)) lists))
      (and_from (length l == length order) (stand_in_order 0 bytes_long l) (eq-eqb (length l) (length order) many) (stands more s 0 all.1 all.2 (omega arith)))
      (all_fit order q lists all.4 long.1)

-- ---- the law

pub files_are_arranged : FilesAreArranged
unfolding file_text
files_are_arranged = λ order file bytes lists is long h.
    let toks = tokens_of file bytes in
    let size = length toks in
    let B = λ (k : ℕ). first_of bytes toks k in
    let E = λ (k : ℕ). end_byte_of bytes toks k in
    let w = bytes_widen file bytes h.shut in
    let d = cut_of (byte_lists file bytes lists) in
    let c = cut_of lists in
    let m = file_moves file bytes lists h in
    let f = formed_cut file bytes lists h in
    let l = led file bytes lists h in
    let fit = all_fit B E size w (length bytes) (bytes_within_all file bytes h.shut) order (ListMoves file bytes) lists (so file bytes lists h) long in
    let as_cut = all-as-cut order (byte_lists file bytes lists) bytes is fit m.nested in
    let all : AreOf (length order) d = as_cut.1 in
    let new = tokens_of_files_are_arranged (length order) order d file bytes is all m.moves h.shut in
    let all_chars : AreOf (length order) (character_cut d bytes) = of_weighed (length order) d _ all in
    let all_tokens : AreOf (length order) (cut_in file d bytes) = of_weighed (length order) (character_cut d bytes) _ all_chars in
    let small : extent_of (cut_in file d bytes) ≤ size = subst (λ (k : Cut). extent_of k ≤ size) (sym m.cut) f.small in
    let vs = placed new.toks new.firsts in
    let ps = placed toks (firsts_of bytes) in
    let same = same_directives file bytes h.shut order d c (extent_of c) m.cut f.formed (omega arith) (omega (arith, close_short file bytes lists h)) (tree file bytes lists h) new in
    let as_long : length vs ≡ length ps = sym (length-map vs _) ∙ ap length same ∙ length-map ps _ in
    let runs : FileRuns c ps vs = file_runs file bytes h.shut vs same c f.formed l.0 f.each l.1 (omega (arith, close_short file bytes lists h)) as_long in
    record {
      fit = fit;
      bytes_arranged = as_cut.0;
      new = new;
      cut = m.cut;
      read = rw (new.size, h.small, new.shut) refl;
      items = file_items_stay (length order) order d file bytes is all_tokens small new (subst (λ (k : Cut). FileRuns k ps vs) (sym m.cut) runs);
    }
