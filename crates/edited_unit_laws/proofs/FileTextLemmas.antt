-- The text of a file in which lists change places is the old one in the new order.
use Rattle.std.proofs.Common.{◌≡◌, ℕ, zero, suc, ◌+◌, ◌-◌, List, [], ◌∷◌, length, map, refl, ap, sym, subst, ◌∙◌, arith}
use Rattle.std.proofs.lemmas.List.{length-map}
use Rattle.std.proofs.lemmas.Option.{none-some, same_Some}
use Rattle.cs_base.specs.Token.{Token}
use Rattle.line_shape.specs.declared.items.Item.{Item}
use Rattle.line_shape.specs.Items.{items_of, items_from}
use Rattle.lexer.specs.Tokens.{tokens_of, firsts_of}
use Rattle.lexer.proofs.ScanLemmas.{firsts_of-each as file_firsts}
use Rattle.lexer.proofs.TextLemmas.{file_text-firsts as text_firsts, file_text-toks as text_toks}
use Rattle.arranged_text_laws.specs.FileItems.{placed, FileItemsStay}
use Rattle.arranged_text_laws.specs.Runs.{Placed, toks_of, firsts_of as firsts_in}
use Rattle.arranged_text_laws.specs.Arranging.{place_in, line_in}
use Rattle.arranged_text_laws.specs.Tokens.{cut_in, token_there, without_gap}
use Rattle.arranged_text_laws.proofs.FileItemLemmas.{length-masked, toks_placed, firsts_placed}
use Rattle.arranged_text_laws.proofs.RunLemmas.{all_pieces}
use Rattle.list_cuts.specs.Cuts.{Cut, arranged}
use Rattle.expansion_laws.specs.Arranging.{in_lists}
use Rattle.unit_laws.specs.Files.{StandsFor, items_at}
use Rattle.unit_laws.specs.Walking.{IsOf}
use Rattle.unit_laws.proofs.ReorderedFileLemmas.{items_follow}
use Rattle.unit_laws.proofs.ReorderedPartLemmas.{no_list_between}
use Rattle.edited_unit_laws.specs.Texts.{TextsStand}
use Rattle.edited_unit_laws.proofs.BoundLemmas.{ItemApart, AreApart, items_apart, free_part}
use Rattle.edited_unit_laws.proofs.LooseLemmas.{stands_of}

apart_at : (c : Cut) (items : List Item) → AreApart c items → (it : Item) → IsOf items it → ItemApart c it
apart_at c [] h it at = absurd (none-some it at.1)
apart_at c (i ∷ items) h it (zero, is) = subst (ItemApart c) (same_Some i it is) h.0
apart_at c (i ∷ items) h it (suc k, is) = apart_at c items h.1 it (k, is)

-- the items of tokens with their places
placed_items : (ps : List Placed) → items_of (toks_of ps) (firsts_in ps) ≡ items_from 0 (all_pieces ps)
unfolding items_of
placed_items ps = refl

pub texts_stand : FileItemsStay → TextsStand
texts_stand stay = λ n order c file bytes text text2 is of within new runs read read2.
    let tc : Cut = cut_in file c bytes in
    let T : List Token = tokens_of file bytes in
    let toks : text.toks ≡ T = text_toks file bytes text read in
    let firsts : text.firsts ≡ firsts_of bytes = text_firsts file bytes text read in
    let toks2 = text_toks file (arranged order c bytes) text2 read2 in
    let firsts2 = text_firsts file (arranged order c bytes) text2 read2 in
    let there : List Token = map (token_there order c bytes) T in
    let long : length new.toks ≡ length T =
    sym (length-masked without_gap tc new.toks) ∙ ap length new.alike ∙ length-masked without_gap tc there ∙ length-map T (token_there order c bytes) in
    let even = file_firsts file bytes in
    let old_items : items_at text ≡ items_of T (firsts_of bytes) = ap (λ (l : List Token). items_of l text.firsts) toks ∙ ap (items_of T) firsts in
    let items_are : items_at text ≡ items_from 0 (all_pieces (placed T (firsts_of bytes))) =
    old_items ∙ sym (ap (λ (l : List Token). items_of l (firsts_in (placed T (firsts_of bytes)))) (toks_placed T (firsts_of bytes) even) ∙ ap (items_of T) (firsts_placed T (firsts_of bytes) even))
    ∙ placed_items (placed T (firsts_of bytes)) in
    let apart : (it : Item) → IsOf (items_at text) it → ItemApart tc it = λ it at.
    apart_at tc (items_from 0 (all_pieces (placed T (firsts_of bytes)))) (items_apart tc (placed T (firsts_of bytes)) (placed new.toks new.firsts) runs) it
    (subst (λ (l : List Item). IsOf l it) items_are at) in
    record {
      new = new.toks;
      many = long ∙ ap length (sym toks);
      stands = subst (λ (l : List Token). StandsFor tc new.toks l) (sym toks) (stands_of (place_in order c bytes) (line_in order c bytes) tc new.toks T long new.alike new.outside);
      toks = toks2 ∙ new.tokens;
      items = ap (λ (l : List Token). items_of l text2.firsts) toks2 ∙ ap (items_of (tokens_of file (arranged order c bytes))) firsts2 ∙ stay n order c file bytes is of within new runs ∙ sym old_items;
      begins = λ it at. (apart it at).begins;
      ends = λ it at. (apart it at).ends;
      others = λ it at other.
          let a = apart it at in
          let w = items_follow text it at in
          let le = w.0 in
          let zero_from : 0 + it.from ≡ it.from = omega arith in
          free_part it.from (it.to - it.from) tc (no_list_between 0 it.from tc (ap (λ (b : ℕ). in_lists 0 tc b) zero_from ∙ a.begins))
          (λ e small big. a.others other e small (omega (arith, big, le)));
    }
