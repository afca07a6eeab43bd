-- The names of a text agree with its tree in a new order of lists.
use Rattle.std.proofs.Common.{ℕ, ◌≡◌, true, false, List, [], length, map, inl, inr, refl, sym, ap, subst, ◌∙◌, arith}
use Rattle.std.specs.Prelude.{nat_lt}
use Rattle.std.proofs.lemmas.Bool.{cases_Bool, ltb-true, ltb-false}
use Rattle.std.proofs.lemmas.List.{length-map}
use Rattle.cs_base.specs.Token.{Token}
use Rattle.c99_tree.specs.Tree.{Forest}
use Rattle.name_chains.specs.Frames.{outermost, at_first}
use Rattle.tree_laws.specs.TreesOfTexts.{token_count}
use Rattle.list_cuts.specs.Cuts.{Cut, moved}
use Rattle.list_cuts.proofs.CutLemmas.{length-arranged}
use Rattle.tree_laws.specs.Agreeing.{agrees}
use Rattle.tree_laws.proofs.Outline.{Outline, all_agree}
use Rattle.tree_laws.proofs.Outlines.{outline, agrees_same}
use Rattle.reordered_tree_laws.specs.Reordered.{permuted, numbered}
use Rattle.reordered_tree_laws.specs.Cuts.{cut_in}
use Rattle.scope_bind.specs.Moved.{AreMovedTexts}
use Rattle.reordered_tree_laws.specs.Moving.{AreMovedTo}
use Rattle.reordered_tree_laws.proofs.MovedTrees.{AreSpans}
use Rattle.reordered_tree_laws.proofs.MovedHeads.{lowest_stays}
use Rattle.reordered_tree_laws.proofs.MovedPlaces.{moved-beyond, tokens_moved, texts_moved}
use Rattle.reordered_tree_laws.proofs.MovedOrders.{spans_permuted}
use Rattle.reordered_tree_laws.proofs.MovedUnits.{starts_go}
use Rattle.reordered_tree_laws.specs.ReorderedNames.{ReorderedNamesAgree}
use Rattle.reordered_tree_laws.proofs.Answered.{none_go}
use Rattle.reordered_tree_laws.proofs.OutlineSteps.{OutlinesGo}
use Rattle.reordered_tree_laws.proofs.Ready.{IsReady}
use Rattle.reordered_tree_laws.proofs.Unseen.{tested_all}
use Rattle.reordered_tree_laws.proofs.AgreeingLemmas.{SeenAlike}
use Rattle.reordered_tree_laws.proofs.NamesAgree.{agree_names}

pub reordered_names_agree : ReorderedNamesAgree
reordered_names_agree s old new order lists tree b of have can text agree =
    let n : ℕ = length old in
    let c : Cut = cut_in lists tree in
    let m : ℕ → ℕ = moved order c n in
    let f : Forest = tree.under in
    let places : AreMovedTo m 0 (permuted order lists false f) = tokens_moved order lists tree n can.many can.each of in
    let stays : m 0 ≡ 0 = elim (cases_Bool (nat_lt 0 n)) [
      | inl full ↦
          lowest_stays order lists can.many m f 0 0 (outermost n).label true 0 (outermost n).scope true of.tokens places can.formed can.each (omega (arith, of.all, ltb-true 0 n full))
      | inr empty ↦ moved-beyond n order c can.many can.each 0 (ltb-false 0 n empty)
    ] in
    let law : AreMovedTexts m old new = texts_moved order c old new can.many can.each text.texts stays in
    let spans0 : AreSpans m 0 0 (token_count f) = spans_permuted m old new law order lists can.many false f 0 0 can.each of.tokens places in
    let spans : AreSpans m 0 0 n = subst (λ (x : ℕ). AreSpans m 0 0 x) of.all spans0 in
    let o : Outline = outline (at_first n) in
    let begins : OutlinesGo m old new law 0 true 0 0 o o = record {
      label = refl;
      nth = refl;
      scope = record { depth = refl; ends = (starts_go m old new law n spans).frame.ends; outer = λ e. absurd (omega (arith, e)) };
      typedef = refl;
      kept = λ e. refl;
      entries = none_go m old new law 0 0 0;
    } in
    let ready : IsReady m old new law order lists false (outermost n).label true 0 (outermost n).scope true 0 0 f = record {
      from = of.tokens;
      to = places;
      forms = of.forms;
      fit = can.formed;
      cut = can.each;
      items = can.items;
      apart = can.apart;
    } in
    let over : Forest = numbered 0 (permuted order lists false f) in
    let agreed : all_agree s new over o ≡ true =
    agree_names m old new law order lists can.many s text.classes f 0 true true 0 0 o o [] [] ready have (omega arith) begins (inr (refl, refl))
    (tested_all s old (SeenAlike m old new law order lists can.many s [] []) (λ i. refl) (outermost n).label 0 f) (sym (agrees_same s old f (at_first n)) ∙ agree) in
    let words : Token → List ℕ = λ (t : Token). t.text in
    let long : length new ≡ n =
    sym (length-map new words) ∙ (ap (λ (xs : List (List ℕ)). length xs) text.texts ∙ (length-arranged (length order) order c (map words old) can.many can.each ∙ length-map old words)) in
    subst (λ (x : ℕ). agrees s new over (at_first x) ≡ true) (sym long) (agrees_same s new over (at_first n) ∙ agreed)
