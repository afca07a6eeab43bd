-- The marks of the lists of a tree are those of its cut.
use Rattle.std.proofs.Common.{◌≡◌, ℕ, ◌+◌, ◌-◌, ◌<◌, ◌≤◌, inl, inr, Bool, true, false, List, [], ◌∷◌, ◌++◌, refl, ap, sym, subst, ◌∙◌, arith}
use Rattle.std.specs.Prelude.{◌%◌}
use Rattle.std.proofs.lemmas.Bool.{cases_Bool, false≢true}
use Rattle.cs_base.proofs.NumberLemmas.{even_next, odd_next}
use Rattle.c99_tree.specs.Tree.{Forest, none, token, node}
use Rattle.c99_tree.specs.declared.production.Label.{Label}
use Rattle.c_types.specs.Lists.{odd_tokens}
use Rattle.c_types.proofs.TokenLemmas.{odd_here}
use Rattle.tree_laws.specs.TreesOfTexts.{token_count, AreFrom}
use Rattle.list_cuts.specs.Cuts.{Cut, done, keep, list, count_of, span_of}
use Rattle.reordered_tree_laws.specs.Reordered.{is_among}
use Rattle.reordered_tree_laws.specs.Cuts.{gap_in, cut_then, list_then, items_in, cut_in}
use Rattle.reordered_text_laws.specs.Marks.{ends_of, marks_of, marks_in, HasMarks, ItemsHaveMarks, Each}
use Rattle.reordered_text_laws.specs.Trees.{IsAmong, EachNode, has_no_node, is_woven, is_woven_on, ListIs, ListsAre, TreesHaveMarks}

lower : (from from2 at limit : ℕ) (c : Cut) → from ≤ from2 → HasMarks from2 at limit c → HasMarks from at limit c
lower from from2 at limit done le h = h
lower from from2 at limit (keep k c) le h = lower from from2 (at + k) limit c le h
lower from from2 at limit (list is c) le h = let lt = h.0 in (omega (arith, le, lt), h.1, h.2, h.3, h.4)

each_join : {X : Type 0} (P : X → Type 0) (xs ys : List X) → Each P xs → Each P ys → Each P (xs ++ ys)
each_join P [] ys h k = k
each_join P (x ∷ xs) ys h k = (h.0, each_join P xs ys h.1 k)

among_first : {X : Type 0} (xs ys : List X) (x : X) → IsAmong xs x → IsAmong (xs ++ ys) x
among_first [] ys x h = absurd h
among_first (z ∷ xs) ys x (inl e) = inl e
among_first (z ∷ xs) ys x (inr h) = inr (among_first xs ys x h)

among_later : {X : Type 0} (xs ys : List X) (x : X) → IsAmong ys x → IsAmong (xs ++ ys) x
among_later [] ys x h = h
among_later (z ∷ xs) ys x h = inr (among_later xs ys x h)

-- ---- the cut of items

-- how many tokens items have
span_items : (lists : ℕ → Bool) (f : Forest) → gap_in f + span_of (items_in lists f) ≡ token_count f
unfolding span_of
span_items lists none = refl
span_items lists (token i rest) = let h = span_items lists rest in omega (arith, h)
span_items lists (node l first under rest) = let h = span_items lists rest in omega (arith, h)

span_node : (lists : ℕ → Bool) (l : Label) (first : ℕ) (under rest : Forest) → span_of (items_in lists (node l first under rest)) ≡ token_count under + token_count rest
unfolding span_of
span_node lists l first under rest = let h = span_items lists rest in omega (arith, h)

module _ (lists : ℕ → Bool) where
  -- the marks behind woven items
  ends_woven : (l : Label) (first : ℕ) (under rest : Forest) (p k : ℕ) → k % 2 ≡ 0 → AreFrom p (node l first under rest) → is_woven_on rest ≡ true
      → ends_of p (items_in lists (node l first under rest)) ≡ odd_tokens k (node l first under rest) ++ (p + token_count (node l first under rest)) ∷ []
  unfolding ends_of
  ends_woven l first under none p k even from w =
      let same : p + token_count under ≡ p + (token_count under + 0) = omega arith in
      ap (λ (i : ℕ). i ∷ []) same
  ends_woven l first under (token i none) p k even from w = absurd (false≢true w)
  ends_woven l first under (token i (token j more)) p k even from w = absurd (false≢true w)
  ends_woven l first under (node m second u2 more) p k even from w = absurd (false≢true w)
  ends_woven l first under (token i (node m second u2 more)) p k even from w =
      let comma : i ≡ p + token_count under = from.2.0 in
      let next : p + (token_count under + 1) ≡ p + token_count under + 1 = omega arith in
      let rest_from : AreFrom (p + (token_count under + 1)) (node m second u2 more) = subst (λ (q : ℕ). AreFrom q (node m second u2 more)) (sym next) from.2.1 in
      let behind = ends_woven m second u2 more (p + (token_count under + 1)) (k + 1 + 1) (even_next (k + 1) (odd_next k even)) rest_from w in
      let last : p + (token_count under + 1) + token_count (node m second u2 more) ≡ p + (token_count under + (token_count (node m second u2 more) + 1)) = omega arith in
      ap (λ (q : ℕ). q ∷ ends_of (p + (token_count under + 1)) (items_in lists (node m second u2 more))) (sym comma)
      ∙ ap (λ (ms : List ℕ). i ∷ ms) behind
      ∙ ap (λ (q : ℕ). i ∷ (odd_tokens (k + 1 + 1) (node m second u2 more) ++ q ∷ [])) last
      ∙ ap (λ (ms : List ℕ). ms ++ (p + (token_count under + (token_count (node m second u2 more) + 1))) ∷ []) (sym (odd_here (k + 1) i (node m second u2 more) (odd_next k even)))

  -- identifiers alone are no items
  names_keep : (f : Forest) (from p limit : ℕ) (c : Cut) → has_no_node f ≡ true → HasMarks from (p + token_count f) limit c → HasMarks from p limit (list_then lists f c)
  names_keep none from p limit c w h = let same : p + 0 ≡ p = omega arith in subst (λ (q : ℕ). HasMarks from q limit c) same h
  names_keep (token i rest) from p limit c w h =
      names_keep rest from (p + 1) limit c w (let on : p + (token_count rest + 1) ≡ p + 1 + token_count rest = omega arith in subst (λ (q : ℕ). HasMarks from q limit c) on h)
  names_keep (node l first under rest) from p limit c w h = absurd (false≢true w)

  names_marks : (f : Forest) (p : ℕ) (c : Cut) → has_no_node f ≡ true → marks_of p (list_then lists f c) ≡ marks_of (p + token_count f) c
  unfolding marks_of
  names_marks none p c w = let same : p ≡ p + 0 = omega arith in ap (λ (q : ℕ). marks_of q c) same
  names_marks (token i rest) p c w =
      names_marks rest (p + 1) c w ∙ (let on : p + 1 + token_count rest ≡ p + (token_count rest + 1) = omega arith in ap (λ (q : ℕ). marks_of q c) on)
  names_marks (node l first under rest) p c w = absurd (false≢true w)

  ends_all : (f : Forest) (p : ℕ) → AreFrom p f → is_woven f ≡ true → ends_of p (items_in lists f) ≡ odd_tokens 0 f ++ (p + token_count f) ∷ []
  ends_all none p from w = absurd (false≢true w)
  ends_all (token i rest) p from w = absurd (false≢true w)
  ends_all (node l first under rest) p from w = ends_woven l first under rest p 0 refl from w

  -- a list of woven items
  woven_list : (f : Forest) (p from limit : ℕ) (c : Cut) → is_woven f ≡ true → from < p → p + token_count f < limit → ItemsHaveMarks p (items_in lists f)
      → HasMarks (p + token_count f + 1) (p + token_count f) limit c → HasMarks from p limit (list_then lists f c)
  unfolding count_of
  woven_list none p from limit c w lt far r h = absurd (false≢true w)
  woven_list (token i rest) p from limit c w lt far r h = absurd (false≢true w)
  woven_list (node l first under rest) p from limit c w lt far r h =
      let span : span_of (items_in lists (node l first under rest)) ≡ token_count under + token_count rest = span_node lists l first under rest in
      let place : p + (token_count under + token_count rest) ≡ p + span_of (items_in lists (node l first under rest)) = omega (arith, span) in
      (lt, omega arith, r, omega (arith, place, far), subst (λ (q : ℕ). HasMarks (q + 1) q limit c) place h)

  woven_marks : (f : Forest) (p : ℕ) (c : Cut) → is_woven f ≡ true
      → marks_of p (list_then lists f c) ≡ ((p - 1) ∷ ends_of p (items_in lists f)) ∷ (marks_in p (items_in lists f) ++ marks_of (p + token_count f) c)
  unfolding marks_of
  woven_marks none p c w = absurd (false≢true w)
  woven_marks (token i rest) p c w = absurd (false≢true w)
  woven_marks (node l first under rest) p c w =
      let span : span_of (items_in lists (node l first under rest)) ≡ token_count under + token_count rest = span_node lists l first under rest in
      ap (λ (q : ℕ). ((p - 1) ∷ ends_of p (items_in lists (node l first under rest))) ∷ (marks_in p (items_in lists (node l first under rest)) ++ marks_of (p + q) c)) span

  module _ (P : List ℕ → Type 0) where
    -- ---- marks stand in order

    abbrev Lists : Forest → Type 0
    Lists f = EachNode (ListsAre lists P) f

    -- So it is of some children from token k on, and what follows them.
    abbrev Laid : ℕ → Forest → Bool → Type 0
    Laid k f listed = (from limit : ℕ) (c : Cut) → from ≤ k → k + token_count f ≤ limit → HasMarks (k + token_count f) (k + token_count f) limit c → HasMarks from k limit (cut_then lists listed f c)

    node_by : (k : ℕ) (l : Label) (under : Forest) → (is_among lists l under ≡ true → Laid k under true) → Laid k under false → Laid k under (is_among lists l under)
    node_by k l under listed other = elim (cases_Bool (is_among lists l under)) [
      | inl e ↦ rw e (listed e)
      | inr e ↦ rw e other
    ]

    mutual
      unfolding span_of count_of

      tree_laid : (k : ℕ) (f : Forest) → AreFrom k f → Lists f → Laid k f false
      tree_laid k none w each = λ from limit c le in_ h. let same : k + 0 ≡ k = omega arith in lower from (k + 0) k limit c (omega (arith, le)) (subst (λ (q : ℕ). HasMarks (k + 0) q limit c) same h)
      tree_laid k (token i rest) w each = λ from limit c le in_ h.
          let on : k + (token_count rest + 1) ≡ k + 1 + token_count rest = omega arith in
          tree_laid (k + 1) rest w.1 each from limit c (omega (arith, le)) (omega (arith, in_)) (subst (λ (q : ℕ). HasMarks q q limit c) on h)
      tree_laid k (node l first under rest) w each = λ from limit c le in_ h.
          let on : k + (token_count under + token_count rest) ≡ k + token_count under + token_count rest = omega arith in
          node_by k l under (λ e. list_laid k under w.1 (each.0 e) each.1) (tree_laid k under w.1 each.1) from limit (cut_then lists false rest c) le (omega (arith, in_))
          (tree_laid (k + token_count under) rest w.2 each.2 (k + token_count under) limit c (omega arith) (omega (arith, in_)) (subst (λ (q : ℕ). HasMarks q q limit c) on h))

      list_laid : (k : ℕ) (under : Forest) → AreFrom k under → ListIs P under → Lists under → Laid k under true
      list_laid k (token i (token j none)) w own each = λ from limit c le in_ h.
          let on : k + (0 + 1 + 1) ≡ k + 1 + 1 = omega arith in
          lower from (k + (0 + 1 + 1)) (k + 1 + 1) limit c (omega (arith, le)) (subst (λ (q : ℕ). HasMarks (k + (0 + 1 + 1)) q limit c) on h)
      list_laid k (token i (node l first items (token j none))) w (inl names) each = λ from limit c le in_ h.
          let n : ℕ = token_count items in
          let on : k + (n + (0 + 1) + 1) ≡ k + 1 + n + 1 = omega arith in
          names_keep items from (k + 1) limit (keep 1 c) names
          (lower from (k + (n + (0 + 1) + 1)) (k + 1 + n + 1) limit c (omega (arith, le)) (subst (λ (q : ℕ). HasMarks (k + (n + (0 + 1) + 1)) q limit c) on h))
      list_laid k (token i (node l first items (token j none))) w (inr woven) each = λ from limit c le in_ h.
          let n : ℕ = token_count items in
          let r = items_laid (k + 1) items w.1.1 each.1 woven.0 in
          let place : k + 1 + n + 1 ≡ k + (n + (0 + 1) + 1) = omega arith in
          woven_list items (k + 1) from limit (keep 1 c) woven.0 (omega (arith, le)) (omega (arith, in_)) r (subst (λ (q : ℕ). HasMarks q q limit c) (sym place) h)
      list_laid k none w own each = absurd own
      list_laid k (node l first u rest) w own each = absurd own
      list_laid k (token i none) w own each = absurd own
      list_laid k (token i (token j (token m f))) w own each = absurd own
      list_laid k (token i (token j (node l first u f))) w own each = absurd own
      list_laid k (token i (node l first items none)) w own each = absurd own
      list_laid k (token i (node l first items (node m second u f))) w own each = absurd own
      list_laid k (token i (node l first items (token j (token m f)))) w own each = absurd own
      list_laid k (token i (node l first items (token j (node m second u f)))) w own each = absurd own

      items_laid : (p : ℕ) (f : Forest) → AreFrom p f → Lists f → is_woven f ≡ true → ItemsHaveMarks p (items_in lists f)
      items_laid p none w each woven = absurd (false≢true woven)
      items_laid p (token i f) w each woven = absurd (false≢true woven)
      items_laid p (node l first under none) w each woven =
          (node_by p l under (λ e. list_laid p under w.1 (each.0 e) each.1) (tree_laid p under w.1 each.1) p (p + token_count under) done (omega arith) (omega arith) tt, refl, tt)
      items_laid p (node l first under (token i none)) w each woven = absurd (false≢true woven)
      items_laid p (node l first under (token i (token j f))) w each woven = absurd (false≢true woven)
      items_laid p (node l first under (node m second u2 f)) w each woven = absurd (false≢true woven)
      items_laid p (node l first under (token i (node m second u2 f))) w each woven =
          let next : p + (token_count under + 1) ≡ p + token_count under + 1 = omega arith in
          let from : AreFrom (p + (token_count under + 1)) (node m second u2 f) = subst (λ (q : ℕ). AreFrom q (node m second u2 f)) (sym next) w.2.1 in (
            node_by p l under (λ e. list_laid p under w.1 (each.0 e) each.1) (tree_laid p under w.1 each.1) p (p + token_count under) done (omega arith) (omega arith) tt,
            refl,
            items_laid (p + (token_count under + 1)) (node m second u2 f) from each.2 woven,
          )

    -- ---- their marks

    -- So it is of the marks of some children from token k on, and of those that follow.
    abbrev Told : ℕ → Forest → Bool → Type 0
    Told k f listed = (c : Cut) → Each P (marks_of (k + token_count f) c) → Each P (marks_of k (cut_then lists listed f c))

    told_by : (k : ℕ) (l : Label) (under : Forest) → (is_among lists l under ≡ true → Told k under true) → Told k under false → Told k under (is_among lists l under)
    told_by k l under listed other = elim (cases_Bool (is_among lists l under)) [
      | inl e ↦ rw e (listed e)
      | inr e ↦ rw e other
    ]

    woven_told : (f : Forest) (p : ℕ) (c : Cut) → is_woven f ≡ true → P ((p - 1) ∷ ends_of p (items_in lists f)) → Each P (marks_in p (items_in lists f)) → Each P (marks_of (p + token_count f) c)
        → Each P (marks_of p (list_then lists f c))
    woven_told f p c w own inner rest = subst (λ (ls : List (List ℕ)). Each P ls) (sym (woven_marks f p c w)) (own, each_join P (marks_in p (items_in lists f)) (marks_of (p + token_count f) c) inner rest)

    mutual
      unfolding marks_of marks_in span_of

      tree_told : (k : ℕ) (f : Forest) → AreFrom k f → Lists f → Told k f false
      tree_told k none w each = λ c h. let same : k + 0 ≡ k = omega arith in subst (λ (q : ℕ). Each P (marks_of q c)) same h
      tree_told k (token i rest) w each = λ c h.
          let on : k + (token_count rest + 1) ≡ k + 1 + token_count rest = omega arith in
          tree_told (k + 1) rest w.1 each c (subst (λ (q : ℕ). Each P (marks_of q c)) on h)
      tree_told k (node l first under rest) w each = λ c h.
          let on : k + (token_count under + token_count rest) ≡ k + token_count under + token_count rest = omega arith in
          told_by k l under (λ e. list_told k under w.1 (each.0 e) each.1) (tree_told k under w.1 each.1) (cut_then lists false rest c)
          (tree_told (k + token_count under) rest w.2 each.2 c (subst (λ (q : ℕ). Each P (marks_of q c)) on h))

      list_told : (k : ℕ) (under : Forest) → AreFrom k under → ListIs P under → Lists under → Told k under true
      list_told k (token i (token j none)) w own each = λ c h. let on : k + (0 + 1 + 1) ≡ k + 1 + 1 = omega arith in subst (λ (q : ℕ). Each P (marks_of q c)) on h
      list_told k (token i (node l first items (token j none))) w (inl names) each = λ c h.
          let n : ℕ = token_count items in
          let on : k + (n + (0 + 1) + 1) ≡ k + 1 + n + 1 = omega arith in
          subst (λ (ls : List (List ℕ)). Each P ls) (sym (names_marks items (k + 1) (keep 1 c) names)) (subst (λ (q : ℕ). Each P (marks_of q c)) on h)
      list_told k (token i (node l first items (token j none))) w (inr woven) each = λ c h.
          let n : ℕ = token_count items in
          let place : k + 1 + n + 1 ≡ k + (n + (0 + 1) + 1) = omega arith in
          let begin : i ≡ k = w.0 in
          let close : j ≡ k + 1 + n = w.1.2.0 in
          woven_told items (k + 1) (keep 1 c) woven.0
          (subst P (ap (λ (q : ℕ). q ∷ (odd_tokens 0 items ++ j ∷ [])) begin ∙ ap (λ (q : ℕ). k ∷ (odd_tokens 0 items ++ q ∷ [])) close
          ∙ (let less : k ≡ k + 1 - 1 = omega arith in ap (λ (q : ℕ). q ∷ (odd_tokens 0 items ++ (k + 1 + n) ∷ [])) less)
          ∙ ap (λ (ms : List ℕ). (k + 1 - 1) ∷ ms) (sym (ends_all items (k + 1) w.1.1 woven.0))) woven.1)
          (items_told (k + 1) items w.1.1 each.1 woven.0) (subst (λ (q : ℕ). Each P (marks_of q c)) (sym place) h)
      list_told k none w own each = absurd own
      list_told k (node l first u rest) w own each = absurd own
      list_told k (token i none) w own each = absurd own
      list_told k (token i (token j (token m f))) w own each = absurd own
      list_told k (token i (token j (node l first u f))) w own each = absurd own
      list_told k (token i (node l first items none)) w own each = absurd own
      list_told k (token i (node l first items (node m second u f))) w own each = absurd own
      list_told k (token i (node l first items (token j (token m f)))) w own each = absurd own
      list_told k (token i (node l first items (token j (node m second u f)))) w own each = absurd own

      items_told : (p : ℕ) (f : Forest) → AreFrom p f → Lists f → is_woven f ≡ true → Each P (marks_in p (items_in lists f))
      items_told p none w each woven = absurd (false≢true woven)
      items_told p (token i f) w each woven = absurd (false≢true woven)
      items_told p (node l first under none) w each woven =
          each_join P (marks_of p (cut_then lists (is_among lists l under) under done)) []
          (told_by p l under (λ e. list_told p under w.1 (each.0 e) each.1) (tree_told p under w.1 each.1) done tt) tt
      items_told p (node l first under (token i none)) w each woven = absurd (false≢true woven)
      items_told p (node l first under (token i (token j f))) w each woven = absurd (false≢true woven)
      items_told p (node l first under (node m second u2 f)) w each woven = absurd (false≢true woven)
      items_told p (node l first under (token i (node m second u2 f))) w each woven =
          let next : p + (token_count under + 1) ≡ p + token_count under + 1 = omega arith in
          let from : AreFrom (p + (token_count under + 1)) (node m second u2 f) = subst (λ (q : ℕ). AreFrom q (node m second u2 f)) (sym next) w.2.1 in
          each_join P (marks_of p (cut_then lists (is_among lists l under) under done)) (marks_in (p + (token_count under + 1)) (items_in lists (node m second u2 f)))
          (told_by p l under (λ e. list_told p under w.1 (each.0 e) each.1) (tree_told p under w.1 each.1) done tt)
          (items_told (p + (token_count under + 1)) (node m second u2 f) from each.2 woven)

    -- ---- all lists have theirs

    abbrev All : (List (List ℕ)) → Forest → Type 0
    All ls f = EachNode (ListsAre lists (IsAmong ls)) f

    abbrev AllIn : (List (List ℕ)) → ℕ → Forest → Bool → Type 0
    AllIn ls k f listed = (c : Cut) → ((t : List ℕ) → IsAmong (marks_of k (cut_then lists listed f c)) t → IsAmong ls t) → All ls f × ((t : List ℕ) → IsAmong (marks_of (k + token_count f) c) t → IsAmong ls t)

    all_by : (ls : List (List ℕ)) (k : ℕ) (l : Label) (under : Forest) → (is_among lists l under ≡ true → AllIn ls k under true) → AllIn ls k under false → AllIn ls k under (is_among lists l under)
    all_by ls k l under listed other = elim (cases_Bool (is_among lists l under)) [
      | inl e ↦ rw e (listed e)
      | inr e ↦ rw e other
    ]

    -- the list itself has its marks among those of its cut
    own_by : (ls : List (List ℕ)) (k : ℕ) (l : Label) (under : Forest) (c : Cut) → (is_among lists l under ≡ true → ((t : List ℕ) → IsAmong (marks_of k (cut_then lists true under c)) t → IsAmong ls t) → ListIs (IsAmong ls) under)
        → ((t : List ℕ) → IsAmong (marks_of k (cut_then lists (is_among lists l under) under c)) t → IsAmong ls t) → ListsAre lists (IsAmong ls) l under
    own_by ls k l under c f h e = f e (subst (λ (b : Bool). (t : List ℕ) → IsAmong (marks_of k (cut_then lists b under c)) t → IsAmong ls t) e h)

    own_list : (ls : List (List ℕ)) (k : ℕ) (under : Forest) (c : Cut) → AreFrom k under → ListIs P under → ((t : List ℕ) → IsAmong (marks_of k (cut_then lists true under c)) t → IsAmong ls t) → ListIs (IsAmong ls) under
    unfolding marks_of
    own_list ls k (token i (token j none)) c w own h = tt
    own_list ls k (token i (node l first items (token j none))) c w (inl names) h = inl names
    own_list ls k (token i (node l first items (token j none))) c w (inr woven) h =
        let begin : i ≡ k = w.0 in
        let close : j ≡ k + 1 + token_count items = w.1.2.0 in
        let less : k + 1 - 1 ≡ k = omega arith in
        let same : (k + 1 - 1) ∷ ends_of (k + 1) (items_in lists items) ≡ i ∷ (odd_tokens 0 items ++ j ∷ []) =
        ap (λ (q : ℕ). q ∷ ends_of (k + 1) (items_in lists items)) (less ∙ sym begin) ∙ ap (λ (ms : List ℕ). i ∷ ms) (ends_all items (k + 1) w.1.1 woven.0)
        ∙ ap (λ (q : ℕ). i ∷ (odd_tokens 0 items ++ q ∷ [])) (sym close) in
        inr (
          woven.0,
          h (i ∷ (odd_tokens 0 items ++ j ∷ []))
              (subst (λ (xs : List (List ℕ)). IsAmong xs (i ∷ (odd_tokens 0 items ++ j ∷ []))) (sym (woven_marks items (k + 1) (keep 1 c) woven.0)) (inl same)),
        )
    own_list ls k none c w own h = absurd own
    own_list ls k (node l first u rest) c w own h = absurd own
    own_list ls k (token i none) c w own h = absurd own
    own_list ls k (token i (token j (token m f))) c w own h = absurd own
    own_list ls k (token i (token j (node l first u f))) c w own h = absurd own
    own_list ls k (token i (node l first items none)) c w own h = absurd own
    own_list ls k (token i (node l first items (node m second u f))) c w own h = absurd own
    own_list ls k (token i (node l first items (token j (token m f)))) c w own h = absurd own
    own_list ls k (token i (node l first items (token j (node m second u f)))) c w own h = absurd own

    no_nodes : (ls : List (List ℕ)) (f : Forest) → has_no_node f ≡ true → All ls f
    no_nodes ls none w = tt
    no_nodes ls (token i rest) w = no_nodes ls rest w
    no_nodes ls (node l first under rest) w = absurd (false≢true w)

    each_own : (ls : List (List ℕ)) (l : Label) (f : Forest) → has_no_node f ≡ true → ListIs P f → ListIs (IsAmong ls) f
    each_own ls l (token i (token j none)) w own = tt
    each_own ls l none w own = absurd own
    each_own ls l (node m first u rest) w own = absurd own
    each_own ls l (token i none) w own = absurd own
    each_own ls l (token i (token j (token m f))) w own = absurd own
    each_own ls l (token i (token j (node m first u f))) w own = absurd own
    each_own ls l (token i (node m first items f)) w own = absurd (false≢true w)

    each_woven : (ls : List (List ℕ)) (l : Label) (f : Forest) → is_woven f ≡ true → ListIs P f → ListIs (IsAmong ls) f
    each_woven ls l none w own = absurd own
    each_woven ls l (node m first u rest) w own = absurd own
    each_woven ls l (token i f) w own = absurd (false≢true w)

    abbrev ItemsIn : (List (List ℕ)) → ℕ → Forest → Type 0
    ItemsIn ls p f = ((t : List ℕ) → IsAmong (marks_in p (items_in lists f)) t → IsAmong ls t) → All ls f

    mutual
      unfolding marks_of marks_in span_of

      tree_all : (ls : List (List ℕ)) (k : ℕ) (f : Forest) → AreFrom k f → Lists f → AllIn ls k f false
      tree_all ls k none w each = λ c h. (tt, λ t a. let same : k + 0 ≡ k = omega arith in h t (subst (λ (q : ℕ). IsAmong (marks_of q c) t) same a))
      tree_all ls k (token i rest) w each = λ c h.
          let on : k + (token_count rest + 1) ≡ k + 1 + token_count rest = omega arith in
          let r = tree_all ls (k + 1) rest w.1 each c h in
          (r.0, λ t a. r.1 t (subst (λ (q : ℕ). IsAmong (marks_of q c) t) on a))
      tree_all ls k (node l first under rest) w each = λ c h.
          let on : k + (token_count under + token_count rest) ≡ k + token_count under + token_count rest = omega arith in
          let r = all_by ls k l under (λ e. list_all ls k under w.1 (each.0 e) each.1) (tree_all ls k under w.1 each.1) (cut_then lists false rest c) h in
          let q = tree_all ls (k + token_count under) rest w.2 each.2 c r.1 in
          ((own_by ls k l under (cut_then lists false rest c) (λ e. own_list ls k under (cut_then lists false rest c) w.1 (each.0 e)) h, r.0, q.0), λ t a. q.1 t (subst (λ (j : ℕ). IsAmong (marks_of j c) t) on a))

      list_all : (ls : List (List ℕ)) (k : ℕ) (under : Forest) → AreFrom k under → ListIs P under → Lists under → AllIn ls k under true
      list_all ls k (token i (token j none)) w own each = λ c h. (tt, λ t a. let on : k + (0 + 1 + 1) ≡ k + 1 + 1 = omega arith in h t (subst (λ (q : ℕ). IsAmong (marks_of q c) t) on a))
      list_all ls k (token i (node l first items (token j none))) w (inl names) each = λ c h.
          let n : ℕ = token_count items in
          let on : k + (n + (0 + 1) + 1) ≡ k + 1 + n + 1 = omega arith in
          let has : (t : List ℕ) → IsAmong (marks_of (k + 1 + n) (keep 1 c)) t → IsAmong ls t = λ t a. h t (subst (λ (xs : List (List ℕ)). IsAmong xs t) (sym (names_marks items (k + 1) (keep 1 c) names)) a) in
          ((λ e. each_own ls l items names (each.0 e), no_nodes ls items names, tt), λ t a. has t (subst (λ (q : ℕ). IsAmong (marks_of q c) t) on a))
      list_all ls k (token i (node l first items (token j none))) w (inr woven) each = λ c h.
          let n : ℕ = token_count items in
          let place : k + (n + (0 + 1) + 1) ≡ k + 1 + n + 1 = omega arith in
          let has : (t : List ℕ) → IsAmong (((k + 1 - 1) ∷ ends_of (k + 1) (items_in lists items)) ∷ (marks_in (k + 1) (items_in lists items) ++ marks_of (k + 1 + n) (keep 1 c))) t → IsAmong ls t =
          λ t a. h t (subst (λ (xs : List (List ℕ)). IsAmong xs t) (sym (woven_marks items (k + 1) (keep 1 c) woven.0)) a) in
          let below = items_all ls (k + 1) items w.1.1 each.1 woven.0
          (λ t a. has t (inr (among_first (marks_in (k + 1) (items_in lists items)) (marks_of (k + 1 + n) (keep 1 c)) t a))) in (
            (λ e. each_woven ls l items woven.0 (each.0 e), below, tt),
            λ t a. has t (inr (among_later (marks_in (k + 1) (items_in lists items)) (marks_of (k + 1 + n) (keep 1 c)) t (subst (λ (q : ℕ). IsAmong (marks_of q c) t) place a))),
          )
      list_all ls k none w own each = absurd own
      list_all ls k (node l first u rest) w own each = absurd own
      list_all ls k (token i none) w own each = absurd own
      list_all ls k (token i (token j (token m f))) w own each = absurd own
      list_all ls k (token i (token j (node l first u f))) w own each = absurd own
      list_all ls k (token i (node l first items none)) w own each = absurd own
      list_all ls k (token i (node l first items (node m second u f))) w own each = absurd own
      list_all ls k (token i (node l first items (token j (token m f)))) w own each = absurd own
      list_all ls k (token i (node l first items (token j (node m second u f)))) w own each = absurd own

      items_all : (ls : List (List ℕ)) (p : ℕ) (f : Forest) → AreFrom p f → Lists f → is_woven f ≡ true → ItemsIn ls p f
      items_all ls p none w each woven = absurd (false≢true woven)
      items_all ls p (token i f) w each woven = absurd (false≢true woven)
      items_all ls p (node l first under none) w each woven = λ h.
          let here : (t : List ℕ) → IsAmong (marks_of p (cut_then lists (is_among lists l under) under done)) t → IsAmong ls t =
          λ t a. h t (among_first (marks_of p (cut_then lists (is_among lists l under) under done)) [] t a) in
          let r = all_by ls p l under (λ e. list_all ls p under w.1 (each.0 e) each.1) (tree_all ls p under w.1 each.1) done here in
          (own_by ls p l under done (λ e. own_list ls p under done w.1 (each.0 e)) here, r.0, tt)
      items_all ls p (node l first under (token i none)) w each woven = absurd (false≢true woven)
      items_all ls p (node l first under (token i (token j f))) w each woven = absurd (false≢true woven)
      items_all ls p (node l first under (node m second u2 f)) w each woven = absurd (false≢true woven)
      items_all ls p (node l first under (token i (node m second u2 f))) w each woven = λ h.
          let next : p + (token_count under + 1) ≡ p + token_count under + 1 = omega arith in
          let from : AreFrom (p + (token_count under + 1)) (node m second u2 f) = subst (λ (q : ℕ). AreFrom q (node m second u2 f)) (sym next) w.2.1 in
          let first_of : List (List ℕ) = marks_of p (cut_then lists (is_among lists l under) under done) in
          let later : List (List ℕ) = marks_in (p + (token_count under + 1)) (items_in lists (node m second u2 f)) in
          let here : (t : List ℕ) → IsAmong (marks_of p (cut_then lists (is_among lists l under) under done)) t → IsAmong ls t = λ t a. h t (among_first first_of later t a) in
          let r = all_by ls p l under (λ e. list_all ls p under w.1 (each.0 e) each.1) (tree_all ls p under w.1 each.1) done here in
          let q = items_all ls (p + (token_count under + 1)) (node m second u2 f) from each.2 woven (λ t a. h t (among_later first_of later t a)) in
          (own_by ls p l under done (λ e. own_list ls p under done w.1 (each.0 e)) here, r.0, q)

pub trees_have_marks : TreesHaveMarks
unfolding marks_of
trees_have_marks = λ lists ls tree from each.
    let P : List ℕ → Type 0 = IsAmong ls in
    let n : ℕ = token_count tree.under in
    record {
      marks = tree_laid lists P 0 tree.under from each 0 n done (omega arith) (omega arith) tt;
      each = tree_told lists P 0 tree.under from each done tt;
      all = (tree_all lists P (marks_of 0 (cut_in lists tree)) 0 tree.under from each done (λ t a. a)).0;
    }
