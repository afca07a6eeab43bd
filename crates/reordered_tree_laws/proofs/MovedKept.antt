-- The names that a body has from the list that it begins with, in two texts that go together.
use Rattle.std.proofs.Common.{ℕ, ◌≡◌, Bool, true, false, ◌&&◌, not, cond, if◌then◌else◌, ◌==◌, List, [], ◌∷◌, ◌++◌, map, Option, None, Some, refl, sym, ap, subst, ◌∙◌}
use Rattle.std.specs.Prelude.{filter, filter_map, find, nat_lt}
use Rattle.std.specs.List.{cons_option}
use Rattle.std.specs.Option.{option_map}
use Rattle.std.proofs.lemmas.Bool.{and_parts}
use Rattle.cs_base.specs.Token.{Token}
use Rattle.cs_base.proofs.BoolLemmas.{and_true as and_all}
use Rattle.c_types.specs.Declarations.{Facts}
use Rattle.name_chains.specs.Entering.{is_member, kept_here, with_kept}
use Rattle.scope_bind.specs.Named.{Declaration}
use Rattle.scope_bind.specs.Moved.{IsMoved, AreMovedTexts}
use Rattle.reordered_tree_laws.specs.Moving.{AreMoved, AreToldAlike, Mark, named, tagged, joined, owned, labelled, placed, has_mark, is_of_list, Question, whole, living, listed, answers, moved_mark, moved_question, IsAhead, IsAsked, GoTogether}
use Rattle.reordered_tree_laws.proofs.MovedLists.{append_moved}
use Rattle.scope_bind.proofs.MovedSpaces.{same_number}

filter_append : (q : Declaration → Bool) (xs ys : List Declaration) → filter q (xs ++ ys) ≡ filter q xs ++ filter q ys
filter_append q [] ys = refl
filter_append q (x ∷ xs) ys = step (q x) (filter_append q xs ys)
  where
    step : (c : Bool) → filter q (xs ++ ys) ≡ filter q xs ++ filter q ys
        → cond c (x ∷ filter q (xs ++ ys)) (filter q (xs ++ ys)) ≡ cond c (x ∷ filter q xs) (filter q xs) ++ filter q ys
    step true e = ap (λ (zs : List Declaration). x ∷ zs) e
    step false e = e

-- the first of some, or another one
abbrev found_or : List Declaration → Option Declaration → Option Declaration
found_or [] other = other
found_or (x ∷ xs) other = Some x

find_before : (q : Declaration → Bool) (xs ys : List Declaration) → find q (xs ++ ys) ≡ found_or (filter q xs) (find q ys)
find_before q [] ys = refl
find_before q (x ∷ xs) ys = step (q x) (find_before q xs ys)
  where
    step : (c : Bool) → find q (xs ++ ys) ≡ found_or (filter q xs) (find q ys)
        → cond c (Some x) (find q (xs ++ ys)) ≡ found_or (cond c (x ∷ filter q xs) (filter q xs)) (find q ys)
    step true e = refl
    step false e = e

-- with the range of the body
abbrev stretched : ℕ → ℕ → Declaration → Declaration
stretched from to d = record d { from = from; to = to }

module _ (list from to : ℕ) (q here : Declaration → Bool) (c : Bool)
    (law : (d : Declaration) → is_of_list list d ≡ true → q (stretched from to d) ≡ (here d && c)) where
  abbrev st : Declaration → Declaration
  st d = stretched from to d

  kept_step : (d : Declaration) (fs ks : List Declaration) (h b a : Bool) → (b ≡ true → q (st d) ≡ (h && a)) → filter q fs ≡ cond a (map st ks) []
      → filter q (cons_option (if b then Some (st d) else None) fs) ≡ cond a (map st (cond (h && b) (d ∷ ks) ks)) []
  kept_step d fs ks true false a f e = e
  kept_step d fs ks false false a f e = e
  kept_step d fs ks true true true f e =
      ap (λ x. cond x (st d ∷ filter q fs) (filter q fs)) (f refl) ∙ ap (λ (zs : List Declaration). st d ∷ zs) e
  kept_step d fs ks true true false f e = ap (λ x. cond x (st d ∷ filter q fs) (filter q fs)) (f refl) ∙ e
  kept_step d fs ks false true a f e = ap (λ x. cond x (st d ∷ filter q fs) (filter q fs)) (f refl) ∙ e

  -- those of them that pass
  kept_filter : (ds : List Declaration)
      → filter q (filter_map (kept_here list 1 from to) ds) ≡ cond c (map st (filter (λ d. here d && is_of_list list d) ds)) []
  kept_filter [] = by c
    where
      by : (a : Bool) → [] ≡ cond a (map st []) []
      by true = refl
      by false = refl
  kept_filter (d ∷ ds) =
      kept_step d (filter_map (kept_here list 1 from to) ds) (filter (λ x. here x && is_of_list list x) ds) (here d) (is_of_list list d) c (law d) (kept_filter ds)

mark_same : (toks : List Token) (a : Mark) (from to : ℕ) (d : Declaration) → has_mark toks a (stretched from to d) ≡ has_mark toks a d
mark_same toks (named i) from to d = refl
mark_same toks (tagged i) from to d = refl
mark_same toks (joined i) from to d = refl
mark_same toks (owned n) from to d = refl
mark_same toks (labelled n) from to d = refl
mark_same toks (placed i) from to d = refl

-- what is asked of the range of the body
abbrev holds : ℕ → ℕ → Question → Bool
holds from to (whole a) = true
holds from to (living a k) = not (nat_lt k from) && nat_lt k to
holds from to (listed a l) = to == l

abbrev mark_of : Question → Mark
mark_of (whole a) = a
mark_of (living a k) = a
mark_of (listed a l) = a

kept_law : (toks : List Token) (list from to : ℕ) (q : Question) (d : Declaration) → is_of_list list d ≡ true
    → answers toks q (stretched from to d) ≡ (has_mark toks (mark_of q) d && holds from to q)
kept_law toks list from to (whole a) d e = mark_same toks a from to d ∙ and_all (has_mark toks a d)
kept_law toks list from to (living a k) d e = ap (λ b. b && (not (nat_lt k from) && nat_lt k to)) (mark_same toks a from to d)
kept_law toks list from to (listed a l) d e =
    let p = and_parts (d.to == list) ((d.depth == 1) && not (is_member d.space)) e in
    ap (λ b. b && ((to == l) && ((d.depth == 1) && not (is_member d.space)))) (mark_same toks a from to d)
    ∙ (ap (λ b. has_mark toks a d && ((to == l) && b)) p.1 ∙ ap (λ b. has_mark toks a d && b) (sym (and_all (to == l))))

module _ (m : ℕ → ℕ) (old new : List Token) (law : AreMovedTexts m old new) where
  map_moved : (from to from' to' : ℕ) (xs ys : List Declaration) → AreMoved m xs ys → AreMoved m (map (stretched from to) xs) (map (stretched from' to') ys)
  map_moved from to from' to' [] [] h = tt
  map_moved from to from' to' (x ∷ xs) (y ∷ ys) h =
      let s : IsMoved m x y = h.0 in (
        record {
          space = s.space;
          name_at = s.name_at;
          entity = s.entity;
          kind = s.kind;
          linkage = s.linkage;
          ctype = s.ctype;
          depth = s.depth;
          listed = s.listed;
        },
        map_moved from to from' to' xs ys h.1,
      )
  map_moved from to from' to' [] (y ∷ ys) h = absurd h
  map_moved from to from' to' (x ∷ xs) [] h = absurd h

  -- what is found in front tells the same where it is moved
  told_before : (p r : Declaration → Bool) (xs ys ds es : List Declaration) → AreMoved m (filter p xs) (filter r ys) → AreToldAlike (find p ds) (find r es)
      → AreToldAlike (find p (xs ++ ds)) (find r (ys ++ es))
  told_before p r xs ys ds es h t =
      subst (λ (x : Option Declaration). AreToldAlike x (find r (ys ++ es))) (sym (find_before p xs ds))
      (subst (λ (y : Option Declaration). AreToldAlike (found_or (filter p xs) (find p ds)) y) (sym (find_before r ys es))
      (by (filter p xs) (filter r ys) h))
    where
      by : (us vs : List Declaration) → AreMoved m us vs → AreToldAlike (found_or us (find p ds)) (found_or vs (find r es))
      by [] [] w = t
      by (u ∷ us) (v ∷ vs) w = ((w.0).kind, (w.0).linkage)
      by [] (v ∷ vs) w = absurd w
      by (u ∷ us) [] w = absurd w

  if_moved : (c b : Bool) (xs ys : List Declaration) → b ≡ c → AreMoved m xs ys → AreMoved m (cond c xs []) (cond b ys [])
  if_moved true true xs ys e h = h
  if_moved false false xs ys e h = tt
  if_moved true false xs ys e h = absurd cc
  if_moved false true xs ys e h = absurd cc

  mark_moves : (q : Question) → mark_of (moved_question m q) ≡ moved_mark m (mark_of q)
  mark_moves (whole a) = refl
  mark_moves (living a k) = refl
  mark_moves (listed a l) = refl

  module _ (lo there : ℕ) (f g : Facts) (k : GoTogether m old new lo there f g) (list from to from' to' : ℕ)
      (lives : (i : ℕ) → IsAhead m lo there i → (not (nat_lt (m i) from') && nat_lt (m i) to') ≡ (not (nat_lt i from) && nat_lt i to))
      (ends : to' ≡ m to) where
    holds_moved : (q : Question) → IsAsked m lo there q → holds from' to' (moved_question m q) ≡ holds from to q
    holds_moved (whole a) w = refl
    holds_moved (living (named i) n) w = lives n w
    holds_moved (living (tagged i) n) w = lives n w
    holds_moved (living (joined i) n) w = absurd w
    holds_moved (living (owned i) n) w = absurd w
    holds_moved (living (labelled i) n) w = absurd w
    holds_moved (living (placed i) n) w = absurd w
    holds_moved (listed a l) w = ap (λ (x : ℕ). x == m l) ends ∙ same_number m old new law to l

    kept_asked : (q : Question) → holds from' to' (moved_question m q) ≡ holds from to q
        → AreMoved m (filter (answers old q) (filter_map (kept_here list 1 from to) f.declared))
        (filter (answers new (moved_question m q)) (filter_map (kept_here (m list) 1 from' to') g.declared))
    kept_asked q same_holds =
        let here : Declaration → Bool = has_mark old (mark_of q) in
        let over : Declaration → Bool = has_mark new (mark_of (moved_question m q)) in
        let xs : List Declaration = filter (λ d. here d && is_of_list list d) f.declared in
        let ys : List Declaration = filter (λ d. over d && is_of_list (m list) d) g.declared in
        let same : AreMoved m xs ys =
        subst (λ (a : Mark). AreMoved m xs (filter (λ d. has_mark new a d && is_of_list (m list) d) g.declared)) (sym (mark_moves q))
        (k.asked (listed (mark_of q) list) tt) in
        subst (λ (zs : List Declaration). AreMoved m zs (filter (answers new (moved_question m q)) (filter_map (kept_here (m list) 1 from' to') g.declared)))
        (sym (kept_filter list from to (answers old q) here (holds from to q) (kept_law old list from to q) f.declared))
        (subst (λ (zs : List Declaration). AreMoved m (cond (holds from to q) (map (stretched from to) xs) []) zs)
        (sym (kept_filter (m list) from' to' (answers new (moved_question m q)) over (holds from' to' (moved_question m q))
        (kept_law new (m list) from' to' (moved_question m q)) g.declared))
        (if_moved (holds from to q) (holds from' to' (moved_question m q)) (map (stretched from to) xs) (map (stretched from' to') ys) same_holds
        (map_moved from to from' to' xs ys same)))

    pub list_moves : GoTogether m old new lo there (with_kept (Some list) 1 from to f) (with_kept (Some (m list)) 1 from' to' g)
    list_moves = record {
      asked = λ q w.
          let T : Declaration → Bool = answers old q in
          let T' : Declaration → Bool = answers new (moved_question m q) in
          let xs : List Declaration = filter_map (kept_here list 1 from to) f.declared in
          let ys : List Declaration = filter_map (kept_here (m list) 1 from' to') g.declared in
          subst (λ (zs : List Declaration). AreMoved m zs (filter T' (ys ++ g.declared))) (sym (filter_append T xs f.declared))
          (subst (λ (zs : List Declaration). AreMoved m (filter T xs ++ filter T f.declared) zs) (sym (filter_append T' ys g.declared))
          (append_moved m (filter T xs) (filter T' ys) (filter T f.declared) (filter T' g.declared) (kept_asked q (holds_moved q w)) (k.asked q w)));
      told = λ i.
          told_before (λ d. d.name_at == i) (λ d. d.name_at == m i) (filter_map (kept_here list 1 from to) f.declared)
          (filter_map (kept_here (m list) 1 from' to') g.declared) f.declared g.declared (kept_asked (whole (placed i)) refl) (k.told i);
      begun = k.begun;
      complete = k.complete;
      jumps = k.jumps;
      fault = k.fault;
      noted = k.noted;
    }

  pub kept_moves : (lo there : ℕ) (f g : Facts) (kept over : Option ℕ) (from to from' to' : ℕ) → GoTogether m old new lo there f g → over ≡ option_map m kept
      → ((i : ℕ) → IsAhead m lo there i → (not (nat_lt (m i) from') && nat_lt (m i) to') ≡ (not (nat_lt i from) && nat_lt i to)) → to' ≡ m to
      → GoTogether m old new lo there (with_kept kept 1 from to f) (with_kept over 1 from' to' g)
  kept_moves lo there f g None None from to from' to' k e lives ends = k
  kept_moves lo there f g (Some list) (Some l) from to from' to' k e lives ends =
      subst (λ (r : Option ℕ). GoTogether m old new lo there (with_kept (Some list) 1 from to f) (with_kept r 1 from' to' g)) (sym e)
      (list_moves lo there f g k list from to from' to' lives ends)
  kept_moves lo there f g None (Some l) from to from' to' k e lives ends = absurd cc
  kept_moves lo there f g (Some list) None from to from' to' k e lives ends = absurd cc
