-- The items of a list with their places, and what each adds.
use Rattle.std.proofs.Common.{ℕ, ◌+◌, ◌<◌, ◌≤◌, ◌≡◌, Bool, true, false, ◌&&◌, not, ◌==◌, List, [], ◌∷◌, cond, Some, ◌⊎◌, inl, inr, refl, sym, subst, ◌∙◌, arith}
use Rattle.std.specs.Prelude.{nat_lt, filter}
use Rattle.std.specs.List.{All}
use Rattle.std.proofs.lemmas.Slice.Eq.{bytes_eq-Decides}
use Rattle.std.proofs.lemmas.Bool.{false≢true, ltb-true, ltb-false, and_parts, eqb-true}
use Rattle.std.proofs.lemmas.List.Elements.{All-nil, All-cons, All-head, All-tail}
use Rattle.cs_base.specs.Token.{Token}
use Rattle.c99_tree.specs.Tree.{Forest, none, token, node, Node, node_of}
use Rattle.c99_tree.specs.declared.production.Label.{Label}
use Rattle.c_types.specs.Declarations.{alike, is_named, is_space, is_live, has_linkage, spelling_at}
use Rattle.c_types.specs.declared.declarations.Space.TheVariants.{Ordinary, Tags, Members, Inner, Unnamed, Labels}
use Rattle.name_chains.specs.Entering.{is_member}
use Rattle.scope_bind.specs.Named.{Space, Declaration, Occurrence, Frame, ordinary, tags, labels}
use Rattle.tree_laws.specs.TreesOfTexts.{token_count}
use Rattle.reordered_tree_laws.specs.Beside.{is_beside, beside_in}
use Rattle.reordered_tree_laws.specs.Adding.{IsNamedIn}
use Rattle.reordered_tree_laws.specs.Ranges.{has_range}
use Rattle.reordered_tree_laws.specs.Premises.{declared_name}
use Rattle.reordered_tree_laws.specs.Moving.{Mark, named, tagged, joined, owned, labelled, placed, is_owned, has_mark, is_of_list, Question, whole, living, listed, answers, IsAhead, IsAsked}
use Rattle.reordered_tree_laws.specs.Siblings.{Gain, is_between, IsItsName}

pub record Spot : Type 0 where
  pub label : Label
  pub first : ℕ
  pub under : Forest
  pub at : ℕ
  pub frame : Frame
  pub gain : Gain

abbrev pub spot_node : Spot → Node
spot_node p = node_of p.label p.first p.under

-- where it ends
abbrev pub end_of : Spot → ℕ
end_of p = p.at + token_count p.under

-- the children that are nodes, from a place and a frame on, with what they add
abbrev pub spots : Forest → ℕ → Frame → List Gain → List Spot
spots none at fr gs = []
spots (token i rest) at fr gs = spots rest (at + 1) (record fr { nth = fr.nth + 1; token = i }) gs
spots (node m first under rest) at fr [] = []
spots (node m first under rest) at fr (a ∷ gs) =
    record { label = m; first = first; under = under; at = at; frame = fr; gain = a }
    ∷ spots rest (at + token_count under) (record fr { nth = fr.nth + 1 }) gs

-- ---- What is so of each

-- it has ended in the item, where it stood in a list, or it is the name of the item
abbrev pub HasItsEnd : Spot → Declaration → Type 0
HasItsEnd p d =
    has_range d.space ≡ true → ((p.at ≤ d.to) × (d.to ≤ end_of p) × (p.frame.scope.depth + 1 ≤ d.depth)) ⊎ IsItsName (spot_node p) p.frame.scope d

-- what an item adds alone, as far as questions ask for it
pub record IsSpot (toks : List Token) (p : Spot) : Type 0 where
  pub beside : All (λ d. is_beside (is_between p.at (end_of p)) d ≡ true) p.gain.declared
  pub names : All (IsNamedIn p.at (end_of p)) p.gain.declared
  pub indices : All (λ (o : Occurrence). (p.at ≤ o.index) × (o.index < end_of p)) p.gain.occurrences
  pub ends : All (HasItsEnd p) p.gain.declared

-- the second stands behind the first, and the token in front of it does
abbrev pub IsBehind : Spot → Spot → Type 0
IsBehind p r = (end_of p + 1 ≤ r.at) × (end_of p ≤ r.frame.token)

-- one stands behind another, with a token between them, and neither asks for the other's name
pub record AreSpotsApart (toks : List Token) (p r : Spot) : Type 0 where
  pub behind : IsBehind p r ⊎ IsBehind r p
  pub depth : p.frame.scope.depth ≡ r.frame.scope.depth
  pub names : (i j : ℕ) → declared_name (spot_node p) ≡ Some i → declared_name (spot_node r) ≡ Some j → alike toks i j ≡ false

pub places_apart : (toks : List Token) (p r : Spot) → AreSpotsApart toks p r → (end_of p + 1 ≤ r.at) ⊎ (end_of r + 1 ≤ p.at)
places_apart toks p r h = by h.behind
  where
    by : IsBehind p r ⊎ IsBehind r p → (end_of p + 1 ≤ r.at) ⊎ (end_of r + 1 ≤ p.at)
    by (inl e) = inl e.0
    by (inr e) = inr e.0

alike_turned : (toks : List Token) (i j : ℕ) → alike toks i j ≡ false → alike toks j i ≡ false
alike_turned toks i j e = by (alike toks j i) refl
  where
    by : (c : Bool) → alike toks j i ≡ c → alike toks j i ≡ false
    by false w = w
    by true w =
        absurd (false≢true (sym e
        ∙ (bytes_eq-Decides (spelling_at toks i) (spelling_at toks j)).1 (sym ((bytes_eq-Decides (spelling_at toks j) (spelling_at toks i)).0 w))))

pub apart_turned : (toks : List Token) (p r : Spot) → AreSpotsApart toks p r → AreSpotsApart toks r p
apart_turned toks p r h = record {
  behind = by h.behind;
  depth = sym h.depth;
  names = λ i j e w. alike_turned toks j i (h.names j i w e);
}
  where
    by : IsBehind p r ⊎ IsBehind r p → IsBehind r p ⊎ IsBehind p r
    by (inl e) = inr e
    by (inr e) = inl e

-- ---- No question has an answer in both

pub none_passes : {X : Type 0} (q : X → Bool) (P : X → Type 0) (xs : List X) → All P xs → ((x : X) → P x → q x ≡ false) → filter q xs ≡ []
none_passes q P [] a f = refl
none_passes q P (x ∷ xs) a f = by (q x) (f x (All-head P x xs a)) (none_passes q P xs (All-tail P x xs a) f)
  where
    by : (c : Bool) → c ≡ false → filter q xs ≡ [] → cond c (x ∷ filter q xs) (filter q xs) ≡ []
    by true e w = absurd (false≢true (sym e))
    by false e w = w

-- the first one that passes, or none does
pub record Passes {X : Type 0} (q : X → Bool) (P : X → Type 0) : Type 0 where
  one : X
  passes : q one ≡ true
  holds : P one

one_passes : {X : Type 0} (q : X → Bool) (P : X → Type 0) (xs : List X) → All P xs → (filter q xs ≡ []) ⊎ Passes q P
one_passes q P [] a = inl refl
one_passes q P (x ∷ xs) a = by (q x) refl (one_passes q P xs (All-tail P x xs a))
  where
    by : (c : Bool) → q x ≡ c → (filter q xs ≡ []) ⊎ Passes q P → (cond c (x ∷ filter q xs) (filter q xs) ≡ []) ⊎ Passes q P
    by true e w = inr (record { one = x; passes = e; holds = All-head P x xs a })
    by false e w = w

-- all that is known of a declaration of an item
pub record IsAddedBy (toks : List Token) (p : Spot) (d : Declaration) : Type 0 where
  pub beside : is_beside (is_between p.at (end_of p)) d ≡ true
  pub named_in : IsNamedIn p.at (end_of p) d
  pub ends : HasItsEnd p d

zipped : (toks : List Token) (p : Spot) (ds : List Declaration) → All (λ d. is_beside (is_between p.at (end_of p)) d ≡ true) ds → All (IsNamedIn p.at (end_of p)) ds
    → All (HasItsEnd p) ds → All (IsAddedBy toks p) ds
zipped toks p [] a b c = All-nil (IsAddedBy toks p)
zipped toks p (d ∷ ds) a b c =
    let A : Declaration → Type 0 = λ x. is_beside (is_between p.at (end_of p)) x ≡ true in
    All-cons (IsAddedBy toks p) d ds
    (record { beside = All-head A d ds a; named_in = All-head (IsNamedIn p.at (end_of p)) d ds b; ends = All-head (HasItsEnd p) d ds c })
    (zipped toks p ds (All-tail A d ds a) (All-tail (IsNamedIn p.at (end_of p)) d ds b) (All-tail (HasItsEnd p) d ds c))

pub added_by : (toks : List Token) (p : Spot) → IsSpot toks p → All (IsAddedBy toks p) p.gain.declared
added_by toks p s = zipped toks p p.gain.declared s.beside s.names s.ends

pub between_parts : (lo hi k : ℕ) → is_between lo hi k ≡ true → (lo ≤ k) × (k < hi)
between_parts lo hi k e =
    let p = and_parts (not (nat_lt k lo)) (nat_lt k hi) e in
    (ltb-false k lo (not_true (nat_lt k lo) p.0), ltb-true k hi p.1)
  where
    not_true : (c : Bool) → not c ≡ true → c ≡ false
    not_true true w = sym w
    not_true false w = refl

-- two numbers of two items are not the same one
pub apart_numbers : (a b c d k : ℕ) → (b + 1 ≤ c) ⊎ (d + 1 ≤ a) → (a ≤ k) × (k < b) → (c ≤ k) × (k < d) → ⊥
apart_numbers a b c d k (inl e) p q = omega (arith, e, p.1, q.0)
apart_numbers a b c d k (inr e) p q = omega (arith, e, p.0, q.1)

module _ (toks : List Token) where
  named_space : (s : Space) → is_space s ordinary ≡ true → (is_member s ≡ false) × (has_range s ≡ true)
  named_space Ordinary e = (refl, refl)
  named_space Tags e = absurd (false≢true e)
  named_space (Members n) e = absurd (false≢true e)
  named_space (Inner n) e = absurd (false≢true e)
  named_space (Unnamed n) e = absurd (false≢true e)
  named_space (Labels n) e = absurd (false≢true e)

  tagged_space : (s : Space) → is_space s tags ≡ true → (is_member s ≡ false) × ((has_range s ≡ true) × (is_space s ordinary ≡ false))
  tagged_space Ordinary e = absurd (false≢true e)
  tagged_space Tags e = (refl, (refl, refl))
  tagged_space (Members n) e = absurd (false≢true e)
  tagged_space (Inner n) e = absurd (false≢true e)
  tagged_space (Unnamed n) e = absurd (false≢true e)
  tagged_space (Labels n) e = absurd (false≢true e)

  owned_number : (foreign : ℕ → Bool) (n i : ℕ) (s : Space) → is_owned n s ≡ true → beside_in foreign s i ≡ true → foreign n ≡ true
  owned_number foreign n i Ordinary e h = absurd (false≢true e)
  owned_number foreign n i Tags e h = absurd (false≢true e)
  owned_number foreign n i (Members k) e h = subst (λ (x : ℕ). foreign x ≡ true) (eqb-true k n e) h
  owned_number foreign n i (Inner k) e h = subst (λ (x : ℕ). foreign x ≡ true) (eqb-true k n e) h
  owned_number foreign n i (Unnamed k) e h = subst (λ (x : ℕ). foreign x ≡ true) (eqb-true k n e) h
  owned_number foreign n i (Labels k) e h = absurd (false≢true e)

  no_label_beside : (foreign : ℕ → Bool) (n i : ℕ) (s : Space) → is_space s (labels n) ≡ true → beside_in foreign s i ≡ true → ⊥
  no_label_beside foreign n i Ordinary e h = false≢true e
  no_label_beside foreign n i Tags e h = false≢true e
  no_label_beside foreign n i (Members k) e h = false≢true e
  no_label_beside foreign n i (Inner k) e h = false≢true e
  no_label_beside foreign n i (Unnamed k) e h = false≢true e
  no_label_beside foreign n i (Labels k) e h = false≢true h

  -- two tokens that are spelled as a third one are spelled alike
  alike_both : (i j k : ℕ) → alike toks i j ≡ true → alike toks i k ≡ true → alike toks j k ≡ true
  alike_both i j k e h =
      (bytes_eq-Decides (spelling_at toks j) (spelling_at toks k)).1
      (sym ((bytes_eq-Decides (spelling_at toks i) (spelling_at toks j)).0 e) ∙ (bytes_eq-Decides (spelling_at toks i) (spelling_at toks k)).0 h)

  module _ (m : ℕ → ℕ) (hi beyond : ℕ) (p r : Spot) (apart : AreSpotsApart toks p r) (before : end_of p + 1 ≤ hi) (before' : end_of r + 1 ≤ hi) where
    module _ (x y : Declaration) (a : IsAddedBy toks p x) (b : IsAddedBy toks r y) where
      both_named : (i : ℕ) → alike toks i x.name_at ≡ true → alike toks i y.name_at ≡ true → declared_name (spot_node p) ≡ Some x.name_at
          → declared_name (spot_node r) ≡ Some y.name_at → ⊥
      both_named i e h w v = false≢true (sym (apart.names x.name_at y.name_at w v) ∙ alike_both i x.name_at y.name_at e h)

      both_joined : (i : ℕ) → (is_named toks ordinary i x && has_linkage x.linkage) ≡ true → ⊥
      both_joined i e =
          let u = and_parts (is_space x.space ordinary && alike toks i x.name_at) (has_linkage x.linkage) e in
          let v = and_parts (is_space x.space ordinary) (alike toks i x.name_at) u.0 in
          false≢true (sym ((a.named_in ((named_space x.space v.0).0)).1) ∙ u.1)

      both_owned : (n : ℕ) → is_owned n x.space ≡ true → is_owned n y.space ≡ true → ⊥
      both_owned n e h =
          apart_numbers p.at (end_of p) r.at (end_of r) n (places_apart toks p r apart)
          (between_parts p.at (end_of p) n (owned_number (is_between p.at (end_of p)) n x.name_at x.space e a.beside))
          (between_parts r.at (end_of r) n (owned_number (is_between r.at (end_of r)) n y.name_at y.space h b.beside))

      both_placed : (i : ℕ) → is_member x.space ≡ false → is_member y.space ≡ false → (x.name_at == i) ≡ true → (y.name_at == i) ≡ true → ⊥
      both_placed i e h w v =
          let at : (p.at ≤ x.name_at) × (x.name_at < end_of p) = (a.named_in e).0 in
          let here : (r.at ≤ y.name_at) × (y.name_at < end_of r) = (b.named_in h).0 in
          apart_numbers p.at (end_of p) r.at (end_of r) i (places_apart toks p r apart) (omega (arith, at.0, eqb-true x.name_at i w), omega (arith, at.1, eqb-true x.name_at i w))
          (omega (arith, here.0, eqb-true y.name_at i v), omega (arith, here.1, eqb-true y.name_at i v))

      -- an identifier whose range lasts behind the list is the name of its item
      lasts : (k : ℕ) (q : Spot) (d : Declaration) → IsAddedBy toks q d → has_range d.space ≡ true → end_of q ≤ k → is_live k d ≡ true → IsItsName (spot_node q) q.frame.scope d
      lasts k q d w range far live = by (w.ends range)
        where
          by : ((q.at ≤ d.to) × (d.to ≤ end_of q) × (q.frame.scope.depth + 1 ≤ d.depth)) ⊎ IsItsName (spot_node q) q.frame.scope d → IsItsName (spot_node q) q.frame.scope d
          by (inl e) = absurd (omega (arith, e.1, far, ltb-true k d.to ((and_parts (not (nat_lt k d.from)) (nat_lt k d.to) live).1)))
          by (inr e) = e

      ahead_far : (k : ℕ) → IsAhead m hi beyond k → hi ≤ k + 1
      ahead_far k (inl e) = omega (arith, e.0)
      ahead_far k (inr e) = omega (arith, e.0)

      both_living : (i k : ℕ) → IsAhead m hi beyond k → (is_named toks ordinary i x && is_live k x) ≡ true → (is_named toks ordinary i y && is_live k y) ≡ true → ⊥
      both_living i k far e h =
          let u = and_parts (is_space x.space ordinary && alike toks i x.name_at) (is_live k x) e in
          let u' = and_parts (is_space x.space ordinary) (alike toks i x.name_at) u.0 in
          let v = and_parts (is_space y.space ordinary && alike toks i y.name_at) (is_live k y) h in
          let v' = and_parts (is_space y.space ordinary) (alike toks i y.name_at) v.0 in
          both_named i u'.1 v'.1 (lasts k p x a ((named_space x.space u'.0).1) (omega (arith, ahead_far k far, before)) u.1).name
          (lasts k r y b ((named_space y.space v'.0).1) (omega (arith, ahead_far k far, before')) v.1).name

      both_tagged : (i k : ℕ) → IsAhead m hi beyond k → (is_named toks tags i x && is_live k x) ≡ true → ⊥
      both_tagged i k far e =
          let u = and_parts (is_space x.space tags && alike toks i x.name_at) (is_live k x) e in
          let u' = and_parts (is_space x.space tags) (alike toks i x.name_at) u.0 in
          let s = tagged_space x.space u'.0 in
          false≢true (sym s.1.1 ∙ (lasts k p x a s.1.0 (omega (arith, ahead_far k far, before)) u.1).space)

      -- ---- Names of a list

      record OfList (l : ℕ) (d : Declaration) : Type 0 where
        to : d.to ≡ l
        depth : d.depth ≡ 1
        member : is_member d.space ≡ false

      of_list : (l : ℕ) (d : Declaration) → is_of_list l d ≡ true → OfList l d
      of_list l d e =
          let u = and_parts (d.to == l) ((d.depth == 1) && not (is_member d.space)) e in
          let v = and_parts (d.depth == 1) (not (is_member d.space)) u.1 in
          record { to = eqb-true d.to l u.0; depth = eqb-true d.depth 1 v.0; member = off (is_member d.space) v.1 }
        where
          off : (c : Bool) → not c ≡ true → c ≡ false
          off true w = sym w
          off false w = refl

      -- two names with ranges that end together in one depth
      both_listed : (l : ℕ) → has_range x.space ≡ true → has_range y.space ≡ true → OfList l x → OfList l y
          → (IsItsName (spot_node p) p.frame.scope x → IsItsName (spot_node r) r.frame.scope y → ⊥) → ⊥
      both_listed l rx ry ox oy names = by (a.ends rx) (b.ends ry)
        where
          by : ((p.at ≤ x.to) × (x.to ≤ end_of p) × (p.frame.scope.depth + 1 ≤ x.depth)) ⊎ IsItsName (spot_node p) p.frame.scope x
              → ((r.at ≤ y.to) × (y.to ≤ end_of r) × (r.frame.scope.depth + 1 ≤ y.depth)) ⊎ IsItsName (spot_node r) r.frame.scope y → ⊥
          by (inl e) (inl h) =
              apart_numbers p.at (end_of p + 1) r.at (end_of r + 1) l (widen (places_apart toks p r apart)) (omega (arith, e.0, ox.to), omega (arith, e.1, ox.to))
              (omega (arith, h.0, oy.to), omega (arith, h.1, oy.to))
            where
              widen : (end_of p + 1 ≤ r.at) ⊎ (end_of r + 1 ≤ p.at) → (end_of p + 1 + 1 ≤ r.at) ⊎ (end_of r + 1 + 1 ≤ p.at)
              widen z = absurd (far z)
                where
                  far : (end_of p + 1 ≤ r.at) ⊎ (end_of r + 1 ≤ p.at) → ⊥
                  far (inl w) = omega (arith, w, e.1, h.0, ox.to, oy.to)
                  far (inr w) = omega (arith, w, h.1, e.0, ox.to, oy.to)
          by (inl e) (inr h) = omega (arith, e.2, ox.depth, oy.depth, h.depth, apart.depth)
          by (inr e) (inl h) = omega (arith, h.2, ox.depth, oy.depth, e.depth, apart.depth)
          by (inr e) (inr h) = names e h

    -- ---- Each question

    abbrev Added : Declaration → Type 0
    Added d = IsAddedBy toks p d

    abbrev AddedThere : Declaration → Type 0
    AddedThere d = IsAddedBy toks r d

    not_both : (q : Question) → IsAsked m hi beyond q → (x y : Declaration) → Added x → AddedThere y → answers toks q x ≡ true → answers toks q y ≡ true → ⊥
    not_both (whole (named i)) w x y a b e h = absurd w
    not_both (whole (tagged i)) w x y a b e h = absurd w
    not_both (whole (joined i)) w x y a b e h = both_joined x y a b i e
    not_both (whole (owned n)) w x y a b e h = both_owned x y a b n e h
    not_both (whole (labelled n)) w x y a b e h = no_label_beside (is_between p.at (end_of p)) n x.name_at x.space e a.beside
    not_both (whole (placed i)) w x y a b e h = absurd w
    not_both (living (named i) k) w x y a b e h = both_living x y a b i k w e h
    not_both (living (tagged i) k) w x y a b e h = both_tagged x y a b i k w e
    not_both (living (joined i) k) w x y a b e h = absurd w
    not_both (living (owned n) k) w x y a b e h = absurd w
    not_both (living (labelled n) k) w x y a b e h = absurd w
    not_both (living (placed i) k) w x y a b e h = absurd w
    not_both (listed c l) w x y a b e h =
        let u = and_parts (has_mark toks c x) (is_of_list l x) e in
        let v = and_parts (has_mark toks c y) (is_of_list l y) h in
        by c u.0 v.0 (of_list x y a b l x u.1) (of_list x y a b l y v.1)
      where
        by : (z : Mark) → has_mark toks z x ≡ true → has_mark toks z y ≡ true → OfList x y a b l x → OfList x y a b l y → ⊥
        by (named i) f g ox oy =
            let f' = and_parts (is_space x.space ordinary) (alike toks i x.name_at) f in
            let g' = and_parts (is_space y.space ordinary) (alike toks i y.name_at) g in
            both_listed x y a b l ((named_space x.space f'.0).1) ((named_space y.space g'.0).1) ox oy (λ s t. both_named x y a b i f'.1 g'.1 s.name t.name)
        by (tagged i) f g ox oy =
            let f' = and_parts (is_space x.space tags) (alike toks i x.name_at) f in
            let g' = and_parts (is_space y.space tags) (alike toks i y.name_at) g in
            let s = tagged_space x.space f'.0 in
            both_listed x y a b l s.1.0 ((tagged_space y.space g'.0).1.0) ox oy (λ n t. false≢true (sym s.1.1 ∙ n.space))
        by (joined i) f g ox oy = both_joined x y a b i f
        by (owned n) f g ox oy = both_owned x y a b n f g
        by (labelled n) f g ox oy = no_label_beside (is_between p.at (end_of p)) n x.name_at x.space f a.beside
        by (placed i) f g ox oy = both_placed x y a b i ox.member oy.member f g

    -- no question is answered in both
    pub answered_once : IsSpot toks p → IsSpot toks r → (q : Question) → IsAsked m hi beyond q
        → (filter (answers toks q) p.gain.declared ≡ []) ⊎ (filter (answers toks q) r.gain.declared ≡ [])
    answered_once s t q w = by (one_passes (answers toks q) Added p.gain.declared (added_by toks p s)) (one_passes (answers toks q) AddedThere r.gain.declared (added_by toks r t))
      where
        by : (filter (answers toks q) p.gain.declared ≡ []) ⊎ Passes (answers toks q) Added
            → (filter (answers toks q) r.gain.declared ≡ []) ⊎ Passes (answers toks q) AddedThere
            → (filter (answers toks q) p.gain.declared ≡ []) ⊎ (filter (answers toks q) r.gain.declared ≡ [])
        by (inl e) h = inl e
        by (inr x) (inl h) = inr h
        by (inr x) (inr y) = absurd (not_both q w x.one y.one x.holds y.holds x.passes y.passes)

    -- and no token is noted in both
    pub noted_once : IsSpot toks p → IsSpot toks r → (i : ℕ)
        → (filter (λ (o : Occurrence). o.index == i) p.gain.occurrences ≡ []) ⊎ (filter (λ (o : Occurrence). o.index == i) r.gain.occurrences ≡ [])
    noted_once s t i =
        by (one_passes (λ (o : Occurrence). o.index == i) (λ (o : Occurrence). (p.at ≤ o.index) × (o.index < end_of p)) p.gain.occurrences s.indices)
        (one_passes (λ (o : Occurrence). o.index == i) (λ (o : Occurrence). (r.at ≤ o.index) × (o.index < end_of r)) r.gain.occurrences t.indices)
      where
        by : (filter (λ (o : Occurrence). o.index == i) p.gain.occurrences ≡ []) ⊎ Passes (λ (o : Occurrence). o.index == i) (λ (o : Occurrence). (p.at ≤ o.index) × (o.index < end_of p))
            → (filter (λ (o : Occurrence). o.index == i) r.gain.occurrences ≡ []) ⊎ Passes (λ (o : Occurrence). o.index == i) (λ (o : Occurrence). (r.at ≤ o.index) × (o.index < end_of r))
            → (filter (λ (o : Occurrence). o.index == i) p.gain.occurrences ≡ []) ⊎ (filter (λ (o : Occurrence). o.index == i) r.gain.occurrences ≡ [])
        by (inl e) h = inl e
        by (inr x) (inl h) = inr h
        by (inr x) (inr y) =
            let same : x.one.index ≡ i = eqb-true x.one.index i x.passes in
            let also : y.one.index ≡ i = eqb-true y.one.index i y.passes in
            absurd (apart_numbers p.at (end_of p) r.at (end_of r) i (places_apart toks p r apart) (omega (arith, x.holds.0, same), omega (arith, x.holds.1, same))
            (omega (arith, y.holds.0, also), omega (arith, y.holds.1, also)))
