-- A part of a unit binds alike whatever stands beside it.
use Rattle.std.proofs.Common.{ℕ, ◌+◌, ◌≡◌, Bool, true, false, ◌&&◌, not, List, refl, sym, subst}
use Rattle.std.proofs.lemmas.Bool.{and_parts}
use Rattle.cs_base.specs.Token.{Token}
use Rattle.cs_base.proofs.BoolLemmas.{not_true as not_false}
use Rattle.c99_tree.specs.Tree.{Forest, none, token, node}
use Rattle.c99_tree.specs.declared.production.Label.{Label}
use Rattle.name_chains.specs.Frames.{State, state}
use Rattle.name_chains.specs.Entering.{scope_in, entered}
use Rattle.scope_bind.specs.Named.{Declaration, Occurrence}
use Rattle.scope_bind.specs.Walk.{passed, left, walked}
use Rattle.reordered_tree_laws.specs.Beside.{is_free_token, is_free_node, is_apart, StandBeside, PartsBindAlike}
use Rattle.reordered_tree_laws.proofs.BesideSteps.{passed_beside, entered_beside, after_beside, frame_own}

module _ (toks : List Token) (foreign : ℕ → Bool) (zero_own : foreign 0 ≡ false) (ds es : List Declaration) (bs cs : List Occurrence) where
  abbrev Stand : State → State → Type 0
  Stand s t = StandBeside foreign ds es bs cs s t

  -- a token and the children behind it, and a node, ask for none of the declarations
  record IsTokenApart (xs : List Declaration) (l : Label) (k : ℕ) (s : State) (i : ℕ) (rest : Forest) : Type 0 where
    mine : foreign i ≡ false
    free : is_free_token foreign toks xs l.production l.alternative k s.frame.scope i ≡ true
    more : is_apart foreign toks xs l (k + 1) s.frame.scope rest ≡ true

  token_parts : (xs : List Declaration) (l : Label) (k : ℕ) (s : State) (i : ℕ) (rest : Forest)
      → is_apart foreign toks xs l k s.frame.scope (token i rest) ≡ true → IsTokenApart xs l k s i rest
  token_parts xs l k s i rest e =
      let free : Bool = is_free_token foreign toks xs l.production l.alternative k s.frame.scope i in
      let more : Bool = is_apart foreign toks xs l (k + 1) s.frame.scope rest in
      let p = and_parts (not (foreign i)) (free && more) e in
      let q = and_parts free more p.1 in
      record { mine = not_false (foreign i) p.0; free = q.0; more = q.1 }

  record IsNodeApart (xs : List Declaration) (l : Label) (k : ℕ) (s : State) (m : Label) (first : ℕ) (under rest : Forest) : Type 0 where
    mine : foreign first ≡ false
    free : is_free_node foreign toks xs m.production l.production m first under s.frame.scope ≡ true
    below : is_apart foreign toks xs m 0 (scope_in m.production m under s.frame.scope) under ≡ true
    more : is_apart foreign toks xs l (k + 1) s.frame.scope rest ≡ true

  node_parts : (xs : List Declaration) (l : Label) (k : ℕ) (s : State) (m : Label) (first : ℕ) (under rest : Forest)
      → is_apart foreign toks xs l k s.frame.scope (node m first under rest) ≡ true → IsNodeApart xs l k s m first under rest
  node_parts xs l k s m first under rest e =
      let free : Bool = is_free_node foreign toks xs m.production l.production m first under s.frame.scope in
      let below : Bool = is_apart foreign toks xs m 0 (scope_in m.production m under s.frame.scope) under in
      let more : Bool = is_apart foreign toks xs l (k + 1) s.frame.scope rest in
      let p = and_parts (not (foreign first)) (free && (below && more)) e in
      let q = and_parts free (below && more) p.1 in
      let r = and_parts below more q.1 in
      record { mine = not_false (foreign first) p.0; free = q.0; below = r.0; more = r.1 }

  passed_stand : (i : ℕ) (s t : State) → Stand s t → foreign i ≡ false
      → is_free_token foreign toks ds s.frame.label.production s.frame.label.alternative s.frame.nth s.frame.scope i ≡ true
      → is_free_token foreign toks es s.frame.label.production s.frame.label.alternative s.frame.nth s.frame.scope i ≡ true
      → Stand (passed toks i s) (passed toks i t)
  passed_stand i s t k mine d e =
      subst (λ x. Stand (passed toks i s) (passed toks i (state t.facts x))) (sym k.frame)
      (passed_beside toks foreign zero_own ds es bs cs s.frame k.owned s.facts t.facts k.facts i
      s.frame.label.production s.frame.label.alternative s.frame.nth mine d e)

  entered_stand : (l : Label) (first : ℕ) (under : Forest) (s t : State) → Stand s t
      → is_free_node foreign toks ds l.production s.frame.label.production l first under s.frame.scope ≡ true
      → Stand (entered toks l first under s) (entered toks l first under t)
  entered_stand l first under s t k d =
      subst (λ x. Stand (entered toks l first under s) (entered toks l first under (state t.facts x))) (sym k.frame)
      (entered_beside toks foreign zero_own ds es bs cs s.frame k.owned s.facts t.facts k.facts s.frame.label.production l first under d)

  left_stand : (l : Label) (first : ℕ) (under : Forest) (s t s' t' : State) → Stand s t → Stand s' t' → foreign first ≡ false
      → is_free_node foreign toks ds l.production s.frame.label.production l first under s.frame.scope ≡ true
      → is_free_node foreign toks es l.production s.frame.label.production l first under s.frame.scope ≡ true
      → Stand (left toks l first under s s') (left toks l first under t t')
  left_stand l first under s t s' t' k k' mine d e =
      subst (λ x. Stand (left toks l first under s s') (left toks l first under (state t.facts x) t')) (sym k.frame)
      (subst (λ x. Stand (left toks l first under s s') (left toks l first under (state t.facts s.frame) (state t'.facts x))) (sym k'.frame)
      (record {
        facts = after_beside toks foreign zero_own ds es bs cs s.frame k.owned s'.facts t'.facts k'.facts l.production l first under s'.frame.body mine d e;
        frame = refl;
        owned = frame_own toks foreign zero_own ds es bs cs s.frame k.owned l under s'.frame k'.owned;
      }))

  pub walk_beside : (f : Forest) (s t : State) → Stand s t
      → is_apart foreign toks ds s.frame.label s.frame.nth s.frame.scope f ≡ true → is_apart foreign toks es s.frame.label s.frame.nth s.frame.scope f ≡ true
      → Stand (walked toks f s) (walked toks f t)
  unfolding walked
  walk_beside none s t k d e = k
  walk_beside (token i rest) s t k d e =
      let p = token_parts ds s.frame.label s.frame.nth s i rest d in
      let q = token_parts es s.frame.label s.frame.nth s i rest e in
      walk_beside rest (passed toks i s) (passed toks i t) (passed_stand i s t k p.mine p.free q.free) p.more q.more
  walk_beside (node l first under rest) s t k d e =
      let p = node_parts ds s.frame.label s.frame.nth s l first under rest d in
      let q = node_parts es s.frame.label s.frame.nth s l first under rest e in
      let s1 : State = entered toks l first under s in
      let t1 : State = entered toks l first under t in
      let inside : Stand (walked toks under s1) (walked toks under t1) =
      walk_beside under s1 t1 (entered_stand l first under s t k p.free) p.below q.below in
      walk_beside rest (left toks l first under s (walked toks under s1)) (left toks l first under t (walked toks under t1))
      (left_stand l first under s t (walked toks under s1) (walked toks under t1) k inside p.mine p.free q.free) p.more q.more

pub parts_bind_alike : PartsBindAlike
parts_bind_alike toks foreign ds es bs cs f s t zero_own k d e = walk_beside toks foreign zero_own ds es bs cs f s t k d e
