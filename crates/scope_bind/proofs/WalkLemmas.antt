-- The walk over the children of a node, one child after another.
use Rattle.std.proofs.Common.{ℕ, ◌≡◌, List, refl, ap, ◌∙◌}
use Rattle.cs_base.specs.Token.{Token}
use Rattle.c99_tree.specs.Tree.{Forest, none, token, node}
use Rattle.c99_tree.specs.declared.production.Label.{Label}
use Rattle.c_types.specs.declared.frames.Frame.{Frame}
use Rattle.c_types.specs.Declarations.{Facts}
use Rattle.scope_bind.specs.Known.{Known, known}
use Rattle.name_chains.specs.Frames.{State, state}
use Rattle.name_chains.specs.Entering.{facts_in, frame_in, entered}
use Rattle.scope_bind.specs.Walk.{passed, facts_after, frame_after, left, walked}

module _ (toks : List Token) where
  pub walked-end : (f : Forest) (s : State) → f ≡ none → s ≡ walked toks f s
  unfolding walked
  walked-end f s e = rw e refl

  pub walked-token : (f r : Forest) (i : ℕ) (s : State) → f ≡ token i r → walked toks r (passed toks i s) ≡ walked toks f s
  unfolding walked
  walked-token f r i s e = rw e refl

  pub walked-node : (f r u : Forest) (l : Label) (first : ℕ) (s : State) → f ≡ node l first u r
      → walked toks r (left toks l first u s (walked toks u (entered toks l first u s))) ≡ walked toks f s
  unfolding walked
  walked-node f r u l first s e = rw e refl

  -- a node is entered, its children are read, and it is left
  pub node-left : (u : Forest) (l : Label) (first : ℕ) (F F1 F2 F3 : Facts) (f b child g : Frame) → b ≡ frame_in toks l u f F
      → F1 ≡ facts_in l.production first u f F → state F2 child ≡ walked toks u (state F1 b)
      → F3 ≡ facts_after toks l.production first f l u child.body F2 → g ≡ frame_after toks f l u child
      → state F3 g ≡ left toks l first u (state F f) (walked toks u (entered toks l first u (state F f)))
  node-left u l first F F1 F2 F3 f b child g begun entering inside leaving behind =
      rw (leaving, behind)
      (ap (left toks l first u (state F f))
      (inside ∙ ap (walked toks u) (ap (λ x. state x b) entering ∙ ap (λ y. state (facts_in l.production first u f F) y) begun)))

-- ---- The tokens stay

pub known-left : (u : Forest) (l : Label) (first : ℕ) (K K1 K2 K3 : Known) (T : List Token) (f b child g : Frame) → b ≡ frame_in K.toks l u f K.facts
    → K1 ≡ known K.toks (facts_in l.production first u f K.facts) → K2.toks ≡ K1.toks → state K2.facts child ≡ walked K1.toks u (state K1.facts b)
    → K3 ≡ known K2.toks (facts_after K2.toks l.production first f l u child.body K2.facts) → T ≡ K3.toks → g ≡ frame_after T f l u child
    → state K3.facts g ≡ left K.toks l first u (state K.facts f) (walked K.toks u (entered K.toks l first u (state K.facts f)))
known-left u l first K K1 K2 K3 T f b child g begun entering kept inside leaving of behind =
    let entered_toks : K1.toks ≡ K.toks = ap (λ k. k.toks) entering in
    let read_toks : K2.toks ≡ K.toks = kept ∙ entered_toks in
    let left_toks : T ≡ K.toks = of ∙ (ap (λ k. k.toks) leaving ∙ read_toks) in
    node-left K.toks u l first K.facts K1.facts K2.facts K3.facts f b child g begun (ap (λ k. k.facts) entering)
    (inside ∙ ap (λ ts. walked ts u (state K1.facts b)) entered_toks)
    (ap (λ k. k.facts) leaving ∙ ap (λ ts. facts_after ts l.production first f l u child.body K2.facts) read_toks)
    (behind ∙ ap (λ ts. frame_after ts f l u child) left_toks)
