-- The walk over the children of a node of GNU C, one child after another.
use Rattle.std.proofs.Common.{ℕ, ◌≡◌, List, refl, ap, ◌∙◌}
use Rattle.cs_base.specs.Token.{Token}
use Rattle.c99_tree.specs.Tree.{Forest, none, token, node}
use Rattle.c99_tree.specs.declared.production.Label.{Label}
use Rattle.c_types.specs.declared.frames.Frame.{Frame}
use Rattle.c_types.specs.Declarations.{Facts}
use Rattle.scope_bind.specs.Known.{Known, known}
use Rattle.scope_bind.specs.Below.name_chains.Frames.{State, state}
use Rattle.scope_bind.specs.Below.name_chains.Entering.{facts_in}
use Rattle.gnu_bind.specs.declared.senses.Sense.{Sense}
use Rattle.gnu_bind.specs.Senses.{sense_in}
use Rattle.gnu_bind.specs.Walk.{read, frame_begun, begun, facts_ended, frame_ended, ended, walked}

module _ (toks : List Token) (s : Sense) where
  pub walked-end : (f : Forest) (t : State) → f ≡ none → t ≡ walked toks s f t
  unfolding walked
  walked-end f t e = rw e refl

  pub walked-token : (f r : Forest) (i : ℕ) (t : State) → f ≡ token i r → walked toks s r (read toks s i t) ≡ walked toks s f t
  unfolding walked
  walked-token f r i t e = rw e refl

  pub walked-node : (f r u : Forest) (l : Label) (first : ℕ) (t : State) → f ≡ node l first u r
      → walked toks s r (ended toks s l first u t (walked toks (sense_in toks l.production u t.frame s) u (begun toks l first u (sense_in toks l.production u t.frame s) t))) ≡ walked toks s f t
  unfolding walked
  walked-node f r u l first t e = rw e refl

  -- a node is entered, its children are read, and it is left
  pub node-left : (u : Forest) (l : Label) (first : ℕ) (F F1 F2 F3 : Facts) (f b child g : Frame) (below : Sense) → b ≡ frame_begun toks l u below.special f F
      → below ≡ sense_in toks l.production u f s
      → F1 ≡ facts_in l.production first u f F → state F2 child ≡ walked toks below u (state F1 b)
      → F3 ≡ facts_ended toks l.production first f l u child F2 → g ≡ frame_ended toks s.special f l u child
      → state F3 g ≡ ended toks s l first u (state F f) (walked toks (sense_in toks l.production u f s) u (begun toks l first u (sense_in toks l.production u f s) (state F f)))
  node-left u l first F F1 F2 F3 f b child g below begins sense entering inside leaving behind =
      rw (leaving, behind)
      (ap (ended toks s l first u (state F f))
      (inside
      ∙ (ap (walked toks below u) (ap (λ x. state x b) entering ∙ ap (λ y. state (facts_in l.production first u f F) y) begins)
      ∙ ap (λ z. walked toks z u (begun toks l first u z (state F f))) sense)))

pub known-left : (s : Sense) (u : Forest) (l : Label) (first : ℕ) (K K1 K2 K3 : Known) (T T1 : List Token) (f b child g : Frame) (below : Sense)
    → b ≡ frame_begun K.toks l u below.special f K.facts → T1 ≡ K.toks → below ≡ sense_in T1 l.production u f s
    → K1 ≡ known K.toks (facts_in l.production first u f K.facts) → K2.toks ≡ K1.toks → state K2.facts child ≡ walked K1.toks below u (state K1.facts b)
    → K3 ≡ known K2.toks (facts_ended K2.toks l.production first f l u child K2.facts) → T ≡ K3.toks → g ≡ frame_ended T s.special f l u child
    → state K3.facts g ≡ ended K.toks s l first u (state K.facts f) (walked K.toks (sense_in K.toks l.production u f s) u (begun K.toks l first u (sense_in K.toks l.production u f s) (state K.facts f)))
known-left s u l first K K1 K2 K3 T T1 f b child g below begins same sense entering kept inside leaving of behind =
    let entered_toks : K1.toks ≡ K.toks = ap (λ k. k.toks) entering in
    let read_toks : K2.toks ≡ K.toks = kept ∙ entered_toks in
    let left_toks : T ≡ K.toks = of ∙ (ap (λ k. k.toks) leaving ∙ read_toks) in
    node-left K.toks s u l first K.facts K1.facts K2.facts K3.facts f b child g below begins
    (sense ∙ ap (λ ts. sense_in ts l.production u f s) same) (ap (λ k. k.facts) entering)
    (inside ∙ ap (λ ts. walked ts below u (state K1.facts b)) entered_toks)
    (ap (λ k. k.facts) leaving ∙ ap (λ ts. facts_ended ts l.production first f l u child K2.facts) read_toks)
    (behind ∙ ap (λ ts. frame_ended ts s.special f l u child) left_toks)
