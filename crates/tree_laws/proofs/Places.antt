-- What one more child changes: the last token below, how many children there are, and the outline.
use Rattle.std.proofs.Common.{ℕ, ◌+◌, ◌≡◌, Bool, true, false, ◌&&◌, List, ◌⊎◌, inl, inr, refl, sym, ap, ◌∙◌}
use Rattle.std.proofs.lemmas.Bool.{and_parts, and_from}
use Rattle.c99_grammar.specs.declared.dialects.Edition.{Edition}
use Rattle.cs_base.specs.Token.{Token}
use Rattle.c99_tree.specs.Tree.{Forest, none, token, node, Node, leaf, inner, put, count_of}
use Rattle.c_types.specs.Trees.{last_token}
use Rattle.tree_laws.proofs.Outline.{Outline, stepped, begun, ended, outlined, token_agrees, node_agrees, all_agree}

-- ---- The last token

pub last_leaf : (f : Forest) (i k : ℕ) → last_token (put f (leaf i)) k ≡ i
last_leaf none i k = refl
last_leaf (token j rest) i k = last_leaf rest i j
last_leaf (node l first under rest) i k = last_leaf rest i (last_token under k)

pub last_inner : (f : Forest) (n : Node) (k : ℕ) → last_token (put f (inner n)) k ≡ last_token n.under (last_token f k)
last_inner none n k = refl
last_inner (token j rest) n k = last_inner rest n j
last_inner (node l first under rest) n k = last_inner rest n (last_token under k)

-- Of children that began at token `first`, with token `at` as the next one: there is no token among them, or the last
-- one is the one before it.
abbrev pub EndsAt : ℕ → Forest → ℕ → Type 0
EndsAt first f at = ((at ≡ first) × ((k : ℕ) → last_token f k ≡ k)) ⊎ ((k : ℕ) → last_token f k + 1 ≡ at)

pub ends_none : (first : ℕ) → EndsAt first none first
ends_none first = inl (refl, λ k. refl)

pub ends_leaf : (first : ℕ) (f : Forest) (at : ℕ) → EndsAt first (put f (leaf at)) (at + 1)
ends_leaf first f at = inr (λ k. ap (λ i. i + 1) (last_leaf f at k))

pub ends_inner : (first : ℕ) (f : Forest) (n : Node) (at later : ℕ) → EndsAt first f at → EndsAt at n.under later
    → EndsAt first (put f (inner n)) later
ends_inner first f n at later (inl h) (inl h') = inl (h'.0 ∙ h.0, λ k. last_inner f n k ∙ (h'.1 (last_token f k) ∙ h.1 k))
ends_inner first f n at later (inr h) (inl h') =
    inr (λ k. ap (λ i. i + 1) (last_inner f n k ∙ h'.1 (last_token f k)) ∙ (h k ∙ sym h'.0))
ends_inner first f n at later (inl h) (inr h') = inr (λ k. ap (λ i. i + 1) (last_inner f n k) ∙ h' (last_token f k))
ends_inner first f n at later (inr h) (inr h') = inr (λ k. ap (λ i. i + 1) (last_inner f n k) ∙ h' (last_token f k))

-- ---- How many children there are

pub count_leaf : (f : Forest) (i : ℕ) → count_of (put f (leaf i)) ≡ count_of f + 1
count_leaf none i = refl
count_leaf (token j rest) i = ap (λ n. n + 1) (count_leaf rest i)
count_leaf (node l first under rest) i = ap (λ n. n + 1) (count_leaf rest i)

pub count_inner : (f : Forest) (n : Node) → count_of (put f (inner n)) ≡ count_of f + 1
count_inner none n = refl
count_inner (token j rest) n = ap (λ m. m + 1) (count_inner rest n)
count_inner (node l first under rest) n = ap (λ m. m + 1) (count_inner rest n)

-- ---- The outline

pub outlined_leaf : (f : Forest) (i : ℕ) (o : Outline) → outlined (put f (leaf i)) o ≡ stepped i (outlined f o)
outlined_leaf none i o = refl
outlined_leaf (token j rest) i o = outlined_leaf rest i (stepped j o)
outlined_leaf (node l first under rest) i o = outlined_leaf rest i (ended l first under o (outlined under (begun l first under o)))

-- the outline behind a node
abbrev pub behind : Node → Outline → Outline
behind n o = ended n.label n.first n.under o (outlined n.under (begun n.label n.first n.under o))

pub outlined_inner : (f : Forest) (n : Node) (o : Outline) → outlined (put f (inner n)) o ≡ behind n (outlined f o)
outlined_inner none n o = refl
outlined_inner (token j rest) n o = outlined_inner rest n (stepped j o)
outlined_inner (node l first under rest) n o = outlined_inner rest n (ended l first under o (outlined under (begun l first under o)))

module _ (std : Edition) where
  module _ (toks : List Token) where
    -- what is asked of a token behind these children, and of a node
    abbrev pub TokenAgrees : ℕ → Outline → Type 0
    TokenAgrees i o = token_agrees std toks o.label.production o.label.alternative o.nth i o.entries ≡ true

    pub agree_leaf : (f : Forest) (i : ℕ) (o : Outline) → all_agree std toks f o ≡ true → TokenAgrees i (outlined f o) → all_agree std toks (put f (leaf i)) o ≡ true
    agree_leaf none i o all here = and_from _ true here refl
    agree_leaf (token j rest) i o all here =
        let both = and_parts (token_agrees std toks o.label.production o.label.alternative o.nth j o.entries) (all_agree std toks rest (stepped j o)) all in
        and_from _ _ both.0 (agree_leaf rest i (stepped j o) both.1 here)
    agree_leaf (node l first under rest) i o all here =
        let after : Outline = ended l first under o (outlined under (begun l first under o)) in
        let both = and_parts (node_agrees std toks l first o.entries) _ all in
        let more = and_parts (all_agree std toks under (begun l first under o)) (all_agree std toks rest after) both.1 in
        and_from _ _ both.0 (and_from _ _ more.0 (agree_leaf rest i after more.1 here))

    pub agree_inner : (f : Forest) (n : Node) (o : Outline) → all_agree std toks f o ≡ true
        → node_agrees std toks n.label n.first (outlined f o).entries ≡ true
        → all_agree std toks n.under (begun n.label n.first n.under (outlined f o)) ≡ true → all_agree std toks (put f (inner n)) o ≡ true
    agree_inner none n o all here below = and_from _ _ here (and_from _ true below refl)
    agree_inner (token j rest) n o all here below =
        let both = and_parts (token_agrees std toks o.label.production o.label.alternative o.nth j o.entries) (all_agree std toks rest (stepped j o)) all in
        and_from _ _ both.0 (agree_inner rest n (stepped j o) both.1 here below)
    agree_inner (node l first under rest) n o all here below =
        let after : Outline = ended l first under o (outlined under (begun l first under o)) in
        let both = and_parts (node_agrees std toks l first o.entries) _ all in
        let more = and_parts (all_agree std toks under (begun l first under o)) (all_agree std toks rest after) both.1 in
        and_from _ _ both.0 (and_from _ _ more.0 (agree_inner rest n after more.1 here below))
