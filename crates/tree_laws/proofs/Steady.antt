-- Reading puts tokens behind one another, and closes each declarator that it opened.
use Rattle.std.proofs.Common.{ℕ, ◌+◌, ◌-◌, ◌<◌, ◌≤◌, ◌≡◌, Bool, true, false, ◌&&◌, if◌then◌else◌, ◌==◌, List, [], ◌∷◌, length, take, Option, None, Some, unwrap_or, inl, inr, ◌⊎◌, refl, sym, ap, subst, ◌∙◌, arith}
use Rattle.std.proofs.lemmas.Bool.{and_left, ne_eqb}
use Rattle.std.proofs.lemmas.List.{length-append, length-take-le}
use Rattle.c99_grammar.specs.declared.dialects.Edition.{Edition}
use Rattle.c99_tree.specs.Tree.{Forest, none, token, node, Node, leaf, inner, put, lone, collapsed}
use Rattle.c99_tree.specs.declared.production.Label.{Label}
use Rattle.c99_tree.specs.declared.production.Production.{Production}
use Rattle.c99_grammar.specs.Items.{Action, scope, end, declare, name, keep, again}
use Rattle.c99_grammar.specs.Standard.{iso}
use Rattle.c99_read.specs.State.{State, Names, Head, given_names, last_declared, last_identifier, with_declared, with_scope_ended, is_declarator, with_head, head_closed, names_closed, collapses, finished, names_after, acted, opened, closed}
use Rattle.c99_read.specs.Reading.{Goal, read_within}
use Rattle.tree_laws.proofs.Walked.{kept_anywhere}
use Rattle.scope_bind.specs.Named.{Scope}
use Rattle.name_chains.specs.Entering.{scope_in}
use Rattle.tree_laws.proofs.Private.{Declaration}
use Rattle.tree_laws.proofs.Outline.{entry, Outline, begun, outlined}
use Rattle.tree_laws.proofs.Goes.{After}
use Rattle.tree_laws.proofs.Owned.{is_of, Closed, outlined_deaf, inside_deaf, Below}
use Rattle.tree_laws.proofs.Twins.{IsPlain, IsInner, scope_kind}
use Rattle.tree_laws.proofs.Handing.{listed}
use Rattle.tree_laws.proofs.Listed.{below_more}

below_leaf : (b : ℕ) (f : Forest) (i : ℕ) → Below b f → i < b → Below b (put f (leaf i))
below_leaf b none i w h = (h, tt)
below_leaf b (token j rest) i w h = (w.0, below_leaf b rest i w.1 h)
below_leaf b (node l first under rest) i w h = (w.0, w.1, below_leaf b rest i w.2 h)

below_inner : (b : ℕ) (f : Forest) (n : Node) → Below b f → n.first ≤ b → Below b n.under → Below b (put f (inner n))
below_inner b none n w h k = (h, k, tt)
below_inner b (token j rest) n w h k = (w.0, below_inner b rest n w.1 h k)
below_inner b (node l first under rest) n w h k = (w.0, w.1, below_inner b rest n w.2 h k)

-- what stands last is below too
pub below_last : (b : ℕ) (f : Forest) (n : Node) → Below b (put f (inner n)) → Below b n.under
below_last b none n w = w.1
below_last b (token j rest) n w = below_last b rest n w.1
below_last b (node l first under rest) n w = below_last b rest n w.2

-- a node that replaces another one stands as it did
abbrev Lies : ℕ → Node → Type 0
Lies b n = (n.first ≤ b) × Below b n.under

lies_lone : (b : ℕ) (f : Forest) (n : Node) → Below b f → Lies b n → Lies b (lone f n)
lies_lone b none n w h = h
lies_lone b (token i rest) n w h = h
lies_lone b (node l first under none) n w h = (w.0, w.1)
lies_lone b (node l first under (token i rest)) n w h = h
lies_lone b (node l first under (node m second below rest)) n w h = h

lies_finished : (b : ℕ) (p : Production) (n : Node) → Lies b n → Lies b (finished p n)
lies_finished b p n h = by (collapses p)
  where
    by : (c : Bool) → Lies b (if c then collapsed n else n)
    by true = lies_lone b n.under n h.1 h
    by false = h

-- ---- Open declarators

given_length : (count : ℕ) (names : List Declaration) (heads : List Head) → length (given_names count names heads) ≡ length heads
given_length count names [] = refl
given_length count names (h ∷ heads) = by (h.scopes_open == count) (given_length count names heads)
  where
    by : (c : Bool) → length (given_names count names heads) ≡ length heads
        → length (if c then (record h { given = Some (unwrap_or h.given names) } ∷ heads) else (h ∷ given_names count names heads)) ≡ length (h ∷ heads)
    by true e = refl
    by false e = omega (arith, e)

pub declared_heads : (n : Names) (i : Option ℕ) (t : Bool) → (with_declared n i t).heads ≡ n.heads
declared_heads n None t = refl
declared_heads n (Some i) t = refl

ended_heads : (n : Names) (x : List (List Declaration)) → (with_scope_ended n x).heads ≡ n.heads
ended_heads n [] = refl
ended_heads n (s ∷ []) = refl
ended_heads n (s ∷ (next_scope ∷ outer)) = refl

take_length : (n : ℕ) (heads : List Head) → length heads ≡ n + 1 → length (take n heads) ≡ n
take_length n heads h = length-take-le n heads (omega arith)

-- ---- States

-- a later state: its tokens stand before the next one, and as many declarators are open
pub record Steady (s s' : State) : Type 0 where
  pub later : s.at ≤ s'.at
  pub first : s'.built.first ≡ s.built.first
  pub below : Below s.at s.built.under → Below s'.at s'.built.under
  pub heads : length s'.names.heads ≡ length s.names.heads

closed_heads : (p : Production) (s s' : State) → length s'.names.heads ≡ length (opened p 1 s).names.heads
    → length (names_closed p s'.names).heads ≡ length s.names.heads
unfolding opened
closed_heads p s s' e = by (is_declarator p) e
  where
    by : (c : Bool) → length s'.names.heads ≡ length (if c then with_head s.names else s.names).heads
        → length (if c then head_closed s'.names else s'.names).heads ≡ length s.names.heads
    by true e =
        let last : Head = record { scopes_open = length s.names.scopes; given = None } in
        let k = length-append s.names.heads (last ∷ []) in
        let one : length (last ∷ []) ≡ 1 = refl in
        ap (λ n. length (take n s'.names.heads)) (let m : length s'.names.heads - 1 ≡ length s.names.heads = omega arith in m)
        ∙ take_length (length s.names.heads) s'.names.heads (omega arith)
    by false e = e

node_steady : (p : Production) (n : ℕ) (s s' : State) → Steady (opened p n s) s' → Steady s (closed p s s')
unfolding opened closed
node_steady p n s s' w = record {
  later = w.later;
  first = refl;
  below = λ b. (
      let inside : Below s'.at s'.built.under = w.below tt in
      let done : Lies s'.at (finished p s'.built) = lies_finished s'.at p s'.built (let e = w.first in let k = w.later in omega arith, inside) in
      below_inner s'.at s.built.under (finished p s'.built) (below_more s.at s'.at s.built.under w.later b) done.0 done.1);
  heads = closed_heads p s s' w.heads;
}

-- none is open
pub none_open : (heads : List Head) → length heads ≡ 0 → heads ≡ []
none_open [] e = refl
none_open (h ∷ heads) e = absurd (omega (arith, e))

-- ---- Lists that end behind these tokens

-- no list ends behind token `at`
abbrev pub Past : ℕ → Outline → Type 0
Past at o = (list : ℕ) → at < list → listed o list o.entries ≡ []

module _ (d b : ℕ) where
  abbrev Ends : Scope → Type 0
  Ends c = (c.depth ≡ d) ⊎ (c.to ≤ b)

  ends_deaf : (list : ℕ) → b < list → (c : Scope) → Ends c → (i : ℕ) (t : Bool) (from : ℕ) → is_of (d + 1) list (entry i t c.depth from c.to) ≡ false
  ends_deaf list h c (inl e) i t from = right_false (c.to == list) ((c.depth == d + 1) && true) (and_left (c.depth == d + 1) true (ne_eqb c.depth (d + 1) (λ k. omega arith)))
    where
      right_false : (x y : Bool) → y ≡ false → (x && y) ≡ false
      right_false true y e = e
      right_false false y e = refl
  ends_deaf list h c (inr e) i t from = and_left (c.to == list) ((c.depth == d + 1) && true) (ne_eqb c.to list (λ k. omega arith))

  ends_here : (p : Production) (l : Label) (under : Forest) → Below b under → 0 < b → (c : Scope) → Ends c → Ends (scope_in p l under c)
  ends_here p l under w h c e = by (scope_kind p l under)
    where
      by : IsPlain p l under ⊎ IsInner p l under → Ends (scope_in p l under c)
      by (inl plain) = subst Ends (sym (plain.0 c)) e
      by (inr deep) = inr (deep.1 b c w h)

  ends_closed : (f : Forest) → Below b f → 0 < b → Closed Ends f
  ends_closed none w h = tt
  ends_closed (token i rest) w h = ends_closed rest w.1 h
  ends_closed (node l first under rest) w h =
      (λ c e. ends_here l.production l under w.1 h c e, ends_closed under w.1 h, ends_closed rest w.2 h)

-- .. nor behind the tokens that were read since
pub past_outlined : (b : ℕ) (f : Forest) (o : Outline) → Below b f → 0 < b → Past b o → (list : ℕ) → b < list → listed o list (outlined f o).entries ≡ []
past_outlined b f o w h past list e =
    outlined_deaf (is_of (o.scope.depth + 1) list) (Ends o.scope.depth b) (ends_deaf o.scope.depth b list e) f o (ends_closed o.scope.depth b f w h) (inl refl)
    ∙ past list e

pub past_inside : (b : ℕ) (l : Label) (first : ℕ) (under : Forest) (o : Outline) → Below b under → 0 < b → Past b o → (list : ℕ) → b < list
    → listed o list (outlined under (begun l first under o)).entries ≡ []
past_inside b l first under o w h past list e =
    inside_deaf (is_of (o.scope.depth + 1) list) (Ends o.scope.depth b) (ends_deaf o.scope.depth b list e) l first under o (ends_closed o.scope.depth b under w h)
    (ends_here o.scope.depth b l.production l under w h o.scope (inl refl))
    ∙ past list e

module _ (std : Edition) where
  acted_heads : (a : Action) (s : State) → length (names_after (iso std) a s).heads ≡ length s.names.heads
  acted_heads scope s = refl
  acted_heads end s = ap length (ended_heads s.names s.names.scopes)
  acted_heads declare s = ap length (declared_heads s.names (last_declared s.built.under) s.near)
  acted_heads name s = ap length (declared_heads s.names (last_identifier (iso std) s.toks s.built.under None) false)
  acted_heads keep s = given_length (length s.names.scopes) s.names.ended s.names.heads
  acted_heads again s = refl

  acted_steady : (a : Action) (s : State) → Steady s (acted (iso std) a s)
  unfolding acted
  acted_steady a s = record { later = omega arith; first = refl; below = λ w. w; heads = acted_heads a s }

  pub steady_within : (fuel depth : ℕ) (goal : Goal) (s : State) → After (Steady s) (read_within (iso std) fuel depth goal s)
  steady_within fuel depth goal s =
      kept_anywhere (iso std) Steady
      (record {
        still = λ s. record { later = omega arith; first = refl; below = λ w. w; heads = refl };
        further = λ s s' s'' w w'. record {
          later = (let e = w.later in let e' = w'.later in omega arith);
          first = w'.first ∙ w.first;
          below = λ b. w'.below (w.below b);
          heads = w'.heads ∙ w.heads;
        };
        taken = λ s. record {
          later = omega arith;
          first = refl;
          below = λ b. below_leaf (s.at + 1) s.built.under s.at (below_more s.at (s.at + 1) s.built.under (omega arith) b) (omega arith);
          heads = refl;
        };
        done = acted_steady;
      })
      node_steady fuel depth goal s
