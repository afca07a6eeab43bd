-- A renamed text binds name for name.
use Rattle.std.proofs.Common.{ℕ, ◌≡◌, Bool, true, ◌&&◌, List, [], ◌∷◌, map, reverse, length, Option, None, Some, Ok, inl, inr, refl, sym, ap, subst, ◌∙◌}
use mathlib.Core.List.{reverse-cons}
use Rattle.std.specs.List.{All, list_all}
use Rattle.std.specs.Str.{bytes_eq}
use Rattle.std.proofs.lemmas.List.Folds.{list_all-append}
use Rattle.std.proofs.lemmas.Bool.{and_parts}
use Rattle.std.proofs.lemmas.List.{reverse-reverse}
use Rattle.std.proofs.lemmas.List.Elements.{All-head, All-tail, All-same}
use Rattle.cs_base.specs.Token.{Token}
use Rattle.c99_tree.specs.Tree.{Forest, none, token, node}
use Rattle.scope_bind.specs.Named.{Fault}
use Rattle.c_types.specs.Declarations.{Facts, spelling_at, alike}
use Rattle.name_chains.specs.Frames.{State, at_first}
use Rattle.name_chains.specs.Entering.{entered}
use Rattle.scope_bind.specs.Roles.{role_of}
use Rattle.scope_bind.specs.Walk.{passed, left, walked}
use Rattle.scope_bind.specs.Bound.{Bound, name_of, names_of, bound_unless, bound_after, facts_of, binding_of}
use Rattle.scope_bind.specs.declared.bound.Name.{Name}
use Rattle.tree_laws.specs.RenamedNames.{is_own_word, StaysApart, RenamedBindAlike}
use Rattle.tree_laws.proofs.InLists.{all_reversed}
use Rattle.tree_laws.proofs.Lookups.{In}
use Rattle.tree_laws.proofs.Renaming.{Good, Kept}
use Rattle.tree_laws.proofs.RenamedSteps.{entered_back, entered_kept, entered_same, passed_back, passed_kept, passed_same, left_back, left_kept, left_same}
use Rattle.tree_laws.proofs.HeldNames.{bound_is}

module _ (a b : List Token)
    (words : (word : List ℕ) (k : ℕ) → is_own_word word ≡ true → bytes_eq (spelling_at b k) word ≡ bytes_eq (spelling_at a k) word) where
  pub walked_back : (f : Forest) (s : State) → Good a b (walked a f s).facts → Good a b s.facts
  unfolding walked
  walked_back none s h = h
  walked_back (token i rest) s h =
      passed_back a b words (role_of s.frame.label.production s.frame.label.alternative s.frame.nth) i s
      (walked_back rest (passed a i s) h)
  walked_back (node l first under rest) s h =
      let inside : State = walked a under (entered a l first under s) in
      entered_back a b words l first under s
      (walked_back under (entered a l first under s)
      (left_back a b words l first under s inside
      (walked_back rest (left a l first under s inside) h)))

  -- what is kept, and the same state
  pub record Follows (s s' : State) : Type 0 where
    pub kept : Kept a s.facts
    pub same : s' ≡ s

  pub walked_same : (f : Forest) (s : State) → Kept a s.facts → Good a b (walked a f s).facts → Follows (walked a f s) (walked b f s)
  unfolding walked
  walked_same none s k h = record { kept = k; same = refl }
  walked_same (token i rest) s k h =
      let r = role_of s.frame.label.production s.frame.label.alternative s.frame.nth in
      let g : Good a b (passed a i s).facts = walked_back rest (passed a i s) h in
      let more : Follows (walked a rest (passed a i s)) (walked b rest (passed a i s)) =
      walked_same rest (passed a i s) (passed_kept a b words r i s k g) h in
      record { kept = more.kept; same = ap (walked b rest) (passed_same a b words r i s k g) ∙ more.same }
  walked_same (node l first under rest) s k h =
      let before : State = entered a l first under s in
      let inside : State = walked a under before in
      let after : State = left a l first under s inside in
      let g : Good a b after.facts = walked_back rest after h in
      let g' : Good a b inside.facts = left_back a b words l first under s inside g in
      let below : Follows inside (walked b under before) = walked_same under before (entered_kept a b words l first under s k) g' in
      let more : Follows (walked a rest after) (walked b rest after) =
      walked_same rest after (left_kept a b words l first under s inside below.kept g) h in
      record {
        kept = more.kept;
        same = ap (λ x. walked b rest (left b l first under s (walked b under x))) (entered_same a b words l first under s)
            ∙ (ap (λ x. walked b rest (left b l first under s x)) below.same
            ∙ (ap (walked b rest) (left_same a b words l first under s inside below.kept g) ∙ more.same));
      }

-- ---- Names

reversed_pass : {X : Type 0} (p : X → Bool) (xs : List X) → list_all p (reverse xs) ≡ true → (x : X) → In x xs → p x ≡ true
reversed_pass p [] e x w = absurd w
reversed_pass p (y ∷ ys) e x (inl s) =
    let both : (list_all p (reverse ys) && list_all p (y ∷ [])) ≡ true =
    sym (ap (list_all p) (reverse-cons y ys) ∙ list_all-append p (reverse ys) (y ∷ [])) ∙ e in
    subst (λ z. p z ≡ true) s ((and_parts (p y) true ((and_parts (list_all p (reverse ys)) (list_all p (y ∷ [])) both).1)).0)
reversed_pass p (y ∷ ys) e x (inr w) =
    let both : (list_all p (reverse ys) && list_all p (y ∷ [])) ≡ true =
    sym (ap (list_all p) (reverse-cons y ys) ∙ list_all-append p (reverse ys) (y ∷ [])) ∙ e in
    reversed_pass p ys ((and_parts (list_all p (reverse ys)) (list_all p (y ∷ [])) both).0) x w

in_map : {X Y : Type 0} (f : X → Y) (xs : List X) (x : X) → In x xs → In (f x) (map f xs)
in_map f [] x w = absurd w
in_map f (y ∷ ys) x (inl s) = inl (ap f s)
in_map f (y ∷ ys) x (inr w) = inr (in_map f ys x w)

mapped_in : {X Y : Type 0} (P : Y → Type 0) (f : X → Y) (xs : List X) → All P (map f xs) → (x : X) → In x xs → P (f x)
mapped_in P f [] all x w = absurd w
mapped_in P f (y ∷ ys) all x (inl s) = subst (λ z. P (f z)) s (All-head P (f y) (map f ys) all)
mapped_in P f (y ∷ ys) all x (inr w) = mapped_in P f ys (All-tail P (f y) (map f ys) all) x w

unreversed : {X : Type 0} (P : X → Type 0) (xs : List X) → All P (reverse xs) → All P xs
unreversed P xs all = All-same P xs (reverse (reverse xs)) (sym (reverse-reverse xs)) (all_reversed P (reverse xs) all)

pub names_good : (a b : List Token) (facts : Facts) → facts.fault ≡ None → list_all (λ n. alike b n.index n.entity) (names_of facts) ≡ true
    → All (λ (n : Name). StaysApart a b n.index) (names_of facts) → Good a b facts
names_good a b facts clean e apart = record {
  clean = clean;
  good = λ o w.
      reversed_pass (λ (n : Name). alike b n.index n.entity) (map (name_of facts) facts.occurrences) e (name_of facts o)
      (in_map (name_of facts) facts.occurrences o w);
  apart = mapped_in (λ (n : Name). StaysApart a b n.index) (name_of facts) facts.occurrences
      (unreversed (λ (n : Name). StaysApart a b n.index) (map (name_of facts) facts.occurrences) apart);
}

pub no_fault : (f : Forest) (facts : Facts) (o : Option Fault) (b : Bound) → bound_unless f facts o ≡ Ok b → o ≡ None
no_fault f facts None b e = refl
no_fault f facts (Some x) b e = cc

pub renamed_bind_alike : RenamedBindAlike
unfolding binding_of
renamed_bind_alike old new tree b e r =
    let facts : Facts = facts_of old tree.under in
    let clean : facts.fault ≡ None = no_fault tree.under facts facts.fault b e in
    let names : b.names ≡ names_of facts = ap (λ (x : Bound). x.names) (bound_is tree.under facts facts.fault b e) in
    let good : Good old new facts =
    names_good old new facts clean (ap (list_all (λ n. alike new n.index n.entity)) (sym names) ∙ r.together)
    (subst (λ (ns : List Name). All (λ (n : Name). StaysApart old new n.index) ns) names r.apart) in
    let start : Kept old (at_first (length old)).facts = record { covered = λ d w u. absurd w; linked = λ d w. absurd w; one = λ i d x v w l m. absurd v } in
    let follows : Follows old new r.words (walked old tree.under (at_first (length old))) (walked new tree.under (at_first (length old))) =
    walked_same old new r.words tree.under (at_first (length old)) start good in
    ap (λ n. bound_after tree.under (walked new tree.under (at_first n)).facts) r.as_long
    ∙ (ap (λ (s : State). bound_after tree.under s.facts) follows.same ∙ e)
