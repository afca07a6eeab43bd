-- What is noted stays noted, and a fault stays.
use Rattle.std.proofs.Common.{ℕ, ◌≡◌, true, false, List, [], ◌∷◌, ◌++◌, Option, None, inr, refl, sym, ap, subst, ◌∙◌, append_assoc}
use Rattle.cs_base.specs.Token.{Token}
use Rattle.c99_tree.specs.Tree.{Forest, none, token, node}
use Rattle.c99_tree.specs.declared.production.Label.{Label}
use Rattle.c_types.specs.Declarations.{Facts}
use Rattle.name_chains.specs.Frames.{State}
use Rattle.name_chains.specs.Entering.{entered}
use Rattle.scope_bind.specs.Named.{Fault, Declaration, Occurrence}
use Rattle.scope_bind.specs.Roles.{role_of}
use Rattle.scope_bind.specs.Walk.{passed, left, walked}
use Rattle.scope_bind.proofs.ScopeLemmas.{fault_some as not_clean}
use Rattle.tree_laws.proofs.Lookups.{In}
use Rattle.tree_laws.proofs.Moves.{name_noted, StaysTrue}
use Rattle.tree_laws.proofs.Walking.{Places, facts_in_moved, facts_at_moved, facts_after_moved, walked_moved}

-- what is known at first is known later, and nothing was wrong where nothing is
pub record IsLater (ds : List Declaration) (os : List Occurrence) (o : Option Fault) (es : List Declaration) (ps : List Occurrence) (p : Option Fault) : Type 0 where
  pub declared : (d : Declaration) → In d ds → In d es
  pub more : List Occurrence
  pub noted : ps ≡ more ++ os
  pub clean : p ≡ None → o ≡ None

abbrev pub Grown : Facts → Facts → Type 0
Grown f g = IsLater f.declared f.occurrences f.fault g.declared g.occurrences g.fault

pub grown_same : (f : Facts) → Grown f f
grown_same f = record { declared = λ d w. w; more = []; noted = refl; clean = λ e. e }

pub grown_then : (f g h : Facts) → Grown f g → Grown g h → Grown f h
grown_then f g h a b = record {
  declared = λ d w. b.declared d (a.declared d w);
  more = b.more ++ a.more;
  noted = b.noted ∙ (ap (λ os. b.more ++ os) a.noted ∙ sym (append_assoc b.more a.more f.occurrences));
  clean = λ e. a.clean (b.clean e);
}

pub in_behind : {X : Type 0} (x : X) (xs ys : List X) → In x ys → In x (xs ++ ys)
in_behind x [] ys w = w
in_behind x (y ∷ xs) ys w = inr (in_behind x xs ys w)

pub grown_in : (f g : Facts) → Grown f g → (o : Occurrence) → In o f.occurrences → In o g.occurrences
grown_in f g a o w = subst (In o) (sym a.noted) (in_behind o a.more f.occurrences w)

module _ (ds : List Declaration) (os : List Occurrence) (o : Option Fault) where
  pub later_law : StaysTrue (λ i. Unit {0}) (IsLater ds os o)
  later_law = record {
    fault = λ es ps p x a. record { declared = a.declared; more = a.more; noted = a.noted; clean = λ e. absurd (not_clean p x e) };
    use' = λ es ps p i e a. record { declared = a.declared; more = name_noted i e false ∷ a.more; noted = ap (λ qs. name_noted i e false ∷ qs) a.noted; clean = a.clean };
    declare = λ es ps p d n a. record {
      declared = λ x w. inr (a.declared x w);
      more = name_noted d.name_at d.entity true ∷ a.more;
      noted = ap (λ qs. name_noted d.name_at d.entity true ∷ qs) a.noted;
      clean = a.clean;
    };
    again = λ es ps p d e w c a. record { declared = λ x v. inr (a.declared x v); more = a.more; noted = a.noted; clean = a.clean };
    unnamed = λ es ps p d u v a. record { declared = λ x w. inr (a.declared x w); more = a.more; noted = a.noted; clean = a.clean };
  }

-- nothing is asked of the places of anonymous members
any_places : (f : Forest) → Places (λ i. Unit {0}) f
any_places none = tt
any_places (token i rest) = any_places rest
any_places (node m first under rest) = (λ e. tt, any_places under, any_places rest)

module _ (toks : List Token) where
  abbrev law : (f : Facts) → StaysTrue (λ i. Unit {0}) (IsLater f.declared f.occurrences f.fault)
  law f = later_law f.declared f.occurrences f.fault

  abbrev Behind : Facts → List Declaration → List Occurrence → Option Fault → Type 0
  Behind f = IsLater f.declared f.occurrences f.fault

  pub walked_grown : (f : Forest) (s : State) → Grown s.facts (walked toks f s).facts
  walked_grown f s = walked_moved toks (λ i. Unit {0}) (Behind s.facts) (law s.facts) f s (any_places f) (grown_same s.facts)

  pub passed_grown : (i : ℕ) (s : State) → Grown s.facts (passed toks i s).facts
  passed_grown i s =
      facts_at_moved toks (λ i. Unit {0}) (Behind s.facts) (law s.facts) i s.frame s.facts (grown_same s.facts)
      (role_of s.frame.label.production s.frame.label.alternative s.frame.nth)

  pub entered_grown : (l : Label) (first : ℕ) (under : Forest) (s : State) → Grown s.facts (entered toks l first under s).facts
  entered_grown l first under s = facts_in_moved toks (λ i. Unit {0}) (Behind s.facts) (law s.facts) l.production first under s.frame s.facts (grown_same s.facts)

  pub left_grown : (l : Label) (first : ℕ) (under : Forest) (s inside : State) → Grown inside.facts (left toks l first under s inside).facts
  left_grown l first under s inside =
      facts_after_moved toks (λ i. Unit {0}) (Behind inside.facts) (law inside.facts) l.production first s.frame l under inside.frame.body inside.facts (λ e. tt)
      (grown_same inside.facts)
