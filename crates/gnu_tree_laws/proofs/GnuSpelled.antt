-- Names of GNU C are spelled as their entities, and names and faults stand in the text.
use Rattle.std.proofs.Common.{ℕ, ◌+◌, ◌<◌, ◌≤◌, ◌≡◌, Bool, true, false, ◌&&◌, ◌||◌, not, if◌then◌else◌, ◌==◌, List, length, map, Option, None, Some, inl, inr, refl, sym, ap, subst, ◌∙◌, arith}
use Rattle.std.specs.Prelude.{IfSome, IfErr, All}
use Rattle.std.proofs.lemmas.Bool.{false≢true, and_parts}
use Rattle.cs_base.specs.Token.{Token}
use Rattle.c99_tree.specs.Tree.{Forest, none, token, node, Node}
use Rattle.c99_tree.specs.declared.production.Label.{Label}
use Rattle.c99_tree.specs.declared.production.Production.{Production}
use Rattle.c99_tree.specs.declared.production.Production.TheVariants.{Enumerator, Declarator, Pdecl, AutoDecl}
use Rattle.gnu_bind.specs.Below.c_types.Trees.{is_node, has_name, holds_name, name_below}
use Rattle.gnu_bind.specs.Below.c_types.Declarations.{Facts, alike}
use Rattle.gnu_bind.specs.Below.scope_bind.Below.name_chains.Frames.{at_first, outermost}
use Rattle.gnu_bind.specs.Below.scope_bind.Named.{Fault, Occurrence}
use Rattle.gnu_bind.specs.Below.scope_bind.Causes.{index_of}
use Rattle.gnu_bind.specs.Below.scope_bind.declared.bound.Name.{Name}
use Rattle.gnu_bind.specs.Below.scope_bind.Bound.{Bound, name_of, bound_of, bound_unless}
use Rattle.gnu_bind.specs.Roles.{role_in}
use Rattle.gnu_bind.specs.Walk.{auto_name}
use Rattle.gnu_bind.specs.Bound.{facts_of, gnu_binding_of}
use Rattle.gnu_bind.specs.Senses.{usual_sense}
use Rattle.gnu_bind.proofs.Below.c_types.TokenLemmas.{alike_itself, alike_on}
use Rattle.tree_laws.specs.TreesOfTexts.{token_count, AreFrom, begins_with_token, has_form, have_forms, IsTreeOf}
use Rattle.tree_laws.proofs.InLists.{In, all_mapped, all_reversed}
use Rattle.tree_laws.proofs.HeldNames.{bound_is, Has}
use Rattle.tree_laws.proofs.Holding.{GoesOn, Holds}
use Rattle.tree_laws.proofs.Noted.{declares, is_parameter, Within, form_here, forms_under, forms_behind}
use Rattle.gnu_tree_laws.specs.GnuPlaces.{is_noted, is_gnu_place, gnu_names_pass}
use Rattle.gnu_tree_laws.specs.GnuNames.{GnuBinds, GnuNamesAreSpelledAsTheirEntities, GnuNamesStandInTheText, GnuFaultsStandInTheText, GnuNamesPass}
use Rattle.gnu_tree_laws.proofs.GnuHeld.{GnuTokens, gnu_told_name, walked_held}
use Rattle.gnu_tree_laws.proofs.GnuNoted.{gnu_told_within}

pub binding_is : (toks : List Token) (tree : Node) (b : Bound) → GnuBinds toks tree b → b ≡ bound_of tree.under (facts_of toks tree.under)
unfolding gnu_binding_of
binding_is toks tree b e = bound_is tree.under (facts_of toks tree.under) (facts_of toks tree.under).fault b e

-- the label of the node around a unit
abbrev unit_label : Label
unit_label = (outermost 0).label

module _ (toks : List Token) (S : ℕ → Type 0) (R : List Occurrence → ℕ → ℕ → Type 0) (law : GoesOn toks S R) where
  pub facts_held : (f : Forest) → GnuTokens toks S unit_label 0 f → Holds S R (facts_of toks f)
  facts_held f w =
      walked_held toks S R law f usual_sense (at_first (length toks)) w
      (record { declared = λ d v. absurd v; occurrences = λ o v. absurd v; jumps = λ j v. absurd v; fault = tt })

  names_held : (tree : Node) (b : Bound) → GnuTokens toks S unit_label 0 tree.under → GnuBinds toks tree b
      → All (λ (n : Name). R (facts_of toks tree.under).occurrences n.index n.entity) b.names
  names_held tree b w e =
      let facts : Facts = facts_of toks tree.under in
      let held : Holds S R facts = facts_held tree.under w in
      subst (λ (x : Bound). All (λ (n : Name). R facts.occurrences n.index n.entity) x.names) (sym (binding_is toks tree b e))
      (all_reversed (λ (n : Name). R facts.occurrences n.index n.entity) (map (name_of facts) facts.occurrences)
      (all_mapped (λ (n : Name). R facts.occurrences n.index n.entity) (name_of facts) facts.occurrences held.occurrences))

  fault_case : (f : Forest) (facts : Facts) (o : Option Fault) → IfSome o (λ x. S x.index) → IfErr (bound_unless f facts o) (λ x. S (index_of x))
  fault_case f facts None h = tt
  fault_case f facts (Some x) h = h

  fault_held : (tree : Node) → GnuTokens toks S unit_label 0 tree.under → IfErr (gnu_binding_of toks tree) (λ x. S (index_of x))
  unfolding gnu_binding_of
  fault_held tree w = fault_case tree.under (facts_of toks tree.under) (facts_of toks tree.under).fault (facts_held tree.under w).fault

-- ---- Spellings

abbrev any_token : ℕ → Type 0
any_token i = Unit {0}

some_any : (o : Option ℕ) → IfSome o any_token
some_any None = tt
some_any (Some i) = tt

all_any : (toks : List Token) (l : Label) (k : ℕ) (f : Forest) → GnuTokens toks any_token l k f
all_any toks l k none = tt
all_any toks l k (token i rest) = (λ e. tt, all_any toks l (k + 1) rest)
all_any toks l k (node m first under rest) =
    (some_any (gnu_told_name m.production l.production first m under), all_any toks m 0 under, all_any toks l (k + 1) rest)

abbrev Alike : List Token → List Occurrence → ℕ → ℕ → Type 0
Alike toks os i j = alike toks i j ≡ true

alike_goes_on : (toks : List Token) → GoesOn toks any_token (Alike toks)
alike_goes_on toks = record { itself = λ os i d s. alike_itself toks i; spelled = λ os i j k s. alike_on toks i j k; more = λ o os i j r. r }

-- each occurrence is spelled as its entity
pub occurrences_alike : (toks : List Token) (tree : Node) (o : Occurrence) → In o (facts_of toks tree.under).occurrences → alike toks o.index o.entity ≡ true
occurrences_alike toks tree =
    (facts_held toks any_token (Alike toks) (alike_goes_on toks) tree.under (all_any toks unit_label 0 tree.under)).occurrences

pub spelled_as_entities : GnuNamesAreSpelledAsTheirEntities
spelled_as_entities toks tree b e =
    names_held toks any_token (Alike toks) (alike_goes_on toks) tree b (all_any toks unit_label 0 tree.under) e

-- ---- In the text

abbrev In_text : List Token → ℕ → Type 0
In_text toks i = i < length toks

told_in_text : (toks : List Token) (j n : ℕ) (o : Option ℕ) → j + n ≤ length toks → IfSome o (Within j n) → IfSome o (In_text toks)
told_in_text toks j n None within h = tt
told_in_text toks j n (Some i) within h = omega (arith, h.1)

tokens_in_text : (toks : List Token) (l : Label) (k : ℕ) (f : Forest) (j : ℕ) → AreFrom j f → have_forms f ≡ true → j + token_count f ≤ length toks
    → GnuTokens toks (In_text toks) l k f
tokens_in_text toks l k none j w forms within = tt
tokens_in_text toks l k (token i rest) j w forms within =
    (λ e. subst (λ n. n < length toks) (sym w.0) (omega arith), tokens_in_text toks l (k + 1) rest (j + 1) w.1 forms (omega arith))
tokens_in_text toks l k (node m first under rest) j w forms within = (
  subst (λ n. IfSome (gnu_told_name m.production l.production n m under) (In_text toks)) (sym w.0)
      (told_in_text toks j (token_count under) (gnu_told_name m.production l.production j m under) (omega arith)
      (gnu_told_within m.production l.production m under j w.1 (form_here m.production under rest forms))),
  tokens_in_text toks m 0 under j w.1 (forms_under m.production under rest forms) (omega arith),
  tokens_in_text toks l (k + 1) rest (j + token_count under) w.2 (forms_behind m.production under rest forms) (omega arith),
)

whole_in_text : (toks : List Token) (tree : Node) → IsTreeOf (length toks) tree → GnuTokens toks (In_text toks) unit_label 0 tree.under
whole_in_text toks tree t = tokens_in_text toks unit_label 0 tree.under 0 t.tokens t.forms (omega (arith, t.all))

-- both tokens are such as S says
abbrev Both : (ℕ → Type 0) → List Occurrence → ℕ → ℕ → Type 0
Both S os i j = S i × S j

both_go_on : (toks : List Token) (S : ℕ → Type 0) → GoesOn toks S (Both S)
both_go_on toks S = record { itself = λ os i d s. (s, s); spelled = λ os i j k s a r. (s, r.1); more = λ o os i j r. r }

pub names_in_text : GnuNamesStandInTheText
names_in_text toks tree b t e =
    names_held toks (In_text toks) (Both (In_text toks)) (both_go_on toks (In_text toks)) tree b (whole_in_text toks tree t) e

pub faults_in_text : GnuFaultsStandInTheText
faults_in_text toks tree t = fault_held toks (In_text toks) (Both (In_text toks)) (both_go_on toks (In_text toks)) tree (whole_in_text toks tree t)

-- ---- Where names stand

module _ (toks : List Token) (test : ℕ → Bool) where
  abbrev Passes : ℕ → Type 0
  Passes i = test i ≡ true

  place_passes : (c : Bool) (i : ℕ) → (not c || test i) ≡ true → c ≡ true → test i ≡ true
  place_passes true i h e = h
  place_passes false i h e = absurd (false≢true e)

  noted_place : (noted x : Bool) → noted ≡ true → (noted || x) ≡ true
  noted_place true x e = refl
  noted_place false x e = absurd (false≢true e)

  named_place : (c has x : Bool) → has ≡ true → (c || (has || x)) ≡ true
  named_place true has x e = refl
  named_place false true x e = refl
  named_place false false x e = absurd (false≢true e)

  name_here : (l : Label) (k i : ℕ) (c : Bool) (o : Option ℕ) → has_name l ≡ c → (not (is_gnu_place toks l k i) || test i) ≡ true → IfSome o Passes
      → IfSome (if c then Some i else o) Passes
  name_here l k i true o e here more =
      place_passes (is_gnu_place toks l k i) i here
      (named_place (is_noted toks (role_in l.production l.alternative k) i) (has_name l) (is_node l Enumerator && (k == 0)) e)
  name_here l k i false o e here more = more

  either_passes : (c : Bool) (x y : Option ℕ) → IfSome x Passes → IfSome y Passes → IfSome (if c then x else y) Passes
  either_passes true x y h k = h
  either_passes false x y h k = k

  below_pass : (l m : Label) (k : ℕ) (under rest : Forest)
      → ((not (is_node m AutoDecl) || test (auto_name under)) && (gnu_names_pass toks test m 0 under && gnu_names_pass toks test l (k + 1) rest)) ≡ true
      → gnu_names_pass toks test m 0 under ≡ true
  below_pass l m k under rest w = (and_parts (gnu_names_pass toks test m 0 under) _ ((and_parts (not (is_node m AutoDecl) || test (auto_name under)) _ w).1)).0

  behind_pass : (l m : Label) (k : ℕ) (under rest : Forest)
      → ((not (is_node m AutoDecl) || test (auto_name under)) && (gnu_names_pass toks test m 0 under && gnu_names_pass toks test l (k + 1) rest)) ≡ true
      → gnu_names_pass toks test l (k + 1) rest ≡ true
  behind_pass l m k under rest w = (and_parts (gnu_names_pass toks test m 0 under) _ ((and_parts (not (is_node m AutoDecl) || test (auto_name under)) _ w).1)).1

  -- the name of a declarator
  name_passes : (l : Label) (k : ℕ) (f : Forest) → gnu_names_pass toks test l k f ≡ true → IfSome (name_below l f) Passes
  name_passes l k none w = tt
  name_passes l k (token i rest) w =
      name_here l k i (has_name l) (name_below l rest) refl ((and_parts _ (gnu_names_pass toks test l (k + 1) rest) w).0)
      (name_passes l (k + 1) rest ((and_parts (not (is_gnu_place toks l k i) || test i) _ w).1))
  name_passes l k (node m first under rest) w =
      either_passes (holds_name m.production) (name_below m under) (name_below l rest) (name_passes m 0 under (below_pass l m k under rest w))
      (name_passes l (k + 1) rest (behind_pass l m k under rest w))

  -- the name of an enumerator
  first_passes : (m : Label) (j first : ℕ) (under : Forest) → m.production ≡ Enumerator → first ≡ j → AreFrom j under → begins_with_token under ≡ true
      → gnu_names_pass toks test m 0 under ≡ true → test first ≡ true
  first_passes m j first none p e w begins h = absurd (false≢true begins)
  first_passes m j first (token i rest) p e w begins h =
      let here : is_gnu_place toks m 0 i ≡ true = ap (λ q. is_noted toks (role_in q m.alternative 0) i || (has_name (record { production = q; alternative = m.alternative }) || is_node (record { production = q; alternative = m.alternative }) Enumerator && true)) p in
      subst (λ n. test n ≡ true) (w.0 ∙ sym e) (place_passes (is_gnu_place toks m 0 i) i ((and_parts _ (gnu_names_pass toks test m 1 rest) h).0) here)
  first_passes m j first (node l second under rest) p e w begins h = absurd (false≢true begins)

  told_passes : (p q : Production) (m : Label) (j first : ℕ) (under : Forest) → m.production ≡ p → first ≡ j → AreFrom j under → has_form p under ≡ true
      → (not (is_node m AutoDecl) || test (auto_name under)) ≡ true → gnu_names_pass toks test m 0 under ≡ true → IfSome (gnu_told_name p q first m under) Passes
  told_passes Declarator q m j first under p e w form a h = either_passes (declares q) (name_below m under) None (name_passes m 0 under h) tt
  told_passes Pdecl q m j first under p e w form a h = either_passes (is_parameter q) (name_below m under) None (name_passes m 0 under h) tt
  told_passes Enumerator q m j first under p e w form a h = first_passes m j first under p e w form h
  told_passes AutoDecl q m j first under p e w form a h =
      place_passes (is_node m AutoDecl) (auto_name under) a (ap (λ r. is_node (record { production = r; alternative = m.alternative }) AutoDecl) p)
  told_passes _ q m j first under p e w form a h = tt

  tokens_pass : (l : Label) (k : ℕ) (f : Forest) (j : ℕ) → AreFrom j f → have_forms f ≡ true → gnu_names_pass toks test l k f ≡ true → GnuTokens toks Passes l k f
  tokens_pass l k none j w forms h = tt
  tokens_pass l k (token i rest) j w forms h = (
    λ e. place_passes (is_gnu_place toks l k i) i ((and_parts _ (gnu_names_pass toks test l (k + 1) rest) h).0)
        (noted_place (is_noted toks (role_in l.production l.alternative k) i) _ e),
    tokens_pass l (k + 1) rest (j + 1) w.1 forms ((and_parts (not (is_gnu_place toks l k i) || test i) _ h).1),
  )
  tokens_pass l k (node m first under rest) j w forms h =
      let below : gnu_names_pass toks test m 0 under ≡ true = below_pass l m k under rest h in (
        told_passes m.production l.production m j first under refl w.0 w.1 (form_here m.production under rest forms)
            ((and_parts (not (is_node m AutoDecl) || test (auto_name under)) _ h).0) below,
        tokens_pass m 0 under j w.1 (forms_under m.production under rest forms) below,
        tokens_pass l (k + 1) rest (j + token_count under) w.2 (forms_behind m.production under rest forms) (behind_pass l m k under rest h),
      )

pub names_pass : GnuNamesPass
names_pass test toks tree b t h e =
    names_held toks (Passes toks test) (Both (Passes toks test)) (both_go_on toks (Passes toks test)) tree b
    (tokens_pass toks test unit_label 0 tree.under 0 t.tokens t.forms h) e

-- ---- What names an entity

-- the token that names an entity is noted as a name of it
pub entities_noted : (toks : List Token) (tree : Node) (o : Occurrence) → In o (facts_of toks tree.under).occurrences
    → Has o.entity o.entity (facts_of toks tree.under).occurrences
entities_noted toks tree =
    (facts_held toks any_token (λ os i e. Has e e os)
    (record { itself = λ os i d s. inl (refl, refl); spelled = λ os i j e s a r. r; more = λ o os i e r. inr r })
    tree.under (all_any toks unit_label 0 tree.under)).occurrences
