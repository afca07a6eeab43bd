-- What is true of names in each walk: a relation of a name and its entity that holds of each token by itself once it is
-- noted so, and that a token has with the entity of a declaration which is spelled as it.
use Rattle.std.proofs.Common.{ℕ, ◌≡◌, Bool, true, false, ◌&&◌, not, if◌then◌else◌, ◌==◌, List, [], ◌∷◌, ◌++◌, Option, None, Some, inl, inr, refl, subst}
use Rattle.std.specs.Prelude.{IfSome, filter_map}
use Rattle.std.specs.List.{cons_option}
use Rattle.std.proofs.lemmas.Bool.{and_parts}
use Rattle.cs_base.specs.Token.{Token}
use Rattle.scope_bind.specs.Named.{Cause, Fault, Space, Declaration, Occurrence}
use Rattle.c_types.specs.Faults.{first_fault, comes_first, fault_at}
use Rattle.c_types.specs.Declarations.{Facts, is_space, alike, is_named, looked_up, with_fault, with_occurrence, with_declaration, with_begun, with_complete}
use Rattle.name_chains.specs.Entering.{is_member, kept_here, with_kept}
use Rattle.name_chains.specs.Members.{with_silent}
use Rattle.tree_laws.proofs.Unnamed.{is_unnamed, found_named}
use Rattle.tree_laws.proofs.InLists.{In, found_in}
use Rattle.tree_laws.proofs.Lookups.{found_passes}

-- the token is noted as a name of the entity
abbrev pub name_noted : ℕ → ℕ → Bool → Occurrence
name_noted i e declares = record { index = i; entity = e; declares = declares }

-- what is so of what is noted stays so of more
abbrev pub Stays : (List Occurrence → ℕ → ℕ → Type 0) → Type 0
Stays R = (o : Occurrence) (os : List Occurrence) (i e : ℕ) → R os i e → R (o ∷ os) i e

-- The relation R of tokens and entities, where these occurrences are noted, goes on from token to token; S says which
-- tokens there are.
pub record GoesOn (toks : List Token) (S : ℕ → Type 0) (R : List Occurrence → ℕ → ℕ → Type 0) : Type 0 where
  pub itself : (os : List Occurrence) (i : ℕ) (declares : Bool) → S i → R (name_noted i i declares ∷ os) i i
  pub spelled : (os : List Occurrence) (i j e : ℕ) → S i → alike toks i j ≡ true → R os j e → R os i e
  pub more : Stays R

-- the token that is the name of a declaration is one of them, and has it with the entity
abbrev pub Named : (ℕ → Type 0) → (List Occurrence → ℕ → ℕ → Type 0) → List Occurrence → Declaration → Type 0
Named S R os d = S d.name_at × R os d.name_at d.entity

-- it holds of all that is known
pub record Holds (S : ℕ → Type 0) (R : List Occurrence → ℕ → ℕ → Type 0) (facts : Facts) : Type 0 where
  pub declared : (d : Declaration) → In d facts.declared → is_unnamed d.space ≡ false → Named S R facts.occurrences d
  pub occurrences : (o : Occurrence) → In o facts.occurrences → R facts.occurrences o.index o.entity
  pub jumps : (j : ℕ) → In j facts.jumps → S j
  pub fault : IfSome facts.fault (λ f. S f.index)

-- a fault changes nothing that is noted
pub noted_still : (P : List Occurrence → Type 0) (c : Bool) (cause : Cause) (i : ℕ) (facts : Facts) → P facts.occurrences
    → P (with_fault c cause i facts).occurrences
noted_still P true cause i facts h = h
noted_still P false cause i facts h = h

first_or_more : {X : Type 0} (P : X → Type 0) (x y : X) (ys : List X) → P y → (In x ys → P x) → In x (y ∷ ys) → P x
first_or_more P x y ys first more (inl same) = subst P same first
first_or_more P x y ys first more (inr w) = more w

module _ (S : ℕ → Type 0) (R : List Occurrence → ℕ → ℕ → Type 0) where
  first_case : (c : Bool) (f g : Fault) → S f.index → S g.index → IfSome (if c then Some f else Some g) (λ x. S x.index)
  first_case true f g s t = s
  first_case false f g s t = t

  first_held : (o : Option Fault) (f : Fault) → IfSome o (λ x. S x.index) → S f.index → IfSome (first_fault o f) (λ x. S x.index)
  first_held None f h s = s
  first_held (Some g) f h s = first_case (comes_first f g) f g s h

  pub fault_held : (c : Bool) (cause : Cause) (i : ℕ) (facts : Facts) → S i → Holds S R facts → Holds S R (with_fault c cause i facts)
  fault_held true cause i facts s h = record {
    declared = h.declared;
    occurrences = h.occurrences;
    jumps = h.jumps;
    fault = first_held facts.fault (fault_at cause i) h.fault s;
  }
  fault_held false cause i facts s h = h

  pub occurrence_held : Stays R → (i e : ℕ) (declares : Bool) (facts : Facts) → R (name_noted i e declares ∷ facts.occurrences) i e → Holds S R facts
      → Holds S R (with_occurrence i e declares facts)
  occurrence_held stays i e declares facts r h =
      let o : Occurrence = name_noted i e declares in
      let os : List Occurrence = facts.occurrences in
      record {
        declared = λ x w u. let n = h.declared x w u in (n.0, stays o os x.name_at x.entity n.1);
        occurrences = λ x.
            first_or_more (λ (y : Occurrence). R (o ∷ os) y.index y.entity) x o os r (λ w. stays o os x.index x.entity (h.occurrences x w));
        jumps = h.jumps;
        fault = h.fault;
      }

  pub declaration_held : Stays R → (d : Declaration) (facts : Facts) → S d.name_at → R (name_noted d.name_at d.entity true ∷ facts.occurrences) d.name_at d.entity
      → Holds S R facts → Holds S R (with_declaration d facts)
  declaration_held stays d facts s r h =
      let o : Occurrence = name_noted d.name_at d.entity true in
      let os : List Occurrence = facts.occurrences in
      record {
        declared = λ x.
            first_or_more (λ (y : Declaration). is_unnamed y.space ≡ false → Named S R (o ∷ os) y) x d facts.declared (λ u. (s, r))
            (λ w u. let n = h.declared x w u in (n.0, stays o os x.name_at x.entity n.1));
        occurrences = λ x.
            first_or_more (λ (y : Occurrence). R (o ∷ os) y.index y.entity) x o os r (λ w. stays o os x.index x.entity (h.occurrences x w));
        jumps = h.jumps;
        fault = h.fault;
      }

  -- one that no token of its own declares
  pub silent_held : (d : Declaration) (facts : Facts) → (is_unnamed d.space ≡ false → Named S R facts.occurrences d) → Holds S R facts
      → Holds S R (with_silent d facts)
  silent_held d facts n h = record {
    declared = λ x. first_or_more (λ (y : Declaration). is_unnamed y.space ≡ false → Named S R facts.occurrences y) x d facts.declared n (h.declared x);
    occurrences = h.occurrences;
    jumps = h.jumps;
    fault = h.fault;
  }

  pub begun_held : (c : Bool) (e : ℕ) (facts : Facts) → Holds S R facts → Holds S R (with_begun c e facts)
  begun_held true e facts h = record { declared = h.declared; occurrences = h.occurrences; jumps = h.jumps; fault = h.fault }
  begun_held false e facts h = h

  pub complete_held : (n : ℕ) (facts : Facts) → Holds S R facts → Holds S R (with_complete n facts)
  complete_held n facts h = record { declared = h.declared; occurrences = h.occurrences; jumps = h.jumps; fault = h.fault }

  -- ---- Second ranges

  module _ (os : List Occurrence) where
    abbrev Related : Declaration → Type 0
    Related d = is_unnamed d.space ≡ false → Named S R os d

    copied_step : (c : Bool) (from to : ℕ) (x d : Declaration) (copies : List Declaration) → Related d → (In x copies → Related x)
        → In x (cons_option (if c then Some (record d { from = from; to = to }) else None) copies) → Related x
    copied_step true from to x d copies r more w = first_or_more Related x (record d { from = from; to = to }) copies r more w
    copied_step false from to x d copies r more w = more w

    copied_held : (list depth from to : ℕ) (x : Declaration) (ds : List Declaration) → ((d : Declaration) → In d ds → Related d)
        → In x (filter_map (kept_here list depth from to) ds) → Related x
    copied_held list depth from to x [] h w = absurd w
    copied_held list depth from to x (d ∷ ds) h w =
        copied_step ((d.to == list) && ((d.depth == depth) && not (is_member d.space))) from to x d (filter_map (kept_here list depth from to) ds) (h d (inl refl))
        (copied_held list depth from to x ds (λ y v. h y (inr v))) w

    joined_held : (x : Declaration) (xs ys : List Declaration) → (In x xs → Related x) → (In x ys → Related x) → In x (xs ++ ys) → Related x
    joined_held x [] ys h k w = k w
    joined_held x (y ∷ xs) ys h k (inl same) = h (inl same)
    joined_held x (y ∷ xs) ys h k (inr w) = joined_held x xs ys (λ v. h (inr v)) k w

  pub kept_held : (list : Option ℕ) (depth from to : ℕ) (facts : Facts) → Holds S R facts → Holds S R (with_kept list depth from to facts)
  kept_held None depth from to facts h = h
  kept_held (Some list) depth from to facts h = record {
    declared = λ x. joined_held facts.occurrences x (filter_map (kept_here list depth from to) facts.declared) facts.declared (copied_held facts.occurrences list depth from to x facts.declared h.declared) (h.declared x);
    occurrences = h.occurrences;
    jumps = h.jumps;
    fault = h.fault;
  }

-- ---- Look-ups

module _ (toks : List Token) (S : ℕ → Type 0) (R : List Occurrence → ℕ → ℕ → Type 0) (law : GoesOn toks S R) where
  found_held : (space : Space) (i : ℕ) (test : Declaration → Bool) (facts : Facts) → S i → Holds S R facts → (r : Option Declaration)
      → looked_up toks space i test facts ≡ r → IfSome r (λ d. R facts.occurrences i d.entity)
  found_held space i test facts s h None e = tt
  found_held space i test facts s h (Some d) e =
      let passes : (is_named toks space i d && test d) ≡ true = found_passes (λ d. is_named toks space i d && test d) facts.declared d e in
      let n : Named S R facts.occurrences d =
      h.declared d (found_in (λ d. is_named toks space i d && test d) facts.declared d e)
      (found_named d.space space ((and_parts (is_space d.space space) (alike toks i d.name_at) ((and_parts (is_named toks space i d) (test d) passes).0)).0)) in
      law.spelled facts.occurrences i d.name_at d.entity s
      ((and_parts (is_space d.space space) (alike toks i d.name_at) ((and_parts (is_named toks space i d) (test d) passes).0)).1)
      n.1

  -- the entity of what a token denotes
  pub looked_up_held : (space : Space) (i : ℕ) (test : Declaration → Bool) (facts : Facts) → S i → Holds S R facts
      → IfSome (looked_up toks space i test facts) (λ d. R facts.occurrences i d.entity)
  looked_up_held space i test facts s h = found_held space i test facts s h (looked_up toks space i test facts) refl
