-- Names that are read as no typedef names, though they are uses of nothing, are identifiers (ISO/IEC 9899:1999, 6.7.5.3).
use Rattle.std.proofs.Common.{◌≡◌, ℕ, ◌+◌, ◌==◌, ◌%◌, ◌&&◌, ◌||◌, Bool, true, false, not, List, refl}
use Rattle.std.proofs.lemmas.Bool.{and_parts, or_left}
use Rattle.analysis.specs.Below.c99_grammar.declared.dialects.Edition.{Edition}
use Rattle.cs_base.specs.Token.{Token}
use Rattle.c99_tree.specs.Tree.{Forest, none, token, node}
use Rattle.c99_tree.specs.declared.production.Label.{Label}
use Rattle.c99_tree.specs.declared.production.Production.{Production}
use Rattle.c99_tree.specs.declared.production.Production.TheVariants.{Enumerator, Params, Pdirect}
use Rattle.analysis.specs.Below.c99_grammar.Standard.{iso}
use Rattle.analysis.specs.Below.c99_read.State.{base_at, is_identifier}
use Rattle.analysis.specs.Below.c_types.Trees.{is_node, is_at, has_name}
use Rattle.analysis.specs.Below.scope_bind.Named.{is_plain_role}
use Rattle.analysis.specs.Below.scope_bind.Roles.{role_of}
use Rattle.tree_laws.specs.TreesOfTexts.{is_name_place, names_pass}
use Rattle.renamed_tree_laws.specs.Loose.{is_listed, is_enclosed, AllLoose}

abbrev labelled : Production → ℕ → Label
labelled p n = record { production = p; alternative = n }

-- a name in an identifier list stands where names do
listed_at : (p : Production) (n k : ℕ) → is_listed (labelled p n) k ≡ true → not (is_plain_role (role_of p n k)) ≡ true
listed_at Params n k h = let listed : ((n == 1) && (k % 2 == 0)) ≡ true = h in rw listed refl
listed_at _ n k h = absurd (cc)

place_passes : (place test : Bool) → place ≡ true → (not place || test) ≡ true → test ≡ true
place_passes true test is h = h
place_passes false test is h = absurd (cc)

module _ (std : Edition) (toks : List Token) where
  abbrev test : ℕ → Bool
  test i = is_identifier (base_at (iso std) toks i)

  abbrev Named : ℕ → Type 0
  Named i = test i ≡ true

  pub loose_named : (l : Label) (k : ℕ) (f : Forest) → names_pass test l k f ≡ true → AllLoose std toks Named l k f
  loose_named l k none h = tt
  loose_named l k (token i rest) h =
      let both = and_parts (not (is_name_place l k) || test i) (names_pass test l (k + 1) rest) h in (
        λ listed. place_passes (is_name_place l k) (test i)
            (or_left (not (is_plain_role (role_of l.production l.alternative k))) (has_name l || is_node l Enumerator && (k == 0)) (listed_at l.production l.alternative k listed)) both.0,
        loose_named l (k + 1) rest both.1,
      )
  loose_named l k (node m first under rest) h =
      let both = and_parts (names_pass test m 0 under) (names_pass test l (k + 1) rest) h in (
        λ enclosed. (and_parts (is_at m Pdirect 2) (test (first + 1)) enclosed).1,
        (loose_named m 0 under both.0, loose_named l (k + 1) rest both.1),
      )

  -- what is so of each that is named is so of each
  pub loose_all : (P Q : ℕ → Type 0) (l : Label) (k : ℕ) (f : Forest) → AllLoose std toks P l k f → AllLoose std toks (λ i. P i → Q i) l k f → AllLoose std toks Q l k f
  loose_all P Q l k none h more = tt
  loose_all P Q l k (token i rest) h more = (λ listed. more.0 listed (h.0 listed), loose_all P Q l (k + 1) rest h.1 more.1)
  loose_all P Q l k (node m first under rest) h more = (
    λ enclosed. more.0 enclosed (h.0 enclosed),
    (loose_all P Q m 0 under h.1.0 more.1.0, loose_all P Q l (k + 1) rest h.1.1 more.1.1),
  )
