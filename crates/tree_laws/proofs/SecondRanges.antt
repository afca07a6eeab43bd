-- The second ranges of a parameter list: its names begin the body, and what is kept stays so.
use Rattle.std.proofs.Common.{ℕ, ◌≡◌, Bool, true, false, ◌&&◌, not, if◌then◌else◌, ◌==◌, List, [], ◌∷◌, ◌++◌, Option, None, Some, ◌⊎◌, inl, inr, refl, sym, ap, subst, ◌∙◌}
use Rattle.std.specs.Prelude.{filter_map}
use Rattle.std.specs.List.{cons_option}
use Rattle.cs_base.specs.Token.{Token}
use Rattle.c_types.specs.declared.entity.Linkage.{Linkage}
use Rattle.scope_bind.specs.Named.{Space, Declaration, ordinary}
use Rattle.c_types.specs.Declarations.{is_space, Facts, alike, has_linkage}
use Rattle.name_chains.specs.Entering.{is_member, kept_here, with_kept}
use Rattle.tree_laws.proofs.Unnamed.{is_unnamed}
use Rattle.tree_laws.proofs.Lookups.{In}
use Rattle.tree_laws.proofs.Renaming.{Good, Kept, occurrence}

-- what a look-up sees of a declaration
pub record Key : Type 0 where
  pub space : Space
  pub name_at : ℕ
  pub entity : ℕ
  pub linkage : Linkage

abbrev key : Declaration → Key
key d = record { space = d.space; name_at = d.name_at; entity = d.entity; linkage = d.linkage }

-- one of these declarations, perhaps with another range
abbrev From : Declaration → List Declaration → Type 0
From x ds = (d : Declaration) × (In d ds × (key d ≡ key x))

from_more : (x d : Declaration) (ds rest : List Declaration) → (From x ds ⊎ In x rest) → (From x (d ∷ ds) ⊎ In x rest)
from_more x d ds rest (inl f) = inl (f.0, (inr f.1.0, f.1.1))
from_more x d ds rest (inr w) = inr w

module _ (list depth from to : ℕ) (rest : List Declaration) (x : Declaration) where
  copied_step : (c : Bool) (d : Declaration) (ds : List Declaration)
      → (In x (filter_map (kept_here list depth from to) ds ++ rest) → From x ds ⊎ In x rest)
      → In x (cons_option (if c then Some (record d { from = from; to = to }) else None) (filter_map (kept_here list depth from to) ds) ++ rest)
      → From x (d ∷ ds) ⊎ In x rest
  copied_step true d ds more (inl s) = inl (d, (inl refl, ap key s))
  copied_step true d ds more (inr w) = from_more x d ds rest (more w)
  copied_step false d ds more w = from_more x d ds rest (more w)

  copied : (ds : List Declaration) → In x (filter_map (kept_here list depth from to) ds ++ rest) → From x ds ⊎ In x rest
  copied [] w = inr w
  copied (d ∷ ds) w =
      copied_step ((d.to == list) && ((d.depth == depth) && not (is_member d.space))) d ds (copied ds) w

from_either : (x : Declaration) (ds : List Declaration) → (From x ds ⊎ In x ds) → From x ds
from_either x ds (inl f) = f
from_either x ds (inr w) = (x, (w, refl))

from_all : (list depth from to : ℕ) (x : Declaration) (ds : List Declaration) → In x (filter_map (kept_here list depth from to) ds ++ ds) → From x ds
from_all list depth from to x ds w = from_either x ds (copied list depth from to ds x ds w)

module _ (a : List Token) where
  abbrev LinkedKey : ℕ → Key → Type 0
  LinkedKey i k = ((is_space k.space ordinary && alike a i k.name_at) && has_linkage k.linkage) ≡ true

  abbrev OrdinaryKey : Key → Type 0
  OrdinaryKey k = has_linkage k.linkage ≡ true → is_space k.space ordinary ≡ true

  kept_copies : (list depth from to : ℕ) (facts : Facts) → Kept a facts → Kept a (with_kept (Some list) depth from to facts)
  kept_copies list depth from to facts k = record {
    covered = λ x w u.
        let f : From x facts.declared = from_all list depth from to x facts.declared w in
        subst (λ (q : Key). In (occurrence q.name_at q.entity true) facts.occurrences ⊎ In (occurrence q.name_at q.entity false) facts.occurrences) f.1.1
        (k.covered f.0 f.1.0 (subst (λ (q : Key). is_unnamed q.space ≡ false) (sym f.1.1) u));
    linked = λ x w.
        let f : From x facts.declared = from_all list depth from to x facts.declared w in
        subst OrdinaryKey f.1.1 (k.linked f.0 f.1.0);
    one = λ i x y v w l m.
        let f : From x facts.declared = from_all list depth from to x facts.declared v in
        let g : From y facts.declared = from_all list depth from to y facts.declared w in
        sym (ap (λ (q : Key). q.entity) f.1.1)
        ∙ (k.one i f.0 g.0 f.1.0 g.1.0 (subst (LinkedKey i) (sym f.1.1) l) (subst (LinkedKey i) (sym g.1.1) m)
        ∙ ap (λ (q : Key). q.entity) g.1.1);
  }

  pub kept_with : (list : Option ℕ) (depth from to : ℕ) (facts : Facts) → Kept a facts → Kept a (with_kept list depth from to (record facts { jumps = [] }))
  kept_with None depth from to facts k = record { covered = k.covered; linked = k.linked; one = k.one }
  kept_with (Some list) depth from to facts k = kept_copies list depth from to (record facts { jumps = [] }) (record { covered = k.covered; linked = k.linked; one = k.one })

pub good_with : (a b : List Token) (list : Option ℕ) (depth from to : ℕ) (facts : Facts) → Good a b (with_kept list depth from to (record facts { jumps = [] })) → Good a b facts
good_with a b None depth from to facts h = record { clean = h.clean; good = h.good; apart = h.apart }
good_with a b (Some list) depth from to facts h = record { clean = h.clean; good = h.good; apart = h.apart }
