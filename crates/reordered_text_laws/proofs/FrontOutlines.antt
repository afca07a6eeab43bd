-- The whole tree agrees behind the typedef.
use Rattle.std.proofs.Common.{ℕ, ◌+◌, ◌≡◌, Bool, false, ◌&&◌, if◌then◌else◌, List, [], length, Option, None, refl, sym, ap, ◌∙◌}
use Rattle.c99_grammar.specs.declared.dialects.Edition.{Edition}
use Rattle.cs_base.specs.Token.{Token}
use Rattle.c99_tree.specs.Tree.{Forest, none, token, node}
use Rattle.c99_tree.specs.declared.production.Label.{Label}
use Rattle.c99_tree.specs.declared.production.Production.{Production}
use Rattle.c99_tree.specs.declared.production.Production.TheVariants.{TranslationUnit, Enumerator, Declarator, Pdecl, Specs}
use Rattle.scope_bind.specs.Named.{Scope}
use Rattle.c_types.specs.Trees.{is_node, has_mod, first_list}
use Rattle.name_chains.specs.Frames.{at_first as before}
use Rattle.tree_laws.proofs.Outline.{Entry, Outline, begun, entries_after, outlined, node_agrees, all_agree}
use Rattle.tree_laws.proofs.Outlines.{outline, agrees_same}
use Rattle.reordered_text_laws.specs.ByClasses.{joined}
use Rattle.reordered_text_laws.specs.Fronted.{fronted, raised, labelled_as, front_forest, AgreesBehindATypedef}
use Rattle.reordered_text_laws.proofs.FrontAgrees.{up_outline, all_same}

-- what is known between definitions
abbrev pub between : List Entry → ℕ → Scope → Bool → Option ℕ → Outline
between es m sc typedef kept = record { entries = es; label = labelled_as TranslationUnit 1; nth = m; scope = sc; typedef = typedef; kept = kept }

after_same : (p : Production) (first : ℕ) (l : Label) (f : Forest) (xs es : List Entry) (m k : ℕ) (sc : Scope) (typedef : Bool) (kept : Option ℕ)
    → entries_after p first (between es m sc typedef kept) l f xs ≡ entries_after p first (between es k sc typedef kept) l f xs
after_same Declarator first l f xs es m k sc typedef kept = refl
after_same Pdecl first l f xs es m k sc typedef kept = refl
after_same Enumerator first l f xs es m k sc typedef kept = refl
after_same _ first l f xs es m k sc typedef kept = refl

module _ (std : Edition) (toks : List Token) where
  -- how many definitions stand before is not asked
  pub any_place : (f : Forest) (es : List Entry) (m k : ℕ) (sc : Scope) (typedef : Bool) (kept : Option ℕ)
      → all_agree std toks f (between es m sc typedef kept) ≡ all_agree std toks f (between es k sc typedef kept)
  any_place none es m k sc typedef kept = refl
  any_place (token i rest) es m k sc typedef kept = any_place rest es (m + 1) (k + 1) sc typedef kept
  any_place (node l first under rest) es m k sc typedef kept =
      let inside : Outline = outlined under (begun l first under (between es m sc typedef kept)) in
      let typedef' : Bool = if is_node l Specs then has_mod 1 under else typedef in
      let kept' : Option ℕ = if is_node l Declarator then first_list under else kept in
      ap (λ b. node_agrees std toks l first es && (all_agree std toks under (begun l first under (between es m sc typedef kept)) && b))
      (any_place rest (entries_after l.production first (between es m sc typedef kept) l under inside.entries) (m + 1) (k + 1) sc typedef' kept'
      ∙ ap (λ xs. all_agree std toks rest (between xs (k + 1) sc typedef' kept')) (after_same l.production first l under inside.entries es m k sc typedef kept))

abbrev pub start : ℕ → Outline
start n = between [] 0 (record { depth = 0; to = n }) false None

-- the typedef by itself
pub front_agrees : (s : Edition) (z : List Token) (f : Forest) → all_agree s (fronted z) (joined (front_forest s) f) (outline (before (length (fronted z))))
    ≡ all_agree s (fronted z) f (record (up_outline (length z) (start (length z))) { nth = 1 })
front_agrees s z f = refl

pub agrees_behind : AgreesBehindATypedef
agrees_behind s z tree named filled plain agree =
    agrees_same s (fronted z) (joined (front_forest s) (raised tree.under)) (before (length (fronted z)))
    ∙ (front_agrees s z (raised tree.under)
    ∙ (any_place s (fronted z) (raised tree.under) (up_outline (length z) (start (length z))).entries 1 0 (up_outline (length z) (start (length z))).scope false None
    ∙ (all_same (length z) z s named tree.under (start (length z)) filled plain
    ∙ (sym (agrees_same s z tree.under (before (length z))) ∙ agree))))
