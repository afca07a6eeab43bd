-- The tree that is read of a text is one of this text.
use Rattle.std.proofs.Common.{◌≡◌, Bool, true, List, length, Ok, Err, refl, sym, subst, ◌∙◌}
use Rattle.c99_grammar.specs.declared.dialects.Dialect.{Dialect}
use Rattle.c99_grammar.specs.declared.dialects.Dialect.TheVariants.{Iso, Gnu}
use Rattle.c99_grammar.specs.declared.dialects.Edition.{Edition}
use Rattle.cs_base.specs.Token.{Token}
use Rattle.c99_tree.specs.Tree.{Forest, Node, lone}
use Rattle.c99_tree.specs.declared.production.Production.{Production}
use Rattle.c99_tree.specs.declared.production.Production.TheVariants.{TranslationUnit}
use Rattle.c99_read.specs.Reading.{Step, produce, steps_for, whole, at_first, tree_of, read_of}
use Rattle.c99_grammar.specs.Standard.{iso, grammar}
use Rattle.tree_laws.specs.TreesOfTexts.{has_form, have_forms, have_plain_declarators, IsTreeOf}
use Rattle.tree_laws.specs.Shapes.{reads_all}
use Rattle.tree_laws.specs.ReadTexts.{Reads, TreesAreOfTheirTexts, TreesOfEditionsArePlain}
use Rattle.tree_laws.proofs.Walked.{After}
use Rattle.tree_laws.proofs.Ordered.{in_order, all_tokens}
use Rattle.tree_laws.proofs.Each.{each, each_lone, Keeps}
use Rattle.tree_laws.proofs.Formed.{grammar_formed, editions_plain}
use Rattle.tree_laws.proofs.Forms.{forms_within, each_form, has_plain_form, plain_within, each_plain}

module _ (good : Production → Forest → Bool) where
  tree_good : (toks : List Token) (r : Step) (tree : Node) → After (Keeps good (at_first toks)) r → tree_of r ≡ Ok tree
      → each good tree.under ≡ true
  tree_good toks (Ok s) tree keeps e =
      let below = keeps.goes_on refl in
      let same : lone s.built.under s.built ≡ tree = cc in
      subst (λ (n : Node). each good n.under ≡ true) same (each_lone good s.built.under s.built below refl)
  tree_good toks (Err stop) tree keeps e = absurd (cc)

module _ (std : Dialect) where
  unit_keeps : (toks : List Token) → After (Keeps has_form (at_first toks)) (whole (grammar std) 0 (produce TranslationUnit) (at_first toks))
  unfolding whole
  unit_keeps toks = forms_within (grammar std) (grammar_formed std) (steps_for (produce TranslationUnit) (at_first toks)) 0 TranslationUnit (at_first toks)

  read_formed : (toks : List Token) (tree : Node) → read_of (grammar std) toks ≡ Ok tree → have_forms tree.under ≡ true
  read_formed toks tree e = sym (each_form tree.under) ∙ tree_good has_form toks _ tree (unit_keeps toks) e

module _ (std : Edition) where
  plain_keeps : (toks : List Token) → After (Keeps has_plain_form (at_first toks)) (whole (iso std) 0 (produce TranslationUnit) (at_first toks))
  unfolding whole
  plain_keeps toks = plain_within (iso std) (editions_plain std) (steps_for (produce TranslationUnit) (at_first toks)) 0 TranslationUnit (at_first toks)

  read_plain : (toks : List Token) (tree : Node) → read_of (iso std) toks ≡ Ok tree → have_plain_declarators tree.under ≡ true
  read_plain toks tree e = sym (each_plain tree.under) ∙ tree_good has_plain_form toks _ tree (plain_keeps toks) e

reads_whole : (d : Dialect) → reads_all (grammar d) ≡ true
reads_whole (Iso s) = refl
reads_whole Gnu = refl

pub trees_by_dialect : TreesAreOfTheirTexts
trees_by_dialect std toks tree e = record {
  tokens = in_order (grammar std) toks tree e;
  all = all_tokens (grammar std) toks tree (reads_whole std) e;
  forms = read_formed std toks tree e;
}

-- .. by an edition
pub trees_of_texts : (s : Edition) (toks : List Token) (tree : Node) → Reads (iso s) toks tree → IsTreeOf (length toks) tree
trees_of_texts s = trees_by_dialect (Iso s)

pub plain_trees_of_texts : TreesOfEditionsArePlain
plain_trees_of_texts s toks tree e = record { is_tree = trees_of_texts s toks tree e; plain = read_plain s toks tree e }
