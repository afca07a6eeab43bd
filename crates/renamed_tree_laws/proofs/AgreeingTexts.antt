-- A text whose names agree with the tree of another one is read to it.
use Rattle.std.proofs.Common.{ℕ, ◌≡◌, Bool, true, List, length, Result, Ok, Err, sym, ap, subst, ◌∙◌}
use Rattle.c99_grammar.specs.declared.dialects.Dialect.TheVariants.{Iso}
use Rattle.c99_grammar.specs.declared.dialects.Edition.{Edition}
use Rattle.cs_base.specs.Token.{Token}
use Rattle.c99_tree.specs.Tree.{Node, node_of, lone}
use Rattle.c99_tree.specs.declared.production.Production.TheVariants.{TranslationUnit}
use Rattle.c99_read.specs.State.{base_at}
use Rattle.c99_read.specs.Reading.{Step, Stop, produce, steps_for, read_within, read_of, whole, at_first, tree_of}
use Rattle.c99_grammar.specs.Standard.{iso}
use Rattle.name_chains.specs.Frames.{at_first as before}
use Rattle.tree_laws.specs.Agreeing.{agrees}
use Rattle.tree_laws.proofs.Outlines.{agrees_same}
use Rattle.tree_laws.proofs.Goes.{After}
use Rattle.tree_laws.proofs.Units.{unit_label}
use Rattle.renamed_tree_laws.specs.Along.{all_along}
use Rattle.renamed_tree_laws.specs.Respelled.{IsReadSo}
use Rattle.renamed_tree_laws.proofs.RespelledTexts.{one_kind_alike}
use Rattle.renamed_tree_laws.specs.TreesAlike.{AgreeingTextsReadAlike}
use Rattle.renamed_tree_laws.proofs.Asking.{of_token, of_node}
use Rattle.renamed_tree_laws.proofs.UnitAsks.{UnitTold, unit_asks}

abbrev read_as : Node → Result Node Stop
read_as n = Ok n

same_node : (x y c : Node) → read_as x ≡ read_as y → x ≡ c → y ≡ c
same_node x y c h k = cc

module _ (std : Edition) where
  module _ (a b : List Token) (same : (k : ℕ) → base_at (iso std) a k ≡ base_at (iso std) b k) (tree : Node) (agree : agrees std b tree.under (before (length a)) ≡ true) where
    step_told : (v : Bool) (r : Step) → After (UnitTold std a b same v) r → tree_of r ≡ Ok tree → v ≡ true
    step_told v (Err stop) m e = absurd (cc)
    step_told v (Ok s) m e =
        let unit : Node = node_of (unit_label std a) 0 m.last_one.built.under in
        let is : tree ≡ unit = same_node (lone s.built.under s.built) tree unit e (ap (λ (n : Node). lone n.under n) m.built) in
        m.told (sym (agrees_same std b m.last_one.built.under (before (length a))) ∙ subst (λ (n : Node). agrees std b n.under (before (length a)) ≡ true) is agree)

    along_told : read_of (iso std) a ≡ Ok tree → all_along (iso std) (of_token std a b) (of_node std a b) a ≡ true
    unfolding whole
    along_told e =
        step_told (all_along (iso std) (of_token std a b) (of_node std a b) a) (read_within (iso std) (steps_for (produce TranslationUnit) (at_first a)) 0 (produce TranslationUnit) (at_first a))
        (unit_asks std a b same (steps_for (produce TranslationUnit) (at_first a))) e

  pub read_so : (a b : List Token) (tree : Node) → length a ≡ length b → ((k : ℕ) → base_at (iso std) a k ≡ base_at (iso std) b k) → read_of (iso std) a ≡ Ok tree
      → agrees std b tree.under (before (length b)) ≡ true → IsReadSo (Iso std) a b
  read_so a b tree as_long same e agree = record {
    as_long = as_long;
    classes = same;
    kinds = along_told a b same tree (ap (λ n. agrees std b tree.under (before n)) as_long ∙ agree) e;
  }

pub agreeing_alike : AgreeingTextsReadAlike
agreeing_alike std a b tree as_long same e agree = one_kind_alike (Iso std) a b tree (read_so std a b tree as_long same e agree) e
