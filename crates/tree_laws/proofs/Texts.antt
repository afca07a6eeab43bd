-- A text that is read as one production, and one that is read as a unit.
use Rattle.std.proofs.Common.{◌≤◌, ◌≡◌, true, List, [], ◌∷◌, length, Result, Ok, Err, refl, ap, subst, ◌∙◌, arith}
use Rattle.std.proofs.lemmas.Bool.{and_from}
use Rattle.c99_grammar.specs.declared.dialects.Edition.{Edition}
use Rattle.cs_base.specs.Token.{Token}
use Rattle.c99_tree.specs.Tree.{none, node, Node, node_of, lone}
use Rattle.c99_tree.specs.declared.production.Production.{Production}
use Rattle.c99_tree.specs.declared.production.Production.TheVariants.{TranslationUnit}
use Rattle.c99_read.specs.State.{State}
use Rattle.c99_read.specs.Reading.{Step, Stop, produce, steps_for, read_within, whole, at_first, tree_of}
use Rattle.c99_grammar.specs.Standard.{iso}
use Rattle.name_chains.specs.Frames.{at_first as before}
use Rattle.tree_laws.specs.Agreeing.{agrees}
use Rattle.tree_laws.specs.TypedefNames.{NamesAreReadAsTheyAreBound, NamesOfPartsAreReadAsTheyAreBound}
use Rattle.tree_laws.proofs.Outline.{node_agrees}
use Rattle.tree_laws.proofs.Outlines.{outline, agrees_same}
use Rattle.tree_laws.proofs.Beginning.{first_matches, file_bounds}
use Rattle.tree_laws.proofs.Goes.{After, Makes}
use Rattle.tree_laws.proofs.TypedefSteps.{Grows}
use Rattle.tree_laws.proofs.Rules.{labelled}
use Rattle.tree_laws.proofs.Table.{reads_within}
use Rattle.tree_laws.proofs.Units.{UnitMade, unit_within}

abbrev read_as : Node → Result Node Stop
read_as n = Ok n

ok_child : (x y c : Node) → read_as x ≡ read_as y → x ≡ c → c ≡ y
ok_child x y c h k = cc

module _ (std : Edition) where
  module _ (toks : List Token) (p : Production) where
    made_agrees : (s : State) → Makes std toks p (at_first toks) s → (tree : Node) → tree_of (Ok s) ≡ Ok tree
        → agrees std toks (node tree.label tree.first tree.under none) (before (length toks)) ≡ true
    made_agrees s m tree e =
        let o = outline (before (length toks)) in
        let built : s.built.under ≡ node m.child.label m.child.first m.child.under none = ap (λ (n : Node). n.under) m.built in
        let same : m.child ≡ tree = ok_child (lone s.built.under s.built) tree m.child e (ap (λ f. lone f s.built) built) in
        let within : s.at ≤ length toks = m.within (omega arith) in
        let made = m.fits o (length toks ∷ []) refl tt (file_bounds s.at (length toks) s.names.scopes m.outer within) (first_matches (length toks)) refl in
        subst (λ (n : Node). agrees std toks (node n.label n.first n.under none) (before (length toks)) ≡ true) same
        (agrees_same std toks (node m.child.label m.child.first m.child.under none) (before (length toks))
        ∙ and_from (node_agrees std toks m.child.label m.child.first o.entries) _ made.named (and_from _ true made.agree refl))

    step_agrees : (r : Step) → After (λ s. Makes std toks p (at_first toks) s × Grows p (at_first toks) s) r → (tree : Node) → tree_of r ≡ Ok tree
        → agrees std toks (node tree.label tree.first tree.under none) (before (length toks)) ≡ true
    step_agrees (Err stop) m tree e = absurd (cc)
    step_agrees (Ok s) m tree e = made_agrees s m.0 tree e

  -- ---- A unit

  module _ (toks : List Token) where
    unit_agrees : (s : State) → UnitMade std toks s → (tree : Node) → tree_of (Ok s) ≡ Ok tree → agrees std toks tree.under (before (length toks)) ≡ true
    unit_agrees s m tree e =
        let unit : Node = node_of (labelled TranslationUnit 1) 0 m.under in
        let same : unit ≡ tree = ok_child (lone s.built.under s.built) tree unit e (ap (λ (n : Node). lone n.under n) m.built) in
        subst (λ (n : Node). agrees std toks n.under (before (length toks)) ≡ true) same (agrees_same std toks m.under (before (length toks)) ∙ m.agrees)

    read_agrees : (r : Step) → After (UnitMade std toks) r → (tree : Node) → tree_of r ≡ Ok tree → agrees std toks tree.under (before (length toks)) ≡ true
    read_agrees (Err stop) m tree e = absurd (cc)
    read_agrees (Ok s) m tree e = unit_agrees s m tree e

pub parts_agree : NamesOfPartsAreReadAsTheyAreBound
unfolding whole
parts_agree std toks p tree told e =
    (step_agrees std) toks p (read_within (iso std) (steps_for (produce p) (at_first toks)) 0 (produce p) (at_first toks))
    ((reads_within std toks (steps_for (produce p) (at_first toks))).made 0 p (at_first toks) told) tree e

pub units_agree : NamesAreReadAsTheyAreBound
unfolding whole
units_agree std toks tree e =
    (read_agrees std) toks (read_within (iso std) (steps_for (produce TranslationUnit) (at_first toks)) 0 (produce TranslationUnit) (at_first toks))
    (unit_within std toks (steps_for (produce TranslationUnit) (at_first toks))) tree e
