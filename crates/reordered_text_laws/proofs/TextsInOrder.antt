-- A text in which no name is a use of another one is read to its tree in the new order where its tokens stand in it.
use Rattle.std.proofs.Common.{ℕ, suc, zero, ◌+◌, ◌*◌, ◌-◌, ◌<◌, ◌≡◌, Bool, true, false, if◌then◌else◌, List, [], length, Option, None, Some, Ok, Err, refl, sym, ap, subst, ◌∙◌, arith, add-one}
use Rattle.std.proofs.lemmas.Bool.{false≢true}
use Rattle.std.proofs.Math.Path.{fun_ext}
use Rattle.c99_grammar.specs.declared.dialects.Edition.{Edition}
use Rattle.cs_base.specs.Token.{Token}
use Rattle.c99_tree.specs.Tree.{Forest, none, token, node, Node, node_of, lone}
use Rattle.c99_tree.specs.declared.production.Label.{Label}
use Rattle.c99_tree.specs.declared.production.Production.TheVariants.{TranslationUnit, External}
use Rattle.c99_grammar.specs.First.{order}
use Rattle.c99_grammar.specs.Items.{Item, part, end_of_text, ◌·◌, many, own}
use Rattle.c99_grammar.specs.Spellings.{Spelled}
use Rattle.c99_grammar.specs.Standard.{Grammar, iso}
use Rattle.c99_read.specs.State.{State, base_at, opened, closed}
use Rattle.c99_read.specs.Reading.{Goal, produce, Step, syntax, and_then, may, step, read_within, steps_for, goal_order, whole, at_first, tree_of, read_of}
use Rattle.c99_read.specs.Sound.{IsSound, is_met}
use Rattle.c99_read.proofs.C99Sound.{iso-sound}
use Rattle.c99_read.proofs.Moves.{Moves-read_within}
use Rattle.c99_read.proofs.Suffices.{measure, run-agree, whole-runs}
use Rattle.tree_laws.specs.TreesOfTexts.{token_count, AreFrom}
use Rattle.tree_laws.specs.ReadTexts.{TokensStandInOrder}
use Rattle.reordered_tree_laws.specs.Reordered.{permuted, numbered, reordered}
use Rattle.reordered_tree_laws.proofs.SameForms.{count-numbered}
use Rattle.reordered_text_laws.specs.Alone.{AreAlone, IsReadAlike}
use Rattle.reordered_text_laws.specs.ByClasses.{numbers_from, untold, Taken, taken, read_item, read_by_classes}
use Rattle.reordered_text_laws.specs.InOrder.{with_words, IsReadAs, TextsAloneAreReadInOrder}
use Rattle.reordered_text_laws.proofs.Later.{goal_on}
use Rattle.reordered_text_laws.proofs.Alone.{Sim, at_begin, opened_so, sim_item, sim_within, texts_alone}
use Rattle.reordered_text_laws.proofs.Permuted.{labelled}
use Rattle.reordered_text_laws.proofs.Keyed.{reads_same}
use Rattle.reordered_text_laws.proofs.Units.{unit_so}
use Rattle.reordered_text_laws.proofs.Numbered.{numbered-untold, arranged_in_order}

-- ---- Trees

abbrev is_single : Forest → Bool
is_single (node l first under none) = true
is_single _ = false

abbrev under_of : Forest → Forest
under_of (node l first under rest) = under
under_of f = f

abbrev label_of : Label → Forest → Label
label_of l (node m first under rest) = m
label_of l f = l

-- a node by itself
record Single (l : Label) (f u : Forest) : Type 0 where
  first : ℕ
  under : Forest
  is : u ≡ node l first under none
  same : untold under ≡ f

single_so : (u : Forest) (l : Label) (f : Forest) → untold u ≡ node l 0 f none → Single l f u
single_so none l f e = absurd (false≢true (ap is_single e))
single_so (token i rest) l f e = absurd (false≢true (ap is_single e))
single_so (node m first under none) l f e = record { first = first; under = under; is = ap (λ k. node k first under none) (ap (label_of m) e); same = ap under_of e }
single_so (node m first under (token i rest)) l f e = absurd (false≢true (ap is_single e))
single_so (node m first under (node k second below rest)) l f e = absurd (false≢true (ap is_single e))

pub from-numbered : (k : ℕ) (f : Forest) → AreFrom k (numbered k f)
from-numbered k none = tt
from-numbered k (token i rest) = (refl, from-numbered (k + 1) rest)
from-numbered k (node l first under rest) = (
  refl,
  from-numbered k under,
  subst (λ n. AreFrom (k + n) (numbered (k + token_count under) rest)) (sym (count-numbered k under)) (from-numbered (k + token_count under) rest),
)

-- tokens that stand in order have their numbers
numbered-from : (k : ℕ) (f : Forest) → AreFrom k f → numbered k f ≡ f
numbered-from k none h = refl
numbered-from k (token i rest) h = ap (token k) (numbered-from (k + 1) rest h.1) ∙ ap (λ j. token j rest) (sym h.0)
numbered-from k (node l first under rest) h =
    ap (λ f. node l k f (numbered (k + token_count under) rest)) (numbered-from k under h.1)
    ∙ (ap (node l k under) (numbered-from (k + token_count under) rest h.2) ∙ ap (λ j. node l j under rest) (sym h.0))

same_from : (f h : Forest) → AreFrom 0 f → AreFrom 0 h → untold f ≡ untold h → f ≡ h
same_from f h a b e =
    sym (numbered-from 0 f a) ∙ (sym (numbered-untold 0 f) ∙ (ap (numbered 0) e ∙ (numbered-untold 0 h ∙ numbered-from 0 h b)))

-- ---- Steps

-- more steps than are needed read the same
pub settles : (g : Grammar) → IsSound g → (fuel depth : ℕ) (goal : Goal) (s : State) → is_met goal ≡ true → measure s (goal_order goal) < fuel
    → read_within g fuel depth goal s ≡ whole g depth goal s
unfolding read_within
settles g sound zero depth goal s met few = absurd (omega (arith, few))
settles g sound (suc fuel) depth goal s met few =
    run-agree g (read_within g fuel) (whole g) (Moves-read_within g sound fuel) sound (measure s (goal_order goal))
    (λ depth' goal' s' met' less. settles g sound fuel depth' goal' s' met' (omega (arith, less, few))) depth goal s met (omega arith)
    ∙ sym (whole-runs g sound depth goal s met)

module _ (s : Edition) (words : List Spelled) where
  abbrev g : Grammar
  g = with_words words (iso s)

  sound : IsSound g
  sound = record { sound = (iso-sound s).sound }

  module _ (toks : List Token) (alone : AreAlone g toks) where
    abbrev text_read : ℕ → Step
    text_read fuel = read_within g fuel 0 (produce TranslationUnit) (at_first toks)

    abbrev classes_read : ℕ → Option Taken
    classes_read fuel = read_by_classes g (base_at g toks) fuel 0 (produce TranslationUnit) (numbers_from 0 (length toks))

    abbrev plain_read : ℕ → Option Taken
    plain_read fuel = read_by_classes (iso s) (base_at g toks) fuel 0 (produce TranslationUnit) (numbers_from 0 (length toks))

    abbrev needed : ℕ
    needed = steps_for (produce TranslationUnit) (at_first toks)

    -- ---- From the text to its classes

    tree_is : (st : State) (tree : Node) → tree_of (Ok st) ≡ Ok tree → lone st.built.under st.built ≡ tree
    tree_is st tree e = cc

    unit_is : (u : Forest) (b tree : Node) (f : Forest) → untold u ≡ node (labelled TranslationUnit 1) 0 f none → lone u b ≡ tree → u ≡ node tree.label tree.first tree.under none
    unit_is none b tree f e h = absurd (false≢true (ap is_single e))
    unit_is (token i rest) b tree f e h = absurd (false≢true (ap is_single e))
    unit_is (node m first under none) b tree f e h = ap (λ (n : Node). node n.label n.first n.under none) h
    unit_is (node m first under (token i rest)) b tree f e h = absurd (false≢true (ap is_single e))
    unit_is (node m first under (node k second below rest)) b tree f e h = absurd (false≢true (ap is_single e))

    classes_by : (tree : Node) (r : Step) (r' : Option Taken) → classes_read needed ≡ r' → IsReadAlike toks r r' → tree_of r ≡ Ok tree → IsReadAs s (base_at g toks) (length toks) tree
    classes_by tree (Err stop) r' f m e = absurd (cc)
    classes_by tree (Ok st) None f m e = absurd m
    classes_by tree (Ok st) (Some t) f m e =
        let k : plain_read needed ≡ Some t = sym (reads_same (iso s) words (base_at g toks) needed 0 (produce TranslationUnit) (numbers_from 0 (length toks))) ∙ f in
        let below : ℕ = 64 * (length toks - 0) + order TranslationUnit in
        let u = unit_so s (base_at g toks) below 0 (numbers_from 0 (length toks)) t (subst (λ j. plain_read j ≡ Some t) (add-one below) k) in
        let whole_unit : st.built.under ≡ node tree.label tree.first tree.under none = unit_is st.built.under st.built tree u.defs.read (m.0 ∙ u.is) (tree_is st tree e) in (
          needed,
          k ∙ (ap (λ f'. Some (taken f' t.left)) (sym m.0 ∙ ap untold whole_unit) ∙ ap (λ ys. Some (taken (untold (node tree.label tree.first tree.under none)) ys)) u.left),
        )

    pub classes_of : (tree : Node) → read_of g toks ≡ Ok tree → IsReadAs s (base_at g toks) (length toks) tree
    unfolding whole
    classes_of tree e = classes_by tree (text_read needed) (classes_read needed) refl (texts_alone g toks alone needed) e

    -- ---- From the classes to the text

    abbrev unit : Item
    unit = many own (part External) · end_of_text

    -- the node of the unit begins at the first token
    record Begun (st : State) : Type 0 where
      label : Label
      under : Forest
      is : st.built.under ≡ node label 0 under none

    begun_so : (fuel : ℕ) (st : State) → text_read (suc fuel) ≡ Ok st → Begun st
    unfolding read_within opened closed
    begun_so fuel st e = choose (may g own unit (at_first toks)) e
      where
        by : (r : Step) (r' : Option Taken) → Sim g toks alone (opened TranslationUnit 1 (at_first toks)) r r' → and_then r (λ s'. Ok (closed TranslationUnit (at_first toks) s')) ≡ Ok st → Begun st
        by (Err stop) r' m h = absurd (cc)
        by (Ok s') None m h = absurd m
        by (Ok s') (Some t) m h =
            let same : closed TranslationUnit (at_first toks) s' ≡ st = cc in
            subst Begun same (record { label = s'.built.label; under = s'.built.under; is = ap (λ k. node s'.built.label k s'.built.under none) m.begins })

        choose : (c : Bool)
            → (if c then and_then (step g (read_within g fuel) 0 unit (opened TranslationUnit 1 (at_first toks))) (λ s'. Ok (closed TranslationUnit (at_first toks) s')) else Err (syntax 0)) ≡ Ok st → Begun st
        choose false h = absurd (cc)
        choose true h =
            by (step g (read_within g fuel) 0 unit (opened TranslationUnit 1 (at_first toks)))
            (read_item g (base_at g toks) (read_by_classes g (base_at g toks) fuel) 0 unit (numbers_from 0 (length toks)))
            (sim_item g toks alone (read_within g fuel) (read_by_classes g (base_at g toks) fuel) (sim_within g toks alone fuel) unit 0 (opened TranslationUnit 1 (at_first toks)) (numbers_from 0 (length toks))
            (opened_so g toks alone TranslationUnit 1 (at_first toks) (numbers_from 0 (length toks)) (at_begin g toks alone))) h

    abbrev first_of : Forest → ℕ
    first_of (node l first under rest) = first
    first_of f = 0

    text_by : TokensStandInOrder → (tree : Node) → AreFrom 0 tree.under → tree.first ≡ 0 → (fuel : ℕ) (r : Step) → text_read (suc fuel) ≡ r → measure (at_first toks) (order TranslationUnit) < suc fuel
        → IsReadAlike toks r (Some (taken (untold (node tree.label tree.first tree.under none)) [])) → read_of g toks ≡ Ok tree
    text_by in_order tree from zero_first fuel (Err stop) f enough m = absurd m
    text_by in_order tree from zero_first fuel (Ok st) f enough m =
        let read : read_of g toks ≡ Ok (lone st.built.under st.built) = ap tree_of (sym (settles g sound (suc fuel) 0 (produce TranslationUnit) (at_first toks) refl enough) ∙ f) in
        let q = single_so st.built.under tree.label (untold tree.under) m.0 in
        let b = begun_so fuel st f in
        let at_zero : q.first ≡ 0 = ap first_of (sym q.is ∙ b.is) in
        let read' : read_of g toks ≡ Ok (node_of tree.label q.first q.under) = read ∙ ap (λ x. Ok (lone x st.built)) q.is in
        let under : q.under ≡ tree.under = same_from q.under tree.under (in_order g toks (node_of tree.label q.first q.under) read') from q.same in
        read' ∙ (ap (λ x. Ok (node_of tree.label q.first x)) under ∙ ap (λ k. Ok (node_of tree.label k tree.under)) (at_zero ∙ sym zero_first))

    pub text_of : TokensStandInOrder → (tree : Node) → AreFrom 0 tree.under → tree.first ≡ 0 → IsReadAs s (base_at g toks) (length toks) tree → read_of g toks ≡ Ok tree
    text_of in_order tree from zero_first so =
        let below : ℕ = so.0 + needed in
        let k : classes_read (suc below) ≡ Some (taken (untold (node tree.label tree.first tree.under none)) []) =
        reads_same (iso s) words (base_at g toks) (suc below) 0 (produce TranslationUnit) (numbers_from 0 (length toks))
        ∙ goal_on (iso s) (base_at g toks) so.0 (suc below) 0 (produce TranslationUnit) (numbers_from 0 (length toks)) (taken (untold (node tree.label tree.first tree.under none)) []) (omega arith) so.1 in
        text_by in_order tree from zero_first below (text_read (suc below)) refl (omega arith) (subst (IsReadAlike toks (text_read (suc below))) k (texts_alone g toks alone (suc below)))

pub texts_in_order : TokensStandInOrder → TextsAloneAreReadInOrder
texts_in_order in_order s words n order lists old new tree alone alone' long classes e is all =
    let h : Grammar = with_words words (iso s) in
    let so = arranged_in_order s (base_at h old) n (length old) order lists tree (classes_of s words old alone tree e) is all in
    let so' = subst (λ c. IsReadAs s c (length old) (reordered order lists tree)) (fun_ext (λ k. sym (classes k))) so in
    text_of s words new alone' in_order (reordered order lists tree) (from-numbered 0 (permuted order lists false tree.under)) refl
    (subst (λ m. IsReadAs s (base_at h new) m (reordered order lists tree)) (sym long) so')
