-- A text whose tokens stand in a new order is read to the tree in it: what is read of the first text is read of one in
-- which type names are keywords, then of one in the new order, then of the second text.
use Rattle.std.proofs.Common.{ℕ, suc, ◌+◌, ◌<◌, ◌≡◌, Bool, true, false, ◌&&◌, ◌||◌, not, if◌then◌else◌, List, [], ◌∷◌, ◌++◌, length, get_or, Ok, refl, sym, ap, subst, ◌∙◌, arith, inl}
use Rattle.std.proofs.lemmas.Bool.{false≢true, and_parts}
use Rattle.std.proofs.lemmas.List.{append-nil, append_assoc}
use Rattle.c99_grammar.specs.declared.dialects.Edition.{Edition}
use Rattle.cs_base.specs.Token.{Token}
use Rattle.cs_base.proofs.BoolLemmas.{and_none as and_false, or_met as implied}
use Rattle.c99_tree.specs.Tree.{Forest, none, token, node, Node, node_of}
use Rattle.c99_tree.specs.declared.production.Label.{Label}
use Rattle.c99_tree.specs.declared.production.Production.{Production}
use Rattle.c99_tree.specs.declared.production.Production.TheVariants.{TranslationUnit, Main, Pdirect}
use Rattle.c99_grammar.specs.declared.classes.Class.{Class}
use Rattle.c99_grammar.specs.declared.classes.Class.TheVariants.{TypedefName}
use Rattle.c99_grammar.specs.Standard.{iso}
use Rattle.c99_read.specs.State.{base_at, is_identifier}
use Rattle.c99_read.specs.Reading.{read_of}
use Rattle.c_types.specs.Lists.{name_in}
use Rattle.c_types.specs.Trees.{is_at}
use Rattle.name_chains.specs.Frames.{at_first as before}
use Rattle.tree_laws.specs.TreesOfTexts.{token_count, AreFrom, is_name_place, names_pass, IsTreeOf}
use Rattle.tree_laws.proofs.NamesRead.{names_are_read}
use Rattle.tree_laws.proofs.OfTexts.{trees_of_texts}
use Rattle.list_cuts.specs.Cuts.{IsOrder, arranged, AreOf}
use Rattle.list_cuts.proofs.CutLemmas.{length-order}
use Rattle.reordered_tree_laws.specs.Reordered.{permuted, leaves, reordered}
use Rattle.reordered_tree_laws.specs.Cuts.{cut_in}
use Rattle.reordered_tree_laws.proofs.SameForms.{arranged_leaves, tree_of_text}
use Rattle.renamed_tree_laws.specs.Loose.{is_enclosed}
use Rattle.renamed_tree_laws.specs.TreesAlike.{AgreeingTextsReadAlike}
use Rattle.renamed_tree_laws.proofs.BareNames.{Encloses}
use Rattle.renamed_tree_laws.proofs.Enclosing.{read_encloses}
use Rattle.tree_laws.specs.Agreeing.{agrees}
use Rattle.tree_laws.proofs.Texts.{units_agree}
use Rattle.reordered_text_laws.specs.ByClasses.{numbers_from}
use Rattle.reordered_text_laws.specs.Fronted.{fronted, used, Fits, up, strays, dirty, has_some, labelled_as, with_front}
use Rattle.reordered_text_laws.specs.InOrder.{with_words, TextsAloneAreReadInOrder}
use Rattle.reordered_text_laws.specs.Joined.{NamesAreSpelled, AreTokensInOrder, TextsAreReadInOrder}
use Rattle.reordered_text_laws.proofs.Bridge.{classes_behind, agreeing_read}
use Rattle.reordered_text_laws.proofs.Filled.{filled_unit}
use Rattle.reordered_text_laws.proofs.FrontKeyed.{AllNodes, Known, Enclosed, own_apart, used_at, front_keyed}
use Rattle.reordered_text_laws.proofs.FrontTop.{front_kept, front_gone}
use Rattle.reordered_text_laws.proofs.MarkedTokens.{AllAt, all_map, all_both, all_within, permuted_at, numbered_at, Placed, placed_all, marks, Told, told_from, none_dirty}
use Rattle.reordered_text_laws.proofs.PlainTexts.{plain, length-plain, plain_base, plain_full, plain_agrees, NamedAt}
use Rattle.reordered_text_laws.proofs.Reworded.{typed_words, keyed, length-keyed, keyed_base, keyed_typed, keyed_alone, keyed_fits, named_within}
use Rattle.reordered_text_laws.proofs.TextsInOrder.{classes_of}

abbrev unit_label : Label
unit_label = labelled_as TranslationUnit 1

-- ---- Tokens of trees

none_some : (some : ℕ → Bool) (f : Forest) (l : Label) (k : ℕ) → AllAt (λ m j i. some i ≡ false) l k f → has_some some f ≡ false
none_some some none l k h = refl
none_some some (token i rest) l k h = ap (λ b. b || has_some some rest) h.0 ∙ none_some some rest l (k + 1) h.1
none_some some (node m first under rest) l k h = ap (λ b. b || has_some some rest) (none_some some under m 0 h.0) ∙ none_some some rest l (k + 1) h.1

leaves-from : (f : Forest) (k n : ℕ) (ys : List ℕ) → AreFrom k f → ys ≡ numbers_from (k + token_count f) n → leaves f ++ ys ≡ numbers_from k (token_count f + n)
leaves-from none k n ys from e =
    e ∙ (ap (λ j. numbers_from j n) (let same : k + 0 ≡ k = omega arith in same) ∙ ap (numbers_from k) (let same : n ≡ 0 + n = omega arith in same))
leaves-from (token i rest) k n ys from e =
    ap (λ j. j ∷ (leaves rest ++ ys)) from.0
    ∙ (ap (λ xs. k ∷ xs)
    (leaves-from rest (k + 1) n ys from.1 (e ∙ ap (λ j. numbers_from j n) (let same : k + (token_count rest + 1) ≡ (k + 1) + token_count rest = omega arith in same)))
    ∙ ap (numbers_from k) (let same : suc (token_count rest + n) ≡ (token_count rest + 1) + n = omega arith in same))
leaves-from (node l first under rest) k n ys from e =
    append_assoc (leaves under) (leaves rest) ys
    ∙ (leaves-from under k (token_count rest + n) (leaves rest ++ ys) from.1
    (leaves-from rest (k + token_count under) n ys from.2 (e ∙ ap (λ j. numbers_from j n) (let same : k + (token_count under + token_count rest) ≡ (k + token_count under) + token_count rest = omega arith in same)))
    ∙ ap (numbers_from k) (let same : token_count under + (token_count rest + n) ≡ (token_count under + token_count rest) + n = omega arith in same))

all_leaves : (f : Forest) (count : ℕ) → AreFrom 0 f → token_count f ≡ count → leaves f ≡ numbers_from 0 count
all_leaves f count from e =
    sym (append-nil (leaves f)) ∙ (leaves-from f 0 0 [] from refl ∙ ap (numbers_from 0) (let same : token_count f + 0 ≡ token_count f = omega arith in same ∙ e))

names_all : (test : ℕ → Bool) (f : Forest) (l : Label) (k : ℕ) → names_pass test l k f ≡ true → AllAt (λ m j i. is_name_place m j ≡ true → test i ≡ true) l k f
names_all test none l k h = tt
names_all test (token i rest) l k h =
    let both = and_parts (not (is_name_place l k) || test i) (names_pass test l (k + 1) rest) h in
    (implied (is_name_place l k) (test i) both.0, names_all test rest l (k + 1) both.1)
names_all test (node m first under rest) l k h =
    let both = and_parts (names_pass test m 0 under) (names_pass test l (k + 1) rest) h in
    (names_all test under m 0 both.0, names_all test rest l (k + 1) both.1)

-- ---- Names behind a parenthesis

direct_apart : (p : Production) (a : ℕ) → is_at (labelled_as p a) Pdirect 1 ≡ true → is_at (labelled_as p a) Main 4 ≡ false
direct_apart Main a e = absurd (false≢true e)
direct_apart _ a e = refl

name_told : (q : ℕ → Bool) (f : Forest) (l : Label) (k x : ℕ) → AllAt (Told q) l k f → name_in f ≡ x ∷ [] → q x ≡ false
name_told q none l k x h e = absurd (cc)
name_told q (node m first under rest) l k x h e = absurd (cc)
name_told q (token p none) l k x h e = absurd (cc)
name_told q (token p (token i rest)) l k x h e = absurd (cc)
name_told q (token p (node m first none more)) l k x h e = absurd (cc)
name_told q (token p (node m first (node o begin none rest) more)) l k x h e = absurd (cc)
name_told q (token p (node m first (node o begin (node r start under list) rest) more)) l k x h e = absurd (cc)
name_told q (token p (node m first (token i rest) more)) l k x h e = absurd (cc)
name_told q (token p (node m first (node o begin (token i list) rest) more)) l k x h e = by (is_at o Pdirect 1) refl e
  where
    by : (c : Bool) → is_at o Pdirect 1 ≡ c → (if c then i ∷ [] else []) ≡ x ∷ [] → q x ≡ false
    by true at same =
        let is : i ≡ x = ap (λ xs. get_or xs 0 x) same in
        subst (λ j. q j ≡ false) is (h.1.0.0.0 ∙ direct_apart o.production o.alternative at)
    by false at same = absurd (cc)

module _ (s : Edition) (q : ℕ → Bool) (old : List Token) where
  abbrev u : List Token
  u = keyed s q old

  told_of : (f : Forest) (l : Label) (k : ℕ) → AllAt (Known s q old) l k f → AllAt (Told q) l k f
  told_of f l k h = all_map (Known s q old) (Told q) (λ m j i x. x.0.0) f l k h

  all_enclosed : (f : Forest) (l : Label) (k : ℕ) → AllAt (Known s q old) l k f → Encloses s old f → AllNodes (Enclosed s q old) f
  all_enclosed none l k h e = tt
  all_enclosed (token i rest) l k h e = all_enclosed rest l (k + 1) h.1 e
  all_enclosed (node m first under rest) l k h e = (
    λ enclosed.
        let here : is_enclosed s old m first ≡ true = ap (λ c. is_at m Pdirect 2 && is_identifier c) (sym (keyed_base s q old (first + 1))) ∙ enclosed in
        own_apart s q old (first + 1) (and_parts (is_at m Pdirect 2) (is_identifier (base_at (iso s) old (first + 1))) here).1
        (name_told q under m 0 (first + 1) (told_of under m 0 h.0) (e.0 here)),
    (all_enclosed under m 0 h.0 e.1.0, all_enclosed rest l (k + 1) h.1 e.1.1),
  )

  -- no token but a type name by itself is spelled by the empty word
  keyed_clean : (f : Forest) → AllAt (Known s q old) unit_label 0 f → dirty (used u) unit_label f ≡ false
  keyed_clean f h =
      none_dirty (used u) f unit_label 0 (all_map (Known s q old) (λ l k i. strays (used u) l i ≡ false) (λ l k i x. by l k i x (is_at l Main 4) refl) f unit_label 0 h)
    where
      by : (l : Label) (k i : ℕ) → Known s q old l k i → (c : Bool) → is_at l Main 4 ≡ c → (not (is_at l Main 4) && used u i) ≡ false
      by l k i x true e = ap (λ b. not b && used u i) e
      by l k i x false e = and_false (not (is_at l Main 4)) (used u i) (used_at s q old l k i x e)

  -- ---- From the first text to the one with keywords

  module _ (alike : AgreeingTextsReadAlike) (tree : Node) (full : NamesAreSpelled s old) (read : read_of (iso s) old ≡ Ok tree) where
    abbrev old_plain : List Token
    old_plain = plain s old

    of_text : IsTreeOf (length old) tree
    of_text = trees_of_texts s old tree read

    pub old_named : AllAt (NamedAt s old full) unit_label 0 tree.under
    old_named = names_all (λ i. is_identifier (base_at (iso s) old i)) tree.under unit_label 0 (names_are_read s old tree read)

    pub old_within : AllAt (λ l k i. i < length old) unit_label 0 tree.under
    old_within = all_within (length old) tree.under unit_label 0 0 of_text.tokens (let all : token_count tree.under ≡ length old = of_text.all in omega (arith, all))

    plain_read : read_of (iso s) old_plain ≡ Ok tree
    plain_read =
        alike s old old_plain tree (sym (length-plain s old)) (λ k. sym (plain_base s old k)) read (plain_agrees s old full tree.under old_named ∙ units_agree s old tree read)

    plain_fits : (k : ℕ) → Fits old_plain (iso s) (with_words (iso s).keywords (iso s)) k
    plain_fits k = inl (refl, λ n. plain_full s old full k (named_within s q old k (ap is_identifier (sym (plain_base s old k)) ∙ n)))

    plain_clean : dirty (used old_plain) unit_label tree.under ≡ false
    plain_clean =
        none_dirty (used old_plain) tree.under unit_label 0
        (all_map (λ l k i. i < length old) (λ l k i. strays (used old_plain) l i ≡ false) (λ l k i lt. and_false (not (is_at l Main 4)) (used old_plain i) (plain_full s old full i lt))
        tree.under unit_label 0 old_within)

    plain_front : read_of (iso s) (fronted old_plain) ≡ Ok (with_front s tree)
    plain_front = front_kept s (iso s).keywords old_plain plain_fits tree plain_clean plain_read

    module _ (told : AllAt (Told q) unit_label 0 tree.under) where
      known : AllAt (Known s q old) unit_label 0 tree.under
      known = all_both _ _ tree.under unit_label 0 (all_both (Told q) (NamedAt s old full) tree.under unit_label 0 told old_named) old_within

      keyed_front : read_of (iso s) (fronted u) ≡ Ok (with_front s tree)
      keyed_front =
          alike s (fronted old_plain) (fronted u) (with_front s tree) (ap (λ n. up n) (length-plain s old ∙ sym (length-keyed s q old)))
          (classes_behind s old_plain u (λ k. plain_base s old k ∙ sym (keyed_base s q old k)) (length-plain s old ∙ sym (length-keyed s q old))) plain_front
          (front_keyed s q old tree of_text.tokens of_text.forms known (all_enclosed tree.under unit_label 0 known (read_encloses s old tree read)))

      pub keyed_read : read_of (with_words (typed_words s) (iso s)) u ≡ Ok (node_of tree.label 0 tree.under)
      keyed_read = front_gone s (typed_words s) u (keyed_fits s q old) (node_of tree.label 0 tree.under) (keyed_clean tree.under known) refl keyed_front

-- ---- In the new order

module _ (alike : AgreeingTextsReadAlike) (in_order : TextsAloneAreReadInOrder) (s : Edition) (n : ℕ) (order : List ℕ) (lists : ℕ → Bool) (old new : List Token) (tree : Node)
    (old_full : NamesAreSpelled s old) (new_full : NamesAreSpelled s new) (tokens : AreTokensInOrder s order lists tree old new) (read : read_of (iso s) old ≡ Ok tree)
    (is : IsOrder n order) (all : AreOf n (cut_in lists tree)) where
  abbrev arranged_tokens : List ℕ
  arranged_tokens = arranged order (cut_in lists tree) (numbers_from 0 (length old))

  abbrev place : ℕ → ℕ
  place k = get_or arranged_tokens k k

  -- the tokens that are type names by themselves, and those of the second text
  abbrev typed : ℕ → Bool
  typed i = get_or (marks unit_label tree.under) i false

  abbrev new_typed : ℕ → Bool
  new_typed i = typed (place i)

  abbrev new_tree : Node
  new_tree = reordered order lists tree

  abbrev new_under : Forest
  new_under = permuted order lists false tree.under

  old_text : IsTreeOf (length old) tree
  old_text = trees_of_texts s old tree read

  new_text : IsTreeOf (length old) new_tree
  new_text = tree_of_text n (length old) order lists tree is all old_text

  told : AllAt (Told typed) unit_label 0 tree.under
  told = told_from typed tree.under unit_label 0 0 old_text.tokens (placed_all (marks unit_label tree.under) (λ i. false))

  new_leaves : leaves new_under ≡ arranged_tokens
  new_leaves =
      arranged_leaves order lists tree (subst (λ k. AreOf k (cut_in lists tree)) (sym (length-order n order is)) all)
      ∙ ap (arranged order (cut_in lists tree)) (all_leaves tree.under (length old) old_text.tokens old_text.all)

  -- what is so of each token is so of it at its place in the new order
  goes : (P Q : Label → ℕ → ℕ → Type 0) → ((l : Label) (k i : ℕ) → P l k (place i) → Q l k i) → AllAt P unit_label 0 tree.under → AllAt Q unit_label 0 new_tree.under
  goes P Q so h =
      numbered_at P Q place so new_under unit_label 0 0 (subst (Placed place 0) (sym new_leaves) (placed_all arranged_tokens (λ i. i))) (permuted_at P order lists false tree.under unit_label 0 h)

  new_within : AllAt (λ l k i. i < length new) unit_label 0 new_tree.under
  new_within =
      all_within (length new) new_tree.under unit_label 0 0 new_text.tokens
      (let count : token_count new_tree.under ≡ length old = new_text.all in let long : length new ≡ length old = tokens.0 in omega (arith, count, long))

  new_named : AllAt (NamedAt s new new_full) unit_label 0 new_tree.under
  new_named =
      goes (NamedAt s old old_full) (NamedAt s new new_full) (λ l k i h e. ap is_identifier (tokens.1 i) ∙ h e) (old_named s typed old alike tree old_full read)

  new_known : AllAt (Known s new_typed new) unit_label 0 new_tree.under
  new_known =
      all_both _ _ new_tree.under unit_label 0
      (all_both (Told new_typed) (NamedAt s new new_full) new_tree.under unit_label 0 (goes (Told typed) (Told new_typed) (λ l k i h. h) told) new_named) new_within

  -- ---- The texts with keywords

  abbrev old_keyed : List Token
  old_keyed = keyed s typed old

  abbrev new_keyed : List Token
  new_keyed = keyed s new_typed new

  keyed_classes : (k : ℕ) → base_at (with_words (typed_words s) (iso s)) new_keyed k
      ≡ base_at (with_words (typed_words s) (iso s)) old_keyed (get_or (arranged order (cut_in lists tree) (numbers_from 0 (length old_keyed))) k k)
  keyed_classes k =
      keyed_typed s new_typed new k
      ∙ (ap (λ (c : Class). if is_identifier c && typed (place k) then TypedefName else c) (tokens.1 k)
      ∙ (sym (keyed_typed s typed old (place k))
      ∙ ap (λ m. base_at (with_words (typed_words s) (iso s)) old_keyed (get_or (arranged order (cut_in lists tree) (numbers_from 0 m)) k k)) (sym (length-keyed s typed old))))

  keyed_in_order : read_of (with_words (typed_words s) (iso s)) new_keyed ≡ Ok new_tree
  keyed_in_order =
      in_order s (typed_words s) n order lists old_keyed new_keyed (node_of tree.label 0 tree.under) (keyed_alone s typed old) (keyed_alone s new_typed new)
      (length-keyed s new_typed new ∙ (tokens.0 ∙ sym (length-keyed s typed old))) keyed_classes (keyed_read s typed old alike tree old_full read told) is all

  -- ---- The second text

  abbrev new_plain : List Token
  new_plain = plain s new

  new_read : agrees s new new_tree.under (before (length new)) ≡ true → read_of (iso s) new ≡ Ok new_tree
  new_read agree =
      let plain_named : (k : ℕ) → is_identifier (base_at (iso s) new_plain k) ≡ true → used new_plain k ≡ false =
      (λ k e. plain_full s new new_full k (named_within s new_typed new k (ap is_identifier (sym (plain_base s new k)) ∙ e))) in
      let none : has_some (used new_plain) new_tree.under ≡ false =
      none_some (used new_plain) new_tree.under unit_label 0
      (all_map (λ l k i. i < length new) (λ l k i. used new_plain i ≡ false) (λ l k i lt. plain_full s new new_full i lt) new_tree.under unit_label 0 new_within) in
      let so = classes_of s (typed_words s) new_keyed (keyed_alone s new_typed new) new_tree keyed_in_order in
      let read_plain : read_of (iso s) new_plain ≡ Ok new_tree =
      agreeing_read alike s (typed_words s) new_keyed new_plain new_tree (keyed_fits s new_typed new) (keyed_clean s new_typed new new_tree.under new_known) refl keyed_in_order
      (length-keyed s new_typed new ∙ sym (length-plain s new)) (λ k. keyed_base s new_typed new k ∙ sym (plain_base s new k)) plain_named
      (filled_unit s (base_at (with_words (typed_words s) (iso s)) new_keyed) (length new_keyed) new_tree so) none
      (plain_agrees s new new_full new_tree.under new_named ∙ agree) in
      alike s new_plain new new_tree (length-plain s new) (plain_base s new) read_plain agree

pub texts_are_read_in_order : AgreeingTextsReadAlike → TextsAloneAreReadInOrder → TextsAreReadInOrder
texts_are_read_in_order alike in_order s n order lists old new tree old_full new_full tokens read is all agree =
    new_read alike in_order s n order lists old new tree old_full new_full tokens read is all agree
