-- Texts in which names are respelled are read alike.
use Rattle.std.proofs.Common.{ℕ, ◌+◌, ◌-◌, ◌*◌, ◌≡◌, Bool, true, false, not, if◌then◌else◌, ◌==◌, List, length, Ok, Err, refl, sym, ap, ◌∙◌}
use Rattle.std.proofs.lemmas.Bool.{false≢true, and_parts, not-true}
use Rattle.c99_grammar.specs.declared.dialects.Dialect.{Dialect}
use Rattle.cs_base.specs.Token.{Token}
use Rattle.cs_base.proofs.BoolLemmas.{or_met as implied}
use Rattle.c99_tree.specs.Tree.{Node}
use Rattle.c99_tree.specs.declared.production.Production.{Production}
use Rattle.c99_tree.specs.declared.production.Production.TheVariants.{TranslationUnit, Main, Primary, Params, Pdirect}
use Rattle.c99_grammar.specs.Classes.{among}
use Rattle.c99_grammar.specs.First.{order}
use Rattle.c99_grammar.specs.Standard.{grammar}
use Rattle.c99_read.specs.State.{State, base_at, is_identifier, is_typedef_at, class_at}
use Rattle.c99_read.specs.Reading.{Goal, produce, Step, steps_for, read_within, whole, at_first, tree_of, read_of}
use Rattle.c99_read.proofs.Alike.{swapped}
use Rattle.renamed_tree_laws.specs.Along.{all_along}
use Rattle.renamed_tree_laws.specs.Respelled.{is_bare_so, is_kind_so, is_named_so, is_token_so, is_node_so, IsRespelled}
use Rattle.renamed_tree_laws.specs.ReadAlike.{RespelledTextsReadAlike, TextsOfOneKindReadAlike}
use Rattle.renamed_tree_laws.proofs.Private.{Class, identifier, typedef_name}
use Rattle.renamed_tree_laws.proofs.Twins.{not_typedef, some_typedef, Same}
use Rattle.renamed_tree_laws.proofs.Moods.{is_told, is_asked}
use Rattle.renamed_tree_laws.proofs.Table.{production_known}
use Rattle.renamed_tree_laws.proofs.Keeping.{labelled, Fine}
use Rattle.renamed_tree_laws.proofs.Starting.{Asked}
use Rattle.renamed_tree_laws.proofs.Locked.{locked}
use Rattle.renamed_tree_laws.proofs.Named.{Good, good_kept}
use Rattle.renamed_tree_laws.proofs.Visible.{denoted_same}

yes : (c x : Bool) → c ≡ true → (if c then x else true) ≡ true → x ≡ true
yes true x e h = h
yes false x e h = absurd (false≢true e)

module _ (std : Dialect) where
  -- ---- Names that are read by their kind

  module _ (a b : List Token) (classes : (k : ℕ) → base_at (grammar std) a k ≡ base_at (grammar std) b k) where
    bare_same : (s : State) (k : ℕ) (L : List Class) → s.toks ≡ a → among L typedef_name ≡ false → among L (class_at (grammar std) s k) ≡ true
        → is_bare_so std b s.names.scopes k ≡ true → Same std a b s.names.scopes k
    bare_same s k L of_a n e h =
        λ i.
        let in_b : is_typedef_at b s.names.scopes k ≡ false = not-true _ (implied _ _ h (ap is_identifier (sym (classes k)) ∙ i)) in
        let in_s : is_typedef_at s.toks s.names.scopes k ≡ false = not_typedef std s k L (ap (λ t. is_identifier (base_at (grammar std) t k)) of_a ∙ i) n e in
        in_b ∙ (sym in_s ∙ ap (λ t. is_typedef_at t s.names.scopes k) of_a)

    typedef_same : (s : State) (k : ℕ) (L : List Class) → s.toks ≡ a → among L identifier ≡ false → among L (class_at (grammar std) s k) ≡ true
        → is_typedef_at b s.names.scopes k ≡ true → Same std a b s.names.scopes k
    typedef_same s k L of_a n e h =
        λ i.
        let in_s : is_typedef_at s.toks s.names.scopes k ≡ true = some_typedef std s k L (ap (λ t. is_identifier (base_at (grammar std) t k)) of_a ∙ i) n e in
        h ∙ (sym in_s ∙ ap (λ t. is_typedef_at t s.names.scopes k) of_a)

    node_same : (p : Production) (n : ℕ) (s : State) (M : List Class) → s.toks ≡ a → is_asked p n ≡ true → among M typedef_name ≡ false
        → among M (class_at (grammar std) s (s.at + 1)) ≡ true → is_node_so std b p n s.names.scopes s.at ≡ true → Same std a b s.names.scopes (s.at + 1)
    node_same Pdirect n s M of_a h m e q = bare_same s (s.at + 1) M of_a m e (yes (n == 2) (is_bare_so std b s.names.scopes (s.at + 1)) h q)
    node_same _ n s M of_a h m e q = absurd (false≢true h)

    kind_same : (p : Production) (n : ℕ) (s : State) (L : List Class) → s.toks ≡ a → is_told p n L ≡ true
        → among L (class_at (grammar std) s s.at) ≡ true → is_kind_so std b p n s.names.scopes s.at ≡ true → Same std a b s.names.scopes s.at
    kind_same Main n s L of_a h e q =
        let both = and_parts (n == 4) (not (among L identifier)) h in
        typedef_same s s.at L of_a (not-true _ both.1) e (yes (n == 4) (is_typedef_at b s.names.scopes s.at) both.0 q)
    kind_same Primary n s L of_a h e q =
        let both = and_parts (n == 1) (not (among L typedef_name)) h in
        bare_same s s.at L of_a (not-true _ both.1) e (yes (n == 1) (is_bare_so std b s.names.scopes s.at) both.0 q)
    kind_same Params n s L of_a h e q =
        let both = and_parts (n == 1) (not (among L typedef_name)) h in
        bare_same s s.at L of_a (not-true _ both.1) e (yes (n == 1) (is_bare_so std b s.names.scopes s.at) both.0 q)
    kind_same _ n s L of_a h e q = absurd (false≢true h)

  -- ---- Names that are respelled with what they denote

  module _ (a b : List Token) (r : IsRespelled std a b) where
    named_same : (s : State) (k : ℕ) → Good std a s → is_named_so std a b s.names.scopes k ≡ true → Same std a b s.names.scopes k
    named_same s k g h = λ i. denoted_same std a b r.apart k i s.names.scopes g.names.scopes h

    token_same : (p : Production) (n : ℕ) (s : State) (L : List Class) → s.toks ≡ a → Good std a s → is_told p n L ≡ true
        → among L (class_at (grammar std) s s.at) ≡ true → is_token_so std a b p n s.names.scopes s.at ≡ true → Same std a b s.names.scopes s.at
    token_same Main n s L of_a g h e q =
        named_same s s.at g (yes (n == 4) (is_named_so std a b s.names.scopes s.at) (and_parts (n == 4) (not (among L identifier)) h).0 q)
    token_same Primary n s L of_a g h e q =
        named_same s s.at g (yes (n == 1) (is_named_so std a b s.names.scopes s.at) (and_parts (n == 1) (not (among L typedef_name)) h).0 q)
    token_same Params n s L of_a g h e q =
        let both = and_parts (n == 1) (not (among L typedef_name)) h in
        bare_same a b r.classes s s.at L of_a (not-true _ both.1) e (yes (n == 1) (is_bare_so std b s.names.scopes s.at) both.0 q)
    token_same _ n s L of_a g h e q = absurd (false≢true h)

  -- ---- Whole texts

  module _ (a b : List Token) (as_long : length a ≡ length b) (classes : (k : ℕ) → base_at (grammar std) a k ≡ base_at (grammar std) b k)
      (of_token : State → Bool) (of_node : Production → ℕ → State → Bool) (asked : Asked std a b (Good std a) of_token of_node)
      (so : all_along (grammar std) of_token of_node a ≡ true) where
    first_fine : Fine std a (Good std a) (good_kept std a) (labelled TranslationUnit 1) (at_first a)
    first_fine = record {
      text = refl;
      label = refl;
      good = record {
        names = record { scopes = (tt, tt); ended = tt; heads = tt; kept = tt };
        built = record { kids = tt; own = λ h. tt };
      };
    }

    abbrev goal : Goal
    goal = produce TranslationUnit

    read_b : (s : State) → read_within (grammar std) (steps_for goal (at_first a)) 0 goal (at_first a) ≡ Ok s
        → read_within (grammar std) (steps_for goal (at_first b)) 0 goal (at_first b) ≡ Ok (swapped b s)
    read_b s e =
        ap (λ n. read_within (grammar std) (64 * (n - 0) + order TranslationUnit + 1) 0 goal (at_first b)) (sym as_long)
        ∙ (locked std a b as_long classes (Good std a) (good_kept std a) of_token of_node asked (production_known std) (steps_for goal (at_first a))).parts
        0 TranslationUnit (labelled TranslationUnit 1) (at_first a) s first_fine e so tt

    tree_b : (x y : Step) (tree : Node) → ((s : State) → x ≡ Ok s → y ≡ Ok (swapped b s)) → tree_of x ≡ Ok tree → tree_of y ≡ Ok tree
    tree_b (Ok s) y tree f e = ap tree_of (f s refl) ∙ e
    tree_b (Err stop) y tree f e = absurd (cc)

    same_tree : (tree : Node) → read_of (grammar std) a ≡ Ok tree → read_of (grammar std) b ≡ Ok tree
    unfolding whole
    same_tree tree e =
        tree_b (read_within (grammar std) (steps_for goal (at_first a)) 0 goal (at_first a)) (read_within (grammar std) (steps_for goal (at_first b)) 0 goal (at_first b))
        tree read_b e

pub one_kind_alike : TextsOfOneKindReadAlike
one_kind_alike std a b tree r e =
    (same_tree std) a b r.as_long r.classes
    (λ s. is_kind_so std b s.built.label.production s.built.label.alternative s.names.scopes s.at) (λ p n s. is_node_so std b p n s.names.scopes s.at)
    (record {
      tokens = λ s L of_a g h m q. kind_same std a b r.classes s.built.label.production s.built.label.alternative s L of_a h m q;
      nodes = node_same std a b r.classes;
    })
    r.kinds tree e

pub respelled_alike : RespelledTextsReadAlike
respelled_alike std a b tree r e =
    (same_tree std) a b r.as_long r.classes
    (λ s. is_token_so std a b s.built.label.production s.built.label.alternative s.names.scopes s.at) (λ p n s. is_node_so std b p n s.names.scopes s.at)
    (record {
      tokens = λ s L of_a g h m q. token_same std a b r s.built.label.production s.built.label.alternative s L of_a g h m q;
      nodes = node_same std a b r.classes;
    })
    r.names tree e
