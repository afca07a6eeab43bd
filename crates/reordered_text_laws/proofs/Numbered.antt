-- Tokens in a new order, with new numbers, are read to the tree in the new order.
use Rattle.std.proofs.Common.{ℕ, suc, zero, ◌+◌, ◌-◌, ◌<◌, ◌≡◌, Bool, true, false, ◌&&◌, List, [], ◌∷◌, ◌++◌, length, map, get_or, Option, None, Some, refl, sym, ap, subst, ◌∙◌, arith, append-nil, append_assoc}
use Rattle.std.proofs.lemmas.Bool.{false≢true}
use Rattle.std.proofs.lemmas.List.{length-map, get_or-map, get_or_default, same_lists}
use Rattle.std.proofs.lemmas.List.Sorted.{length_permutation}
use Rattle.std.proofs.Math.ListN as listn
use Rattle.c99_grammar.specs.declared.dialects.Dialect.TheVariants.{Iso}
use Rattle.c99_grammar.specs.declared.dialects.Edition.{Edition}
use Rattle.c99_tree.specs.Tree.{Forest, none, token, node, Node, node_of}
use Rattle.c99_tree.specs.declared.production.Label.{Label}
use Rattle.c99_tree.specs.declared.production.Production.TheVariants.{TranslationUnit}
use Rattle.c99_grammar.specs.declared.classes.Class.{Class}
use Rattle.c99_grammar.specs.Standard.{iso}
use Rattle.c99_read.specs.Reading.{produce}
use Rattle.c_types.specs.Trees.{first_token}
use Rattle.c_types.specs.Parameters.{ends_in_token}
use Rattle.tree_laws.specs.TreesOfTexts.{token_count}
use Rattle.list_cuts.specs.Cuts.{Cut, done, keep, list, item, numbers, IsOrder, arranged, AreOf}
use Rattle.list_cuts.proofs.OrderLemmas.{length-numbers, get_or-numbers}
use Rattle.list_cuts.proofs.CutLemmas.{length-order, arranged_permutes}
use Rattle.reordered_tree_laws.specs.Reordered.{nodes_in, refilled, no_node, picked_nodes, shuffled, is_parenthesised, is_among, permuted, leaves, numbered, reordered}
use Rattle.reordered_tree_laws.specs.Cuts.{gap_in, cut_then, list_then, items_in, cut_in}
use Rattle.reordered_tree_laws.proofs.SameForms.{arranged_leaves}
use Rattle.reordered_text_laws.specs.ByClasses.{tokens_of, numbers_from, untold, Taken, taken, read_by_classes}
use Rattle.reordered_text_laws.specs.ReorderedTexts.{renumbered, renumbered_reading}
use Rattle.reordered_text_laws.specs.InOrder.{IsReadAs, ArrangedTokensAreReadInOrder}
use Rattle.reordered_text_laws.proofs.Found.{stopped, found_is}
use Rattle.reordered_text_laws.proofs.Whole.{has_any}
use Rattle.reordered_text_laws.proofs.Local.{goal_text}
use Rattle.reordered_text_laws.proofs.Numbers.{numbers_do_not_matter}
use Rattle.reordered_text_laws.proofs.Tables.{ending, tells}
use Rattle.reordered_text_laws.proofs.Permuted.{labelled}
use Rattle.reordered_text_laws.proofs.Units.{unit_label, lists_in_any_order}

-- ---- Tokens one after another

abbrev head_of : List ℕ → ℕ
head_of [] = 0
head_of (x ∷ xs) = x

abbrev tail_of : List ℕ → List ℕ
tail_of [] = []
tail_of (x ∷ xs) = xs

-- the tokens are those from k on
abbrev Runs : ℕ → Forest → Type 0
Runs k none = Unit {0}
Runs k (token i rest) = (i ≡ k) × Runs (k + 1) rest
Runs k (node l first under rest) = Runs k under × Runs (k + token_count under) rest

record Run (k : ℕ) (f : Forest) (ys : List ℕ) : Type 0 where
  runs : Runs k f
  left : ℕ
  more : ys ≡ numbers_from (k + token_count f) left

run_of : (f : Forest) (k n : ℕ) (ys : List ℕ) → tokens_of f ++ ys ≡ numbers_from k n → Run k f ys
run_of none k n ys e = record { runs = tt; left = n; more = e ∙ ap (λ j. numbers_from j n) (let same : k ≡ k + 0 = omega arith in same) }
run_of (token i rest) k zero ys e = absurd (false≢true (sym (ap has_any e)))
run_of (token i rest) k (suc n) ys e =
    let r = run_of rest (k + 1) n ys (ap tail_of e) in
    record { runs = (ap head_of e, r.runs); left = r.left; more = r.more ∙ ap (λ j. numbers_from j r.left) (let same : (k + 1) + token_count rest ≡ k + (token_count rest + 1) = omega arith in same) }
run_of (node l first under rest) k n ys e =
    let r = run_of under k n (tokens_of rest ++ ys) (sym (append_assoc (tokens_of under) (tokens_of rest) ys) ∙ e) in
    let q = run_of rest (k + token_count under) r.left ys r.more in
    record {
      runs = (r.runs, q.runs);
      left = q.left;
      more = q.more ∙ ap (λ j. numbers_from j q.left) (let same : (k + token_count under) + token_count rest ≡ k + (token_count under + token_count rest) = omega arith in same);
    }

-- the tokens are numbered anew from k on
abbrev retold : ℕ → Forest → Forest
retold k none = none
retold k (token i rest) = token k (retold (k + 1) rest)
retold k (node l first under rest) = node l first (retold k under) (retold (k + token_count under) rest)

retold-runs : (k : ℕ) (f : Forest) → Runs k f → retold k f ≡ f
retold-runs k none h = refl
retold-runs k (token i rest) h = ap (λ j. token j (retold (k + 1) rest)) (sym h.0) ∙ ap (token i) (retold-runs (k + 1) rest h.1)
retold-runs k (node l first under rest) h =
    ap (λ f. node l first f (retold (k + token_count under) rest)) (retold-runs k under h.0) ∙ ap (node l first under) (retold-runs (k + token_count under) rest h.1)

count-renumbered : (m : ℕ → ℕ) (f : Forest) → token_count (renumbered m f) ≡ token_count f
count-renumbered m none = refl
count-renumbered m (token i rest) = ap (λ n. n + 1) (count-renumbered m rest)
count-renumbered m (node l first under rest) = omega (arith, count-renumbered m under, count-renumbered m rest)

retold-renumbered : (m : ℕ → ℕ) (k : ℕ) (f : Forest) → retold k (renumbered m f) ≡ retold k f
retold-renumbered m k none = refl
retold-renumbered m k (token i rest) = ap (token k) (retold-renumbered m (k + 1) rest)
retold-renumbered m k (node l first under rest) =
    ap (λ f. node l first f (retold (k + token_count (renumbered m under)) (renumbered m rest))) (retold-renumbered m k under)
    ∙ (ap (λ n. node l first (retold k under) (retold (k + n) (renumbered m rest))) (count-renumbered m under)
    ∙ ap (node l first (retold k under)) (retold-renumbered m (k + token_count under) rest))

-- ---- Nodes that are not told where they begin

pub count-untold : (f : Forest) → token_count (untold f) ≡ token_count f
count-untold none = refl
count-untold (token i rest) = ap (λ n. n + 1) (count-untold rest)
count-untold (node l first under rest) = omega (arith, count-untold under, count-untold rest)

pub tokens-untold : (f : Forest) → tokens_of (untold f) ≡ tokens_of f
tokens-untold none = refl
tokens-untold (token i rest) = ap (λ xs. i ∷ xs) (tokens-untold rest)
tokens-untold (node l first under rest) =
    ap (λ xs. xs ++ tokens_of (untold rest)) (tokens-untold under) ∙ ap (λ xs. tokens_of under ++ xs) (tokens-untold rest)

retold-untold : (k : ℕ) (f : Forest) → retold k (untold f) ≡ untold (numbered k f)
retold-untold k none = refl
retold-untold k (token i rest) = ap (token k) (retold-untold (k + 1) rest)
retold-untold k (node l first under rest) =
    ap (λ f. node l 0 f (retold (k + token_count (untold under)) (untold rest))) (retold-untold k under)
    ∙ (ap (λ n. node l 0 (untold (numbered k under)) (retold (k + n) (untold rest))) (count-untold under)
    ∙ ap (node l 0 (untold (numbered k under))) (retold-untold (k + token_count under) rest))

-- numbers say nothing of where nodes began
pub numbered-untold : (k : ℕ) (f : Forest) → numbered k (untold f) ≡ numbered k f
numbered-untold k none = refl
numbered-untold k (token i rest) = ap (token k) (numbered-untold (k + 1) rest)
numbered-untold k (node l first under rest) =
    ap (λ f. node l k f (numbered (k + token_count (untold under)) (untold rest))) (numbered-untold k under)
    ∙ (ap (λ n. node l k (numbered k under) (numbered (k + n) (untold rest))) (count-untold under)
    ∙ ap (node l k (numbered k under)) (numbered-untold (k + token_count under) rest))

tokens-leaves : (f : Forest) → tokens_of f ≡ leaves f
tokens-leaves none = refl
tokens-leaves (token i rest) = ap (λ xs. i ∷ xs) (tokens-leaves rest)
tokens-leaves (node l first under rest) = ap (λ xs. xs ++ tokens_of rest) (tokens-leaves under) ∙ ap (λ xs. leaves under ++ xs) (tokens-leaves rest)

abbrev untold_node : Node → Node
untold_node n = node_of n.label 0 (untold n.under)

nodes-untold : (f : Forest) → nodes_in (untold f) ≡ map untold_node (nodes_in f)
nodes-untold none = refl
nodes-untold (token i rest) = nodes-untold rest
nodes-untold (node l first under rest) = ap (λ (ns : List Node). node_of l 0 (untold under) ∷ ns) (nodes-untold rest)

refilled-untold : (ns : List Node) (f : Forest) → untold (refilled ns f) ≡ refilled (map untold_node ns) (untold f)
refilled-untold ns none = refl
refilled-untold ns (token i rest) = ap (token i) (refilled-untold ns rest)
refilled-untold [] (node l first under rest) = refl
refilled-untold (n ∷ ns) (node l first under rest) = ap (node n.label 0 (untold n.under)) (refilled-untold ns rest)

picked-untold : (order : List ℕ) (ns : List Node) → map untold_node (picked_nodes order ns) ≡ picked_nodes order (map untold_node ns)
picked-untold [] ns = refl
picked-untold (k ∷ order) ns =
    ap (λ (n : Node). n ∷ map untold_node (picked_nodes order ns)) (sym (listn.get_or-map untold_node ns (k - 1) no_node))
    ∙ ap (λ (ms : List Node). get_or (map untold_node ns) (k - 1) no_node ∷ ms) (picked-untold order ns)

shuffled-untold : (order : List ℕ) (f : Forest) → untold (shuffled order f) ≡ shuffled order (untold f)
shuffled-untold order f =
    refilled-untold (picked_nodes order (nodes_in f)) f
    ∙ ap (λ ns. refilled ns (untold f)) (picked-untold order (nodes_in f) ∙ ap (picked_nodes order) (sym (nodes-untold f)))

first-untold : (f : Forest) (k : ℕ) → first_token (untold f) k ≡ first_token f k
first-untold none k = refl
first-untold (token i rest) k = refl
first-untold (node l first under rest) k = first-untold rest k

ends-untold : (b : Bool) (f : Forest) → ends_in_token b (untold f) ≡ ends_in_token b f
ends-untold b none = refl
ends-untold b (token i rest) = ends-untold true rest
ends-untold b (node l first under rest) = ends-untold false rest

gap-untold : (f : Forest) → gap_in (untold f) ≡ gap_in f
gap-untold none = refl
gap-untold (token i rest) = ap (λ n. n + 1) (gap-untold rest)
gap-untold (node l first under rest) = refl

module _ (lists : ℕ → Bool) where
  among-untold : (l : Label) (f : Forest) → is_among lists l (untold f) ≡ is_among lists l f
  among-untold l f =
      ap (λ k. is_parenthesised l && (lists k && ends_in_token false (untold f))) (first-untold f 0)
      ∙ ap (λ b. is_parenthesised l && (lists (first_token f 0) && b)) (ends-untold false f)

  module _ (order : List ℕ) where
    pub permuted-untold : (b : Bool) (f : Forest) → untold (permuted order lists b f) ≡ permuted order lists b (untold f)
    permuted-untold b none = refl
    permuted-untold b (token i rest) = ap (token i) (permuted-untold b rest)
    permuted-untold true (node l first under rest) =
        ap (λ f. node l 0 f (untold (permuted order lists true rest))) (shuffled-untold order (permuted order lists false under) ∙ ap (shuffled order) (permuted-untold false under))
        ∙ ap (node l 0 (shuffled order (permuted order lists false (untold under)))) (permuted-untold true rest)
    permuted-untold false (node l first under rest) =
        ap (λ f. node l 0 f (untold (permuted order lists false rest)))
        (permuted-untold (is_among lists l under) under ∙ ap (λ b. permuted order lists b (untold under)) (sym (among-untold l under)))
        ∙ ap (node l 0 (permuted order lists (is_among lists l (untold under)) (untold under))) (permuted-untold false rest)

  mutual
    pub cut-untold : (b : Bool) (f : Forest) (c : Cut) → cut_then lists b (untold f) c ≡ cut_then lists b f c
    cut-untold true none c = refl
    cut-untold false none c = refl
    cut-untold true (token i rest) c = ap (keep 1) (cut-untold true rest c)
    cut-untold false (token i rest) c = ap (keep 1) (cut-untold false rest c)
    cut-untold true (node l first under rest) c = ap (list_then lists (untold under)) (cut-untold true rest c) ∙ list-untold under (cut_then lists true rest c)
    cut-untold false (node l first under rest) c =
        ap (λ b. cut_then lists b (untold under) (cut_then lists false (untold rest) c)) (among-untold l under)
        ∙ (ap (cut_then lists (is_among lists l under) (untold under)) (cut-untold false rest c) ∙ cut-untold (is_among lists l under) under (cut_then lists false rest c))

    list-untold : (f : Forest) (c : Cut) → list_then lists (untold f) c ≡ list_then lists f c
    list-untold none c = refl
    list-untold (token i rest) c = ap (keep 1) (list-untold rest c)
    list-untold (node l first under rest) c =
        ap (λ is. list is c)
        (ap (λ n. item n (cut_then lists (is_among lists l (untold under)) (untold under) done) (gap_in (untold rest)) (items_in lists (untold rest))) (count-untold under)
        ∙ (ap (λ b. item (token_count under) (cut_then lists b (untold under) done) (gap_in (untold rest)) (items_in lists (untold rest))) (among-untold l under)
        ∙ (ap (λ c. item (token_count under) c (gap_in (untold rest)) (items_in lists (untold rest))) (cut-untold (is_among lists l under) under done)
        ∙ (ap (λ n. item (token_count under) (cut_then lists (is_among lists l under) under done) n (items_in lists (untold rest))) (gap-untold rest)
        ∙ ap (item (token_count under) (cut_then lists (is_among lists l under) under done) (gap_in rest)) (items-untold rest)))))

    items-untold : (f : Forest) → items_in lists (untold f) ≡ items_in lists f
    items-untold none = refl
    items-untold (token i rest) = items-untold rest
    items-untold (node l first under rest) =
        ap (λ n. item n (cut_then lists (is_among lists l (untold under)) (untold under) done) (gap_in (untold rest)) (items_in lists (untold rest))) (count-untold under)
        ∙ (ap (λ b. item (token_count under) (cut_then lists b (untold under) done) (gap_in (untold rest)) (items_in lists (untold rest))) (among-untold l under)
        ∙ (ap (λ c. item (token_count under) c (gap_in (untold rest)) (items_in lists (untold rest))) (cut-untold (is_among lists l under) under done)
        ∙ (ap (λ n. item (token_count under) (cut_then lists (is_among lists l under) under done) n (items_in lists (untold rest))) (gap-untold rest)
        ∙ ap (item (token_count under) (cut_then lists (is_among lists l under) under done) (gap_in rest)) (items-untold rest))))

-- ---- Places

numbers-same : (from n : ℕ) → numbers_from from n ≡ numbers from n
unfolding numbers
numbers-same from zero = refl
numbers-same from (suc n) = ap (λ xs. from ∷ xs) (numbers-same (from + 1) n)

pub length-numbers_from : (from n : ℕ) → length (numbers_from from n) ≡ n
length-numbers_from from n = ap length (numbers-same from n) ∙ length-numbers n from

-- tokens by their places
pub placed : (xs : List ℕ) (n : ℕ) → length xs ≡ n → map (λ k. get_or xs k k) (numbers_from 0 n) ≡ xs
placed xs n long =
    same_lists (map (λ k. get_or xs k k) (numbers_from 0 n)) xs (many ∙ sym long)
    (λ k d lt. (let less : k < n = omega (arith, lt, many) in
    get_or-map (λ j. get_or xs j j) (numbers_from 0 n) k 0 d (let len : length (numbers_from 0 n) ≡ n = length-numbers_from 0 n in omega (arith, len, less))
    ∙ (ap (λ j. get_or xs j j) (ap (λ ys. get_or ys k 0) (numbers-same 0 n) ∙ (get_or-numbers n 0 k 0 less ∙ (let same : 0 + k ≡ k = omega arith in same)))
    ∙ get_or_default xs k k d (omega (arith, long, less)))))
  where
    many : length (map (λ k. get_or xs k k) (numbers_from 0 n)) ≡ n
    many = length-map (numbers_from 0 n) (λ k. get_or xs k k) ∙ length-numbers_from 0 n

-- ---- The tree of the tokens in the new order

nothing_mapped : (m : ℕ → ℕ) (xs : List ℕ) → map m xs ≡ [] → xs ≡ []
nothing_mapped m [] e = refl
nothing_mapped m (x ∷ xs) e = absurd (false≢true (sym (ap has_any e)))

module _ (s : Edition) (class_of : ℕ → Class) (n count : ℕ) (order : List ℕ) (lists : ℕ → Bool) (tree : Node) (is_order : IsOrder n order) (all : AreOf n (cut_in lists tree)) where
  abbrev place : ℕ → ℕ
  place k = get_or (arranged order (cut_in lists tree) (numbers_from 0 count)) k k

  abbrev reads : (ℕ → Class) → ℕ → List ℕ → Option Taken
  reads c steps xs = read_by_classes (iso s) c steps 0 (produce TranslationUnit) xs

  abbrev new_under : Forest
  new_under = permuted order lists false tree.under

  abbrev old_unit : Forest
  old_unit = node tree.label 0 (untold tree.under) none

  module _ (steps : ℕ) (e : reads class_of steps (numbers_from 0 count) ≡ Some (taken old_unit [])) where
    is_unit : tree.label ≡ labelled TranslationUnit 1
    is_unit = unit_label s class_of steps 0 (numbers_from 0 count) tree.label (untold tree.under) [] e

    plain : (f : Forest) → is_among lists tree.label f ≡ false
    plain f = ap (λ l. is_among lists l f) is_unit

    all_old : AreOf n (cut_then lists false old_unit done)
    all_old = subst (λ c. AreOf n c) (sym (ap (λ b. cut_then lists b (untold tree.under) done) (plain (untold tree.under)) ∙ cut-untold lists false tree.under done)) all

    new_unit : permuted order lists false old_unit ≡ node tree.label 0 (untold new_under) none
    new_unit =
        ap (λ b. node tree.label 0 (permuted order lists b (untold tree.under)) none) (plain (untold tree.under))
        ∙ ap (λ f. node tree.label 0 f none) (sym (permuted-untold lists order false tree.under))

    old_tokens : leaves tree.under ≡ numbers_from 0 count
    old_tokens =
        sym ((goal_text (iso s) ending (tells (Iso s)) class_of steps 0 (produce TranslationUnit) (numbers_from 0 count) (taken old_unit []) e).0
        ∙ (append-nil (tokens_of old_unit) ∙ (append-nil (tokens_of (untold tree.under)) ∙ (tokens-untold tree.under ∙ tokens-leaves tree.under))))

    long : length order ≡ n
    long = length-order n order is_order

    new_tokens : tokens_of (permuted order lists false old_unit) ++ [] ≡ arranged order (cut_in lists tree) (numbers_from 0 count)
    new_tokens =
        append-nil (tokens_of (permuted order lists false old_unit))
        ∙ (ap tokens_of new_unit ∙ (append-nil (tokens_of (untold new_under)) ∙ (tokens-untold new_under ∙ (tokens-leaves new_under
        ∙ (arranged_leaves order lists tree (subst (λ k. AreOf k (cut_in lists tree)) (sym long) all) ∙ ap (arranged order (cut_in lists tree)) old_tokens)))))

    as_long : length (arranged order (cut_in lists tree) (numbers_from 0 count)) ≡ count
    as_long =
        length_permutation (numbers_from 0 count) (arranged order (cut_in lists tree) (numbers_from 0 count)) (arranged_permutes n order (cut_in lists tree) (numbers_from 0 count) is_order all)
        ∙ length-numbers_from 0 count

    abbrev Read_so : ℕ → Type 0
    Read_so k = reads (λ i. class_of (place i)) k (numbers_from 0 count) ≡ Some (taken (node tree.label 0 (untold (numbered 0 new_under)) none) [])

    numbered_so : (k : ℕ) (t : Taken) → reads (λ i. class_of (place i)) k (numbers_from 0 count) ≡ Some t → taken (renumbered place t.read) (map place t.left) ≡ taken (permuted order lists false old_unit) []
        → Read_so k
    numbered_so k t f h =
        let left : t.left ≡ [] = nothing_mapped place t.left (ap (λ (w : Taken). w.left) h) in
        let text = (goal_text (iso s) ending (tells (Iso s)) (λ i. class_of (place i)) k 0 (produce TranslationUnit) (numbers_from 0 count) t f).0 in
        let run = run_of t.read 0 count t.left (sym text) in
        let read : t.read ≡ node tree.label 0 (untold (numbered 0 new_under)) none =
        sym (retold-runs 0 t.read run.runs) ∙ (sym (retold-renumbered place 0 t.read) ∙ (ap (λ (w : Taken). retold 0 w.read) h
        ∙ (ap (retold 0) new_unit ∙ ap (λ x. node tree.label 0 x none) (retold-untold 0 new_under)))) in
        f ∙ (ap (λ x. Some (taken x t.left)) read ∙ ap (λ ys. Some (taken (node tree.label 0 (untold (numbered 0 new_under)) none) ys)) left)

    read_so : (k : ℕ) (r : Option Taken) → reads (λ i. class_of (place i)) k (numbers_from 0 count) ≡ r → renumbered_reading place r ≡ Some (taken (permuted order lists false old_unit) []) → Read_so k
    read_so k None f h = absurd (stopped (taken (permuted order lists false old_unit) []) h)
    read_so k (Some t) f h = numbered_so k t f (found_is (taken (renumbered place t.read) (map place t.left)) (taken (permuted order lists false old_unit) []) h)

    pub in_new_order : IsReadAs s (λ k. class_of (place k)) count (reordered order lists tree)
    in_new_order =
        let r = lists_in_any_order s class_of n order lists steps 0 TranslationUnit (numbers_from 0 count) (taken old_unit []) e is_order all_old in
        let text : map place (numbers_from 0 count) ≡ tokens_of (permuted order lists false old_unit) ++ [] =
        placed (arranged order (cut_in lists tree) (numbers_from 0 count)) count as_long ∙ sym new_tokens in (
          r.0,
          read_so r.0 (reads (λ i. class_of (place i)) r.0 (numbers_from 0 count)) refl
              (sym (numbers_do_not_matter (iso s) class_of place r.0 0 (produce TranslationUnit) (numbers_from 0 count)) ∙ (ap (reads class_of r.0) text ∙ r.1)),
        )

pub arranged_in_order : ArrangedTokensAreReadInOrder
arranged_in_order s class_of n count order lists tree e is all = in_new_order s class_of n count order lists tree is all e.0 e.1
