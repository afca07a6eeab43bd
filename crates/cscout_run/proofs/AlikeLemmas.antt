-- What is unused, what is not needed, what stands unseen and what is found stand in one list.
use Rattle.std.proofs.Common.{◌≡◌, ℕ, List, [], ◌∷◌, ◌++◌, length, refl, ap, sym, subst, ◌∙◌}
use Rattle.cs_base.specs.declared.positions.Part.{Part}
use Rattle.cs_base.specs.declared.positions.Pos.{Pos}
use Rattle.analysis.specs.Analysis.{AnalysisValue}
use Rattle.analysis.specs.Parts.{part_cmp}
use Rattle.analysis.proofs.ListingLemmas.{part_cmp-total}
use Rattle.offences.proofs.MemberListLemmas.{AreIn, one_list, same_lists}
use Rattle.unused_names.specs.Order.{position_cmp}
use Rattle.unused_names.specs.Unneeded.{AreUnneeded}
use Rattle.unused_names.specs.Unused.{AreUnused}
use Rattle.unused_names.proofs.OrderLemmas.{position_cmp-total}
use Rattle.unseen_names.specs.Unseen.{AreUnseen}
use Rattle.query_words.specs.Queries.{Query}
use Rattle.find_names.specs.Found.{AreFound, PrintsFound, PrintsLine, PrintsLines, found_line, nothing, more}

-- ---- lists of a whole workspace

unused_in : (a : AnalysisValue) (ms ns : List Part) → AreUnused a ms → AreUnused a ns → AreIn ms ns
unused_in a ms ns these those m at = those.all m (these.each at.0 m at.1)

-- what is unused stands in one list
pub one_unused : (a : AnalysisValue) (ms ns : List Part) → AreUnused a ms → AreUnused a ns → ms ≡ ns
one_unused a ms ns these those =
    same_lists (part_cmp a) (part_cmp-total a) ms ns these.sorted those.sorted (unused_in a ms ns these those) (unused_in a ns ms those these)

unneeded_in : (a : AnalysisValue) (ps qs : List Pos) → AreUnneeded a ps → AreUnneeded a qs → AreIn ps qs
unneeded_in a ps qs these those p at = those.all p (these.each at.0 p at.1)

pub one_unneeded : (a : AnalysisValue) (ps qs : List Pos) → AreUnneeded a ps → AreUnneeded a qs → ps ≡ qs
one_unneeded a ps qs these those =
    same_lists (position_cmp a.table) (position_cmp-total a.table) ps qs these.sorted those.sorted (unneeded_in a ps qs these those)
    (unneeded_in a qs ps those these)

-- ---- what stands unseen

unseen_in : (a : AnalysisValue) (part : Part) (ms ns : List Part) → AreUnseen a part ms → AreUnseen a part ns → AreIn ms ns
unseen_in a part ms ns these those m at = those.all m (these.each at.0 m at.1)

-- the places where a name stands unseen are one list
pub one_unseen : (a : AnalysisValue) (part : Part) (ms ns : List Part) → AreUnseen a part ms → AreUnseen a part ns → ms ≡ ns
one_unseen a part ms ns these those =
    same_lists (part_cmp a) (part_cmp-total a) ms ns these.sorted those.sorted (unseen_in a part ms ns these those) (unseen_in a part ns ms those these)

-- ---- what is found

found_in : (a : AnalysisValue) (q : Query) (ms ns : List Part) → AreFound a q ms → AreFound a q ns → AreIn ms ns
found_in a q ms ns these those m at = those.all m (these.each at.0 m at.1)

-- what is found stands in one list
found_once : (a : AnalysisValue) (q : Query) (ms ns : List Part) → AreFound a q ms → AreFound a q ns → ms ≡ ns
found_once a q ms ns these those =
    same_lists (part_cmp a) (part_cmp-total a) ms ns these.sorted those.sorted (found_in a q ms ns these those) (found_in a q ns ms those these)

line_once : (a : AnalysisValue) (part : Part) (before after other : List ℕ) → PrintsLine a part before after → PrintsLine a part before other
    → after ≡ other
line_once a part before after other p q =
    p.line
    ∙ ap (λ (ms : List Part). before ++ found_line a part (length ms)) (one_list a part p.members q.members p.are_members q.are_members)
    ∙ sym q.line

-- the last element of a list that has one more
snoc_apart : {X : Type 0} (xs : List X) (x : X) → xs ++ x ∷ [] ≡ [] → ⊥
snoc_apart [] x is = cc
snoc_apart (y ∷ xs) x is = cc

snoc_same : {X : Type 0} (xs ys : List X) (x y : X) → xs ++ x ∷ [] ≡ ys ++ y ∷ [] → (xs ≡ ys) × (x ≡ y)
snoc_same [] [] x y is = (refl, cc)
snoc_same [] (z ∷ ys) x y is = absurd (let tail : [] ≡ ys ++ y ∷ [] = cc in snoc_apart ys y (sym tail))
snoc_same (z ∷ xs) [] x y is = absurd (let tail : xs ++ x ∷ [] ≡ [] = cc in snoc_apart xs x tail)
snoc_same {X} (z ∷ xs) (w ∷ ys) x y is =
    let head : z ≡ w = cc in
    let tail : xs ++ x ∷ [] ≡ ys ++ y ∷ [] = cc in
    let rest = snoc_same xs ys x y tail in
    (ap (λ (v : X). v ∷ xs) head ∙ ap (λ (vs : List X). w ∷ vs) rest.0, rest.1)

lines_once : (a : AnalysisValue) (parts others : List Part) (text other : List ℕ) → PrintsLines a parts text → PrintsLines a others other
    → parts ≡ others → text ≡ other
lines_once a parts others text other nothing nothing same = refl
lines_once a parts others text other nothing (more {parts = qs} part before line) same = absurd (snoc_apart qs part (sym same))
lines_once a parts others text other (more {parts = ps} part before line) nothing same = absurd (snoc_apart ps part same)
lines_once a parts others text other (more {parts = ps} {before = old} part earlier line) (more {parts = qs} {before = was} part' earlier' line') same =
    let both = snoc_same ps qs part part' same in
    let texts : old ≡ was = lines_once a ps qs old was earlier earlier' both.0 in
    let line'' : PrintsLine a part old other =
    subst (λ (t : List ℕ). PrintsLine a part t other) (sym texts) (subst (λ (p : Part). PrintsLine a p was other) (sym both.1) line') in
    line_once a part old text other line line''

-- and so do its lines
pub one_found : (a : AnalysisValue) (q : Query) (text other : List ℕ) → PrintsFound a q text → PrintsFound a q other → text ≡ other
one_found a q text other p r = lines_once a p.parts r.parts text other p.lines r.lines (found_once a q p.parts r.parts p.are_found r.are_found)
