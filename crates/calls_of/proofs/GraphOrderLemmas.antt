-- Edges in order: those of one caller stand together.
use Rattle.std.proofs.Common.{◌≡◌, ℕ, zero, suc, ◌<◌, ◌≤◌, Bool, true, false, ◌||◌, ◌&&◌, List, [], ◌∷◌, length, get_or, take, drop, refl, sym, ap, ◌∙◌, ⊎_elim, arith}
use Rattle.std.specs.Prelude.{◌==◌, nat_lt, nat_le}
use Rattle.std.specs.List.{AllWithin, list_any, fold}
use Rattle.std.specs.List.Sorted.{IsNonDecreasingBy, IsPartitionPoint}
use Rattle.std.proofs.lemmas.Bool.{cases_Bool, ltb-true, ltb-false, leb-true, leb-false, eqb-true, eq-eqb, ne_eqb, or_cases, and_parts}
use Rattle.calls_of.specs.declared.nodes.Edge.{Edge}
use Rattle.calls_of.specs.Graph.{comes_before, are_in_order, is_edge, edges_of}
use Rattle.calls_of.specs.Walking.{WalkValue, followed}

before-callers : (e f : Edge) → comes_before e f ≡ true → e.caller ≤ f.caller
before-callers e f h =
    ⊎_elim
    (λ (less : nat_lt e.caller f.caller ≡ true). let below = ltb-true e.caller f.caller less in omega arith)
    (λ (tie : (e.caller == f.caller && nat_lt e.callee f.callee) ≡ true).
    let same = eqb-true e.caller f.caller (and_parts (e.caller == f.caller) (nat_lt e.callee f.callee) tie).0 in omega arith)
    (or_cases (nat_lt e.caller f.caller) (e.caller == f.caller && nat_lt e.callee f.callee) h)

first-least : (e : Edge) (es : List Edge) → are_in_order (e ∷ es) ≡ true → (j : ℕ) (d : Edge) → j < length (e ∷ es)
    → e.caller ≤ (get_or (e ∷ es) j d).caller
first-least e [] h zero d within = omega arith
first-least e [] h (suc j) d within = absurd (omega (arith, within))
first-least e (f ∷ fs) h zero d within = omega arith
first-least e (f ∷ fs) h (suc j) d within =
    let parts = and_parts (comes_before e f) (are_in_order (f ∷ fs)) h in
    let here = before-callers e f parts.0 in
    let rest = first-least f fs parts.1 j d (omega (arith, within)) in
    omega arith

tail-ordered : (e : Edge) (es : List Edge) → are_in_order (e ∷ es) ≡ true → are_in_order es ≡ true
tail-ordered e [] h = refl
tail-ordered e (f ∷ fs) h = (and_parts (comes_before e f) (are_in_order (f ∷ fs)) h).1

pub callers-rise : (edges : List Edge) → are_in_order edges ≡ true → IsNonDecreasingBy (λ e. e.caller) edges
callers-rise [] h i j d below within = absurd (omega (arith, within))
callers-rise (e ∷ es) h zero j d below within = first-least e es h j d within
callers-rise (e ∷ es) h (suc i) zero d below within = absurd (omega (arith, below))
callers-rise (e ∷ es) h (suc i) (suc j) d below within =
    callers-rise es (tail-ordered e es h) i j d (omega (arith, below)) (omega (arith, within))

pub rise-drop : (n : ℕ) (edges : List Edge) → IsNonDecreasingBy (λ e. e.caller) edges → IsNonDecreasingBy (λ e. e.caller) (drop n edges)
rise-drop zero es h = h
rise-drop (suc n) [] h = h
rise-drop (suc n) (e ∷ es) h =
    rise-drop n es (λ i j d below within. h (suc i) (suc j) d (omega (arith, below)) (omega (arith, within)))

edges-past : (edges : List Edge) (c : ℕ) → AllWithin (λ e. nat_le e.caller c ≡ false) edges 0 (length edges) → edges_of c edges ≡ []
edges-past [] c past = refl
edges-past (e ∷ es) c past =
    let above = leb-false e.caller c (past 0 e (omega arith) (omega arith)) in
    let other : (e.caller == c) ≡ false = ne_eqb e.caller c (λ is. absurd (omega arith)) in
    rw other (edges-past es c (λ k d low high. past (suc k) d (omega arith) (omega arith)))

-- the edges of a caller lie behind those of smaller callers, and before those of greater ones
pub edges-between : (edges : List Edge) (c start count : ℕ) → start ≤ length edges
    → IsPartitionPoint (λ e. nat_lt e.caller c ≡ true) (λ e. nat_lt e.caller c ≡ false) edges start
    → IsPartitionPoint (λ e. nat_le e.caller c ≡ true) (λ e. nat_le e.caller c ≡ false) (drop start edges) count
    → take count (drop start edges) ≡ edges_of c edges
edges-between [] c zero zero within low high = refl
edges-between [] c zero (suc count) within low high = refl
edges-between [] c (suc start) count within low high = absurd (omega (arith, within))
edges-between (e ∷ es) c zero zero within low high = sym (edges-past (e ∷ es) c high.1)
edges-between (e ∷ es) c zero (suc count) within low high =
    let from = ltb-false e.caller c (low.1 0 e (omega arith) (omega arith)) in
    let to = leb-true e.caller c (high.0 0 e (omega arith) (omega arith)) in
    let same : (e.caller == c) ≡ true = eq-eqb e.caller c (omega arith) in
    rw same (ap (λ (xs : List Edge). e ∷ xs) (edges-between es c zero count (omega arith)
    ((λ k d l h. absurd (omega arith)), (λ k d l h. low.1 (suc k) d (omega arith) (omega arith)))
    ((λ k d l h. high.0 (suc k) d (omega arith) (omega arith)), (λ k d l h. high.1 (suc k) d (omega arith) (omega arith)))))
edges-between (e ∷ es) c (suc start) count within low high =
    let below = ltb-true e.caller c (low.0 0 e (omega arith) (omega arith)) in
    let other : (e.caller == c) ≡ false = ne_eqb e.caller c (λ is. absurd (omega arith)) in
    rw other (edges-between es c start count (omega (arith, within))
    ((λ k d l h. low.0 (suc k) d (omega arith) (omega arith)), (λ k d l h. low.1 (suc k) d (omega arith) (omega arith)))
    high)

-- following the edges of a caller is following all edges
pub fold-own : (c : ℕ) (edges : List Edge) (w : WalkValue) → fold (followed c) w (edges_of c edges) ≡ fold (followed c) w edges
fold-own c [] w = refl
fold-own c (e ∷ es) w =
    ⊎_elim
    (λ (own : (e.caller == c) ≡ true).
    let first : edges_of c (e ∷ es) ≡ e ∷ edges_of c es = rw own refl in
    ap (fold (followed c) w) first ∙ fold-own c es (followed c w e))
    (λ (other : (e.caller == c) ≡ false).
    let none : edges_of c (e ∷ es) ≡ edges_of c es = rw other refl in
    let stays : followed c w e ≡ w = rw other refl in
    ap (fold (followed c) w) none ∙ fold-own c es w ∙ ap (λ (v : WalkValue). fold (followed c) v es) (sym stays))
    (cases_Bool (e.caller == c))

-- an edge from a caller is one of its edges
pub any-own : (edges : List Edge) (c m : ℕ) → list_any (λ e. e.callee == m) (edges_of c edges) ≡ is_edge edges c m
any-own [] c m = refl
any-own (e ∷ es) c m =
    ⊎_elim
    (λ (own : (e.caller == c) ≡ true). rw own (ap (λ (b : Bool). e.callee == m || b) (any-own es c m)))
    (λ (other : (e.caller == c) ≡ false). rw other (any-own es c m))
    (cases_Bool (e.caller == c))
