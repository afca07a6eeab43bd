-- A walk along edges meets exactly the nodes that chains of edges reach.
use Rattle.std.proofs.Common.{◌≡◌, ◌⊎◌, ℕ, zero, suc, ◌+◌, ◌<◌, ◌≤◌, Bool, true, false, ◌||◌, cond, List, [], ◌∷◌, ◌++◌, length, get_or, refl, sym, ap, subst, ◌∙◌, ⊎_elim, inl, inr, arith, length-append}
use Rattle.std.specs.Prelude.{◌==◌, slice_set, All, replicate}
use Rattle.std.specs.List.{fold, Contains}
use Rattle.std.proofs.lemmas.Bool.{cases_lt, cases_eq, cond_both, eq-eqb, eqb-true, and_parts, or_cases, or_left, or_right, false≢true}
use Rattle.std.proofs.lemmas.List.{length-set, get_or-set_same, get_or-set_other, get_or_default, get_or_past, get_or-replicate, length-replicate}
use Rattle.std.proofs.lemmas.List.Elements.{Contains-append_left, Contains-push, Contains-push_cases}
use Rattle.calls_of.specs.declared.nodes.Edge.{Edge}
use Rattle.calls_of.specs.Graph.{leads, is_edge, IsWithin}
use Rattle.calls_of.specs.Reaching.{Reaches, Lists}
use Rattle.calls_of.specs.Reaching.Reaches.{one, more}
use Rattle.calls_of.specs.Walking.{WalkValue, walk, is_marked, marked_numbers, met, followed}
use Rattle.calls_of.proofs.GraphListLemmas.{contains-none, contains-cases, numbers-lists}
use Rattle.calls_of.proofs.EdgeLemmas.{edge-within}

-- how many nodes have no mark
abbrev pub unmarked : List Bool → ℕ
unmarked [] = 0
unmarked (mark ∷ marks) = cond mark 0 1 + unmarked marks

unmarked-set : (marks : List Bool) (k : ℕ) → get_or marks k true ≡ false → unmarked (slice_set marks k true) + 1 ≡ unmarked marks
unmarked-set [] k open_ = absurd (false≢true (sym open_))
unmarked-set (mark ∷ marks) zero open_ =
    let is : mark ≡ false = open_ in
    rw is (omega arith)
unmarked-set (mark ∷ marks) (suc k) open_ =
    let rest = unmarked-set marks k open_ in
    omega arith

-- What following the edges of a caller makes of a walk.
pub record Grown (caller : ℕ) (es : List Edge) (w w' : WalkValue) : Type 0 where
  pub same : length w'.marks ≡ length w.marks
  pub kept : (m : ℕ) → is_marked w.marks m ≡ true → is_marked w'.marks m ≡ true
  pub waits : (m : ℕ) → Contains w.work m → Contains w'.work m
  pub new : (m : ℕ) → is_marked w'.marks m ≡ true
      → (is_marked w.marks m ≡ true) ⊎ ((is_edge es caller m ≡ true) × Contains w'.work m)
  pub added : (m : ℕ) → Contains w'.work m → Contains w.work m ⊎ (is_marked w'.marks m ≡ true)
  pub all : (m : ℕ) → m < length w.marks → is_edge es caller m ≡ true → is_marked w'.marks m ≡ true
  pub less : unmarked w'.marks + length w'.work ≡ unmarked w.marks + length w.work

grown-none : (caller : ℕ) (w : WalkValue) → Grown caller [] w w
grown-none caller w = record {
  same = refl;
  kept = λ m h. h;
  waits = λ m h. h;
  new = λ m h. inl h;
  added = λ m h. inl h;
  all = λ m below h. absurd (false≢true h);
  less = refl;
}

-- an edge that counts for nothing, since it leads from elsewhere
grown-else : (caller : ℕ) (e : Edge) (es : List Edge) (w w' : WalkValue) → (e.caller == caller) ≡ false
    → Grown caller es w w' → Grown caller (e ∷ es) w w'
grown-else caller e es w w' miss g =
    let rest : (m : ℕ) → is_edge (e ∷ es) caller m ≡ true → is_edge es caller m ≡ true =
    λ m h. (let h' : (false || is_edge es caller m) ≡ true = rw miss at h in h') in
    record {
      same = g.same;
      kept = g.kept;
      waits = g.waits;
      new = λ m h. ⊎_elim
          (λ (before : is_marked w.marks m ≡ true). inl before)
          (λ (now : (is_edge es caller m ≡ true) × Contains w'.work m). inr (or_right (leads caller m e) (is_edge es caller m) now.0, now.1))
          (g.new m h);
      added = g.added;
      all = λ m below h. g.all m below (rest m h);
      less = g.less;
    }

-- an edge to a node that has a mark, or is not there
grown-old : (caller : ℕ) (e : Edge) (es : List Edge) (w w' : WalkValue) → get_or w.marks e.callee true ≡ true
    → Grown caller es w w' → Grown caller (e ∷ es) w w'
grown-old caller e es w w' old g = record {
  same = g.same;
  kept = g.kept;
  waits = g.waits;
  new = λ m h. ⊎_elim
      (λ (before : is_marked w.marks m ≡ true). inl before)
      (λ (now : (is_edge es caller m ≡ true) × Contains w'.work m). inr (or_right (leads caller m e) (is_edge es caller m) now.0, now.1))
      (g.new m h);
  added = g.added;
  all = λ m below h. ⊎_elim
      (λ (here : leads caller m e ≡ true).
      let to : e.callee ≡ m = eqb-true e.callee m (and_parts (e.caller == caller) (e.callee == m) here).1 in
      let there : get_or w.marks m true ≡ true = rw to at old in
      g.kept m (get_or_default w.marks m false true below ∙ there))
      (λ (later : is_edge es caller m ≡ true). g.all m below later)
      (or_cases (leads caller m e) (is_edge es caller m) h);
  less = g.less;
}

-- the walk with one node more that is met
abbrev with_node : ℕ → WalkValue → WalkValue
with_node node w = walk (slice_set w.marks node true) (w.work ++ node ∷ [])

open-within : (marks : List Bool) (k : ℕ) → get_or marks k true ≡ false → k < length marks
open-within marks k open_ =
    ⊎_elim
    (λ (below : k < length marks). below)
    (λ (past : length marks ≤ k). absurd (false≢true (sym open_ ∙ get_or_past marks k true past)))
    (cases_lt k (length marks))

set-keeps : (marks : List Bool) (k m : ℕ) → k < length marks → is_marked marks m ≡ true → is_marked (slice_set marks k true) m ≡ true
set-keeps marks k m within h =
    ⊎_elim
    (λ (e : m ≡ k). rw e (get_or-set_same marks k true false within))
    (λ (ne : m ≡ k → ⊥). get_or-set_other marks k m true false ne ∙ h)
    (cases_eq m k)

set-only : (marks : List Bool) (k m : ℕ) → is_marked (slice_set marks k true) m ≡ true → (m ≡ k) ⊎ (is_marked marks m ≡ true)
set-only marks k m h =
    ⊎_elim
    (λ (e : m ≡ k). inl e)
    (λ (ne : m ≡ k → ⊥). inr (sym (get_or-set_other marks k m true false ne) ∙ h))
    (cases_eq m k)

-- an edge to a node that is met for the first time
grown-new : (caller : ℕ) (e : Edge) (es : List Edge) (w w' : WalkValue) → (e.caller == caller) ≡ true → get_or w.marks e.callee true ≡ false
    → Grown caller es (with_node e.callee w) w' → Grown caller (e ∷ es) w w'
grown-new caller e es w w' from open_ g =
    let within = open-within w.marks e.callee open_ in
    let IsMarked : ℕ → Type 0 = λ k. is_marked (slice_set w.marks e.callee true) k ≡ true in
    let self : is_marked (slice_set w.marks e.callee true) e.callee ≡ true = get_or-set_same w.marks e.callee true false within in
    let first : leads caller e.callee e ≡ true = rw (from, eq-eqb e.callee e.callee refl) refl in
    record {
      same = g.same ∙ length-set w.marks e.callee true;
      kept = λ m h. g.kept m (set-keeps w.marks e.callee m within h);
      waits = λ m h. g.waits m (Contains-append_left w.work (e.callee ∷ []) m h);
      new = λ m h. ⊎_elim
          (λ (before : is_marked (slice_set w.marks e.callee true) m ≡ true). ⊎_elim
          (λ (is : m ≡ e.callee). inr (
            or_left (leads caller m e) (is_edge es caller m) (rw is first),
            rw is (g.waits e.callee (Contains-push w.work e.callee)),
          ))
          (λ (old : is_marked w.marks m ≡ true). inl old)
          (set-only w.marks e.callee m before))
          (λ (now : (is_edge es caller m ≡ true) × Contains w'.work m). inr (or_right (leads caller m e) (is_edge es caller m) now.0, now.1))
          (g.new m h);
      added = λ m h. ⊎_elim
          (λ (before : Contains (w.work ++ e.callee ∷ []) m). ⊎_elim
          (λ (old : Contains w.work m). inl old)
          (λ (is : e.callee ≡ m). inr (g.kept m (subst IsMarked is self)))
          (Contains-push_cases w.work e.callee m before))
          (λ (now : is_marked w'.marks m ≡ true). inr now)
          (g.added m h);
      all = λ m below h. ⊎_elim
          (λ (here : leads caller m e ≡ true).
          let to : e.callee ≡ m = eqb-true e.callee m (and_parts (e.caller == caller) (e.callee == m) here).1 in
          g.kept m (subst IsMarked to self))
          (λ (later : is_edge es caller m ≡ true). g.all m (rw (length-set w.marks e.callee true) below) later)
          (or_cases (leads caller m e) (is_edge es caller m) h);
      less =
          let one_less = unmarked-set w.marks e.callee open_ in
          let one_more = length-append w.work (e.callee ∷ []) in
          let rest = g.less in
          omega arith;
    }

pub grown : (caller : ℕ) (es : List Edge) (w : WalkValue) → Grown caller es w (fold (followed caller) w es)
grown caller [] w = grown-none caller w
grown caller (e ∷ es) w =
    cond_both (e.caller == caller) (met e.callee w) w (λ (v : WalkValue). Grown caller (e ∷ es) w (fold (followed caller) v es))
    (λ (from : (e.caller == caller) ≡ true).
    cond_both (get_or w.marks e.callee true) w (with_node e.callee w) (λ (v : WalkValue). Grown caller (e ∷ es) w (fold (followed caller) v es))
    (λ (old : get_or w.marks e.callee true ≡ true). grown-old caller e es w (fold (followed caller) w es) old (grown caller es w))
    (λ (open_ : get_or w.marks e.callee true ≡ false).
    grown-new caller e es w (fold (followed caller) (with_node e.callee w) es) from open_ (grown caller es (with_node e.callee w))))
    (λ (miss : (e.caller == caller) ≡ false). grown-else caller e es w (fold (followed caller) w es) miss (grown caller es w))

-- What is true of a walk from a node, all the way.
pub record IsWalk (edges : List Edge) (nodes n : ℕ) (w : WalkValue) : Type 0 where
  pub marks : length w.marks ≡ nodes
  pub sound : (m : ℕ) → is_marked w.marks m ≡ true → Reaches edges n m
  pub waits : (m : ℕ) → Contains w.work m → (m ≡ n) ⊎ (is_marked w.marks m ≡ true)
  pub closed : (p q : ℕ) → (p ≡ n) ⊎ (is_marked w.marks p ≡ true) → is_edge edges p q ≡ true
      → Contains w.work p ⊎ (is_marked w.marks q ≡ true)

no-mark : (nodes m : ℕ) → is_marked (replicate nodes false) m ≡ true → ⊥
no-mark nodes m h =
    ⊎_elim
    (λ (below : m < nodes). false≢true (sym (get_or-replicate nodes m false false below) ∙ h))
    (λ (past : nodes ≤ m). false≢true (sym (get_or_past (replicate nodes false) m false (omega (arith, length-replicate nodes false))) ∙ h))
    (cases_lt m nodes)

pub walk-begins : (edges : List Edge) (nodes n : ℕ) → IsWalk edges nodes n (walk (replicate nodes false) (n ∷ []))
walk-begins edges nodes n = record {
  marks = length-replicate nodes false;
  sound = λ m h. absurd (no-mark nodes m h);
  waits = λ m h. ⊎_elim (λ (is : n ≡ m). inl (sym is)) (λ (none : Contains [] m). absurd (contains-none m none)) (contains-cases n m [] h);
  closed = λ p q from edge. ⊎_elim
      (λ (is : p ≡ n). inl (rw is (Contains-push [] n)))
      (λ (marked : is_marked (replicate nodes false) p ≡ true). absurd (no-mark nodes p marked))
      from;
}

-- an edge more at the end of a chain
reaches-on : (edges : List Edge) (p q r : ℕ) → Reaches edges p q → is_edge edges q r ≡ true → Reaches edges p r
reaches-on edges p q r (one edge) last = more edge (one last)
reaches-on edges p q r (more edge rest) last = more edge (reaches-on edges _ q r rest last)

reaches-from : (edges : List Edge) (n p m : ℕ) → (p ≡ n) ⊎ Reaches edges n p → is_edge edges p m ≡ true → Reaches edges n m
reaches-from edges n p m from edge =
    ⊎_elim
    (λ (is : p ≡ n). one (rw is at edge))
    (λ (there : Reaches edges n p). reaches-on edges n p m there edge)
    from

-- a walk goes on from a node that waits
pub walk-goes : (edges : List Edge) (nodes n p : ℕ) (w w' : WalkValue) (front : List ℕ) → All (IsWithin nodes) edges → IsWalk edges nodes n w
    → w.work ≡ front ++ p ∷ [] → Grown p edges (walk w.marks front) w' → IsWalk edges nodes n w'
walk-goes edges nodes n p w w' front within old is g =
    let from : (p ≡ n) ⊎ (is_marked w.marks p ≡ true) = old.waits p (subst (λ (ns : List ℕ). Contains ns p) (sym is) (Contains-push front p)) in
    let reached : (p ≡ n) ⊎ Reaches edges n p =
    ⊎_elim (λ (e : p ≡ n). inl e) (λ (marked : is_marked w.marks p ≡ true). inr (old.sound p marked)) from in
    let split : (m : ℕ) → Contains w.work m → Contains front m ⊎ (p ≡ m) =
    λ m h. Contains-push_cases front p m (subst (λ (ns : List ℕ). Contains ns m) is h) in
    let goes_on : (r q : ℕ) → (r ≡ n) ⊎ (is_marked w.marks r ≡ true) → is_edge edges r q ≡ true
    → Contains w'.work r ⊎ (is_marked w'.marks q ≡ true) =
    λ r q begun edge. ⊎_elim
    (λ (waiting : Contains w.work r). ⊎_elim
    (λ (still : Contains front r). inl (g.waits r still))
    (λ (e : p ≡ r).
    let edge' : is_edge edges p q ≡ true = rw e edge in
    let below : q < length w.marks = rw old.marks (edge-within nodes edges r q within edge) in
    inr (g.all q below edge'))
    (split r waiting))
    (λ (marked : is_marked w.marks q ≡ true). inr (g.kept q marked))
    (old.closed r q begun edge) in
    record {
      marks = g.same ∙ old.marks;
      sound = λ m h. ⊎_elim
          (λ (before : is_marked w.marks m ≡ true). old.sound m before)
          (λ (now : (is_edge edges p m ≡ true) × Contains w'.work m). reaches-from edges n p m reached now.0)
          (g.new m h);
      waits = λ m h. ⊎_elim
          (λ (before : Contains front m). ⊎_elim
          (λ (e : m ≡ n). inl e)
          (λ (marked : is_marked w.marks m ≡ true). inr (g.kept m marked))
          (old.waits m (subst (λ (ns : List ℕ). Contains ns m) (sym is) (Contains-append_left front (p ∷ []) m before))))
          (λ (now : is_marked w'.marks m ≡ true). inr now)
          (g.added m h);
      closed = λ r q begun edge. ⊎_elim
          (λ (e : r ≡ n). goes_on r q (inl e) edge)
          (λ (marked : is_marked w'.marks r ≡ true). ⊎_elim
          (λ (before : is_marked w.marks r ≡ true). goes_on r q (inr before) edge)
          (λ (now : (is_edge edges p r ≡ true) × Contains w'.work r). inl now.1)
          (g.new r marked))
          begun;
    }

pub walk-less : (edges : List Edge) (p : ℕ) (w w' : WalkValue) (front : List ℕ) → w.work ≡ front ++ p ∷ []
    → Grown p edges (walk w.marks front) w' → unmarked w'.marks + length w'.work < unmarked w.marks + length w.work
walk-less edges p w w' front is g =
    let whole : length w.work ≡ length front + 1 = ap length is ∙ length-append front (p ∷ []) in
    let less = g.less in
    omega arith

next-marked : (edges : List Edge) (nodes n p q : ℕ) (w : WalkValue) → IsWalk edges nodes n w → w.work ≡ [] → (p ≡ n) ⊎ (is_marked w.marks p ≡ true)
    → is_edge edges p q ≡ true → is_marked w.marks q ≡ true
next-marked edges nodes n p q w is done from edge =
    ⊎_elim
    (λ (waiting : Contains w.work p). absurd (contains-none p (subst (λ (ns : List ℕ). Contains ns p) done waiting)))
    (λ (marked : is_marked w.marks q ≡ true). marked)
    (is.closed p q from edge)

marked-within : (marks : List Bool) (m : ℕ) → is_marked marks m ≡ true → m < length marks
marked-within marks m h =
    ⊎_elim
    (λ (below : m < length marks). below)
    (λ (past : length marks ≤ m). absurd (false≢true (sym (get_or_past marks m false past) ∙ h)))
    (cases_lt m (length marks))

-- what a chain reaches from where the walk was is marked, once nothing waits
chain-marked : (edges : List Edge) (nodes n p m : ℕ) (w : WalkValue) → IsWalk edges nodes n w → w.work ≡ [] → (p ≡ n) ⊎ (is_marked w.marks p ≡ true)
    → Reaches edges p m → is_marked w.marks m ≡ true
chain-marked edges nodes n p m w is done from (one edge) = next-marked edges nodes n p m w is done from edge
chain-marked edges nodes n p m w is done from (more edge rest) =
    chain-marked edges nodes n _ m w is done (inr (next-marked edges nodes n p _ w is done from edge)) rest

pub walk-ends : (edges : List Edge) (nodes n : ℕ) (w : WalkValue) → IsWalk edges nodes n w → w.work ≡ []
    → Lists (Reaches edges n) (marked_numbers w.marks)
walk-ends edges nodes n w is done =
    numbers-lists (is_marked w.marks) (length w.marks) (Reaches edges n) is.sound
    (λ m there. (let marked = chain-marked edges nodes n n m w is done (inl refl) there in (marked-within w.marks m marked, marked)))

pub walk-parts : (w : WalkValue) (marks : List Bool) → w.marks ≡ marks → w ≡ walk marks w.work
walk-parts w marks is = ap (λ (ms : List Bool). walk ms w.work) is
