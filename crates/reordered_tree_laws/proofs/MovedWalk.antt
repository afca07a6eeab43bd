-- A part of a unit that is moved as a whole binds alike at its new place.
use Rattle.std.proofs.Common.{ℕ, ◌+◌, ◌≤◌, ◌≡◌, Bool, true, false, ◌&&◌, ◌||◌, not, if◌then◌else◌, ◌==◌, List, Option, Some, inl, inr, refl, sym, ap, subst, ◌∙◌, arith}
use Rattle.std.specs.Prelude.{nat_lt}
use Rattle.std.proofs.lemmas.Bool.{false≢true, cases_Bool, ltb-true, ltb-false, and_parts, or_left, or_right}
use Rattle.cs_base.specs.Token.{Token}
use Rattle.cs_base.proofs.BoolLemmas.{both_true, or_met as or_not, or_not-first as or_own}
use Rattle.c99_tree.specs.Tree.{Forest, none, token, node}
use Rattle.c99_tree.specs.declared.production.Label.{Label}
use Rattle.c99_tree.specs.declared.production.Production.{Production}
use Rattle.c99_tree.specs.declared.production.Production.TheVariants.{FunBody, Specs, MemRest, Enumerator, Declarator, Pdecl, SuRest, EnRest, TypeName, Unary, Add}
use Rattle.c99_tree.specs.contracts.production.ProductionPartialEq.TheImpl.{ghosts}
use Rattle.c_types.specs.Trees.{is_node, is_at, holds_name, name_below}
use Rattle.name_chains.specs.Frames.{State, state}
use Rattle.name_chains.specs.Entering.{scope_in, entered}
use Rattle.scope_bind.specs.Named.{Frame, Scope}
use Rattle.scope_bind.specs.Walk.{passed, left, walked}
use Rattle.tree_laws.specs.TreesOfTexts.{token_count, AreFrom, begins_with_token, has_form, have_forms}
use Rattle.tree_laws.proofs.TokenEnds.{begins_some, last_none as no_last}
use Rattle.reordered_tree_laws.specs.Reordered.{is_among, numbered}
use Rattle.reordered_tree_laws.specs.Seen.{are_parts}
use Rattle.reordered_tree_laws.specs.Premises.{is_items, is_bracketed, asks_sign, stands_in, declares_type, has_outer_list, is_fit_child, is_fit}
use Rattle.scope_bind.specs.Moved.{moved_frame, AreMovedTexts}
use Rattle.reordered_tree_laws.specs.Moving.{IsAhead, FramesGo, StatesGo, AreMovedTo, PartsMoveAlike}
use Rattle.reordered_tree_laws.proofs.MovedFacts.{further_ahead}
use Rattle.scope_bind.proofs.MovedTypes.{asks_front, is_type_name}
use Rattle.reordered_tree_laws.proofs.MovedTrees.{seen_numbered, spans_moved, last_at}
use Rattle.reordered_tree_laws.proofs.MovedTokens.{token_goes}
use Rattle.reordered_tree_laws.proofs.MovedEntering.{ArePlaced, asks_word, is_body, entered_moves}
use Rattle.reordered_tree_laws.proofs.MovedLeaving.{DeclaresAt, is_declarator, left_moves}

-- ---- Numbers

pub count_numbered : (f : Forest) (k : ℕ) → token_count (numbered k f) ≡ token_count f
count_numbered none k = refl
count_numbered (token i rest) k = omega (arith, count_numbered rest (k + 1))
count_numbered (node l first under rest) k = omega (arith, count_numbered under k, count_numbered rest (k + token_count under))

pub from_numbered : (f : Forest) (k : ℕ) → AreFrom k (numbered k f)
from_numbered none k = tt
from_numbered (token i rest) k = (refl, from_numbered rest (k + 1))
from_numbered (node l first under rest) k =
    (refl, from_numbered under k, subst (λ (n : ℕ). AreFrom (k + n) (numbered (k + token_count under) rest)) (sym (count_numbered under k)) (from_numbered rest (k + token_count under)))

either_some : (c : Bool) (q r : Option ℕ) (i n k : ℕ) → (if c then q else r) ≡ Some i → (q ≡ Some i → 1 ≤ n) → (r ≡ Some i → 1 ≤ k) → 1 ≤ n + k
either_some true q r i n k e f g = omega (arith, f e)
either_some false q r i n k e f g = omega (arith, g e)

pub name_some : (l : Label) (f : Forest) (i : ℕ) → name_below l f ≡ Some i → 1 ≤ token_count f
name_some l none i e = absurd cc
name_some l (token j rest) i e = omega arith
name_some l (node m first under rest) i e =
    either_some (holds_name m.production) (name_below m under) (name_below l rest) i (token_count under) (token_count rest) e (name_some m under i) (name_some l rest i)

-- ---- Forms

front_sign : (p : Production) (a k : ℕ) → asks_front p a k ≡ true → ((ghosts.eq p Unary && (a == 1)) || (ghosts.eq p Add && not (k == 0))) ≡ true
front_sign Unary a k e = or_left (a == 1) (ghosts.eq Unary Add && not (k == 0)) e
front_sign Add a k e = e
front_sign _ a k e = absurd (false≢true e)

word_sign : (p : Production) → asks_word p ≡ true → (ghosts.eq p SuRest || ghosts.eq p EnRest) ≡ true
word_sign SuRest e = refl
word_sign EnRest e = refl
word_sign _ e = absurd (false≢true e)

declarator_sign : (p : Production) → is_declarator p ≡ true → (ghosts.eq p Declarator || ghosts.eq p Pdecl) ≡ true
declarator_sign Declarator e = refl
declarator_sign Pdecl e = refl
declarator_sign _ e = absurd (false≢true e)

body_sign : (p : Production) → is_body p ≡ true → ghosts.eq p FunBody ≡ true
body_sign FunBody e = refl
body_sign _ e = absurd (false≢true e)

name_sign : (p : Production) → is_type_name p ≡ true → ghosts.eq p TypeName ≡ true
name_sign TypeName e = refl
name_sign _ e = absurd (false≢true e)

-- what is asked of a child that is a node
pub record IsFitNode (l : Label) (own : Bool) (k : ℕ) (scope : Scope) (keeps : Bool) (m : Label) (under : Forest) : Type 0 where
  pub fronts : asks_front l.production l.alternative k ≡ true → own ≡ true
  pub words : asks_word m.production ≡ true → own ≡ true
  pub stands : stands_in m.production scope.depth ≡ true
  pub body : is_body m.production ≡ true → keeps ≡ true
  pub parts : is_declarator m.production ≡ true → are_parts under ≡ true
  pub typed : is_node m Declarator ≡ true → are_parts under ≡ true
  pub names : is_type_name l.production ≡ true → not (is_node m Specs) ≡ true → are_parts under ≡ true
  pub member : (not (is_at m MemRest 1) || begins_with_token under) ≡ true

pub fit_child : (lists : ℕ → Bool) (l : Label) (own : Bool) (k : ℕ) (scope : Scope) (keeps : Bool) (m : Label) (under : Forest)
    → is_fit_child lists l own k scope keeps m under ≡ true → IsFitNode l own k scope keeps m under
fit_child lists l own k scope keeps m under e =
    let shape : Bool = not (is_among lists m under) || is_bracketed under in
    let member : Bool = not (is_at m MemRest 1) || begins_with_token under in
    let typed : Bool = not (declares_type l m) || are_parts under in
    let body : Bool = not (is_node m FunBody) || keeps in
    let stands : Bool = stands_in m.production scope.depth in
    let sign : Bool = own || not (asks_sign l k m) in
    let p = and_parts sign (stands && (body && (typed && (member && shape)))) e in
    let q = and_parts stands (body && (typed && (member && shape))) p.1 in
    let r = and_parts body (typed && (member && shape)) q.1 in
    let t = and_parts typed (member && shape) r.1 in
    let u = and_parts member shape t.1 in
    let front : Bool = is_at l Unary 1 || (is_node l Add && not (k == 0)) in
    let word : Bool = is_node m SuRest || is_node m EnRest in
    let declarator : Bool = is_node m Declarator || is_node m Pdecl in
    let named : Bool = is_node l TypeName && not (is_node m Specs) in
    record {
      fronts = λ x. or_own own (asks_sign l k m) p.0 (or_left front word (front_sign l.production l.alternative k x));
      words = λ x. or_own own (asks_sign l k m) p.0 (or_right front word (word_sign m.production x));
      stands = q.0;
      body = λ x. or_not (is_node m FunBody) keeps r.0 (body_sign m.production x);
      parts = λ x. or_not (declares_type l m) (are_parts under) t.0 (or_left declarator named (declarator_sign m.production x));
      typed = λ x. or_not (declares_type l m) (are_parts under) t.0 (or_left declarator named (or_left (is_node m Declarator) (is_node m Pdecl) x));
      names = λ x y.
          or_not (declares_type l m) (are_parts under) t.0
          (or_right declarator named (both_true (is_node l TypeName) (not (is_node m Specs)) (name_sign l.production x) y));
      member = u.0;
    }

pub fit_shape : (lists : ℕ → Bool) (l : Label) (own : Bool) (k : ℕ) (scope : Scope) (keeps : Bool) (m : Label) (under : Forest)
    → is_fit_child lists l own k scope keeps m under ≡ true → (not (is_among lists m under) || is_bracketed under) ≡ true
fit_shape lists l own k scope keeps m under e =
    let shape : Bool = not (is_among lists m under) || is_bracketed under in
    let member : Bool = not (is_at m MemRest 1) || begins_with_token under in
    let typed : Bool = not (declares_type l m) || are_parts under in
    let body : Bool = not (is_node m FunBody) || keeps in
    let stands : Bool = stands_in m.production scope.depth in
    let sign : Bool = own || not (asks_sign l k m) in
    let p = and_parts sign (stands && (body && (typed && (member && shape)))) e in
    let q = and_parts stands (body && (typed && (member && shape))) p.1 in
    let r = and_parts body (typed && (member && shape)) q.1 in
    let t = and_parts typed (member && shape) r.1 in
    (and_parts member shape t.1).1

-- ---- Places

first_moved : (m : ℕ → ℕ) (f : Forest) (lo there : ℕ) → AreFrom lo f → AreMovedTo m there f → begins_with_token f ≡ true → m lo ≡ there
first_moved m none lo there a w e = absurd (false≢true e)
first_moved m (token i rest) lo there a w e = ap m (sym a.0) ∙ w.0
first_moved m (node l first under rest) lo there a w e = absurd (false≢true e)

module _ (m : ℕ → ℕ) (old new : List Token) (law : AreMovedTexts m old new) where
  pub placed_numbered : (f : Forest) (lo there : ℕ) → AreFrom lo f → AreMovedTo m there f → ArePlaced m lo there (token_count f) f (numbered there f)
  placed_numbered f lo there a w = record {
    spans = spans_moved m old new law f lo there a w;
    here = λ x some. last_at f lo x a some;
    beyond = λ y some.
        omega (arith, last_at (numbered there f) there y (from_numbered f there) (omega (arith, some, count_numbered f there)), count_numbered f there);
    empty = λ x none. no_last f x none;
    void = λ y none. no_last (numbered there f) y (count_numbered f there ∙ none);
  }

  declares_at : (p : Production) (l : Label) (under : Forest) (lo there : ℕ) → AreFrom lo under → AreMovedTo m there under → has_form p under ≡ true
      → (not (ghosts.eq p MemRest && (l.alternative == 1)) || begins_with_token under) ≡ true
      → DeclaresAt m lo there p l under (numbered there under) (lo + token_count under) (there + token_count under)
  declares_at Enumerator l under lo there a w form member =
      let some : 1 ≤ token_count under = begins_some under form in
      let at = placed_numbered under lo there a w in
      (first_moved m under lo there a w form, at.here lo some, at.beyond there some)
  declares_at MemRest l under lo there a w form member = λ e. first_moved m under lo there a w (or_not (l.alternative == 1) (begins_with_token under) member e)
  declares_at Declarator l under lo there a w form member = λ i e.
      let some : 1 ≤ token_count under = name_some l under i e in
      let at = placed_numbered under lo there a w in
      (at.here i some, omega (arith, at.beyond (m i) some, (seen_numbered m law.first under there w).last i (m i) refl))
  declares_at Pdecl l under lo there a w form member = λ i e.
      let some : 1 ≤ token_count under = name_some l under i e in
      let at = placed_numbered under lo there a w in
      (at.here i some, omega (arith, at.beyond (m i) some, (seen_numbered m law.first under there w).last i (m i) refl))
  declares_at _ l under lo there a w form member = tt

  -- ---- Frames behind a part

  pub frames_further : (own keeps : Bool) (lo there n : ℕ) (f g : Frame) → FramesGo m old new own keeps lo there f g → FramesGo m old new own keeps (lo + n) (there + n) f g
  frames_further own keeps lo there n f g k = record {
    same = k.same;
    token = k.token;
    kept = k.kept;
    ends = λ i a. k.ends i (ahead i a);
    outer = k.outer;
  }
    where
      ahead : (i : ℕ) → IsAhead m (lo + n) (there + n) i → IsAhead m lo there i
      ahead i a = elim (cases_Bool (nat_lt 0 n)) [
        | inl some ↦ further_ahead m old new law lo there (lo + n) (there + n) i (omega (arith, ltb-true 0 n some)) (omega (arith, ltb-true 0 n some)) a
        | inr empty ↦
            let void : n ≡ 0 = omega (arith, ltb-false 0 n empty) in
            let low : lo + n ≡ lo = omega (arith, void) in
            let high : there + n ≡ there = omega (arith, void) in
            subst (λ (x : ℕ). IsAhead m x there i) low (subst (λ (x : ℕ). IsAhead m (lo + n) x i) high a)
      ]

  pub at_places : (own keeps : Bool) (lo there hi beyond : ℕ) (s t : State) → lo ≡ hi → there ≡ beyond → StatesGo m old new own keeps lo there s t
      → StatesGo m old new own keeps hi beyond s t
  at_places own keeps lo there hi beyond s t e h k =
      subst (λ (x : ℕ). StatesGo m old new own keeps x beyond s t) e (subst (λ (x : ℕ). StatesGo m old new own keeps lo x s t) h k)

  pub forgotten : (own keeps : Bool) (lo there : ℕ) (s t : State) → StatesGo m old new own keeps lo there s t → StatesGo m old new false false lo there s t
  forgotten own keeps lo there s t k = record {
    facts = k.facts;
    frame = record {
      same = k.frame.same;
      token = λ e. absurd (false≢true e);
      kept = λ e. absurd (false≢true e);
      ends = k.frame.ends;
      outer = k.frame.outer;
    };
  }

  -- ---- The walk

  abbrev no_list : ℕ → Bool
  no_list i = false

  keeps_behind : (c outer keeps : Bool) → (if c then outer else keeps) ≡ true → (if c then true else keeps) ≡ true
  keeps_behind true outer keeps e = refl
  keeps_behind false outer keeps e = e

  node_enters : (own keeps : Bool) (lo there : ℕ) (l : Label) (under : Forest) (s t : State) → AreFrom lo under → AreMovedTo m there under
      → IsFitNode s.frame.label own s.frame.nth s.frame.scope keeps l under → StatesGo m old new own keeps lo there s t
      → StatesGo m old new false keeps lo there (entered old l lo under s) (entered new l there (numbered there under) t)
  node_enters own keeps lo there l under s t a w fit k =
      let over : Forest = numbered there under in
      let gr : Frame = moved_frame m t.frame.token t.frame.scope.to t.frame.kept s.frame in
      subst (λ (x : Frame). StatesGo m old new false keeps lo there (entered old l lo under s) (entered new l there over (state t.facts x))) (sym k.frame.same)
      (entered_moves m old new law lo there (token_count under) true under over (seen_numbered m law.first under there w) (placed_numbered under lo there a w) own keeps
      s.frame t.frame.token t.frame.scope.to t.frame.kept (record { ends = k.frame.ends; outer = k.frame.outer }) s.facts t.facts k.facts l fit.stands
      (λ e. k.frame.token (fit.words e)) (λ e. k.frame.kept (fit.body e)) k.frame.kept)

  node_leaves : (own keeps : Bool) (lo there : ℕ) (l : Label) (under : Forest) (s t s' t' : State) → AreFrom lo under → AreMovedTo m there under
      → has_form l.production under ≡ true → IsFitNode s.frame.label own s.frame.nth s.frame.scope keeps l under → StatesGo m old new own keeps lo there s t
      → StatesGo m old new false false (lo + token_count under) (there + token_count under) s' t'
      → StatesGo m old new own (if is_node l Declarator then has_outer_list no_list false under else keeps) (lo + token_count under) (there + token_count under)
      (left old l lo under s s') (left new l there (numbered there under) t t')
  node_leaves own keeps lo there l under s t s' t' a w form fit k k' =
      let any : Bool = if is_node l Declarator then has_outer_list no_list false under else keeps in
      left_moves m old new law lo there (lo + token_count under) (there + token_count under) true under (numbered there under) (seen_numbered m law.first under there w) own
      keeps any l s t s' t' (frames_further own keeps lo there (token_count under) s.frame t.frame k.frame) k' fit.parts
      (declares_at l.production l under lo there a w form fit.member) fit.fronts fit.typed fit.names
      (keeps_behind (is_node l Declarator) (has_outer_list no_list false under) keeps)

  pub walk_moves : (f : Forest) (own keeps : Bool) (lo there : ℕ) (s t : State) → AreFrom lo f → AreMovedTo m there f → have_forms f ≡ true
      → is_fit no_list s.frame.label own s.frame.nth s.frame.scope keeps f ≡ true → StatesGo m old new own keeps lo there s t
      → StatesGo m old new false false (lo + token_count f) (there + token_count f) (walked old f s) (walked new (numbered there f) t)
  unfolding walked
  walk_moves none own keeps lo there s t a w forms e k =
      at_places false false lo there (lo + 0) (there + 0) s t (omega arith) (omega arith) (forgotten own keeps lo there s t k)
  walk_moves (token i rest) own keeps lo there s t a w forms e k =
      let any : Bool = not (is_items s.frame.label) in
      at_places false false (lo + 1 + token_count rest) (there + 1 + token_count rest) (lo + (token_count rest + 1)) (there + (token_count rest + 1))
      (walked old rest (passed old i s)) (walked new (numbered (there + 1) rest) (passed new there t)) (omega arith) (omega arith)
      (walk_moves rest any keeps (lo + 1) (there + 1) (passed old i s) (passed new there t) a.1 w.1 forms e
      (token_goes m old new law own keeps any lo there i s t a.0 (w.0) k))
  walk_moves (node l first under rest) own keeps lo there s t a w forms e k =
      let n : ℕ = token_count under in
      let over : Forest = numbered there under in
      let any : Bool = if is_node l Declarator then has_outer_list no_list false under else keeps in
      let child : Bool = is_fit_child no_list s.frame.label own s.frame.nth s.frame.scope keeps l under in
      let below : Bool = is_fit no_list l false 0 (scope_in l.production l under s.frame.scope) keeps under in
      let more : Bool = is_fit no_list s.frame.label own (s.frame.nth + 1) s.frame.scope any rest in
      let p = and_parts child (below && more) e in
      let q = and_parts below more p.1 in
      let fs = and_parts (has_form l.production under) (have_forms under && have_forms rest) forms in
      let gs = and_parts (have_forms under) (have_forms rest) fs.1 in
      let fit : IsFitNode s.frame.label own s.frame.nth s.frame.scope keeps l under = fit_child no_list s.frame.label own s.frame.nth s.frame.scope keeps l under p.0 in
      let s1 : State = entered old l lo under s in
      let t1 : State = entered new l there over t in
      let inside : StatesGo m old new false false (lo + n) (there + n) (walked old under s1) (walked new over t1) =
      walk_moves under false keeps lo there s1 t1 a.1 w.0 gs.0 q.0 (node_enters own keeps lo there l under s t a.1 w.0 fit k) in
      let s2 : State = left old l lo under s (walked old under s1) in
      let t2 : State = left new l there over t (walked new over t1) in
      let last : StatesGo m old new false false (lo + n + token_count rest) (there + n + token_count rest) (walked old rest s2) (walked new (numbered (there + n) rest) t2) =
      walk_moves rest own any (lo + n) (there + n) s2 t2 a.2 w.1 gs.1 q.1 (node_leaves own keeps lo there l under s t (walked old under s1) (walked new over t1) a.1 w.0 fs.0 fit k inside) in
      subst (λ (x : ℕ). StatesGo m old new false false (lo + (n + token_count rest)) (there + (n + token_count rest))
      (walked old rest (left old l x under s (walked old under (entered old l x under s)))) (walked new (numbered (there + n) rest) t2)) (sym a.0)
      (at_places false false (lo + n + token_count rest) (there + n + token_count rest) (lo + (n + token_count rest)) (there + (n + token_count rest))
      (walked old rest s2) (walked new (numbered (there + n) rest) t2) (omega arith) (omega arith) last)

pub parts_move_alike : PartsMoveAlike
parts_move_alike m old new f own keeps lo there s t law a w forms e k = walk_moves m old new law f own keeps lo there s t a w forms e k
