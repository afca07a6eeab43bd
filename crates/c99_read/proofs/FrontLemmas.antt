-- Reading that goes on behind the first external declarations.
use Rattle.std.proofs.Common.{ℕ, suc, zero, ◌+◌, ◌<◌, ◌≤◌, ◌≡◌, Bool, true, false, ◌||◌, if◌then◌else◌, List, [], ◌∷◌, length, get_or, slice_get, nat_lt, Some, Result, Ok, Err, ◌==◌, inl, inr, refl, sym, ap, subst, ◌∙◌, add-one, arith}
use Rattle.std.specs.Option.{option_map_or}
use Rattle.std.specs.Prelude.{IfSome}
use Rattle.std.specs.Result.{IsErrAnd}
use Rattle.std.proofs.lemmas.Bool.{cases_Bool, ltb-true, ltb-false}
use Rattle.cs_base.specs.Answer.{Gives}
use Rattle.cs_base.specs.Token.{Token}
use Rattle.c99_tree.specs.Joined.{joined, followed}
use Rattle.c99_tree.specs.Tree.{Forest, none, token, node, Node, inner, put, node_of}
use Rattle.c99_tree.specs.declared.production.Production.TheVariants.{TranslationUnit, External}
use Rattle.c99_grammar.specs.declared.dialects.Dialect.{Dialect}
use Rattle.c99_grammar.specs.declared.dialects.Dialect.TheVariants.{Iso, Gnu}
use Rattle.c99_grammar.specs.declared.dialects.Edition.TheVariants.{C99, C11}
use Rattle.c99_grammar.specs.declared.classes.Class.TheVariants.{End, NoClass}
use Rattle.c99_grammar.specs.TokenClasses.{base_class, class_of_kind}
use Rattle.c99_grammar.specs.Classes.{among}
use Rattle.c99_grammar.specs.Items.{Item, part, end_of_text, ◌·◌, many, own, plain}
use Rattle.c99_grammar.specs.Standard.{Grammar, grammar}
use Rattle.c99_read.specs.declared.faults.ReadRefusal.{ReadRefusal}
use Rattle.c99_read.specs.declared.faults.ReadRefusal.TheVariants as refusal
use Rattle.c99_read.specs.Answer.{stop_of, Reads, ReadsNode, with_built, behind}
use Rattle.c99_read.specs.Alike.{IsAlike}
use Rattle.c99_read.specs.declared.reader.Stand.{Stand}
use Rattle.c99_read.specs.Standing.{IsStand}
use Rattle.c99_read.specs.Fronts.{external, externals, behind_children, unit_of, BeginsWith, FrontValue, front_value, IsFront, IsSameNode, state_in}
use Rattle.c99_read.proofs.Alike.{swapped, Same, same_whole}
use Rattle.c99_read.specs.Reading.{Stop, Step, and_then, may, step, alternative, pick, whole, produce, repeat, syntax, too_deep, at_first, at_end, tree_of, read_of, tokens_left}
use Rattle.c99_read.specs.State.{State, base_at, spelling_at, class_at, opened, closed}
use Rattle.c99_read.proofs.C99Sound.{grammar-sound}
use Rattle.c99_read.proofs.Fronts.{fronts_read_alike}
use Rattle.c99_read.proofs.LedLemmas.{may-elsewhere}
use Rattle.c99_read.proofs.Moves.{Moves}
use Rattle.c99_read.proofs.Suffices.{whole-moves}
use Rattle.c99_read.proofs.TurnLemmas.{produced, many-turn}

-- ---- Children behind others

pub joined_none : (f : Forest) → joined f none ≡ f
joined_none none = refl
joined_none (token i rest) = ap (token i) (joined_none rest)
joined_none (node l first under rest) = ap (node l first under) (joined_none rest)

pub joined_put : (f x : Forest) (n : Node) → joined f (put x (inner n)) ≡ put (joined f x) (inner n)
joined_put none x n = refl
joined_put (token i rest) x n = ap (token i) (joined_put rest x n)
joined_put (node l first under rest) x n = ap (node l first under) (joined_put rest x n)

-- ---- External declarations

module _ (d : Dialect) where
  abbrev g : Grammar
  g = grammar d

  -- those that are left
  abbrev pub left : State → Step
  left s = step g (whole g) 0 (many own (part External)) s

  pub starts_if : (s s' : State) → external g s ≡ Ok s' → may g own (part External) s ≡ true
  starts_if s s' e =
      elim (cases_Bool (may g own (part External) s)) [
        | inl starts ↦ starts
        | inr stops ↦
            (let h : Err (syntax s.at) ≡ Ok s' = sym (ap (λ c. if c then whole g 0 (produce External) s else Err (syntax s.at)) stops) ∙ e in
            cc)
      ]

  pub read_if : (s s' : State) → external g s ≡ Ok s' → whole g 0 (produce External) s ≡ Ok s'
  read_if s s' e = sym (ap (λ c. if c then whole g 0 (produce External) s else Err (syntax s.at)) (starts_if s s' e)) ∙ e

  pub turn : (s s' : State) → external g s ≡ Ok s' → left s' ≡ left s
  turn s s' e = many-turn d own (part External) 0 s s' refl (starts_if s s' e) (read_if s s' e)

  pub goes_on : (k : ℕ) (s s' : State) → externals g k s ≡ Ok s' → left s' ≡ left s
  goes_on zero s s' e = let h : s ≡ s' = cc in ap left (sym h)
  goes_on (suc k) s s' e = by (externals g k s) (λ t f. goes_on k s t f) e
    where
      by : (r : Step) → ((t : State) → r ≡ Ok t → left t ≡ left s) → and_then r (external g) ≡ Ok s' → left s' ≡ left s
      by (Err stop) before h = cc
      by (Ok t) before h = turn t s' h ∙ before t refl

  pub starts_first : (k : ℕ) (s s' : State) → externals g (suc k) s ≡ Ok s' → may g own (part External) s ≡ true
  starts_first zero s s' e = starts_if s s' e
  starts_first (suc k) s s' e = by (externals g (suc k) s) (λ t f. starts_first k s t f) e
    where
      by : (r : Step) → ((t : State) → r ≡ Ok t → may g own (part External) s ≡ true) → and_then r (external g) ≡ Ok s'
          → may g own (part External) s ≡ true
      by (Err stop) before h = cc
      by (Ok t) before h = before t refl

  -- ---- The whole unit

  -- the node around the unit, at its end
  abbrev pub unit_at : Step → Result Node Stop
  unit_at (Ok s) = Ok s.built
  unit_at (Err stop) = Err stop

  body : Item
  body = many own (part External) · end_of_text

  closed_unit : (toks : List Token) (r : Step) → tree_of (and_then r (λ s'. Ok (closed TranslationUnit (at_first toks) s'))) ≡ unit_at r
  unfolding closed
  closed_unit toks (Ok s) = refl
  closed_unit toks (Err stop) = refl

  opened_unit : (toks : List Token) → opened TranslationUnit 1 (at_first toks) ≡ at_first toks
  unfolding opened
  opened_unit toks = refl

table_unit : (d : Dialect) → (grammar d).table TranslationUnit ≡ plain (many own (part External) · end_of_text) ∷ []
table_unit (Iso C99) = refl
table_unit (Iso C11) = refl
table_unit Gnu = refl

module _ (d : Dialect) (toks : List Token) where
  read_unit : may (grammar d) own (part External) (at_first toks) ≡ true → read_of (grammar d) toks ≡ unit_at d (and_then (left d (at_first toks)) at_end)
  read_unit starts =
      let g : Grammar = grammar d in
      let s : State = at_first toks in
      let it : Item = many own (part External) · end_of_text in
      let row : may g own it s ≡ true = ap (λ c. c || among (End ∷ []) (class_at g s s.at)) starts in
      ap tree_of
      (produced d 0 TranslationUnit s
      ∙ ap (λ rows. pick g (whole g) 0 TranslationUnit 1 rows s) (table_unit d)
      ∙ ap (λ c. if c then alternative g (whole g) 0 TranslationUnit 1 it s else Err (syntax s.at)) row
      ∙ ap (λ o. and_then (step g (whole g) 0 it o) (λ s'. Ok (closed TranslationUnit s s'))) (opened_unit d toks))
      ∙ closed_unit d toks (and_then (left d s) at_end)

  -- a text whose first external declarations are read is read on behind them
  pub read_on : (k : ℕ) (s : State) → 1 ≤ k → externals (grammar d) k (at_first toks) ≡ Ok s
      → read_of (grammar d) toks ≡ unit_at d (and_then (left d s) at_end)
  read_on zero s some e = absurd (omega (arith, some))
  read_on (suc k) s some e =
      read_unit (starts_first d k (at_first toks) s e)
      ∙ ap (λ r. unit_at d (and_then r at_end)) (sym (goes_on d (suc k) (at_first toks) s e))

-- a text that begins with a front is read on behind it
pub read_behind : (f : FrontValue) (toks : List Token) → IsFront f → BeginsWith toks f
    → read_of (grammar f.dialect) toks ≡ unit_at f.dialect (and_then (left f.dialect (state_in toks f)) at_end)
read_behind f toks front begins =
    read_on f.dialect toks f.count (state_in toks f) front.some
    (fronts_read_alike f.dialect (length f.toks) f.count f.toks toks (state_in f.toks f) begins front.read front.seen)

-- ---- What external declarations move

pub external-falls : (d : Dialect) (s s' : State) → external (grammar d) s ≡ Ok s' → tokens_left s' < tokens_left s
external-falls d s s' e =
    (subst (Moves true s) (read_if d s s' e) (whole-moves (grammar d) (grammar-sound d) 0 (produce External) s refl)).1 refl

pub one_more : (g : Grammar) (k n : ℕ) (s s1 s2 : State) → externals g k s ≡ Ok s1 → external g s1 ≡ Ok s2 → n ≡ k + 1 → externals g n s ≡ Ok s2
one_more g k n s s1 s2 e f h =
    ap (λ m. externals g m s) (h ∙ add-one k) ∙ ap (λ r. and_then r (external g)) e ∙ f

-- ---- Equal tokens

got : {X : Type 0} (xs : List X) (k : ℕ) (x : X) → k < length xs → slice_get xs k ≡ Some (get_or xs k x)
got [] k x h = absurd (omega (arith, h))
got (y ∷ ys) zero x h = refl
got (y ∷ ys) (suc k) x h = got ys k x (omega (arith, h))

classes_same : (g : Grammar) (t u : Token) → t.kind ≡ u.kind → t.text ≡ u.text → base_class g t ≡ base_class g u
unfolding base_class
classes_same g t u k e = ap (λ x. class_of_kind g x t.text) k ∙ ap (class_of_kind g u.kind) e

pub same_at : (g : Grammar) (a b : List Token) (k : ℕ) (x y : Token) → k < length a → k < length b → (get_or a k x).kind ≡ (get_or b k y).kind
    → (get_or a k x).text ≡ (get_or b k y).text → (base_at g a k ≡ base_at g b k) × (spelling_at a k ≡ spelling_at b k)
same_at g a b k x y h i kinds texts =
    let e = got a k x h in let f = got b k y i in
    let left_class : base_at g a k ≡ base_class g (get_or a k x) = ap (λ o. option_map_or (base_class g) o (if k == length a then End else NoClass)) e in
    let right_class : base_at g b k ≡ base_class g (get_or b k y) = ap (λ o. option_map_or (base_class g) o (if k == length b then End else NoClass)) f in
    let left_text : spelling_at a k ≡ (get_or a k x).text = ap (λ o. option_map_or (λ t. t.text) o []) e in
    let right_text : spelling_at b k ≡ (get_or b k y).text = ap (λ o. option_map_or (λ t. t.text) o []) f in
    (left_class ∙ classes_same g (get_or a k x) (get_or b k y) kinds texts ∙ sym right_class, left_text ∙ texts ∙ sym right_text)

-- ---- What becomes of external declarations behind whatever children

module _ (d : Dialect) (f : Forest) where
  abbrev open_in : State → Node
  open_in s = record s.built { under = joined f s.built.under }

  pub left-behind : (s s1 s2 : State) (n : Node) → may (grammar d) own (part External) s ≡ true
      → ReadsNode (Ok n) s s1 (whole (grammar d) 0 (produce External)) → s2 ≡ with_built s1 (behind s1.built n)
      → left d (behind_children f s2) ≡ left d (behind_children f s)
  left-behind s s1 s2 n starts m pushed =
      let B : Node = open_in s in
      let same : behind_children f s2 ≡ with_built s1 (behind B n) =
      ap (behind_children f) pushed
      ∙ ap (λ (b : Node). with_built s1 (record b { under = joined f (put b.under (inner n)) })) m.0
      ∙ ap (λ u. with_built s1 (record s.built { under = u })) (joined_put f s.built.under n) in
      ap (left d) same
      ∙ many-turn d own (part External) 0 (with_built s B) (with_built s1 (behind B n)) refl (may-elsewhere (grammar d) own (part External) s B ∙ starts) (m.1 B)

  left-if : (s : State) (c : Bool) → may (grammar d) own (part External) s ≡ c
      → left d (behind_children f s) ≡ (if c then and_then (whole (grammar d) 0 (produce External) (with_built s (open_in s))) (whole (grammar d) 0 (repeat own (part External))) else Ok (behind_children f s))
  left-if s c e =
      ap (λ x. if x then and_then (whole (grammar d) 0 (produce External) (with_built s (open_in s))) (whole (grammar d) 0 (repeat own (part External))) else Ok (behind_children f s))
      (may-elsewhere (grammar d) own (part External) s (open_in s) ∙ e)

  pub left-ends : (s : State) → may (grammar d) own (part External) s ≡ false → left d (behind_children f s) ≡ Ok (behind_children f s)
  left-ends s stops = left-if s false stops

  pub left-stops : (e : ReadRefusal) (s new other : State) → may (grammar d) own (part External) s ≡ true
      → ReadsNode (Err e) s new (whole (grammar d) 0 (produce External)) → Reads (Err e) other (left d (behind_children f s))
  left-stops (refusal.Syntax i) s new other starts m = left-if s true starts ∙ ap (λ r. and_then r (whole (grammar d) 0 (repeat own (part External)))) (m (open_in s))
  left-stops (refusal.TooDeep i) s new other starts m = left-if s true starts ∙ ap (λ r. and_then r (whole (grammar d) 0 (repeat own (part External)))) (m (open_in s))
  left-stops refusal.Memory s new other starts m = tt

-- ---- A text behind a front

at_end_elsewhere : (s : State) (b : Node) → at_end s ≡ Ok s → at_end (with_built s b) ≡ Ok (with_built s b)
unfolding at_end
at_end_elsewhere s b e = by (s.at == length s.toks) e
  where
    by : (c : Bool) → (if c then Ok s else Err (syntax s.at)) ≡ Ok s → (if c then Ok (with_built s b) else Err (syntax s.at)) ≡ Ok (with_built s b)
    by true h = refl
    by false h = cc

at_end_stops : (s : State) (b : Node) (stop : Stop) → at_end s ≡ Err stop → at_end (with_built s b) ≡ Err stop
unfolding at_end
at_end_stops s b stop e = by (s.at == length s.toks) e
  where
    by : (c : Bool) → (if c then Ok s else Err (syntax s.at)) ≡ Err stop → (if c then Ok (with_built s b) else Err (syntax s.at)) ≡ Err stop
    by true h = cc
    by false h = h

module _ (f : FrontValue) (toks : List Token) (front : IsFront f) (begins : BeginsWith toks f) where
  abbrev pub start : State
  start = record (at_first toks) { at = f.at; names = f.names }

  at_front : behind_children f.tree.under start ≡ state_in toks f
  at_front =
      ap (λ u. record (at_first toks) { at = f.at; names = f.names; built = unit_of u }) (joined_none f.tree.under)
      ∙ ap (λ t. record (at_first toks) { at = f.at; names = f.names; built = t }) (sym front.unit)

  from_left : read_of (grammar f.dialect) toks ≡ unit_at f.dialect (and_then (left f.dialect (behind_children f.tree.under start)) at_end)
  from_left =
      read_behind f toks front begins
      ∙ ap (λ s. unit_at f.dialect (and_then (left f.dialect s) at_end)) (sym at_front)

  pub from-done : (s : State) → left f.dialect (behind_children f.tree.under start) ≡ Ok (behind_children f.tree.under s) → IsSameNode start.built s.built
      → at_end s ≡ Ok s → read_of (grammar f.dialect) toks ≡ Ok (followed f.tree s.built)
  from-done s read same done =
      from_left
      ∙ (ap (λ r. unit_at f.dialect (and_then r at_end)) read
      ∙ (ap (unit_at f.dialect) (at_end_elsewhere s (record s.built { under = joined f.tree.under s.built.under }) done)
      ∙ (ap (λ l. Ok (node_of l s.built.first (joined f.tree.under s.built.under))) same.label
      ∙ (ap (λ k. Ok (node_of start.built.label k (joined f.tree.under s.built.under))) same.first
      ∙ ap (λ (t : Node). Ok (node_of t.label t.first (joined f.tree.under s.built.under))) (sym front.unit)))))

  pub from-stopped : (e : ReadRefusal) (other : State) → Reads (Err e) other (left f.dialect (behind_children f.tree.under start))
      → IfSome (stop_of e) (λ stop. read_of (grammar f.dialect) toks ≡ Err stop)
  from-stopped (refusal.Syntax i) other m = from_left ∙ ap (λ r. unit_at f.dialect (and_then r at_end)) m
  from-stopped (refusal.TooDeep i) other m = from_left ∙ ap (λ r. unit_at f.dialect (and_then r at_end)) m
  from-stopped refusal.Memory other m = tt

  pub from-ended : (e : ReadRefusal) (s : State) → left f.dialect (behind_children f.tree.under start) ≡ Ok (behind_children f.tree.under s)
      → Reads (Err e) s (at_end s) → IfSome (stop_of e) (λ stop. read_of (grammar f.dialect) toks ≡ Err stop)
  from-ended (refusal.Syntax i) s read m =
      from_left ∙ (ap (λ r. unit_at f.dialect (and_then r at_end)) read ∙ ap (unit_at f.dialect) (at_end_stops s (record s.built { under = joined f.tree.under s.built.under }) (syntax i) m))
  from-ended (refusal.TooDeep i) s read m =
      from_left ∙ (ap (λ r. unit_at f.dialect (and_then r at_end)) read ∙ ap (unit_at f.dialect) (at_end_stops s (record s.built { under = joined f.tree.under s.built.under }) (too_deep i) m))
  from-ended refusal.Memory s read m = tt

-- ---- A front that is made

ok_same : (s t : State) → ◌≡◌ {A = Step} (Ok s) (Ok t) → t ≡ s
ok_same s t e = cc

pub node-falls : (d : Dialect) (s s1 s2 : State) (n : Node) → ReadsNode (Ok n) s s1 (whole (grammar d) 0 (produce External)) → s2 ≡ with_built s1 (behind s1.built n)
    → tokens_left s2 < tokens_left s
node-falls d s s1 s2 n m pushed =
    let e : tokens_left s2 ≡ tokens_left (with_built s1 (behind s.built n)) = ap tokens_left pushed in
    let f : tokens_left (with_built s1 (behind s.built n)) < tokens_left s =
    (subst (Moves true s) (m.1 s.built) (whole-moves (grammar d) (grammar-sound d) 0 (produce External) s refl)).1 refl in
    omega (arith, e, f)

pub node-pushed-behind : (s1 s2 : State) (n : Node) → ◌≡◌ {A = Step} (Ok (with_built s1 (behind s1.built n))) (Ok s2) → s2 ≡ with_built s1 (behind s1.built n)
node-pushed-behind s1 s2 n e = ok_same (with_built s1 (behind s1.built n)) s2 e

pub node-same : (x : Node) (s s1 s2 : State) (n : Node) → s1.built ≡ s.built → s2 ≡ with_built s1 (behind s1.built n) → IsSameNode x s.built → IsSameNode x s2.built
node-same x s s1 s2 n kept pushed same = record {
  label = ap (λ (t : State). t.built.label) pushed ∙ (ap (λ (b : Node). b.label) kept ∙ same.label);
  first = ap (λ (t : State). t.built.first) pushed ∙ (ap (λ (b : Node). b.first) kept ∙ same.first);
}

alike_itself : (g : Grammar) (toks : List Token) → IsAlike g toks toks
alike_itself g toks = record { as_long = refl; classes = λ k. refl; spellings = λ i j. refl }

external_of : (g : Grammar) (toks : List Token) (s s' : State) → s.toks ≡ toks → external g s ≡ Ok s' → s'.toks ≡ toks
external_of g toks s s' of e = by (may g own (part External) s) e
  where
    by : (c : Bool) → (if c then whole g 0 (produce External) s else Err (syntax s.at)) ≡ Ok s' → s'.toks ≡ toks
    by true h =
        (subst (λ r. Same g toks toks (alike_itself g toks) r (whole g 0 (produce External) (swapped toks s))) h
        (same_whole g toks toks (alike_itself g toks) 0 (produce External) s of)).0
    by false h = cc

externals_of : (g : Grammar) (toks : List Token) (k : ℕ) (s : State) → externals g k (at_first toks) ≡ Ok s → s.toks ≡ toks
externals_of g toks zero s e = ap (λ (t : State). t.toks) (ok_same (at_first toks) s e)
externals_of g toks (suc k) s e = by (externals g k (at_first toks)) (λ t f. externals_of g toks k t f) e
  where
    by : (r : Step) → ((t : State) → r ≡ Ok t → t.toks ≡ toks) → and_then r (external g) ≡ Ok s → s.toks ≡ toks
    by (Err stop) before h = cc
    by (Ok t) before h = external_of g toks t s (before t refl) h

pub front-stands : (d : Dialect) (toks : List Token) (k : ℕ) (s0 s : State) (st : Stand) → s0 ≡ at_first toks → externals (grammar d) k s0 ≡ Ok s → 1 ≤ k → IsStand st s
    → IsFront (front_value d toks k st.at st.names st.tree)
front-stands d toks k s0 s st begun read some stands =
    let first : externals (grammar d) k (at_first toks) ≡ Ok s = ap (externals (grammar d) k) (sym begun) ∙ read in
    let of : s.toks ≡ toks = externals_of (grammar d) toks k s first in
    record {
      some = some;
      read = first ∙ (ap Ok stands.state ∙ ap (λ ts. Ok (record (at_first ts) { at = st.at; names = st.names; built = st.tree })) of);
      seen = subst (λ ts. st.at + 1 < length ts) of stands.seen;
      unit = stands.unit;
    }

-- ---- The answer behind a front

module _ (f : FrontValue) (toks : List Token) (front : IsFront f) (begins : BeginsWith toks f) (d : Dialect) (s0 : State)
    (by_it : f.dialect ≡ d) (begun : s0 ≡ record (at_first toks) { at = f.at; names = f.names }) where
  same_left : left d (behind_children f.tree.under s0) ≡ left f.dialect (behind_children f.tree.under (start f toks front begins))
  same_left =
      ap (λ s. left d (behind_children f.tree.under s)) begun
      ∙ ap (λ x. left x (behind_children f.tree.under (start f toks front begins))) (sym by_it)

  pub read-done : (s : State) → left d (behind_children f.tree.under s0) ≡ Ok (behind_children f.tree.under s) → IsSameNode s0.built s.built → at_end s ≡ Ok s
      → read_of (grammar f.dialect) toks ≡ Ok (followed f.tree s.built)
  read-done s read same done =
      from-done f toks front begins s (sym same_left ∙ read)
      (subst (λ (x : State). IsSameNode x.built s.built) begun same) done

  pub read-stopped : (e : ReadRefusal) (other : State) → Reads (Err e) other (left d (behind_children f.tree.under s0))
      → IfSome (stop_of e) (λ stop. read_of (grammar f.dialect) toks ≡ Err stop)
  read-stopped e other stops = from-stopped f toks front begins e other (subst (Reads (Err e) other) same_left stops)

  pub read-ended : (e : ReadRefusal) (s : State) → left d (behind_children f.tree.under s0) ≡ Ok (behind_children f.tree.under s) → Reads (Err e) s (at_end s)
      → IfSome (stop_of e) (λ stop. read_of (grammar f.dialect) toks ≡ Err stop)
  read-ended e s read ended = from-ended f toks front begins e s (sym same_left ∙ read) ended

-- a refusal that is handed on
pub gives-passed : (view : Node → Node) (e : ReadRefusal) (r : Result Node ReadRefusal) (expected : Result Node Stop) → IsErrAnd r (λ x. x ≡ e)
    → IfSome (stop_of e) (λ stop. expected ≡ Err stop) → Gives view stop_of r expected
gives-passed view e (Ok n) expected same m = absurd same
gives-passed view e (Err x) expected same m =
    let P : ReadRefusal → Type 0 = λ y. IfSome (stop_of y) (λ stop. expected ≡ Err stop) in
    subst P (sym same) m

-- one token more is alike
pub alike_more : (g : Grammar) (a b : List Token) (k : ℕ) (x y : Token)
    → ((j : ℕ) → j < k → (base_at g a j ≡ base_at g b j) × (spelling_at a j ≡ spelling_at b j)) → k < length a → k < length b
    → x ≡ get_or a k x → y ≡ get_or b k y → x.kind ≡ y.kind → x.text ≡ y.text
    → (j : ℕ) → j < k + 1 → (base_at g a j ≡ base_at g b j) × (spelling_at a j ≡ spelling_at b j)
alike_more g a b k x y before h i at_x at_y kinds texts j below =
    let P : ℕ → Type 0 = λ n. (base_at g a n ≡ base_at g b n) × (spelling_at a n ≡ spelling_at b n) in
    let here : P k =
    same_at g a b k x y h i (ap (λ (t : Token). t.kind) (sym at_x) ∙ (kinds ∙ ap (λ (t : Token). t.kind) at_y))
    (ap (λ (t : Token). t.text) (sym at_x) ∙ (texts ∙ ap (λ (t : Token). t.text) at_y)) in
    elim (cases_Bool (nat_lt j k)) [
      | inl e ↦ before j (ltb-true j k e)
      | inr e ↦
          (let far : k ≤ j = ltb-false j k e in
          let same : j ≡ k = omega (arith, far, below) in
          subst P (sym same) here)
    ]
