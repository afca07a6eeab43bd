-- Steps of a unit over the files as they were, and over the edited ones.
use Rattle.std.proofs.Common.{◌≡◌, ℕ, zero, suc, ◌+◌, ◌<◌, ◌≤◌, Bool, true, false, cond, List, [], ◌∷◌, ◌++◌, length, codes, Ok, Err, None, Some, refl, ap, sym, subst, ◌∙◌, arith, append_assoc}
use Rattle.std.specs.Prelude.{slice_get}
use Rattle.cs_base.specs.Token.{Token, origin_at}
use Rattle.cs_base.proofs.ListLemmas.{front_at}
use Rattle.macro_body.specs.declared.definitions.Definition.{Definition}
use Rattle.expansion_laws.specs.Alike.{stands_for_line}
use Rattle.macro_body.specs.Macro.{Table as Macros}
use Rattle.source_files.specs.Faults.{Fault}
use Rattle.source_files.specs.Files.{Source, Table}
use Rattle.source_files.specs.Tables.{IsGrown, AreFound}
use Rattle.source_files.proofs.TableLemmas.{grown_refl, grown_trans}
use Rattle.unit_steps.specs.Notes.{Note, Reaches, Happened, Defined, Undefined, Tested, Left, Linked, Answered, Named, Entered, Exited, ReadOnce}
use Rattle.unit_steps.specs.State.{State, Did, did, Outcome, only, noted, onward}
use Rattle.unit_laws.specs.Edited.{Edit, IsEditedSource, edited_state}
use Rattle.unit_laws.specs.Walking.{is_line_word, IsOf, IsUpTo, AreUpTo, IsFrom, AreFrom, IsReachedAt, Stands}

-- ---- notes

-- they tell of no item
abbrev pub AreQuiet : List Note → Type 0
AreQuiet notes = (b : ℕ) → AreUpTo b notes × AreFrom b notes

pub up_both : (most : ℕ) (ns ms : List Note) → AreUpTo most ns → AreUpTo most ms → AreUpTo most (ns ++ ms)
up_both most [] ms h k = k
up_both most (n ∷ ns) ms h k = (h.0, up_both most ns ms h.1 k)

pub down_both : (least : ℕ) (ns ms : List Note) → AreFrom least ns → AreFrom least ms → AreFrom least (ns ++ ms)
down_both least [] ms h k = k
down_both least (n ∷ ns) ms h k = (h.0, down_both least ns ms h.1 k)

pub quiet_both : (ns ms : List Note) → AreQuiet ns → AreQuiet ms → AreQuiet (ns ++ ms)
quiet_both ns ms h k = λ b. (up_both b ns ms (h b).0 (k b).0, down_both b ns ms (h b).1 (k b).1)

up_note : (a b : ℕ) (note : Note) → a ≤ b → IsUpTo a note → IsUpTo b note
up_note a b (Reaches number k evaluated before) le h = omega (arith, le, h)
up_note a b (Happened run before note) le h = tt
up_note a b (Defined m before) le h = tt
up_note a b (Undefined name before) le h = tt
up_note a b (Tested name before) le h = tt
up_note a b (Left name before) le h = tt
up_note a b (Linked x y) le h = tt
up_note a b (Answered t) le h = tt
up_note a b (Named toks) le h = tt
up_note a b (Entered at file before) le h = tt
up_note a b (Exited at file before) le h = tt
up_note a b (ReadOnce passed at file before) le h = tt

down_note : (a b : ℕ) (note : Note) → a ≤ b → IsFrom b note → IsFrom a note
down_note a b (Reaches number k evaluated before) le h = omega (arith, le, h)
down_note a b (Happened run before note) le h = tt
down_note a b (Defined m before) le h = tt
down_note a b (Undefined name before) le h = tt
down_note a b (Tested name before) le h = tt
down_note a b (Left name before) le h = tt
down_note a b (Linked x y) le h = tt
down_note a b (Answered t) le h = tt
down_note a b (Named toks) le h = tt
down_note a b (Entered at file before) le h = tt
down_note a b (Exited at file before) le h = tt
down_note a b (ReadOnce passed at file before) le h = tt

pub up_more : (a b : ℕ) (ns : List Note) → a ≤ b → AreUpTo a ns → AreUpTo b ns
up_more a b [] le h = tt
up_more a b (n ∷ ns) le h = (up_note a b n le h.0, up_more a b ns le h.1)

pub down_less : (a b : ℕ) (ns : List Note) → a ≤ b → AreFrom b ns → AreFrom a ns
down_less a b [] le h = tt
down_less a b (n ∷ ns) le h = (down_note a b n le h.0, down_less a b ns le h.1)

-- these stand among all tokens from one on
abbrev pub StandAt : List Token → ℕ → List Token → Type 0
StandAt all from xs = (m : ℕ) (t : Token) → slice_get xs m ≡ Some t → slice_get all (from + m) ≡ Some t

pub behind_at : {X : Type 0} (xs ys : List X) (m : ℕ) → slice_get (xs ++ ys) (length xs + m) ≡ slice_get ys m
behind_at [] ys m = let same : 0 + m ≡ m = omega arith in rw same refl
behind_at (x ∷ xs) ys m = let on : suc (length xs) + m ≡ suc (length xs + m) = omega arith in rw on (behind_at xs ys m)

pub stand_front : (all : List Token) (from : ℕ) (xs ys : List Token) → StandAt all from (xs ++ ys) → StandAt all from xs
stand_front all from xs ys h = λ m t is. h m t (front_at xs ys m t is)

pub stand_behind : (all : List Token) (from : ℕ) (xs ys : List Token) → StandAt all from (xs ++ ys) → StandAt all (from + length xs) ys
stand_behind all from xs ys h = λ m t is.
    let on : from + length xs + m ≡ from + (length xs + m) = omega arith in
    rw on (h (length xs + m) t (behind_at xs ys m ∙ is))

-- ---- one of these

pub of_first : {X : Type 0} (xs ys : List X) (x : X) → IsOf xs x → IsOf (xs ++ ys) x
of_first xs ys x at = (at.0, front_at xs ys at.0 x at.1)

pub of_later : {X : Type 0} (xs ys : List X) (x : X) → IsOf ys x → IsOf (xs ++ ys) x
of_later xs ys x at = (length xs + at.0, behind_at xs ys at.0 ∙ at.1)

pub reached_first : (b : ℕ) (ns ms : List Note) → IsReachedAt b ns → IsReachedAt b (ns ++ ms)
reached_first b ns ms h = (h.0, h.1, h.2, of_first ns ms (Reaches h.0 h.1 h.2 b) h.3)

pub reached_later : (b : ℕ) (ns ms : List Note) → IsReachedAt b ms → IsReachedAt b (ns ++ ms)
reached_later b ns ms h = (h.0, h.1, h.2, of_later ns ms (Reaches h.0 h.1 h.2 b) h.3)

-- ---- steps

-- a macro that stands for the number of a line is `__LINE__` (6.10.8), and one for that of the unit `__COUNTER__`; no line
-- defined it
abbrev pub LineMacros : Macros → Type 0
LineMacros macros = (name : List ℕ) (m : Definition) → macros name ≡ Some m → stands_for_line m.form ≡ true → (origin_at m.name 0 ≡ None) × (is_line_word name ≡ true)

-- What goes on in a unit: the edit, what the paths held and hold, its notes, its tokens and its files; and what tokens go with.
pub record World : Type 1 where
  pub edit : Edit
  pub old : Source
  pub new : Source
  pub news : IsEditedSource edit old new
  pub told : List Note
  pub all : List Token
  pub files : Table
  pub V : ℕ → List Token → List Token → Type 0
  pub v_none : (before : ℕ) → V before [] []
  pub v_both : (before : ℕ) (xs xs2 ys ys2 : List Token) → V before xs xs2 → V (before + length xs) ys ys2 → V before (xs ++ ys) (xs2 ++ ys2)

-- what is so at each moment
abbrev pub Fits : World → State → Type 0
Fits w s = AreFound w.old s.table × LineMacros s.macros

-- a step stands in the unit, from one state to another
abbrev pub Within : World → State → State → List Note → List Token → Type 0
Within w s t notes toks = Stands w.told w.all w.files s.before t.before notes toks t.table

-- the first of two steps stands in it
pub within_first : (w : World) (s t u : State) (ns ms : List Note) (toks first : List Token) (n : ℕ) → Within w s u (ns ++ ms) toks → StandAt w.all s.before first → u.before ≡ t.before + n
    → AreFrom t.before ms → (0 < n → IsReachedAt t.before ms) → IsGrown t.table u.table → Within w s t ns first
within_first w s t u ns ms toks first n h stand many down begins grown =
    let room = h.room in
    let few : t.before ≤ u.before = omega (arith, many) in
    record {
      earlier = h.earlier;
      later = ms ++ h.later;
      among = h.among ∙ ap (λ (l : List Note). h.earlier ++ l) (append_assoc ns ms h.later);
      up = h.up;
      down = down_both t.before ms h.later down (down_less t.before u.before h.later few h.down);
      next = λ some. next_by n many begins some;
      room = omega (arith, few, room);
      stand = stand;
      grown = grown_trans t.table u.table w.files grown h.grown;
    }
  where
    next_by : (n : ℕ) → u.before ≡ t.before + n → (0 < n → IsReachedAt t.before ms) → t.before < length w.all → IsReachedAt t.before (ms ++ h.later)
    next_by zero e begins some =
        let same : u.before ≡ t.before = omega (arith, e) in
        reached_later t.before ms h.later (subst (λ (b : ℕ). IsReachedAt b h.later) same (h.next (omega (arith, same, some))))
    next_by (suc n) e begins some = reached_first t.before ms h.later (begins (omega arith))

-- the second one does
pub within_later : (w : World) (s t u : State) (ns ms : List Note) (toks last : List Token) → Within w s u (ns ++ ms) toks → StandAt w.all t.before last → s.before ≤ t.before
    → AreUpTo t.before ns → Within w t u ms last
within_later w s t u ns ms toks last h stand le up = record {
  earlier = h.earlier ++ ns;
  later = h.later;
  among = h.among ∙ ap (λ (l : List Note). h.earlier ++ l) (append_assoc ns ms h.later) ∙ sym (append_assoc h.earlier ns (ms ++ h.later));
  up = up_both t.before h.earlier ns (up_more s.before t.before h.earlier le h.up) up;
  down = h.down;
  next = h.next;
  room = h.room;
  stand = stand;
  grown = h.grown;
}

-- The step over the edited files gives a value that goes with the old one, and the same state but for the bytes of files.
pub record GoesToo {A : Type 0} (w : World) (W : ℕ → A → A → Type 0) (s : State) (d : Did A) (new : Outcome A) : Type 0 where
  pub value : A
  pub notes : List Note
  pub is : new ≡ Ok (did value notes (edited_state w.edit d.state))
  pub goes : W s.before d.value value

-- A step that puts nothing out, and reaches no item; what goes with its value may be so in the state behind it.
pub record StillToo {A : Type 0} (w : World) (W : State → A → A → Type 0) (s : State) (d : Did A) (new : Outcome A) : Type 0 where
  pub too : GoesToo w (λ before. W d.state) s d new
  pub fits : Fits w d.state
  pub before : d.state.before ≡ s.before
  pub grown : IsGrown s.table d.state.table
  pub quiet : AreQuiet d.notes

abbrev pub Still : {A : Type 0} → World → (State → A → A → Type 0) → State → Outcome A → Outcome A → Type 0
Still w W s (Ok d) new = Fits w s → StillToo w W s d new
Still w W s (Err fault) new = Unit {0}

-- A step that puts tokens out, `out` of its value: they are counted, items are reached from where it begins to where it ends, and
-- one is where the tokens begin. Where the step stands in the unit, the one over the edited files goes so.
pub record PutsToo {A : Type 0} (w : World) (out : A → List Token) (W : ℕ → A → A → Type 0) (s : State) (d : Did A) (new : Outcome A) : Type 0 where
  pub fits : Fits w d.state
  pub counted : d.state.before ≡ s.before + length (out d.value)
  pub grown : IsGrown s.table d.state.table
  pub up : AreUpTo d.state.before d.notes
  pub down : AreFrom s.before d.notes
  pub begins : 0 < length (out d.value) → IsReachedAt s.before d.notes
  pub too : Within w s d.state d.notes (out d.value) → GoesToo w W s d new

abbrev pub Goes : {A : Type 0} → World → (A → List Token) → (ℕ → A → A → Type 0) → State → Outcome A → Outcome A → Type 0
Goes w out W s (Ok d) new = Fits w s → PutsToo w out W s d new
Goes w out W s (Err fault) new = Unit {0}

-- the same value
abbrev pub Same : {A : Type 0} → State → A → A → Type 0
Same t a b = b ≡ a

-- tokens that are put out
abbrev pub itself : List Token → List Token
itself toks = toks

pub plus_none : (n : ℕ) → n ≡ n + 0
plus_none n = omega arith

-- nothing begins where nothing is put out
pub none_begins : {X : Type 0} (xs : List X) (P : Type 0) → xs ≡ [] → 0 < length xs → P
none_begins xs P none h = let short : length xs ≡ 0 = ap length none in absurd (omega (arith, short, h))

module _ (w : World) where
  pub still_only : {A : Type 0} (W : State → A → A → Type 0) (s : State) (a b : A) → W s a b → Still w W s (only a s) (only b (edited_state w.edit s))
  still_only W s a b v = λ fits.
      record { too = record { value = b; notes = []; is = refl; goes = v }; fits = fits; before = refl; grown = grown_refl s.table; quiet = λ b. (tt, tt) }

  pub goes_only : {A : Type 0} (out : A → List Token) (W : ℕ → A → A → Type 0) (s : State) (a b : A) → W s.before a b → out a ≡ []
      → Goes w out W s (only a s) (only b (edited_state w.edit s))
  goes_only out W s a b v none = λ fits. record {
    fits = fits;
    counted = plus_none s.before ∙ ap (λ (l : List Token). s.before + length l) (sym none);
    grown = grown_refl s.table;
    up = tt;
    down = tt;
    begins = none_begins (out a) (IsReachedAt s.before []) none;
    too = λ within. record { value = b; notes = []; is = refl; goes = v };
  }

  -- what happens before a step, where nothing is put out
  pub goes_noted : {A : Type 0} (out : A → List Token) (W : ℕ → A → A → Type 0) (s : State) (notes : List Note) (m new : Outcome A)
      → AreUpTo s.before notes → AreFrom s.before notes → Goes w out W s m new → Goes w out W s (noted notes m) (noted notes new)
  goes_noted out W s notes (Err fault) new up down h = tt
  goes_noted out W s notes (Ok d) new up down h = λ fits.
      let f = h fits in
      let many = f.counted in
      record {
        fits = f.fits;
        counted = f.counted;
        grown = f.grown;
        up = up_both d.state.before notes d.notes (up_more s.before d.state.before notes (omega (arith, many)) up) f.up;
        down = down_both s.before notes d.notes down f.down;
        begins = λ some. reached_later s.before notes d.notes (f.begins some);
        too = λ within.
            let k = f.too (within_later w s s d.state notes d.notes (out d.value) (out d.value) within within.stand (omega arith) up) in
            record { value = k.value; notes = notes ++ k.notes; is = ap (noted notes) k.is; goes = k.goes };
      }

  -- a step that puts nothing out, and the next one
  then_behind : {A B : Type 0} (R : State → A → A → Type 0) (W : State → B → B → Type 0) (s : State) (d : Did A) (m : Outcome B) (new : Outcome A) (next2 : A → State → Outcome B)
      → Still w R s (Ok d) new → ((b : A) → R d.state d.value b → Still w W d.state m (next2 b (edited_state w.edit d.state)))
      → Still w W s (noted d.notes m) (onward new next2)
  then_behind R W s d (Err fault) new next2 h k = tt
  then_behind R W s d (Ok e) new next2 h k = λ fits.
      let f = h fits in
      let g = k f.too.value f.too.goes f.fits in
      record {
        too = record {
          value = g.too.value;
          notes = f.too.notes ++ g.too.notes;
          is = ap (λ o. onward o next2) f.too.is ∙ ap (noted f.too.notes) g.too.is;
          goes = g.too.goes;
        };
        fits = g.fits;
        before = g.before ∙ f.before;
        grown = grown_trans s.table d.state.table e.state.table f.grown g.grown;
        quiet = quiet_both d.notes e.notes f.quiet g.quiet;
      }

  pub then_still : {A B : Type 0} (R : State → A → A → Type 0) (W : State → B → B → Type 0) (s : State) (m new : Outcome A) (next next2 : A → State → Outcome B) → Still w R s m new
      → ((a b : A) (t : State) → R t a b → Still w W t (next a t) (next2 b (edited_state w.edit t))) → Still w W s (onward m next) (onward new next2)
  then_still R W s (Err fault) new next next2 h k = tt
  then_still R W s (Ok d) new next next2 h k = then_behind R W s d (next d.value d.state) new next2 h (λ b r. k d.value b d.state r)

  -- the same, where the next one puts tokens out
  still_behind : {A B : Type 0} (R : State → A → A → Type 0) (out : B → List Token) (W : ℕ → B → B → Type 0) (s : State) (d : Did A) (m : Outcome B) (new : Outcome A) (next2 : A → State → Outcome B)
      → Still w R s (Ok d) new → ((b : A) → R d.state d.value b → Goes w out W d.state m (next2 b (edited_state w.edit d.state)))
      → Goes w out W s (noted d.notes m) (onward new next2)
  still_behind R out W s d (Err fault) new next2 h k = tt
  still_behind R out W s d (Ok e) new next2 h k = λ fits.
      let f = h fits in
      let g = k f.too.value f.too.goes f.fits in
      let same = f.before in
      let many = g.counted in
      record {
        fits = g.fits;
        counted = g.counted ∙ ap (λ (b : ℕ). b + length (out e.value)) f.before;
        grown = grown_trans s.table d.state.table e.state.table f.grown g.grown;
        up = up_both e.state.before d.notes e.notes (f.quiet e.state.before).0 g.up;
        down = down_both s.before d.notes e.notes (f.quiet s.before).1 (subst (λ (b : ℕ). AreFrom b e.notes) same g.down);
        begins = λ some. reached_later s.before d.notes e.notes (subst (λ (b : ℕ). IsReachedAt b e.notes) same (g.begins some));
        too = λ within.
            let t = g.too (within_later w s d.state e.state d.notes e.notes (out e.value) (out e.value) within
            (subst (λ (b : ℕ). StandAt w.all b (out e.value)) (sym same) within.stand) (omega (arith, same)) (f.quiet d.state.before).0) in
            record {
              value = t.value;
              notes = f.too.notes ++ t.notes;
              is = ap (λ o. onward o next2) f.too.is ∙ ap (noted f.too.notes) t.is;
              goes = subst (λ (b : ℕ). W b e.value t.value) f.before t.goes;
            };
      }

  pub still_then : {A B : Type 0} (R : State → A → A → Type 0) (out : B → List Token) (W : ℕ → B → B → Type 0) (s : State) (m new : Outcome A) (next next2 : A → State → Outcome B)
      → Still w R s m new → ((a b : A) (t : State) → R t a b → Goes w out W t (next a t) (next2 b (edited_state w.edit t))) → Goes w out W s (onward m next) (onward new next2)
  still_then R out W s (Err fault) new next next2 h k = tt
  still_then R out W s (Ok d) new next next2 h k = still_behind R out W s d (next d.value d.state) new next2 h (λ b r. k d.value b d.state r)

  -- a value that is made of that of a step, and notes behind it
  pub goes_then : {A B : Type 0} (out : A → List Token) (W : ℕ → A → A → Type 0) (out2 : B → List Token) (W2 : ℕ → B → B → Type 0) (s : State) (m new : Outcome A) (f : A → B) (g : State → List Note)
      → ((a : A) → out2 (f a) ≡ out a) → ((b : ℕ) (x y : A) → W b x y → W2 b (f x) (f y)) → ((t : State) → g (edited_state w.edit t) ≡ g t) → ((t : State) → AreQuiet (g t))
      → Goes w out W s m new → Goes w out2 W2 s (onward m (λ a t. Ok (did (f a) (g t) t))) (onward new (λ a t. Ok (did (f a) (g t) t)))
  goes_then out W out2 W2 s (Err fault) new f g outs more same quiet h = tt
  goes_then out W out2 W2 s (Ok d) new f g outs more same quiet h = λ fits.
      let k = h fits in
      let none = quiet d.state in
      let here = plus_none d.state.before in
      record {
        fits = k.fits;
        counted = k.counted ∙ ap (λ (l : List Token). s.before + length l) (sym (outs d.value));
        grown = k.grown;
        up = up_both d.state.before d.notes (g d.state) k.up (none d.state.before).0;
        down = down_both s.before d.notes (g d.state) k.down (none s.before).1;
        begins = λ some. reached_first s.before d.notes (g d.state) (k.begins (subst (λ (l : List Token). 0 < length l) (outs d.value) some));
        too = λ within.
            let t = k.too (within_first w s d.state d.state d.notes (g d.state) (out2 (f d.value)) (out d.value) 0 within
            (subst (λ (l : List Token). StandAt w.all s.before l) (outs d.value) within.stand) here (none d.state.before).1 (λ some. absurd (omega (arith, some))) (grown_refl d.state.table)) in
            record {
              value = f t.value;
              notes = t.notes ++ g d.state;
              is = ap (λ o. onward o (λ a t. Ok (did (f a) (g t) t))) t.is ∙ ap (λ (l : List Note). Ok (did (f t.value) (t.notes ++ l) (edited_state w.edit d.state))) (same d.state);
              goes = more s.before d.value t.value t.goes;
            };
      }

  pub still_cond : {A : Type 0} (W : State → A → A → Type 0) (s : State) (b : Bool) (x y x2 y2 : Outcome A) → Still w W s x x2 → Still w W s y y2 → Still w W s (cond b x y) (cond b x2 y2)
  still_cond W s true x y x2 y2 h k = h
  still_cond W s false x y x2 y2 h k = k

  pub still_test : {A : Type 0} (W : State → A → A → Type 0) (s : State) (b : Bool) (fault fault2 : Fault) (y y2 : Outcome A) → Still w W s y y2 → Still w W s (cond b (Err fault) y) (cond b (Err fault2) y2)
  still_test W s true fault fault2 y y2 k = tt
  still_test W s false fault fault2 y y2 k = k

  pub goes_cond : {A : Type 0} (out : A → List Token) (W : ℕ → A → A → Type 0) (s : State) (b : Bool) (x y x2 y2 : Outcome A)
      → Goes w out W s x x2 → Goes w out W s y y2 → Goes w out W s (cond b x y) (cond b x2 y2)
  goes_cond out W s true x y x2 y2 h k = h
  goes_cond out W s false x y x2 y2 h k = k

  pub goes_test : {A : Type 0} (out : A → List Token) (W : ℕ → A → A → Type 0) (s : State) (b : Bool) (fault fault2 : Fault) (y y2 : Outcome A)
      → Goes w out W s y y2 → Goes w out W s (cond b (Err fault) y) (cond b (Err fault2) y2)
  goes_test out W s true fault fault2 y y2 k = tt
  goes_test out W s false fault fault2 y y2 k = k
