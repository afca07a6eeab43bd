-- One step behind another, over the files as they were and over the edited ones.
use Rattle.std.proofs.Common.{ℕ, Bool, true, false, cond, Option, List, [], ◌∷◌, ◌++◌, map, Ok, Err, refl, ap, sym, ◌∙◌}
use Rattle.std.proofs.lemmas.List.{map-append}
use Rattle.macro_body.specs.Macro.{Table as Macros}
use Rattle.source_files.specs.Faults.{Fault}
use Rattle.source_files.specs.Files.{Table}
use Rattle.unit_steps.specs.Notes.{Note}
use Rattle.unit_steps.specs.State.{State, Did, did, Outcome, only, noted, onward}
use Rattle.source_files.specs.Tables.{IsGrown}
use Rattle.source_files.proofs.TableLemmas.{grown_trans}
use Rattle.include_tree.specs.Including.{left_to}
use Rattle.edited_unit_laws.specs.Lines.{Each}
use Rattle.edited_unit_laws.specs.Keeping.{Change, KeepsNote}
use Rattle.edited_unit_laws.specs.Renamed.{renamed_happening}
use Rattle.edited_unit_laws.specs.Steps.{KeepsState, moved, GoesAlike, Grows}

-- ---- facts of each element

pub each-split : {X : Type 0} (P : X → Type 0) (xs ys : List X) → Each P (xs ++ ys) → Each P xs × Each P ys
each-split P [] ys h = (tt, h)
each-split P (x ∷ xs) ys h = let k = each-split P xs ys h.1 in ((h.0, k.0), k.1)

pub each-both : {X : Type 0} (P : X → Type 0) (xs ys : List X) → Each P xs → Each P ys → Each P (xs ++ ys)
each-both P [] ys h k = k
each-both P (x ∷ xs) ys h k = (h.0, each-both P xs ys h.1 k)

pub each-more : {X : Type 0} (P Q : X → Type 0) (xs : List X) → ((x : X) → P x → Q x) → Each P xs → Each Q xs
each-more P Q [] more h = tt
each-more P Q (x ∷ xs) more h = (more x h.0, each-more P Q xs more h.1)

-- ---- tables grow

pub noted-grows : {A : Type 0} (s : State) (notes : List Note) (m : Outcome A) → Grows s m → Grows s (noted notes m)
noted-grows s notes (Ok d) h = h
noted-grows s notes (Err found) h = tt

pub later-grows : {A : Type 0} (s t : State) (m : Outcome A) → IsGrown s.table t.table → Grows t m → Grows s m
later-grows s t (Ok d) h k = grown_trans s.table t.table d.state.table h k
later-grows s t (Err found) h k = tt

pub onward-grows : {A B : Type 0} (s : State) (m : Outcome A) (next : A → State → Outcome B) → Grows s m → ((a : A) (t : State) → Grows t (next a t)) → Grows s (onward m next)
onward-grows s (Ok d) next h k = noted-grows s d.notes (next d.value d.state) (later-grows s d.state (next d.value d.state) h (k d.value d.state))
onward-grows s (Err found) next h k = tt

pub cond-grows : {A : Type 0} (s : State) (b : Bool) (x y : Outcome A) → Grows s x → Grows s y → Grows s (cond b x y)
cond-grows s true x y h k = h
cond-grows s false x y h k = k

pub left-grows : {A : Type 0} (s : State) (behind : Option ℕ) (m : Outcome A) → Grows s m → Grows s (left_to behind m)
left-grows s behind (Ok d) h = h
left-grows s behind (Err found) h = tt

-- ---- steps

module _ (c : Change) where
  -- a search for the next file of a name begins elsewhere, before a step and behind it
  pub alike-placed : {A : Type 0} (V : A → A → Type 0) (macros : Macros) (s : State) (behind : Option ℕ) (m new : Outcome A)
      → GoesAlike c V macros (record s { behind = behind }) m new → GoesAlike c V macros s m new
  alike-placed V macros s behind (Err found) new h = tt
  alike-placed V macros s behind (Ok d) new h = λ reach kept told.
      h reach (record { macros = kept.macros; bodies = kept.bodies; names = kept.names }) told

  pub alike-left : {A : Type 0} (V : A → A → Type 0) (macros : Macros) (s : State) (behind : Option ℕ) (m new : Outcome A)
      → GoesAlike c V macros s m new → GoesAlike c V macros s (left_to behind m) (left_to behind new)
  alike-left V macros s behind (Err found) new h = tt
  alike-left V macros s behind (Ok d) new h = λ reach kept told.
      let f = h reach kept told in
      record {
        value = f.value;
        macros = f.macros;
        is = ap (left_to behind) f.is;
        goes_with = f.goes_with;
        kept = record { macros = f.kept.macros; bodies = f.kept.bodies; names = f.kept.names };
      }

  -- what happened before
  pub alike-noted : {A : Type 0} (V : A → A → Type 0) (macros : Macros) (s : State) (notes : List Note) (m new : Outcome A)
      → GoesAlike c V macros s m new → GoesAlike c V macros s (noted notes m) (noted (map (renamed_happening c.renaming) notes) new)
  alike-noted V macros s notes (Err found) new h = tt
  alike-noted V macros s notes (Ok d) new h = λ reach kept told.
      let f = h reach kept (each-split (KeepsNote c) notes d.notes told).1 in
      record {
        value = f.value;
        macros = f.macros;
        is = ap (noted (map (renamed_happening c.renaming) notes)) f.is
            ∙ ap (λ (ns : List Note). Ok (did f.value ns (moved c f.macros d.state))) (sym (map-append (renamed_happening c.renaming) notes d.notes));
        goes_with = f.goes_with;
        kept = f.kept;
      }

  alike-behind : {A B : Type 0} (V : A → A → Type 0) (W : B → B → Type 0) (macros : Macros) (s : State) (d : Did A) (m : Outcome B) (new : Outcome A) (next : A → State → Outcome B)
      → Grows d.state m → GoesAlike c V macros s (Ok d) new
      → ((a : A) (macros2 : Macros) → V d.value a → GoesAlike c W macros2 d.state m (next a (moved c macros2 d.state)))
      → GoesAlike c W macros s (noted d.notes m) (onward new next)
  alike-behind V W macros s d (Err found) new next grows h k = tt
  alike-behind V W macros s d (Ok e) new next grows h k = λ reach kept told.
      let both = each-split (KeepsNote c) d.notes e.notes told in
      let f = h (grown_trans d.state.table e.state.table c.files grows reach) kept both.0 in
      let g = k f.value f.macros f.goes_with reach f.kept both.1 in
      record {
        value = g.value;
        macros = g.macros;
        is = ap (λ o. onward o next) f.is ∙ ap (noted (map (renamed_happening c.renaming) d.notes)) g.is
            ∙ ap (λ (ns : List Note). Ok (did g.value ns (moved c g.macros e.state))) (sym (map-append (renamed_happening c.renaming) d.notes e.notes));
        goes_with = g.goes_with;
        kept = g.kept;
      }

  -- a step, and the next one by what it gives
  pub alike-onward : {A B : Type 0} (V : A → A → Type 0) (W : B → B → Type 0) (macros : Macros) (s : State) (m new : Outcome A) (next next2 : A → State → Outcome B)
      → ((a : A) (t : State) → Grows t (next a t)) → GoesAlike c V macros s m new
      → ((a b : A) (t : State) (macros2 : Macros) → V a b → GoesAlike c W macros2 t (next a t) (next2 b (moved c macros2 t)))
      → GoesAlike c W macros s (onward m next) (onward new next2)
  alike-onward V W macros s (Err found) new next next2 grows h k = tt
  alike-onward V W macros s (Ok d) new next next2 grows h k =
      alike-behind V W macros s d (next d.value d.state) new next2 (grows d.value d.state) h (λ b macros2 v. k d.value b d.state macros2 v)

  -- a value, where nothing happens
  pub alike-only : {A : Type 0} (V : A → A → Type 0) (macros : Macros) (s : State) (a b : A) → V a b → GoesAlike c V macros s (only a s) (only b (moved c macros s))
  alike-only V macros s a b v = λ reach kept told. record { value = b; macros = macros; is = refl; goes_with = v; kept = kept }

  -- a test that goes as before
  pub alike-cond : {A : Type 0} (V : A → A → Type 0) (macros : Macros) (s : State) (b : Bool) (x y x2 y2 : Outcome A)
      → GoesAlike c V macros s x x2 → GoesAlike c V macros s y y2 → GoesAlike c V macros s (cond b x y) (cond b x2 y2)
  alike-cond V macros s true x y x2 y2 h k = h
  alike-cond V macros s false x y x2 y2 h k = k

  -- a test that is passed
  pub alike-test : {A : Type 0} (V : A → A → Type 0) (macros : Macros) (s : State) (b : Bool) (found found2 : Fault) (y y2 : Outcome A)
      → GoesAlike c V macros s y y2 → GoesAlike c V macros s (cond b (Err found) y) (cond b (Err found2) y2)
  alike-test V macros s true found found2 y y2 k = tt
  alike-test V macros s false found found2 y y2 k = k

  -- whatever more the values have in common
  pub alike-more : {A : Type 0} (V W : A → A → Type 0) (macros : Macros) (s : State) (m new : Outcome A) → ((a b : A) → V a b → W a b)
      → GoesAlike c V macros s m new → GoesAlike c W macros s m new
  alike-more V W macros s (Err found) new more h = tt
  alike-more V W macros s (Ok d) new more h = λ reach kept told.
      let f = h reach kept told in
      record { value = f.value; macros = f.macros; is = f.is; goes_with = more d.value f.value f.goes_with; kept = f.kept }

  -- a value with what happened, which leaves a state that is kept
  pub alike-did : {A : Type 0} (V : A → A → Type 0) (macros macros2 : Macros) (s t : State) (a b : A) (notes : List Note) → V a b
      → (KeepsState c macros s → Each (KeepsNote c) notes → KeepsState c macros2 t)
      → GoesAlike c V macros s (Ok (did a notes t)) (Ok (did b (map (renamed_happening c.renaming) notes) (moved c macros2 t)))
  alike-did V macros macros2 s t a b notes v keeps = λ reach kept told.
      record { value = b; macros = macros2; is = refl; goes_with = v; kept = keeps kept told }

  -- a step that is known to be alike where a table grows into that of the end
  pub alike-reach : {A : Type 0} (V : A → A → Type 0) (macros : Macros) (s : State) (t : Table) (m new : Outcome A) → Grows (record s { table = t }) m
      → (IsGrown t c.files → GoesAlike c V macros s m new) → GoesAlike c V macros s m new
  alike-reach V macros s t (Err found) new g h = tt
  alike-reach V macros s t (Ok d) new g h = λ reach kept told. h (grown_trans t d.state.table c.files g reach) reach kept told
