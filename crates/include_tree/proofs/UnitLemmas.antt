-- Units, one file after the other.
use Rattle.std.proofs.Common.{◌≡◌, ℕ, ◌+◌, ◌<◌, ◌^◌, ◌==◌, Bool, true, not, List, ◌++◌, length, Option, Some, None, Result, Ok, Err, refl, sym, ◌∙◌, ap, subst, append_assoc}
use Rattle.std.specs.Prelude.{IfSome, codes}
use Rattle.std.specs.Fmt.{decimal}
use Rattle.std.specs.Str.{is_utf8, chars}
use Rattle.std.proofs.lemmas.List.{append-nil}
use Rattle.std.proofs.lemmas.Fmt.{IsAscii-decimal}
use Rattle.std.proofs.lemmas.Str.{IsUtf8-append, IsUtf8-from_ascii, IsUtf8-from_is_utf8, is_utf8-from_IsUtf8}
use Rattle.std.proofs.lemmas.Bool.{and_parts, and_from}
use Rattle.cs_base.specs.Answer.{Gives}
use Rattle.cs_base.specs.Token.{Token}
use Rattle.cs_base.specs.declared.positions.Place.{Place}
use Rattle.source_files.specs.Below.lexer.FileText.{file_text}
use Rattle.cs_base.specs.Units.{UnitValue, is_gnu, defines_of, IsUnit, is_unit_path, is_writable, begins_with, less_sign}
use Rattle.source_files.specs.declared.pre_fault.PreFault.{PreFault}
use Rattle.source_files.specs.Limits.{the_limits}
use Rattle.source_files.specs.Files.{Source, Made, Table, Carried, carried, defines_path, made_path, numbered, asked}
use Rattle.source_files.specs.Faults.{Fault, first_place}
use Rattle.unit_steps.specs.Notes.{Note}
use Rattle.unit_steps.specs.State.{State, Did, Outcome, only, noted, onward}
use Rattle.source_files.specs.Opening.{Opening, opening}
use Rattle.include_tree.specs.OpeningStep.{with_opened}
use Rattle.source_files.specs.Search.{can_be_asked}
use Rattle.include_tree.specs.Including.{Process}
use Rattle.include_tree.specs.Walk.{file_items}
use Rattle.unit_steps.specs.Below.macro_body.Defining.{first_macros}
use Rattle.include_tree.specs.Unit.{pseudo_path, with_defines, first_state, outer_file, main_file}
use Rattle.unit_steps.specs.Texts.{UnitTextValue}
use Rattle.include_tree.specs.Preprocessed.{preprocessed_by, preprocessed, with_text}
use Rattle.unit_steps.specs.Keeping.{no_text, noted_in, put_in, kept_after, put_after}
use Rattle.source_files.specs.Answers.{fault_of}
use Rattle.source_files.specs.Sources.{source_at, GivesOpening}
use Rattle.include_tree.specs.GivenFiles.{unit_context}
use Rattle.unit_steps.proofs.KeepingLemmas.{noted_in-append, noted_in-nil}
use Rattle.unit_steps.proofs.GoingLemmas.{put-onward, put-onward_fault}

-- ---- tokens behind tokens

put_same : (a b : State × UnitTextValue) → ◌≡◌ {A = Result (State × UnitTextValue) Fault} (Ok a) (Ok b) → a ≡ b
put_same a b h = cc

both-next : (k : UnitTextValue) (d : Did (List Token)) (o : Outcome (List Token))
    → put_after k (noted d.notes (onward o (λ more v. only (d.value ++ more) v))) ≡ put_after (put_in (noted_in k d.notes) d.value) o
both-next k d (Ok e) =
    ap (λ (ns : List Note). Ok (e.state, put_in (noted_in k (d.notes ++ ns)) (d.value ++ e.value))) (append-nil e.notes)
    ∙ ap (λ (t : UnitTextValue). Ok (e.state, put_in t (d.value ++ e.value))) (noted_in-append k d.notes e.notes)
    ∙ ap (λ (ts : List Token). Ok (e.state, record (noted_in (noted_in k d.notes) e.notes) { toks = ts })) (sym (append_assoc k.toks d.value e.value))
both-next k d (Err f) = refl

-- a step that puts tokens out, and then another one
pub put-both : (k k2 : UnitTextValue) (m : Outcome (List Token)) (next : State → Outcome (List Token)) (t : State) → put_after k m ≡ Ok (t, k2)
    → put_after k (onward m (λ toks u. onward (next u) (λ more v. only (toks ++ more) v))) ≡ put_after k2 (next t)
put-both k k2 (Ok d) next t h =
    both-next k d (next d.state)
    ∙ ap (λ (r : State × UnitTextValue). put_after r.1 (next r.0)) (put_same (d.state, put_in (noted_in k d.notes) d.value) (t, k2) h)
put-both k k2 (Err f) next t h = absurd (cc)

put_fault : (f g : Fault) → ◌≡◌ {A = Result (State × UnitTextValue) Fault} (Err f) (Err g) → f ≡ g
put_fault f g h = cc

pub put-both_fault : (k : UnitTextValue) (m : Outcome (List Token)) (next : List Token → State → Outcome (List Token)) (f : Fault) → put_after k m ≡ Err f
    → put_after k (onward m next) ≡ Err f
put-both_fault k (Ok d) next f h = absurd (cc)
put-both_fault k (Err g) next f h = ap (λ (x : Fault). Err x) (put_fault g f h)

-- ---- a file that is opened, and its items

outer-gives : {X : Type 0} (view : X → State × UnitTextValue) (r : Result X PreFault) (k : UnitTextValue) (n : ℕ) (m : Opening) (u : Table) (s : State) (next : Process)
    → GivesOpening (Ok n) m u → IfSome (source_at u n) (λ file. Gives view fault_of r (put_after k (next file (record s { table = u }))))
    → Gives view fault_of r (put_after k (onward (with_opened s m) next))
outer-gives {X} view r k n m u s next opens walked =
    let here : Gives view fault_of r (put_after k (next opens.0 (record s { table = u }))) = rw opens.1 at walked in
    let opened : kept_after k (with_opened s m) ≡ Ok (opens.0, record s { table = u }, k) =
    ap (λ (o : Opening). kept_after k (with_opened s o)) opens.2 ∙ ap (λ (t : UnitTextValue). Ok (opens.0, record s { table = u }, t)) (noted_in-nil k) in
    subst (λ (o : Result (State × UnitTextValue) Fault). Gives view fault_of r o) (sym (put-onward k k (with_opened s m) next opens.0 (record s { table = u }) opened)) here

-- the same with what the program knows of the tokens before
pub outer-walked : {X : Type 0} (source : Source) (view : X → State × UnitTextValue) (r : Result X PreFault) (k : UnitTextValue) (n room : ℕ) (m : Opening) (u : Table)
    (s : State) (unit : UnitValue) (toks toks2 : ℕ) → toks2 ≡ toks → GivesOpening (Ok n) m u
    → IfSome (source_at u n) (λ file. Gives view fault_of r (put_after k (file_items (unit_context source unit toks2) room file (record s { table = u }))))
    → Gives view fault_of r (put_after k (onward (with_opened s m) (file_items (unit_context source unit toks) room)))
outer-walked {X} source view r k n room m u s unit toks toks2 toks_is opens walked =
    outer-gives view r k n m u s (file_items (unit_context source unit toks) room) opens
    (subst (λ (j : ℕ). IfSome (source_at u n) (λ file. Gives view fault_of r (put_after k (file_items (unit_context source unit j) room file (record s { table = u }))))) toks_is walked)

refused-fault : (k : UnitTextValue) (m : Opening) (s : State) (next : Process) (o : Option Fault) → IfSome o (λ f. ◌≡◌ {A = Opening} m (Err f))
    → IfSome o (λ f. put_after k (onward (with_opened s m) next) ≡ Err f)
refused-fault k m s next None h = tt
refused-fault k m s next (Some f) h = put-onward_fault k (with_opened s m) next f (ap (λ (o : Opening). kept_after k (with_opened s o)) h)

-- a file that is not opened
pub outer-refused : (k : UnitTextValue) (e : PreFault) (m : Opening) (u : Table) (s : State) (next : Process)
    → GivesOpening (Err e) m u → IfSome (fault_of e) (λ f. put_after k (onward (with_opened s m) next) ≡ Err f)
outer-refused k e m u s next h = refused-fault k m s next (fault_of e) h

-- ---- the pseudo file of a unit

abbrev pub defines_opening : ℕ → UnitValue → Table → Opening
defines_opening number unit t = opening the_limits file_text (first_place (pseudo_path number unit t)) (pseudo_path number unit t) (with_defines number unit t)

-- that of an earlier unit
pub shared-opening : (r : Result ℕ PreFault) (number : ℕ) (unit : UnitValue) (t u : Table) (text path : List ℕ) → text ≡ defines_of unit → made_path text t ≡ Some path
    → GivesOpening r (opening the_limits file_text (first_place path) path t) u → GivesOpening r (defines_opening number unit t) u
shared-opening r number unit t u text path is found h =
    let shared : made_path (defines_of unit) t ≡ Some path = subst (λ (x : List ℕ). made_path x t ≡ Some path) is found in
    rw shared h

-- one of its own
pub own-opening : (r : Result ℕ PreFault) (number : ℕ) (unit : UnitValue) (t u : Table) (text : List ℕ) → text ≡ defines_of unit → made_path text t ≡ None
    → GivesOpening r (opening the_limits file_text (first_place (defines_path number)) (defines_path number) (numbered (defines_path number) (Made text) t)) u
    → GivesOpening r (defines_opening number unit t) u
own-opening r number unit t u text is none h =
    let own : made_path (defines_of unit) t ≡ None = subst (λ (x : List ℕ). made_path x t ≡ None) is none in
    let made : GivesOpening r (opening the_limits file_text (first_place (defines_path number)) (defines_path number) (numbered (defines_path number) (Made (defines_of unit)) t)) u =
    subst (λ (x : List ℕ). GivesOpening r (opening the_limits file_text (first_place (defines_path number)) (defines_path number) (numbered (defines_path number) (Made x) t)) u) is h in
    rw own made

-- that of the unit's own file
abbrev pub main_opening : List ℕ → Table → Source → Opening
main_opening path t source = opening the_limits file_text (first_place path) path (asked source path t)

pub gives-main : (source : Source) (r : Result ℕ PreFault) (v t u : Table) (path : List ℕ) (place : Place) → place ≡ first_place path
    → u ≡ asked source path t → GivesOpening r (opening the_limits file_text place path u) v → GivesOpening r (main_opening path t source) v
gives-main source r v t u path place is asked_is h =
    subst (λ (x : Table). GivesOpening r (opening the_limits file_text (first_place path) path x) v) asked_is
    (subst (λ (x : Place). GivesOpening r (opening the_limits file_text x path u) v) is h)

-- ---- the unit

by-done : (earlier : ℕ) (o : Outcome (List Token)) (u : State) (k : UnitTextValue) → put_after no_text o ≡ Ok (u, k)
    → preprocessed_by earlier o ≡ Ok (with_text (carried u.table (earlier + length k.toks)) k)
by-done earlier (Ok d) u k h =
    ap (λ (r : State × UnitTextValue). Ok (with_text (carried r.0.table (earlier + length r.1.toks)) r.1)) (put_same (d.state, put_in (noted_in no_text d.notes) d.value) (u, k) h)
by-done earlier (Err f) u k h = absurd (cc)

by-refused : (earlier : ℕ) (o : Outcome (List Token)) (f : Fault) → put_after no_text o ≡ Err f → preprocessed_by earlier o ≡ Err f
by-refused earlier (Ok d) f h = absurd (cc)
by-refused earlier (Err g) f h = ap (λ (x : Fault). Err x) (put_fault g f h)

-- a unit begins with the macros of its standard
pub begun-as : (number : ℕ) (unit : UnitValue) (table : Table) (gnu : Bool) (s : State) → gnu ≡ is_gnu unit.standard
    → s ≡ record (first_state the_limits number unit table) { macros = first_macros gnu } → s ≡ first_state the_limits number unit table
begun-as number unit table gnu s same is = is ∙ ap (λ (b : Bool). record (first_state the_limits number unit table) { macros = first_macros b }) same

-- the steps of the two files, the first of which has this path and begins with this text
abbrev pub FirstGives : Source → List ℕ → UnitValue → ℕ → State → UnitTextValue → Result (State × UnitTextValue) Fault → Type 0
FirstGives source path unit earlier s k r = put_after k (outer_file (unit_context source unit earlier) path s) ≡ r

abbrev pub NextGives : Source → UnitValue → ℕ → State → UnitTextValue → Result (State × UnitTextValue) Fault → Type 0
NextGives source unit earlier t k r = put_after k (main_file (unit_context source unit earlier) unit.path t) ≡ r

module _ (number : ℕ) (unit : UnitValue) (before : Carried) (s : State) (k : UnitTextValue)
    (begun : s ≡ first_state the_limits number unit before.table) (nothing : k ≡ no_text) where
  first : (source : Source) (r : Result (State × UnitTextValue) Fault) → FirstGives source (pseudo_path number unit before.table) unit before.toks s k r
      → FirstGives source (pseudo_path number unit before.table) unit before.toks (first_state the_limits number unit before.table) no_text r
  first source r h =
      subst (λ (x : State). FirstGives source (pseudo_path number unit before.table) unit before.toks x no_text r) begun (subst (λ (x : UnitTextValue). FirstGives source (pseudo_path number unit before.table) unit before.toks s x r) nothing h)

  -- both files are walked
  pub unit-done : (source : Source) (t u : State) (k2 k3 : UnitTextValue) (after : Carried) → FirstGives source (pseudo_path number unit before.table) unit before.toks s k (Ok (t, k2))
      → NextGives source unit before.toks t k2 (Ok (u, k3)) → after ≡ carried u.table (before.toks + length k3.toks)
      → preprocessed source number unit before ≡ Ok (with_text after k3)
  unfolding preprocessed
  unit-done source t u k2 k3 after h j is =
      by-done before.toks _ u k3 (put-both no_text k2 _ (main_file (unit_context source unit before.toks) unit.path) t (first source (Ok (t, k2)) h) ∙ j)
      ∙ ap (λ (c : Carried). Ok (with_text c k3)) (sym is)

  -- there is a fault in the first
  pub unit-first_refused : (source : Source) (o : Option Fault) → IfSome o (λ f. FirstGives source (pseudo_path number unit before.table) unit before.toks s k (Err f))
      → IfSome o (λ f. preprocessed source number unit before ≡ Err f)
  unfolding preprocessed
  unit-first_refused source None h = tt
  unit-first_refused source (Some f) h = by-refused before.toks _ f (put-both_fault no_text _ _ f (first source (Err f) h))

  -- there is one in the file of the unit
  pub unit-next_refused : (source : Source) (o : Option Fault) (t : State) (k2 : UnitTextValue) → FirstGives source (pseudo_path number unit before.table) unit before.toks s k (Ok (t, k2))
      → IfSome o (λ f. NextGives source unit before.toks t k2 (Err f)) → IfSome o (λ f. preprocessed source number unit before ≡ Err f)
  unfolding preprocessed
  unit-next_refused source None t k2 h j = tt
  unit-next_refused source (Some f) t k2 h j =
      by-refused before.toks _ f (put-both no_text k2 _ (main_file (unit_context source unit before.toks) unit.path) t (first source (Ok (t, k2)) h) ∙ j)

-- ---- paths

front-text : is_utf8 (codes "<defines ") ≡ true
unfolding is_utf8 chars lib.Utf8.encode
front-text = refl

end-text : is_utf8 (codes ">") ≡ true
unfolding is_utf8 chars lib.Utf8.encode
end-text = refl

-- and is text
pub defines-text : (path : List ℕ) (number : ℕ) → path ≡ defines_path number → number < 2 ^ 64 → is_utf8 path ≡ true
defines-text path number is few =
    let front = IsUtf8-append (codes "<defines ") (decimal number) (IsUtf8-from_is_utf8 (codes "<defines ") front-text) (IsUtf8-from_ascii (decimal number) (IsAscii-decimal number few)) in
    subst (λ (p : List ℕ). is_utf8 p ≡ true) (sym is)
    (is_utf8-from_IsUtf8 (defines_path number) (IsUtf8-append (codes "<defines " ++ decimal number) (codes ">") front (IsUtf8-from_is_utf8 (codes ">") end-text)))

-- the path of a unit can be asked for
pub unit-asked : (path : List ℕ) (u : UnitValue) → path ≡ u.path → IsUnit u → can_be_asked path ≡ true
unfolding is_writable
unit-asked path u is sound =
    let placed : is_unit_path u.path ≡ true = sound.is_placed in
    let other : not (begins_with (λ c. c == less_sign) u.path) ≡ true = (and_parts _ _ placed).1 in
    let writable : is_writable u.path ≡ true = (and_parts _ _ ((and_parts _ _ ((and_parts _ _ placed).0)).0)).0 in
    let text : is_utf8 u.path ≡ true = (and_parts _ _ ((and_parts _ _ writable).0)).0 in
    subst (λ (p : List ℕ). can_be_asked p ≡ true) (sym is) (and_from (is_utf8 u.path) (not (begins_with (λ c. c == less_sign) u.path)) text other)
