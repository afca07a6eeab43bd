-- Items and sections, one step at a time.
use Rattle.std.proofs.Common.{◌≡◌, ℕ, Bool, true, false, List, [], ◌∷◌, map, drop, length, Option, Some, None, Result, Ok, Err, refl, sym, ◌∙◌, ap, subst}
use Rattle.std.specs.Prelude.{IfSome}
use Rattle.std.specs.Result.{IsErrAnd}
use Rattle.std.proofs.lemmas.List.{append-nil}
use Rattle.cs_base.specs.Token.{Token}
use Rattle.cs_base.specs.Answer.{Gives}
use Rattle.cs_base.specs.Units.{is_gnu}
use Rattle.cs_base.specs.declared.causes.Cause.{Cause}
use Rattle.cs_base.specs.declared.positions.Pos.{Pos}
use Rattle.source_files.specs.Below.line_shape.declared.items.ItemKind.{ItemKind}
use Rattle.source_files.specs.Below.line_shape.declared.items.ItemKind.TheVariants as item
use Rattle.source_files.specs.Below.line_shape.declared.items.GnuLine.{GnuLine}
use Rattle.source_files.specs.Below.line_shape.declared.items.GnuLine.TheVariants as gnu
use Rattle.source_files.specs.declared.pre_fault.PreFault.{PreFault}
use Rattle.unit_steps.specs.declared.progress.Progress.{Progress}
use Rattle.include_tree.specs.declared.asking.ConditionLine.{ConditionLine}
use Rattle.include_tree.specs.declared.item_steps.FileLine.{FileLine}
use Rattle.include_tree.specs.declared.item_steps.FileLine.TheVariants as line
use Rattle.source_files.specs.Files.{Table, SourceFile}
use Rattle.source_files.specs.Faults.{Fault}
use Rattle.unit_steps.specs.Notes.{Note, Reaches}
use Rattle.unit_steps.specs.State.{Context, State, Outcome, only, noted, onward}
use Rattle.include_tree.specs.Sections.{Group, Processed, Awaited, Over, Skipped, Section, section, is_awaited, are_processed, is_alive, group_if, Turn, Stays}
use Rattle.source_files.specs.Search.{Header}
use Rattle.unit_steps.specs.Questions.{Question, questions_from, question_of}
use Rattle.unit_steps.specs.Directives.{opens_with, goes_with, is_if, define_of, pragma_of}
use Rattle.include_tree.specs.Including.{Inner, included}
use Rattle.unit_steps.specs.IncludeNames.{header_named, next_named}
use Rattle.include_tree.specs.Asking.{gnu_answered, gnu_holds, asks_files, opens_in, goes_in}
use Rattle.include_tree.specs.Walk.{ItemText, processed_line, processed, Stepped, stepped, opens, goes_on, reaching_alive, turned, foreign_line}
use Rattle.unit_steps.specs.Texts.{UnitTextValue}
use Rattle.source_files.specs.Answers.{fault_of}
use Rattle.unit_steps.specs.Keeping.{noted_in, put_in, kept_after, put_after}
use Rattle.unit_steps.specs.Moments.{state_in}
use Rattle.include_tree.specs.Walking.{stepped_after, with_sections, asked_line, GivesLine, GivesItem}
use Rattle.unit_steps.proofs.KeepingLemmas.{noted_in-append, noted_in-nil, put-nil}
use Rattle.unit_steps.proofs.GoingLemmas.{put-onward, put-onward_fault, done_same, err_same}
use Rattle.unit_steps.proofs.VisitLemmas.{unsaid-known as put-only}

-- ---- faults

-- the fault that is told of one is that of the other
pub fault_on : {X Y : Type 0} (q : Option Fault) (x : Result X Fault) (y : Result Y Fault) → IfSome q (λ f. x ≡ Err f) → ((f : Fault) → x ≡ Err f → y ≡ Err f)
    → IfSome q (λ f. y ≡ Err f)
fault_on None x y h next = tt
fault_on (Some f) x y h next = next f h

-- ---- a step behind another

put_noted-nil : (k : UnitTextValue) → put_in (noted_in k []) [] ≡ k
put_noted-nil k = ap (λ (t : UnitTextValue). put_in t []) (noted_in-nil k) ∙ put-nil k

-- nothing is put out, and nothing happens
pub stepped-only : (k : UnitTextValue) (sections : List Section) (s : State) → stepped_after k (only (stepped [] sections) s) ≡ Ok (sections, s, k)
stepped-only k sections s = ap (λ (t : UnitTextValue). Ok (sections, s, t)) (put_noted-nil k)

pub stepped-noted : (k : UnitTextValue) (notes : List Note) (m : Outcome Stepped) → stepped_after k (noted notes m) ≡ stepped_after (noted_in k notes) m
stepped-noted k notes (Ok d) = ap (λ (t : UnitTextValue). Ok (d.value.sections, d.state, put_in t d.value.toks)) (noted_in-append k notes d.notes)
stepped-noted k notes (Err f) = refl

pub stepped-onward : {A : Type 0} (k k2 : UnitTextValue) (m : Outcome A) (next : A → State → Outcome Stepped) (a : A) (t : State)
    → kept_after k m ≡ Ok (a, t, k2) → stepped_after k (onward m next) ≡ stepped_after k2 (next a t)
stepped-onward {A} k k2 (Ok d) next a t h =
    stepped-noted k d.notes (next d.value d.state)
    ∙ ap (λ (r : A × State × UnitTextValue). stepped_after r.2 (next r.0 r.1)) (done_same (d.value, d.state, noted_in k d.notes) (a, t, k2) h)
stepped-onward k k2 (Err f) next a t h = absurd (cc)

pub stepped-onward_fault : {A : Type 0} (k : UnitTextValue) (m : Outcome A) (next : A → State → Outcome Stepped) (f : Fault)
    → kept_after k m ≡ Err f → stepped_after k (onward m next) ≡ Err f
stepped-onward_fault k (Ok d) next f h = absurd (cc)
stepped-onward_fault {A} k (Err g) next f h = ap (λ (x : Fault). Err x) (err_same {A = A × State × UnitTextValue} g f h)

-- a step that leaves the sections
toks-only : (k : UnitTextValue) (m : Outcome (List Token)) (sections : List Section)
    → stepped_after k (onward m (λ toks t. only (stepped toks sections) t)) ≡ with_sections sections (put_after k m)
toks-only k (Ok d) sections = ap (λ (notes : List Note). Ok (sections, d.state, put_in (noted_in k notes) d.value)) (append-nil d.notes)
toks-only k (Err f) sections = refl

-- ---- an item is reached

abbrev pub reached_text : UnitTextValue → SourceFile → ℕ → Bool → State → UnitTextValue
reached_text k file n evaluated s = noted_in k (Reaches file.number n evaluated s.before ∷ [])

pub skipped-only : (k : UnitTextValue) (file : SourceFile) (n : ℕ) (g : Group) (sections : List Section) (s : State) → is_alive g ≡ false
    → stepped_after k (reaching_alive file n g s (only (stepped [] sections) s)) ≡ Ok (sections, s, k)
skipped-only k file n g sections s skipped = rw skipped (stepped-only k sections s)

-- ---- a section is opened

pub opens-skipped : (ctx : Context) (k : UnitTextValue) (file : SourceFile) (n : ℕ) (i : ItemText) (sections : List Section) (s : State) → are_processed sections ≡ false
    → stepped_after k (opens ctx file n i sections s) ≡ Ok (section i.at Skipped false ∷ sections, s, k)
opens-skipped ctx k file n i sections s skipped = rw skipped (stepped-only k (section i.at Skipped false ∷ sections) s)

-- the section that a condition opens or goes on with
abbrev pub section_with : Pos → List Section → Bool → State → Outcome Stepped
section_with opening sections b u = only (stepped [] (section opening (group_if b) false ∷ sections)) u

-- a condition, as it is asked
abbrev pub asked_so : (State → Outcome Bool) → Pos → List Section → State → Outcome Stepped
asked_so ask opening sections s = onward (ask s) (section_with opening sections)

pub section-done : (k k2 : UnitTextValue) (m : Outcome Bool) (opening : Pos) (sections : List Section) (b : Bool) (t : State) → kept_after k m ≡ Ok (b, t, k2)
    → stepped_after k (onward m (section_with opening sections)) ≡ Ok (section opening (group_if b) false ∷ sections, t, k2)
section-done k k2 m opening sections b t h =
    stepped-onward k k2 m (section_with opening sections) b t h ∙ stepped-only k2 (section opening (group_if b) false ∷ sections) t

pub section-fault : (k : UnitTextValue) (m : Outcome Bool) (opening : Pos) (sections : List Section) (f : Fault) → kept_after k m ≡ Err f
    → stepped_after k (onward m (section_with opening sections)) ≡ Err f
section-fault k m opening sections f h = stepped-onward_fault k m (section_with opening sections) f h

-- the same of a condition that is left to the caller
pub line-given : (ctx : Context) (file : SourceFile) (l : ConditionLine) (at opening : Pos) (toks : List Token) (sections : List Section) (s : State) (k : UnitTextValue)
    → l.at ≡ at → l.opening ≡ opening → map question_of l.questions.items ≡ questions_from true 0 toks
    → stepped_after k (asked_so (gnu_holds ctx file at toks) opening sections s) ≡ stepped_after k (asked_line ctx file l sections s)
line-given ctx file l at opening toks sections s k place begins pieces =
    ap (λ (qs : List Question). stepped_after k (onward (gnu_answered ctx file at qs s) (section_with opening sections))) (sym pieces)
    ∙ ap (λ (a : Pos). stepped_after k (onward (gnu_answered ctx file a (map question_of l.questions.items) s) (section_with opening sections))) (sym place)
    ∙ ap (λ (o : Pos). stepped_after k (onward (gnu_answered ctx file l.at (map question_of l.questions.items) s) (section_with o sections))) (sym begins)

-- a line whose condition is asked when the item was reached
module _ (ctx : Context) (file : SourceFile) (n : ℕ) (i : ItemText) (sections : List Section) (table : Table) (p p1 : Progress) (e : Bool) (is : e ≡ is_if i.kind)
    (reaches : p1 ≡ record p { text = noted_in p.text (Reaches file.number n e (length p.text.toks) ∷ []) }) (inside : are_processed sections ≡ true) where
  -- it is the condition that decides, from what is known then
  opens-from : (ask : State → Outcome Bool) → ((s : State) → opens_in ctx i.kind file i.at i.toks s ≡ ask s)
      → stepped_after p.text (opens ctx file n i sections (state_in table p)) ≡ stepped_after p1.text (asked_so ask i.at sections (state_in table p1))
  opens-from ask same =
      let s : State = state_in table p in
      rw (inside, same s)
      (stepped-noted p.text (Reaches file.number n (is_if i.kind) s.before ∷ []) (asked_so ask i.at sections s)
      ∙ ap (λ (b : Bool). stepped_after (reached_text p.text file n b s) (asked_so ask i.at sections s)) (sym is)
      ∙ ap (λ (q : Progress). stepped_after q.text (asked_so ask i.at sections (state_in table q))) (sym reaches))

  -- in a unit of GNU C it is left to the caller
  pub opens-left : asks_files ctx.unit.standard i.kind ≡ true
      → stepped_after p.text (opens ctx file n i sections (state_in table p)) ≡ stepped_after p1.text (asked_so (gnu_holds ctx file i.at (drop 2 i.toks)) i.at sections (state_in table p1))
  opens-left asks = opens-from (gnu_holds ctx file i.at (drop 2 i.toks)) (λ s. rw asks refl)

  module _ (here : asks_files ctx.unit.standard i.kind ≡ false) where
    opens-here : stepped_after p.text (opens ctx file n i sections (state_in table p)) ≡ stepped_after p1.text (asked_so (opens_with i.kind file i.at i.toks) i.at sections (state_in table p1))
    opens-here = opens-from (opens_with i.kind file i.at i.toks) (λ s. rw here refl)

    pub opens-step : (b : Bool) (t : State) (k2 : UnitTextValue) → kept_after p1.text (opens_with i.kind file i.at i.toks (state_in table p1)) ≡ Ok (b, t, k2)
        → stepped_after p.text (opens ctx file n i sections (state_in table p)) ≡ Ok (section i.at (group_if b) false ∷ sections, t, k2)
    opens-step b t k2 h = opens-here ∙ section-done p1.text k2 (opens_with i.kind file i.at i.toks (state_in table p1)) i.at sections b t h

    pub opens-step_fault : (found : Option Fault) → IfSome found (λ f. kept_after p1.text (opens_with i.kind file i.at i.toks (state_in table p1)) ≡ Err f)
        → IfSome found (λ f. stepped_after p.text (opens ctx file n i sections (state_in table p)) ≡ Err f)
    opens-step_fault found h =
        fault_on found (kept_after p1.text (opens_with i.kind file i.at i.toks (state_in table p1))) (stepped_after p.text (opens ctx file n i sections (state_in table p))) h
        (λ f same. opens-here ∙ section-fault p1.text (opens_with i.kind file i.at i.toks (state_in table p1)) i.at sections f same)

-- ---- the next group

awaited-is : (g : Group) → is_awaited g ≡ true → g ≡ Awaited
awaited-is Awaited h = refl
awaited-is Processed h = absurd (cc)
awaited-is Over h = absurd (cc)
awaited-is Skipped h = absurd (cc)

-- the same by what is known when the item was reached
module _ (ctx : Context) (file : SourceFile) (n : ℕ) (i : ItemText) (open_ : Section) (around : List Section) (table : Table) (p p1 : Progress)
    (reaches : p1 ≡ record p { text = noted_in p.text (Reaches file.number n true (length p.text.toks) ∷ []) }) where
  asked-from : (ask : State → Outcome Bool) → ((s : State) → goes_in ctx i.kind file i.at i.toks s ≡ ask s) → (g : Group) → g ≡ Awaited
      → stepped_after p.text (goes_on ctx file n i open_ around (state_in table p) g) ≡ stepped_after p1.text (asked_so ask open_.opening around (state_in table p1))
  asked-from ask same g is =
      let s : State = state_in table p in
      rw (is, same s)
      (stepped-noted p.text (Reaches file.number n true s.before ∷ []) (asked_so ask open_.opening around s)
      ∙ ap (λ (q : Progress). stepped_after q.text (asked_so ask open_.opening around (state_in table q))) (sym reaches))

  -- in a unit of GNU C it is left to the caller
  pub asked-left : asks_files ctx.unit.standard i.kind ≡ true → is_awaited open_.group ≡ true
      → stepped_after p.text (goes_on ctx file n i open_ around (state_in table p) open_.group) ≡ stepped_after p1.text (asked_so (gnu_holds ctx file i.at (drop 2 i.toks)) open_.opening around (state_in table p1))
  asked-left asks waits = asked-from (gnu_holds ctx file i.at (drop 2 i.toks)) (λ s. rw asks refl) open_.group (awaited-is open_.group waits)

  module _ (here : asks_files ctx.unit.standard i.kind ≡ false) where
    asked-here : stepped_after p.text (goes_on ctx file n i open_ around (state_in table p) Awaited) ≡ stepped_after p1.text (asked_so (goes_with i.kind file i.at i.toks) open_.opening around (state_in table p1))
    asked-here = asked-from (goes_with i.kind file i.at i.toks) (λ s. rw here refl) Awaited refl

    pub asked-step : (b : Bool) (t : State) (k2 : UnitTextValue) → kept_after p1.text (goes_with i.kind file i.at i.toks (state_in table p1)) ≡ Ok (b, t, k2)
        → stepped_after p.text (goes_on ctx file n i open_ around (state_in table p) Awaited) ≡ Ok (section open_.opening (group_if b) false ∷ around, t, k2)
    asked-step b t k2 h = asked-here ∙ section-done p1.text k2 (goes_with i.kind file i.at i.toks (state_in table p1)) open_.opening around b t h

    pub asked-step_fault : (found : Option Fault) → IfSome found (λ f. kept_after p1.text (goes_with i.kind file i.at i.toks (state_in table p1)) ≡ Err f)
        → IfSome found (λ f. stepped_after p.text (goes_on ctx file n i open_ around (state_in table p) Awaited) ≡ Err f)
    asked-step_fault found h =
        fault_on found (kept_after p1.text (goes_with i.kind file i.at i.toks (state_in table p1))) (stepped_after p.text (goes_on ctx file n i open_ around (state_in table p) Awaited)) h
        (λ f same. asked-here ∙ section-fault p1.text (goes_with i.kind file i.at i.toks (state_in table p1)) open_.opening around f same)

pub skipped-on : (ctx : Context) (k : UnitTextValue) (file : SourceFile) (n : ℕ) (i : ItemText) (open_ : Section) (around : List Section) (s : State) (g : Group)
    → g ≡ Skipped → stepped_after k (goes_on ctx file n i open_ around s g) ≡ Ok (section open_.opening Skipped false ∷ around, s, k)
skipped-on ctx k file n i open_ around s g is = rw is (stepped-only k (section open_.opening Skipped false ∷ around) s)

-- ---- items that leave the sections

-- what such a line gives in these sections
abbrev pub turns : Context → Inner → SourceFile → ℕ → ItemText → State → UnitTextValue → Turn → List Section → Result (List Section × State × UnitTextValue) Fault
turns ctx inner file n i s k turn sections = stepped_after k (turned ctx inner file n i sections s turn)

module _ (ctx : Context) (inner : Inner) (file : SourceFile) (n : ℕ) (i : ItemText) (s : State) (k : UnitTextValue) where
  -- an item that leaves the sections, in a skipped group and in one that is processed
  pub stays-skipped : (sections : List Section) → are_processed sections ≡ false → turns ctx inner file n i s k Stays sections ≡ Ok (sections, s, k)
  stays-skipped sections skipped = rw skipped (stepped-only k sections s)

  stays-inside : (sections : List Section) → are_processed sections ≡ true
      → turns ctx inner file n i s k Stays sections ≡ with_sections sections (put_after (reached_text k file n false s) (processed ctx inner file i.kind i.at i.toks s))
  stays-inside sections inside =
      let next : List Token → State → Outcome Stepped = λ (toks : List Token) (t : State). only (stepped toks sections) t in
      rw inside (stepped-noted k (Reaches file.number n false s.before ∷ []) (onward (processed ctx inner file i.kind i.at i.toks s) next)
      ∙ toks-only (reached_text k file n false s) (processed ctx inner file i.kind i.at i.toks s) sections)

-- what a line gives that leaves the sections
line-item : (ctx : Context) (inner : Inner) (file : SourceFile) (r : Result (Option FileLine) PreFault) (sections : List Section) (t : State) (k2 : UnitTextValue)
    (x : Result (State × UnitTextValue) Fault) (y : Result (List Section × State × UnitTextValue) Fault) → y ≡ with_sections sections x
    → GivesLine ctx inner file r t k2 x → GivesItem ctx inner file r sections t k2 y
line-item ctx inner file (Ok None) sections t k2 x y is h = is ∙ ap (with_sections sections) h
line-item ctx inner file (Ok (Some (line.Include l))) sections t k2 x y is h = is ∙ ap (with_sections sections) h
line-item ctx inner file (Ok (Some (line.Condition l))) sections t k2 x y is h = absurd h
line-item ctx inner file (Err e) sections t k2 x y is h = fault_on (fault_of e) x y h (λ f same. is ∙ ap (with_sections sections) same)

pub stays-line : (ctx : Context) (inner : Inner) (file : SourceFile) (n : ℕ) (i : ItemText) (s : State) (k : UnitTextValue) (sections : List Section)
    (r : Result (Option FileLine) PreFault) (t : State) (k2 : UnitTextValue) → are_processed sections ≡ true
    → GivesLine ctx inner file r t k2 (put_after (reached_text k file n false s) (processed ctx inner file i.kind i.at i.toks s))
    → GivesItem ctx inner file r sections t k2 (turns ctx inner file n i s k Stays sections)
stays-line ctx inner file n i s k sections r t k2 inside h =
    line-item ctx inner file r sections t k2 _ _ (stays-inside ctx inner file n i s k sections inside) h

-- the same by what is known when the item was reached
pub stays-step : (ctx : Context) (inner : Inner) (file : SourceFile) (n : ℕ) (i : ItemText) (sections : List Section) (table : Table) (p p1 : Progress)
    (r : Result (Option FileLine) PreFault) (t : State) (k2 : UnitTextValue) → p1 ≡ record p { text = noted_in p.text (Reaches file.number n false (length p.text.toks) ∷ []) }
    → are_processed sections ≡ true → GivesLine ctx inner file r t k2 (put_after p1.text (processed ctx inner file i.kind i.at i.toks (state_in table p1)))
    → GivesItem ctx inner file r sections t k2 (turns ctx inner file n i (state_in table p) p.text Stays sections)
stays-step ctx inner file n i sections table p p1 r t k2 reaches inside h =
    stays-line ctx inner file n i (state_in table p) p.text sections r t k2 inside
    (subst (λ (q : Progress). GivesLine ctx inner file r t k2 (put_after q.text (processed ctx inner file i.kind i.at i.toks (state_in table q)))) reaches h)

-- ---- an item of a processed group

pub include-step : (ctx : Context) (inner : Inner) (file : SourceFile) (kind : ItemKind) (at : Pos) (toks behind : List Token) (s : State) (k k2 : UnitTextValue) (h : Header) (t : State)
    → kind ≡ item.Include → behind ≡ drop 2 toks → kept_after k (header_named file at behind s) ≡ Ok (h, t, k2)
    → put_after k (processed ctx inner file kind at toks s) ≡ put_after k2 (included ctx inner file at false h t)
include-step ctx inner file kind at toks behind s k k2 h t is same named =
    ap (λ (x : ItemKind). put_after k (processed ctx inner file x at toks s)) is
    ∙ put-onward k k2 (header_named file at (drop 2 toks) s) (included ctx inner file at false) h t
    (subst (λ (ts : List Token). kept_after k (header_named file at ts s) ≡ Ok (h, t, k2)) same named)

pub include-next-step : (ctx : Context) (inner : Inner) (line : GnuLine) (file : SourceFile) (at : Pos) (toks behind : List Token) (s : State) (k k2 : UnitTextValue) (h : Header) (t : State)
    → line ≡ gnu.IncludeNext → behind ≡ drop 2 toks → kept_after k (next_named file at behind s) ≡ Ok (h, t, k2)
    → put_after k (processed_line ctx inner line file at toks s) ≡ put_after k2 (included ctx inner file at true h t)
include-next-step ctx inner line file at toks behind s k k2 h t is same named =
    ap (λ (x : GnuLine). put_after k (processed_line ctx inner x file at toks s)) is
    ∙ put-onward k k2 (next_named file at (drop 2 toks) s) (included ctx inner file at true) h t
    (subst (λ (ts : List Token). kept_after k (next_named file at ts s) ≡ Ok (h, t, k2)) same named)

-- a fault that is handed on
pub line-stopped : (ctx : Context) (inner : Inner) (file : SourceFile) (e : PreFault) (r : Result (Option FileLine) PreFault) (t : State) (k2 : UnitTextValue) (expected : Result (State × UnitTextValue) Fault)
    → IsErrAnd r (λ x. x ≡ e) → IfSome (fault_of e) (λ f. expected ≡ Err f) → GivesLine ctx inner file r t k2 expected
line-stopped ctx inner file e (Ok l) t k2 expected same h = absurd same
line-stopped ctx inner file e (Err x) t k2 expected same h = subst (λ (y : PreFault). IfSome (fault_of y) (λ f. expected ≡ Err f)) (sym same) h

pub include-next-stopped : (ctx : Context) (inner : Inner) (line : GnuLine) (file : SourceFile) (at : Pos) (toks behind : List Token) (s : State) (k : UnitTextValue) (found : Option Fault)
    → line ≡ gnu.IncludeNext → behind ≡ drop 2 toks → IfSome found (λ f. kept_after k (next_named file at behind s) ≡ Err f)
    → IfSome found (λ f. put_after k (processed_line ctx inner line file at toks s) ≡ Err f)
include-next-stopped ctx inner line file at toks behind s k found is same h =
    fault_on found (kept_after k (next_named file at behind s)) (put_after k (processed_line ctx inner line file at toks s)) h
    (λ f stops. ap (λ (x : GnuLine). put_after k (processed_line ctx inner x file at toks s)) is
    ∙ put-onward_fault k (next_named file at (drop 2 toks) s) (included ctx inner file at true) f
    (subst (λ (ts : List Token). kept_after k (next_named file at ts s) ≡ Err f) same stops))

-- a `define` line
pub define-step : (ctx : Context) (inner : Inner) (file : SourceFile) (kind : ItemKind) (at : Pos) (toks : List Token) (s : State) (k : UnitTextValue) (r : Result (Unit {0}) PreFault) (t : State)
    (k2 : UnitTextValue) (gnu : Bool) → kind ≡ item.Define → gnu ≡ is_gnu ctx.unit.standard
    → Gives (λ _. (t, k2)) fault_of r (put_after k (define_of gnu file at toks s)) → Gives (λ _. (t, k2)) fault_of r (put_after k (processed ctx inner file kind at toks s))
define-step ctx inner file kind at toks s k r t k2 gnu is same h =
    subst (λ (i : ItemKind). Gives (λ _. (t, k2)) fault_of r (put_after k (processed ctx inner file i at toks s))) (sym is)
    (subst (λ (b : Bool). Gives (λ _. (t, k2)) fault_of r (put_after k (define_of b file at toks s))) same h)

-- a `pragma` line
pub pragma-step : (ctx : Context) (inner : Inner) (file : SourceFile) (kind : ItemKind) (at : Pos) (toks : List Token) (s : State) (k : UnitTextValue) (x : Result (State × UnitTextValue) Fault) (gnu : Bool)
    → kind ≡ item.Pragma → gnu ≡ is_gnu ctx.unit.standard → put_after k (pragma_of gnu file at toks s) ≡ x → put_after k (processed ctx inner file kind at toks s) ≡ x
pragma-step ctx inner file kind at toks s k x gnu is same h =
    ap (λ (i : ItemKind). put_after k (processed ctx inner file i at toks s)) is
    ∙ ap (λ (b : Bool). put_after k (pragma_of b file at toks s)) (sym same) ∙ h

-- a line that GNU C alone has, in a unit of another standard
pub foreign-step : (file : SourceFile) (i : ItemText) (sections : List Section) (s : State) (k : UnitTextValue) → are_processed sections ≡ false
    → stepped_after k (foreign_line file i sections s) ≡ Ok (sections, s, k)
foreign-step file i sections s k skipped = rw skipped (stepped-only k sections s)

-- a line that GNU C alone has and that asks for no file gives nothing
pub line-rest : (ctx : Context) (inner : Inner) (line : GnuLine) (file : SourceFile) (at : Pos) (toks : List Token) (s : State) (k : UnitTextValue)
    → (line ≡ gnu.IncludeNext → ⊥) → put_after k (processed_line ctx inner line file at toks s) ≡ Ok (s, k)
line-rest ctx inner gnu.IncludeNext file at toks s k other = absurd (other refl)
line-rest ctx inner gnu.Message file at toks s k other = put-only k s
line-rest ctx inner gnu.Elifdef file at toks s k other = put-only k s
line-rest ctx inner gnu.Elifndef file at toks s k other = put-only k s

-- an item of any other kind gives nothing
pub processed-rest : (ctx : Context) (inner : Inner) (file : SourceFile) (kind : ItemKind) (at : Pos) (toks : List Token) (s : State) (k : UnitTextValue) → (kind ≡ item.Run → ⊥)
    → (kind ≡ item.Define → ⊥) → (kind ≡ item.Undef → ⊥) → (kind ≡ item.Include → ⊥) → (kind ≡ item.Error → ⊥)
    → ((cause : Cause) (place : Pos) (nests : Bool) → kind ≡ item.Bad cause place nests → ⊥) → ((line : GnuLine) → kind ≡ item.Gnu line → ⊥) → (kind ≡ item.Pragma → ⊥) → put_after k (processed ctx inner file kind at toks s) ≡ Ok (s, k)
processed-rest ctx inner file item.Run at toks s k a b c d e f g p = absurd (a refl)
processed-rest ctx inner file item.Define at toks s k a b c d e f g p = absurd (b refl)
processed-rest ctx inner file item.Undef at toks s k a b c d e f g p = absurd (c refl)
processed-rest ctx inner file item.Include at toks s k a b c d e f g p = absurd (d refl)
processed-rest ctx inner file item.Error at toks s k a b c d e f g p = absurd (e refl)
processed-rest ctx inner file (item.Bad cause place nests) at toks s k a b c d e f g p = absurd (f cause place nests refl)
processed-rest ctx inner file (item.Gnu line) at toks s k a b c d e f g p = absurd (g line refl)
processed-rest ctx inner file item.If at toks s k a b c d e f g p = put-only k s
processed-rest ctx inner file item.Ifdef at toks s k a b c d e f g p = put-only k s
processed-rest ctx inner file item.Ifndef at toks s k a b c d e f g p = put-only k s
processed-rest ctx inner file item.Elif at toks s k a b c d e f g p = put-only k s
processed-rest ctx inner file item.Else at toks s k a b c d e f g p = put-only k s
processed-rest ctx inner file item.Endif at toks s k a b c d e f g p = put-only k s
processed-rest ctx inner file item.Line at toks s k a b c d e f g p = put-only k s
processed-rest ctx inner file item.Pragma at toks s k a b c d e f g p = absurd (p refl)
processed-rest ctx inner file item.Empty at toks s k a b c d e f g p = put-only k s
