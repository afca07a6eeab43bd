-- The items of files, in their sections, over the edited files (ISO/IEC 9899:1999, 6.10, 6.10.1).
use Rattle.std.proofs.Common.{◌≡◌, ℕ, zero, suc, ◌+◌, Bool, true, false, not, ◌&&◌, List, [], ◌∷◌, ◌++◌, map, drop, Some, None, Ok, Err, refl, ap, sym, subst, ◌∙◌}
use Rattle.std.proofs.lemmas.List.{map-append, drop-map}
use Rattle.cs_base.specs.declared.causes.Cause.TheVariants as cause
use Rattle.cs_base.specs.declared.positions.Pos.{Pos}
use Rattle.cs_base.specs.Token.{Token}
use Rattle.cs_base.specs.Units.{UnitValue, is_gnu}
use Rattle.cs_base.specs.declared.ws_units.Standard.{Standard}
use Rattle.lexer.specs.FileText.{TextValue}
use Rattle.line_shape.specs.declared.items.ItemKind.{ItemKind}
use Rattle.line_shape.specs.declared.items.ItemKind.TheVariants as kind
use Rattle.line_shape.specs.declared.items.GnuLine.TheVariants as gnu
use Rattle.macro_body.specs.Macro.{Table as Macros}
use Rattle.macro_expand.specs.Renaming.{renamed}
use Rattle.source_files.specs.Faults.{fault_at}
use Rattle.source_files.specs.Files.{Source, SourceFile}
use Rattle.include_tree.specs.Laws.{IfDone}
use Rattle.unit_steps.specs.Notes.{Reaches, ReadOnce}
use Rattle.unit_steps.specs.State.{Context, State, did, Outcome, only, onward}
use Rattle.include_tree.specs.GivenFiles.{unit_context}
use Rattle.include_tree.specs.Including.{Inner}
use Rattle.include_tree.specs.Sections.{Group, Processed, Awaited, Over, Skipped, Section, section, are_processed, group_if, group_after, group_of_else, Turn, Opens, GoesOn, GoesLast, Ends, Stays, turn_of}
use Rattle.unit_steps.specs.Conditions.{holds}
use Rattle.unit_steps.specs.Directives.{opens_with, goes_with, is_if, says_once, with_once, said_once, pragma_of}
use Rattle.include_tree.specs.Asking.{gnu_holds, asks_files, opens_in, goes_in}
use Rattle.include_tree.specs.Walk.{ItemText, item_texts, items_in, processed, Stepped, stepped, reaching, reaching_alive, go_on, opens, goes_on, in_section, turned, is_foreign, foreign_line, item_step, file_end, walk, file_items}
use Rattle.include_tree.proofs.StepLemmas.{PutsOut}
use Rattle.source_files.proofs.TableLemmas.{grown_refl}
use Rattle.include_tree.proofs.WalkLemmas.{InnerLeads, walk_leads, files_lead}
use Rattle.edited_unit_laws.specs.Lines.{Each, renamed_kind}
use Rattle.edited_unit_laws.specs.UnitLines.{renamed_item_text}
use Rattle.edited_unit_laws.proofs.UnitLineLemmas.{item_texts_are_renamed}
use Rattle.edited_unit_laws.specs.Keeping.{Change, KeepsNames, KeepsFile, KeepsFiles, Fits}
use Rattle.edited_unit_laws.specs.Renamed.{renamed_section, renamed_stepped}
use Rattle.edited_unit_laws.specs.Steps.{moved, GoesAlike, IsPutOutRenamed, IsSame, IsStepped, with_text, ProcessAlike, InnerAlike, Grows, InnerGrows}
use Rattle.edited_unit_laws.proofs.ConditionLemmas.{holds-alike}
use Rattle.edited_unit_laws.proofs.DirectiveLemmas.{define-alike, undef-alike, asks-alike, kept-tokens}
use Rattle.edited_unit_laws.proofs.FollowLemmas.{onward-grows, alike-noted, alike-onward, alike-only, alike-did, alike-cond, alike-test}
use Rattle.edited_unit_laws.proofs.AskingLemmas.{gnu-alike}
use Rattle.edited_unit_laws.proofs.IncludeLemmas.{include-alike, include-next-alike}
use Rattle.edited_unit_laws.proofs.LineLemmas.{LineGoes, ItemGoes, file-items-go, next-kept, pragma-kept}
use Rattle.edited_unit_laws.proofs.PartLemmas.{each-drop}
use Rattle.edited_unit_laws.proofs.TextLemmas.{run-alike}

-- ---- kinds and sections

turn-same : (c : Change) (k : ItemKind) → turn_of (renamed_kind c.renaming k) ≡ turn_of k
turn-same c kind.Run = refl
turn-same c kind.Define = refl
turn-same c kind.Undef = refl
turn-same c kind.If = refl
turn-same c kind.Ifdef = refl
turn-same c kind.Ifndef = refl
turn-same c kind.Elif = refl
turn-same c kind.Else = refl
turn-same c kind.Endif = refl
turn-same c kind.Include = refl
turn-same c kind.Line = refl
turn-same c kind.Error = refl
turn-same c kind.Pragma = refl
turn-same c kind.Empty = refl
turn-same c (kind.Bad cause at nests) = refl
turn-same c (kind.Gnu line) = refl

if-same : (c : Change) (k : ItemKind) → is_if (renamed_kind c.renaming k) ≡ is_if k
if-same c kind.Run = refl
if-same c kind.Define = refl
if-same c kind.Undef = refl
if-same c kind.If = refl
if-same c kind.Ifdef = refl
if-same c kind.Ifndef = refl
if-same c kind.Elif = refl
if-same c kind.Else = refl
if-same c kind.Endif = refl
if-same c kind.Include = refl
if-same c kind.Line = refl
if-same c kind.Error = refl
if-same c kind.Pragma = refl
if-same c kind.Empty = refl
if-same c (kind.Bad cause at nests) = refl
if-same c (kind.Gnu line) = refl

asks-same : (c : Change) (standard : Standard) (k : ItemKind) → asks_files standard (renamed_kind c.renaming k) ≡ asks_files standard k
asks-same c standard (kind.Bad cause at nests) = refl
asks-same c standard (kind.Gnu line) = refl
asks-same c standard kind.Run = refl
asks-same c standard kind.Define = refl
asks-same c standard kind.Undef = refl
asks-same c standard kind.If = refl
asks-same c standard kind.Ifdef = refl
asks-same c standard kind.Ifndef = refl
asks-same c standard kind.Elif = refl
asks-same c standard kind.Else = refl
asks-same c standard kind.Endif = refl
asks-same c standard kind.Include = refl
asks-same c standard kind.Line = refl
asks-same c standard kind.Error = refl
asks-same c standard kind.Pragma = refl
asks-same c standard kind.Empty = refl

foreign-same : (c : Change) (standard : Standard) (k : ItemKind) → is_foreign standard (renamed_kind c.renaming k) ≡ is_foreign standard k
foreign-same c standard (kind.Bad cause at nests) = refl
foreign-same c standard (kind.Gnu line) = refl
foreign-same c standard kind.Run = refl
foreign-same c standard kind.Define = refl
foreign-same c standard kind.Undef = refl
foreign-same c standard kind.If = refl
foreign-same c standard kind.Ifdef = refl
foreign-same c standard kind.Ifndef = refl
foreign-same c standard kind.Elif = refl
foreign-same c standard kind.Else = refl
foreign-same c standard kind.Endif = refl
foreign-same c standard kind.Include = refl
foreign-same c standard kind.Line = refl
foreign-same c standard kind.Error = refl
foreign-same c standard kind.Pragma = refl
foreign-same c standard kind.Empty = refl

processed-same : (c : Change) (sections : List Section) → are_processed (map (renamed_section c.renaming) sections) ≡ are_processed sections
processed-same c [] = refl
processed-same c (o ∷ sections) = refl

-- what leads on grows
leads-grow : (ctx : Context) (s : State) (m : Outcome (List Token)) → IfDone (PutsOut ctx s) m → Grows s m
leads-grow ctx s (Ok d) h = h.table.grown
leads-grow ctx s (Err found) h = tt

pub files-grow : (ctx : Context) (room : ℕ) (file : SourceFile) (s : State) → Grows s (file_items ctx room file s)
files-grow ctx room file s = leads-grow ctx s (file_items ctx room file s) (files_lead ctx room file s)

inner-grows : (ctx : Context) (inner : Inner) → InnerLeads ctx inner → InnerGrows inner
inner-grows ctx None h = tt
inner-grows ctx (Some process) h = λ file s. leads-grow ctx s (process file s) (h file s)

module _ (c : Change) (names : KeepsNames c) (source : Source) (files : KeepsFiles c source) (old : Source) (unit : UnitValue) (earlier : ℕ) where
  abbrev ctx : Context
  ctx = unit_context old unit earlier

  abbrev ctx2 : Context
  ctx2 = unit_context source unit earlier

  nothing-alike : (macros : Macros) (s : State) → GoesAlike c (IsPutOutRenamed c) macros s (only [] s) (only [] (moved c macros s))
  nothing-alike macros s = alike-only c (IsPutOutRenamed c) macros s [] [] refl

  pragma-alike : (gnu_ : Bool) (file : SourceFile) (text : TextValue) (at : Pos) (toks : List Token) (macros : Macros) (s : State) → says_once (map (renamed c.renaming) toks) ≡ says_once toks
      → GoesAlike c (IsPutOutRenamed c) macros s (pragma_of gnu_ file at toks s) (pragma_of gnu_ (with_text file text) (c.renaming.move at) (map (renamed c.renaming) toks) (moved c macros s))
  pragma-alike gnu_ file text at toks macros s same =
      rw same (alike-cond c (IsPutOutRenamed c) macros s (gnu_ && says_once toks) (said_once file at s) (only [] s) (said_once (with_text file text) (c.renaming.move at) (moved c macros s)) (only [] (moved c macros s))
      (alike-did c (IsPutOutRenamed c) macros macros s (with_once file.number s) [] [] (ReadOnce false at file.number s.before ∷ []) refl
      (λ kept told. record { macros = kept.macros; bodies = kept.bodies; names = kept.names }))
      (nothing-alike macros s))

  processed-alike : (inner inner2 : Inner) → InnerGrows inner → InnerAlike c inner inner2 → (file : SourceFile) (text : TextValue) (k : ItemKind) (at : Pos) (toks : List Token) (macros : Macros) (s : State)
      → LineGoes c k toks
      → GoesAlike c (IsPutOutRenamed c) macros s (processed ctx inner file k at toks s)
      (processed ctx2 inner2 (with_text file text) (renamed_kind c.renaming k) (c.renaming.move at) (map (renamed c.renaming) toks) (moved c macros s))
  processed-alike inner inner2 grows alike file text kind.Run at toks macros s h = run-alike c names ctx ctx2 file text toks macros s refl h.toks
  processed-alike inner inner2 grows alike file text kind.Define at toks macros s h =
      let line = h.line refl in
      define-alike c names (is_gnu unit.standard) file (with_text file text) at (c.renaming.move at) toks macros s h.toks line.0 line.1
  processed-alike inner inner2 grows alike file text kind.Undef at toks macros s h =
      undef-alike c names file (with_text file text) at (c.renaming.move at) toks macros s h.toks (h.line refl).0
  processed-alike inner inner2 grows alike file text kind.Include at toks macros s h =
      include-alike c names source files old unit earlier inner inner2 grows alike file text at toks macros s h.toks
  processed-alike inner inner2 grows alike file text kind.Error at toks macros s h = tt
  processed-alike inner inner2 grows alike file text (kind.Bad cause place nests) at toks macros s h = tt
  processed-alike inner inner2 grows alike file text (kind.Gnu gnu.IncludeNext) at toks macros s h =
      let line = h.line refl in
      include-next-alike c names source files old unit earlier inner inner2 grows alike file text at toks macros s h.toks (λ begins. next-kept c toks line.0 line.1 begins)
  processed-alike inner inner2 grows alike file text (kind.Gnu gnu.Message) at toks macros s h = nothing-alike macros s
  processed-alike inner inner2 grows alike file text (kind.Gnu gnu.Elifdef) at toks macros s h = nothing-alike macros s
  processed-alike inner inner2 grows alike file text (kind.Gnu gnu.Elifndef) at toks macros s h = nothing-alike macros s
  processed-alike inner inner2 grows alike file text kind.If at toks macros s h = nothing-alike macros s
  processed-alike inner inner2 grows alike file text kind.Ifdef at toks macros s h = nothing-alike macros s
  processed-alike inner inner2 grows alike file text kind.Ifndef at toks macros s h = nothing-alike macros s
  processed-alike inner inner2 grows alike file text kind.Elif at toks macros s h = nothing-alike macros s
  processed-alike inner inner2 grows alike file text kind.Else at toks macros s h = nothing-alike macros s
  processed-alike inner inner2 grows alike file text kind.Endif at toks macros s h = nothing-alike macros s
  processed-alike inner inner2 grows alike file text kind.Line at toks macros s h = nothing-alike macros s
  processed-alike inner inner2 grows alike file text kind.Pragma at toks macros s h =
      let line = h.line refl in
      pragma-alike (is_gnu unit.standard) file text at toks macros s (pragma-kept c toks line.0 line.1)
  processed-alike inner inner2 grows alike file text kind.Empty at toks macros s h = nothing-alike macros s

  -- ---- conditions that open sections

  holds-behind : (file : SourceFile) (text : TextValue) (at : Pos) (toks : List Token) (macros : Macros) (s : State) → Each (Fits c) toks
      → GoesAlike c (IsSame {A = Bool}) macros s (holds file at (drop 2 toks) s) (holds (with_text file text) (c.renaming.move at) (drop 2 (map (renamed c.renaming) toks)) (moved c macros s))
  holds-behind file text at toks macros s h =
      rw (drop-map (renamed c.renaming) 2 toks) (holds-alike c names file text at (c.renaming.move at) (drop 2 toks) macros s (each-drop (Fits c) 2 toks h))

  opens_with-alike : (file : SourceFile) (text : TextValue) (k : ItemKind) (at : Pos) (toks : List Token) (macros : Macros) (s : State) → LineGoes c k toks
      → GoesAlike c (IsSame {A = Bool}) macros s (opens_with k file at toks s)
      (opens_with (renamed_kind c.renaming k) (with_text file text) (c.renaming.move at) (map (renamed c.renaming) toks) (moved c macros s))
  opens_with-alike file text kind.If at toks macros s h = holds-behind file text at toks macros s h.toks
  opens_with-alike file text kind.Ifdef at toks macros s h =
      asks-alike c names kind.Ifdef file (with_text file text) at (c.renaming.move at) (λ b. b) toks macros s refl h.toks (h.line refl).0
  opens_with-alike file text kind.Ifndef at toks macros s h =
      asks-alike c names kind.Ifndef file (with_text file text) at (c.renaming.move at) not toks macros s refl h.toks (h.line refl).0
  opens_with-alike file text (kind.Bad cause place nests) at toks macros s h = tt
  opens_with-alike file text (kind.Gnu line) at toks macros s h = tt
  opens_with-alike file text kind.Run at toks macros s h = tt
  opens_with-alike file text kind.Define at toks macros s h = tt
  opens_with-alike file text kind.Undef at toks macros s h = tt
  opens_with-alike file text kind.Elif at toks macros s h = tt
  opens_with-alike file text kind.Else at toks macros s h = tt
  opens_with-alike file text kind.Endif at toks macros s h = tt
  opens_with-alike file text kind.Include at toks macros s h = tt
  opens_with-alike file text kind.Line at toks macros s h = tt
  opens_with-alike file text kind.Error at toks macros s h = tt
  opens_with-alike file text kind.Pragma at toks macros s h = tt
  opens_with-alike file text kind.Empty at toks macros s h = tt

  goes_with-alike : (file : SourceFile) (text : TextValue) (k : ItemKind) (at : Pos) (toks : List Token) (macros : Macros) (s : State) → LineGoes c k toks
      → GoesAlike c (IsSame {A = Bool}) macros s (goes_with k file at toks s)
      (goes_with (renamed_kind c.renaming k) (with_text file text) (c.renaming.move at) (map (renamed c.renaming) toks) (moved c macros s))
  goes_with-alike file text (kind.Gnu gnu.Elifdef) at toks macros s h =
      asks-alike c names (kind.Gnu gnu.Elifdef) file (with_text file text) at (c.renaming.move at) (λ b. b) toks macros s refl h.toks (h.line refl).0
  goes_with-alike file text (kind.Gnu gnu.Elifndef) at toks macros s h =
      asks-alike c names (kind.Gnu gnu.Elifndef) file (with_text file text) at (c.renaming.move at) not toks macros s refl h.toks (h.line refl).0
  goes_with-alike file text (kind.Gnu gnu.IncludeNext) at toks macros s h = tt
  goes_with-alike file text (kind.Gnu gnu.Message) at toks macros s h = tt
  goes_with-alike file text (kind.Bad cause place nests) at toks macros s h = holds-behind file text at toks macros s h.toks
  goes_with-alike file text kind.Run at toks macros s h = holds-behind file text at toks macros s h.toks
  goes_with-alike file text kind.Define at toks macros s h = holds-behind file text at toks macros s h.toks
  goes_with-alike file text kind.Undef at toks macros s h = holds-behind file text at toks macros s h.toks
  goes_with-alike file text kind.If at toks macros s h = holds-behind file text at toks macros s h.toks
  goes_with-alike file text kind.Ifdef at toks macros s h = holds-behind file text at toks macros s h.toks
  goes_with-alike file text kind.Ifndef at toks macros s h = holds-behind file text at toks macros s h.toks
  goes_with-alike file text kind.Elif at toks macros s h = holds-behind file text at toks macros s h.toks
  goes_with-alike file text kind.Else at toks macros s h = holds-behind file text at toks macros s h.toks
  goes_with-alike file text kind.Endif at toks macros s h = holds-behind file text at toks macros s h.toks
  goes_with-alike file text kind.Include at toks macros s h = holds-behind file text at toks macros s h.toks
  goes_with-alike file text kind.Line at toks macros s h = holds-behind file text at toks macros s h.toks
  goes_with-alike file text kind.Error at toks macros s h = holds-behind file text at toks macros s h.toks
  goes_with-alike file text kind.Pragma at toks macros s h = holds-behind file text at toks macros s h.toks
  goes_with-alike file text kind.Empty at toks macros s h = holds-behind file text at toks macros s h.toks

  -- a condition that is evaluated, in a unit of GNU C
  gnu-behind : (file : SourceFile) (text : TextValue) (at : Pos) (toks : List Token) (macros : Macros) (s : State) → Each (Fits c) toks
      → GoesAlike c (IsSame {A = Bool}) macros s (gnu_holds ctx file at (drop 2 toks) s) (gnu_holds ctx2 (with_text file text) (c.renaming.move at) (drop 2 (map (renamed c.renaming) toks)) (moved c macros s))
  gnu-behind file text at toks macros s h =
      rw (drop-map (renamed c.renaming) 2 toks) (gnu-alike c names source files old unit earlier file text at (c.renaming.move at) (drop 2 toks) macros s (each-drop (Fits c) 2 toks h))

  opens_in-alike : (file : SourceFile) (text : TextValue) (k : ItemKind) (at : Pos) (toks : List Token) (macros : Macros) (s : State) → LineGoes c k toks
      → GoesAlike c (IsSame {A = Bool}) macros s (opens_in ctx k file at toks s)
      (opens_in ctx2 (renamed_kind c.renaming k) (with_text file text) (c.renaming.move at) (map (renamed c.renaming) toks) (moved c macros s))
  opens_in-alike file text k at toks macros s h =
      rw (asks-same c unit.standard k)
      (alike-cond c (IsSame {A = Bool}) macros s (asks_files unit.standard k) (gnu_holds ctx file at (drop 2 toks) s) (opens_with k file at toks s)
      (gnu_holds ctx2 (with_text file text) (c.renaming.move at) (drop 2 (map (renamed c.renaming) toks)) (moved c macros s))
      (opens_with (renamed_kind c.renaming k) (with_text file text) (c.renaming.move at) (map (renamed c.renaming) toks) (moved c macros s))
      (gnu-behind file text at toks macros s h.toks) (opens_with-alike file text k at toks macros s h))

  goes_in-alike : (file : SourceFile) (text : TextValue) (k : ItemKind) (at : Pos) (toks : List Token) (macros : Macros) (s : State) → LineGoes c k toks
      → GoesAlike c (IsSame {A = Bool}) macros s (goes_in ctx k file at toks s)
      (goes_in ctx2 (renamed_kind c.renaming k) (with_text file text) (c.renaming.move at) (map (renamed c.renaming) toks) (moved c macros s))
  goes_in-alike file text k at toks macros s h =
      rw (asks-same c unit.standard k)
      (alike-cond c (IsSame {A = Bool}) macros s (asks_files unit.standard k) (gnu_holds ctx file at (drop 2 toks) s) (goes_with k file at toks s)
      (gnu_holds ctx2 (with_text file text) (c.renaming.move at) (drop 2 (map (renamed c.renaming) toks)) (moved c macros s))
      (goes_with (renamed_kind c.renaming k) (with_text file text) (c.renaming.move at) (map (renamed c.renaming) toks) (moved c macros s))
      (gnu-behind file text at toks macros s h.toks) (goes_with-alike file text k at toks macros s h))

  -- ---- sections

  only-stepped : (macros : Macros) (s : State) (d : Stepped) → GoesAlike c (IsStepped c) macros s (only d s) (only (renamed_stepped c.renaming d) (moved c macros s))
  only-stepped macros s d = alike-only c (IsStepped c) macros s d (renamed_stepped c.renaming d) refl

  reaching-alike : (file : SourceFile) (text : TextValue) (k : ℕ) (evaluated : Bool) (macros : Macros) (s : State) (m new : Outcome Stepped) → GoesAlike c (IsStepped c) macros s m new
      → GoesAlike c (IsStepped c) macros s (reaching file k evaluated s m) (reaching (with_text file text) k evaluated (moved c macros s) new)
  reaching-alike file text k evaluated macros s m new h = alike-noted c (IsStepped c) macros s (Reaches file.number k evaluated s.before ∷ []) m new h

  -- what follows a truth value
  then-stepped : (macros : Macros) (s : State) (m new : Outcome Bool) (next next2 : Bool → Stepped) → ((b : Bool) → next2 b ≡ renamed_stepped c.renaming (next b))
      → GoesAlike c (IsSame {A = Bool}) macros s m new → GoesAlike c (IsStepped c) macros s (onward m (λ b t. only (next b) t)) (onward new (λ b t. only (next2 b) t))
  then-stepped macros s m new next next2 same h =
      alike-onward c (IsSame {A = Bool}) (IsStepped c) macros s m new (λ b t. only (next b) t) (λ b t. only (next2 b) t) (λ b t. grown_refl t.table) h
      (λ b b2 t macros2 v. alike-only c (IsStepped c) macros2 t (next b) (next2 b2) (ap next2 v ∙ same b))

  opens-alike : (file : SourceFile) (text : TextValue) (k : ℕ) (i : ItemText) (sections : List Section) (macros : Macros) (s : State) → ItemGoes c i
      → GoesAlike c (IsStepped c) macros s (opens ctx file k i sections s)
      (opens ctx2 (with_text file text) k (renamed_item_text c.renaming i) (map (renamed_section c.renaming) sections) (moved c macros s))
  opens-alike file text k i sections macros s h =
      rw (processed-same c sections, if-same c i.kind)
      (alike-cond c (IsStepped c) macros s (are_processed sections)
      (reaching file k (is_if i.kind) s (onward (opens_in ctx i.kind file i.at i.toks s) (λ b t. only (stepped [] (section i.at (group_if b) false ∷ sections)) t)))
      (only (stepped [] (section i.at Skipped false ∷ sections)) s)
      (reaching (with_text file text) k (is_if i.kind) (moved c macros s) (onward (opens_in ctx2 (renamed_kind c.renaming i.kind) (with_text file text) (c.renaming.move i.at) (map (renamed c.renaming) i.toks) (moved c macros s))
      (λ b t. only (stepped [] (section (c.renaming.move i.at) (group_if b) false ∷ map (renamed_section c.renaming) sections)) t)))
      (only (stepped [] (section (c.renaming.move i.at) Skipped false ∷ map (renamed_section c.renaming) sections)) (moved c macros s))
      (reaching-alike file text k (is_if i.kind) macros s (onward (opens_in ctx i.kind file i.at i.toks s) (λ b t. only (stepped [] (section i.at (group_if b) false ∷ sections)) t))
      (onward (opens_in ctx2 (renamed_kind c.renaming i.kind) (with_text file text) (c.renaming.move i.at) (map (renamed c.renaming) i.toks) (moved c macros s))
      (λ b t. only (stepped [] (section (c.renaming.move i.at) (group_if b) false ∷ map (renamed_section c.renaming) sections)) t))
      (then-stepped macros s (opens_in ctx i.kind file i.at i.toks s) (opens_in ctx2 (renamed_kind c.renaming i.kind) (with_text file text) (c.renaming.move i.at) (map (renamed c.renaming) i.toks) (moved c macros s))
      (λ b. stepped [] (section i.at (group_if b) false ∷ sections)) (λ b. stepped [] (section (c.renaming.move i.at) (group_if b) false ∷ map (renamed_section c.renaming) sections)) (λ b. refl)
      (opens_in-alike file text i.kind i.at i.toks macros s h)))
      (only-stepped macros s (stepped [] (section i.at Skipped false ∷ sections))))

  goes_on-alike : (file : SourceFile) (text : TextValue) (k : ℕ) (i : ItemText) (open_ : Section) (sections : List Section) (macros : Macros) (s : State) (g : Group) → ItemGoes c i
      → GoesAlike c (IsStepped c) macros s (goes_on ctx file k i open_ sections s g)
      (goes_on ctx2 (with_text file text) k (renamed_item_text c.renaming i) (renamed_section c.renaming open_) (map (renamed_section c.renaming) sections) (moved c macros s) g)
  goes_on-alike file text k i open_ sections macros s Awaited h =
      reaching-alike file text k true macros s (onward (goes_in ctx i.kind file i.at i.toks s) (λ b t. only (go_on open_ (group_if b) false sections) t))
      (onward (goes_in ctx2 (renamed_kind c.renaming i.kind) (with_text file text) (c.renaming.move i.at) (map (renamed c.renaming) i.toks) (moved c macros s)) (λ b t. only (go_on (renamed_section c.renaming open_) (group_if b) false (map (renamed_section c.renaming) sections)) t))
      (then-stepped macros s (goes_in ctx i.kind file i.at i.toks s) (goes_in ctx2 (renamed_kind c.renaming i.kind) (with_text file text) (c.renaming.move i.at) (map (renamed c.renaming) i.toks) (moved c macros s))
      (λ b. go_on open_ (group_if b) false sections) (λ b. go_on (renamed_section c.renaming open_) (group_if b) false (map (renamed_section c.renaming) sections)) (λ b. refl)
      (goes_in-alike file text i.kind i.at i.toks macros s h))
  goes_on-alike file text k i open_ sections macros s Skipped h = only-stepped macros s (go_on open_ Skipped false sections)
  goes_on-alike file text k i open_ sections macros s Processed h =
      reaching-alike file text k false macros s (only (go_on open_ (group_after Processed) false sections) s) (only (renamed_stepped c.renaming (go_on open_ (group_after Processed) false sections)) (moved c macros s))
      (only-stepped macros s (go_on open_ (group_after Processed) false sections))
  goes_on-alike file text k i open_ sections macros s Over h =
      reaching-alike file text k false macros s (only (go_on open_ (group_after Over) false sections) s) (only (renamed_stepped c.renaming (go_on open_ (group_after Over) false sections)) (moved c macros s))
      (only-stepped macros s (go_on open_ (group_after Over) false sections))

  alive-alike : (file : SourceFile) (text : TextValue) (k : ℕ) (g : Group) (macros : Macros) (s : State) (d : Stepped)
      → GoesAlike c (IsStepped c) macros s (reaching_alive file k g s (only d s)) (reaching_alive (with_text file text) k g (moved c macros s) (only (renamed_stepped c.renaming d) (moved c macros s)))
  alive-alike file text k Processed macros s d = reaching-alike file text k false macros s (only d s) (only (renamed_stepped c.renaming d) (moved c macros s)) (only-stepped macros s d)
  alive-alike file text k Awaited macros s d = reaching-alike file text k false macros s (only d s) (only (renamed_stepped c.renaming d) (moved c macros s)) (only-stepped macros s d)
  alive-alike file text k Over macros s d = reaching-alike file text k false macros s (only d s) (only (renamed_stepped c.renaming d) (moved c macros s)) (only-stepped macros s d)
  alive-alike file text k Skipped macros s d = only-stepped macros s d

  in_section-alike : (file : SourceFile) (text : TextValue) (i : ItemText) (turn : Turn) (sections : List Section) (macros : Macros) (s : State) (next next2 : Section → List Section → Outcome Stepped)
      → ((o : Section) (around : List Section) → GoesAlike c (IsStepped c) macros s (next o around) (next2 (renamed_section c.renaming o) (map (renamed_section c.renaming) around)))
      → GoesAlike c (IsStepped c) macros s (in_section file i turn sections next) (in_section (with_text file text) (renamed_item_text c.renaming i) turn (map (renamed_section c.renaming) sections) next2)
  in_section-alike file text i turn [] macros s next next2 h = tt
  in_section-alike file text i Ends (o ∷ around) macros s next next2 h = h o around
  in_section-alike file text i Opens (o ∷ around) macros s next next2 h =
      alike-test c (IsStepped c) macros s o.after_else (fault_at file i.at cause.UnbalancedIf) (fault_at (with_text file text) (c.renaming.move i.at) cause.UnbalancedIf) (next o around)
      (next2 (renamed_section c.renaming o) (map (renamed_section c.renaming) around)) (h o around)
  in_section-alike file text i GoesOn (o ∷ around) macros s next next2 h =
      alike-test c (IsStepped c) macros s o.after_else (fault_at file i.at cause.UnbalancedIf) (fault_at (with_text file text) (c.renaming.move i.at) cause.UnbalancedIf) (next o around)
      (next2 (renamed_section c.renaming o) (map (renamed_section c.renaming) around)) (h o around)
  in_section-alike file text i GoesLast (o ∷ around) macros s next next2 h =
      alike-test c (IsStepped c) macros s o.after_else (fault_at file i.at cause.UnbalancedIf) (fault_at (with_text file text) (c.renaming.move i.at) cause.UnbalancedIf) (next o around)
      (next2 (renamed_section c.renaming o) (map (renamed_section c.renaming) around)) (h o around)
  in_section-alike file text i Stays (o ∷ around) macros s next next2 h =
      alike-test c (IsStepped c) macros s o.after_else (fault_at file i.at cause.UnbalancedIf) (fault_at (with_text file text) (c.renaming.move i.at) cause.UnbalancedIf) (next o around)
      (next2 (renamed_section c.renaming o) (map (renamed_section c.renaming) around)) (h o around)

  put-stepped : (sections : List Section) (macros : Macros) (s : State) (m new : Outcome (List Token)) → GoesAlike c (IsPutOutRenamed c) macros s m new
      → GoesAlike c (IsStepped c) macros s (onward m (λ toks t. only (stepped toks sections) t)) (onward new (λ toks t. only (stepped toks (map (renamed_section c.renaming) sections)) t))
  put-stepped sections macros s m new h =
      alike-onward c (IsPutOutRenamed c) (IsStepped c) macros s m new (λ toks t. only (stepped toks sections) t) (λ toks t. only (stepped toks (map (renamed_section c.renaming) sections)) t)
      (λ toks t. grown_refl t.table) h
      (λ toks toks2 t macros2 v. alike-only c (IsStepped c) macros2 t (stepped toks sections) (stepped toks2 (map (renamed_section c.renaming) sections)) (ap (λ (ts : List Token). stepped ts (map (renamed_section c.renaming) sections)) v))

  turned-alike : (inner inner2 : Inner) → InnerGrows inner → InnerAlike c inner inner2 → (file : SourceFile) (text : TextValue) (k : ℕ) (i : ItemText) (sections : List Section) (macros : Macros) (s : State) (turn : Turn)
      → ItemGoes c i
      → GoesAlike c (IsStepped c) macros s (turned ctx inner file k i sections s turn)
      (turned ctx2 inner2 (with_text file text) k (renamed_item_text c.renaming i) (map (renamed_section c.renaming) sections) (moved c macros s) turn)
  turned-alike inner inner2 grows alike file text k i sections macros s Opens h = opens-alike file text k i sections macros s h
  turned-alike inner inner2 grows alike file text k i sections macros s GoesOn h =
      in_section-alike file text i GoesOn sections macros s (λ open_ around. goes_on ctx file k i open_ around s open_.group)
      (λ open_ around. goes_on ctx2 (with_text file text) k (renamed_item_text c.renaming i) open_ around (moved c macros s) open_.group)
      (λ o around. goes_on-alike file text k i o around macros s o.group h)
  turned-alike inner inner2 grows alike file text k i sections macros s GoesLast h =
      in_section-alike file text i GoesLast sections macros s (λ open_ around. reaching_alive file k open_.group s (only (go_on open_ (group_of_else open_.group) true around) s))
      (λ open_ around. reaching_alive (with_text file text) k open_.group (moved c macros s) (only (go_on open_ (group_of_else open_.group) true around) (moved c macros s)))
      (λ o around. alive-alike file text k o.group macros s (go_on o (group_of_else o.group) true around))
  turned-alike inner inner2 grows alike file text k i sections macros s Ends h =
      in_section-alike file text i Ends sections macros s (λ open_ around. reaching_alive file k open_.group s (only (stepped [] around) s))
      (λ open_ around. reaching_alive (with_text file text) k open_.group (moved c macros s) (only (stepped [] around) (moved c macros s)))
      (λ o around. alive-alike file text k o.group macros s (stepped [] around))
  turned-alike inner inner2 grows alike file text k i sections macros s Stays h =
      rw (processed-same c sections)
      (alike-cond c (IsStepped c) macros s (are_processed sections)
      (reaching file k false s (onward (processed ctx inner file i.kind i.at i.toks s) (λ toks t. only (stepped toks sections) t)))
      (only (stepped [] sections) s)
      (reaching (with_text file text) k false (moved c macros s) (onward (processed ctx2 inner2 (with_text file text) (renamed_kind c.renaming i.kind) (c.renaming.move i.at) (map (renamed c.renaming) i.toks) (moved c macros s))
      (λ toks t. only (stepped toks (map (renamed_section c.renaming) sections)) t)))
      (only (stepped [] (map (renamed_section c.renaming) sections)) (moved c macros s))
      (reaching-alike file text k false macros s (onward (processed ctx inner file i.kind i.at i.toks s) (λ toks t. only (stepped toks sections) t))
      (onward (processed ctx2 inner2 (with_text file text) (renamed_kind c.renaming i.kind) (c.renaming.move i.at) (map (renamed c.renaming) i.toks) (moved c macros s)) (λ toks t. only (stepped toks (map (renamed_section c.renaming) sections)) t))
      (put-stepped sections macros s (processed ctx inner file i.kind i.at i.toks s) (processed ctx2 inner2 (with_text file text) (renamed_kind c.renaming i.kind) (c.renaming.move i.at) (map (renamed c.renaming) i.toks) (moved c macros s))
      (processed-alike inner inner2 grows alike file text i.kind i.at i.toks macros s h)))
      (only-stepped macros s (stepped [] sections)))

  -- a line that GNU C alone has, in a unit of another standard
  foreign-alike : (file : SourceFile) (text : TextValue) (i : ItemText) (sections : List Section) (macros : Macros) (s : State)
      → GoesAlike c (IsStepped c) macros s (foreign_line file i sections s)
      (foreign_line (with_text file text) (renamed_item_text c.renaming i) (map (renamed_section c.renaming) sections) (moved c macros s))
  foreign-alike file text i sections macros s =
      rw (processed-same c sections)
      (alike-cond c (IsStepped c) macros s (are_processed sections) (Err (fault_at file i.at cause.BadDirective)) (only (stepped [] sections) s)
      (Err (fault_at (with_text file text) (c.renaming.move i.at) cause.BadDirective)) (only (stepped [] (map (renamed_section c.renaming) sections)) (moved c macros s))
      tt (only-stepped macros s (stepped [] sections)))

  step-alike : (inner inner2 : Inner) → InnerGrows inner → InnerAlike c inner inner2 → (file : SourceFile) (text : TextValue) (k : ℕ) (i : ItemText) (sections : List Section) (macros : Macros) (s : State)
      → ItemGoes c i
      → GoesAlike c (IsStepped c) macros s (item_step ctx inner file k i sections s)
      (item_step ctx2 inner2 (with_text file text) k (renamed_item_text c.renaming i) (map (renamed_section c.renaming) sections) (moved c macros s))
  step-alike inner inner2 grows alike file text k i sections macros s h =
      rw (foreign-same c unit.standard i.kind, turn-same c i.kind)
      (alike-cond c (IsStepped c) macros s (is_foreign unit.standard i.kind) (foreign_line file i sections s) (turned ctx inner file k i sections s (turn_of i.kind))
      (foreign_line (with_text file text) (renamed_item_text c.renaming i) (map (renamed_section c.renaming) sections) (moved c macros s))
      (turned ctx2 inner2 (with_text file text) k (renamed_item_text c.renaming i) (map (renamed_section c.renaming) sections) (moved c macros s) (turn_of i.kind))
      (foreign-alike file text i sections macros s) (turned-alike inner inner2 grows alike file text k i sections macros s (turn_of i.kind) h))

  -- ---- files

  end-alike : (file : SourceFile) (text : TextValue) (sections : List Section) (macros : Macros) (s : State)
      → GoesAlike c (IsPutOutRenamed c) macros s (file_end file sections s) (file_end (with_text file text) (map (renamed_section c.renaming) sections) (moved c macros s))
  end-alike file text [] macros s = nothing-alike macros s
  end-alike file text (o ∷ sections) macros s = tt

  -- tokens behind tokens
  pub both-alike : (toks toks2 : List Token) (macros : Macros) (s : State) (m new : Outcome (List Token)) → toks2 ≡ map (renamed c.renaming) toks → GoesAlike c (IsPutOutRenamed c) macros s m new
      → GoesAlike c (IsPutOutRenamed c) macros s (onward m (λ more u. only (toks ++ more) u)) (onward new (λ more u. only (toks2 ++ more) u))
  both-alike toks toks2 macros s m new is h =
      alike-onward c (IsPutOutRenamed c) (IsPutOutRenamed c) macros s m new (λ more u. only (toks ++ more) u) (λ more u. only (toks2 ++ more) u) (λ more u. grown_refl u.table) h
      (λ more more2 t macros2 v.
      alike-only c (IsPutOutRenamed c) macros2 t (toks ++ more) (toks2 ++ more2)
      (ap (λ (ts : List Token). ts ++ more2) is ∙ ap (λ (ts : List Token). map (renamed c.renaming) toks ++ ts) v ∙ sym (map-append (renamed c.renaming) toks more)))

  rest-grows : (inner : Inner) → InnerLeads ctx inner → (file : SourceFile) (k : ℕ) (items : List ItemText) (d : Stepped) (t : State)
      → Grows t (onward (walk ctx inner file k items d.sections t) (λ toks u. only (d.toks ++ toks) u))
  rest-grows inner leads file k items d t =
      onward-grows t (walk ctx inner file k items d.sections t) (λ toks u. only (d.toks ++ toks) u)
      (leads-grow ctx t (walk ctx inner file k items d.sections t) (walk_leads ctx inner leads file k items d.sections t)) (λ toks u. grown_refl u.table)

  walk-alike : (inner inner2 : Inner) → InnerLeads ctx inner → InnerAlike c inner inner2 → (file : SourceFile) (text : TextValue) (k : ℕ) (items : List ItemText) (sections : List Section) (macros : Macros) (s : State)
      → Each (ItemGoes c) items
      → GoesAlike c (IsPutOutRenamed c) macros s (walk ctx inner file k items sections s)
      (walk ctx2 inner2 (with_text file text) k (map (renamed_item_text c.renaming) items) (map (renamed_section c.renaming) sections) (moved c macros s))
  unfolding walk
  walk-alike inner inner2 leads alike file text k [] sections macros s h = end-alike file text sections macros s
  walk-alike inner inner2 leads alike file text k (i ∷ items) sections macros s h =
      alike-onward c (IsStepped c) (IsPutOutRenamed c) macros s (item_step ctx inner file k i sections s)
      (item_step ctx2 inner2 (with_text file text) k (renamed_item_text c.renaming i) (map (renamed_section c.renaming) sections) (moved c macros s))
      (λ d t. onward (walk ctx inner file (k + 1) items d.sections t) (λ toks u. only (d.toks ++ toks) u))
      (λ d t. onward (walk ctx2 inner2 (with_text file text) (k + 1) (map (renamed_item_text c.renaming) items) d.sections t) (λ toks u. only (d.toks ++ toks) u))
      (λ d t. rest-grows inner leads file (k + 1) items d t)
      (step-alike inner inner2 (inner-grows ctx inner leads) alike file text k i sections macros s h.0)
      (λ d d2 t macros2 v.
      subst (λ (x : Stepped). GoesAlike c (IsPutOutRenamed c) macros2 t (onward (walk ctx inner file (k + 1) items d.sections t) (λ toks u. only (d.toks ++ toks) u))
      (onward (walk ctx2 inner2 (with_text file text) (k + 1) (map (renamed_item_text c.renaming) items) x.sections (moved c macros2 t)) (λ toks u. only (x.toks ++ toks) u))) (sym v)
      (both-alike d.toks (map (renamed c.renaming) d.toks) macros2 t (walk ctx inner file (k + 1) items d.sections t)
      (walk ctx2 inner2 (with_text file text) (k + 1) (map (renamed_item_text c.renaming) items) (map (renamed_section c.renaming) d.sections) (moved c macros2 t)) refl
      (walk-alike inner inner2 leads alike file text (k + 1) items d.sections macros2 t h.1)))

  items-same : (file : SourceFile) (k : KeepsFile c file) → items_in (with_text file k.text) ≡ map (renamed_item_text c.renaming) (items_in file)
  items-same file k =
      ap (λ (ts : List Token). item_texts ts k.text.firsts) k.toks ∙ ap (item_texts (map (renamed c.renaming) file.text.toks)) k.firsts
      ∙ item_texts_are_renamed c.renaming file.text.toks file.text.firsts (kept-tokens c file.text.toks k.tokens) k.lines

  file-alike : (inner inner2 : Inner) → InnerLeads ctx inner → InnerAlike c inner inner2 → (file : SourceFile) (k : KeepsFile c file) (macros : Macros) (s : State)
      → GoesAlike c (IsPutOutRenamed c) macros s (walk ctx inner file 0 (items_in file) [] s) (walk ctx2 inner2 (with_text file k.text) 0 (items_in (with_text file k.text)) [] (moved c macros s))
  file-alike inner inner2 leads alike file k macros s =
      rw (items-same file k) (walk-alike inner inner2 leads alike file k.text 0 (items_in file) [] macros s (file-items-go c file.text.toks file.text.firsts k.tokens k.lines))

  pub files-alike : (room : ℕ) → ProcessAlike c (file_items ctx room) (file_items ctx2 room)
  unfolding file_items
  files-alike zero file k macros s = file-alike None None tt tt file k macros s
  files-alike (suc room) file k macros s =
      file-alike (Some (file_items ctx room)) (Some (file_items ctx2 room)) (files_lead ctx room) (files-alike room) file k macros s
