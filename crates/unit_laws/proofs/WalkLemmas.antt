-- The items of files: what is true of what they give.
use Rattle.std.proofs.Common.{◌≡◌, ℕ, zero, suc, ◌+◌, Bool, true, false, not, ◌&&◌, cond, List, [], ◌∷◌, ◌++◌, take, drop, Some, None, Err, refl, subst, arith}
use Rattle.std.specs.Prelude.{slice_get}
use Rattle.cs_base.specs.declared.causes.Cause.TheVariants as cause
use Rattle.cs_base.specs.declared.positions.Pos.{Pos}
use Rattle.cs_base.specs.Token.{Token}
use Rattle.cs_base.specs.Units.{UnitValue, is_gnu}
use Rattle.lexer.specs.FileText.{file_text}
use Rattle.line_shape.specs.declared.items.ItemKind.{ItemKind}
use Rattle.line_shape.specs.declared.items.ItemKind.TheVariants as kind
use Rattle.line_shape.specs.declared.items.GnuLine.TheVariants as gnu
use Rattle.line_shape.specs.Directives.{is_run}
use Rattle.line_shape.specs.Items.{line_kind}
use Rattle.source_files.specs.Limits.{the_limits}
use Rattle.source_files.specs.Faults.{fault_at}
use Rattle.source_files.proofs.TableLemmas.{grown_refl}
use Rattle.source_files.specs.Files.{Source, SourceFile, Table}
use Rattle.unit_steps.specs.Notes.{Note, Reaches}
use Rattle.unit_steps.specs.State.{Context, context, State, Outcome, only, onward}
use Rattle.include_tree.specs.Including.{Inner}
use Rattle.include_tree.specs.Sections.{Group, Processed, Awaited, Over, Skipped, Section, section, are_processed, group_if, group_after, group_of_else, Turn, Opens, GoesOn, GoesLast, Ends, Stays, turn_of}
use Rattle.unit_steps.specs.Conditions.{holds}
use Rattle.unit_steps.specs.Directives.{opens_with, goes_with, is_if, says_once, said_once, pragma_of}
use Rattle.include_tree.specs.Asking.{gnu_holds, opens_in, goes_in}
use Rattle.include_tree.specs.Walk.{ItemText, items_in, processed, Stepped, stepped, reaching, reaching_alive, go_on, opens, goes_on, in_section, turned, is_foreign, foreign_line, item_step, file_end, walk, file_items}
use Rattle.expansion_laws.proofs.ListLemmas.{AllToks, each_tok}
use Rattle.unit_laws.specs.UnitItems.{expanded_name, taken_next, taken}
use Rattle.unit_laws.proofs.DoneLemmas.{UnitRules, PlaceHas, tells_place, Done, done_more, done_told, done_onward, done_cond, done_only}
use Rattle.unit_laws.proofs.PartLemmas.{toks_both, item_has}
use Rattle.unit_laws.proofs.ExpandingLemmas.{run_done}
use Rattle.unit_laws.proofs.DefiningLemmas.{define_done, undef_done, asks_done}
use Rattle.unit_laws.proofs.ConditionLemmas.{holds_done}
use Rattle.unit_laws.proofs.AskingLemmas.{gnu_done}
use Rattle.unit_laws.proofs.IncludeLemmas.{Any, FileIs, ProcessDone, InnerDone, include_done, include_next_done}

abbrev AnyTok : Token → Type 0
AnyTok t = Unit {0}

abbrev SteppedHas : (Token → Type 0) → Stepped → Type 0
SteppedHas P d = AllToks P d.toks

module _ (P : Token → Type 0) (M : Note → Type 0) (table : Table) (rules : UnitRules P M table) (source : Source) (unit : UnitValue) (earlier : ℕ) where
  -- what stays the same
  abbrev ctx : Context
  ctx = context source file_text unit the_limits earlier

  -- ---- items

  -- what an item of this kind has, a condition that is evaluated or not
  abbrev KindHas : ItemKind → Bool → Pos → List Token → Type 0
  KindHas k evaluated at toks =
      AllToks P (taken k evaluated toks) × (is_run k ≡ false → line_kind toks ≡ k) × (tells_place k ≡ true → PlaceHas P at)

  -- item k of a kept file
  pub record IsItem (file : SourceFile) (k : ℕ) (i : ItemText) : Type 0 where
    pub is_kept : FileIs table file
    pub at : slice_get (items_in file) k ≡ Some i

  -- what an item that is reached has
  reached_has : (file : SourceFile) (k : ℕ) (i : ItemText) (evaluated : Bool) (before : ℕ) → IsItem file k i → M (Reaches file.number k evaluated before)
      → KindHas i.kind evaluated i.at i.toks
  reached_has file k i evaluated before is told =
      let has = rules.items file.number k evaluated before file i is.is_kept is.at told in
      let any = item_has AnyTok file k i (each_tok AnyTok file.text.toks (λ t n at. tt)) is.at in
      (has.toks, any.line, has.at)

  nothing_done : (pre : Type 0) (s : State) → Done P M table pre (AllToks P) s (only [] s)
  nothing_done pre s = done_only P M table pre (AllToks P) s [] (λ p. tt)

  pragma_done : (gnu_ : Bool) (file : SourceFile) (at : Pos) (toks : List Token) (s : State)
      → Done P M table (KindHas kind.Pragma false at toks) (AllToks P) s (pragma_of gnu_ file at toks s)
  pragma_done gnu_ file at toks s =
      done_cond P M table (KindHas kind.Pragma false at toks) (AllToks P) s (gnu_ && says_once toks) (said_once file at s) (only [] s)
      (grown_refl s.table, λ p reach has told. (tt, record { macros = has.macros; names = has.names }, (p.2 refl, tt))) (nothing_done (KindHas kind.Pragma false at toks) s)

  processed_done : (inner : Inner) → InnerDone P M table rules source unit earlier inner → (file : SourceFile) (k : ItemKind) (at : Pos) (toks : List Token) (s : State)
      → Done P M table (KindHas k false at toks) (AllToks P) s (processed ctx inner file k at toks s)
  processed_done inner known file kind.Run at toks s =
      done_more P M table (AllToks P toks) (KindHas kind.Run false at toks) (AllToks P) (AllToks P) s (processed ctx inner file kind.Run at toks s) (λ p. p.0) (λ a p k. k) (run_done P M table rules ctx file toks s)
  processed_done inner known file kind.Define at toks s =
      done_more P M table (AllToks P (drop 2 toks) × (line_kind toks ≡ kind.Define)) (KindHas kind.Define false at toks) (AllToks P) (AllToks P) s (processed ctx inner file kind.Define at toks s)
      (λ p. (p.0, p.1 refl)) (λ a p k. k) (define_done P M table kind.Define (is_gnu unit.standard) file at toks s refl)
  processed_done inner known file kind.Undef at toks s =
      done_more P M table (AllToks P (take 1 (drop 2 toks)) × (line_kind toks ≡ kind.Undef)) (KindHas kind.Undef false at toks) (AllToks P) (AllToks P) s (processed ctx inner file kind.Undef at toks s)
      (λ p. (p.0, p.1 refl)) (λ a p k. k) (undef_done P M table kind.Undef file at toks s refl)
  processed_done inner known file kind.Include at toks s =
      done_more P M table (AllToks P (expanded_name (drop 2 toks)) × PlaceHas P at) (KindHas kind.Include false at toks) (AllToks P) (AllToks P) s (processed ctx inner file kind.Include at toks s) (λ p. (p.0, p.2 refl)) (λ a p k. k) (include_done P M table rules source unit earlier inner known file at toks s)
  processed_done inner known file kind.Error at toks s = tt
  processed_done inner known file (kind.Bad c place nests) at toks s = tt
  processed_done inner known file (kind.Gnu gnu.IncludeNext) at toks s =
      let k : ItemKind = kind.Gnu gnu.IncludeNext in
      done_more P M table (AllToks P (taken_next (drop 2 toks)) × PlaceHas P at) (KindHas k false at toks) (AllToks P) (AllToks P) s (processed ctx inner file k at toks s) (λ p. (p.0, p.2 refl)) (λ a p k. k) (include_next_done P M table rules source unit earlier inner known file at toks s)
  processed_done inner known file (kind.Gnu gnu.Message) at toks s = nothing_done (KindHas (kind.Gnu gnu.Message) false at toks) s
  processed_done inner known file (kind.Gnu gnu.Elifdef) at toks s = nothing_done (KindHas (kind.Gnu gnu.Elifdef) false at toks) s
  processed_done inner known file (kind.Gnu gnu.Elifndef) at toks s = nothing_done (KindHas (kind.Gnu gnu.Elifndef) false at toks) s
  processed_done inner known file kind.If at toks s = nothing_done (KindHas kind.If false at toks) s
  processed_done inner known file kind.Ifdef at toks s = nothing_done (KindHas kind.Ifdef false at toks) s
  processed_done inner known file kind.Ifndef at toks s = nothing_done (KindHas kind.Ifndef false at toks) s
  processed_done inner known file kind.Elif at toks s = nothing_done (KindHas kind.Elif false at toks) s
  processed_done inner known file kind.Else at toks s = nothing_done (KindHas kind.Else false at toks) s
  processed_done inner known file kind.Endif at toks s = nothing_done (KindHas kind.Endif false at toks) s
  processed_done inner known file kind.Line at toks s = nothing_done (KindHas kind.Line false at toks) s
  processed_done inner known file kind.Pragma at toks s = pragma_done (is_gnu unit.standard) file at toks s
  processed_done inner known file kind.Empty at toks s = nothing_done (KindHas kind.Empty false at toks) s

  abbrev AnyBool : Bool → Type 0
  AnyBool b = Unit {0}

  opens_with_done : (k : ItemKind) (file : SourceFile) (at : Pos) (toks : List Token) (s : State) → Done P M table (KindHas k (is_if k) at toks) AnyBool s (opens_with k file at toks s)
  opens_with_done kind.If file at toks s =
      done_more P M table (AllToks P (drop 2 toks)) (KindHas kind.If true at toks) AnyBool AnyBool s (opens_with kind.If file at toks s) (λ p. p.0) (λ a p k. tt) (holds_done P M table rules file at (drop 2 toks) s)
  opens_with_done kind.Ifdef file at toks s =
      done_more P M table (AllToks P (take 1 (drop 2 toks)) × (line_kind toks ≡ kind.Ifdef)) (KindHas kind.Ifdef false at toks) AnyBool AnyBool s (opens_with kind.Ifdef file at toks s)
      (λ p. (p.0, p.1 refl)) (λ a p k. tt) (asks_done P M table kind.Ifdef file at (λ b. b) toks s refl)
  opens_with_done kind.Ifndef file at toks s =
      done_more P M table (AllToks P (take 1 (drop 2 toks)) × (line_kind toks ≡ kind.Ifndef)) (KindHas kind.Ifndef false at toks) AnyBool AnyBool s (opens_with kind.Ifndef file at toks s)
      (λ p. (p.0, p.1 refl)) (λ a p k. tt) (asks_done P M table kind.Ifndef file at not toks s refl)
  opens_with_done (kind.Bad c place nests) file at toks s = tt
  opens_with_done (kind.Gnu line) file at toks s = tt
  opens_with_done kind.Run file at toks s = tt
  opens_with_done kind.Define file at toks s = tt
  opens_with_done kind.Undef file at toks s = tt
  opens_with_done kind.Elif file at toks s = tt
  opens_with_done kind.Else file at toks s = tt
  opens_with_done kind.Endif file at toks s = tt
  opens_with_done kind.Include file at toks s = tt
  opens_with_done kind.Line file at toks s = tt
  opens_with_done kind.Error file at toks s = tt
  opens_with_done kind.Pragma file at toks s = tt
  opens_with_done kind.Empty file at toks s = tt

  -- a condition that is evaluated, in a unit of GNU C
  condition_done : (k : ItemKind) (file : SourceFile) (at : Pos) (toks : List Token) (s : State) (other : Outcome Bool) → (KindHas k true at toks → AllToks P (drop 2 toks))
      → Done P M table (KindHas k true at toks) AnyBool s other → Done P M table (KindHas k true at toks) AnyBool s (cond (is_gnu unit.standard) (gnu_holds ctx file at (drop 2 toks) s) other)
  condition_done k file at toks s other h known =
      done_cond P M table (KindHas k true at toks) AnyBool s (is_gnu unit.standard) (gnu_holds ctx file at (drop 2 toks) s) other
      (done_more P M table (AllToks P (drop 2 toks)) (KindHas k true at toks) AnyBool AnyBool s (gnu_holds ctx file at (drop 2 toks) s) h (λ a p k. tt)
      (gnu_done P M table rules source unit earlier file at (drop 2 toks) s)) known

  opens_in_done : (k : ItemKind) (file : SourceFile) (at : Pos) (toks : List Token) (s : State) → turn_of k ≡ Opens
      → Done P M table (KindHas k (is_if k) at toks) AnyBool s (opens_in ctx k file at toks s)
  opens_in_done kind.If file at toks s is = condition_done kind.If file at toks s (opens_with kind.If file at toks s) (λ p. p.0) (opens_with_done kind.If file at toks s)
  opens_in_done kind.Elif file at toks s is = absurd (cc)
  opens_in_done (kind.Bad c place nests) file at toks s is = opens_with_done (kind.Bad c place nests) file at toks s
  opens_in_done (kind.Gnu line) file at toks s is = opens_with_done (kind.Gnu line) file at toks s
  opens_in_done kind.Run file at toks s is = opens_with_done kind.Run file at toks s
  opens_in_done kind.Define file at toks s is = opens_with_done kind.Define file at toks s
  opens_in_done kind.Undef file at toks s is = opens_with_done kind.Undef file at toks s
  opens_in_done kind.Ifdef file at toks s is = opens_with_done kind.Ifdef file at toks s
  opens_in_done kind.Ifndef file at toks s is = opens_with_done kind.Ifndef file at toks s
  opens_in_done kind.Else file at toks s is = opens_with_done kind.Else file at toks s
  opens_in_done kind.Endif file at toks s is = opens_with_done kind.Endif file at toks s
  opens_in_done kind.Include file at toks s is = opens_with_done kind.Include file at toks s
  opens_in_done kind.Line file at toks s is = opens_with_done kind.Line file at toks s
  opens_in_done kind.Error file at toks s is = opens_with_done kind.Error file at toks s
  opens_in_done kind.Pragma file at toks s is = opens_with_done kind.Pragma file at toks s
  opens_in_done kind.Empty file at toks s is = opens_with_done kind.Empty file at toks s

  -- what a reached item gives, where it is known that it is reached
  reaching_done : (pre pre2 : Type 0) (file : SourceFile) (k : ℕ) (evaluated : Bool) (s : State) (m : Outcome Stepped) → (pre → M (Reaches file.number k evaluated s.before) → pre2)
      → Done P M table pre2 (SteppedHas P) s m → Done P M table pre (SteppedHas P) s (reaching file k evaluated s m)
  reaching_done pre pre2 file k evaluated s m more h = done_told P M table pre pre2 (SteppedHas P) s (Reaches file.number k evaluated s.before) m tt more h

  only_done : (pre : Type 0) (s : State) (d : Stepped) → (pre → AllToks P d.toks) → Done P M table pre (SteppedHas P) s (only d s)
  only_done pre s d h = done_only P M table pre (SteppedHas P) s d h

  -- what follows a test or a value without tokens
  then_only : {A : Type 0} (pre : Type 0) (s : State) (m : Outcome A) (next : A → Stepped) → ((a : A) → AllToks P (next a).toks) → Done P M table pre (Any {A = A}) s m
      → Done P M table pre (SteppedHas P) s (onward m (λ a t. only (next a) t))
  then_only {A = A} pre s m next none h =
      done_onward P M table pre (Any {A = A}) (SteppedHas P) s m (λ a t. only (next a) t) h (λ a t. only_done (pre × Any a) t (next a) (λ p. none a))

  opens_done : (file : SourceFile) (k : ℕ) (i : ItemText) (sections : List Section) (s : State) → turn_of i.kind ≡ Opens
      → Done P M table (IsItem file k i) (SteppedHas P) s (opens ctx file k i sections s)
  opens_done file k i sections s turn =
      done_cond P M table (IsItem file k i) (SteppedHas P) s (are_processed sections)
      (reaching file k (is_if i.kind) s (onward (opens_in ctx i.kind file i.at i.toks s) (λ b t. only (stepped [] (section i.at (group_if b) false ∷ sections)) t)))
      (only (stepped [] (section i.at Skipped false ∷ sections)) s)
      (reaching_done (IsItem file k i) (KindHas i.kind (is_if i.kind) i.at i.toks) file k (is_if i.kind) s (onward (opens_in ctx i.kind file i.at i.toks s) (λ b t. only (stepped [] (section i.at (group_if b) false ∷ sections)) t))
      (λ is told. reached_has file k i (is_if i.kind) s.before is told)
      (then_only (KindHas i.kind (is_if i.kind) i.at i.toks) s (opens_in ctx i.kind file i.at i.toks s) (λ b. stepped [] (section i.at (group_if b) false ∷ sections)) (λ b. tt)
      (opens_in_done i.kind file i.at i.toks s turn)))
      (only_done (IsItem file k i) s (stepped [] (section i.at Skipped false ∷ sections)) (λ p. tt))

  -- only an `elif` line goes on with a section, and in GNU C one that asks for a name
  goes_with_done : (k : ItemKind) (file : SourceFile) (at : Pos) (toks : List Token) (s : State) → turn_of k ≡ GoesOn
      → Done P M table (KindHas k true at toks) AnyBool s (goes_with k file at toks s)
  goes_with_done kind.Elif file at toks s is =
      done_more P M table (AllToks P (drop 2 toks)) (KindHas kind.Elif true at toks) AnyBool AnyBool s (goes_with kind.Elif file at toks s) (λ p. p.0) (λ a p k. tt) (holds_done P M table rules file at (drop 2 toks) s)
  goes_with_done (kind.Gnu gnu.Elifdef) file at toks s is =
      done_more P M table (AllToks P (take 1 (drop 2 toks)) × (line_kind toks ≡ kind.Gnu gnu.Elifdef)) (KindHas (kind.Gnu gnu.Elifdef) true at toks) AnyBool AnyBool s (goes_with (kind.Gnu gnu.Elifdef) file at toks s)
      (λ p. (p.0, p.1 refl)) (λ a p k. tt) (asks_done P M table (kind.Gnu gnu.Elifdef) file at (λ b. b) toks s refl)
  goes_with_done (kind.Gnu gnu.Elifndef) file at toks s is =
      done_more P M table (AllToks P (take 1 (drop 2 toks)) × (line_kind toks ≡ kind.Gnu gnu.Elifndef)) (KindHas (kind.Gnu gnu.Elifndef) true at toks) AnyBool AnyBool s (goes_with (kind.Gnu gnu.Elifndef) file at toks s)
      (λ p. (p.0, p.1 refl)) (λ a p k. tt) (asks_done P M table (kind.Gnu gnu.Elifndef) file at not toks s refl)
  goes_with_done (kind.Gnu gnu.IncludeNext) file at toks s is = tt
  goes_with_done (kind.Gnu gnu.Message) file at toks s is = tt
  goes_with_done (kind.Bad c place true) file at toks s is = absurd (cc)
  goes_with_done (kind.Bad c place false) file at toks s is = absurd (cc)
  goes_with_done kind.If file at toks s is = absurd (cc)
  goes_with_done kind.Ifdef file at toks s is = absurd (cc)
  goes_with_done kind.Ifndef file at toks s is = absurd (cc)
  goes_with_done kind.Run file at toks s is = absurd (cc)
  goes_with_done kind.Define file at toks s is = absurd (cc)
  goes_with_done kind.Undef file at toks s is = absurd (cc)
  goes_with_done kind.Else file at toks s is = absurd (cc)
  goes_with_done kind.Endif file at toks s is = absurd (cc)
  goes_with_done kind.Include file at toks s is = absurd (cc)
  goes_with_done kind.Line file at toks s is = absurd (cc)
  goes_with_done kind.Error file at toks s is = absurd (cc)
  goes_with_done kind.Pragma file at toks s is = absurd (cc)
  goes_with_done kind.Empty file at toks s is = absurd (cc)

  goes_in_done : (k : ItemKind) (file : SourceFile) (at : Pos) (toks : List Token) (s : State) → turn_of k ≡ GoesOn
      → Done P M table (KindHas k true at toks) AnyBool s (goes_in ctx k file at toks s)
  goes_in_done kind.Elif file at toks s is = condition_done kind.Elif file at toks s (goes_with kind.Elif file at toks s) (λ p. p.0) (goes_with_done kind.Elif file at toks s is)
  goes_in_done kind.If file at toks s is = absurd (cc)
  goes_in_done (kind.Bad c place nests) file at toks s is = goes_with_done (kind.Bad c place nests) file at toks s is
  goes_in_done (kind.Gnu line) file at toks s is = goes_with_done (kind.Gnu line) file at toks s is
  goes_in_done kind.Run file at toks s is = goes_with_done kind.Run file at toks s is
  goes_in_done kind.Define file at toks s is = goes_with_done kind.Define file at toks s is
  goes_in_done kind.Undef file at toks s is = goes_with_done kind.Undef file at toks s is
  goes_in_done kind.Ifdef file at toks s is = goes_with_done kind.Ifdef file at toks s is
  goes_in_done kind.Ifndef file at toks s is = goes_with_done kind.Ifndef file at toks s is
  goes_in_done kind.Else file at toks s is = goes_with_done kind.Else file at toks s is
  goes_in_done kind.Endif file at toks s is = goes_with_done kind.Endif file at toks s is
  goes_in_done kind.Include file at toks s is = goes_with_done kind.Include file at toks s is
  goes_in_done kind.Line file at toks s is = goes_with_done kind.Line file at toks s is
  goes_in_done kind.Error file at toks s is = goes_with_done kind.Error file at toks s is
  goes_in_done kind.Pragma file at toks s is = goes_with_done kind.Pragma file at toks s is
  goes_in_done kind.Empty file at toks s is = goes_with_done kind.Empty file at toks s is

  goes_on_done : (file : SourceFile) (k : ℕ) (i : ItemText) (open_ : Section) (sections : List Section) (s : State) (g : Group) → turn_of i.kind ≡ GoesOn
      → Done P M table (IsItem file k i) (SteppedHas P) s (goes_on ctx file k i open_ sections s g)
  goes_on_done file k i open_ sections s Awaited elif =
      reaching_done (IsItem file k i) (KindHas i.kind true i.at i.toks) file k true s (onward (goes_in ctx i.kind file i.at i.toks s) (λ b t. only (go_on open_ (group_if b) false sections) t))
      (λ is told. reached_has file k i true s.before is told)
      (then_only (KindHas i.kind true i.at i.toks) s (goes_in ctx i.kind file i.at i.toks s) (λ b. go_on open_ (group_if b) false sections) (λ b. tt)
      (goes_in_done i.kind file i.at i.toks s elif))
  goes_on_done file k i open_ sections s Skipped elif = only_done (IsItem file k i) s (go_on open_ Skipped false sections) (λ p. tt)
  goes_on_done file k i open_ sections s Processed elif =
      reaching_done (IsItem file k i) (Unit {0}) file k false s (only (go_on open_ (group_after Processed) false sections) s) (λ is told. tt) (only_done (Unit {0}) s (go_on open_ (group_after Processed) false sections) (λ p. tt))
  goes_on_done file k i open_ sections s Over elif =
      reaching_done (IsItem file k i) (Unit {0}) file k false s (only (go_on open_ (group_after Over) false sections) s) (λ is told. tt) (only_done (Unit {0}) s (go_on open_ (group_after Over) false sections) (λ p. tt))

  alive_done : (pre : Type 0) (file : SourceFile) (k : ℕ) (g : Group) (s : State) (d : Stepped) → AllToks P d.toks
      → Done P M table pre (SteppedHas P) s (reaching_alive file k g s (only d s))
  alive_done pre file k Processed s d h = reaching_done pre pre file k false s (only d s) (λ p told. p) (only_done pre s d (λ p. h))
  alive_done pre file k Awaited s d h = reaching_done pre pre file k false s (only d s) (λ p told. p) (only_done pre s d (λ p. h))
  alive_done pre file k Over s d h = reaching_done pre pre file k false s (only d s) (λ p told. p) (only_done pre s d (λ p. h))
  alive_done pre file k Skipped s d h = only_done pre s d (λ p. h)

  in_section_done : (pre : Type 0) (s : State) (file : SourceFile) (i : ItemText) (turn : Turn) (sections : List Section) (next : Section → List Section → Outcome Stepped)
      → ((o : Section) (around : List Section) → Done P M table pre (SteppedHas P) s (next o around)) → Done P M table pre (SteppedHas P) s (in_section file i turn sections next)
  in_section_done pre s file i turn [] next h = tt
  in_section_done pre s file i Ends (o ∷ around) next h = h o around
  in_section_done pre s file i Opens (o ∷ around) next h = unbalanced o.after_else
    where
      unbalanced : (b : Bool) → Done P M table pre (SteppedHas P) s (cond b (Err (fault_at file i.at cause.UnbalancedIf)) (next o around))
      unbalanced true = tt
      unbalanced false = h o around
  in_section_done pre s file i GoesOn (o ∷ around) next h = unbalanced o.after_else
    where
      unbalanced : (b : Bool) → Done P M table pre (SteppedHas P) s (cond b (Err (fault_at file i.at cause.UnbalancedIf)) (next o around))
      unbalanced true = tt
      unbalanced false = h o around
  in_section_done pre s file i GoesLast (o ∷ around) next h = unbalanced o.after_else
    where
      unbalanced : (b : Bool) → Done P M table pre (SteppedHas P) s (cond b (Err (fault_at file i.at cause.UnbalancedIf)) (next o around))
      unbalanced true = tt
      unbalanced false = h o around
  in_section_done pre s file i Stays (o ∷ around) next h = unbalanced o.after_else
    where
      unbalanced : (b : Bool) → Done P M table pre (SteppedHas P) s (cond b (Err (fault_at file i.at cause.UnbalancedIf)) (next o around))
      unbalanced true = tt
      unbalanced false = h o around

  put_done : (pre : Type 0) (s : State) (sections : List Section) (m : Outcome (List Token)) → Done P M table pre (AllToks P) s m
      → Done P M table pre (SteppedHas P) s (onward m (λ toks t. only (stepped toks sections) t))
  put_done pre s sections m h =
      done_onward P M table pre (AllToks P) (SteppedHas P) s m (λ toks t. only (stepped toks sections) t) h
      (λ toks t. only_done (pre × AllToks P toks) t (stepped toks sections) (λ p. p.1))

  turned_done : (inner : Inner) → InnerDone P M table rules source unit earlier inner → (file : SourceFile) (k : ℕ) (i : ItemText) (sections : List Section) (s : State) (turn : Turn) → turn_of i.kind ≡ turn
      → Done P M table (IsItem file k i) (SteppedHas P) s (turned ctx inner file k i sections s turn)
  turned_done inner known file k i sections s Opens turn = opens_done file k i sections s turn
  turned_done inner known file k i sections s GoesOn turn =
      in_section_done (IsItem file k i) s file i GoesOn sections (λ open_ around. goes_on ctx file k i open_ around s open_.group) (λ o around. goes_on_done file k i o around s o.group turn)
  turned_done inner known file k i sections s GoesLast turn =
      in_section_done (IsItem file k i) s file i GoesLast sections (λ open_ around. reaching_alive file k open_.group s (only (go_on open_ (group_of_else open_.group) true around) s))
      (λ o around. alive_done (IsItem file k i) file k o.group s (go_on o (group_of_else o.group) true around) tt)
  turned_done inner known file k i sections s Ends turn =
      in_section_done (IsItem file k i) s file i Ends sections (λ open_ around. reaching_alive file k open_.group s (only (stepped [] around) s))
      (λ o around. alive_done (IsItem file k i) file k o.group s (stepped [] around) tt)
  turned_done inner known file k i sections s Stays turn =
      done_cond P M table (IsItem file k i) (SteppedHas P) s (are_processed sections)
      (reaching file k false s (onward (processed ctx inner file i.kind i.at i.toks s) (λ toks t. only (stepped toks sections) t)))
      (only (stepped [] sections) s)
      (reaching_done (IsItem file k i) (KindHas i.kind false i.at i.toks) file k false s (onward (processed ctx inner file i.kind i.at i.toks s) (λ toks t. only (stepped toks sections) t))
      (λ is told. reached_has file k i false s.before is told)
      (put_done (KindHas i.kind false i.at i.toks) s sections (processed ctx inner file i.kind i.at i.toks s)
      (processed_done inner known file i.kind i.at i.toks s)))
      (only_done (IsItem file k i) s (stepped [] sections) (λ p. tt))

  -- a line that GNU C alone has, or an item as it is
  step_done : (inner : Inner) → InnerDone P M table rules source unit earlier inner → (file : SourceFile) (k : ℕ) (i : ItemText) (sections : List Section) (s : State)
      → Done P M table (IsItem file k i) (SteppedHas P) s (item_step ctx inner file k i sections s)
  step_done inner known file k i sections s =
      done_cond P M table (IsItem file k i) (SteppedHas P) s (is_foreign unit.standard i.kind) (foreign_line file i sections s)
      (turned ctx inner file k i sections s (turn_of i.kind))
      (done_cond P M table (IsItem file k i) (SteppedHas P) s (are_processed sections) (Err (fault_at file i.at cause.BadDirective)) (only (stepped [] sections) s) tt
      (only_done (IsItem file k i) s (stepped [] sections) (λ p. tt)))
      (turned_done inner known file k i sections s (turn_of i.kind) refl)

  -- ---- files

  end_done : (pre : Type 0) (file : SourceFile) (sections : List Section) (s : State) → Done P M table pre (AllToks P) s (file_end file sections s)
  end_done pre file [] s = nothing_done pre s
  end_done pre file (o ∷ sections) s = tt

  -- tokens behind tokens
  pub both_done : (pre : Type 0) (toks : List Token) (s : State) (m : Outcome (List Token)) → (pre → AllToks P toks) → Done P M table pre (AllToks P) s m
      → Done P M table pre (AllToks P) s (onward m (λ more u. only (toks ++ more) u))
  both_done pre toks s m first h =
      done_onward P M table pre (AllToks P) (AllToks P) s m (λ more u. only (toks ++ more) u) h
      (λ more u. done_only P M table (pre × AllToks P more) (AllToks P) u (toks ++ more) (λ p. toks_both P toks more (first p.0) p.1))

  -- the items of a kept file from number k on
  pub record AreItems (file : SourceFile) (k : ℕ) (items : List ItemText) : Type 0 where
    pub is_kept : FileIs table file
    pub at : (j : ℕ) (i : ItemText) → slice_get items j ≡ Some i → slice_get (items_in file) (k + j) ≡ Some i

  first_item : (file : SourceFile) (k : ℕ) (i : ItemText) (items : List ItemText) → AreItems file k (i ∷ items) → IsItem file k i
  first_item file k i items h =
      let same : k + 0 ≡ k = omega arith in
      record { is_kept = h.is_kept; at = subst (λ (n : ℕ). slice_get (items_in file) n ≡ Some i) same (h.at 0 i refl) }

  later_items : (file : SourceFile) (k : ℕ) (i : ItemText) (items : List ItemText) → AreItems file k (i ∷ items) → AreItems file (k + 1) items
  later_items file k i items h = record {
    is_kept = h.is_kept;
    at = λ j x e.
        let same : k + suc j ≡ k + 1 + j = omega arith in
        subst (λ (n : ℕ). slice_get (items_in file) n ≡ Some x) same (h.at (suc j) x e);
  }

  walk_done : (inner : Inner) → InnerDone P M table rules source unit earlier inner → (file : SourceFile) (k : ℕ) (items : List ItemText) (sections : List Section) (s : State)
      → Done P M table (AreItems file k items) (AllToks P) s (walk ctx inner file k items sections s)
  unfolding walk
  walk_done inner known file k [] sections s = end_done (AreItems file k []) file sections s
  walk_done inner known file k (i ∷ items) sections s =
      done_onward P M table (AreItems file k (i ∷ items)) (SteppedHas P) (AllToks P) s (item_step ctx inner file k i sections s)
      (λ d t. onward (walk ctx inner file (k + 1) items d.sections t) (λ toks u. only (d.toks ++ toks) u))
      (done_more P M table (IsItem file k i) (AreItems file k (i ∷ items)) (SteppedHas P) (SteppedHas P) s (item_step ctx inner file k i sections s) (λ p. first_item file k i items p) (λ a p h. h)
      (step_done inner known file k i sections s))
      (λ d t. both_done (AreItems file k (i ∷ items) × SteppedHas P d) d.toks t (walk ctx inner file (k + 1) items d.sections t) (λ p. p.1)
      (done_more P M table (AreItems file (k + 1) items) (AreItems file k (i ∷ items) × SteppedHas P d) (AllToks P) (AllToks P) t (walk ctx inner file (k + 1) items d.sections t) (λ p. later_items file k i items p.0) (λ a p h. h)
      (walk_done inner known file (k + 1) items d.sections t)))

  all_items : (file : SourceFile) → FileIs table file → AreItems file 0 (items_in file)
  all_items file is = record {
    is_kept = is;
    at = λ j i e. let same : j ≡ 0 + j = omega arith in subst (λ (n : ℕ). slice_get (items_in file) n ≡ Some i) same e;
  }

  file_done : (inner : Inner) → InnerDone P M table rules source unit earlier inner → (file : SourceFile) (s : State) → Done P M table (FileIs table file) (AllToks P) s (walk ctx inner file 0 (items_in file) [] s)
  file_done inner known file s =
      done_more P M table (AreItems file 0 (items_in file)) (FileIs table file) (AllToks P) (AllToks P) s (walk ctx inner file 0 (items_in file) [] s)
      (λ p. all_items file p) (λ a p h. h) (walk_done inner known file 0 (items_in file) [] s)

  pub files_done : (room : ℕ) → ProcessDone P M table rules source unit earlier (file_items ctx room)
  unfolding file_items
  files_done zero file s = file_done None tt file s
  files_done (suc room) file s = file_done (Some (file_items ctx room)) (files_done room) file s
