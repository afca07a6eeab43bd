-- Include lines over the edited files (ISO/IEC 9899:1999, 6.10.2).
use Rattle.std.proofs.Common.{◌≡◌, ℕ, ◌&&◌, ◌||◌, Bool, true, false, cond, List, [], ◌∷◌, ◌++◌, map, drop, codes, Option, Some, None, Ok, refl, ap, sym, subst, ◌∙◌, inl, inr}
use Rattle.std.specs.List.{list_any}
use Rattle.std.specs.Option.{option_map}
use Rattle.std.specs.Str.{bytes_eq}
use Rattle.std.proofs.lemmas.Bool.{cases_Bool}
use Rattle.std.proofs.lemmas.List.{drop-map}
use Rattle.std.proofs.lemmas.Option.{none-some, same_Some}
use Rattle.cs_base.specs.declared.positions.Pos.{Pos}
use Rattle.cs_base.specs.declared.tokens.Kind.{Kind}
use Rattle.cs_base.specs.declared.tokens.Kind.TheVariants.{Ident, Number, Char, Str, Punct, Other, Header as HeaderName}
use Rattle.cs_base.specs.Token.{Token}
use Rattle.cs_base.specs.Units.{UnitValue}
use Rattle.lexer.specs.FileText.{TextValue}
use Rattle.line_shape.specs.Signs.{is_punctuator, is_sign}
use Rattle.macro_body.specs.Macro.{Table as Macros}
use Rattle.macro_expand.specs.Renaming.{Renaming, spelled as respelled, renamed}
use Rattle.source_files.specs.Files.{Source, SourceFile}
use Rattle.unit_steps.specs.Notes.{Entered, Exited, ReadOnce}
use Rattle.unit_steps.specs.Directives.{is_read_once}
use Rattle.unit_steps.specs.State.{State, did, Outcome, onward}
use Rattle.source_files.specs.Search.{Header, header, behind_of}
use Rattle.include_tree.specs.GivenFiles.{unit_context}
use Rattle.unit_steps.specs.Expanding.{expanded_in}
use Rattle.include_tree.specs.Including.{open_header, Process, Inner, left_to, entered, unless_once, included, include_of, include_next_of}
use Rattle.unit_steps.specs.IncludeNames.{header_or, computed_header, header_named, written_header, next_named}
use Rattle.source_files.specs.HeaderNames.{is_header, header_in, is_less, is_greater, before_greater, gap_text, spaced, spelled, header_of_signs, header_of_toks, header_at, is_string, begins_header}
use Rattle.source_files.proofs.TableLemmas.{grown_refl}
use Rattle.edited_unit_laws.specs.Lines.{Each, is_fixed}
use Rattle.edited_unit_laws.specs.Keeping.{Change, KeepsNames, KeepsFile, KeepsFiles, Fits}
use Rattle.edited_unit_laws.specs.Steps.{moved, GoesAlike, AreRenamed, IsPutOutRenamed, IsSame, with_text, OpensAlike, ProcessAlike, InnerAlike, Grows, ProcessGrows, InnerGrows}
use Rattle.edited_unit_laws.proofs.FollowLemmas.{noted-grows, onward-grows, left-grows, cond-grows, alike-noted, alike-onward, alike-only, alike-did, alike-cond, alike-placed, alike-left}
use Rattle.edited_unit_laws.proofs.OpenLemmas.{header-grows, header-alike}
use Rattle.edited_unit_laws.proofs.MacroLineLemmas.{sign-kept}
use Rattle.edited_unit_laws.proofs.PartLemmas.{each-drop}
use Rattle.edited_unit_laws.proofs.TextLemmas.{expanded-alike}

-- ---- the header that tokens name

-- a token stays as it is spelled
abbrev pub Stays : Renaming → Token → Type 0
Stays r t = respelled r t ≡ t.text

pub sign-stays : (r : Renaming) (text : List ℕ) (t : Token) → Stays r t → is_sign text (renamed r t) ≡ is_sign text t
sign-stays r text t h = ap (λ (x : List ℕ). is_punctuator t.kind && bytes_eq x text) h

before-renamed : (r : Renaming) (toks : List Token) → Each (Stays r) toks → before_greater (map (renamed r) toks) ≡ option_map (map (renamed r)) (before_greater toks)
before-renamed r [] h = refl
before-renamed r (t ∷ []) h = elim (cases_Bool (is_greater t)) [
  | inl is ↦ rw (sign-stays r (codes ">") t h.0, is) refl
  | inr other ↦ rw (sign-stays r (codes ">") t h.0, other) refl
]
before-renamed r (t ∷ u ∷ toks) h = elim (cases_Bool (is_greater t)) [
  | inl is ↦ rw (sign-stays r (codes ">") t h.0, is) refl
  | inr other ↦ rw (sign-stays r (codes ">") t h.0, other) (ap (option_map (λ (ts : List Token). renamed r t ∷ ts)) (before-renamed r (u ∷ toks) h.1) ∙ onto (before_greater (u ∷ toks)))
]
  where
    onto : (o : Option (List Token)) → option_map (λ (ts : List Token). renamed r t ∷ ts) (option_map (map (renamed r)) o) ≡ option_map (map (renamed r)) (option_map (λ (ts : List Token). t ∷ ts) o)
    onto None = refl
    onto (Some ts) = refl

-- the tokens before the `>` are some of the tokens
before-each : (P : Token → Type 0) (toks ts : List Token) → Each P toks → before_greater toks ≡ Some ts → Each P ts
before-each P [] ts h e = absurd (none-some ts e)
before-each P (t ∷ []) ts h e = by (is_greater t) e
  where
    by : (b : Bool) → cond b (Some []) None ≡ Some ts → Each P ts
    by true k = subst (λ (l : List Token). Each P l) (same_Some [] ts k) tt
    by false k = absurd (none-some ts k)
before-each P (t ∷ u ∷ toks) ts h e =
    by (is_greater t) (before_greater (u ∷ toks)) (λ us is. before-each P (u ∷ toks) us h.1 is) e
  where
    by : (b : Bool) (o : Option (List Token)) → ((us : List Token) → o ≡ Some us → Each P us) → cond b None (option_map (λ (us : List Token). t ∷ us) o) ≡ Some ts → Each P ts
    by true o more k = absurd (none-some ts k)
    by false None more k = absurd (none-some ts k)
    by false (Some us) more k = subst (λ (l : List Token). Each P l) (same_Some (t ∷ us) ts k) (h.0, more us refl)

spaced-same : (r : Renaming) (toks : List Token) → Each (Stays r) toks → spaced (map (renamed r) toks) ≡ spaced toks
spaced-same r [] h = refl
spaced-same r (t ∷ toks) h =
    ap (λ (x : List ℕ). gap_text t.gap ++ x ++ spaced (map (renamed r) toks)) h.0 ∙ ap (λ (x : List ℕ). gap_text t.gap ++ t.text ++ x) (spaced-same r toks h.1)

pub spelled-same : (r : Renaming) (toks : List Token) → Each (Stays r) toks → spelled (map (renamed r) toks) ≡ spelled toks
spelled-same r [] h = refl
spelled-same r (t ∷ toks) h =
    ap (λ (x : List ℕ). x ++ spaced (map (renamed r) toks)) h.0 ∙ ap (λ (x : List ℕ). t.text ++ x) (spaced-same r toks h.1)

pub named-same : (r : Renaming) (o : Option (List Token)) → ((ts : List Token) → o ≡ Some ts → Each (Stays r) ts)
    → option_map (λ (ts : List Token). header false (spelled ts)) (option_map (map (renamed r)) o) ≡ option_map (λ (ts : List Token). header false (spelled ts)) o
named-same r None h = refl
named-same r (Some ts) h = ap (λ (x : List ℕ). Some (header false x)) (spelled-same r ts (h ts refl))

signs-same : (r : Renaming) (toks : List Token) → Each (Stays r) toks → header_of_signs (map (renamed r) toks) ≡ header_of_signs toks
signs-same r [] h = refl
signs-same r (t ∷ toks) h =
    ap (λ (b : Bool). cond b (option_map (λ (ts : List Token). header false (spelled ts)) (before_greater (map (renamed r) toks))) None) (sign-stays r (codes "<") t h.0)
    ∙ ap (λ (o : Option Header). cond (is_less t) o None)
    (ap (option_map (λ (ts : List Token). header false (spelled ts))) (before-renamed r toks h.1) ∙ named-same r (before_greater toks) (λ ts e. before-each (Stays r) toks ts h.1 e))

header-same : (r : Renaming) (toks : List Token) → Each (Stays r) toks → header_of_toks (map (renamed r) toks) ≡ header_of_toks toks
header-same r [] h = refl
header-same r (t ∷ []) h = rw h.0 refl
header-same r (t ∷ u ∷ toks) h = signs-same r (t ∷ u ∷ toks) h

header-fixed : (k : Kind) → is_header k ≡ true → is_fixed k ≡ true
header-fixed Ident h = absurd (cc)
header-fixed Number h = refl
header-fixed Char h = refl
header-fixed Str h = absurd (cc)
header-fixed Punct h = refl
header-fixed Other h = refl
header-fixed HeaderName h = refl

module _ (c : Change) (names : KeepsNames c) where
  pub header_or-alike : (file new : SourceFile) (at at2 : Pos) (toks : List Token) (macros : Macros) (s : State) (o : Option Header) → header_of_toks toks ≡ o
      → GoesAlike c (IsSame {A = Header}) macros s (header_or file at toks s o) (header_or new at2 (map (renamed c.renaming) toks) (moved c macros s) (header_of_toks (map (renamed c.renaming) toks)))
  header_or-alike file new at at2 toks macros s None is = tt
  header_or-alike file new at at2 toks macros s (Some h) is = λ reach kept told. record {
    value = h;
    macros = macros;
    is = ap (header_or new at2 (map (renamed c.renaming) toks) (moved c macros s)) (header-same c.renaming toks told.0 ∙ is);
    goes_with = refl;
    kept = kept;
  }

  header_or-grows : (file : SourceFile) (at : Pos) (toks : List Token) (s : State) (o : Option Header) → Grows s (header_or file at toks s o)
  header_or-grows file at toks s None = tt
  header_or-grows file at toks s (Some h) = grown_refl s.table

  computed-alike : (file : SourceFile) (text : TextValue) (at at2 : Pos) (toks : List Token) (macros : Macros) (s : State) → Each (Fits c) toks
      → GoesAlike c (IsSame {A = Header}) macros s (computed_header file at toks s) (computed_header (with_text file text) at2 (map (renamed c.renaming) toks) (moved c macros s))
  computed-alike file text at at2 toks macros s h =
      alike-onward c (AreRenamed c) (IsSame {A = Header}) macros s (expanded_in false file toks s) (expanded_in false (with_text file text) (map (renamed c.renaming) toks) (moved c macros s))
      (λ out t. header_or file at out t (header_of_toks out)) (λ out t. header_or (with_text file text) at2 out t (header_of_toks out))
      (λ out t. header_or-grows file at out t (header_of_toks out)) (expanded-alike c names false file text toks macros s h)
      (λ out new t macros2 v.
      subst (λ (ts : List Token). GoesAlike c (IsSame {A = Header}) macros2 t (header_or file at out t (header_of_toks out)) (header_or (with_text file text) at2 ts (moved c macros2 t) (header_of_toks ts))) (sym v.0)
      (header_or-alike file (with_text file text) at at2 out macros2 t (header_of_toks out) refl))

  named-alike : (file : SourceFile) (text : TextValue) (at at2 : Pos) (toks : List Token) (macros : Macros) (s : State) → Each (Fits c) toks
      → GoesAlike c (IsSame {A = Header}) macros s (header_named file at toks s) (header_named (with_text file text) at2 (map (renamed c.renaming) toks) (moved c macros s))
  named-alike file text at at2 [] macros s h = tt
  named-alike file text at at2 (t ∷ toks) macros s h = elim (cases_Bool (is_header t.kind)) [
    | inl is ↦
        rw is (alike-only c (IsSame {A = Header}) macros s (header_in t.text) (header_in (respelled c.renaming t)) (ap header_in (h.0.1.others (header-fixed t.kind is))))
    | inr other ↦ rw other (computed-alike file text at at2 (t ∷ toks) macros s h)
  ]

  -- what is neither an identifier nor a string stays, so tokens begin as a header where they did
  greater-kept : (t : Token) → Fits c t → is_greater (renamed c.renaming t) ≡ is_greater t
  greater-kept t h = sign-kept c.renaming (codes ">") t h.1

  less-kept : (t : Token) → Fits c t → is_less (renamed c.renaming t) ≡ is_less t
  less-kept t h = sign-kept c.renaming (codes "<") t h.1

  any-kept : (toks : List Token) → Each (Fits c) toks → list_any is_greater (map (renamed c.renaming) toks) ≡ list_any is_greater toks
  any-kept [] h = refl
  any-kept (t ∷ toks) h = ap (λ (b : Bool). b || list_any is_greater (map (renamed c.renaming) toks)) (greater-kept t h.0) ∙ ap (λ (b : Bool). is_greater t || b) (any-kept toks h.1)

  begins-kept : (toks : List Token) → Each (Fits c) toks → begins_header (map (renamed c.renaming) toks) ≡ begins_header toks
  begins-kept [] h = refl
  begins-kept (t ∷ toks) h =
      ap (λ (b : Bool). is_string t.kind || (b && list_any is_greater (map (renamed c.renaming) toks))) (less-kept t h.0)
      ∙ ap (λ (b : Bool). is_string t.kind || (is_less t && b)) (any-kept toks h.1)

  written-alike : (file : SourceFile) (text : TextValue) (at at2 : Pos) (macros : Macros) (s : State) (o : Option Header)
      → GoesAlike c (IsSame {A = Header}) macros s (written_header file at s o) (written_header (with_text file text) at2 (moved c macros s) o)
  written-alike file text at at2 macros s None = tt
  written-alike file text at at2 macros s (Some header) = alike-only c (IsSame {A = Header}) macros s header header refl

  -- the header of a line that asks for the next file of a name, which the renaming keeps where it stands there
  next-alike : (file : SourceFile) (text : TextValue) (at at2 : Pos) (toks : List Token) (macros : Macros) (s : State) → Each (Fits c) toks
      → (begins_header toks ≡ true → header_at (map (renamed c.renaming) toks) ≡ header_at toks)
      → GoesAlike c (IsSame {A = Header}) macros s (next_named file at toks s) (next_named (with_text file text) at2 (map (renamed c.renaming) toks) (moved c macros s))
  next-alike file text at at2 toks macros s h same = rw (begins-kept toks h) (elim (cases_Bool (begins_header toks)) [
    | inl begins ↦ rw (begins, same begins) (written-alike file text at at2 macros s (header_at toks))
    | inr other ↦ rw other (computed-alike file text at at2 toks macros s h)
  ])

  -- ---- the file takes the place of the line

  module _ (source : Source) (files : KeepsFiles c source) (old : Source) (unit : UnitValue) (earlier : ℕ) where
    entered-grows : (process : Process) → ProcessGrows process → (at : Pos) (behind : Option ℕ) (file : SourceFile) (s : State) → Grows s (entered process at behind file s)
    entered-grows process grows at behind file s =
        let exit : List Token → State → Outcome (List Token) = λ toks t. Ok (did toks (Exited at file.number t.before ∷ []) t) in
        let inside : Outcome (List Token) = process file (record s { behind = behind }) in
        noted-grows s (Entered at file.number s.before ∷ []) (left_to s.behind (onward inside exit))
        (left-grows s s.behind (onward inside exit) (onward-grows s inside exit (grows file (record s { behind = behind })) (λ toks t. grown_refl t.table)))

    passes-grows : (process : Process) → ProcessGrows process → (at : Pos) → ProcessGrows (unless_once at process)
    passes-grows process grows at file s =
        cond-grows s (is_read_once file.number s) (Ok (did [] (ReadOnce true at file.number s.before ∷ []) s)) (process file s) (grown_refl s.table) (grows file s)

    included-grows : (inner : Inner) → InnerGrows inner → (file : SourceFile) (at : Pos) (next : Bool) (h : Header) (s : State) → Grows s (included (unit_context old unit earlier) inner file at next h s)
    included-grows None grows file at next h s = tt
    included-grows (Some process) grows file at next h s =
        let place_of : SourceFile → Option ℕ = λ f. behind_of next h s.behind file.path unit f.path in
        onward-grows s (open_header (unit_context old unit earlier) file at next h s) (λ f t. entered (unless_once at process) at (place_of f) f t) (header-grows old unit earlier file at next h s)
        (λ f t. entered-grows (unless_once at process) (passes-grows process grows at) at (place_of f) f t)

    entered-alike : (process process2 : Process) → ProcessGrows process → ProcessAlike c process process2 → (at : Pos) (behind : Option ℕ) (file : SourceFile) (k : KeepsFile c file) (macros : Macros) (s : State)
        → GoesAlike c (IsPutOutRenamed c) macros s (entered process at behind file s) (entered process2 (c.renaming.move at) behind (with_text file k.text) (moved c macros s))
    entered-alike process process2 grows alike at behind file k macros s =
        let new : SourceFile = with_text file k.text in
        let at2 : Pos = c.renaming.move at in
        let inside : State = record s { behind = behind } in
        let exit : List Token → State → Outcome (List Token) = λ toks t. Ok (did toks (Exited at file.number t.before ∷ []) t) in
        let exit2 : List Token → State → Outcome (List Token) = λ toks t. Ok (did toks (Exited at2 file.number t.before ∷ []) t) in
        alike-noted c (IsPutOutRenamed c) macros s (Entered at file.number s.before ∷ []) (left_to s.behind (onward (process file inside) exit))
        (left_to s.behind (onward (process2 new (moved c macros inside)) exit2))
        (alike-left c (IsPutOutRenamed c) macros s s.behind (onward (process file inside) exit) (onward (process2 new (moved c macros inside)) exit2)
        (alike-onward c (IsPutOutRenamed c) (IsPutOutRenamed c) macros s (process file inside) (process2 new (moved c macros inside)) exit exit2
        (λ toks t. grown_refl t.table)
        (alike-placed c (IsPutOutRenamed c) macros s behind (process file inside) (process2 new (moved c macros inside)) (alike file k macros inside))
        (λ toks new_toks t macros2 v. alike-did c (IsPutOutRenamed c) macros2 macros2 t t toks new_toks (Exited at file.number t.before ∷ []) v (λ kept told. kept))))

    passes-alike : (process process2 : Process) → ProcessAlike c process process2 → (at : Pos) → ProcessAlike c (unless_once at process) (unless_once (c.renaming.move at) process2)
    passes-alike process process2 alike at file k macros s =
        alike-cond c (IsPutOutRenamed c) macros s (is_read_once file.number s) (Ok (did [] (ReadOnce true at file.number s.before ∷ []) s)) (process file s)
        (Ok (did [] (ReadOnce true (c.renaming.move at) file.number s.before ∷ []) (moved c macros s))) (process2 (with_text file k.text) (moved c macros s))
        (alike-did c (IsPutOutRenamed c) macros macros s s [] [] (ReadOnce true at file.number s.before ∷ []) refl (λ kept told. kept)) (alike file k macros s)

    included-alike : (inner inner2 : Inner) → InnerGrows inner → InnerAlike c inner inner2 → (file : SourceFile) (text : TextValue) (at : Pos) (next : Bool) (h : Header) (macros : Macros) (s : State)
        → GoesAlike c (IsPutOutRenamed c) macros s (included (unit_context old unit earlier) inner file at next h s)
        (included (unit_context source unit earlier) inner2 (with_text file text) (c.renaming.move at) next h (moved c macros s))
    included-alike None inner2 grows alike file text at next h macros s = tt
    included-alike (Some process) None grows alike file text at next h macros s = absurd alike
    included-alike (Some process) (Some process2) grows alike file text at next h macros s =
        let place_of : SourceFile → Option ℕ = λ f. behind_of next h s.behind file.path unit f.path in
        alike-onward c (OpensAlike c) (IsPutOutRenamed c) macros s (open_header (unit_context old unit earlier) file at next h s)
        (open_header (unit_context source unit earlier) (with_text file text) (c.renaming.move at) next h (moved c macros s))
        (λ f t. entered (unless_once at process) at (place_of f) f t) (λ f t. entered (unless_once (c.renaming.move at) process2) (c.renaming.move at) (place_of f) f t)
        (λ f t. entered-grows (unless_once at process) (passes-grows process grows at) at (place_of f) f t) (header-alike c source files old unit earlier file text at (c.renaming.move at) next h macros s)
        (λ f new t macros2 v.
        subst (λ (g : SourceFile). GoesAlike c (IsPutOutRenamed c) macros2 t (entered (unless_once at process) at (place_of f) f t) (entered (unless_once (c.renaming.move at) process2) (c.renaming.move at) (place_of g) g (moved c macros2 t))) (sym v.1)
        (entered-alike (unless_once at process) (unless_once (c.renaming.move at) process2) (passes-grows process grows at) (passes-alike process process2 alike at) at (place_of f) f v.0 macros2 t))

    -- a line whose header is found so
    line-alike : (inner inner2 : Inner) → InnerGrows inner → InnerAlike c inner inner2 → (file : SourceFile) (text : TextValue) (at : Pos) (next : Bool) (macros : Macros) (s : State) (m new : Outcome Header)
        → GoesAlike c (IsSame {A = Header}) macros s m new
        → GoesAlike c (IsPutOutRenamed c) macros s (onward m (included (unit_context old unit earlier) inner file at next))
        (onward new (included (unit_context source unit earlier) inner2 (with_text file text) (c.renaming.move at) next))
    line-alike inner inner2 grows alike file text at next macros s m new same =
        alike-onward c (IsSame {A = Header}) (IsPutOutRenamed c) macros s m new
        (included (unit_context old unit earlier) inner file at next) (included (unit_context source unit earlier) inner2 (with_text file text) (c.renaming.move at) next)
        (λ g t. included-grows inner grows file at next g t) same
        (λ g g2 t macros2 v.
        subst (λ (x : Header). GoesAlike c (IsPutOutRenamed c) macros2 t (included (unit_context old unit earlier) inner file at next g t) (included (unit_context source unit earlier) inner2 (with_text file text) (c.renaming.move at) next x (moved c macros2 t))) (sym v)
        (included-alike inner inner2 grows alike file text at next g macros2 t))

    pub include-alike : (inner inner2 : Inner) → InnerGrows inner → InnerAlike c inner inner2 → (file : SourceFile) (text : TextValue) (at : Pos) (toks : List Token) (macros : Macros) (s : State) → Each (Fits c) toks
        → GoesAlike c (IsPutOutRenamed c) macros s (include_of (unit_context old unit earlier) inner file at toks s)
        (include_of (unit_context source unit earlier) inner2 (with_text file text) (c.renaming.move at) (map (renamed c.renaming) toks) (moved c macros s))
    include-alike inner inner2 grows alike file text at toks macros s h =
        rw (drop-map (renamed c.renaming) 2 toks)
        (line-alike inner inner2 grows alike file text at false macros s (header_named file at (drop 2 toks) s) (header_named (with_text file text) (c.renaming.move at) (map (renamed c.renaming) (drop 2 toks)) (moved c macros s))
        (named-alike file text at (c.renaming.move at) (drop 2 toks) macros s (each-drop (Fits c) 2 toks h)))

    pub include-next-alike : (inner inner2 : Inner) → InnerGrows inner → InnerAlike c inner inner2 → (file : SourceFile) (text : TextValue) (at : Pos) (toks : List Token) (macros : Macros) (s : State) → Each (Fits c) toks
        → (begins_header (drop 2 toks) ≡ true → header_at (map (renamed c.renaming) (drop 2 toks)) ≡ header_at (drop 2 toks))
        → GoesAlike c (IsPutOutRenamed c) macros s (include_next_of (unit_context old unit earlier) inner file at toks s)
        (include_next_of (unit_context source unit earlier) inner2 (with_text file text) (c.renaming.move at) (map (renamed c.renaming) toks) (moved c macros s))
    include-next-alike inner inner2 grows alike file text at toks macros s h same =
        rw (drop-map (renamed c.renaming) 2 toks)
        (line-alike inner inner2 grows alike file text at true macros s (next_named file at (drop 2 toks) s) (next_named (with_text file text) (c.renaming.move at) (map (renamed c.renaming) (drop 2 toks)) (moved c macros s))
        (next-alike file text at (c.renaming.move at) (drop 2 toks) macros s (each-drop (Fits c) 2 toks h) same))
