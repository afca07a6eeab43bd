-- Names of which a unit tells hang together by its links.
use Rattle.std.proofs.Common.{◌≡◌, ℕ, ◌||◌, Bool, true, false, cond, List, [], ◌∷◌, ◌++◌, map, Option, Some, None, is_some, Ok, refl, sym, subst, ap, ◌∙◌, codes, inl, inr}
use Rattle.std.specs.Prelude.{◌⊎◌}
use Rattle.std.specs.List.{flat_map, list_all}
use Rattle.std.specs.Option.{is_none, option_map}
use Rattle.std.specs.Str.{bytes_eq}
use Rattle.std.proofs.lemmas.Bool.{cases_Bool, both_ways, or_left, or_right}
use Rattle.std.proofs.lemmas.Option.{none-some, same_Some}
use Rattle.cs_base.proofs.FileMapLemmas.{bytes_eq-equal, bytes_eq-same}
use Rattle.cs_base.specs.declared.positions.Pos.{Pos}
use Rattle.cs_base.specs.declared.tokens.Link.{Link}
use Rattle.cs_base.specs.Token.{Token, origin_at}
use Rattle.cs_base.specs.Units.{UnitValue, is_gnu}
use Rattle.lexer.specs.FileText.{file_text}
use Rattle.line_shape.specs.MacroLine.{MacroParts, macro_of}
use Rattle.line_shape.specs.Signs.{is_name}
use Rattle.macro_body.specs.declared.definitions.Definition.{Definition}
use Rattle.macro_body.specs.Defining.{form_of, definition_of, defined_by, line_macro, file_macro, counter_macro, standard_macros, first_macros, in_gnu}
use Rattle.macro_body.specs.Live.{no_macro, with_macro}
use Rattle.macro_body.specs.Macro.{Table as Macros}
use Rattle.macro_body.specs.Notes as expansion
use Rattle.macro_expand.specs.Expansion.{links_name, expansion}
use Rattle.unit_steps.specs.declared.events.Event.{Event}
use Rattle.unit_steps.specs.declared.events.EventKind.{EventKind}
use Rattle.unit_steps.specs.declared.events.EventKind.TheVariants as kind
use Rattle.source_files.specs.Files.{Source, Table, Carried}
use Rattle.unit_steps.specs.Names.{spelled_in, linked_with, name_links, with_name, parameter_named, definition_links}
use Rattle.unit_steps.specs.Notes.{Note, Reaches, Happened, Defined, Undefined, Tested, Left, Linked, Answered, Named, Entered, Exited, ReadOnce, link, links_then, links_of, named_event, file_event, before_in, events_then, events_of}
use Rattle.unit_steps.specs.State.{State, Did}
use Rattle.unit_steps.specs.Directives.{define_notes, after_define, after_undef}
use Rattle.unit_steps.specs.Conditions.{test_notes}
use Rattle.source_files.specs.Limits.{the_limits}
use Rattle.unit_steps.specs.Texts.{unit_text, UnitTextValue}
use Rattle.include_tree.specs.Preprocessed.{Preprocessed}
use Rattle.include_tree.specs.Unit.{unit_outcome}
use Rattle.source_files.proofs.TableLemmas.{grown_refl}
use Rattle.expansion_laws.proofs.ListLemmas.{AllNotes}
use Rattle.unit_laws.specs.UnitLinks.{IsIn}
use Rattle.unit_laws.proofs.DoneLemmas.{AllIn, all_split, all_both}
use Rattle.unit_laws.proofs.NoteLemmas.{in_at, each_in, flat_in}
use Rattle.unit_laws.proofs.TextLemmas.{IsText, text_is}
use Rattle.unit_laws.specs.ToldNames.{is_first_name, IsTold, LinksAgree, ToldNamesAreLinked, ReplacingMacrosAreLinked}
use Rattle.unit_laws.proofs.ReplacedLemmas.{LinkAgrees, NameAgrees, IsReplacedBy, replaced_agree}
use Rattle.unit_laws.proofs.StepLemmas.{IsQuiet, StepRules, unit_goes}

-- ---- the first name of each spelling

module _ (mapped : Token → List ℕ) where
  -- a name is mapped as the first one of its spelling among names
  abbrev AsFirst : List Token → List ℕ → Token → Type 0
  AsFirst names text t = (first : Token) × (spelled_in names text ≡ Some first) × (mapped t ≡ mapped first)

  -- the first names stay
  abbrev Stay : List Token → List Token → Type 0
  Stay names more = (text : List ℕ) (first : Token) → spelled_in names text ≡ Some first → spelled_in more text ≡ Some first

  as_first_later : (names more : List Token) (text : List ℕ) (t : Token) → Stay names more → AsFirst names text t → AsFirst more text t
  as_first_later names more text t stay h = (h.0, stay text h.0 h.1, h.2)

  -- what is told of a name: it is so of those that are not `__LINE__`, `__FILE__` or `__COUNTER__`
  abbrev NameIs : List Token → Token → Type 0
  NameIs names t = is_first_name t.text ≡ false → AsFirst names t.text t

  -- where both tokens of the links of a note are mapped to the same
  abbrev Agrees : Note → Type 0
  Agrees (Linked x y) = mapped x ≡ mapped y
  Agrees (Happened run before note) = LinkAgrees mapped note
  Agrees _ = Unit {0}

  -- a name that is replaced is mapped as that of its macro, unless that stands in no file
  abbrev MacroAgrees : Token → Token → Type 0
  MacroAgrees name m = (is_name name ≡ true) × ((mapped name ≡ mapped m) ⊎ (list_all is_none m.origins ≡ true))

  abbrev HappenedIs : List Token → expansion.Note → Type 0
  HappenedIs names (expansion.Replaced name m before) = NameIs names name × MacroAgrees name m
  HappenedIs names _ = Unit {0}

  -- it is so of the names of which a note tells
  abbrev ToldIs : List Token → Note → Type 0
  ToldIs names (Happened run before note) = HappenedIs names note
  ToldIs names (Defined m before) = NameIs names m.name
  ToldIs names (Undefined name before) = NameIs names name
  ToldIs names (Tested name before) = NameIs names name
  ToldIs names (Left name before) = NameIs names name
  ToldIs names _ = Unit {0}

  name_later : (names more : List Token) (t : Token) → Stay names more → NameIs names t → NameIs more t
  name_later names more t stay h = λ other. as_first_later names more t.text t stay (h other)

  happened_later : (names more : List Token) (note : expansion.Note) → Stay names more → HappenedIs names note → HappenedIs more note
  happened_later names more (expansion.Replaced name m before) stay h = (name_later names more name stay h.0, h.1)
  happened_later names more (expansion.Linked x y) stay h = tt
  happened_later names more (expansion.Stringized toks s) stay h = tt
  happened_later names more (expansion.Pasted x y z) stay h = tt
  happened_later names more (expansion.Counted z) stay h = tt

  told_later : (names more : List Token) (note : Note) → Stay names more → ToldIs names note → ToldIs more note
  told_later names more (Happened run before note) stay h = happened_later names more note stay h
  told_later names more (Defined m before) stay h = name_later names more m.name stay h
  told_later names more (Undefined name before) stay h = name_later names more name stay h
  told_later names more (Tested name before) stay h = name_later names more name stay h
  told_later names more (Left name before) stay h = name_later names more name stay h
  told_later names more (Reaches file item evaluated before) stay h = tt
  told_later names more (Linked x y) stay h = tt
  told_later names more (Answered t) stay h = tt
  told_later names more (Named toks) stay h = tt
  told_later names more (Entered at file before) stay h = tt
  told_later names more (Exited at file before) stay h = tt
  told_later names more (ReadOnce passed at file before) stay h = tt

  all_later : (names more : List Token) (notes : List Note) → Stay names more → AllIn (ToldIs names) notes → AllIn (ToldIs more) notes
  all_later names more [] stay h = tt
  all_later names more (note ∷ notes) stay h = (told_later names more note stay h.0, all_later names more notes stay h.1)

  -- ---- the macros

  -- a macro stands under its name, which is so; those with which a unit begins stand under theirs
  record MacroIs (names : List Token) (name : List ℕ) (m : Definition) : Type 0 where
    links : links_name m.form ≡ true → AsFirst names name m.name
    first : links_name m.form ≡ false → is_first_name name ≡ true
    nowhere : links_name m.form ≡ false → list_all is_none m.name.origins ≡ true

  abbrev MacrosAre : State → Type 0
  MacrosAre s = (name : List ℕ) (m : Definition) → s.macros name ≡ Some m → MacroIs s.names name m

  macro_later : (names more : List Token) (name : List ℕ) (m : Definition) → Stay names more → MacroIs names name m → MacroIs more name m
  macro_later names more name m stay h = record { links = λ l. as_first_later names more name m.name stay (h.links l); first = h.first; nowhere = h.nowhere }

  -- ---- the relation

  -- First names stay, and where links agree, names and macros go on to be mapped as the first names.
  record Goes (s : State) (notes : List Note) (t : State) : Type 0 where
    stay : Stay s.names t.names
    told : AllIn Agrees notes → MacrosAre s → MacrosAre t × AllIn (ToldIs t.names) notes

  goes_none : (s : State) → Goes s [] s
  goes_none s = record { stay = λ text first e. e; told = λ agree macros. (macros, tt) }

  goes_both : (s t u : State) (ns ms : List Note) → Goes s ns t → Goes t ms u → Goes s (ns ++ ms) u
  goes_both s t u ns ms h k = record {
    stay = λ text first e. k.stay text first (h.stay text first e);
    told = λ agree macros.
        let each = all_split Agrees ns ms agree in
        let one = h.told each.0 macros in
        let two = k.told each.1 one.0 in
        (two.0, all_both (ToldIs u.names) ns ms (all_later t.names u.names ns k.stay one.1) two.1);
  }

  -- ---- names that are processed

  find_more : (names : List Token) (t : Token) (text : List ℕ) (first : Token) → spelled_in names text ≡ Some first → spelled_in (names ++ t ∷ []) text ≡ Some first
  find_more [] t text first e = absurd (none-some first e)
  find_more (n ∷ names) t text first e = elim (cases_Bool (bytes_eq text n.text)) [
    | inl same ↦ rw same (rw same at e)
    | inr other ↦ rw other (find_more names t text first (rw other at e))
  ]

  find_last : (names : List Token) (t : Token) → spelled_in names t.text ≡ None → spelled_in (names ++ t ∷ []) t.text ≡ Some t
  find_last [] t e = rw (bytes_eq-same t.text) refl
  find_last (n ∷ names) t e = elim (cases_Bool (bytes_eq t.text n.text)) [
    | inl same ↦ absurd (none-some n (sym (rw same at e)))
    | inr other ↦ rw other (find_last names t (rw other at e))
  ]

  cond_stay : (b : Bool) (s : State) (t : Token) → Stay s.names (cond b s (record s { names = s.names ++ t ∷ [] })).names
  cond_stay true s t = λ text first e. e
  cond_stay false s t = λ text first e. find_more s.names t text first e

  name_stay : (name : Token) (s : State) → Stay s.names (with_name name s).names
  name_stay name s = cond_stay (is_some (spelled_in s.names name.text)) s name

  -- the name is so among the names behind it, where its link agrees
  name_by : (name : Token) (s : State) (o : Option Token) → spelled_in s.names name.text ≡ o → AllIn Agrees (linked_with name o)
      → AsFirst (cond (is_some o) s (record s { names = s.names ++ name ∷ [] })).names name.text name
  name_by name s None e agree = (name, find_last s.names name e, refl)
  name_by name s (Some first) e agree = (first, e, agree.0)

  name_is : (name : Token) (s : State) → AllIn Agrees (name_links name s) → AsFirst (with_name name s).names name.text name
  name_is name s agree = name_by name s (spelled_in s.names name.text) refl agree

  links_told : (names : List Token) (name : Token) (o : Option Token) → AllIn (ToldIs names) (linked_with name o)
  links_told names name None = tt
  links_told names name (Some first) = (tt, tt)

  cond_macros : (b : Bool) (s : State) (names : List Token) → (cond b s (record s { names = names })).macros ≡ s.macros
  cond_macros true s names = refl
  cond_macros false s names = refl

  name_macros : (name : Token) (s : State) → (with_name name s).macros ≡ s.macros
  name_macros name s = cond_macros (is_some (spelled_in s.names name.text)) s (s.names ++ name ∷ [])

  macros_later : (name : Token) (s : State) → MacrosAre s → MacrosAre (with_name name s)
  macros_later name s macros = λ text m e.
      macro_later s.names (with_name name s).names text m (name_stay name s) (macros text m (ap (λ (table : Macros). table text) (sym (name_macros name s)) ∙ e))

  goes_tested : (name : Token) (s : State) → Goes s (test_notes name s) (with_name name s)
  goes_tested name s = record {
    stay = name_stay name s;
    told = λ agree macros. (macros_later name s macros, ((λ other. name_is name s agree.1), links_told (with_name name s).names name (spelled_in s.names name.text)));
  }

  goes_left : (name : Token) (s : State) → Goes s (Left name s.before ∷ name_links name s) (with_name name s)
  goes_left name s = record {
    stay = name_stay name s;
    told = λ agree macros. (macros_later name s macros, ((λ other. name_is name s agree.1), links_told (with_name name s).names name (spelled_in s.names name.text)));
  }

  without_is : (names : List Token) (text : List ℕ) (m : Definition) (o : Option Definition) (b : Bool) → (o ≡ Some m → MacroIs names text m)
      → cond b None o ≡ Some m → MacroIs names text m
  without_is names text m o true h e = absurd (none-some m e)
  without_is names text m o false h e = h e

  goes_undefined : (name : Token) (s : State) → Goes s (Undefined name s.before ∷ name_links name s) (after_undef name s)
  goes_undefined name s = record {
    stay = name_stay name s;
    told = λ agree macros. (
      (λ text m e. without_is (with_name name s).names text m (s.macros text) (bytes_eq text name.text)
          (λ k. macro_later s.names (with_name name s).names text m (name_stay name s) (macros text m k)) e),
      ((λ other. name_is name s agree.1), links_told (with_name name s).names name (spelled_in s.names name.text)),
    );
  }

  -- ---- definitions

  form_links : (b : Bool) → links_name (form_of b) ≡ true
  form_links true = refl
  form_links false = refl

  definition_links_name : (name : Token) (o : Option MacroParts) (m : Definition) → option_map (definition_of name) o ≡ Some m → links_name m.form ≡ true
  definition_links_name name None m e = absurd (none-some m e)
  definition_links_name name (Some parts) m e = subst (λ (d : Definition). links_name d.form ≡ true) (same_Some (definition_of name parts) m e) (form_links parts.function)

  defined_links : (toks : List Token) (m : Definition) → defined_by toks ≡ Some m → links_name m.form ≡ true
  defined_links [] m e = absurd (none-some m e)
  defined_links (hash ∷ []) m e = absurd (none-some m e)
  defined_links (hash ∷ word ∷ []) m e = absurd (none-some m e)
  defined_links (hash ∷ word ∷ name ∷ toks) m e = definition_links_name name (macro_of toks) m e

  uses_told : (names params body : List Token) → AllIn (ToldIs names) (flat_map (λ t. linked_with t (parameter_named params t)) body)
  uses_told names params [] = tt
  uses_told names params (t ∷ body) =
      all_both (ToldIs names) (linked_with t (parameter_named params t)) (flat_map (λ t. linked_with t (parameter_named params t)) body)
      (links_told names t (parameter_named params t)) (uses_told names params body)

  with_is : (names : List Token) (text : List ℕ) (m d : Definition) (old : Option Definition) (b : Bool) → (b ≡ true → text ≡ m.name.text) → MacroIs names m.name.text m
      → (old ≡ Some d → MacroIs names text d) → cond b (Some m) old ≡ Some d → MacroIs names text d
  with_is names text m d old true same here there e =
      let at : MacroIs names text m = subst (λ (w : List ℕ). MacroIs names w m) (sym (same refl)) here in
      subst (MacroIs names text) (same_Some m d e) at
  with_is names text m d old false same here there e = there e

  goes_defined : (number k : ℕ) (evaluated : Bool) (m : Definition) (s : State) → links_name m.form ≡ true
      → Goes s (Reaches number k evaluated s.before ∷ define_notes m s) (after_define m s)
  goes_defined number k evaluated m s links = record {
    stay = name_stay m.name s;
    told = λ agree macros.
        let names : List Token = (with_name m.name s).names in
        let each = all_split Agrees (name_links m.name s) (definition_links m) agree.1.1 in
        let own = name_is m.name s each.0 in
        let here : MacroIs names m.name.text m = record { links = λ l. own; first = λ never. absurd (both_ways (links_name m.form) never links); nowhere = λ never. absurd (both_ways (links_name m.form) never links) } in (
          (λ text d e. with_is names text m d (s.macros text) (bytes_eq text m.name.text) (λ same. bytes_eq-equal text m.name.text same) here
              (λ k. macro_later s.names names text d (name_stay m.name s) (macros text d k)) e),
          (tt, ((λ other. own), all_both (ToldIs names) (name_links m.name s) (definition_links m) (links_told names m.name (spelled_in s.names m.name.text)) (uses_told names m.params m.body))),
        );
  }

  -- ---- expansions

  links_noted : (run : Bool) (before : ℕ) (notes : List expansion.Note) → AllIn Agrees (map (Happened run before) notes) → AllNotes (LinkAgrees mapped) notes
  links_noted run before [] h = tt
  links_noted run before (note ∷ notes) h = (h.0, links_noted run before notes h.1)

  replaced_is : (s : State) (name m : Token) → MacrosAre s → IsReplacedBy mapped s.macros name m → NameIs s.names name × MacroAgrees name m
  replaced_is s name m macros h =
      let d : Definition = h.definition in
      let is = macros name.text d h.defined in
      elim (cases_Bool (links_name d.form)) [
        | inl links ↦
            let first = is.links links in
            let agrees = h.agrees links in
            ((λ other. (first.0, first.1, agrees ∙ first.2)), (h.identifier, inl (agrees ∙ ap mapped h.same)))
        | inr never ↦ (
          (λ other. absurd (both_ways (is_first_name name.text) other (is.first never))),
          (h.identifier, inr (ap (λ (t : Token). list_all is_none t.origins) (sym h.same) ∙ is.nowhere never)),
        )
      ]

  happened_is : (s : State) (note : expansion.Note) → MacrosAre s → NameAgrees mapped s.macros note → HappenedIs s.names note
  happened_is s (expansion.Replaced name m before) macros h = replaced_is s name m macros h
  happened_is s (expansion.Linked x y) macros h = tt
  happened_is s (expansion.Stringized toks made) macros h = tt
  happened_is s (expansion.Pasted x y z) macros h = tt
  happened_is s (expansion.Counted z) macros h = tt

  all_happened : (run : Bool) (before : ℕ) (s : State) (notes : List expansion.Note) → MacrosAre s → AllNotes (NameAgrees mapped s.macros) notes
      → AllIn (ToldIs s.names) (map (Happened run before) notes)
  all_happened run before s [] macros h = tt
  all_happened run before s (note ∷ notes) macros h = (happened_is s note macros h.0, all_happened run before s notes macros h.1)

  goes_expands : (run : Bool) (path : List ℕ) (toks : List Token) (s : State) (e : expansion.Expanded) → expansion s.macros path toks s.work ≡ Ok e
      → Goes s (map (Happened run s.before) e.notes) (record s { work = e.left })
  goes_expands run path toks s e is = record {
    stay = λ text first found. found;
    told = λ agree macros. (
      macros,
      all_happened run s.before s e.notes macros (replaced_agree mapped s.macros path toks s.work e is (links_noted run s.before e.notes agree)),
    );
  }

  -- ---- all steps

  goes_quiet : (note : Note) (s : State) → IsQuiet note → Goes s (note ∷ []) s
  goes_quiet (Answered t) s quiet = record { stay = λ text first e. e; told = λ agree macros. (macros, (tt, tt)) }
  goes_quiet (Named toks) s quiet = record { stay = λ text first e. e; told = λ agree macros. (macros, (tt, tt)) }
  goes_quiet (Entered at file before) s quiet = record { stay = λ text first e. e; told = λ agree macros. (macros, (tt, tt)) }
  goes_quiet (Exited at file before) s quiet = record { stay = λ text first e. e; told = λ agree macros. (macros, (tt, tt)) }
  goes_quiet (ReadOnce passed at file before) s quiet = record { stay = λ text first e. e; told = λ agree macros. (macros, (tt, tt)) }
  goes_quiet (Reaches file item evaluated before) s quiet = absurd quiet
  goes_quiet (Happened run before note) s quiet = absurd quiet
  goes_quiet (Defined m before) s quiet = absurd quiet
  goes_quiet (Undefined name before) s quiet = absurd quiet
  goes_quiet (Tested name before) s quiet = absurd quiet
  goes_quiet (Left name before) s quiet = absurd quiet
  goes_quiet (Linked x y) s quiet = absurd quiet

  goes_reaches : (number k : ℕ) (evaluated : Bool) (s : State) → Goes s (Reaches number k evaluated s.before ∷ []) s
  goes_reaches number k evaluated s = record { stay = λ text first e. e; told = λ agree macros. (macros, (tt, tt)) }

  goes_silent : (s t : State) → s.names ≡ t.names → s.macros ≡ t.macros → Goes s [] t
  goes_silent s t names macros = record {
    stay = λ text first e. subst (λ (ns : List Token). spelled_in ns text ≡ Some first) names e;
    told = λ agree are. (
      (λ text m e.
          subst (λ (ns : List Token). MacroIs ns text m) names (are text m (ap (λ (table : Macros). table text) macros ∙ e))),
      tt,
    );
  }

  step_rules : (table : Table) → StepRules Goes table
  step_rules table = record {
    none = goes_none;
    both = goes_both;
    tables = λ s t. goes_silent s (record s { table = t }) refl refl;
    counts = λ s n. goes_silent s (record s { before = n }) refl refl;
    places = λ s behind. goes_silent s (record s { behind = behind }) refl refl;
    once = λ s numbers. goes_silent s (record s { once = numbers }) refl refl;
    expands = goes_expands;
    tested = goes_tested;
    left = goes_left;
    undefined = goes_undefined;
    quiet = goes_quiet;
    defined = λ gnu file k i m s item is by. goes_defined file.number k false (in_gnu gnu m) s (defined_links i.toks m by);
    reaches = λ file k i evaluated s item other. goes_reaches file.number k evaluated s;
  }

  -- ---- the beginning of a unit

  line_is : (name : List ℕ) (m : Definition) (b : Bool) → (b ≡ true → is_first_name name ≡ true) → cond b (Some line_macro) None ≡ Some m → MacroIs [] name m
  line_is name m true same e = subst (MacroIs [] name) (same_Some line_macro m e) (record { links = λ l. absurd (cc); first = λ never. same refl; nowhere = λ never. refl })
  line_is name m false same e = absurd (none-some m e)

  file_is : (name : List ℕ) (m : Definition) (b : Bool) (old : Option Definition) → (b ≡ true → is_first_name name ≡ true) → (old ≡ Some m → MacroIs [] name m)
      → cond b (Some file_macro) old ≡ Some m → MacroIs [] name m
  file_is name m true old same there e = subst (MacroIs [] name) (same_Some file_macro m e) (record { links = λ l. absurd (cc); first = λ never. same refl; nowhere = λ never. refl })
  file_is name m false old same there e = there e

  counter_is : (name : List ℕ) (m : Definition) (b : Bool) (old : Option Definition) → (b ≡ true → is_first_name name ≡ true) → (old ≡ Some m → MacroIs [] name m)
      → cond b (Some counter_macro) old ≡ Some m → MacroIs [] name m
  counter_is name m true old same there e = subst (MacroIs [] name) (same_Some counter_macro m e) (record { links = λ l. absurd (cc); first = λ never. same refl; nowhere = λ never. refl })
  counter_is name m false old same there e = there e

  standard_macros_are : (name : List ℕ) (m : Definition) → standard_macros name ≡ Some m → MacroIs [] name m
  standard_macros_are name m e =
      let line : Bool = bytes_eq name (codes "__LINE__") in
      let file : Bool = bytes_eq name (codes "__FILE__") in
      let counter : Bool = bytes_eq name (codes "__COUNTER__") in
      file_is name m file (with_macro line_macro no_macro name) (λ same. or_right line (file || counter) (or_left file counter same))
      (λ k. line_is name m line (λ same. or_left line (file || counter) same) k) e

  first_macros_are : (gnu : Bool) (name : List ℕ) (m : Definition) → first_macros gnu name ≡ Some m → MacroIs [] name m
  first_macros_are false name m e = standard_macros_are name m e
  first_macros_are true name m e =
      let line : Bool = bytes_eq name (codes "__LINE__") in
      let file : Bool = bytes_eq name (codes "__FILE__") in
      let counter : Bool = bytes_eq name (codes "__COUNTER__") in
      counter_is name m counter (standard_macros name) (λ same. or_right line (file || counter) (or_right file counter same)) (λ k. standard_macros_are name m k) e

  -- ---- what links and events tell

  happened_agrees : (note : expansion.Note) → ((l : Link) → IsIn (links_then note) l → mapped l.x ≡ mapped l.y) → LinkAgrees mapped note
  happened_agrees (expansion.Linked x y) h = h (link x y) (0, refl)
  happened_agrees (expansion.Replaced name m before) h = tt
  happened_agrees (expansion.Stringized toks made) h = tt
  happened_agrees (expansion.Pasted x y z) h = tt
  happened_agrees (expansion.Counted z) h = tt

  note_agrees : (note : Note) → ((l : Link) → IsIn (links_of note) l → mapped l.x ≡ mapped l.y) → Agrees note
  note_agrees (Linked x y) h = h (link x y) (0, refl)
  note_agrees (Happened run before note) h = happened_agrees note h
  note_agrees (Reaches file item evaluated before) h = tt
  note_agrees (Defined m before) h = tt
  note_agrees (Undefined name before) h = tt
  note_agrees (Tested name before) h = tt
  note_agrees (Left name before) h = tt
  note_agrees (Answered t) h = tt
  note_agrees (Named toks) h = tt
  note_agrees (Entered at file before) h = tt
  note_agrees (Exited at file before) h = tt
  note_agrees (ReadOnce passed at file before) h = tt

  abbrev EventIs : List Token → Event → Type 0
  EventIs names e = (t : Token) → e.name ≡ Some t → NameIs names t

  named_is : (names : List Token) (k : EventKind) (name : Token) (def : Option Pos) (before : ℕ) → NameIs names name → EventIs names (named_event k name def before)
  named_is names k name def before h = λ t e. subst (NameIs names) (same_Some name t e) h

  file_names : (names : List Token) (k : EventKind) (at : Pos) (file before : ℕ) → EventIs names (file_event k at file before)
  file_names names k at file before = λ t e. absurd (none-some t e)

  happened_events : (names : List Token) (run : Bool) (before : ℕ) (note : expansion.Note) → HappenedIs names note → AllIn (EventIs names) (events_then run before note)
  happened_events names run before (expansion.Replaced name m more) h = (named_is names kind.Replaced name (origin_at m 0) (before_in run before more) h.0, tt)
  happened_events names run before (expansion.Linked x y) h = tt
  happened_events names run before (expansion.Stringized toks made) h = tt
  happened_events names run before (expansion.Pasted x y z) h = tt
  happened_events names run before (expansion.Counted z) h = tt

  note_events : (names : List Token) (note : Note) → ToldIs names note → AllIn (EventIs names) (events_of note)
  note_events names (Happened run before note) h = happened_events names run before note h
  note_events names (Defined m before) h = (named_is names kind.Defined m.name None before h, tt)
  note_events names (Undefined name before) h = (named_is names kind.Undefined name None before h, tt)
  note_events names (Tested name before) h = (named_is names kind.Tested name None before h, tt)
  note_events names (Left name before) h = (named_is names kind.Left name None before h, tt)
  note_events names (Entered at file before) h = (file_names names kind.Enter at file before, tt)
  note_events names (Exited at file before) h = (file_names names kind.Leave at file before, tt)
  note_events names (ReadOnce true at file before) h = (file_names names kind.Passed at file before, tt)
  note_events names (ReadOnce false at file before) h = (file_names names kind.Once at file before, tt)
  note_events names (Reaches file item evaluated before) h = tt
  note_events names (Linked x y) h = tt
  note_events names (Answered t) h = tt
  note_events names (Named toks) h = tt

  all_events : (names : List Token) (notes : List Note) → AllIn (ToldIs names) notes → AllIn (EventIs names) (flat_map events_of notes)
  all_events names [] h = tt
  all_events names (note ∷ notes) h = all_both (EventIs names) (events_of note) (flat_map events_of notes) (note_events names note h.0) (all_events names notes h.1)

  -- two names of one spelling are mapped as the same first name
  both_first : (names : List Token) (t u : Token) → AsFirst names t.text t → AsFirst names u.text u → t.text ≡ u.text → mapped t ≡ mapped u
  both_first names t u h k same =
      let one : spelled_in names u.text ≡ Some h.0 = subst (λ (w : List ℕ). spelled_in names w ≡ Some h.0) same h.1 in
      let first : h.0 ≡ k.0 = same_Some h.0 k.0 (sym one ∙ k.1) in
      h.2 ∙ ap mapped first ∙ sym k.2

  -- what is told of each note of a unit, where both tokens of each of its links are mapped to the same
  unit_told : (source : Source) (number : ℕ) (unit : UnitValue) (before : Carried) (d : Did (List Token)) → unit_outcome the_limits file_text source number unit before ≡ Ok d
      → LinksAgree mapped (unit_text d.value d.notes) → AllIn (ToldIs d.state.names) d.notes
  unit_told source number unit before d is own =
      let g = unit_goes Goes source number unit before d d.state.table is (grown_refl d.state.table) (step_rules d.state.table) in
      let links : AllIn Agrees d.notes =
      each_in Agrees d.notes (λ note k at. note_agrees note (λ l j. own l (flat_in links_of d.notes note l k at j))) in
      (g.told links (first_macros_are (is_gnu unit.standard))).1

  unit_names : (source : Source) (number : ℕ) (unit : UnitValue) (before : Carried) (p : Preprocessed) → IsText source number unit before p → LinksAgree mapped p.text
      → (names : List Token) × ((t : Token) → IsTold p.text t → NameIs names t)
  unit_names source number unit before p i agree =
      let d = i.did in
      let text : UnitTextValue = unit_text d.value d.notes in
      let r = unit_told source number unit before d i.outcome (subst (LinksAgree mapped) (sym i.text) agree) in
      let events : AllIn (EventIs d.state.names) text.events = all_events d.state.names d.notes r in (
        d.state.names,
        λ t told.
            let among : IsIn text.events told.event = subst (λ (v : UnitTextValue). IsIn v.events told.event) (sym i.text) told.among in
            in_at (EventIs d.state.names) text.events events told.event among.0 among.1 t told.named,
      )

pub told_names_are_linked : ToldNamesAreLinked
told_names_are_linked = λ map source number unit before p is agree t u told_t told_u same other.
    let names = unit_names map source number unit before p (text_is source number unit before p is) agree in
    let also : is_first_name u.text ≡ false = subst (λ (w : List ℕ). is_first_name w ≡ false) same other in
    both_first map names.0 t u (names.1 t told_t other) (names.1 u told_u also) same

pub replacing_macros_are_linked : ReplacingMacrosAreLinked
replacing_macros_are_linked = λ map source number unit before d is agree run count name m more at.
    (in_at (ToldIs map d.state.names) d.notes (unit_told map source number unit before d is agree) (Happened run count (expansion.Replaced name m more)) at.0 at.1).1
