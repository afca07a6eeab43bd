-- Directive lines that define a macro, take one away, or ask for one, over the edited files.
use Rattle.std.proofs.Common.{◌≡◌, Bool, true, false, List, [], ◌∷◌, ◌++◌, map, Option, Some, None, Ok, refl, ap, sym, subst, ◌∙◌, Err, codes, cond, not}
use Rattle.std.specs.Option.{option_map}
use Rattle.std.proofs.lemmas.List.{map-append}
use Rattle.cs_base.specs.declared.causes.Cause.TheVariants.{BadDirective}
use Rattle.cs_base.specs.declared.positions.Pos.{Pos}
use Rattle.cs_base.specs.Token.{Token}
use Rattle.line_shape.specs.declared.items.ItemKind.{ItemKind}
use Rattle.line_shape.specs.declared.items.ItemKind.TheVariants as kind
use Rattle.line_shape.specs.Directives.{takes_name}
use Rattle.line_shape.specs.Items.{line_kind}
use Rattle.line_shape.specs.Signs.{is_name, is_word}
use Rattle.line_shape.specs.MacroLine.{MacroParts, macro_of}
use Rattle.macro_body.specs.declared.definitions.Definition.{Definition}
use Rattle.macro_body.specs.Defining.{definition_of, defined_by, in_gnu}
use Rattle.source_files.specs.Faults.{fault_at}
use Rattle.macro_body.specs.Live.{with_macro, without_macro}
use Rattle.macro_body.specs.Macro.{Table as Macros}
use Rattle.macro_expand.specs.Renaming.{spelled, renamed, renamed_macro, occurs}
use Rattle.source_files.specs.Files.{SourceFile}
use Rattle.unit_steps.specs.Notes.{Note, Defined, Undefined, Tested}
use Rattle.unit_steps.specs.State.{State, did, Outcome}
use Rattle.unit_steps.specs.Names.{name_links, with_name, definition_links}
use Rattle.unit_steps.specs.Conditions.{is_macro, test_notes}
use Rattle.unit_steps.specs.Directives.{operand_in, define_notes, after_define, defined_as, define_of, undefined_as, undef_of, asks_name, may_define}
use Rattle.edited_unit_laws.specs.Lines.{Each, KeepsToken, KeepsParameters, defines, KeepsLine}
use Rattle.edited_unit_laws.proofs.MacroLineLemmas.{definitions_are_renamed, any-kept}
use Rattle.edited_unit_laws.specs.Keeping.{Change, KeepsNames, Fits}
use Rattle.edited_unit_laws.specs.Renamed.{renamed_happening}
use Rattle.edited_unit_laws.specs.Steps.{IsTaken, moved, GoesAlike, IsPutOutRenamed, IsSame}
use Rattle.edited_unit_laws.proofs.FollowLemmas.{each-more}
use Rattle.edited_unit_laws.proofs.LineLemmas.{takes-name}
use Rattle.edited_unit_laws.proofs.MacroLemmas.{keeps-defined, keeps-left, all-defined, all-left}
use Rattle.edited_unit_laws.proofs.NameLemmas.{name_links-renamed, with_name-renamed, with_name-taken, with_name-kept, is_macro-same}
use Rattle.edited_unit_laws.proofs.PartLemmas.{PartsGo, macro-goes, parts-keep, links-renamed}

-- what is known of a name: it occurs, and is an identifier
pub record IsKnown (c : Change) (name : Token) : Type 0 where
  pub occurs : occurs c.occurring name ≡ true
  pub named : is_name name ≡ true

pub kept-tokens : (c : Change) (toks : List Token) → Each (Fits c) toks → Each (KeepsToken c.renaming) toks
kept-tokens c toks h = each-more (Fits c) (KeepsToken c.renaming) toks (λ t k. k.1) h

-- what a line gives that defines this macro, where a unit may have it or not
abbrev line_gives : SourceFile → Pos → Definition → State → Bool → Outcome (List Token)
line_gives file at m s b = cond b (Ok (did [] (define_notes m s) (after_define m s))) (Err (fault_at file at BadDirective))

module _ (c : Change) (names : KeepsNames c) where
  -- ---- definitions

  defined-goes : (m : Definition) → IsKnown c m.name → PartsGo c m.params m.body → (macros : Macros) (s : State)
      → GoesAlike c (IsPutOutRenamed c) macros s (Ok (did [] (define_notes m s) (after_define m s)))
      (Ok (did [] (define_notes (renamed_macro c.renaming m) (moved c macros s)) (after_define (renamed_macro c.renaming m) (moved c macros s))))
  defined-goes m known parts macros s = λ reach kept told.
      let taken : IsTaken c m.name = record { occurs = known.occurs; named = known.named; keeps = told.0 } in
      let macros2 : Macros = with_macro (renamed_macro c.renaming m) macros in
      let links : name_links (renamed c.renaming m.name) (moved c macros s) ++ definition_links (renamed_macro c.renaming m) ≡ map (renamed_happening c.renaming) (name_links m.name s ++ definition_links m) =
      ap (λ (ns : List Note). ns ++ definition_links (renamed_macro c.renaming m)) (name_links-renamed c names m.name macros s taken kept.names)
      ∙ ap (λ (ns : List Note). map (renamed_happening c.renaming) (name_links m.name s) ++ ns) (links-renamed c m parts)
      ∙ sym (map-append (renamed_happening c.renaming) (name_links m.name s) (definition_links m)) in
      record {
        value = [];
        macros = macros2;
        is = ap (λ (ns : List Note). Ok (did [] (Defined (renamed_macro c.renaming m) s.before ∷ ns) (record (with_name (renamed c.renaming m.name) (moved c macros s)) { macros = macros2 }))) links
            ∙ ap (λ (t : State). Ok (did [] (map (renamed_happening c.renaming) (define_notes m s)) (record t { macros = macros2 }))) (with_name-renamed c names m.name macros s taken kept.names);
        goes_with = refl;
        kept = record {
          macros = keeps-defined c names s.macros macros kept.macros m taken (parts-keep c m parts);
          bodies = all-defined (λ (d : Definition). Each (KeepsToken c.renaming) d.body) s.macros m (kept-tokens c m.body parts.body) kept.bodies;
          names = with_name-taken c names m.name s taken kept.names;
        };
      }

  -- a renamed macro is one that the unit may have exactly where the macro was
  may-kept : (gnu : Bool) (m : Definition) → PartsGo c m.params m.body → may_define gnu (renamed_macro c.renaming m) ≡ may_define gnu m
  may-kept false m parts = refl
  may-kept true m parts =
      ap not (any-kept c.renaming (is_word (codes "__VA_OPT__")) m.body
      (each-more (KeepsToken c.renaming) (λ t. is_word (codes "__VA_OPT__") (renamed c.renaming t) ≡ is_word (codes "__VA_OPT__") t) m.body (λ t k. k.opts) (kept-tokens c m.body parts.body)))

  either-goes : (gnu : Bool) (m : Definition) → IsKnown c m.name → PartsGo c m.params m.body → (file new : SourceFile) (at at2 : Pos) (macros : Macros) (s : State) (b : Bool)
      → GoesAlike c (IsPutOutRenamed c) macros s (line_gives file at (in_gnu gnu m) s b) (line_gives new at2 (renamed_macro c.renaming (in_gnu gnu m)) (moved c macros s) b)
  either-goes gnu m known parts file new at at2 macros s true = defined-goes (in_gnu gnu m) known parts macros s
  either-goes gnu m known parts file new at at2 macros s false = tt

  define-goes : (gnu : Bool) (m : Definition) → IsKnown c m.name → PartsGo c m.params m.body → (file new : SourceFile) (at at2 : Pos) (macros : Macros) (s : State)
      → GoesAlike c (IsPutOutRenamed c) macros s (defined_as gnu file at s (Some m)) (defined_as gnu new at2 (moved c macros s) (Some (renamed_macro c.renaming m)))
  define-goes gnu m known parts file new at at2 macros s =
      subst (λ (b : Bool). GoesAlike c (IsPutOutRenamed c) macros s (line_gives file at (in_gnu gnu m) s (may_define gnu m)) (line_gives new at2 (renamed_macro c.renaming (in_gnu gnu m)) (moved c macros s) b))
      (sym (may-kept gnu m parts)) (either-goes gnu m known parts file new at at2 macros s (may_define gnu m))

  define-by : (gnu : Bool) (hash word name : Token) (ts : List Token) (o : Option MacroParts) → macro_of ts ≡ o → Each (Fits c) (hash ∷ word ∷ name ∷ ts) → IsKnown c name → KeepsParameters c.renaming ts
      → (file new : SourceFile) (at at2 : Pos) (macros : Macros) (s : State)
      → GoesAlike c (IsPutOutRenamed c) macros s (defined_as gnu file at s (option_map (definition_of name) o)) (define_of gnu new at2 (map (renamed c.renaming) (hash ∷ word ∷ name ∷ ts)) (moved c macros s))
  define-by gnu hash word name ts None is h known same file new at at2 macros s = tt
  define-by gnu hash word name ts (Some parts) is h known same file new at at2 macros s =
      let anew : defined_by (map (renamed c.renaming) (hash ∷ word ∷ name ∷ ts)) ≡ Some (renamed_macro c.renaming (definition_of name parts)) =
      definitions_are_renamed c.renaming (hash ∷ word ∷ name ∷ ts) (kept-tokens c (hash ∷ word ∷ name ∷ ts) h) same
      ∙ ap (λ (p : Option MacroParts). option_map (renamed_macro c.renaming) (option_map (definition_of name) p)) is in
      subst (λ (o : Option Definition). GoesAlike c (IsPutOutRenamed c) macros s (defined_as gnu file at s (Some (definition_of name parts))) (defined_as gnu new at2 (moved c macros s) o)) (sym anew)
      (define-goes gnu (definition_of name parts) known (macro-goes c ts parts h.1.1.1 same is) file new at at2 macros s)

  pub define-alike : (gnu : Bool) (file new : SourceFile) (at at2 : Pos) (toks : List Token) (macros : Macros) (s : State) → Each (Fits c) toks → line_kind toks ≡ kind.Define → KeepsLine c.renaming toks
      → GoesAlike c (IsPutOutRenamed c) macros s (define_of gnu file at toks s) (define_of gnu new at2 (map (renamed c.renaming) toks) (moved c macros s))
  define-alike gnu file new at at2 [] macros s h is keeps = tt
  define-alike gnu file new at at2 (hash ∷ []) macros s h is keeps = tt
  define-alike gnu file new at at2 (hash ∷ word ∷ []) macros s h is keeps = tt
  define-alike gnu file new at at2 (hash ∷ word ∷ name ∷ ts) macros s h is keeps =
      let takes = takes-name kind.Define hash word name ts refl is in
      let defines_it : defines word ≡ true = rw takes.word refl in
      define-by gnu hash word name ts (macro_of ts) refl h (record { occurs = h.1.1.0.0; named = takes.name }) ((keeps takes.hash).1 defines_it) file new at at2 macros s

  -- ---- names that are taken away

  undef-goes : (name : Token) → IsKnown c name → (file new : SourceFile) (at at2 : Pos) (macros : Macros) (s : State)
      → GoesAlike c (IsPutOutRenamed c) macros s (undefined_as file at s (Some name)) (undefined_as new at2 (moved c macros s) (Some (renamed c.renaming name)))
  undef-goes name known file new at at2 macros s = λ reach kept told.
      let taken : IsTaken c name = record { occurs = known.occurs; named = known.named; keeps = told.0 } in
      let macros2 : Macros = without_macro (spelled c.renaming name) macros in
      record {
        value = [];
        macros = macros2;
        is = ap (λ (ns : List Note). Ok (did [] (Undefined (renamed c.renaming name) s.before ∷ ns) (record (with_name (renamed c.renaming name) (moved c macros s)) { macros = macros2 }))) (name_links-renamed c names name macros s taken kept.names)
            ∙ ap (λ (t : State). Ok (did [] (map (renamed_happening c.renaming) (Undefined name s.before ∷ name_links name s)) (record t { macros = macros2 }))) (with_name-renamed c names name macros s taken kept.names);
        goes_with = refl;
        kept = record {
          macros = keeps-left c names s.macros macros kept.macros name taken;
          bodies = all-left (λ (d : Definition). Each (KeepsToken c.renaming) d.body) s.macros name.text kept.bodies;
          names = with_name-taken c names name s taken kept.names;
        };
      }

  pub undef-alike : (file new : SourceFile) (at at2 : Pos) (toks : List Token) (macros : Macros) (s : State) → Each (Fits c) toks → line_kind toks ≡ kind.Undef
      → GoesAlike c (IsPutOutRenamed c) macros s (undef_of file at toks s) (undef_of new at2 (map (renamed c.renaming) toks) (moved c macros s))
  undef-alike file new at at2 [] macros s h is = tt
  undef-alike file new at at2 (hash ∷ []) macros s h is = tt
  undef-alike file new at at2 (hash ∷ word ∷ []) macros s h is = tt
  undef-alike file new at at2 (hash ∷ word ∷ name ∷ ts) macros s h is =
      let takes = takes-name kind.Undef hash word name ts refl is in
      undef-goes name (record { occurs = h.1.1.0.0; named = takes.name }) file new at at2 macros s

  -- ---- names that are asked for

  asks-goes : (name : Token) → IsKnown c name → (file new : SourceFile) (at at2 : Pos) (answer : Bool → Bool) (macros : Macros) (s : State)
      → GoesAlike c (IsSame {A = Bool}) macros s (asks_name file at answer s (Some name)) (asks_name new at2 answer (moved c macros s) (Some (renamed c.renaming name)))
  asks-goes name known file new at at2 answer macros s = λ reach kept told.
      let taken : IsTaken c name = record { occurs = known.occurs; named = known.named; keeps = told.0 } in
      record {
        value = answer (is_macro name s);
        macros = macros;
        is = ap (λ (b : Bool). Ok (did (answer b) (Tested (renamed c.renaming name) s.before ∷ name_links (renamed c.renaming name) (moved c macros s)) (with_name (renamed c.renaming name) (moved c macros s)))) (is_macro-same c names name macros s taken kept)
            ∙ ap (λ (ns : List Note). Ok (did (answer (is_macro name s)) (Tested (renamed c.renaming name) s.before ∷ ns) (with_name (renamed c.renaming name) (moved c macros s)))) (name_links-renamed c names name macros s taken kept.names)
            ∙ ap (λ (t : State). Ok (did (answer (is_macro name s)) (map (renamed_happening c.renaming) (test_notes name s)) t)) (with_name-renamed c names name macros s taken kept.names);
        goes_with = refl;
        kept = with_name-kept c names name macros s taken kept;
      }

  pub asks-alike : (k : ItemKind) (file new : SourceFile) (at at2 : Pos) (answer : Bool → Bool) (toks : List Token) (macros : Macros) (s : State) → takes_name k ≡ true → Each (Fits c) toks → line_kind toks ≡ k
      → GoesAlike c (IsSame {A = Bool}) macros s (asks_name file at answer s (operand_in toks)) (asks_name new at2 answer (moved c macros s) (operand_in (map (renamed c.renaming) toks)))
  asks-alike k file new at at2 answer [] macros s takes h is = tt
  asks-alike k file new at at2 answer (hash ∷ []) macros s takes h is = tt
  asks-alike k file new at at2 answer (hash ∷ word ∷ []) macros s takes h is = tt
  asks-alike k file new at at2 answer (hash ∷ word ∷ name ∷ ts) macros s takes h is =
      let named = takes-name k hash word name ts takes is in
      asks-goes name (record { occurs = h.1.1.0.0; named = named.name }) file new at at2 answer macros s
