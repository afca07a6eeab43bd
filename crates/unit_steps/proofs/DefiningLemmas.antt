-- What is kept where a macro is defined, taken away or asked for.
use Rattle.std.proofs.Common.{◌≡◌, ℕ, ◌+◌, ◌<◌, ◌≤◌, Bool, true, false, not, cond, List, [], ◌∷◌, ◌++◌, take, get_or, Option, Some, None, Result, Ok, IsTrue, is_some, length, refl, sym, ◌∙◌, ap, subst, Err}
use Rattle.std.specs.Prelude.{IfSome}
use mathlib.Core.Bool.{beq}
use Rattle.std.specs.List.{flat_map, list_all}
use Rattle.std.proofs.lemmas.List.{append-nil, take_all}
use Rattle.std.proofs.lemmas.List.Concat.{flat_map-append}
use Rattle.cs_base.specs.declared.causes.Cause.TheVariants.{BadDirective}
use Rattle.cs_base.specs.Token.{Token}
use Rattle.cs_base.specs.declared.positions.Pos.{Pos}
use Rattle.source_files.specs.Below.line_shape.Signs.{is_name}
use Rattle.macro_expand.specs.Below.macro_body.declared.definitions.Definition.{Definition}
use Rattle.macro_expand.specs.Below.macro_body.Macro.{Table as Macros}
use Rattle.macro_expand.specs.Below.macro_body.Live.{Entries, table_of, with_macro, without_macro}
use Rattle.macro_expand.specs.Below.macro_body.Defining.{defined_by, in_gnu}
use Rattle.macro_expand.specs.Below.macro_body.Sound.{is_traced, AllTraced}
use Rattle.macro_expand.proofs.TracedLemmas.{traced-with_macro, traced-without_macro}
use Rattle.unit_steps.specs.declared.events.Event.{Event}
use Rattle.unit_steps.specs.declared.events.EventKind.{EventKind}
use Rattle.unit_steps.specs.declared.events.EventKind.TheVariants as kind
use Rattle.unit_steps.specs.declared.progress.Progress.{Progress}
use Rattle.source_files.specs.Files.{SourceFile, Table}
use Rattle.source_files.specs.Faults.{Fault, fault_at}
use Rattle.unit_steps.specs.Notes.{Note, Defined, Undefined, Tested, Left, named_event}
use Rattle.unit_steps.specs.State.{State, did, Outcome}
use Rattle.unit_steps.specs.Names.{spelled_in, linked_with, with_name, parameter_named, definition_links}
use Rattle.unit_steps.specs.Texts.{UnitTextValue, text_of, reached_in}
use Rattle.unit_steps.specs.FirstNames.{names_with}
use Rattle.unit_steps.specs.Keeping.{noted_in, put_in, kept_after, put_after}
use Rattle.unit_steps.specs.Moments.{state_in, IsAble, named_in, with_event}
use Rattle.unit_steps.specs.Conditions.{is_macro, test_notes}
use Rattle.unit_steps.specs.Directives.{operand_in, define_notes, define_of, defined_as, undef_of, undefined_as, asks_name, after_define, may_define}
use Rattle.unit_steps.proofs.KeepingLemmas.{noted_in-nil, noted_in-append}
use Rattle.unit_steps.proofs.FirstNamesLemmas.{take-push}

-- ---- the uses of parameters

abbrev pub use_links : List Token → Token → List Note
use_links params t = linked_with t (parameter_named params t)

pub use-other : (k : UnitTextValue) (t : Token) (params : List Token) → is_name t ≡ false → k ≡ noted_in k (use_links params t)
use-other k t params other = rw other (sym (noted_in-nil k))

uses-same : (ps qs body : List Token) → ((text : List ℕ) → spelled_in ps text ≡ spelled_in qs text) → flat_map (use_links ps) body ≡ flat_map (use_links qs) body
uses-same ps qs [] h = refl
uses-same ps qs (t ∷ body) h =
    ap (λ (o : Option Token). linked_with t (cond (is_name t) o None) ++ flat_map (use_links ps) body) (h t.text)
    ∙ ap (λ (r : List Note). use_links qs t ++ r) (uses-same ps qs body h)

pub uses-more : (k text new : UnitTextValue) (ps body : List Token) (i : ℕ) (t : Token) → i < length body → t ≡ get_or body i t
    → text ≡ noted_in k (flat_map (use_links ps) (take i body)) → new ≡ noted_in text (use_links ps t) → new ≡ noted_in k (flat_map (use_links ps) (take (i + 1) body))
uses-more k text new ps body i t below at is news =
    let more : flat_map (use_links ps) (take (i + 1) body) ≡ flat_map (use_links ps) (take i body) ++ use_links ps t =
    ap (flat_map (use_links ps)) (take-push body i t below at) ∙ flat_map-append (use_links ps) (take i body) (t ∷ [])
    ∙ ap (λ (r : List Note). flat_map (use_links ps) (take i body) ++ r) (append-nil (use_links ps t)) in
    news ∙ ap (λ (x : UnitTextValue). noted_in x (use_links ps t)) is ∙ sym (noted_in-append k (flat_map (use_links ps) (take i body)) (use_links ps t))
    ∙ ap (λ (r : List Note). noted_in k r) (sym more)

pub uses-end : (k text : UnitTextValue) (ps body : List Token) (i : ℕ) → length body ≤ i → text ≡ noted_in k (flat_map (use_links ps) (take i body))
    → text ≡ noted_in k (flat_map (use_links ps) body)
uses-end k text ps body i past is = is ∙ ap (λ (b : List Token). noted_in k (flat_map (use_links ps) b)) (take_all i body past)

pub uses-all : (k text : UnitTextValue) (m : Definition) (ps body : List Token) → body ≡ m.body → ((text : List ℕ) → spelled_in ps text ≡ spelled_in m.params text)
    → text ≡ noted_in k (flat_map (use_links ps) body) → text ≡ noted_in k (definition_links m)
uses-all k text m ps body is h all =
    all ∙ ap (λ (b : List Token). noted_in k (flat_map (use_links ps) b)) is ∙ ap (λ (r : List Note). noted_in k r) (uses-same ps m.params m.body h)

-- ---- one event

pub one-event : (k : UnitTextValue) (es : List Event) → record k { events = k.events ++ es }
    ≡ text_of k.toks (k.links ++ []) (k.pasted ++ []) (k.stringized ++ []) (k.header ++ []) (k.answers ++ []) (k.reached ++ []) (k.events ++ es)
one-event k es =
    sym (λ i. text_of k.toks (append-nil k.links i) (append-nil k.pasted i) (append-nil k.stringized i) (append-nil k.header i) (append-nil k.answers i) (append-nil k.reached i) (k.events ++ es))

event-defined : (k : UnitTextValue) (m : Definition) (b : ℕ) → record k { events = k.events ++ named_event kind.Defined m.name None b ∷ [] } ≡ noted_in k (Defined m b ∷ [])
unfolding reached_in
event-defined k m b = one-event k (named_event kind.Defined m.name None b ∷ [])

event-undefined : (k : UnitTextValue) (t : Token) (b : ℕ) → record k { events = k.events ++ named_event kind.Undefined t None b ∷ [] } ≡ noted_in k (Undefined t b ∷ [])
unfolding reached_in
event-undefined k t b = one-event k (named_event kind.Undefined t None b ∷ [])

event-tested : (k : UnitTextValue) (t : Token) (b : ℕ) → record k { events = k.events ++ named_event kind.Tested t None b ∷ [] } ≡ noted_in k (Tested t b ∷ [])
unfolding reached_in
event-tested k t b = one-event k (named_event kind.Tested t None b ∷ [])

event-left : (k : UnitTextValue) (t : Token) (b : ℕ) → record k { events = k.events ++ named_event kind.Left t None b ∷ [] } ≡ noted_in k (Left t b ∷ [])
unfolding reached_in
event-left k t b = one-event k (named_event kind.Left t None b ∷ [])

-- ---- a name where something happens

-- what is known behind a name that is processed, with notes
abbrev pub noted_at : Token → List Note → Progress → Progress
noted_at name notes p = record p { names = names_with name p.names; text = noted_in p.text notes }

-- the event of a note, and the link of its name
event-named : (p q : Progress) (name : Token) (k : EventKind) (note : Note)
    → record p.text { events = p.text.events ++ named_event k name None (length p.text.toks) ∷ [] } ≡ noted_in p.text (note ∷ [])
    → q ≡ named_in name (with_event k name p) → q ≡ noted_at name (note ∷ linked_with name (spelled_in p.names name.text)) p
event-named p q name k note event is =
    is ∙ ap (λ (t : UnitTextValue). record p { names = names_with name p.names; text = noted_in t (linked_with name (spelled_in p.names name.text)) }) event
    ∙ ap (λ (t : UnitTextValue). record p { names = names_with name p.names; text = t }) (sym (noted_in-append p.text (note ∷ []) (linked_with name (spelled_in p.names name.text))))

-- a name that is asked for
pub tested-known : (table : Table) (p q : Progress) (name : Token) → q ≡ named_in name (with_event kind.Tested name p) → q ≡ noted_at name (test_notes name (state_in table p)) p
tested-known table p q name is =
    event-named p q name kind.Tested (Tested name (length p.text.toks)) (event-tested p.text name (length p.text.toks)) is

-- a name that is taken away
undefined-known : (p q : Progress) (name : Token) → q ≡ named_in name (with_event kind.Undefined name p)
    → q ≡ noted_at name (Undefined name (length p.text.toks) ∷ linked_with name (spelled_in p.names name.text)) p
undefined-known p q name is =
    event-named p q name kind.Undefined (Undefined name (length p.text.toks)) (event-undefined p.text name (length p.text.toks)) is

-- a name that is left over
pub left-known : (p q : Progress) (name : Token) → q ≡ named_in name (with_event kind.Left name p)
    → q ≡ noted_at name (Left name (length p.text.toks) ∷ linked_with name (spelled_in p.names name.text)) p
left-known p q name is =
    event-named p q name kind.Left (Left name (length p.text.toks)) (event-left p.text name (length p.text.toks)) is

-- what is known behind a definition, the definition itself aside
pub define-known : (table : Table) (p q : Progress) (m : Definition) (t : UnitTextValue) → q ≡ named_in m.name (with_event kind.Defined m.name p)
    → t ≡ noted_in q.text (definition_links m) → record q { text = t } ≡ noted_at m.name (define_notes m (state_in table p)) p
define-known table p q m t is news =
    let step = event-named p q m.name kind.Defined (Defined m (length p.text.toks)) (event-defined p.text m (length p.text.toks)) is in
    ap (λ (x : Progress). record x { text = t }) step
    ∙ ap (λ (u : UnitTextValue). record p { names = names_with m.name p.names; text = u })
    (news ∙ ap (λ (x : Progress). noted_in x.text (definition_links m)) step
    ∙ sym (noted_in-append p.text (Defined m (length p.text.toks) ∷ linked_with m.name (spelled_in p.names m.name.text)) (definition_links m)))

-- ---- the state behind a name

names-cond : (s : State) (ns : List Token) (b : Bool) → cond b s (record s { names = ns }) ≡ record s { names = cond b s.names ns }
names-cond s ns true = refl
names-cond s ns false = refl

with_name-names : (name : Token) (s : State) → with_name name s ≡ record s { names = names_with name s.names }
with_name-names name s = names-cond s (s.names ++ name ∷ []) (is_some (spelled_in s.names name.text))

pub state-noted : (table : Table) (p q : Progress) (name : Token) (notes : List Note) → q ≡ noted_at name notes p → state_in table q ≡ with_name name (state_in table p)
state-noted table p q name notes is = ap (λ (x : Progress). state_in table x) is ∙ sym (with_name-names name (state_in table p))

pub able-noted : (p q : Progress) (name : Token) (notes : List Note) → q ≡ noted_at name notes p → IsAble p → IsAble q
able-noted p q name notes is able =
    subst (λ (x : Progress). IsAble x) (sym is) (record { few = able.few; low = able.low; little = able.little; traced = able.traced })

pub able-event : (p q : Progress) (k : EventKind) (name : Token) → q ≡ named_in name (with_event k name p) → IsAble p → IsAble q
able-event p q k name is able =
    subst (λ (x : Progress). IsAble x) (sym is) (record { few = able.few; low = able.low; little = able.little; traced = able.traced })

able-line : (p q : Progress) (name : Token) (notes : List Note) (new : Entries) → q ≡ noted_at name notes p → IsAble p → AllTraced (table_of new) → IsAble (record q { macros = new })
able-line p q name notes new is able traced =
    subst (λ (x : Progress). IsAble (record x { macros = new })) (sym is) (record { few = able.few; low = able.low; little = able.little; traced = traced })

-- ---- lines that change the macros

abbrev done : State → UnitTextValue → Result (State × UnitTextValue) Fault
done s k = Ok (s, k)

changed-line : (table : Table) (p q : Progress) (name : Token) (notes : List Note) (new : Entries) (macros : Macros) → q ≡ noted_at name notes p → table_of new ≡ macros
    → done (record (with_name name (state_in table p)) { macros = macros }) (put_in (noted_in p.text notes) []) ≡ done (state_in table (record q { macros = new })) q.text
changed-line table p q name notes new macros is news =
    ap (λ (s : State). done (record s { macros = macros }) (put_in (noted_in p.text notes) [])) (with_name-names name (state_in table p))
    ∙ ap (λ (ts : List Token). done (record (state_in table p) { names = names_with name p.names; macros = macros }) (record (noted_in p.text notes) { toks = ts })) (append-nil p.text.toks)
    ∙ ap (λ (t : Macros). done (record (state_in table p) { names = names_with name p.names; macros = t }) (noted_in p.text notes)) (sym news)
    ∙ ap (λ (x : Progress). done (state_in table (record x { macros = new })) x.text) (sym is)

-- what a line gives that defines this macro
abbrev line_defined : SourceFile → Pos → Definition → State → Bool → Outcome (List Token)
line_defined file at m s b = cond b (Ok (did [] (define_notes m s) (after_define m s))) (Err (fault_at file at BadDirective))

pub define-line : (gnu : Bool) (table : Table) (file : SourceFile) (at : Pos) (toks : List Token) (p q : Progress) (new : Entries) (d m : Definition) → defined_by toks ≡ Some d
    → may_define gnu d ≡ true → m ≡ in_gnu gnu d → q ≡ noted_at m.name (define_notes m (state_in table p)) p → table_of new ≡ with_macro m (table_of q.macros)
    → put_after p.text (define_of gnu file at toks (state_in table p)) ≡ Ok (state_in table (record q { macros = new }), q.text)
define-line gnu table file at toks p q new d m found may same is news =
    ap (λ (o : Option Definition). put_after p.text (defined_as gnu file at (state_in table p) o)) found
    ∙ ap (λ (b : Bool). put_after p.text (line_defined file at (in_gnu gnu d) (state_in table p) b)) may
    ∙ ap (λ (x : Definition). put_after p.text (line_defined file at x (state_in table p) true)) (sym same)
    ∙ changed-line table p q m.name (define_notes m (state_in table p)) new (with_macro m (table_of p.macros)) is
    (news ∙ ap (λ (x : Progress). with_macro m (table_of x.macros)) is)

-- a macro that such a unit has none of
pub define-refused : (gnu : Bool) (file : SourceFile) (at : Pos) (toks : List Token) (s : State) (k : UnitTextValue) (d : Definition) (q : Option Fault) → defined_by toks ≡ Some d
    → may_define gnu d ≡ false → IfSome q (λ f. f ≡ fault_at file at BadDirective) → IfSome q (λ f. put_after k (define_of gnu file at toks s) ≡ Err f)
define-refused gnu file at toks s k d None found may h = tt
define-refused gnu file at toks s k d (Some f) found may h =
    ap (λ (o : Option Definition). put_after k (defined_as gnu file at s o)) found
    ∙ ap (λ (b : Bool). put_after k (line_defined file at (in_gnu gnu d) s b)) may
    ∙ ap (λ (x : Fault). Err x) (sym h)

pub define-able : (p q : Progress) (new : Entries) (m : Definition) (notes : List Note) → q ≡ noted_at m.name notes p → table_of new ≡ with_macro m (table_of q.macros)
    → IsTrue (list_all is_traced m.body) → IsAble p → IsAble (record q { macros = new })
define-able p q new m notes is news traced able =
    able-line p q m.name notes new is able (traced-with_macro m (table_of q.macros) (table_of new) news traced (able-noted p q m.name notes is able).traced)

pub undef-line : (table : Table) (file : SourceFile) (at : Pos) (toks : List Token) (p q : Progress) (new : Entries) (name : Token) → Some name ≡ operand_in toks
    → q ≡ named_in name (with_event kind.Undefined name p) → table_of new ≡ without_macro name.text (table_of q.macros)
    → put_after p.text (undef_of file at toks (state_in table p)) ≡ Ok (state_in table (record q { macros = new }), q.text)
undef-line table file at toks p q new name found is news =
    let known = undefined-known p q name is in
    ap (λ (o : Option Token). put_after p.text (undefined_as file at (state_in table p) o)) (sym found)
    ∙ changed-line table p q name (Undefined name (length p.text.toks) ∷ linked_with name (spelled_in p.names name.text)) new (without_macro name.text (table_of p.macros)) known
    (news ∙ ap (λ (x : Progress). without_macro name.text (table_of x.macros)) known)

pub undef-able : (p q : Progress) (new : Entries) (name : Token) → q ≡ named_in name (with_event kind.Undefined name p) → table_of new ≡ without_macro name.text (table_of q.macros)
    → IsAble p → IsAble (record q { macros = new })
undef-able p q new name is news able =
    able-line p q name (Undefined name (length p.text.toks) ∷ linked_with name (spelled_in p.names name.text)) new (undefined-known p q name is) able
    (traced-without_macro name.text (table_of q.macros) (table_of new) news (able-event p q kind.Undefined name is able).traced)

-- ---- lines that ask for a name

abbrev told : Bool → State → UnitTextValue → Result (Bool × State × UnitTextValue) Fault
told b s k = Ok (b, s, k)

opposite-of : (b opposite : Bool) → not (beq b opposite) ≡ cond opposite (not b) b
opposite-of true true = refl
opposite-of true false = refl
opposite-of false true = refl
opposite-of false false = refl

pub asks-line : (table : Table) (file : SourceFile) (at : Pos) (opposite : Bool) (o : Option Token) (p q : Progress) (name : Token) (b : Bool) → Some name ≡ o
    → b ≡ is_macro name (state_in table p) → q ≡ noted_at name (test_notes name (state_in table p)) p
    → kept_after p.text (asks_name file at (λ x. cond opposite (not x) x) (state_in table p) o) ≡ Ok (not (beq b opposite), state_in table q, q.text)
asks-line table file at opposite o p q name b found known is =
    let v = cond opposite (not (is_macro name (state_in table p))) (is_macro name (state_in table p)) in
    ap (λ (x : Option Token). kept_after p.text (asks_name file at (λ x. cond opposite (not x) x) (state_in table p) x)) (sym found)
    ∙ ap (λ (s : State). told v s (noted_in p.text (test_notes name (state_in table p)))) (with_name-names name (state_in table p))
    ∙ ap (λ (x : Progress). told v (state_in table x) x.text) (sym is)
    ∙ ap (λ (x : Bool). told x (state_in table q) q.text) (ap (λ (x : Bool). cond opposite (not x) x) (sym known) ∙ sym (opposite-of b opposite))
