-- Definitions that a unit reached: its links of their uses of parameters.
use Rattle.std.proofs.Common.{◌≡◌, ℕ, zero, suc, ◌+◌, Bool, true, false, List, [], ◌∷◌, ◌++◌, length, map, Option, Some, None, refl, sym, subst, ap, ◌∙◌}
use Rattle.std.specs.Prelude.{slice_get}
use Rattle.std.specs.List.{flat_map}
use Rattle.std.proofs.lemmas.Option.{none-some, same_Some}
use Rattle.cs_base.specs.declared.tokens.Link.{Link}
use Rattle.cs_base.specs.Token.{Token}
use Rattle.line_shape.specs.declared.items.ItemKind.{ItemKind}
use Rattle.line_shape.specs.declared.items.ItemKind.TheVariants as kind
use Rattle.line_shape.specs.Directives.{is_define}
use Rattle.macro_body.specs.declared.definitions.Definition.{Definition}
use Rattle.macro_body.specs.Defining.{defined_by, in_gnu}
use Rattle.macro_body.specs.Notes as expansion
use Rattle.macro_expand.specs.Expansion.{expansion}
use Rattle.unit_steps.specs.declared.events.Reached.{Reached}
use Rattle.source_files.specs.Files.{SourceFile, Table}
use Rattle.source_files.specs.Tables.{IsGrown}
use Rattle.unit_steps.specs.Names.{spelled_in, linked_with, name_links, with_name, parameter_named, definition_links}
use Rattle.unit_steps.specs.Notes.{Note, Reaches, Happened, Defined, Undefined, Tested, Left, Linked, Answered, Named, Entered, Exited, ReadOnce, reached, reached_of, links_of, events_of}
use Rattle.unit_steps.specs.State.{State}
use Rattle.source_files.specs.Sources.{source_at}
use Rattle.unit_steps.specs.Texts.{UnitTextValue, reached_in, unit_text}
use Rattle.include_tree.specs.Walk.{ItemText, items_in}
use Rattle.unit_steps.specs.Directives.{define_notes, after_define, after_undef}
use Rattle.unit_steps.specs.Conditions.{test_notes}
use Rattle.unit_laws.specs.UnitLinks.{IsIn}
use Rattle.unit_laws.proofs.NoteLemmas.{flat_in}
use Rattle.unit_laws.proofs.TextLemmas.{text_is}
use Rattle.unit_laws.specs.Uses.{UsesAreLinked}
use Rattle.unit_laws.proofs.StepLemmas.{IsItem, IsQuiet, StepRules, unit_goes}

-- ---- lists

in_left : {X : Type 0} (x : X) (xs ys : List X) → IsIn xs x → IsIn (xs ++ ys) x
in_left x [] ys i = absurd (none-some x i.1)
in_left x (y ∷ xs) ys (zero, e) = (0, e)
in_left x (y ∷ xs) ys (suc k, e) = let j = in_left x xs ys (k, e) in (suc j.0, j.1)

in_right : {X : Type 0} (x : X) (xs ys : List X) → IsIn ys x → IsIn (xs ++ ys) x
in_right x [] ys i = i
in_right x (y ∷ xs) ys i = let j = in_right x xs ys i in (suc j.0, j.1)

split_in : {X : Type 0} (G : Type 0) (x : X) (xs ys : List X) (k : ℕ) → slice_get (xs ++ ys) k ≡ Some x → (IsIn xs x → G) → (IsIn ys x → G) → G
split_in G x [] ys k e left right = right (k, e)
split_in G x (y ∷ xs) ys zero e left right = left (0, e)
split_in G x (y ∷ xs) ys (suc k) e left right = split_in G x xs ys k e (λ i. left (suc i.0, i.1)) right

-- ---- what is told of reached definitions

-- the notes have the links of the uses of parameters of a definition
record HasUses (notes : List Note) (i : ItemText) : Type 0 where
  definition : Definition
  defined : defined_by i.toks ≡ Some definition
  links : (note : Note) → IsIn (definition_links definition) note → IsIn notes note

-- an item of a file; if it is a definition, the notes have the links of its uses
record HasItem (table : Table) (notes : List Note) (number k : ℕ) : Type 0 where
  file : SourceFile
  is_kept : source_at table number ≡ Some file
  item : ItemText
  at : slice_get (items_in file) k ≡ Some item
  uses : item.kind ≡ kind.Define → HasUses notes item

-- so it is with each item that they tell to be reached
abbrev Uses : Table → State → List Note → State → Type 0
Uses table s notes t = (number k : ℕ) (evaluated : Bool) (before : ℕ) → IsIn notes (Reaches number k evaluated before) → HasItem table notes number k

later : (table : Table) (ns ms : List Note) (number k : ℕ) → ((note : Note) → IsIn ns note → IsIn ms note) → HasItem table ns number k → HasItem table ms number k
later table ns ms number k more h = record {
  file = h.file;
  is_kept = h.is_kept;
  item = h.item;
  at = h.at;
  uses = λ define. (let u = h.uses define in record { definition = u.definition; defined = u.defined; links = λ note j. more note (u.links note j) });
}

-- no item is told to be reached
abbrev IsNoReach : Note → Type 0
IsNoReach (Reaches number k evaluated before) = ⊥
IsNoReach _ = Unit {0}

abbrev NoReach : List Note → Type 0
NoReach [] = Unit {0}
NoReach (note ∷ notes) = IsNoReach note × NoReach notes

none_in : (notes : List Note) (number k : ℕ) (evaluated : Bool) (before j : ℕ) → NoReach notes → slice_get notes j ≡ Some (Reaches number k evaluated before) → ⊥
none_in [] number k evaluated before j h e = none-some _ e
none_in (note ∷ notes) number k evaluated before zero h e = subst IsNoReach (same_Some note (Reaches number k evaluated before) e) h.0
none_in (note ∷ notes) number k evaluated before (suc j) h e = none_in notes number k evaluated before j h.1 e

no_reach_both : (ns ms : List Note) → NoReach ns → NoReach ms → NoReach (ns ++ ms)
no_reach_both [] ms h k = k
no_reach_both (n ∷ ns) ms h k = (h.0, no_reach_both ns ms h.1 k)

linked_none : (name : Token) (o : Option Token) → NoReach (linked_with name o)
linked_none name None = tt
linked_none name (Some first) = (tt, tt)

links_none : (name : Token) (s : State) → NoReach (name_links name s)
links_none name s = linked_none name (spelled_in s.names name.text)

happened_none : (run : Bool) (before : ℕ) (notes : List expansion.Note) → NoReach (map (Happened run before) notes)
happened_none run before [] = tt
happened_none run before (n ∷ ns) = (tt, happened_none run before ns)

quiet_none : (note : Note) → IsQuiet note → NoReach (note ∷ [])
quiet_none (Answered t) quiet = (tt, tt)
quiet_none (Named toks) quiet = (tt, tt)
quiet_none (Entered at file before) quiet = (tt, tt)
quiet_none (Exited at file before) quiet = (tt, tt)
quiet_none (ReadOnce passed at file before) quiet = (tt, tt)
quiet_none (Reaches file item evaluated before) quiet = absurd quiet
quiet_none (Happened run before note) quiet = absurd quiet
quiet_none (Defined m before) quiet = absurd quiet
quiet_none (Undefined name before) quiet = absurd quiet
quiet_none (Tested name before) quiet = absurd quiet
quiet_none (Left name before) quiet = absurd quiet
quiet_none (Linked x y) quiet = absurd quiet

module _ (table : Table) where
  no_uses : (s t : State) (notes : List Note) → NoReach notes → Uses table s notes t
  no_uses s t notes h = λ number k evaluated before there. absurd (none_in notes number k evaluated before there.0 h there.1)

  both_uses : (s t u : State) (ns ms : List Note) → Uses table s ns t → Uses table t ms u → Uses table s (ns ++ ms) u
  both_uses s t u ns ms h l = λ number k evaluated before there.
      split_in (HasItem table (ns ++ ms) number k) (Reaches number k evaluated before) ns ms there.0 there.1
      (λ j. later table ns (ns ++ ms) number k (λ note n. in_left note ns ms n) (h number k evaluated before j))
      (λ j. later table ms (ns ++ ms) number k (λ note n. in_right note ns ms n) (l number k evaluated before j))

  -- the item that a note reaches
  abbrev NoteHas : List Note → Note → Type 0
  NoteHas notes (Reaches number k evaluated before) = HasItem table notes number k
  NoteHas notes _ = Unit {0}

  -- notes of which the first reaches an item, and no other one
  first_uses : (s t : State) (number k : ℕ) (evaluated : Bool) (before : ℕ) (notes : List Note) → NoReach notes
      → HasItem table (Reaches number k evaluated before ∷ notes) number k → Uses table s (Reaches number k evaluated before ∷ notes) t
  first_uses s t number k evaluated before notes none h = λ number2 k2 e2 b2 there. by number2 k2 e2 b2 there.0 there.1
    where
      by : (number2 k2 : ℕ) (e2 : Bool) (b2 n : ℕ) → slice_get (Reaches number k evaluated before ∷ notes) n ≡ Some (Reaches number2 k2 e2 b2)
          → HasItem table (Reaches number k evaluated before ∷ notes) number2 k2
      by number2 k2 e2 b2 zero e =
          subst (NoteHas (Reaches number k evaluated before ∷ notes)) (same_Some (Reaches number k evaluated before) (Reaches number2 k2 e2 b2) e) h
      by number2 k2 e2 b2 (suc n) e = absurd (none_in notes number2 k2 e2 b2 n none e)

  reaches_uses : (file : SourceFile) (k : ℕ) (i : ItemText) (evaluated : Bool) (s : State) → IsItem table file k i → is_define i.kind ≡ false
      → Uses table s (Reaches file.number k evaluated s.before ∷ []) s
  reaches_uses file k i evaluated s item other =
      first_uses s s file.number k evaluated s.before [] tt (record {
        file = file;
        is_kept = item.is_kept;
        item = i;
        at = item.at;
        uses = λ define. absurd (let wrong : is_define kind.Define ≡ false = ap is_define (sym define) ∙ other in cc);
      })

  uses_none : (params body : List Token) → NoReach (flat_map (λ t. linked_with t (parameter_named params t)) body)
  uses_none params [] = tt
  uses_none params (t ∷ body) =
      no_reach_both (linked_with t (parameter_named params t)) (flat_map (λ t. linked_with t (parameter_named params t)) body) (linked_none t (parameter_named params t)) (uses_none params body)

  define_none : (m : Definition) (s : State) → NoReach (define_notes m s)
  define_none m s = (tt, no_reach_both (name_links m.name s) (definition_links m) (links_none m.name s) (uses_none m.params m.body))

  defined_uses : (gnu : Bool) (file : SourceFile) (k : ℕ) (i : ItemText) (m : Definition) (s : State) → IsItem table file k i → defined_by i.toks ≡ Some m
      → Uses table s (Reaches file.number k false s.before ∷ define_notes (in_gnu gnu m) s) (after_define (in_gnu gnu m) s)
  defined_uses gnu file k i m s item defined =
      first_uses s (after_define (in_gnu gnu m) s) file.number k false s.before (define_notes (in_gnu gnu m) s) (define_none (in_gnu gnu m) s) (record {
        file = file;
        is_kept = item.is_kept;
        item = i;
        at = item.at;
        uses = λ define. record {
          definition = m;
          defined = defined;
          links = λ note there. (let far = in_right note (name_links m.name s) (definition_links m) there in (suc (suc far.0), far.1));
        };
      })

  step_rules : StepRules (Uses table) table
  step_rules = record {
    none = λ s. no_uses s s [] tt;
    both = both_uses;
    tables = λ s t. no_uses s (record s { table = t }) [] tt;
    counts = λ s n. no_uses s (record s { before = n }) [] tt;
    places = λ s behind. no_uses s (record s { behind = behind }) [] tt;
    once = λ s numbers. no_uses s (record s { once = numbers }) [] tt;
    expands = λ run path toks s e is. no_uses s (record s { work = e.left }) (map (Happened run s.before) e.notes) (happened_none run s.before e.notes);
    tested = λ name s. no_uses s (with_name name s) (test_notes name s) (tt, links_none name s);
    left = λ name s. no_uses s (with_name name s) (Left name s.before ∷ name_links name s) (tt, links_none name s);
    undefined = λ name s. no_uses s (after_undef name s) (Undefined name s.before ∷ name_links name s) (tt, links_none name s);
    quiet = λ note s quiet. no_uses s s (note ∷ []) (quiet_none note quiet);
    defined = λ gnu file k i m s item is by. defined_uses gnu file k i m s item by;
    reaches = λ file k i evaluated s item other. reaches_uses file k i evaluated s item other;
  }

-- ---- what the text of a unit tells

-- an item is told to be reached where a note reaches it
record IsReachedBy (notes : List Note) (r : Reached) : Type 0 where
  evaluated : Bool
  before : ℕ
  told : IsIn notes (Reaches r.file r.item evaluated before)

reached_by : (events : ℕ) (note : Note) (r : Reached) → IsIn (reached_of events note) r → IsReachedBy (note ∷ []) r
reached_by events (Reaches file item evaluated before) r (zero, e) =
    let same = same_Some (reached file item evaluated events before) r e in
    let P : Reached → Type 0 = λ x. IsReachedBy (Reaches file item evaluated before ∷ []) x in
    subst P same (record { evaluated = evaluated; before = before; told = (0, refl) })
reached_by events (Reaches file item evaluated before) r (suc k, e) = absurd (none-some r e)
reached_by events (Happened run before note) r i = absurd (none-some r i.1)
reached_by events (Defined m before) r i = absurd (none-some r i.1)
reached_by events (Undefined name before) r i = absurd (none-some r i.1)
reached_by events (Tested name before) r i = absurd (none-some r i.1)
reached_by events (Left name before) r i = absurd (none-some r i.1)
reached_by events (Linked x y) r i = absurd (none-some r i.1)
reached_by events (Answered t) r i = absurd (none-some r i.1)
reached_by events (Named toks) r i = absurd (none-some r i.1)
reached_by events (Entered at file before) r i = absurd (none-some r i.1)
reached_by events (Exited at file before) r i = absurd (none-some r i.1)
reached_by events (ReadOnce true at file before) r i = absurd (none-some r i.1)
reached_by events (ReadOnce false at file before) r i = absurd (none-some r i.1)

reached_note : (events : ℕ) (notes : List Note) (r : Reached) → IsIn (reached_in events notes) r → IsReachedBy notes r
unfolding reached_in
reached_note events [] r i = absurd (none-some r i.1)
reached_note events (note ∷ notes) r i =
    split_in (IsReachedBy (note ∷ notes) r) r (reached_of events note) (reached_in (events + length (events_of note)) notes) i.0 i.1
    (λ j. let h = reached_by events note r j in
    record { evaluated = h.evaluated; before = h.before; told = (let told = h.told in in_left (Reaches r.file r.item h.evaluated h.before) (note ∷ []) notes told) })
    (λ j. let h = reached_note (events + length (events_of note)) notes r j in
    record { evaluated = h.evaluated; before = h.before; told = (let told = h.told in (suc told.0, told.1)) })

-- the links among the notes are those of the unit
links_flat : (notes more : List Note) (l : Link) → ((note : Note) → IsIn more note → IsIn notes note) → IsIn (flat_map links_of more) l → IsIn (flat_map links_of notes) l
links_flat notes [] l each i = absurd (none-some l i.1)
links_flat notes (m ∷ more) l each i =
    split_in (IsIn (flat_map links_of notes) l) l (links_of m) (flat_map links_of more) i.0 i.1
    (λ j. let at = each m (0, refl) in flat_in links_of notes m l at.0 at.1 j)
    (λ j. links_flat notes more l (λ note n. each note (suc n.0, n.1)) j)

pub uses_are_linked : UsesAreLinked
uses_are_linked = λ source number unit before p table is more r there.
    let t = text_is source number unit before p is in
    let d = t.did in
    let text : UnitTextValue = unit_text d.value d.notes in
    let grown : IsGrown d.state.table table = subst (λ (ft : Table). IsGrown ft table) (sym t.table) more in
    let uses = unit_goes (Uses table) source number unit before d table t.outcome grown (step_rules table) in
    let told : IsIn text.reached r = subst (λ (v : UnitTextValue). IsIn v.reached r) (sym t.text) there in
    let h = reached_note 0 d.notes r told in
    let has = uses r.file r.item h.evaluated h.before h.told in
    record {
      file = has.file;
      is_kept = has.is_kept;
      item = has.item;
      at = has.at;
      uses = λ define.
          let u = has.uses define in
          record {
            definition = u.definition;
            defined = u.defined;
            links = λ l j.
                let among : IsIn text.links l = links_flat d.notes (definition_links u.definition) l u.links j in
                subst (λ (v : UnitTextValue). IsIn v.links l) t.text among;
          };
    }
