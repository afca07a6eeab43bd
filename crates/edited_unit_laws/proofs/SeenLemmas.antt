-- What callers see of a unit, renamed.
use Rattle.std.proofs.Common.{◌≡◌, ℕ, ◌+◌, Bool, true, false, List, [], ◌∷◌, ◌++◌, length, map, Result, Ok, refl, ap, sym, ◌∙◌}
use Rattle.std.specs.List.{flat_map}
use Rattle.std.proofs.lemmas.List.{map-append, length-map}
use Rattle.cs_base.specs.Token.{Token}
use Rattle.macro_body.specs.Notes as expansion
use Rattle.macro_expand.specs.Renaming.{Renaming, renamed, renamed_note}
use Rattle.unit_steps.specs.declared.events.Event.{Event}
use Rattle.unit_steps.specs.declared.events.EventKind.TheVariants as kind
use Rattle.unit_steps.specs.declared.events.Reached.{Reached}
use Rattle.source_files.specs.Faults.{Fault}
use Rattle.source_files.specs.Files.{carried}
use Rattle.unit_steps.specs.Notes.{Note, Reaches, Happened, Defined, Undefined, Tested, Left, Linked, Answered, Named, Entered, Exited, ReadOnce, links_then, pasted_then, stringized_then, events_then, links_of, pasted_of, stringized_of, header_of, answers_of, answers_then, events_of, reached_of, named_event, before_in}
use Rattle.unit_steps.specs.Texts.{UnitTextValue, reached_in, unit_text}
use Rattle.include_tree.specs.Preprocessed.{Preprocessed, preprocessed_by, preprocessed}
use Rattle.edited_unit_laws.specs.Lines.{Each}
use Rattle.edited_unit_laws.specs.Keeping.{Change}
use Rattle.edited_unit_laws.specs.Renamed.{renamed_happening}
use Rattle.edited_unit_laws.specs.UnitTexts.{renamed_link, renamed_event, renamed_text, renamed_unit, MovesMacro, UnitTextsAreRenamed}
use Rattle.edited_unit_laws.proofs.UnitLemmas.{units_are_renamed}
use Rattle.analysis.specs.Changed.{edited_table}

-- ---- each note

link-renamed : (r : Renaming) (n : expansion.Note) → links_then (renamed_note r n) ≡ map (renamed_link r) (links_then n)
link-renamed r (expansion.Replaced name m more) = refl
link-renamed r (expansion.Linked x y) = refl
link-renamed r (expansion.Stringized toks s) = refl
link-renamed r (expansion.Pasted x y z) = refl
link-renamed r (expansion.Counted z) = refl

paste-renamed : (r : Renaming) (n : expansion.Note) → pasted_then (renamed_note r n) ≡ map (renamed r) (pasted_then n)
paste-renamed r (expansion.Replaced name m more) = refl
paste-renamed r (expansion.Linked x y) = refl
paste-renamed r (expansion.Stringized toks s) = refl
paste-renamed r (expansion.Pasted x y z) = refl
paste-renamed r (expansion.Counted z) = refl

string-renamed : (r : Renaming) (n : expansion.Note) → stringized_then (renamed_note r n) ≡ map (renamed r) (stringized_then n)
string-renamed r (expansion.Replaced name m more) = refl
string-renamed r (expansion.Linked x y) = refl
string-renamed r (expansion.Stringized toks s) = refl
string-renamed r (expansion.Pasted x y z) = refl
string-renamed r (expansion.Counted z) = refl

answer-renamed : (r : Renaming) (n : expansion.Note) → answers_then (renamed_note r n) ≡ map (renamed r) (answers_then n)
answer-renamed r (expansion.Replaced name m more) = refl
answer-renamed r (expansion.Linked x y) = refl
answer-renamed r (expansion.Stringized toks s) = refl
answer-renamed r (expansion.Pasted x y z) = refl
answer-renamed r (expansion.Counted z) = refl

links-renamed : (r : Renaming) (n : Note) → links_of (renamed_happening r n) ≡ map (renamed_link r) (links_of n)
links-renamed r (Reaches file item evaluated before) = refl
links-renamed r (Happened run before n) = link-renamed r n
links-renamed r (Defined m before) = refl
links-renamed r (Undefined name before) = refl
links-renamed r (Tested name before) = refl
links-renamed r (Left name before) = refl
links-renamed r (Linked x y) = refl
links-renamed r (Answered t) = refl
links-renamed r (Named toks) = refl
links-renamed r (Entered at file before) = refl
links-renamed r (Exited at file before) = refl
links-renamed r (ReadOnce passed at file before) = refl

pasted-renamed : (r : Renaming) (n : Note) → pasted_of (renamed_happening r n) ≡ map (renamed r) (pasted_of n)
pasted-renamed r (Reaches file item evaluated before) = refl
pasted-renamed r (Happened run before n) = paste-renamed r n
pasted-renamed r (Defined m before) = refl
pasted-renamed r (Undefined name before) = refl
pasted-renamed r (Tested name before) = refl
pasted-renamed r (Left name before) = refl
pasted-renamed r (Linked x y) = refl
pasted-renamed r (Answered t) = refl
pasted-renamed r (Named toks) = refl
pasted-renamed r (Entered at file before) = refl
pasted-renamed r (Exited at file before) = refl
pasted-renamed r (ReadOnce passed at file before) = refl

stringized-renamed : (r : Renaming) (n : Note) → stringized_of (renamed_happening r n) ≡ map (renamed r) (stringized_of n)
stringized-renamed r (Reaches file item evaluated before) = refl
stringized-renamed r (Happened run before n) = string-renamed r n
stringized-renamed r (Defined m before) = refl
stringized-renamed r (Undefined name before) = refl
stringized-renamed r (Tested name before) = refl
stringized-renamed r (Left name before) = refl
stringized-renamed r (Linked x y) = refl
stringized-renamed r (Answered t) = refl
stringized-renamed r (Named toks) = refl
stringized-renamed r (Entered at file before) = refl
stringized-renamed r (Exited at file before) = refl
stringized-renamed r (ReadOnce passed at file before) = refl

header-renamed : (r : Renaming) (n : Note) → header_of (renamed_happening r n) ≡ map (renamed r) (header_of n)
header-renamed r (Reaches file item evaluated before) = refl
header-renamed r (Happened run before n) = refl
header-renamed r (Defined m before) = refl
header-renamed r (Undefined name before) = refl
header-renamed r (Tested name before) = refl
header-renamed r (Left name before) = refl
header-renamed r (Linked x y) = refl
header-renamed r (Answered t) = refl
header-renamed r (Named toks) = refl
header-renamed r (Entered at file before) = refl
header-renamed r (Exited at file before) = refl
header-renamed r (ReadOnce passed at file before) = refl

answers-renamed : (r : Renaming) (n : Note) → answers_of (renamed_happening r n) ≡ map (renamed r) (answers_of n)
answers-renamed r (Reaches file item evaluated before) = refl
answers-renamed r (Happened run before n) = answer-renamed r n
answers-renamed r (Defined m before) = refl
answers-renamed r (Undefined name before) = refl
answers-renamed r (Tested name before) = refl
answers-renamed r (Left name before) = refl
answers-renamed r (Linked x y) = refl
answers-renamed r (Answered t) = refl
answers-renamed r (Named toks) = refl
answers-renamed r (Entered at file before) = refl
answers-renamed r (Exited at file before) = refl
answers-renamed r (ReadOnce passed at file before) = refl

event-renamed : (c : Change) (run : Bool) (before : ℕ) (n : expansion.Note) → MovesMacro c (Happened run before n)
    → events_then run before (renamed_note c.renaming n) ≡ map (renamed_event c.renaming) (events_then run before n)
event-renamed c run before (expansion.Replaced name m more) h =
    ap (λ o. named_event kind.Replaced (renamed c.renaming name) o (before_in run before more) ∷ []) h
event-renamed c run before (expansion.Linked x y) h = refl
event-renamed c run before (expansion.Stringized toks s) h = refl
event-renamed c run before (expansion.Pasted x y z) h = refl
event-renamed c run before (expansion.Counted z) h = refl

events-renamed : (c : Change) (n : Note) → MovesMacro c n → events_of (renamed_happening c.renaming n) ≡ map (renamed_event c.renaming) (events_of n)
events-renamed c (Reaches file item evaluated before) h = refl
events-renamed c (Happened run before n) h = event-renamed c run before n h
events-renamed c (Defined m before) h = refl
events-renamed c (Undefined name before) h = refl
events-renamed c (Tested name before) h = refl
events-renamed c (Left name before) h = refl
events-renamed c (Linked x y) h = refl
events-renamed c (Answered t) h = refl
events-renamed c (Named toks) h = refl
events-renamed c (Entered at file before) h = refl
events-renamed c (Exited at file before) h = refl
events-renamed c (ReadOnce true at file before) h = refl
events-renamed c (ReadOnce false at file before) h = refl

-- the same item is reached
reached-same : (r : Renaming) (events : ℕ) (n : Note) → reached_of events (renamed_happening r n) ≡ reached_of events n
reached-same r events (Reaches file item evaluated before) = refl
reached-same r events (Happened run before n) = refl
reached-same r events (Defined m before) = refl
reached-same r events (Undefined name before) = refl
reached-same r events (Tested name before) = refl
reached-same r events (Left name before) = refl
reached-same r events (Linked x y) = refl
reached-same r events (Answered t) = refl
reached-same r events (Named toks) = refl
reached-same r events (Entered at file before) = refl
reached-same r events (Exited at file before) = refl
reached-same r events (ReadOnce true at file before) = refl
reached-same r events (ReadOnce false at file before) = refl

-- ---- all notes

flat-renamed : {X : Type 0} (r : Renaming) (f : Note → List X) (g : X → X) (notes : List Note) → ((n : Note) → f (renamed_happening r n) ≡ map g (f n))
    → flat_map f (map (renamed_happening r) notes) ≡ map g (flat_map f notes)
flat-renamed r f g [] h = refl
flat-renamed r f g (n ∷ notes) h =
    ap (λ xs. xs ++ flat_map f (map (renamed_happening r) notes)) (h n) ∙ ap (λ xs. map g (f n) ++ xs) (flat-renamed r f g notes h) ∙ sym (map-append g (f n) (flat_map f notes))

all-events : (c : Change) (notes : List Note) → Each (MovesMacro c) notes → flat_map events_of (map (renamed_happening c.renaming) notes) ≡ map (renamed_event c.renaming) (flat_map events_of notes)
all-events c [] h = refl
all-events c (n ∷ notes) h =
    ap (λ (es : List Event). es ++ flat_map events_of (map (renamed_happening c.renaming) notes)) (events-renamed c n h.0)
    ∙ ap (λ (es : List Event). map (renamed_event c.renaming) (events_of n) ++ es) (all-events c notes h.1)
    ∙ sym (map-append (renamed_event c.renaming) (events_of n) (flat_map events_of notes))

all-reached : (c : Change) (events : ℕ) (notes : List Note) → Each (MovesMacro c) notes → reached_in events (map (renamed_happening c.renaming) notes) ≡ reached_in events notes
unfolding reached_in
all-reached c events [] h = refl
all-reached c events (n ∷ notes) h =
    let len : length (events_of (renamed_happening c.renaming n)) ≡ length (events_of n) = ap length (events-renamed c n h.0) ∙ length-map (events_of n) (renamed_event c.renaming) in
    ap (λ (rs : List Reached). rs ++ reached_in (events + length (events_of (renamed_happening c.renaming n))) (map (renamed_happening c.renaming) notes)) (reached-same c.renaming events n)
    ∙ ap (λ (k : ℕ). reached_of events n ++ reached_in (events + k) (map (renamed_happening c.renaming) notes)) len
    ∙ ap (λ (rs : List Reached). reached_of events n ++ rs) (all-reached c (events + length (events_of n)) notes h.1)

text-renamed : (c : Change) (toks : List Token) (notes : List Note) → Each (MovesMacro c) notes
    → unit_text (map (renamed c.renaming) toks) (map (renamed_happening c.renaming) notes) ≡ renamed_text c.renaming (unit_text toks notes)
text-renamed c toks notes h =
    let r : Renaming = c.renaming in
    let ts : List Token = map (renamed r) toks in
    rw (
      flat-renamed r links_of (renamed_link r) notes (links-renamed r),
      flat-renamed r pasted_of (renamed r) notes (pasted-renamed r),
      flat-renamed r stringized_of (renamed r) notes (stringized-renamed r),
      flat-renamed r header_of (renamed r) notes (header-renamed r),
      flat-renamed r answers_of (renamed r) notes (answers-renamed r),
      all-reached c 0 notes h,
      all-events c notes h,
    ) refl

seen-by : (old : Result Preprocessed Fault) (p q : Preprocessed) → old ≡ Ok p → old ≡ Ok q → p ≡ q
seen-by old p q h k = (let same : ◌≡◌ {A = Result Preprocessed Fault} (Ok p) (Ok q) = sym h ∙ k in cc)

pub unit_texts_are_renamed : UnitTextsAreRenamed
unfolding preprocessed
unit_texts_are_renamed = λ c old new number unit before d p is seen reach keeps moves.
    let anew = units_are_renamed c old new number unit before d is reach keeps in
    let q : Preprocessed = record { text = unit_text d.value d.notes; after = carried d.state.table (before.toks + length d.value) } in
    let was : p ≡ q = seen-by (preprocessed old number unit before) p q seen (ap (preprocessed_by before.toks) is) in
    ap (preprocessed_by before.toks) anew.1
    ∙ ap (λ (t : UnitTextValue). Ok (record { text = t; after = carried (edited_table c.editing d.state.table) (before.toks + length (map (renamed c.renaming) d.value)) })) (text-renamed c d.value d.notes moves)
    ∙ ap (λ (n : ℕ). Ok (record { text = renamed_text c.renaming (unit_text d.value d.notes); after = carried (edited_table c.editing d.state.table) (before.toks + n) })) (length-map d.value (renamed c.renaming))
    ∙ ap (λ (x : Preprocessed). Ok (renamed_unit c.editing c.renaming x)) (sym was)
