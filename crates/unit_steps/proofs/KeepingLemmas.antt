-- What is kept, step by step.
use Rattle.std.proofs.Common.{◌≡◌, ℕ, ◌+◌, Bool, List, [], ◌∷◌, ◌++◌, map, length, Ok, Err, refl, sym, ◌∙◌, ap, append_assoc, arith, length-append}
use Rattle.std.specs.List.{flat_map}
use Rattle.std.proofs.lemmas.List.{append-nil}
use Rattle.std.proofs.lemmas.List.Concat.{flat_map-append}
use Rattle.cs_base.specs.Token.{Token}
use Rattle.cs_base.specs.declared.tokens.Link.{Link}
use Rattle.macro_expand.specs.Below.macro_body.Notes as expansion
use Rattle.macro_expand.specs.Below.macro_body.Kept.{kept, kept_with, link_of, replacement_of}
use Rattle.macro_expand.proofs.Below.macro_body.KeptLemmas.{behind_both}
use Rattle.unit_steps.specs.declared.events.Event.{Event}
use Rattle.unit_steps.specs.declared.events.Reached.{Reached}
use Rattle.unit_steps.specs.Notes.{Note, Happened, links_of, pasted_of, stringized_of, header_of, answers_of, events_of, reached_of}
use Rattle.unit_steps.specs.State.{Outcome, noted}
use Rattle.unit_steps.specs.Texts.{UnitTextValue, text_of, reached_in}
use Rattle.unit_steps.specs.Keeping.{noted_in, put_in, replaced_event, expanded_into, kept_after, put_after}

reached_in-append : (n : ℕ) (xs ys : List Note) → reached_in n (xs ++ ys) ≡ reached_in n xs ++ reached_in (n + length (flat_map events_of xs)) ys
unfolding reached_in
reached_in-append n [] ys = let z : n + 0 ≡ n = omega arith in rw z refl
reached_in-append n (x ∷ xs) ys =
    let m : (n + length (events_of x)) + length (flat_map events_of xs) ≡ n + length (flat_map events_of (x ∷ xs)) =
    omega (arith, length-append (events_of x) (flat_map events_of xs)) in
    ap (λ (r : List Reached). reached_of n x ++ r) (reached_in-append (n + length (events_of x)) xs ys)
    ∙ sym (append_assoc (reached_of n x) (reached_in (n + length (events_of x)) xs) (reached_in ((n + length (events_of x)) + length (flat_map events_of xs)) ys))
    ∙ ap (λ (k : ℕ). (reached_of n x ++ reached_in (n + length (events_of x)) xs) ++ reached_in k ys) m

-- What is kept of all is what is kept of the parts, one after the other.
pub noted_in-append : (k : UnitTextValue) (xs ys : List Note) → noted_in k (xs ++ ys) ≡ noted_in (noted_in k xs) ys
noted_in-append k xs ys =
    let links = behind_both k.links _ _ _ (flat_map-append links_of xs ys) in
    let pasted = behind_both k.pasted _ _ _ (flat_map-append pasted_of xs ys) in
    let stringized = behind_both k.stringized _ _ _ (flat_map-append stringized_of xs ys) in
    let header = behind_both k.header _ _ _ (flat_map-append header_of xs ys) in
    let answers = behind_both k.answers _ _ _ (flat_map-append answers_of xs ys) in
    let events = behind_both k.events _ _ _ (flat_map-append events_of xs ys) in
    let n : length k.events + length (flat_map events_of xs) ≡ length (k.events ++ flat_map events_of xs) =
    omega (arith, length-append k.events (flat_map events_of xs)) in
    let reached = behind_both k.reached (reached_in (length k.events) xs) (reached_in (length k.events + length (flat_map events_of xs)) ys) _ (reached_in-append (length k.events) xs ys)
    ∙ ap (λ (m : ℕ). (k.reached ++ reached_in (length k.events) xs) ++ reached_in m ys) n in
    λ i. text_of k.toks (links i) (pasted i) (stringized i) (header i) (answers i) (reached i) (events i)

-- Where nothing happened, nothing is kept besides.
pub noted_in-nil : (k : UnitTextValue) → noted_in k [] ≡ k
unfolding reached_in
noted_in-nil k =
    λ i. text_of k.toks (append-nil k.links i) (append-nil k.pasted i) (append-nil k.stringized i) (append-nil k.header i) (append-nil k.answers i) (append-nil k.reached i) (append-nil k.events i)

-- Where no tokens are put out, none are kept besides.
pub put-nil : (k : UnitTextValue) → put_in k [] ≡ k
put-nil k = ap (λ (toks : List Token). record k { toks = toks }) (append-nil k.toks)

-- ---- an expansion

abbrev wrapped : Bool → ℕ → List expansion.Note → List Note
wrapped run before notes = map (Happened run before) notes

links-wrapped : (run : Bool) (before : ℕ) (notes : List expansion.Note) → flat_map links_of (wrapped run before notes) ≡ map link_of (expansion.links_in notes)
links-wrapped run before [] = refl
links-wrapped run before (expansion.Replaced name m more ∷ notes) = links-wrapped run before notes
links-wrapped run before (expansion.Linked x y ∷ notes) = ap (λ (r : List Link). link_of (x, y) ∷ r) (links-wrapped run before notes)
links-wrapped run before (expansion.Stringized toks s ∷ notes) = links-wrapped run before notes
links-wrapped run before (expansion.Pasted x y z ∷ notes) = links-wrapped run before notes
links-wrapped run before (expansion.Counted z ∷ notes) = links-wrapped run before notes

pasted-wrapped : (run : Bool) (before : ℕ) (notes : List expansion.Note) → flat_map pasted_of (wrapped run before notes) ≡ expansion.pasted_in notes
pasted-wrapped run before [] = refl
pasted-wrapped run before (expansion.Replaced name m more ∷ notes) = pasted-wrapped run before notes
pasted-wrapped run before (expansion.Linked x y ∷ notes) = pasted-wrapped run before notes
pasted-wrapped run before (expansion.Stringized toks s ∷ notes) = pasted-wrapped run before notes
pasted-wrapped run before (expansion.Pasted x y z ∷ notes) = ap (λ (r : List Token). z ∷ r) (pasted-wrapped run before notes)
pasted-wrapped run before (expansion.Counted z ∷ notes) = pasted-wrapped run before notes

stringized-wrapped : (run : Bool) (before : ℕ) (notes : List expansion.Note) → flat_map stringized_of (wrapped run before notes) ≡ expansion.stringized_in notes
stringized-wrapped run before [] = refl
stringized-wrapped run before (expansion.Replaced name m more ∷ notes) = stringized-wrapped run before notes
stringized-wrapped run before (expansion.Linked x y ∷ notes) = stringized-wrapped run before notes
stringized-wrapped run before (expansion.Stringized toks s ∷ notes) = ap (λ (r : List Token). toks ++ r) (stringized-wrapped run before notes)
stringized-wrapped run before (expansion.Pasted x y z ∷ notes) = stringized-wrapped run before notes
stringized-wrapped run before (expansion.Counted z ∷ notes) = stringized-wrapped run before notes

events-wrapped : (run : Bool) (before : ℕ) (notes : List expansion.Note)
    → flat_map events_of (wrapped run before notes) ≡ map (replaced_event run before) (map replacement_of (expansion.replaced_in notes))
events-wrapped run before [] = refl
events-wrapped run before (expansion.Replaced name m more ∷ notes) =
    ap (λ (r : List Event). replaced_event run before (replacement_of (name, m, more)) ∷ r) (events-wrapped run before notes)
events-wrapped run before (expansion.Linked x y ∷ notes) = events-wrapped run before notes
events-wrapped run before (expansion.Stringized toks s ∷ notes) = events-wrapped run before notes
events-wrapped run before (expansion.Pasted x y z ∷ notes) = events-wrapped run before notes
events-wrapped run before (expansion.Counted z ∷ notes) = events-wrapped run before notes

header-wrapped : (run : Bool) (before : ℕ) (notes : List expansion.Note) → flat_map header_of (wrapped run before notes) ≡ []
header-wrapped run before [] = refl
header-wrapped run before (n ∷ notes) = header-wrapped run before notes

answers-wrapped : (run : Bool) (before : ℕ) (notes : List expansion.Note) → flat_map answers_of (wrapped run before notes) ≡ expansion.counted_in notes
answers-wrapped run before [] = refl
answers-wrapped run before (expansion.Replaced name m more ∷ notes) = answers-wrapped run before notes
answers-wrapped run before (expansion.Linked x y ∷ notes) = answers-wrapped run before notes
answers-wrapped run before (expansion.Stringized toks s ∷ notes) = answers-wrapped run before notes
answers-wrapped run before (expansion.Pasted x y z ∷ notes) = answers-wrapped run before notes
answers-wrapped run before (expansion.Counted z ∷ notes) = ap (λ (r : List Token). z ∷ r) (answers-wrapped run before notes)

reached-wrapped : (run : Bool) (before n : ℕ) (notes : List expansion.Note) → reached_in n (wrapped run before notes) ≡ []
unfolding reached_in
reached-wrapped run before n [] = refl
reached-wrapped run before n (x ∷ notes) = reached-wrapped run before (n + length (events_of (Happened run before x))) notes

behind_none : {A : Type 0} (k xs : List A) → xs ≡ [] → k ++ xs ≡ k
behind_none {A} k xs is = ap (λ (r : List A). k ++ r) is ∙ append-nil k

-- what is kept of an expansion by itself, behind what is kept
pub expanded_into-noted : (k : UnitTextValue) (run : Bool) (before : ℕ) (notes : List expansion.Note)
    → noted_in k (map (Happened run before) notes) ≡ expanded_into k run before (kept_with (kept [] [] [] [] []) notes)
expanded_into-noted k run before notes =
    let links = ap (λ (r : List Link). k.links ++ r) (links-wrapped run before notes) in
    let pasted = ap (λ (r : List Token). k.pasted ++ r) (pasted-wrapped run before notes) in
    let stringized = ap (λ (r : List Token). k.stringized ++ r) (stringized-wrapped run before notes) in
    let events = ap (λ (r : List Event). k.events ++ r) (events-wrapped run before notes) in
    let header = behind_none k.header _ (header-wrapped run before notes) in
    let answers = ap (λ (r : List Token). k.answers ++ r) (answers-wrapped run before notes) in
    let reached = behind_none k.reached _ (reached-wrapped run before (length k.events) notes) in
    λ i. text_of k.toks (links i) (pasted i) (stringized i) (header i) (answers i) (reached i) (events i)

-- ---- one step behind another

pub kept-noted : {A : Type 0} (k : UnitTextValue) (notes : List Note) (o : Outcome A) → kept_after k (noted notes o) ≡ kept_after (noted_in k notes) o
kept-noted {A} k notes (Ok d) = ap (λ (t : UnitTextValue). Ok (d.value, d.state, t)) (noted_in-append k notes d.notes)
kept-noted k notes (Err f) = refl

pub put-noted : (k : UnitTextValue) (notes : List Note) (o : Outcome (List Token)) → put_after k (noted notes o) ≡ put_after (noted_in k notes) o
put-noted k notes (Ok d) = ap (λ (t : UnitTextValue). Ok (d.state, put_in t d.value)) (noted_in-append k notes d.notes)
put-noted k notes (Err f) = refl
