-- What is read of the notes of a unit.
use Rattle.std.proofs.Common.{◌≡◌, ℕ, zero, suc, Bool, true, false, List, [], ◌∷◌, ◌++◌, Option, Some, None, refl, sym, subst, inl, inr}
use Rattle.std.specs.Prelude.{slice_get}
use Rattle.std.specs.List.{flat_map}
use Rattle.std.proofs.lemmas.Option.{none-some, same_Some}
use Rattle.cs_base.specs.declared.positions.Pos.{Pos}
use Rattle.cs_base.specs.declared.tokens.Link.{Link}
use Rattle.cs_base.specs.Token.{Token, origin_at}
use Rattle.cs_base.proofs.ListLemmas.{in_front}
use Rattle.macro_body.specs.Notes as expansion
use Rattle.unit_steps.specs.declared.events.Event.{Event}
use Rattle.unit_steps.specs.declared.events.EventKind.{EventKind}
use Rattle.unit_steps.specs.declared.events.EventKind.TheVariants as kind
use Rattle.unit_steps.specs.Notes.{Note, Reaches, Happened, Defined, Undefined, Tested, Left, Linked, Answered, Named, Entered, Exited, ReadOnce, links_of, links_then, pasted_of, pasted_then, stringized_of, stringized_then, header_of, answers_of, answers_then, events_of, events_then, named_event, file_event, before_in}
use Rattle.unit_steps.specs.Texts.{UnitTextValue, unit_text}
use Rattle.expansion_laws.specs.Telling.{AreAlike}
use Rattle.expansion_laws.proofs.ListLemmas.{AllToks, toks_more}
use Rattle.unit_laws.specs.UnitLinks.{IsIn}
use Rattle.unit_laws.proofs.DoneLemmas.{AllIn, all_both, PlaceHas, IsBrought, HappenedSo, NotedSo}
use Rattle.unit_laws.proofs.PartLemmas.{toks_both}

-- ---- lists

pub in_at : {X : Type 0} (Q : X → Type 0) (xs : List X) → AllIn Q xs → (x : X) (k : ℕ) → slice_get xs k ≡ Some x → Q x
in_at Q [] h x k e = absurd (none-some x e)
in_at Q (y ∷ ys) h x zero e = subst Q (same_Some y x e) h.0
in_at Q (y ∷ ys) h x (suc k) e = in_at Q ys h.1 x k e

pub each_in : {X : Type 0} (Q : X → Type 0) (xs : List X) → ((x : X) (k : ℕ) → slice_get xs k ≡ Some x → Q x) → AllIn Q xs
each_in Q [] h = tt
each_in Q (x ∷ xs) h = (h x 0 refl, each_in Q xs (λ y k e. h y (suc k) e))

in_back : {X : Type 0} (xs ys : List X) (x : X) (k : ℕ) → slice_get ys k ≡ Some x → IsIn (xs ++ ys) x
in_back [] ys x k e = (k, e)
in_back (y ∷ xs) ys x k e = let i = in_back xs ys x k e in (suc i.0, i.1)

pub flat_in : {X : Type 0} (f : Note → List X) (notes : List Note) (n : Note) (x : X) (k : ℕ) → slice_get notes k ≡ Some n → IsIn (f n) x → IsIn (flat_map f notes) x
flat_in f [] n x k e at = absurd (none-some n e)
flat_in f (m ∷ notes) n x zero e at =
    let here : IsIn (f m) x = subst (λ (o : Note). IsIn (f o) x) (sym (same_Some m n e)) at in
    (here.0, in_front (f m) (flat_map f notes) x here.0 here.1)
flat_in f (m ∷ notes) n x (suc k) e at =
    let there = flat_in f notes n x k e at in
    in_back (f m) (flat_map f notes) x there.0 there.1

-- ---- what is read of notes

-- of a link, of an event, and of the text of a unit
abbrev pub LinkHas : (Token → Type 0) → Link → Type 0
LinkHas P l = P l.x × P l.y × AreAlike l.x l.y

pub record EventHas (P : Token → Type 0) (e : Event) : Type 0 where
  pub name : (name : Token) → e.name ≡ Some name → P name
  pub at : PlaceHas P e.at

pub record TextHas (P : Token → Type 0) (text : UnitTextValue) : Type 0 where
  pub toks : AllToks P text.toks
  pub links : AllIn (LinkHas P) text.links
  pub pasted : AllToks P text.pasted
  pub stringized : AllToks P text.stringized
  pub header : AllToks P text.header
  pub answers : AllToks P text.answers
  pub answered : AllToks IsBrought text.answers
  pub events : AllIn (EventHas P) text.events

module _ (P : Token → Type 0) where
  flat_has : {X : Type 0} (Q : X → Type 0) (f : Note → List X) → ((n : Note) → NotedSo P n → AllIn Q (f n)) → (notes : List Note) → AllIn (NotedSo P) notes → AllIn Q (flat_map f notes)
  flat_has Q f h [] so = tt
  flat_has Q f h (n ∷ notes) so = all_both Q (f n) (flat_map f notes) (h n so.0) (flat_has Q f h notes so.1)

  flat_toks : (f : Note → List Token) → ((n : Note) → NotedSo P n → AllToks P (f n)) → (notes : List Note) → AllIn (NotedSo P) notes → AllToks P (flat_map f notes)
  flat_toks f h [] so = tt
  flat_toks f h (n ∷ notes) so = toks_both P (f n) (flat_map f notes) (h n so.0) (flat_toks f h notes so.1)

  links_then_have : (n : expansion.Note) → HappenedSo P n → AllIn (LinkHas P) (links_then n)
  links_then_have (expansion.Linked x y) h = ((h.0, h.1, h.2), tt)
  links_then_have (expansion.Replaced name m more) h = tt
  links_then_have (expansion.Stringized toks s) h = tt
  links_then_have (expansion.Pasted x y z) h = tt
  links_then_have (expansion.Counted z) h = tt

  links_have : (n : Note) → NotedSo P n → AllIn (LinkHas P) (links_of n)
  links_have (Linked x y) h = ((h.0, h.1, h.2), tt)
  links_have (Happened run before n) h = links_then_have n h
  links_have (Reaches file item evaluated before) h = tt
  links_have (Defined m before) h = tt
  links_have (Undefined name before) h = tt
  links_have (Tested name before) h = tt
  links_have (Left name before) h = tt
  links_have (Answered t) h = tt
  links_have (Named toks) h = tt
  links_have (Entered at file before) h = tt
  links_have (Exited at file before) h = tt
  links_have (ReadOnce passed at file before) h = tt

  pasted_then_has : (n : expansion.Note) → HappenedSo P n → AllToks P (pasted_then n)
  pasted_then_has (expansion.Linked x y) h = tt
  pasted_then_has (expansion.Replaced name m more) h = tt
  pasted_then_has (expansion.Stringized toks s) h = tt
  pasted_then_has (expansion.Pasted x y z) h = (h.2, tt)
  pasted_then_has (expansion.Counted z) h = tt

  pasted_has : (n : Note) → NotedSo P n → AllToks P (pasted_of n)
  pasted_has (Happened run before n) h = pasted_then_has n h
  pasted_has (Linked x y) h = tt
  pasted_has (Reaches file item evaluated before) h = tt
  pasted_has (Defined m before) h = tt
  pasted_has (Undefined name before) h = tt
  pasted_has (Tested name before) h = tt
  pasted_has (Left name before) h = tt
  pasted_has (Answered t) h = tt
  pasted_has (Named toks) h = tt
  pasted_has (Entered at file before) h = tt
  pasted_has (Exited at file before) h = tt
  pasted_has (ReadOnce passed at file before) h = tt

  stringized_then_has : (n : expansion.Note) → HappenedSo P n → AllToks P (stringized_then n)
  stringized_then_has (expansion.Linked x y) h = tt
  stringized_then_has (expansion.Replaced name m more) h = tt
  stringized_then_has (expansion.Stringized toks s) h = h.0
  stringized_then_has (expansion.Pasted x y z) h = tt
  stringized_then_has (expansion.Counted z) h = tt

  stringized_has : (n : Note) → NotedSo P n → AllToks P (stringized_of n)
  stringized_has (Happened run before n) h = stringized_then_has n h
  stringized_has (Linked x y) h = tt
  stringized_has (Reaches file item evaluated before) h = tt
  stringized_has (Defined m before) h = tt
  stringized_has (Undefined name before) h = tt
  stringized_has (Tested name before) h = tt
  stringized_has (Left name before) h = tt
  stringized_has (Answered t) h = tt
  stringized_has (Named toks) h = tt
  stringized_has (Entered at file before) h = tt
  stringized_has (Exited at file before) h = tt
  stringized_has (ReadOnce passed at file before) h = tt

  header_has : (n : Note) → NotedSo P n → AllToks P (header_of n)
  header_has (Named toks) h = h
  header_has (Happened run before n) h = tt
  header_has (Linked x y) h = tt
  header_has (Reaches file item evaluated before) h = tt
  header_has (Defined m before) h = tt
  header_has (Undefined name before) h = tt
  header_has (Tested name before) h = tt
  header_has (Left name before) h = tt
  header_has (Answered t) h = tt
  header_has (Entered at file before) h = tt
  header_has (Exited at file before) h = tt
  header_has (ReadOnce passed at file before) h = tt

  answers_then_have : (n : expansion.Note) → HappenedSo P n → AllToks (λ t. P t × IsBrought t) (answers_then n)
  answers_then_have (expansion.Counted z) h = ((h.0, inr h.1), tt)
  answers_then_have (expansion.Linked x y) h = tt
  answers_then_have (expansion.Replaced name m more) h = tt
  answers_then_have (expansion.Stringized toks s) h = tt
  answers_then_have (expansion.Pasted x y z) h = tt

  answers_have : (n : Note) → NotedSo P n → AllToks (λ t. P t × IsBrought t) (answers_of n)
  answers_have (Answered t) h = ((h.0, inl h.1), tt)
  answers_have (Named toks) h = tt
  answers_have (Happened run before n) h = answers_then_have n h
  answers_have (Linked x y) h = tt
  answers_have (Reaches file item evaluated before) h = tt
  answers_have (Defined m before) h = tt
  answers_have (Undefined name before) h = tt
  answers_have (Tested name before) h = tt
  answers_have (Left name before) h = tt
  answers_have (Entered at file before) h = tt
  answers_have (Exited at file before) h = tt
  answers_have (ReadOnce passed at file before) h = tt

  flat_answers : (notes : List Note) → AllIn (NotedSo P) notes → AllToks (λ t. P t × IsBrought t) (flat_map answers_of notes)
  flat_answers [] so = tt
  flat_answers (n ∷ notes) so = toks_both (λ t. P t × IsBrought t) (answers_of n) (flat_map answers_of notes) (answers_have n so.0) (flat_answers notes so.1)

  named_has : (k : EventKind) (t : Token) (def : Option Pos) (before : ℕ) → P t → EventHas P (named_event k t def before)
  named_has k t def before h = record { name = λ name e. subst P (same_Some t name e) h; at = (t, (h, refl)) }

  file_has : (k : EventKind) (at : Pos) (file before : ℕ) → PlaceHas P at → EventHas P (file_event k at file before)
  file_has k at file before h = record { name = λ name e. absurd (none-some name e); at = h }

  events_then_have : (run : Bool) (before : ℕ) (n : expansion.Note) → HappenedSo P n → AllIn (EventHas P) (events_then run before n)
  events_then_have run before (expansion.Replaced name m more) h = (named_has kind.Replaced name (origin_at m 0) (before_in run before more) h, tt)
  events_then_have run before (expansion.Linked x y) h = tt
  events_then_have run before (expansion.Stringized toks s) h = tt
  events_then_have run before (expansion.Pasted x y z) h = tt
  events_then_have run before (expansion.Counted z) h = tt

  events_have : (n : Note) → NotedSo P n → AllIn (EventHas P) (events_of n)
  events_have (Happened run before n) h = events_then_have run before n h
  events_have (Defined m before) h = (named_has kind.Defined m.name None before h, tt)
  events_have (Undefined name before) h = (named_has kind.Undefined name None before h, tt)
  events_have (Tested name before) h = (named_has kind.Tested name None before h, tt)
  events_have (Left name before) h = (named_has kind.Left name None before h, tt)
  events_have (Entered at file before) h = (file_has kind.Enter at file before h, tt)
  events_have (Exited at file before) h = (file_has kind.Leave at file before h, tt)
  events_have (ReadOnce true at file before) h = (file_has kind.Passed at file before h, tt)
  events_have (ReadOnce false at file before) h = (file_has kind.Once at file before h, tt)
  events_have (Linked x y) h = tt
  events_have (Reaches file item evaluated before) h = tt
  events_have (Answered t) h = tt
  events_have (Named toks) h = tt

  pub text_has : (toks : List Token) (notes : List Note) → AllToks P toks → AllIn (NotedSo P) notes → TextHas P (unit_text toks notes)
  text_has toks notes h so = record {
    toks = h;
    links = flat_has (LinkHas P) links_of links_have notes so;
    pasted = flat_toks pasted_of pasted_has notes so;
    stringized = flat_toks stringized_of stringized_has notes so;
    header = flat_toks header_of header_has notes so;
    answers = (let both = flat_answers notes so in toks_more (λ t. P t × IsBrought t) P (flat_map answers_of notes) both (λ t h. h.0));
    answered = (let both = flat_answers notes so in toks_more (λ t. P t × IsBrought t) IsBrought (flat_map answers_of notes) both (λ t h. h.1));
    events = flat_has (EventHas P) events_of events_have notes so;
  }
