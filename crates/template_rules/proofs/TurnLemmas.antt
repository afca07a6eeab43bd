-- Offences that are looked for in lists one after another are those that are looked for once, and then in these lists.
use Rattle.std.proofs.Common.{◌≡◌, ◌≤◌, zero, suc, Bool, false, List, [], ◌∷◌, ◌++◌, Option, Some, None, inl, inr, refl, sym, ap, subst, ◌∙◌}
use Rattle.std.specs.Prelude.{◌⊎◌, ◌&&◌, if◌then◌else◌, filter, nat_lt}
use Rattle.std.specs.List.{flat_map}
use Rattle.std.proofs.lemmas.Bool.{cases_Bool, le-ltb}
use Rattle.std.proofs.lemmas.Grind.{flat_map-append}
use Rattle.std.proofs.lemmas.List.{map-append}
use Rattle.std.proofs.lemmas.List.Folds.{flat_map-map}
use Rattle.cs_base.specs.Token.{Token}
use Rattle.cs_base.specs.declared.causes.Cause.{Cause}
use Rattle.cs_base.specs.declared.causes.Cause.TheVariants as cause
use Rattle.cs_base.specs.declared.positions.Pos.{Pos}
use Rattle.cs_base.proofs.ListLemmas.{flat_map_same as flat_same}
use Rattle.cs_base.proofs.BoolLemmas.{and_no}
use Rattle.c_types.specs.declared.lists.List.{List as NameList}
use Rattle.analysis.specs.Below.source_files.Files.{Table}
use Rattle.analysis.specs.Below.unit_steps.declared.events.Event.{Event}
use Rattle.analysis.specs.Below.scope_bind.declared.bound.Name.{Name}
use Rattle.analysis.specs.Below.scope_bind.Names.{entity_at}
use Rattle.offences.specs.declared.firsts.Offence.{Offence}
use Rattle.offences.specs.First.{offence, standing, IsAmong, IsFirst, FirstThen}
use Rattle.offences.proofs.FirstLemmas.{then_none}
use Rattle.template_rules.specs.declared.unit_functions.UnitFunctions.{UnitFunctions}
use Rattle.template_rules.specs.Functions.{is_list_of}
use Rattle.template_rules.specs.Insides.{list_insides}
use Rattle.template_rules.specs.MacroOffences.{is_line_number, line_number_place}
use Rattle.template_rules.specs.ScopeOffences.{is_inside, declares_more, declaration_place}
use Rattle.template_rules.proofs.FoundLemmas.{named_at}
use Rattle.template_rules.proofs.UnitLemmas.{insides_of}

-- ---- what stands in lists

left_among : {X : Type 0} (xs ys : List X) (x : X) → IsAmong xs x → IsAmong (xs ++ ys) x
left_among [] ys x (k, at) = absurd (cc)
left_among (z ∷ xs) ys x (zero, at) = (zero, at)
left_among (z ∷ xs) ys x (suc k, at) = let later = left_among xs ys x (k, at) in (suc later.0, later.1)

right_among : {X : Type 0} (xs ys : List X) (x : X) → IsAmong ys x → IsAmong (xs ++ ys) x
right_among [] ys x is = is
right_among (z ∷ xs) ys x is = let later = right_among xs ys x is in (suc later.0, later.1)

one_among : {X : Type 0} (xs ys : List X) (x : X) → IsAmong (xs ++ ys) x → IsAmong xs x ⊎ IsAmong ys x
one_among [] ys x is = inr is
one_among (z ∷ xs) ys x (zero, at) = inl (zero, at)
one_among (z ∷ xs) ys x (suc k, at) =
    elim (one_among xs ys x (k, at)) [
      | inl old ↦ inl (suc old.0, old.1)
      | inr new ↦ inr new
    ]

from_piece : {X Y : Type 0} (f : X → List Y) (xs : List X) (y : Y) → IsAmong (flat_map f xs) y → (x : X) × IsAmong xs x × IsAmong (f x) y
from_piece f [] y (k, at) = absurd (cc)
from_piece f (x ∷ xs) y is =
    elim (one_among (f x) (flat_map f xs) y is) [
      | inl here ↦ (x, (zero, refl), here)
      | inr later ↦ (let p = from_piece f xs y later in (p.0, (suc p.1.0, p.1.1), p.2))
    ]

in_piece : {X Y : Type 0} (f : X → List Y) (xs : List X) (x : X) (y : Y) → IsAmong xs x → IsAmong (f x) y → IsAmong (flat_map f xs) y
in_piece f [] x y (k, at) here = absurd (cc)
in_piece {X = X} f (z ∷ xs) x y (zero, at) here =
    let same : x ≡ z = cc in
    left_among (f z) (flat_map f xs) y (rw same at here)
in_piece f (z ∷ xs) x y (suc k, at) here = right_among (f z) (flat_map f xs) y (in_piece f xs x y (k, at) here)

-- what is put together over two lists, one inside the other
swapped : {X Y A : Type 0} (g : X → Y → List A) (xs : List X) (ys : List Y) (o : A)
    → IsAmong (flat_map (λ x. flat_map (g x) ys) xs) o → IsAmong (flat_map (λ y. flat_map (λ x. g x y) xs) ys) o
swapped g xs ys o is =
    let p = from_piece (λ x. flat_map (g x) ys) xs o is in
    let q = from_piece (g p.0) ys o p.2 in
    in_piece (λ y. flat_map (λ x. g x y) xs) ys q.0 o q.1 (in_piece (λ x. g x q.0) xs p.0 o p.1 q.2)

-- ---- the first of the same offences in another order

module _ (table : Table) where
  first_same : (os xs ys : List Offence) (b : Option Offence) → ((o : Offence) → IsAmong xs o → IsAmong ys o)
      → ((o : Offence) → IsAmong ys o → IsAmong xs o)
      → IsFirst table (os ++ xs) b → IsFirst table (os ++ ys) b
  first_same [] xs [] None to from is = refl
  first_same [] xs (y ∷ ys) None to from is =
      let there : IsAmong [] y = rw is at from y (zero, refl) in
      absurd (cc)
  first_same (o ∷ os) xs ys None to from is = absurd (cc)
  first_same os xs ys (Some b) to from is = (over xs ys to b is.0, λ o at less. is.1 o (over ys xs from o at) less)
    where
      over : (xs ys : List Offence) → ((o : Offence) → IsAmong xs o → IsAmong ys o) → (o : Offence) → IsAmong (os ++ xs) o → IsAmong (os ++ ys) o
      over xs ys to o at =
          elim (one_among os xs o at) [
            | inl old ↦ left_among os ys o old
            | inr new ↦ right_among os ys o (to o new)
          ]

  then_same : (xs ys : List Offence) (a b : Option Offence) → ((o : Offence) → IsAmong xs o → IsAmong ys o)
      → ((o : Offence) → IsAmong ys o → IsAmong xs o)
      → FirstThen table xs a b → FirstThen table ys a b
  then_same xs ys a b to from f = record { goes_on = λ os is. first_same os xs ys b to from (f.goes_on os is) }

  turned : {E N L : Type 0} (g : E → L → List Offence) (d : N → L → List Offence) (es : List E) (ns : List N) (ls : List L) (a b : Option Offence)
      → FirstThen table (flat_map (λ e. flat_map (g e) ls) es ++ flat_map (λ n. flat_map (d n) ls) ns) a b
      → FirstThen table (flat_map (λ l. flat_map (λ e. g e l) es ++ flat_map (λ n. d n l) ns) ls) a b
  turned {E = E} {N = N} {L = L} g d es ns ls a b f = then_same by_each by_list a b to from f
    where
      in_list : L → List Offence
      in_list l = flat_map (λ e. g e l) es ++ flat_map (λ n. d n l) ns

      by_list : List Offence
      by_list = flat_map in_list ls

      by_events : List Offence
      by_events = flat_map (λ e. flat_map (g e) ls) es

      by_names : List Offence
      by_names = flat_map (λ n. flat_map (d n) ls) ns

      by_each : List Offence
      by_each = by_events ++ by_names

      to : (o : Offence) → IsAmong by_each o → IsAmong by_list o
      to o at =
          elim (one_among by_events by_names o at) [
            | inl e ↦
                let p = from_piece (λ l. flat_map (λ e. g e l) es) ls o (swapped g es ls o e) in
                in_piece in_list ls p.0 o p.1 (left_among (flat_map (λ e. g e p.0) es) (flat_map (λ n. d n p.0) ns) o p.2)
            | inr n ↦
                let p = from_piece (λ l. flat_map (λ n. d n l) ns) ls o (swapped d ns ls o n) in
                in_piece in_list ls p.0 o p.1 (right_among (flat_map (λ e. g e p.0) es) (flat_map (λ n. d n p.0) ns) o p.2)
          ]

      from : (o : Offence) → IsAmong by_list o → IsAmong by_each o
      from o at =
          let p = from_piece in_list ls o at in
          elim (one_among (flat_map (λ e. g e p.0) es) (flat_map (λ n. d n p.0) ns) o p.2) [
            | inl e ↦ left_among by_events by_names o (swapped (λ l e. g e l) ls es o (in_piece (λ l. flat_map (λ e. g e l) es) ls p.0 o p.1 e))
            | inr n ↦ right_among by_events by_names o (swapped (λ l n. d n l) ls ns o (in_piece (λ l. flat_map (λ n. d n l) ns) ls p.0 o p.1 n))
          ]

-- ---- lists that are put together

flat_none : {X A : Type 0} (f : X → List A) (xs : List X) → ((x : X) → f x ≡ []) → flat_map f xs ≡ []
flat_none f [] none = refl
flat_none f (x ∷ xs) none = rw (none x, flat_none f xs none) refl

flat_filter : {X A : Type 0} (f : X → List A) (p : X → Bool) (xs : List X) → flat_map f (filter p xs) ≡ flat_map (λ x. if p x then f x else []) xs
flat_filter f p [] = refl
flat_filter f p (x ∷ xs) = elim (cases_Bool (p x)) [
  | inl is ↦ rw (is, flat_filter f p xs) refl
  | inr other ↦ rw (other, flat_filter f p xs) refl
]

standing_flat : {X : Type 0} (c : Cause) (f : X → List Pos) (xs : List X) → flat_map (λ x. standing c (f x)) xs ≡ standing c (flat_map f xs)
standing_flat c f [] = refl
standing_flat c f (x ∷ xs) = rw (standing_flat c f xs) (sym (map-append (offence c) (f x) (flat_map f xs)))

-- ---- what is not looked for

module _ (table : Table) where
  pub not_numbered : {X : Type 0} (e : Event) (to : X → NameList) (ls : List X) (a : Option Offence) → is_line_number e.kind e.def e.name ≡ false
      → FirstThen table (flat_map (λ l. standing cause.LineNumber (line_number_place (to l) e)) ls) a a
  not_numbered e to ls a other =
      let nothing = flat_none (λ l. standing cause.LineNumber (line_number_place (to l) e)) ls (λ l. rw other refl) in
      rw nothing (then_none table a)

  pub not_declaring : {X : Type 0} (toks : List Token) (n : Name) (to : X → NameList) (ls : List X) (a : Option Offence) → declares_more toks n ≡ false
      → FirstThen table (flat_map (λ l. standing cause.DeclarationInArgument (declaration_place toks (to l) n)) ls) a a
  not_declaring toks n to ls a other =
      let nothing = flat_none (λ l. standing cause.DeclarationInArgument (declaration_place toks (to l) n)) ls (λ l. rw other refl) in
      rw nothing (then_none table a)

-- ---- the lists of a unit

module _ (f : UnitFunctions) where
  -- what happens inside one list
  abbrev in_one : NameList → List Offence
  in_one l =
      flat_map (λ e. standing cause.LineNumber (line_number_place l e)) f.text.now.events
      ++ flat_map (λ n. standing cause.DeclarationInArgument (declaration_place f.text.now.toks l n)) f.bound.now.names

  if_own : (l : NameList) → (if is_list_of f.bound.now.names f.entities l then in_one l else [])
      ≡ list_insides f.class.members f.text.now.toks f.text.now.events f.bound.now.names l
  if_own l =
      rw (
        named_at f.class.members f.text.now.toks f.bound.now.names f.entities f.named (entity_at f.bound.now.names l.name),
        standing_flat cause.LineNumber (line_number_place l) f.text.now.events,
        standing_flat cause.DeclarationInArgument (declaration_place f.text.now.toks l) f.bound.now.names,
      ) refl

  found_insides : flat_map (λ l. in_one l.now) f.found.items ≡ insides_of f
  found_insides =
      let g = list_insides f.class.members f.text.now.toks f.text.now.events f.bound.now.names in
      sym (flat_map-map in_one (λ l. l.now) f.found.items)
      ∙ ap (λ (ls : List NameList). flat_map in_one ls) f.gathered
      ∙ flat_filter in_one (is_list_of f.bound.now.names f.entities) (f.bound.now.declarators ++ f.bound.now.calls)
      ∙ flat_same (λ l. if is_list_of f.bound.now.names f.entities l then in_one l else []) g (f.bound.now.declarators ++ f.bound.now.calls) if_own
      ∙ flat_map-append g f.bound.now.declarators f.bound.now.calls

  pub insides_first : (table : Table) (a b : Option Offence)
      → FirstThen table
      (flat_map (λ e. flat_map (λ l. standing cause.LineNumber (line_number_place l.now e)) f.found.items) f.text.now.events
      ++ flat_map (λ n. flat_map (λ l. standing cause.DeclarationInArgument (declaration_place f.text.now.toks l.now n)) f.found.items) f.bound.now.names) a b
      → FirstThen table (insides_of f) a b
  insides_first table a b is =
      subst (λ (os : List Offence). FirstThen table os a b) found_insides
      (turned table (λ e l. standing cause.LineNumber (line_number_place l.now e))
      (λ n l. standing cause.DeclarationInArgument (declaration_place f.text.now.toks l.now n)) f.text.now.events f.bound.now.names f.found.items a b is)

  pub none_insides : (table : Table) (a : Option Offence) → f.found.items ≡ [] → FirstThen table (insides_of f) a a
  none_insides table a none =
      let nothing : insides_of f ≡ [] = sym found_insides ∙ rw none refl in
      rw nothing (then_none table a)

-- ---- a name that declares nothing inside a list

module _ (table : Table) (toks : List Token) (l : NameList) (n : Name) (first : Option Offence) where
  abbrev declared : List Offence
  declared = standing cause.DeclarationInArgument (declaration_place toks l n)

  pub not_declared : declares_more toks n ≡ false → FirstThen table declared first first
  not_declared other = rw other (then_none table first)

  pub not_behind : n.index ≤ l.begin → FirstThen table declared first first
  not_behind at =
      let other : nat_lt l.begin n.index ≡ false = le-ltb l.begin n.index at in
      let out : is_inside l n.index ≡ false = rw other refl in
      let none : (declares_more toks n && is_inside l n.index) ≡ false = and_no (declares_more toks n) (is_inside l n.index) out in
      rw none (then_none table first)

  pub not_before : l.close ≤ n.index → FirstThen table declared first first
  not_before at =
      let other : nat_lt n.index l.close ≡ false = le-ltb n.index l.close at in
      let out : is_inside l n.index ≡ false = and_no (nat_lt l.begin n.index) (nat_lt n.index l.close) other in
      let none : (declares_more toks n && is_inside l n.index) ≡ false = and_no (declares_more toks n) (is_inside l n.index) out in
      rw none (then_none table first)
