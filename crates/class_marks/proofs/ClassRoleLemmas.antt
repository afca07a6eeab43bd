-- Roles that are added to classes, one after another.
use Rattle.std.proofs.Common.{◌≡◌, ℕ, zero, suc, ◌+◌, ◌<◌, ◌≤◌, Bool, true, false, ◌||◌, List, [], ◌∷◌, Option, Some, None, length, get_or, slice_get, map, take, refl, sym, ap, ◌∙◌, arith}
use Rattle.std.specs.Prelude.{if◌then◌else◌, replicate, slice_set}
use Rattle.std.specs.List.{fold}
use Rattle.std.specs.Option.{IfSome, option_map_or, option_and_then}
use Rattle.std.proofs.Math.Bool.{or-false, or-true}
use Rattle.std.proofs.Math.Seq.{map-set_same}
use Rattle.std.proofs.lemmas.Bool.{false≢true}
use Rattle.std.proofs.lemmas.List.{length-map, map-set, set_past}
use Rattle.std.proofs.lemmas.Option.{none-some, slice_get_within}
use Rattle.cs_base.specs.declared.positions.Pos.{Pos}
use Rattle.cs_base.specs.declared.positions.Part.{Part}
use Rattle.cs_base.specs.Token.{Token, origin_at}
use Rattle.eclass_map.specs.ClassTable.{Table, HasParts, class_in}
use Rattle.analysis.specs.Below.unit_steps.declared.events.Event.{Event}
use Rattle.class_marks.specs.declared.all_roles.Roles.{Roles}
use Rattle.class_marks.specs.declared.roles.Role.{Role}
use Rattle.class_marks.specs.ClassRoles.{Adds, IsAddedPart, has_role, of_role}
use Rattle.class_marks.specs.Marks.{class_at, is_within, IsMarkedPart, mark_class, with_character, with_token, with_tokens}
use Rattle.class_marks.specs.Roles.{event_has, event_name}
use Rattle.class_marks.proofs.MarkLemmas.{marked_again, marked_within, origin_step, within_class}

-- ---- changes where a test passes

-- the same by another change
by_other : {A : Type 0} (b : Bool) (f g : A → A) (x y : A) → y ≡ (if b then f x else x) → f x ≡ g x → y ≡ (if b then g x else x)
by_other true f g x y is same = is ∙ same
by_other false f g x y is same = is

-- nothing is changed
unchanged : {A : Type 0} (b : Bool) (f : A → A) (x : A) → (b ≡ true → x ≡ f x) → x ≡ (if b then f x else x)
unchanged true f x same = same refl
unchanged false f x same = refl

-- ---- one class

-- an element of a list is replaced by one that passes a test where it does, or where the other may be known to pass
set_mark : {X : Type 0} (f : X → Bool) (all : List X) (c : ℕ) (x new : X) (b : Bool) → x ≡ get_or all c x → f new ≡ (f x || b)
    → map f (slice_set all c new) ≡ (if b then slice_set (map f all) c true else map f all)
set_mark f all c x new true at is = map-set f all c new ∙ ap (slice_set (map f all) c) (is ∙ or-true (f x))
set_mark f all c x new false at is = map-set_same f all c new x (is ∙ or-false (f x) ∙ ap f at)

-- roles are added to one of the classes, and to none
pub class_given : (all : List Roles) (c : ℕ) (x new roles : Roles) → x ≡ get_or all c x → ((role : Role) → has_role role new ≡ (has_role role x || has_role role roles))
    → Adds roles (λ marks. mark_class marks c) all (slice_set all c new)
class_given all c x new roles at is = λ role. set_mark (has_role role) all c x new (has_role role roles) at (is role)

pub class_past : (all : List Roles) (c : ℕ) (roles : Roles) → length all ≤ c → Adds roles (λ marks. mark_class marks c) all all
class_past all c roles past = λ role.
    let marks = of_role role all in
    let past' : length marks ≤ c = omega (arith, past, length-map all (has_role role)) in
    unchanged (has_role role roles) (λ ms. mark_class ms c) marks (λ _. sym (set_past marks c true past'))

-- ---- one character

-- the class of a character is given them
pub class_added : (t : Table) (roles : Roles) (all all2 : List Roles) (c : ℕ) (origin : Option Pos) → Adds roles (λ marks. mark_class marks c) all all2
    → Some c ≡ class_at t origin → Adds roles (λ marks. with_character t marks origin) all all2
class_added t roles all all2 c origin added class = λ role.
    let ms = of_role role all in
    by_other (has_role role roles) (λ marks. mark_class marks c) (λ marks. with_character t marks origin) ms (of_role role all2) (added role)
    (ap (λ (found : Option ℕ). option_map_or (mark_class ms) found ms) class)

pub none_added : (t : Table) (roles : Roles) (all : List Roles) (origin : Option Pos) → None ≡ class_at t origin
    → Adds roles (λ marks. with_character t marks origin) all all
none_added t roles all origin class = λ role.
    let ms = of_role role all in
    unchanged (has_role role roles) (λ marks. with_character t marks origin) ms
    (λ _. ap (λ (found : Option ℕ). option_map_or (mark_class ms) found ms) class)

marked_now : (b : Bool) (old new : List Bool) (c : ℕ) → b ≡ true → new ≡ (if b then mark_class old c else old) → mark_class new c ≡ new
marked_now true old new c had is = ap (λ (ms : List Bool). mark_class ms c) is ∙ marked_again old c ∙ sym is
marked_now false old new c had is = absurd (false≢true had)

-- so its part is one of a class that has them
pub part_added : (t : Table) (roles : Roles) (all all2 : List Roles) (part : Part) (c : ℕ) → Adds roles (λ marks. mark_class marks c) all all2
    → HasParts t → class_in t part ≡ Some c → IsAddedPart t roles all2 part
part_added t roles all all2 part c added parts class =
    (parts, c, class, λ role had. marked_now (has_role role roles) (of_role role all) (of_role role all2) c had (added role))

added_marked : (t : Table) (roles : Roles) (all : List Roles) (part : Option Part) (role : Role) → has_role role roles ≡ true
    → IfSome part (IsAddedPart t roles all) → IfSome part (IsMarkedPart t (of_role role all))
added_marked t roles all None role had known = known
added_marked t roles all (Some part) role had known = (known.0, known.1, known.2, known.3 role had)

-- a character of a part of such a class adds nothing
pub added_within : (t : Table) (roles : Roles) (all : List Roles) (part : Option Part) (origin : Option Pos) → IfSome part (IsAddedPart t roles all)
    → is_within part origin ≡ true → Adds roles (λ marks. with_character t marks origin) all all
added_within t roles all part origin known within = λ role.
    unchanged (has_role role roles) (λ marks. with_character t marks origin) (of_role role all)
    (λ had. marked_within t (of_role role all) part origin (added_marked t roles all part role had known) within)

-- ---- the characters of a token

-- one of them more
pub character_added : (t : Table) (roles : Roles) (tok : Token) (k : ℕ) (first all all2 : List Roles) → k < length tok.origins
    → Adds roles (λ marks. fold (with_character t) marks (take k tok.origins)) first all
    → Adds roles (λ marks. with_character t marks (origin_at tok k)) all all2
    → Adds roles (λ marks. fold (with_character t) marks (take (k + 1) tok.origins)) first all2
character_added t roles tok k first all all2 within before here = λ role.
    one_more (has_role role roles) (of_role role first) (of_role role all) (of_role role all2) (before role) (here role)
  where
    one_more : (b : Bool) (old now new : List Bool) → now ≡ (if b then fold (with_character t) old (take k tok.origins) else old)
        → new ≡ (if b then with_character t now (origin_at tok k) else now)
        → new ≡ (if b then fold (with_character t) old (take (k + 1) tok.origins) else old)
    one_more true old now new before here = origin_step t tok k old now new within before here
    one_more false old now new before here = here ∙ before

module _ (t : Table) (part : Part) (c : ℕ) (parts : HasParts t) (class : class_in t part ≡ Some c) where
  -- characters of a part whose class is marked
  row_marked : (os : List (Option Pos)) (marks : List Bool) → mark_class marks c ≡ marks
      → ((k : ℕ) (o : Option Pos) → slice_get os k ≡ Some o → is_within (Some part) o ≡ true) → fold (with_character t) marks os ≡ marks
  row_marked [] marks marked within = refl
  row_marked (o ∷ os) marks marked within =
      ap (λ (ms : List Bool). fold (with_character t) ms os) (sym (marked_within t marks (Some part) o (parts, c, class, marked) (within zero o refl)))
      ∙ row_marked os marks marked (λ k p at. within (suc k) p at)

  character_marked : (marks : List Bool) (o : Option Pos) → is_within (Some part) o ≡ true → with_character t marks o ≡ mark_class marks c
  character_marked marks None within = absurd (false≢true within)
  character_marked marks (Some p) within =
      ap (λ (found : Option ℕ). option_map_or (mark_class marks) found marks) (within_class t part c p parts class within)

  row_within : (os : List (Option Pos)) (marks : List Bool) → 0 < length os
      → ((k : ℕ) (o : Option Pos) → slice_get os k ≡ Some o → is_within (Some part) o ≡ true) → mark_class marks c ≡ fold (with_character t) marks os
  row_within [] marks some within = absurd (omega (arith, some))
  row_within (o ∷ os) marks some within =
      sym (ap (λ (ms : List Bool). fold (with_character t) ms os) (character_marked marks o (within zero o refl))
      ∙ row_marked os (mark_class marks c) (marked_again marks c) (λ k p at. within (suc k) p at))

  -- a token of one part marks its class
  pub token_within : (tok : Token) (marks : List Bool) → 0 < length tok.origins
      → ((k : ℕ) → k < length tok.origins → is_within (Some part) (origin_at tok k) ≡ true) → mark_class marks c ≡ with_token t marks tok
  token_within tok marks some within =
      row_within tok.origins marks some
      (λ k o at. ap (is_within (Some part)) (sym (ap (option_and_then (λ (p : Option Pos). p)) at)) ∙ within k (slice_get_within tok.origins k o at))

  -- so it gives it the roles
  pub token_added : (roles : Roles) (all all2 : List Roles) (tok : Token) → 0 < length tok.origins
      → ((k : ℕ) → k < length tok.origins → is_within (Some part) (origin_at tok k) ≡ true)
      → Adds roles (λ marks. mark_class marks c) all all2 → Adds roles (λ marks. with_token t marks tok) all all2
  token_added roles all all2 tok some within added = λ role.
      let ms = of_role role all in
      by_other (has_role role roles) (λ marks. mark_class marks c) (λ marks. with_token t marks tok) ms (of_role role all2) (added role)
      (token_within tok ms some within)

-- a token whose first character has a class has some
pub some_character : (t : Table) (c : ℕ) (tok : Token) → Some c ≡ class_at t (origin_at tok 0) → 0 < length tok.origins
some_character t c tok is = some_of tok.origins is
  where
    some_of : (os : List (Option Pos)) → Some c ≡ class_at t (option_and_then (λ (p : Option Pos). p) (slice_get os 0)) → 0 < length os
    some_of [] is = absurd (none-some c (sym is))
    some_of (o ∷ os) is = omega (arith)

-- ---- names

-- a name with these roles
pub name_added : (t : Table) (roles : Roles) (all all2 : List Roles) (tok : Token) → Adds roles (λ marks. with_token t marks tok) all all2
    → (role : Role) (b : Bool) → has_role role roles ≡ b → of_role role all2 ≡ with_tokens t (of_role role all) (if b then tok ∷ [] else [])
name_added t roles all all2 tok added role b is =
    added role ∙ ap (λ (x : Bool). if x then with_token t (of_role role all) tok else of_role role all) is ∙ either b (of_role role all)
  where
    either : (b : Bool) (ms : List Bool) → (if b then with_token t ms tok else ms) ≡ with_tokens t ms (if b then tok ∷ [] else [])
    either true ms = refl
    either false ms = refl

-- an event with a name, and without
pub event_named : (role : Role) (e : Event) (t : Token) → e.name ≡ Some t → (if event_has role e.kind then t ∷ [] else []) ≡ event_name role e
event_named role e t named = sym (ap (λ (n : Option Token). if event_has role e.kind then option_map_or (λ t. t ∷ []) n [] else []) named)

pub event_unnamed : (role : Role) (e : Event) → e.name ≡ None → [] ≡ event_name role e
event_unnamed role e none =
    none_either (event_has role e.kind) ∙ sym (ap (λ (n : Option Token). if event_has role e.kind then option_map_or (λ t. t ∷ []) n [] else []) none)
  where
    none_either : (b : Bool) → ◌≡◌ {A = List Token} [] (if b then [] else [])
    none_either true = refl
    none_either false = refl

-- ---- roles of no class

pub blank_roles : (role : Role) (x : Roles) (n c : ℕ) → has_role role x ≡ false → get_or (map (has_role role) (replicate n x)) c false ≡ false
blank_roles role x zero c is = refl
blank_roles role x (suc n) zero is = is
blank_roles role x (suc n) (suc c) is = blank_roles role x n c is
