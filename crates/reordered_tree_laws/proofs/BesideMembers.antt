-- Members, labels and places in brace lists, whatever stands beside.
use Rattle.std.proofs.Common.{ℕ, zero, suc, ◌≡◌, Bool, true, false, ◌&&◌, ◌||◌, not, if◌then◌else◌, ◌==◌, List, [], ◌∷◌, ◌++◌, reverse, Option, None, Some, inl, inr, refl, sym, ap, subst, ◌∙◌}
use mathlib.Core.List.{reverse-cons}
use Rattle.std.specs.Prelude.{IfSome, filter, is_some, slice_get}
use Rattle.std.specs.List.{All}
use Rattle.std.specs.Option.{option_map_or}
use Rattle.std.proofs.lemmas.Bool.{cases_Bool, eqb-true}
use Rattle.std.proofs.lemmas.List.Elements.{All-nil, All-head, All-tail, All-push, All-same, All-filter}
use Rattle.cs_base.specs.Token.{Token}
use Rattle.c99_tree.specs.Tree.{Forest}
use Rattle.c_types.specs.declared.declarations.Space.TheVariants.{Ordinary, Tags, Members, Inner, Unnamed, Labels}
use Rattle.c_types.specs.declared.frames.Position.{Position}
use Rattle.c_types.specs.declared.frames.Position.TheVariants.{Numbered, Lost, Beyond}
use Rattle.c_types.specs.Types.{CType, arithmetic, unknown, is_record, is_unknown, is_array, inner_of}
use Rattle.c_types.specs.Trees.{last_token, declarator_type}
use Rattle.c_types.specs.Tags.{number_in}
use Rattle.c_types.specs.Declarations.{Facts, is_space, is_named, alike, with_fault, with_declaration, anywhere}
use Rattle.name_chains.specs.Places.{is_member_of}
use Rattle.name_chains.specs.Members.{member_declaration, is_known, members_of, is_found_in, lifted, found_of, unnamed_declaration, with_silent, with_member, with_lifted, member_at, member_used_as, member_used, member_type}
use Rattle.name_chains.specs.Initializers.{member_place, is_union_base, next_member, is_lost, next_place, is_inner, number_before, designated_type, position_of, designated_position}
use Rattle.scope_bind.specs.Named.{Space, Declaration, Occurrence, Body, Frame, no_member, redeclared, designator_after_elision, members, labels}
use Rattle.scope_bind.specs.Labels.{label_declaration, with_label}
use Rattle.reordered_tree_laws.specs.Beside.{is_beside, seen_of, IsOwn, IsOwnDeclaration, IsOwnFrame, AreBeside}
use Rattle.reordered_tree_laws.proofs.Beside.{filter_others, IsUnasked, found_same, found_own, unasked, filtered_same, fault_beside, occurrence_beside, silent_beside, declaration_beside}
use Rattle.reordered_tree_laws.proofs.OwnTypes.{own_if, own_declarator}
use Rattle.reordered_tree_laws.proofs.BesideNames.{type_own}

-- ---- Lists of declarations

all_reversed : {X : Type 0} (P : X → Type 0) (xs : List X) → All P xs → All P (reverse xs)
all_reversed P [] h = All-nil P
all_reversed P (x ∷ xs) h =
    All-same P (reverse (x ∷ xs)) (reverse xs ++ x ∷ []) (reverse-cons x xs)
    (All-push P (reverse xs) x (all_reversed P xs (All-tail P x xs h)) (All-head P x xs h))

all_at : {X : Type 0} (P : X → Type 0) (xs : List X) (n : ℕ) → All P xs → IfSome (slice_get xs n) P
all_at P [] n h = tt
all_at P (x ∷ xs) zero h = All-head P x xs h
all_at P (x ∷ xs) (suc n) h = all_at P xs n (All-tail P x xs h)

apart_number : (foreign : ℕ → Bool) (m n : ℕ) → foreign m ≡ true → foreign n ≡ false → (m == n) ≡ false
apart_number foreign m n h k = elim (cases_Bool (m == n)) [
  | inl e ↦ absurd (let same : foreign m ≡ foreign n = ap foreign (eqb-true m n e) in let wrong : true ≡ false = sym h ∙ (same ∙ k) in cc)
  | inr e ↦ e
]

module _ (toks : List Token) (foreign : ℕ → Bool) (zero_own : foreign 0 ≡ false) (ds es : List Declaration) (bs cs : List Occurrence) where
  abbrev Next : Facts → Facts → Type 0
  Next f g = AreBeside foreign ds es bs cs f g

  -- no member of a structure or union that does not stand beside does so
  no_member_of : (n : ℕ) → foreign n ≡ false → (d : Declaration) → is_beside foreign d ≡ true → is_space d.space (members n) ≡ false
  no_member_of n own d h = by d.space h
    where
      by : (s : Space) → is_beside foreign (record d { space = s }) ≡ true → is_space s (members n) ≡ false
      by Ordinary e = refl
      by Tags e = refl
      by (Members m) e = apart_number foreign m n e own
      by (Inner m) e = apart_number foreign m n e own
      by (Unnamed m) e = refl
      by (Labels m) e = refl

  no_place_of : (n : ℕ) → foreign n ≡ false → (d : Declaration) → is_beside foreign d ≡ true → is_member_of n d ≡ false
  no_place_of n own d h = by d.space h
    where
      by : (s : Space) → is_beside foreign (record d { space = s }) ≡ true → is_member_of n (record d { space = s }) ≡ false
      by Ordinary e = refl
      by Tags e = refl
      by (Members m) e = apart_number foreign m n e own
      by (Inner m) e = refl
      by (Unnamed m) e = apart_number foreign m n e own
      by (Labels m) e = refl

  no_label_of : (n : ℕ) (d : Declaration) → is_beside foreign d ≡ true → is_space d.space (labels n) ≡ false
  no_label_of n d h = by d.space h
    where
      by : (s : Space) → is_beside foreign (record d { space = s }) ≡ true → is_space s (labels n) ≡ false
      by Ordinary e = refl
      by Tags e = refl
      by (Members m) e = refl
      by (Inner m) e = refl
      by (Unnamed m) e = refl
      by (Labels m) e = let wrong : false ≡ true = e in absurd cc

  module _ (f g : Facts) (k : Next f g) where
    -- names in a name space that is none beside
    abbrev named_in : Space → ℕ → Declaration → Bool
    named_in space i d = is_named toks space i d && true

    abbrev IsApart : Space → Type 0
    IsApart space = (d : Declaration) → is_beside foreign d ≡ true → is_space d.space space ≡ false

    space_asked : (space : Space) (i : ℕ) → IsApart space → IsUnasked foreign ds es bs cs (named_in space i)
    space_asked space i apart =
        unasked foreign ds es bs cs f g k (named_in space i) (λ d h. ap (λ b. (b && alike toks i d.name_at) && true) (apart d h))

    anywhere_same : (space : Space) (i : ℕ) → IsApart space → anywhere toks space i g ≡ anywhere toks space i f
    anywhere_same space i apart = found_same foreign ds es bs cs f g k (named_in space i) (space_asked space i apart)

    anywhere_own : (space : Space) (i : ℕ) → IsApart space → IfSome (anywhere toks space i f) (IsOwnDeclaration foreign)
    anywhere_own space i apart = found_own foreign ds es bs cs f g k (named_in space i) (space_asked space i apart)

    -- ---- What is declared once

    once_beside : (space : Space) (i : ℕ) (d : Declaration) → IsApart space → is_beside foreign d ≡ false → IsOwnDeclaration foreign d
        → Next (with_declaration d (with_fault (is_some (anywhere toks space i f)) redeclared i f))
        (with_declaration d (with_fault (is_some (anywhere toks space i g)) redeclared i g))
    once_beside space i d apart shown own =
        let wrong : Bool = is_some (anywhere toks space i f) in
        subst (λ r. Next (with_declaration d (with_fault wrong redeclared i f)) (with_declaration d (with_fault (is_some r) redeclared i g)))
        (sym (anywhere_same space i apart))
        (declaration_beside foreign ds es bs cs d (with_fault wrong redeclared i f) (with_fault wrong redeclared i g) shown own
        (fault_beside foreign ds es bs cs wrong redeclared i f g k))

    pub label_beside : (body : Option Body) (i : ℕ) → foreign i ≡ false → Next (with_label toks body i f) (with_label toks body i g)
    label_beside None i mine = k
    label_beside (Some b) i mine =
        once_beside (labels b.from) i (label_declaration b i) (no_label_of b.from) refl (record { ctype = zero_own; entity = mine })

    pub member_beside : (fr : Frame) (under : Forest) (name : Option ℕ) → IsOwnFrame foreign fr
        → option_map_or (λ i. not (foreign i)) name true ≡ true → Next (with_member toks fr under name f) (with_member toks fr under name g)
    member_beside fr under None o mine = k
    member_beside fr under (Some i) o mine =
        once_beside (members fr.owner) i (member_declaration fr i (last_token under i) (declarator_type fr.base under)) (no_member_of fr.owner o.owner) o.owner
        (record { ctype = own_declarator foreign zero_own fr.base under o.base; entity = own_by (foreign i) mine })
      where
        own_by : (b : Bool) → not b ≡ true → b ≡ false
        own_by true e = sym e
        own_by false e = refl

    -- ---- Members of a type

    module _ (t : CType) (own : IsOwn foreign t) where
      known_same : is_known t g ≡ is_known t f
      known_same = ap (λ b. is_record t && b) (k.complete (number_in t) own)

      pub member_at_same : (i : ℕ) → member_at toks t i g ≡ member_at toks t i f
      member_at_same i =
          ap (λ b. if b then anywhere toks (members (number_in t)) i g else None) known_same
          ∙ ap (λ r. if is_known t f then r else None) (anywhere_same (members (number_in t)) i (no_member_of (number_in t) own))

      some_if : (c : Bool) (r : Option Declaration) → IfSome r (IsOwnDeclaration foreign) → IfSome (if c then r else None) (IsOwnDeclaration foreign)
      some_if true r h = h
      some_if false r h = tt

      member_at_own : (i : ℕ) → IfSome (member_at toks t i f) (IsOwnDeclaration foreign)
      member_at_own i =
          some_if (is_known t f) (anywhere toks (members (number_in t)) i f) (anywhere_own (members (number_in t)) i (no_member_of (number_in t) own))

      member_by : (i : ℕ) (r : Option Declaration) → Next (member_used_as toks i r f) (member_used_as toks i r g)
      member_by i None = fault_beside foreign ds es bs cs true no_member i f g k
      member_by i (Some d) = occurrence_beside foreign ds es bs cs i d.entity false f g k

      pub member_used_beside : (i : ℕ) → Next (member_used toks t i f) (member_used toks t i g)
      member_used_beside i =
          subst (λ r. Next (member_used toks t i f) (member_used_as toks i r g)) (sym (member_at_same i)) (member_by i (member_at toks t i f))

      pub member_type_same : (i : ℕ) (other : CType) → member_type toks t i other g ≡ member_type toks t i other f
      member_type_same i other = ap (λ r. option_map_or (λ d. d.ctype) r other) (member_at_same i)

      pub member_type_own : (i : ℕ) (other : CType) → IsOwn foreign other → IsOwn foreign (member_type toks t i other f)
      member_type_own i other o = type_own toks foreign zero_own ds es bs cs (member_at toks t i f) other o (member_at_own i)

      members_same : members_of (number_in t) g ≡ members_of (number_in t) f
      members_same = ap reverse (filtered_same foreign ds es bs cs f g k (is_member_of (number_in t)) (no_place_of (number_in t) own))

      members_own : All (IsOwnDeclaration foreign) (members_of (number_in t) f)
      members_own =
          all_reversed (IsOwnDeclaration foreign) (filter (is_member_of (number_in t)) f.declared)
          (All-same (IsOwnDeclaration foreign) (filter (is_member_of (number_in t)) f.declared) (filter (is_member_of (number_in t)) (seen_of foreign f.declared))
          (filter_others (is_beside foreign) (is_member_of (number_in t)) (no_place_of (number_in t) own) f.declared)
          (All-filter (is_member_of (number_in t)) (IsOwnDeclaration foreign) (seen_of foreign f.declared) k.owned))

      -- ---- Places in brace lists

      place_same : (n : ℕ) → member_place t n g ≡ member_place t n f
      place_same n =
          ap (λ b. if b then option_map_or (λ d. d.ctype) (slice_get (members_of (number_in t) g) n) arithmetic else arithmetic) known_same
          ∙ ap (λ xs. if is_known t f then option_map_or (λ d. d.ctype) (slice_get xs n) arithmetic else arithmetic) members_same

      place_own : (n : ℕ) → IsOwn foreign (member_place t n f)
      place_own n =
          own_if foreign zero_own (is_known t f) (option_map_or (λ d. d.ctype) (slice_get (members_of (number_in t) f) n) arithmetic) arithmetic
          (type_own toks foreign zero_own ds es bs cs (slice_get (members_of (number_in t) f) n) arithmetic zero_own
          (all_at (IsOwnDeclaration foreign) (members_of (number_in t) f) n members_own)) zero_own

      next_member_same : (at : Position) → next_member t at g ≡ next_member t at f
      next_member_same Lost = refl
      next_member_same (Numbered n) = ap (λ x. if is_union_base t.base && not (n == 0) then arithmetic else x) (place_same n)
      next_member_same Beyond = refl

      next_member_own : (at : Position) → IsOwn foreign (next_member t at f)
      next_member_own Lost = zero_own
      next_member_own (Numbered n) = own_if foreign zero_own (is_union_base t.base && not (n == 0)) arithmetic (member_place t n f) zero_own (place_own n)
      next_member_own Beyond = zero_own

      pub next_same : (at : Position) → next_place t at g ≡ next_place t at f
      next_same at = ap (λ x. if is_unknown t || is_lost at then unknown else (if is_array t then inner_of t else x)) (next_member_same at)

      pub next_own : (at : Position) → IsOwn foreign (next_place t at f)
      next_own at =
          own_if foreign zero_own (is_unknown t || is_lost at) unknown (if is_array t then inner_of t else next_member t at f) zero_own
          (own_if foreign zero_own (is_array t) (inner_of t) (next_member t at f) own (next_member_own at))

      -- ---- Designators

      pub designated_beside : (i : ℕ) (c : Bool) → Next (if c then with_fault true designator_after_elision i f else member_used toks t i f)
          (if c then with_fault true designator_after_elision i g else member_used toks t i g)
      designated_beside i true = fault_beside foreign ds es bs cs true designator_after_elision i f g k
      designated_beside i false = member_used_beside i

      pub designated_type_same : (i : ℕ) → designated_type toks t i g ≡ designated_type toks t i f
      designated_type_same i = ap (λ x. if is_unknown t then unknown else x) (member_type_same i unknown)

      pub designated_type_own : (i : ℕ) → IsOwn foreign (designated_type toks t i f)
      designated_type_own i =
          own_if foreign zero_own (is_unknown t) unknown (member_type toks t i unknown f) zero_own (member_type_own i unknown zero_own)

      position_same : (r : Option Declaration) (at : Position) → position_of toks t g r at ≡ position_of toks t f r at
      position_same None at = refl
      position_same (Some d) at = ap (λ xs. if is_inner d.space then Lost else Numbered (number_before xs d)) members_same

      pub designated_position_same : (i : ℕ) (at : Position) → designated_position toks t i g at ≡ designated_position toks t i f at
      designated_position_same i at =
          ap (λ r. position_of toks t g r at) (member_at_same i) ∙ position_same (member_at toks t i f) at

  -- ---- Anonymous members

  lifted_beside : (owner : ℕ) → foreign owner ≡ false → (xs : List Declaration) → All (IsOwnDeclaration foreign) xs → (f g : Facts) → Next f g
      → Next (with_lifted toks owner xs f) (with_lifted toks owner xs g)
  lifted_beside owner own [] all f g k = k
  lifted_beside owner own (d ∷ xs) all f g k =
      let wrong : Bool = is_some (anywhere toks (members owner) d.name_at f) in
      let f1 : Facts = with_fault wrong redeclared d.name_at f in
      let g1 : Facts = with_fault wrong redeclared d.name_at g in
      let e : Declaration = lifted owner d in
      let o : IsOwnDeclaration foreign d = All-head (IsOwnDeclaration foreign) d xs all in
      let one : Next (with_silent e f1) (with_silent e g1) =
      silent_beside foreign ds es bs cs e f1 g1 own (record { ctype = o.ctype; entity = o.entity }) (fault_beside foreign ds es bs cs wrong redeclared d.name_at f g k) in
      subst (λ r. Next (with_lifted toks owner xs (with_silent e f1)) (with_lifted toks owner xs (with_silent e (with_fault (is_some r) redeclared d.name_at g))))
      (sym (anywhere_same f g k (members owner) d.name_at (no_member_of owner own)))
      (lifted_beside owner own xs (All-tail (IsOwnDeclaration foreign) d xs all) (with_silent e f1) (with_silent e g1) one)

  pub anonymous_beside : (fr : Frame) (i : ℕ) → IsOwnFrame foreign fr → foreign i ≡ false → (f g : Facts) → Next f g → (c : Bool)
      → Next (if c then with_silent (unnamed_declaration fr i) (with_lifted toks fr.owner (found_of (number_in fr.base) f) f) else f)
      (if c then with_silent (unnamed_declaration fr i) (with_lifted toks fr.owner (found_of (number_in fr.base) g) g) else g)
  anonymous_beside fr i o mine f g k false = k
  anonymous_beside fr i o mine f g k true =
      let found : List Declaration = found_of (number_in fr.base) f in
      let never : (d : Declaration) → is_beside foreign d ≡ true → is_found_in (number_in fr.base) d ≡ false = no_member_of (number_in fr.base) o.base in
      let same : found_of (number_in fr.base) g ≡ found =
      ap reverse (filtered_same foreign ds es bs cs f g k (is_found_in (number_in fr.base)) never) in
      let all : All (IsOwnDeclaration foreign) found =
      all_reversed (IsOwnDeclaration foreign) (filter (is_found_in (number_in fr.base)) f.declared)
      (All-same (IsOwnDeclaration foreign) (filter (is_found_in (number_in fr.base)) f.declared) (filter (is_found_in (number_in fr.base)) (seen_of foreign f.declared))
      (filter_others (is_beside foreign) (is_found_in (number_in fr.base)) never f.declared)
      (All-filter (is_found_in (number_in fr.base)) (IsOwnDeclaration foreign) (seen_of foreign f.declared) k.owned)) in
      subst (λ xs. Next (with_silent (unnamed_declaration fr i) (with_lifted toks fr.owner found f)) (with_silent (unnamed_declaration fr i) (with_lifted toks fr.owner xs g)))
      (sym same)
      (silent_beside foreign ds es bs cs (unnamed_declaration fr i) (with_lifted toks fr.owner found f) (with_lifted toks fr.owner found g) o.owner
      (record { ctype = o.base; entity = mine }) (lifted_beside fr.owner o.owner found all f g k))
