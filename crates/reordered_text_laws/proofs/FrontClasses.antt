-- The classes of tokens behind a typedef that stands in front of a text, by one grammar, and of the text by another one in
-- which what the typedef declares is a keyword.
use Rattle.std.proofs.Common.{ℕ, ◌≡◌, Bool, true, false, ◌&&◌, if◌then◌else◌, ◌==◌, List, [], ◌∷◌, ◌++◌, length, slice_get, None, Some, unwrap_or, refl, sym, ap, ◌∙◌, inl, inr, arith, eqb-true, eq-eqb}
use Rattle.std.specs.Option.{option_map_or}
use Rattle.std.specs.Str.{bytes_eq}
use Rattle.std.proofs.lemmas.Bool.{false≢true}
use Rattle.cs_base.specs.Token.{Token}
use Rattle.cs_base.proofs.BoolLemmas.{if_false, no_case}
use Rattle.c99_tree.specs.Names.{latest, is_typedef}
use Rattle.c99_grammar.specs.declared.classes.Class.TheVariants.{End, NoClass, Identifier, TypedefName}
use Rattle.c99_grammar.specs.Standard.{Grammar}
use Rattle.c99_grammar.specs.TokenClasses.{base_class}
use Rattle.c99_read.specs.State.{State, base_at, spelling_at, is_identifier, spelled_scope, spelled_scopes, is_typedef_at, class_at}
use Rattle.reordered_text_laws.specs.Fronted.{fronted, used, Fits, up}
use Rattle.reordered_text_laws.proofs.Before.{Declaration}
use Rattle.reordered_text_laws.proofs.FrontNames.{up_in, front_one, up_scopes, IsOpen}
use Rattle.reordered_text_laws.proofs.CleanNames.{AllIn, AllScopes}

pub eq_up : (a b : ℕ) → (up a == up b) ≡ (a == b)
eq_up a b = by (a == b) refl
  where
    by : (c : Bool) → (a == b) ≡ c → (up a == up b) ≡ c
    by true e = eq-eqb (up a) (up b) (ap up (eqb-true a b e))
    by false e = no_case (up a == up b) (λ h. false≢true (sym e ∙ eq-eqb a b (let same : up a ≡ up b = eqb-true (up a) (up b) h in omega (arith, same))))

-- ---- The empty word

empty_is : (w : List ℕ) → bytes_eq [] w ≡ true → w ≡ []
empty_is [] e = refl
empty_is (x ∷ w) e = absurd (false≢true e)

pub other_way : (w : List ℕ) → bytes_eq [] w ≡ false → bytes_eq w [] ≡ false
other_way [] e = absurd (false≢true (sym e))
other_way (x ∷ w) e = refl

module _ (z : List Token) where
  pub base_up : (g : Grammar) (k : ℕ) → base_at g (fronted z) (up k) ≡ base_at g z k
  base_up g k = ap (λ c. option_map_or (base_class g) (slice_get z k) (if c then End else NoClass)) (eq_up k (length z))

  -- ---- Names

  latest_up : (ds : List Declaration) (name : List ℕ) → latest (spelled_scope (fronted z) (up_in ds)) name ≡ latest (spelled_scope z ds) name
  latest_up [] name = refl
  latest_up (d ∷ ds) name = ap (λ o. if bytes_eq name (spelling_at z d.name_at) then Some d.typedef else o) (latest_up ds name)

  latest_last : (ds : List Declaration) (name : List ℕ) → bytes_eq name [] ≡ false → latest (spelled_scope (fronted z) (up_in ds ++ (front_one ∷ []))) name ≡ latest (spelled_scope z ds) name
  latest_last [] name e = if_false (bytes_eq name []) (Some true) None e
  latest_last (d ∷ ds) name e = ap (λ o. if bytes_eq name (spelling_at z d.name_at) then Some d.typedef else o) (latest_last ds name e)

  -- a name that is not the one in front
  typedef_up : (scopes : List (List Declaration)) (name : List ℕ) → bytes_eq name [] ≡ false
      → is_typedef (spelled_scopes (fronted z) (up_scopes scopes)) name ≡ is_typedef (spelled_scopes z scopes) name
  typedef_up [] name e = refl
  typedef_up (s ∷ []) name e = ap (λ o. unwrap_or o false) (latest_last s name e)
  typedef_up (s ∷ (t ∷ outer)) name e =
      ap (λ o. unwrap_or o (is_typedef (spelled_scopes (fronted z) (up_scopes (t ∷ outer))) name)) (latest_up s name)
      ∙ ap (unwrap_or (latest (spelled_scope z s) name)) (typedef_up (t ∷ outer) name e)

  -- the name in front, where it is declared nowhere else
  latest_none : (ds : List Declaration) → AllIn (used z) ds → latest (spelled_scope z ds) [] ≡ None
  latest_none [] h = refl
  latest_none (d ∷ ds) h = if_false (bytes_eq [] (spelling_at z d.name_at)) (Some d.typedef) (latest (spelled_scope z ds) []) h.0 ∙ latest_none ds h.1

  latest_front : (ds : List Declaration) → AllIn (used z) ds → latest (spelled_scope (fronted z) (up_in ds ++ (front_one ∷ []))) [] ≡ Some true
  latest_front [] h = refl
  latest_front (d ∷ ds) h =
      if_false (bytes_eq [] (spelling_at z d.name_at)) (Some d.typedef) (latest (spelled_scope (fronted z) (up_in ds ++ (front_one ∷ []))) []) h.0 ∙ latest_front ds h.1

  typedef_front : (scopes : List (List Declaration)) → IsOpen scopes → AllScopes (used z) scopes → is_typedef (spelled_scopes (fronted z) (up_scopes scopes)) [] ≡ true
  typedef_front [] o h = absurd o
  typedef_front (s ∷ []) o h = ap (λ o'. unwrap_or o' false) (latest_front s h.0)
  typedef_front (s ∷ (t ∷ outer)) o h =
      ap (λ o'. unwrap_or o' (is_typedef (spelled_scopes (fronted z) (up_scopes (t ∷ outer))) [])) (latest_up s [] ∙ latest_none s h.0)
      ∙ typedef_front (t ∷ outer) tt h.1

  -- ---- Classes

  module _ (g h : Grammar) where
    pub class_up : (k : ℕ) → Fits z g h k → (s t : State) → s.toks ≡ fronted z → t.toks ≡ z → s.names.scopes ≡ up_scopes t.names.scopes → IsOpen t.names.scopes
        → AllScopes (used z) t.names.scopes → class_at g s (up k) ≡ class_at h t k
    unfolding class_at
    class_up k fits s t of_s of_t same opens others =
        ap (λ x. if is_identifier (base_at g x (up k)) && is_typedef_at x s.names.scopes (up k) then TypedefName else base_at g x (up k)) of_s
        ∙ (ap (λ x. if is_identifier (base_at g (fronted z) (up k)) && is_typedef_at (fronted z) x (up k) then TypedefName else base_at g (fronted z) (up k)) same
        ∙ (ap (λ c. if is_identifier c && is_typedef_at (fronted z) (up_scopes t.names.scopes) (up k) then TypedefName else c) (base_up g k)
        ∙ (by fits ∙ sym (ap (λ x. if is_identifier (base_at h x k) && is_typedef_at x t.names.scopes k then TypedefName else base_at h x k) of_t))))
      where
        name_by : (c : Bool) → is_identifier (base_at g z k) ≡ c → (is_identifier (base_at g z k) ≡ true → used z k ≡ false)
            → (if c && is_typedef_at (fronted z) (up_scopes t.names.scopes) (up k) then TypedefName else base_at g z k)
            ≡ (if c && is_typedef_at z t.names.scopes k then TypedefName else base_at g z k)
        name_by true e f =
            ap (λ b. if b then TypedefName else base_at g z k) (typedef_up t.names.scopes (spelling_at z k) (other_way (spelling_at z k) (f e)))
        name_by false e f = refl

        by : Fits z g h k → (if is_identifier (base_at g z k) && is_typedef_at (fronted z) (up_scopes t.names.scopes) (up k) then TypedefName else base_at g z k)
            ≡ (if is_identifier (base_at h z k) && is_typedef_at z t.names.scopes k then TypedefName else base_at h z k)
        by (inl plain) =
            name_by (is_identifier (base_at g z k)) refl plain.1
            ∙ ap (λ c. if is_identifier c && is_typedef_at z t.names.scopes k then TypedefName else c) (sym plain.0)
        by (inr use_so) =
            ap (λ c. if is_identifier c && is_typedef_at (fronted z) (up_scopes t.names.scopes) (up k) then TypedefName else c) use_so.1.1
            ∙ (ap (λ b. if b then TypedefName else Identifier)
            (ap (λ w. is_typedef (spelled_scopes (fronted z) (up_scopes t.names.scopes)) w) (empty_is (spelling_at z k) use_so.0) ∙ typedef_front t.names.scopes opens others)
            ∙ ap (λ c. if is_identifier c && is_typedef_at z t.names.scopes k then TypedefName else c) (sym use_so.1.0))
