-- Tests of lists that are asked for several roles at once, or for one after another.
use Rattle.std.proofs.Common.{◌≡◌, ℕ, ◌+◌, Bool, true, false, ◌||◌, List, [], ◌∷◌, ◌++◌, refl, sym, ap, ◌∙◌}
use Rattle.std.specs.Prelude.{if◌then◌else◌}
use Rattle.std.specs.List.{flat_map, list_any}
use Rattle.std.specs.Option.{option_map_or}
use Rattle.std.proofs.Math.Bool.{or-false}
use Rattle.std.proofs.lemmas.List.Folds.{list_any-append}
use Rattle.cs_base.specs.declared.positions.Pos.{Pos}
use Rattle.cs_base.specs.Token.{Token}
use Rattle.analysis.specs.Below.unit_steps.declared.events.Event.{Event}
use Rattle.analysis.specs.Below.unit_steps.Texts.{UnitTextValue}
use Rattle.analysis.specs.Below.scope_bind.declared.bound.Name.{Name}
use Rattle.analysis.specs.Analysis.{UnitAnalysis, AnalysisValue}
use Rattle.class_marks.specs.Roles.{event_has, event_name, names_in, names_with, token_has, tokens_with}
use Rattle.unseen_names.specs.declared.names.Group.{Group}
use Rattle.unseen_names.specs.Groups.{in_event, in_names, in_tokens, in_unit, is_in_group, roles_of, token_wanted, wanted_token}
use Rattle.unseen_names.specs.Unseen.{comes_from}

-- ---- tests

or-itself : (b : Bool) → b ≡ (b || b)
or-itself true = refl
or-itself false = refl

or-four : (a b c d : Bool) → ((a || b) || (c || d)) ≡ ((a || c) || (b || d))
or-four true b c d = refl
or-four false true true d = refl
or-four false true false d = refl
or-four false false c d = refl

pub any-none : {R : Type 0} (rs : List R) → list_any (λ (r : R). false) rs ≡ false
any-none [] = refl
any-none (r ∷ rs) = any-none rs

pub any-alike : {R : Type 0} (f g : R → Bool) (rs : List R) → ((r : R) → f r ≡ g r) → list_any f rs ≡ list_any g rs
any-alike f g [] same = refl
any-alike f g (r ∷ rs) same = ap (λ (b : Bool). b || list_any f rs) (same r) ∙ ap (λ (b : Bool). g r || b) (any-alike f g rs same)

any-or : {R : Type 0} (f g : R → Bool) (rs : List R) → (list_any f rs || list_any g rs) ≡ list_any (λ r. f r || g r) rs
any-or f g [] = refl
any-or f g (r ∷ rs) =
    or-four (f r) (list_any f rs) (g r) (list_any g rs) ∙ ap (λ (b : Bool). (f r || g r) || b) (any-or f g rs)

-- what is taken where some test says so, or where each does
step : {T : Type 0} (q : T → Bool) (xs : List T) (here later rest : Bool) → list_any q (if later then xs else []) ≡ rest
    → list_any q (if here || later then xs else []) ≡ (list_any q (if here then xs else []) || rest)
step q xs true true rest is = or-itself (list_any q xs) ∙ ap (λ (b : Bool). list_any q xs || b) is
step q xs true false rest is = sym (or-false (list_any q xs)) ∙ ap (λ (b : Bool). list_any q xs || b) is
step q xs false later rest is = is

taken : {R T : Type 0} (q : T → Bool) (has : R → Bool) (xs : List T) (rs : List R)
    → list_any q (if list_any has rs then xs else []) ≡ list_any (λ r. list_any q (if has r then xs else [])) rs
taken q has xs [] = refl
taken q has xs (r ∷ rs) =
    step q xs (has r) (list_any has rs) (list_any (λ s. list_any q (if has s then xs else [])) rs) (taken q has xs rs)

-- one list, and the lists behind it
joined : {R T : Type 0} (q : T → Bool) (f g : R → List T) (rs : List R) (x y : Bool) → x ≡ list_any (λ r. list_any q (f r)) rs
    → y ≡ list_any (λ r. list_any q (g r)) rs → (x || y) ≡ list_any (λ r. list_any q (f r ++ g r)) rs
joined q f g rs x y is other =
    ap (λ (b : Bool). b || y) is ∙ ap (λ (b : Bool). list_any (λ r. list_any q (f r)) rs || b) other
    ∙ any-or (λ r. list_any q (f r)) (λ r. list_any q (g r)) rs
    ∙ any-alike (λ r. list_any q (f r) || list_any q (g r)) (λ r. list_any q (f r ++ g r)) rs (λ r. sym (list_any-append q (f r) (g r)))

-- ---- names

module _ (g : Group) (p : Pos) where
  in-events : (events : List Event) → list_any (in_event g p) events ≡ list_any (λ r. list_any (comes_from p) (flat_map (event_name r) events)) (roles_of g)
  in-events [] = sym (any-none (roles_of g))
  in-events (e ∷ events) =
      joined (comes_from p) (λ r. event_name r e) (λ r. flat_map (event_name r) events) (roles_of g) (in_event g p e) (list_any (in_event g p) events)
      (taken (comes_from p) (λ r. event_has r e.kind) (option_map_or (λ t. t ∷ []) e.name []) (roles_of g)) (in-events events)

  in-tokens : (names : List Name) (k : ℕ) (toks : List Token)
      → in_tokens g p names k toks ≡ list_any (λ r. list_any (comes_from p) (tokens_with r names k toks)) (roles_of g)
  unfolding in_tokens tokens_with
  in-tokens names k [] = sym (any-none (roles_of g))
  in-tokens names k (t ∷ toks) =
      joined (comes_from p) (λ r. if token_has r names k then t ∷ [] else []) (λ r. tokens_with r names (k + 1) toks) (roles_of g)
      (list_any (comes_from p) (wanted_token (token_wanted g names k) t)) (in_tokens g p names (k + 1) toks)
      (taken (comes_from p) (λ r. token_has r names k) (t ∷ []) (roles_of g)) (in-tokens names (k + 1) toks)

  in-names : (text : UnitTextValue) (names : List Name) → in_names g p text names ≡ list_any (λ r. list_any (comes_from p) (names_in r text names)) (roles_of g)
  in-names text names =
      joined (comes_from p) (λ r. flat_map (event_name r) text.events) (λ r. tokens_with r names 0 text.toks) (roles_of g)
      (list_any (in_event g p) text.events) (in_tokens g p names 0 text.toks) (in-events text.events) (in-tokens names 0 text.toks)

  in-units : (units : List UnitAnalysis)
      → list_any (in_unit g p) units ≡ list_any (λ r. list_any (comes_from p) (flat_map (λ (u : UnitAnalysis). names_in r u.text u.bound.names) units)) (roles_of g)
  in-units [] = sym (any-none (roles_of g))
  in-units (u ∷ units) =
      joined (comes_from p) (λ r. names_in r u.text u.bound.names) (λ r. flat_map (λ (v : UnitAnalysis). names_in r v.text v.bound.names) units) (roles_of g)
      (in_unit g p u) (list_any (in_unit g p) units) (in-names u.text u.bound.names) (in-units units)

  -- a position is in some name of the group where it is in some name with one of its roles
  pub in_roles : (a : AnalysisValue) → is_in_group g a p ≡ list_any (λ r. list_any (comes_from p) (names_with r a)) (roles_of g)
  unfolding names_with
  in_roles a = in-units a.units
