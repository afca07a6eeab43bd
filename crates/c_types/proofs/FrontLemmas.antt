-- What some children say, by the first of them and by those behind it.
use Rattle.std.proofs.Common.{ℕ, zero, suc, ◌+◌, ◌≡◌, Bool, true, false, ◌||◌, Option, None, Some, refl, sym, ap, ◌∙◌, add-one}
use Rattle.std.specs.Prelude.{if◌then◌else◌, unwrap_or}
use Rattle.std.specs.Option.{option_or}
use Rattle.c99_tree.specs.Tree.{Forest, none, token, node}
use Rattle.c99_tree.specs.declared.production.Label.{Label}
use Rattle.c99_tree.specs.declared.production.Production.TheVariants.{Suffix, Pointer}
use Rattle.c_types.specs.Children.{from_child}
use Rattle.c_types.specs.Types.{CType}
use Rattle.c_types.specs.Trees.{is_node, is_list, is_aside, first_token, suffixed}
use Rattle.c_types.specs.Lists.{nearest_of}
use Rattle.c_types.specs.Shapes.{first_node, inner_in, leading_token}
use Rattle.c_types.specs.Fronts.{front_suffixed, is_front_pointer, front_nearest}

module _ (Q : Forest → Forest → Type 0) (end : Q none none) (tokens : (i : ℕ) (rest : Forest) → Q (token i rest) rest)
    (nodes : (l : Label) (first : ℕ) (under rest : Forest) → Q (node l first under rest) rest) where
  front-step : (f : Forest) (k : ℕ) → Q (from_child k f) (from_child (suc k) f)
  front-step none zero = end
  front-step none (suc k) = end
  front-step (token i rest) zero = tokens i rest
  front-step (node l first under rest) zero = nodes l first under rest
  front-step (token i rest) (suc k) = front-step rest k
  front-step (node l first under rest) (suc k) = front-step rest k

  -- what holds of children and those behind the first holds from each child on
  pub front : (f : Forest) (k : ℕ) → Q (from_child k f) (from_child (k + 1) f)
  front f k = rw (add-one k) (front-step f k)

pub first_token-front : (d : ℕ) (f : Forest) (k : ℕ)
    → first_token (from_child k f) d ≡ unwrap_or (leading_token (from_child k f)) (first_token (from_child (k + 1) f) d)
first_token-front d =
    front (λ here behind. first_token here d ≡ unwrap_or (leading_token here) (first_token behind d)) refl (λ i rest. refl) (λ l first under rest. refl)

pub suffixed-front : (t : CType) (f : Forest) (k : ℕ)
    → suffixed t (from_child k f) ≡ front_suffixed (suffixed t (from_child (k + 1) f)) (from_child k f)
suffixed-front t =
    front (λ here behind. suffixed t here ≡ front_suffixed (suffixed t behind) here) refl (λ i rest. refl) (λ l first under rest. refl)

pub inner_in-front : (f : Forest) (k : ℕ) → inner_in (from_child k f) ≡ option_or (first_node (from_child k f)) (inner_in (from_child (k + 1) f))
inner_in-front =
    front (λ here behind. inner_in here ≡ option_or (first_node here) (inner_in behind)) refl (λ i rest. refl) (λ l first under rest. refl)

-- ---- The part nearest to a name

nearest-case : (s p : Bool) (here : Option Forest) (below behind : Option (Option Forest))
    → (if s then Some here else (if p then option_or behind (Some None) else option_or below behind))
    ≡ option_or (if s then Some here else (if p then None else below)) (if p then option_or behind (Some None) else behind)
nearest-case true p here below behind = refl
nearest-case false true here below behind = refl
nearest-case false false here below behind = refl

pub nearest_of-front : (f : Forest) (k : ℕ)
    → nearest_of (from_child k f)
    ≡ option_or (front_nearest (from_child k f))
    (if is_front_pointer (from_child k f) then option_or (nearest_of (from_child (k + 1) f)) (Some None) else nearest_of (from_child (k + 1) f))
nearest_of-front =
    front (λ here behind. nearest_of here
    ≡ option_or (front_nearest here) (if is_front_pointer here then option_or (nearest_of behind) (Some None) else nearest_of behind)) refl
    (λ i rest. refl)
    (λ l first under rest. nearest-case (is_node l Suffix) (is_node l Pointer) (if is_list l then Some under else None)
    (if is_aside l then None else nearest_of under) (nearest_of rest))

-- what is nearest, where pointers that were read before stand farthest
abbrev pub or_pointer : Bool → Option (Option Forest) → Option (Option Forest)
or_pointer pointed nearest = option_or nearest (if pointed then Some None else None)

pub or_pointer-found : (p q : Bool) (here behind whole found : Option (Option Forest)) (x : Option Forest) → or_pointer p here ≡ whole
    → here ≡ option_or found (if q then option_or behind (Some None) else behind) → found ≡ Some x → Some x ≡ whole
or_pointer-found p q here behind whole found x kept step is = sym (ap (or_pointer p) (step ∙ ap (λ f. option_or f (if q then option_or behind (Some None) else behind)) is)) ∙ kept

pointer-case : (p q : Bool) (behind : Option (Option Forest))
    → or_pointer p (if q then option_or behind (Some None) else behind) ≡ or_pointer (p || q) behind
pointer-case true true None = refl
pointer-case true true (Some x) = refl
pointer-case true false behind = refl
pointer-case false true None = refl
pointer-case false true (Some x) = refl
pointer-case false false behind = refl

pub or_pointer-on : (p q : Bool) (here behind whole found : Option (Option Forest)) → or_pointer p here ≡ whole
    → here ≡ option_or found (if q then option_or behind (Some None) else behind) → found ≡ None → or_pointer (p || q) behind ≡ whole
or_pointer-on p q here behind whole found kept step is =
    sym (pointer-case p q behind)
    ∙ (sym (ap (or_pointer p) (step ∙ ap (λ f. option_or f (if q then option_or behind (Some None) else behind)) is)) ∙ kept)

-- ---- What is found among children

pub found-yes : {X : Type 0} (here whole rest : X) (o : Option X) (x : X) → here ≡ whole → here ≡ unwrap_or o rest → o ≡ Some x → x ≡ whole
found-yes here whole rest o x kept step is = sym (step ∙ ap (λ p. unwrap_or p rest) is) ∙ kept

pub found-no : {X : Type 0} (here whole rest : X) (o : Option X) → here ≡ whole → here ≡ unwrap_or o rest → o ≡ None → rest ≡ whole
found-no here whole rest o kept step is = sym (step ∙ ap (λ p. unwrap_or p rest) is) ∙ kept

pub or-yes : {X : Type 0} (here whole rest o : Option X) (x : X) → here ≡ whole → here ≡ option_or o rest → o ≡ Some x → Some x ≡ whole
or-yes here whole rest o x kept step is = sym (step ∙ ap (λ p. option_or p rest) is) ∙ kept

pub or-no : {X : Type 0} (here whole rest o : Option X) → here ≡ whole → here ≡ option_or o rest → o ≡ None → rest ≡ whole
or-no here whole rest o kept step is = sym (step ∙ ap (λ p. option_or p rest) is) ∙ kept
