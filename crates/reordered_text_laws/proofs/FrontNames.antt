-- The names that a reader has declared behind a typedef that stands in front of a text.
use Rattle.std.proofs.Common.{ℕ, zero, suc, ◌-◌, ◌≡◌, Bool, true, false, if◌then◌else◌, ◌==◌, List, [], ◌∷◌, ◌++◌, length, take, slice_get, Option, None, Some, unwrap_or, refl, ap, ◌∙◌}
use Rattle.std.specs.Option.{option_map_or}
use Rattle.c99_tree.specs.declared.production.Production.{Production}
use Rattle.c99_read.specs.State.{Names, Head, declaration, in_innermost, with_declared, with_scope_ended, given_names, is_declarator, with_head, head_closed, names_opened, names_closed}
use Rattle.reordered_text_laws.specs.Fronted.{up}
use Rattle.reordered_text_laws.proofs.Before.{Declaration}

abbrev pub up_option : Option ℕ → Option ℕ
up_option None = None
up_option (Some i) = Some (up i)

abbrev pub up_in : List Declaration → List Declaration
up_in [] = []
up_in (d ∷ ds) = declaration (up d.name_at) d.typedef ∷ up_in ds

-- the declaration in front
abbrev pub front_one : Declaration
front_one = declaration 2 true

abbrev pub up_scopes : List (List Declaration) → List (List Declaration)
up_scopes [] = []
up_scopes (s ∷ []) = (up_in s ++ (front_one ∷ [])) ∷ []
up_scopes (s ∷ (t ∷ outer)) = up_in s ∷ up_scopes (t ∷ outer)

abbrev pub up_given : Option (List Declaration) → Option (List Declaration)
up_given None = None
up_given (Some ds) = Some (up_in ds)

abbrev pub up_head : Head → Head
up_head h = record { scopes_open = h.scopes_open; given = up_given h.given }

abbrev pub up_heads : List Head → List Head
up_heads [] = []
up_heads (h ∷ heads) = up_head h ∷ up_heads heads

abbrev pub up_names : Names → Names
up_names n = record { scopes = up_scopes n.scopes; ended = up_in n.ended; heads = up_heads n.heads; kept = up_in n.kept }

abbrev pub IsOpen : List (List Declaration) → Type 0
IsOpen [] = ⊥
IsOpen (s ∷ outer) = Unit {0}

-- ---- Scopes

pub scope_up : (ds : List Declaration) (scopes : List (List Declaration)) → IsOpen scopes → up_in ds ∷ up_scopes scopes ≡ up_scopes (ds ∷ scopes)
scope_up ds [] h = absurd h
scope_up ds (s ∷ outer) h = refl

pub length-up : (scopes : List (List Declaration)) → length (up_scopes scopes) ≡ length scopes
length-up [] = refl
length-up (s ∷ []) = refl
length-up (s ∷ (t ∷ outer)) = ap suc (length-up (t ∷ outer))

innermost_up : (scopes : List (List Declaration)) (i : ℕ) (t : Bool) → in_innermost (up_scopes scopes) (declaration (up i) t) ≡ up_scopes (in_innermost scopes (declaration i t))
innermost_up [] i t = refl
innermost_up (s ∷ []) i t = refl
innermost_up (s ∷ (u ∷ outer)) i t = refl

pub declared_up : (n : Names) (o : Option ℕ) (t : Bool) → with_declared (up_names n) (up_option o) t ≡ up_names (with_declared n o t)
declared_up n None t = refl
declared_up n (Some i) t = ap (λ scopes. record (up_names n) { scopes = scopes }) (innermost_up n.scopes i t)

pub ended_up : (n : Names) (scopes : List (List Declaration)) → with_scope_ended (up_names n) (up_scopes scopes) ≡ up_names (with_scope_ended n scopes)
ended_up n [] = refl
ended_up n (s ∷ []) = refl
ended_up n (s ∷ (t ∷ [])) = refl
ended_up n (s ∷ (t ∷ (u ∷ outer))) = refl

-- ---- Declarators

unwrapped_up : (given : Option (List Declaration)) (ds : List Declaration) → unwrap_or (up_given given) (up_in ds) ≡ up_in (unwrap_or given ds)
unwrapped_up None ds = refl
unwrapped_up (Some given) ds = refl

pub given_up : (count : ℕ) (ds : List Declaration) (heads : List Head) → given_names count (up_in ds) (up_heads heads) ≡ up_heads (given_names count ds heads)
given_up count ds [] = refl
given_up count ds (h ∷ heads) = by (h.scopes_open == count) (given_up count ds heads)
  where
    by : (c : Bool) → given_names count (up_in ds) (up_heads heads) ≡ up_heads (given_names count ds heads)
        → (if c then (record (up_head h) { given = Some (unwrap_or (up_given h.given) (up_in ds)) } ∷ up_heads heads) else (up_head h ∷ given_names count (up_in ds) (up_heads heads)))
        ≡ up_heads (if c then (record h { given = Some (unwrap_or h.given ds) } ∷ heads) else (h ∷ given_names count ds heads))
    by true e = ap (λ x. record (up_head h) { given = Some x } ∷ up_heads heads) (unwrapped_up h.given ds)
    by false e = ap (λ (hs : List Head). up_head h ∷ hs) e

length-heads : (heads : List Head) → length (up_heads heads) ≡ length heads
length-heads [] = refl
length-heads (h ∷ heads) = ap suc (length-heads heads)

more_up : (heads : List Head) (h : Head) → up_heads heads ++ (up_head h ∷ []) ≡ up_heads (heads ++ (h ∷ []))
more_up [] h = refl
more_up (x ∷ heads) h = ap (λ (hs : List Head). up_head x ∷ hs) (more_up heads h)

take_up : (m : ℕ) (heads : List Head) → take m (up_heads heads) ≡ up_heads (take m heads)
take_up zero heads = refl
take_up (suc m) [] = refl
take_up (suc m) (h ∷ heads) = ap (λ (hs : List Head). up_head h ∷ hs) (take_up m heads)

kept_up : (m : ℕ) (heads : List Head) → option_map_or (λ h. unwrap_or h.given []) (slice_get (up_heads heads) m) [] ≡ up_in (option_map_or (λ h. unwrap_or h.given []) (slice_get heads m) [])
kept_up m [] = refl
kept_up zero (h ∷ heads) = unwrapped_up h.given []
kept_up (suc m) (h ∷ heads) = kept_up m heads

pub opened_up : (p : Production) (n : Names) → names_opened p (up_names n) ≡ up_names (names_opened p n)
opened_up p n = by (is_declarator p)
  where
    by : (c : Bool) → (if c then with_head (up_names n) else up_names n) ≡ up_names (if c then with_head n else n)
    by true =
        ap (λ k. record (up_names n) { heads = up_heads n.heads ++ (record { scopes_open = k; given = None } ∷ []) }) (length-up n.scopes)
        ∙ ap (λ hs. record (up_names n) { heads = hs }) (more_up n.heads (record { scopes_open = length n.scopes; given = None }))
    by false = refl

pub closed_up : (p : Production) (n : Names) → names_closed p (up_names n) ≡ up_names (names_closed p n)
closed_up p n = by (is_declarator p)
  where
    by : (c : Bool) → (if c then head_closed (up_names n) else up_names n) ≡ up_names (if c then head_closed n else n)
    by true =
        ap (λ k. record (up_names n) { heads = take (k - 1) (up_heads n.heads); kept = option_map_or (λ h. unwrap_or h.given []) (slice_get (up_heads n.heads) (k - 1)) [] }) (length-heads n.heads)
        ∙ (ap (λ hs. record (up_names n) { heads = hs; kept = option_map_or (λ h. unwrap_or h.given []) (slice_get (up_heads n.heads) (length n.heads - 1)) [] }) (take_up (length n.heads - 1) n.heads)
        ∙ ap (λ ds. record (up_names n) { heads = up_heads (take (length n.heads - 1) n.heads); kept = ds }) (kept_up (length n.heads - 1) n.heads))
    by false = refl
