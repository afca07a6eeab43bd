-- The reader's open scopes beside the declarations of the walk: at each token from the next one on, the same names
-- are visible.
use Rattle.std.proofs.Common.{ℕ, ◌+◌, ◌≤◌, ◌≡◌, Bool, true, false, ◌&&◌, not, if◌then◌else◌, List, [], ◌∷◌, ◌++◌, Option, None, Some, nat_lt, refl, sym, ap, subst, ◌∙◌, arith, unwrap_or}
use Rattle.std.proofs.lemmas.Bool.{le-ltb, lt-ltb}
use Rattle.std.specs.Str.{bytes_eq}
use Rattle.c99_grammar.specs.declared.dialects.Edition.{Edition}
use Rattle.cs_base.specs.Token.{Token}
use Rattle.c99_tree.specs.Names.{latest}
use Rattle.c99_read.specs.State.{declaration, spelling_at, spelled_scope, is_typedef_at}
use Rattle.c_types.specs.Declarations.{alike}
use Rattle.tree_laws.proofs.Private.{Declaration}
use Rattle.tree_laws.proofs.Outline.{Entry, entry, is_open, typedef_among}
use Rattle.tree_laws.proofs.Outlines.{among_step}

-- the names of the scopes that end behind token k
abbrev pub seen : ℕ → List (List Declaration) → List ℕ → List Declaration
seen k [] ends = []
seen k (s ∷ outer) [] = []
seen k (s ∷ outer) (e ∷ ends) = (if nat_lt k e then s else []) ++ seen k outer ends

-- the declarations whose ranges hold token k
abbrev pub shown : ℕ → List Entry → List Declaration
shown k [] = []
shown k (e ∷ es) = if is_open k e then declaration e.name_at e.typedef ∷ shown k es else shown k es

abbrev pub Matches : ℕ → List (List Declaration) → List ℕ → List Entry → Type 0
Matches at scopes ends es = (k : ℕ) → at ≤ k → shown k es ≡ seen k scopes ends

pub matches_later : (at later : ℕ) (scopes : List (List Declaration)) (ends : List ℕ) (es : List Entry) → at ≤ later
    → Matches at scopes ends es → Matches later scopes ends es
matches_later at later scopes ends es h m = λ k w. m k (omega arith)

-- a scope begins
pub matches_begun : (at e : ℕ) (scopes : List (List Declaration)) (ends : List ℕ) (es : List Entry)
    → Matches at scopes ends es → Matches at ([] ∷ scopes) (e ∷ ends) es
matches_begun at e scopes ends es m = λ k w. m k w ∙ by k (nat_lt k e)
  where
    by : (k : ℕ) (c : Bool) → seen k scopes ends ≡ (if c then [] else []) ++ seen k scopes ends
    by k true = refl
    by k false = refl

-- .. and ends
pub matches_ended : (at e : ℕ) (s : List Declaration) (scopes : List (List Declaration)) (ends : List ℕ) (es : List Entry)
    → Matches at (s ∷ scopes) (e ∷ ends) es → e ≤ at → Matches at scopes ends es
matches_ended at e s scopes ends es m h = λ k w. m k w ∙ ap (λ c. (if c then s else []) ++ seen k scopes ends) (le-ltb k e (omega arith))

-- a declaration is put into the innermost scope
module _ (at i from e depth : ℕ) (t : Bool) (s : List Declaration) (scopes : List (List Declaration)) (ends : List ℕ) (es : List Entry) where
  put_case : (k : ℕ) (c : Bool) → shown k es ≡ (if c then s else []) ++ seen k scopes ends
      → (if c then declaration i t ∷ shown k es else shown k es) ≡ (if c then declaration i t ∷ s else []) ++ seen k scopes ends
  put_case k true m = ap (λ ds. declaration i t ∷ ds) m
  put_case k false m = m

  pub matches_added : Matches at (s ∷ scopes) (e ∷ ends) es → from ≤ at
      → Matches at ((declaration i t ∷ s) ∷ scopes) (e ∷ ends) (entry i t depth from e ∷ es)
  matches_added m h = λ k w.
      ap (λ c. if not c && nat_lt k e then declaration i t ∷ shown k es else shown k es) (le-ltb k from (omega arith))
      ∙ put_case k (nat_lt k e) (m k w)

-- ---- Where scopes end

-- no open scope ends before token k
abbrev pub Within : ℕ → List (List Declaration) → List ℕ → Type 0
Within k [] ends = Unit {0}
Within k (s ∷ outer) [] = ⊥
Within k (s ∷ outer) (e ∷ ends) = (k ≤ e) × Within k outer ends

-- .. and the innermost one ends before token `to`
abbrev pub Bounds : ℕ → ℕ → List (List Declaration) → List ℕ → Type 0
Bounds k to [] ends = ⊥
Bounds k to (s ∷ outer) [] = ⊥
Bounds k to (s ∷ outer) (e ∷ ends) = (e ≡ to) × ((k ≤ e) × Within k outer ends)

-- a scope is open
abbrev pub IsOpen : List (List Declaration) → Type 0
IsOpen [] = ⊥
IsOpen (s ∷ outer) = Unit {0}

-- where one is open, the scopes around the innermost one are the same
abbrev pub SameOuter : List (List Declaration) → List (List Declaration) → Type 0
SameOuter [] y = Unit {0}
SameOuter (s ∷ outer) [] = ⊥
SameOuter (s ∷ outer) (s' ∷ outer') = outer' ≡ outer

pub outer_still : (x : List (List Declaration)) → SameOuter x x
outer_still [] = tt
outer_still (s ∷ outer) = refl

pub outer_further : (x y z : List (List Declaration)) → SameOuter x y → SameOuter y z → SameOuter x z
outer_further [] y z h k = tt
outer_further (a ∷ x) [] z h k = absurd h
outer_further (a ∷ x) (b ∷ y) [] h k = absurd k
outer_further (a ∷ x) (b ∷ y) (c ∷ z) h k = k ∙ h

pub outer_open : (x y : List (List Declaration)) → IsOpen x → SameOuter x y → IsOpen y
outer_open [] y h k = absurd h
outer_open (a ∷ x) [] h k = absurd k
outer_open (a ∷ x) (b ∷ y) h k = tt

pub within_sooner : (k k' : ℕ) (scopes : List (List Declaration)) (ends : List ℕ) → k ≤ k' → Within k' scopes ends → Within k scopes ends
within_sooner k k' [] ends h w = tt
within_sooner k k' (s ∷ outer) [] h w = absurd w
within_sooner k k' (s ∷ outer) (e ∷ ends) h w =
    let here : k' ≤ e = w.0 in
    (omega arith, within_sooner k k' outer ends h w.1)

-- the bounds that hold later hold before
pub bounds_sooner : (k k' to : ℕ) (x y : List (List Declaration)) (ends : List ℕ) → IsOpen x → k ≤ k' → SameOuter x y → Bounds k' to y ends → Bounds k to x ends
bounds_sooner k k' to [] y ends o h same b = absurd o
bounds_sooner k k' to (s ∷ x) [] ends o h same b = absurd same
bounds_sooner k k' to (s ∷ x) (t ∷ y) [] o h same b = absurd b
bounds_sooner k k' to (s ∷ x) (t ∷ y) (e ∷ ends) o h same b =
    let here : k' ≤ e = b.1.0 in
    (b.0, (omega arith, within_sooner k k' x ends h (subst (λ z. Within k' z ends) same b.1.1)))

pub bounds_within : (k to : ℕ) (scopes : List (List Declaration)) (ends : List ℕ) → Bounds k to scopes ends → Within k scopes ends
bounds_within k to [] ends b = absurd b
bounds_within k to (s ∷ outer) [] b = absurd b
bounds_within k to (s ∷ outer) (e ∷ ends) b = b.1

-- a scope began, and is still the innermost one
pub bounds_inner : (k to : ℕ) (scopes x : List (List Declaration)) (ends : List ℕ) → SameOuter ([] ∷ scopes) x → k ≤ to → Within k scopes ends
    → Bounds k to x (to ∷ ends)
bounds_inner k to scopes [] ends same h w = absurd same
bounds_inner k to scopes (s ∷ x) ends same h w = (refl, (h, subst (λ z. Within k z ends) (sym same) w))

-- .. and ends
pub matches_left : (at to : ℕ) (scopes x : List (List Declaration)) (ends : List ℕ) (es : List Entry) → SameOuter ([] ∷ scopes) x → to ≤ at
    → Matches at x (to ∷ ends) es → Matches at scopes ends es
matches_left at to scopes [] ends es same h m = absurd same
matches_left at to scopes (s ∷ x) ends es same h m = subst (λ z. Matches at z ends es) same (matches_ended at to s x ends es m h)

-- ---- What a name is

-- what the first of the declarations with its spelling says
abbrev pub first_of : List Token → ℕ → List Declaration → Option Bool
first_of toks i [] = None
first_of toks i (d ∷ ds) = if bytes_eq (spelling_at toks i) (spelling_at toks d.name_at) then Some d.typedef else first_of toks i ds

module _ (std : Edition) where
  module _ (toks : List Token) (i : ℕ) where
    latest_first : (s : List Declaration) → latest (spelled_scope toks s) (spelling_at toks i) ≡ first_of toks i s
    latest_first [] = refl
    latest_first (d ∷ older) =
        ap (λ r. if bytes_eq (spelling_at toks i) (spelling_at toks d.name_at) then Some d.typedef else r) (latest_first older)

    first_append : (s ds : List Declaration)
        → unwrap_or (first_of toks i (s ++ ds)) false ≡ unwrap_or (first_of toks i s) (unwrap_or (first_of toks i ds) false)
    first_append [] ds = refl
    first_append (d ∷ s) ds = by (bytes_eq (spelling_at toks i) (spelling_at toks d.name_at)) (first_append s ds)
      where
        by : (c : Bool) → unwrap_or (first_of toks i (s ++ ds)) false ≡ unwrap_or (first_of toks i s) (unwrap_or (first_of toks i ds) false)
            → unwrap_or (if c then Some d.typedef else first_of toks i (s ++ ds)) false
            ≡ unwrap_or (if c then Some d.typedef else first_of toks i s) (unwrap_or (first_of toks i ds) false)
        by true e = refl
        by false e = e

    -- in scopes that all hold the token
    seen_typedef : (scopes : List (List Declaration)) (ends : List ℕ) → Within (i + 1) scopes ends
        → is_typedef_at toks scopes i ≡ unwrap_or (first_of toks i (seen i scopes ends)) false
    seen_typedef [] ends w = refl
    seen_typedef (s ∷ outer) [] w = absurd w
    seen_typedef (s ∷ outer) (e ∷ ends) w =
        let here : i + 1 ≤ e = w.0 in
        let open_ : nat_lt i e ≡ true = lt-ltb i e (omega arith) in
        ap (λ r. unwrap_or r (is_typedef_at toks outer i)) (latest_first s)
        ∙ (ap (λ r. unwrap_or (first_of toks i s) r) (seen_typedef outer ends w.1)
        ∙ (sym (first_append s (seen i outer ends))
        ∙ ap (λ c. unwrap_or (first_of toks i ((if c then s else []) ++ seen i outer ends)) false) (sym open_)))

    shown_case : (a l t x : Bool) (d : Declaration) (ds : List Declaration)
        → bytes_eq (spelling_at toks i) (spelling_at toks d.name_at) ≡ a → d.typedef ≡ t → x ≡ unwrap_or (first_of toks i ds) false
        → (if a && l then t else x) ≡ unwrap_or (first_of toks i (if l then d ∷ ds else ds)) false
    shown_case true true t x d ds e f same =
        sym (ap (λ c. unwrap_or (if c then Some d.typedef else first_of toks i ds) false) e ∙ f)
    shown_case false true t x d ds e f same =
        same ∙ sym (ap (λ c. unwrap_or (if c then Some d.typedef else first_of toks i ds) false) e)
    shown_case true false t x d ds e f same = same
    shown_case false false t x d ds e f same = same

    shown_typedef : (es : List Entry) → typedef_among std toks i es ≡ unwrap_or (first_of toks i (shown i es)) false
    shown_typedef [] = refl
    shown_typedef (e ∷ es) =
        (among_step std) toks i e es
        ∙ shown_case (alike toks i e.name_at) (is_open i e) e.typedef (typedef_among std toks i es) (declaration e.name_at e.typedef) (shown i es) refl refl (shown_typedef es)

    -- the reader and the walk agree on it
    pub same_typedef : (at : ℕ) (scopes : List (List Declaration)) (ends : List ℕ) (es : List Entry) → at ≤ i → Within (i + 1) scopes ends
        → Matches at scopes ends es → is_typedef_at toks scopes i ≡ typedef_among std toks i es
    same_typedef at scopes ends es h w m =
        seen_typedef scopes ends w ∙ (ap (λ ds. unwrap_or (first_of toks i ds) false) (sym (m i h)) ∙ sym (shown_typedef es))
