-- The names that the reader has declared are tokens before the next one.
use Rattle.std.proofs.Common.{ℕ, zero, suc, ◌-◌, ◌<◌, ◌≤◌, Bool, true, false, if◌then◌else◌, ◌==◌, List, [], ◌∷◌, ◌++◌, length, take, slice_get, Option, None, Some, unwrap_or, arith}
use Rattle.std.specs.Option.{option_map_or}
use Rattle.cs_base.specs.Token.{Token}
use Rattle.c99_tree.specs.Tree.{Forest, none, token, node, Node, leaf, inner, put, lone, collapsed}
use Rattle.c99_tree.specs.declared.production.Label.{Label}
use Rattle.c99_tree.specs.declared.production.Production.{Production}
use Rattle.c99_grammar.specs.Items.{Action, scope, end, declare, name, keep, again}
use Rattle.c99_grammar.specs.Standard.{Grammar}
use Rattle.c99_read.specs.State.{State, Names, Head, base_at, is_identifier, is_declaring, has_name, name_below, last_declared, last_identifier, declaration, in_innermost, with_declared, with_scope_ended, given_names, names_after, is_declarator, collapses, with_head, head_closed, names_opened, names_closed, finished}

-- the type of the reader's declarations, which it keeps to itself
abbrev Given : {A B : Type 0} → (A → B) → Type 0
Given {A} {B} f = B

abbrev pub Declaration : Type 0
Declaration = Given (declaration 0)

abbrev pub IsBefore : ℕ → Option ℕ → Type 0
IsBefore n None = Unit {0}
IsBefore n (Some i) = i < n

abbrev pub AllIn : ℕ → List Declaration → Type 0
AllIn n [] = Unit {0}
AllIn n (d ∷ ds) = (d.name_at < n) × AllIn n ds

abbrev pub AllScopes : ℕ → List (List Declaration) → Type 0
AllScopes n [] = Unit {0}
AllScopes n (s ∷ outer) = AllIn n s × AllScopes n outer

abbrev pub GivenIn : ℕ → Option (List Declaration) → Type 0
GivenIn n None = Unit {0}
GivenIn n (Some ds) = AllIn n ds

abbrev pub AllHeads : ℕ → List Head → Type 0
AllHeads n [] = Unit {0}
AllHeads n (h ∷ heads) = GivenIn n h.given × AllHeads n heads

-- the tokens below some children
abbrev pub Tokens : ℕ → Forest → Type 0
Tokens n none = Unit {0}
Tokens n (token i rest) = (i < n) × Tokens n rest
Tokens n (node l first under rest) = Tokens n under × Tokens n rest

pub record NamesBefore (n : ℕ) (names : Names) : Type 0 where
  pub scopes : AllScopes n names.scopes
  pub ended : AllIn n names.ended
  pub heads : AllHeads n names.heads
  pub kept : AllIn n names.kept

-- ---- Later tokens

module _ (n m : ℕ) (le : n ≤ m) where
  in_later : (ds : List Declaration) → AllIn n ds → AllIn m ds
  in_later [] h = tt
  in_later (d ∷ ds) h = (let k : d.name_at < n = h.0 in omega (arith, k, le), in_later ds h.1)

  scopes_later : (scopes : List (List Declaration)) → AllScopes n scopes → AllScopes m scopes
  scopes_later [] h = tt
  scopes_later (s ∷ outer) h = (in_later s h.0, scopes_later outer h.1)

  given_later : (given : Option (List Declaration)) → GivenIn n given → GivenIn m given
  given_later None h = tt
  given_later (Some ds) h = in_later ds h

  heads_later : (heads : List Head) → AllHeads n heads → AllHeads m heads
  heads_later [] h = tt
  heads_later (x ∷ heads) h = (given_later x.given h.0, heads_later heads h.1)

  pub tokens_later : (f : Forest) → Tokens n f → Tokens m f
  tokens_later none h = tt
  tokens_later (token i rest) h = (let k : i < n = h.0 in omega (arith, k, le), tokens_later rest h.1)
  tokens_later (node l first under rest) h = (tokens_later under h.0, tokens_later rest h.1)

  pub names_later : (names : Names) → NamesBefore n names → NamesBefore m names
  names_later names h = record {
    scopes = scopes_later names.scopes h.scopes;
    ended = in_later names.ended h.ended;
    heads = heads_later names.heads h.heads;
    kept = in_later names.kept h.kept;
  }

module _ (n : ℕ) where
  -- ---- Trees

  pub tokens_leaf : (f : Forest) (i : ℕ) → Tokens n f → i < n → Tokens n (put f (leaf i))
  tokens_leaf none i k h = (h, tt)
  tokens_leaf (token j rest) i k h = (k.0, tokens_leaf rest i k.1 h)
  tokens_leaf (node l first under rest) i k h = (k.0, tokens_leaf rest i k.1 h)

  pub tokens_inner : (f : Forest) (x : Node) → Tokens n f → Tokens n x.under → Tokens n (put f (inner x))
  tokens_inner none x k h = (h, tt)
  tokens_inner (token j rest) x k h = (k.0, tokens_inner rest x k.1 h)
  tokens_inner (node l first under rest) x k h = (k.0, tokens_inner rest x k.1 h)

  below_is : (l : Label) (f : Forest) → Tokens n f → IsBefore n (name_below l f)
  below_is l none k = tt
  below_is l (token i rest) k = by (has_name l) (below_is l rest k.1)
    where
      by : (c : Bool) → IsBefore n (name_below l rest) → IsBefore n (if c then Some i else name_below l rest)
      by true m = k.0
      by false m = m
  below_is l (node m first under rest) k = by (is_declaring m.production) (below_is m under k.0) (below_is l rest k.1)
    where
      by : (c : Bool) → IsBefore n (name_below m under) → IsBefore n (name_below l rest) → IsBefore n (if c then name_below m under else name_below l rest)
      by true h g = h
      by false h g = g

  last_is : (f : Forest) → Tokens n f → IsBefore n (last_declared f)
  last_is none k = tt
  last_is (token i rest) k = last_is rest k.1
  last_is (node l first under none) k = below_is l under k.0
  last_is (node l first under (token i rest)) k = last_is (token i rest) k.1
  last_is (node l first under (node m second below rest)) k = last_is (node m second below rest) k.1

  identifier_is : (g : Grammar) (toks : List Token) (f : Forest) (found : Option ℕ) → Tokens n f → IsBefore n found → IsBefore n (last_identifier g toks f found)
  identifier_is g toks none found k h = h
  identifier_is g toks (token i rest) found k h = identifier_is g toks rest _ k.1 (by (is_identifier (base_at g toks i)))
    where
      by : (c : Bool) → IsBefore n (if c then Some i else found)
      by true = k.0
      by false = h
  identifier_is g toks (node l first under rest) found k h = identifier_is g toks rest found k.1 h

  lone_is : (f : Forest) (x : Node) → Tokens n f → Tokens n x.under → Tokens n (lone f x).under
  lone_is none x k h = h
  lone_is (token i rest) x k h = h
  lone_is (node l first under none) x k h = k.0
  lone_is (node l first under (token i rest)) x k h = h
  lone_is (node l first under (node m second below rest)) x k h = h

  pub finished_is : (p : Production) (x : Node) → Tokens n x.under → Tokens n (finished p x).under
  finished_is p x h = by (collapses p)
    where
      by : (c : Bool) → Tokens n (if c then collapsed x else x).under
      by true = lone_is x.under x h h
      by false = h

  -- ---- Scopes

  innermost : (scopes : List (List Declaration)) (i : ℕ) (typedef : Bool) → AllScopes n scopes → i < n → AllScopes n (in_innermost scopes (declaration i typedef))
  innermost [] i typedef k h = tt
  innermost (s ∷ outer) i typedef k h = ((h, k.0), k.1)

  declared_is : (names : Names) (o : Option ℕ) (typedef : Bool) → IsBefore n o → NamesBefore n names → NamesBefore n (with_declared names o typedef)
  declared_is names None typedef h k = k
  declared_is names (Some i) typedef h k = record { scopes = innermost names.scopes i typedef k.scopes h; ended = k.ended; heads = k.heads; kept = k.kept }

  ended_is : (names : Names) (scopes : List (List Declaration)) → AllScopes n scopes → NamesBefore n names → NamesBefore n (with_scope_ended names scopes)
  ended_is names [] h k = k
  ended_is names (s ∷ []) h k = k
  ended_is names (s ∷ (next ∷ outer)) h k = record { scopes = h.1; ended = h.0; heads = k.heads; kept = k.kept }

  unwrapped : (given : Option (List Declaration)) (ds : List Declaration) → GivenIn n given → AllIn n ds → AllIn n (unwrap_or given ds)
  unwrapped None ds h k = k
  unwrapped (Some given) ds h k = h

  heads_given : (count : ℕ) (ds : List Declaration) (heads : List Head) → AllHeads n heads → AllIn n ds → AllHeads n (given_names count ds heads)
  heads_given count ds [] k h = tt
  heads_given count ds (x ∷ heads) k h = by (x.scopes_open == count) (heads_given count ds heads k.1 h)
    where
      by : (c : Bool) → AllHeads n (given_names count ds heads)
          → AllHeads n (if c then (record x { given = Some (unwrap_or x.given ds) } ∷ heads) else (x ∷ given_names count ds heads))
      by true m = (unwrapped x.given ds k.0 h, k.1)
      by false m = (k.0, m)

  heads_more : (heads : List Head) (x : Head) → AllHeads n heads → GivenIn n x.given → AllHeads n (heads ++ x ∷ [])
  heads_more [] x k h = (h, tt)
  heads_more (y ∷ heads) x k h = (k.0, heads_more heads x k.1 h)

  heads_take : (m : ℕ) (heads : List Head) → AllHeads n heads → AllHeads n (take m heads)
  heads_take zero heads k = tt
  heads_take (suc m) [] k = tt
  heads_take (suc m) (h ∷ heads) k = (k.0, heads_take m heads k.1)

  heads_kept : (m : ℕ) (heads : List Head) → AllHeads n heads → AllIn n (option_map_or (λ h. unwrap_or h.given []) (slice_get heads m) [])
  heads_kept m [] k = tt
  heads_kept zero (h ∷ heads) k = unwrapped h.given [] k.0 tt
  heads_kept (suc m) (h ∷ heads) k = heads_kept m heads k.1

  pub opened_is : (p : Production) (names : Names) → NamesBefore n names → NamesBefore n (names_opened p names)
  opened_is p names k = by (is_declarator p)
    where
      by : (c : Bool) → NamesBefore n (if c then with_head names else names)
      by true = record { scopes = k.scopes; ended = k.ended; heads = heads_more names.heads _ k.heads tt; kept = k.kept }
      by false = k

  pub closed_is : (p : Production) (names : Names) → NamesBefore n names → NamesBefore n (names_closed p names)
  closed_is p names k = by (is_declarator p)
    where
      by : (c : Bool) → NamesBefore n (if c then head_closed names else names)
      by true = record {
        scopes = k.scopes;
        ended = k.ended;
        heads = heads_take (length names.heads - 1) names.heads k.heads;
        kept = heads_kept (length names.heads - 1) names.heads k.heads;
      }
      by false = k

  pub after_is : (g : Grammar) (action : Action) (s : State) → Tokens n s.built.under → NamesBefore n s.names → NamesBefore n (names_after g action s)
  after_is g scope s t k = record { scopes = (tt, k.scopes); ended = k.ended; heads = k.heads; kept = k.kept }
  after_is g end s t k = ended_is s.names s.names.scopes k.scopes k
  after_is g declare s t k = declared_is s.names (last_declared s.built.under) s.near (last_is s.built.under t) k
  after_is g name s t k = declared_is s.names (last_identifier g s.toks s.built.under None) false (identifier_is g s.toks s.built.under None t tt) k
  after_is g keep s t k = record {
    scopes = k.scopes;
    ended = k.ended;
    heads = heads_given (length s.names.scopes) s.names.ended s.names.heads k.heads k.ended;
    kept = k.kept;
  }
  after_is g again s t k = record { scopes = (k.kept, k.scopes); ended = k.ended; heads = k.heads; kept = k.kept }
