-- The names that the reader declares are identifiers.
use Rattle.std.proofs.Common.{ℕ, zero, suc, ◌-◌, ◌≡◌, Bool, true, false, ◌||◌, not, if◌then◌else◌, ◌==◌, List, [], ◌∷◌, ◌++◌, length, take, slice_get, Option, None, Some, unwrap_or, refl, sym, ap, subst, ◌∙◌}
use Rattle.std.specs.Option.{option_map_or}
use Rattle.c99_grammar.specs.declared.dialects.Dialect.{Dialect}
use Rattle.cs_base.specs.Token.{Token}
use Rattle.c99_tree.specs.Tree.{Forest, none, token, node, Node, leaf, inner, put, lone, collapsed}
use Rattle.c99_tree.specs.declared.production.Label.{Label}
use Rattle.c99_tree.specs.declared.production.Production.{Production}
use Rattle.c99_grammar.specs.Classes.{among}
use Rattle.c99_grammar.specs.Items.{Action, scope, end, declare, name, keep, again}
use Rattle.c99_grammar.specs.Standard.{grammar}
use Rattle.c99_read.specs.State.{State, Names, Head, base_at, is_identifier, class_at, is_declaring, has_name, name_below, last_declared, last_identifier, declaration, in_innermost, with_declared, with_scope_ended, given_names, acted, is_declarator, collapses, with_head, head_closed, names_opened, names_closed, finished, opened, closed}
use Rattle.renamed_tree_laws.specs.Respelled.{Declaration}
use Rattle.renamed_tree_laws.proofs.Private.{Class, covers}
use Rattle.renamed_tree_laws.proofs.Twins.{name_is}
use Rattle.renamed_tree_laws.proofs.Moods.{named_where}
use Rattle.renamed_tree_laws.proofs.Steps.{with_token}
use Rattle.renamed_tree_laws.proofs.Keeping.{Kept}

module _ (std : Dialect) where
  module _ (toks : List Token) where
    abbrev pub Is : ℕ → Type 0
    Is k = is_identifier (base_at (grammar std) toks k) ≡ true

    abbrev pub IsName : Option ℕ → Type 0
    IsName None = Unit {0}
    IsName (Some i) = Is i

    abbrev pub AllIn : List Declaration → Type 0
    AllIn [] = Unit {0}
    AllIn (d ∷ ds) = Is d.name_at × AllIn ds

    abbrev pub AllScopes : List (List Declaration) → Type 0
    AllScopes [] = Unit {0}
    AllScopes (s ∷ outer) = AllIn s × AllScopes outer

    abbrev pub GivenIn : Option (List Declaration) → Type 0
    GivenIn None = Unit {0}
    GivenIn (Some ds) = AllIn ds

    abbrev pub AllHeads : List Head → Type 0
    AllHeads [] = Unit {0}
    AllHeads (h ∷ heads) = GivenIn h.given × AllHeads heads

    -- the names of the declarators among children
    abbrev pub Kids : Forest → Type 0
    Kids none = Unit {0}
    Kids (token i rest) = Kids rest
    Kids (node l first under rest) = IsName (name_below l under) × Kids rest

    -- the tokens among them
    abbrev pub Tokens : Forest → Type 0
    Tokens none = Unit {0}
    Tokens (token i rest) = Is i × Tokens rest
    Tokens (node l first under rest) = Tokens rest

    pub record GoodNames (n : Names) : Type 0 where
      pub scopes : AllScopes n.scopes
      pub ended : AllIn n.ended
      pub heads : AllHeads n.heads
      pub kept : AllIn n.kept

    pub record GoodNode (n : Node) : Type 0 where
      pub kids : Kids n.under
      pub own : has_name n.label ≡ true → Tokens n.under

    pub record Good (s : State) : Type 0 where
      pub names : GoodNames s.names
      pub built : GoodNode s.built

    -- ---- Trees

    kids_leaf : (f : Forest) (i : ℕ) → Kids f → Kids (put f (leaf i))
    kids_leaf none i k = tt
    kids_leaf (token j rest) i k = kids_leaf rest i k
    kids_leaf (node l first under rest) i k = (k.0, kids_leaf rest i k.1)

    kids_inner : (f : Forest) (n : Node) → Kids f → IsName (name_below n.label n.under) → Kids (put f (inner n))
    kids_inner none n k h = (h, tt)
    kids_inner (token j rest) n k h = kids_inner rest n k h
    kids_inner (node l first under rest) n k h = (k.0, kids_inner rest n k.1 h)

    tokens_leaf : (f : Forest) (i : ℕ) → Tokens f → Is i → Tokens (put f (leaf i))
    tokens_leaf none i k h = (h, tt)
    tokens_leaf (token j rest) i k h = (k.0, tokens_leaf rest i k.1 h)
    tokens_leaf (node l first under rest) i k h = tokens_leaf rest i k h

    tokens_inner : (f : Forest) (n : Node) → Tokens f → Tokens (put f (inner n))
    tokens_inner none n k = tt
    tokens_inner (token j rest) n k = (k.0, tokens_inner rest n k.1)
    tokens_inner (node l first under rest) n k = tokens_inner rest n k

    below_is : (l : Label) (f : Forest) → Kids f → (has_name l ≡ true → Tokens f) → IsName (name_below l f)
    below_is l none k own = tt
    below_is l (token i rest) k own = by (has_name l) (λ h. (own h).0) (below_is l rest k (λ h. (own h).1))
      where
        by : (c : Bool) → (c ≡ true → Is i) → IsName (name_below l rest) → IsName (if c then Some i else name_below l rest)
        by true h m = h refl
        by false h m = m
    below_is l (node m first under rest) k own = by (is_declaring m.production) k.0 (below_is l rest k.1 own)
      where
        by : (c : Bool) → IsName (name_below m under) → IsName (name_below l rest) → IsName (if c then name_below m under else name_below l rest)
        by true h n = h
        by false h n = n

    last_is : (f : Forest) → Kids f → IsName (last_declared f)
    last_is none k = tt
    last_is (token i rest) k = last_is rest k
    last_is (node l first under none) k = k.0
    last_is (node l first under (token i rest)) k = last_is (token i rest) k.1
    last_is (node l first under (node m second below rest)) k = last_is (node m second below rest) k.1

    identifier_is : (f : Forest) (found : Option ℕ) → IsName found → IsName (last_identifier (grammar std) toks f found)
    identifier_is none found h = h
    identifier_is (token i rest) found h = identifier_is rest _ (by (is_identifier (base_at (grammar std) toks i)) refl)
      where
        by : (c : Bool) → is_identifier (base_at (grammar std) toks i) ≡ c → IsName (if c then Some i else found)
        by true e = e
        by false e = h
    identifier_is (node l first under rest) found h = identifier_is rest found h

    lone_is : (f : Forest) (n : Node) → Kids f → IsName (name_below n.label n.under) → IsName (name_below (lone f n).label (lone f n).under)
    lone_is none n k h = h
    lone_is (token i rest) n k h = h
    lone_is (node l first under none) n k h = k.0
    lone_is (node l first under (token i rest)) n k h = h
    lone_is (node l first under (node m second below rest)) n k h = h

    finished_is : (p : Production) (n : Node) → GoodNode n → IsName (name_below (finished p n).label (finished p n).under)
    finished_is p n g = by (collapses p)
      where
        by : (c : Bool) → IsName (name_below (if c then collapsed n else n).label (if c then collapsed n else n).under)
        by true = lone_is n.under n g.kids (below_is n.label n.under g.kids g.own)
        by false = below_is n.label n.under g.kids g.own

    -- ---- Scopes

    innermost : (scopes : List (List Declaration)) (i : ℕ) (typedef : Bool) → AllScopes scopes → Is i → AllScopes (in_innermost scopes (declaration i typedef))
    innermost [] i typedef k h = tt
    innermost (s ∷ outer) i typedef k h = ((h, k.0), k.1)

    good_declared : (n : Names) (o : Option ℕ) (typedef : Bool) → IsName o → GoodNames n → GoodNames (with_declared n o typedef)
    good_declared n None typedef h g = g
    good_declared n (Some i) typedef h g =
        record { scopes = innermost n.scopes i typedef g.scopes h; ended = g.ended; heads = g.heads; kept = g.kept }

    good_ended : (n : Names) (scopes : List (List Declaration)) → AllScopes scopes → GoodNames n → GoodNames (with_scope_ended n scopes)
    good_ended n [] k g = g
    good_ended n (s ∷ []) k g = g
    good_ended n (s ∷ (next ∷ outer)) k g = record { scopes = k.1; ended = k.0; heads = g.heads; kept = g.kept }

    unwrapped : (given : Option (List Declaration)) (ds : List Declaration) → GivenIn given → AllIn ds → AllIn (unwrap_or given ds)
    unwrapped None ds h k = k
    unwrapped (Some given) ds h k = h

    heads_given : (count : ℕ) (ds : List Declaration) (heads : List Head) → AllHeads heads → AllIn ds → AllHeads (given_names count ds heads)
    heads_given count ds [] k h = tt
    heads_given count ds (x ∷ heads) k h = by (x.scopes_open == count) (heads_given count ds heads k.1 h)
      where
        by : (c : Bool) → AllHeads (given_names count ds heads)
            → AllHeads (if c then (record x { given = Some (unwrap_or x.given ds) } ∷ heads) else (x ∷ given_names count ds heads))
        by true m = (unwrapped x.given ds k.0 h, k.1)
        by false m = (k.0, m)

    heads_more : (heads : List Head) (h : Head) → AllHeads heads → GivenIn h.given → AllHeads (heads ++ h ∷ [])
    heads_more [] h k g = (g, tt)
    heads_more (x ∷ heads) h k g = (k.0, heads_more heads h k.1 g)

    heads_take : (n : ℕ) (heads : List Head) → AllHeads heads → AllHeads (take n heads)
    heads_take zero heads k = tt
    heads_take (suc n) [] k = tt
    heads_take (suc n) (h ∷ heads) k = (k.0, heads_take n heads k.1)

    heads_kept : (n : ℕ) (heads : List Head) → AllHeads heads → AllIn (option_map_or (λ h. unwrap_or h.given []) (slice_get heads n) [])
    heads_kept n [] k = tt
    heads_kept zero (h ∷ heads) k = unwrapped h.given [] k.0 tt
    heads_kept (suc n) (h ∷ heads) k = heads_kept n heads k.1

    good_opened : (p : Production) (n : Names) → GoodNames n → GoodNames (names_opened p n)
    good_opened p n g = by (is_declarator p)
      where
        by : (c : Bool) → GoodNames (if c then with_head n else n)
        by true = record { scopes = g.scopes; ended = g.ended; heads = heads_more n.heads _ g.heads tt; kept = g.kept }
        by false = g

    good_closed : (p : Production) (n : Names) → GoodNames n → GoodNames (names_closed p n)
    good_closed p n g = by (is_declarator p)
      where
        by : (c : Bool) → GoodNames (if c then head_closed n else n)
        by true = record {
          scopes = g.scopes;
          ended = g.ended;
          heads = heads_take (length n.heads - 1) n.heads g.heads;
          kept = heads_kept (length n.heads - 1) n.heads g.heads;
        }
        by false = g

    -- ---- Steps

    good_token : (L : List Class) (s : State) → s.toks ≡ toks → named_where (has_name s.built.label) L ≡ true → among L (class_at (grammar std) s s.at) ≡ true
        → Good s → Good (with_token s)
    good_token L s of_toks h e g = record {
      names = g.names;
      built = record {
        kids = kids_leaf s.built.under s.at g.built.kids;
        own = λ m. (
            let c : covers (λ d. not (among L d) || is_identifier d) ≡ true = subst (λ x. named_where x L ≡ true) m h in
            tokens_leaf s.built.under s.at (g.built.own m) (ap (λ t. is_identifier (base_at (grammar std) t s.at)) (sym of_toks) ∙ name_is std s s.at L c e));
      };
    }

    good_acted : (action : Action) (s : State) → s.toks ≡ toks → Good s → Good (acted (grammar std) action s)
    unfolding acted
    good_acted scope s of_toks g = record {
      names = record { scopes = (tt, g.names.scopes); ended = g.names.ended; heads = g.names.heads; kept = g.names.kept };
      built = g.built;
    }
    good_acted end s of_toks g = record { names = good_ended s.names s.names.scopes g.names.scopes g.names; built = g.built }
    good_acted declare s of_toks g = record {
      names = good_declared s.names (last_declared s.built.under) s.near (last_is s.built.under g.built.kids) g.names;
      built = g.built;
    }
    good_acted name s of_toks g = record {
      names = good_declared s.names (last_identifier (grammar std) s.toks s.built.under None) false
          (subst (λ t. IsName (last_identifier (grammar std) t s.built.under None)) (sym of_toks) (identifier_is s.built.under None tt)) g.names;
      built = g.built;
    }
    good_acted keep s of_toks g = record {
      names = record {
        scopes = g.names.scopes;
        ended = g.names.ended;
        heads = heads_given (length s.names.scopes) s.names.ended s.names.heads g.names.heads g.names.ended;
        kept = g.names.kept;
      };
      built = g.built;
    }
    good_acted again s of_toks g = record {
      names = record { scopes = (g.names.kept, g.names.scopes); ended = g.names.ended; heads = g.names.heads; kept = g.names.kept };
      built = g.built;
    }

    good_open : (p : Production) (n : ℕ) (s : State) → Good s → Good (opened p n s)
    unfolding opened
    good_open p n s g = record { names = good_opened p s.names g.names; built = record { kids = tt; own = λ h. tt } }

    good_close : (p : Production) (outer s : State) → Good outer → Good s → Good (closed p outer s)
    unfolding closed
    good_close p outer s g h = record {
      names = good_closed p s.names h.names;
      built = record {
        kids = kids_inner outer.built.under (finished p s.built) g.built.kids (finished_is p s.built h.built);
        own = λ m. tokens_inner outer.built.under (finished p s.built) (g.built.own m);
      };
    }

    pub good_kept : Kept std toks Good
    good_kept = record { take = good_token; act = good_acted; open_node = good_open; close_node = good_close }
