-- Names that a reader has declared, all of which are so.
use Rattle.std.proofs.Common.{ℕ, zero, suc, ◌-◌, ◌≡◌, Bool, true, false, ◌&&◌, ◌||◌, not, if◌then◌else◌, ◌==◌, List, [], ◌∷◌, ◌++◌, length, take, slice_get, Option, None, Some, unwrap_or, refl, sym, ap, ◌∙◌}
use Rattle.std.specs.Option.{option_map_or}
use Rattle.std.proofs.lemmas.Bool.{false≢true, or_parts}
use Rattle.cs_base.specs.Token.{Token}
use Rattle.c99_tree.specs.Tree.{Forest, none, token, node, Node, leaf, inner, put, lone, collapsed}
use Rattle.c99_tree.specs.declared.production.Label.{Label}
use Rattle.c99_tree.specs.declared.production.Production.{Production}
use Rattle.c99_tree.specs.declared.production.Production.TheVariants.{Main}
use Rattle.c99_grammar.specs.Items.{Action, scope, end, declare, name, keep, again}
use Rattle.c99_grammar.specs.Standard.{Grammar}
use Rattle.c99_read.specs.State.{State, Names, Head, base_at, is_identifier, is_declaring, has_name, name_below, last_declared, last_identifier, declaration, in_innermost, with_declared, with_scope_ended, given_names, names_after, is_declarator, collapses, with_head, head_closed, names_opened, names_closed, finished}
use Rattle.c_types.specs.Trees.{is_at}
use Rattle.reordered_text_laws.specs.Fronted.{strays, dirty}
use Rattle.reordered_text_laws.proofs.Before.{Declaration}
use Rattle.reordered_text_laws.proofs.FrontNames.{IsOpen}

-- `used` are some tokens; they are type names where they are the first of specifiers' main words (ISO/IEC 9899:1999, 6.7.7)
module _ (used : ℕ → Bool) where
  abbrev IsOther : Option ℕ → Type 0
  IsOther None = Unit {0}
  IsOther (Some i) = used i ≡ false

  abbrev pub AllIn : List Declaration → Type 0
  AllIn [] = Unit {0}
  AllIn (d ∷ ds) = (used d.name_at ≡ false) × AllIn ds

  abbrev pub AllScopes : List (List Declaration) → Type 0
  AllScopes [] = Unit {0}
  AllScopes (s ∷ outer) = AllIn s × AllScopes outer

  abbrev GivenIn : Option (List Declaration) → Type 0
  GivenIn None = Unit {0}
  GivenIn (Some ds) = AllIn ds

  abbrev AllHeads : List Head → Type 0
  AllHeads [] = Unit {0}
  AllHeads (h ∷ heads) = GivenIn h.given × AllHeads heads

  pub record NamesOther (names : Names) : Type 0 where
    pub scopes : AllScopes names.scopes
    pub opens : IsOpen names.scopes
    pub ended : AllIn names.ended
    pub heads : AllHeads names.heads
    pub kept : AllIn names.kept

  -- ---- Trees

  or_none : (b : Bool) → (b || false) ≡ b
  or_none true = refl
  or_none false = refl

  or_joined : (a b c : Bool) → (a || (b || c)) ≡ ((a || b) || c)
  or_joined true b c = refl
  or_joined false b c = refl

  pub dirty-leaf : (l : Label) (f : Forest) (i : ℕ) → dirty used l (put f (leaf i)) ≡ (dirty used l f || strays used l i)
  dirty-leaf l none i = or_none (strays used l i)
  dirty-leaf l (token j rest) i = ap (λ b. strays used l j || b) (dirty-leaf l rest i) ∙ or_joined (strays used l j) (dirty used l rest) (strays used l i)
  dirty-leaf l (node m first under rest) i = ap (λ b. dirty used m under || b) (dirty-leaf l rest i) ∙ or_joined (dirty used m under) (dirty used l rest) (strays used l i)

  pub dirty-inner : (l : Label) (f : Forest) (n : Node) → dirty used l (put f (inner n)) ≡ (dirty used l f || dirty used n.label n.under)
  dirty-inner l none n = or_none (dirty used n.label n.under)
  dirty-inner l (token j rest) n = ap (λ b. strays used l j || b) (dirty-inner l rest n) ∙ or_joined (strays used l j) (dirty used l rest) (dirty used n.label n.under)
  dirty-inner l (node m first under rest) n = ap (λ b. dirty used m under || b) (dirty-inner l rest n) ∙ or_joined (dirty used m under) (dirty used l rest) (dirty used n.label n.under)

  lone-dirty : (f : Forest) (n : Node) → n.under ≡ f → dirty used (lone f n).label (lone f n).under ≡ dirty used n.label n.under
  lone-dirty none n e = refl
  lone-dirty (token i rest) n e = refl
  lone-dirty (node l first under none) n e = sym (ap (dirty used n.label) e ∙ or_none (dirty used l under))
  lone-dirty (node l first under (token i rest)) n e = refl
  lone-dirty (node l first under (node m second below rest)) n e = refl

  pub finished-dirty : (p : Production) (n : Node) → dirty used (finished p n).label (finished p n).under ≡ dirty used n.label n.under
  finished-dirty p n = by (collapses p)
    where
      by : (c : Bool) → dirty used (if c then collapsed n else n).label (if c then collapsed n else n).under ≡ dirty used n.label n.under
      by true = lone-dirty n.under n refl
      by false = refl

  named_apart : (l : Label) → has_name l ≡ true → is_at l Main 4 ≡ false
  named_apart l h = by l.production h
    where
      by : (p : Production) → has_name (record { production = p; alternative = l.alternative }) ≡ true → is_at (record { production = p; alternative = l.alternative }) Main 4 ≡ false
      by Main e = absurd (false≢true e)
      by _ e = refl

  token_other : (b u : Bool) → b ≡ false → (not b && u) ≡ false → u ≡ false
  token_other true u e h = absurd (false≢true (sym e))
  token_other false u e h = h

  below_other : (l : Label) (f : Forest) → dirty used l f ≡ false → IsOther (name_below l f)
  below_other l none k = tt
  below_other l (token i rest) k = by (has_name l) refl (below_other l rest (or_parts (strays used l i) (dirty used l rest) k).1)
    where
      by : (c : Bool) → has_name l ≡ c → IsOther (name_below l rest) → IsOther (if c then Some i else name_below l rest)
      by true e h = token_other (is_at l Main 4) (used i) (named_apart l e) (or_parts (strays used l i) (dirty used l rest) k).0
      by false e h = h
  below_other l (node m first under rest) k =
      let both = or_parts (dirty used m under) (dirty used l rest) k in by (is_declaring m.production) (below_other m under both.0) (below_other l rest both.1)
    where
      by : (c : Bool) → IsOther (name_below m under) → IsOther (name_below l rest) → IsOther (if c then name_below m under else name_below l rest)
      by true h g = h
      by false h g = g

  pub last_other : (l : Label) (f : Forest) → dirty used l f ≡ false → IsOther (last_declared f)
  last_other l none k = tt
  last_other l (token i rest) k = last_other l rest (or_parts (strays used l i) (dirty used l rest) k).1
  last_other l (node m first under none) k = below_other m under (or_parts (dirty used m under) false k).0
  last_other l (node m first under (token i rest)) k = last_other l (token i rest) (or_parts (dirty used m under) (dirty used l (token i rest)) k).1
  last_other l (node m first under (node j second below rest)) k = last_other l (node j second below rest) (or_parts (dirty used m under) (dirty used l (node j second below rest)) k).1

  pub identifier_other : (g : Grammar) (toks : List Token) (l : Label) (f : Forest) (found : Option ℕ) → is_at l Main 4 ≡ false → dirty used l f ≡ false → IsOther found
      → IsOther (last_identifier g toks f found)
  identifier_other g toks l none found a k h = h
  identifier_other g toks l (token i rest) found a k h =
      let both = or_parts (strays used l i) (dirty used l rest) k in
      identifier_other g toks l rest _ a both.1 (by (is_identifier (base_at g toks i)) (token_other (is_at l Main 4) (used i) a both.0))
    where
      by : (c : Bool) → used i ≡ false → IsOther (if c then Some i else found)
      by true e = e
      by false e = h
  identifier_other g toks l (node m first under rest) found a k h = identifier_other g toks l rest found a (or_parts (dirty used m under) (dirty used l rest) k).1 h

  -- ---- Scopes

  innermost : (scopes : List (List Declaration)) (i : ℕ) (typedef : Bool) → AllScopes scopes → used i ≡ false → AllScopes (in_innermost scopes (declaration i typedef))
  innermost [] i typedef k h = tt
  innermost (s ∷ outer) i typedef k h = ((h, k.0), k.1)

  innermost_open : (scopes : List (List Declaration)) (i : ℕ) (typedef : Bool) → IsOpen scopes → IsOpen (in_innermost scopes (declaration i typedef))
  innermost_open [] i typedef h = absurd h
  innermost_open (s ∷ outer) i typedef h = tt

  declared_other : (names : Names) (o : Option ℕ) (typedef : Bool) → IsOther o → NamesOther names → NamesOther (with_declared names o typedef)
  declared_other names None typedef h k = k
  declared_other names (Some i) typedef h k = record {
    scopes = innermost names.scopes i typedef k.scopes h;
    opens = innermost_open names.scopes i typedef k.opens;
    ended = k.ended;
    heads = k.heads;
    kept = k.kept;
  }

  ended_other : (names : Names) (scopes : List (List Declaration)) → AllScopes scopes → NamesOther names → NamesOther (with_scope_ended names scopes)
  ended_other names [] h k = k
  ended_other names (s ∷ []) h k = k
  ended_other names (s ∷ (next ∷ outer)) h k = record { scopes = h.1; opens = tt; ended = h.0; heads = k.heads; kept = k.kept }

  unwrapped : (given : Option (List Declaration)) (ds : List Declaration) → GivenIn given → AllIn ds → AllIn (unwrap_or given ds)
  unwrapped None ds h k = k
  unwrapped (Some given) ds h k = h

  heads_given : (count : ℕ) (ds : List Declaration) (heads : List Head) → AllHeads heads → AllIn ds → AllHeads (given_names count ds heads)
  heads_given count ds [] k h = tt
  heads_given count ds (x ∷ heads) k h = by (x.scopes_open == count) (heads_given count ds heads k.1 h)
    where
      by : (c : Bool) → AllHeads (given_names count ds heads)
          → AllHeads (if c then (record x { given = Some (unwrap_or x.given ds) } ∷ heads) else (x ∷ given_names count ds heads))
      by true m = (unwrapped x.given ds k.0 h, k.1)
      by false m = (k.0, m)

  heads_more : (heads : List Head) (x : Head) → AllHeads heads → GivenIn x.given → AllHeads (heads ++ x ∷ [])
  heads_more [] x k h = (h, tt)
  heads_more (y ∷ heads) x k h = (k.0, heads_more heads x k.1 h)

  heads_take : (m : ℕ) (heads : List Head) → AllHeads heads → AllHeads (take m heads)
  heads_take zero heads k = tt
  heads_take (suc m) [] k = tt
  heads_take (suc m) (h ∷ heads) k = (k.0, heads_take m heads k.1)

  heads_kept : (m : ℕ) (heads : List Head) → AllHeads heads → AllIn (option_map_or (λ h. unwrap_or h.given []) (slice_get heads m) [])
  heads_kept m [] k = tt
  heads_kept zero (h ∷ heads) k = unwrapped h.given [] k.0 tt
  heads_kept (suc m) (h ∷ heads) k = heads_kept m heads k.1

  pub opened_other : (p : Production) (names : Names) → NamesOther names → NamesOther (names_opened p names)
  opened_other p names k = by (is_declarator p)
    where
      by : (c : Bool) → NamesOther (if c then with_head names else names)
      by true = record { scopes = k.scopes; opens = k.opens; ended = k.ended; heads = heads_more names.heads _ k.heads tt; kept = k.kept }
      by false = k

  pub closed_other : (p : Production) (names : Names) → NamesOther names → NamesOther (names_closed p names)
  closed_other p names k = by (is_declarator p)
    where
      by : (c : Bool) → NamesOther (if c then head_closed names else names)
      by true = record {
        scopes = k.scopes;
        opens = k.opens;
        ended = k.ended;
        heads = heads_take (length names.heads - 1) names.heads k.heads;
        kept = heads_kept (length names.heads - 1) names.heads k.heads;
      }
      by false = k

  pub after_other : (g : Grammar) (action : Action) (s : State) → is_at s.built.label Main 4 ≡ false → dirty used s.built.label s.built.under ≡ false → NamesOther s.names → NamesOther (names_after g action s)
  after_other g scope s a t k = record { scopes = (tt, k.scopes); opens = tt; ended = k.ended; heads = k.heads; kept = k.kept }
  after_other g end s a t k = ended_other s.names s.names.scopes k.scopes k
  after_other g declare s a t k = declared_other s.names (last_declared s.built.under) s.near (last_other s.built.label s.built.under t) k
  after_other g name s a t k =
      declared_other s.names (last_identifier g s.toks s.built.under None) false (identifier_other g s.toks s.built.label s.built.under None a t tt) k
  after_other g keep s a t k = record {
    scopes = k.scopes;
    opens = k.opens;
    ended = k.ended;
    heads = heads_given (length s.names.scopes) s.names.ended s.names.heads k.heads k.ended;
    kept = k.kept;
  }
  after_other g again s a t k = record { scopes = (k.kept, k.scopes); opens = tt; ended = k.ended; heads = k.heads; kept = k.kept }
