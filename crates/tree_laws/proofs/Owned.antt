-- Declarations of the outline that pass a test: those of one scope, and those whose ranges hold a token.
use Rattle.std.proofs.Common.{ℕ, ◌+◌, ◌<◌, ◌≤◌, ◌≡◌, Bool, true, false, ◌&&◌, not, if◌then◌else◌, ◌==◌, List, [], ◌∷◌, ◌++◌, Option, None, Some, nat_lt, refl, sym, ap, ◌∙◌, arith}
use Rattle.std.proofs.lemmas.Bool.{and_parts, eqb-true}
use Rattle.c99_tree.specs.Tree.{Forest, none, token, node}
use Rattle.c99_tree.specs.declared.production.Label.{Label}
use Rattle.c99_tree.specs.declared.production.Production.{Production}
use Rattle.c99_tree.specs.declared.production.Production.TheVariants.{ExtRest, FunBody, InitDecl, Enumerator, Declarator, Param, Pdecl, Block, Suffix, Sub, Statement}
use Rattle.scope_bind.specs.Named.{Scope}
use Rattle.scope_bind.proofs.ScopeLemmas.{deeper as scope_deeper}
use Rattle.c_types.specs.Trees.{is_list, last_token, name_below}
use Rattle.name_chains.specs.Entering.{inner, is_scoped, scope_in}
use Rattle.tree_laws.proofs.Private.{Declaration}
use Rattle.c99_read.specs.State.{declaration}
use Rattle.tree_laws.proofs.Outline.{Entry, entry, Outline, added, is_listing, token_entries, stepped, copies, kept_entries, entries_in, begun, named_entries, in_declaration, in_parameter, entries_after, ended, outlined, is_open}
use Rattle.tree_laws.proofs.Matching.{shown}

abbrev nothing : List Declaration
nothing = []

-- the names of those that pass
abbrev pub chosen : (Entry → Bool) → List Entry → List Declaration
chosen q [] = []
chosen q (e ∷ es) = if q e then declaration e.name_at e.typedef ∷ chosen q es else chosen q es

-- the declaration is one of this scope, as a list is told
abbrev pub is_of : ℕ → ℕ → Entry → Bool
is_of depth to e = (e.to == to) && ((e.depth == depth) && not e.member)

pub shown_chosen : (k : ℕ) (es : List Entry) → shown k es ≡ chosen (is_open k) es
shown_chosen k [] = refl
shown_chosen k (e ∷ es) = ap (λ r. if is_open k e then declaration e.name_at e.typedef ∷ r else r) (shown_chosen k es)

append_case : (c : Bool) (d : Declaration) (xs ys zs : List Declaration) → xs ≡ ys ++ zs
    → (if c then d ∷ xs else xs) ≡ (if c then d ∷ ys else ys) ++ zs
append_case true d xs ys zs e = ap (λ r. d ∷ r) e
append_case false d xs ys zs e = e

pub chosen_append : (q : Entry → Bool) (xs ys : List Entry) → chosen q (xs ++ ys) ≡ chosen q xs ++ chosen q ys
chosen_append q [] ys = refl
chosen_append q (x ∷ xs) ys = append_case (q x) (declaration x.name_at x.typedef) _ _ _ (chosen_append q xs ys)

-- one more that does not pass, and one that does
pub chosen_skip : (q : Entry → Bool) (e : Entry) (es : List Entry) → q e ≡ false → chosen q (e ∷ es) ≡ chosen q es
chosen_skip q e es h = ap (λ c. if c then declaration e.name_at e.typedef ∷ chosen q es else chosen q es) h

pub chosen_take : (q : Entry → Bool) (e : Entry) (es : List Entry) → q e ≡ true → chosen q (e ∷ es) ≡ declaration e.name_at e.typedef ∷ chosen q es
chosen_take q e es h = ap (λ c. if c then declaration e.name_at e.typedef ∷ chosen q es else chosen q es) h

-- ---- Copies for a body

-- where the body holds the token, its copies are shown
pub copies_shown : (k list depth from to : ℕ) (es : List Entry)
    → shown k (copies list depth from to es) ≡ (if not (nat_lt k from) && nat_lt k to then chosen (is_of depth list) es else [])
copies_shown k list depth from to [] = by (not (nat_lt k from) && nat_lt k to)
  where
    by : (c : Bool) → nothing ≡ (if c then nothing else nothing)
    by true = refl
    by false = refl
copies_shown k list depth from to (e ∷ es) =
    by (is_of depth list e) (not (nat_lt k from) && nat_lt k to) refl (copies_shown k list depth from to es)
  where
    by : (b c : Bool) → (not (nat_lt k from) && nat_lt k to) ≡ c
        → shown k (copies list depth from to es) ≡ (if c then chosen (is_of depth list) es else [])
        → shown k (if b then (record e { from = from; to = to } ∷ copies list depth from to es) else copies list depth from to es)
        ≡ (if c then (if b then declaration e.name_at e.typedef ∷ chosen (is_of depth list) es else chosen (is_of depth list) es) else [])
    by true true same m =
        ap (λ x. if x then declaration e.name_at e.typedef ∷ shown k (copies list depth from to es) else shown k (copies list depth from to es)) same
        ∙ ap (λ r. declaration e.name_at e.typedef ∷ r) m
    by true false same m =
        ap (λ x. if x then declaration e.name_at e.typedef ∷ shown k (copies list depth from to es) else shown k (copies list depth from to es)) same ∙ m
    by false true same m = m
    by false false same m = m

-- ---- Declarations that do not pass leave no trace

-- each scope that begins below is of these, where it stands in one of these
abbrev pub Closed : (Scope → Type 0) → Forest → Type 0
Closed P none = Unit {0}
Closed P (token i rest) = Closed P rest
Closed P (node l first under rest) = ((c : Scope) → P c → P (scope_in l.production l under c)) × Closed P under × Closed P rest

module _ (q : Entry → Bool) (P : Scope → Type 0)
    (deaf : (c : Scope) → P c → (i : ℕ) (t : Bool) (from : ℕ) → q (entry i t c.depth from c.to) ≡ false) where
  copies_deaf : (c : Scope) → P c → (list from : ℕ) (es : List Entry) → chosen q (copies list c.depth from c.to es) ≡ []
  copies_deaf c p list from [] = refl
  copies_deaf c p list from (e ∷ es) = by (is_of c.depth list e) refl (copies_deaf c p list from es)
    where
      off : (m : Bool) → not m ≡ true → m ≡ false
      off true h = sym h
      off false h = refl

      by : (b : Bool) → is_of c.depth list e ≡ b → chosen q (copies list c.depth from c.to es) ≡ []
          → chosen q (if b then (record e { from = from; to = c.to } ∷ copies list c.depth from c.to es) else copies list c.depth from c.to es) ≡ []
      by true same more =
          let first = and_parts (e.to == list) ((e.depth == c.depth) && not e.member) same in
          let second = and_parts (e.depth == c.depth) (not e.member) first.1 in
          let depth : e.depth ≡ c.depth = eqb-true e.depth c.depth second.0 in
          let member : e.member ≡ false = off e.member second.1 in
          chosen_skip q (record e { from = from; to = c.to }) (copies list c.depth from c.to es)
          (ap (λ d. q (record { name_at = e.name_at; typedef = e.typedef; depth = d; from = from; to = c.to; member = e.member })) depth
          ∙ (ap (λ m. q (record { name_at = e.name_at; typedef = e.typedef; depth = c.depth; from = from; to = c.to; member = m })) member ∙ deaf c p e.name_at e.typedef from))
          ∙ more
      by false same more = more

  kept_deaf : (kept : Option ℕ) (c : Scope) → P c → (from : ℕ) (es : List Entry) → chosen q (kept_entries kept c.depth from c.to es) ≡ chosen q es
  kept_deaf None c p from es = refl
  kept_deaf (Some list) c p from es =
      chosen_append q (copies list c.depth from c.to es) es ∙ ap (λ r. r ++ chosen q es) (copies_deaf c p list from es)

  begun_deaf : (p : Production) (l : Label) (first : ℕ) (under : Forest) (kept : Option ℕ) (c : Scope) (es : List Entry) → P (scope_in p l under c)
      → chosen q (entries_in p first under kept c.depth es) ≡ chosen q es
  begun_deaf FunBody l first under kept c es p = kept_deaf kept (inner c (last_token under 0)) p first es
  begun_deaf _ l first under kept c es p = refl

  named_deaf : (o : Outline) (nb : Option ℕ) (under : Forest) (es : List Entry) → P o.scope → chosen q (named_entries o nb under es) ≡ chosen q es
  named_deaf o None under es p = refl
  named_deaf o (Some i) under es p =
      chosen_skip q (entry i o.typedef o.scope.depth (last_token under i + 1) o.scope.to) es (deaf o.scope p i o.typedef (last_token under i + 1))

  declaration_deaf : (p : Production) (o : Outline) (l : Label) (under : Forest) (es : List Entry) → P o.scope → chosen q (in_declaration p o l under es) ≡ chosen q es
  declaration_deaf ExtRest o l under es p = named_deaf o (name_below l under) under es p
  declaration_deaf InitDecl o l under es p = named_deaf o (name_below l under) under es p
  declaration_deaf _ o l under es p = refl

  parameter_deaf : (p : Production) (o : Outline) (l : Label) (under : Forest) (es : List Entry) → P o.scope → chosen q (in_parameter p o l under es) ≡ chosen q es
  parameter_deaf Param o l under es p = named_deaf o (name_below l under) under es p
  parameter_deaf _ o l under es p = refl

  pub after_deaf : (p : Production) (first : ℕ) (o : Outline) (l : Label) (under : Forest) (es : List Entry) → P o.scope
      → chosen q (entries_after p first o l under es) ≡ chosen q es
  after_deaf Declarator first o l under es p = declaration_deaf o.label.production o l under es p
  after_deaf Pdecl first o l under es p = parameter_deaf o.label.production o l under es p
  after_deaf Enumerator first o l under es p =
      chosen_skip q (entry first false o.scope.depth (last_token under first + 1) o.scope.to) es (deaf o.scope p first false (last_token under first + 1))
  after_deaf _ first o l under es p = refl

  pub token_deaf : (i : ℕ) (o : Outline) → P o.scope → chosen q (token_entries i o) ≡ chosen q o.entries
  token_deaf i o p = by (is_listing o.label.production o.label.alternative o.nth)
    where
      by : (c : Bool) → chosen q (if c then added o i false i o.entries else o.entries) ≡ chosen q o.entries
      by true = chosen_skip q (entry i false o.scope.depth (i + 1) o.scope.to) o.entries (deaf o.scope p i false (i + 1))
      by false = refl

  pub outlined_deaf : (f : Forest) (o : Outline) → Closed P f → P o.scope → chosen q (outlined f o).entries ≡ chosen q o.entries
  outlined_deaf none o c p = refl
  outlined_deaf (token i rest) o c p = outlined_deaf rest (stepped i o) c p ∙ token_deaf i o p
  outlined_deaf (node l first under rest) o c p =
      let scope : P (scope_in l.production l under o.scope) = c.0 o.scope p in
      let inside : Outline = outlined under (begun l first under o) in
      outlined_deaf rest (ended l first under o inside) c.2 p
      ∙ (after_deaf l.production first o l under inside.entries p
      ∙ (outlined_deaf under (begun l first under o) c.1 scope ∙ begun_deaf l.production l first under o.kept o.scope o.entries scope))

  -- .. in a node with the scope that it begins
  pub inside_deaf : (l : Label) (first : ℕ) (under : Forest) (o : Outline) → Closed P under → P (scope_in l.production l under o.scope)
      → chosen q (outlined under (begun l first under o)).entries ≡ chosen q o.entries
  inside_deaf l first under o c scope =
      outlined_deaf under (begun l first under o) c scope ∙ begun_deaf l.production l first under o.kept o.scope o.entries scope

-- ---- Scopes

pub deeper_closed : (d : ℕ) (f : Forest) → Closed (λ c. d < c.depth) f
deeper_closed d none = tt
deeper_closed d (token i rest) = deeper_closed d rest
deeper_closed d (node l first under rest) =
    (λ c h. (let w = scope_deeper l.production l under c in omega arith), deeper_closed d under, deeper_closed d rest)

-- all tokens below stand before token b
abbrev pub Below : ℕ → Forest → Type 0
Below b none = Unit {0}
Below b (token i rest) = (i < b) × Below b rest
Below b (node l first under rest) = (first ≤ b) × Below b under × Below b rest

pub last_below : (b : ℕ) (f : Forest) (k : ℕ) → Below b f → k < b → last_token f k < b
last_below b none k w h = h
last_below b (token i rest) k w h = last_below b rest i w.1 w.0
last_below b (node l first under rest) k w h = last_below b rest (last_token under k) w.2 (last_below b under k w.1 h)

pub last_until : (b : ℕ) (f : Forest) (k : ℕ) → Below b f → k ≤ b → last_token f k ≤ b
last_until b none k w h = h
last_until b (token i rest) k w h = let i_below = w.0 in last_until b rest i w.1 (omega arith)
last_until b (node l first under rest) k w h = last_until b rest (last_token under k) w.2 (last_until b under k w.1 h)

scope_until : (b : ℕ) (p : Production) (l : Label) (under : Forest) (c : Scope) → Below b under → 0 < b → c.to ≤ b → (scope_in p l under c).to ≤ b
scope_until b Block l under c w h k = let e = last_below b under 0 w h in omega arith
scope_until b FunBody l under c w h k = let e = last_below b under 0 w h in omega arith
scope_until b Sub l under c w h k = let e = last_below b under 0 w h in omega arith
scope_until b Suffix l under c w h k = by (is_list l)
  where
    by : (x : Bool) → (if x then inner c (last_token under 0) else c).to ≤ b
    by true = let e = last_below b under 0 w h in omega arith
    by false = k
scope_until b Statement l under c w h k = by (is_scoped l.alternative)
  where
    by : (x : Bool) → (if x then inner c (last_token under 0 + 1) else c).to ≤ b
    by true = let e = last_below b under 0 w h in omega arith
    by false = k
scope_until b _ l under c w h k = k

pub until_closed : (b : ℕ) (f : Forest) → Below b f → 0 < b → Closed (λ c. c.to ≤ b) f
until_closed b none w h = tt
until_closed b (token i rest) w h = until_closed b rest w.1 h
until_closed b (node l first under rest) w h =
    (λ c k. scope_until b l.production l under c w.1 h k, until_closed b under w.1 h, until_closed b rest w.2 h)
