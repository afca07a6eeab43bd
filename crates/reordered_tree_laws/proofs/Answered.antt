-- Look-ups among the ordinary names that are known, in two texts that go together.
use Rattle.std.proofs.Common.{ℕ, ◌≡◌, Bool, true, false, ◌&&◌, not, if◌then◌else◌, ◌==◌, List, [], ◌∷◌, ◌++◌, Option, None, Some, inl, inr, refl, sym, ap, subst, ◌∙◌, arith}
use Rattle.std.specs.Prelude.{nat_lt}
use Rattle.std.specs.Option.{option_map, option_map_or, option_or}
use Rattle.std.proofs.lemmas.Bool.{eqb-true, and_parts, lt-ltb, le-ltb}
use Rattle.c99_grammar.specs.declared.dialects.Edition.{Edition}
use Rattle.cs_base.specs.Token.{Token}
use Rattle.c_types.specs.Declarations.{alike}
use Rattle.tree_laws.proofs.Outline.{Entry, entry, copies, kept_entries, is_open, typedef_among}
use Rattle.tree_laws.proofs.Outlines.{among_step}
use Rattle.scope_bind.specs.Moved.{AreMovedTexts}
use Rattle.reordered_tree_laws.specs.Moving.{IsAhead}
use Rattle.scope_bind.proofs.MovedSpaces.{same_number, same_spelling}

-- what is asked of an entry that is spelled alike: its range holds a token, it is a name of a list, or it stands so deep
pub data Ask : Type 0 where
  open_at : ℕ → Ask
  of_list : ℕ → Ask
  at_depth : ℕ → Ask

abbrev pub meets : Ask → Entry → Bool
meets (open_at k) e = is_open k e
meets (of_list l) e = (e.to == l) && ((e.depth == 1) && not e.member)
meets (at_depth d) e = e.depth == d

-- whether the first such entry is one of a typedef name
abbrev pub kind_among : List Token → ℕ → Ask → List Entry → Option Bool
kind_among toks i a [] = None
kind_among toks i a (e ∷ es) = if alike toks i e.name_at && meets a e then Some e.typedef else kind_among toks i a es

abbrev pub is_yes : Option Bool → Bool
is_yes o = option_map_or (λ b. b) o false

-- ---- Lists of entries

yes_step : (c t x : Bool) (o : Option Bool) → x ≡ is_yes o → (if c then t else x) ≡ is_yes (if c then Some t else o)
yes_step true t x o e = refl
yes_step false t x o e = e

pub among_kind : (std : Edition) (toks : List Token) (i : ℕ) (es : List Entry) → typedef_among std toks i es ≡ is_yes (kind_among toks i (open_at i) es)
among_kind std toks i [] = refl
among_kind std toks i (e ∷ es) =
    among_step std toks i e es
    ∙ yes_step (alike toks i e.name_at && is_open i e) e.typedef (typedef_among std toks i es) (kind_among toks i (open_at i) es) (among_kind std toks i es)

or_step : (c t : Bool) (x o p : Option Bool) → x ≡ option_or o p → (if c then Some t else x) ≡ option_or (if c then Some t else o) p
or_step true t x o p e = refl
or_step false t x o p e = e

pub kind_append : (toks : List Token) (i : ℕ) (a : Ask) (xs ys : List Entry) → kind_among toks i a (xs ++ ys) ≡ option_or (kind_among toks i a xs) (kind_among toks i a ys)
kind_append toks i a [] ys = refl
kind_append toks i a (e ∷ es) ys =
    or_step (alike toks i e.name_at && meets a e) e.typedef (kind_among toks i a (es ++ ys)) (kind_among toks i a es) (kind_among toks i a ys) (kind_append toks i a es ys)

-- ---- The names that a body begins with

-- what is asked of the range of the body
abbrev pub holds : ℕ → ℕ → Ask → Bool
holds from to (open_at k) = not (nat_lt k from) && nat_lt k to
holds from to (of_list l) = to == l
holds from to (at_depth d) = 1 == d

either_way : (b : Bool) (o : Option Bool) → o ≡ (if b then o else o)
either_way true o = refl
either_way false o = refl

and_all : (a : Bool) → (a && true) ≡ a
and_all true = refl
and_all false = refl

module _ (toks : List Token) (list from to : ℕ) where
  stretched_meets : (a : Ask) (e : Entry) → meets (of_list list) e ≡ true → meets a (record e { from = from; to = to }) ≡ holds from to a
  stretched_meets (open_at k) e h = refl
  stretched_meets (of_list l) e h =
      ap (λ b. (to == l) && b) ((and_parts (e.to == list) ((e.depth == 1) && not e.member) h).1) ∙ and_all (to == l)
  stretched_meets (at_depth d) e h =
      ap (λ (x : ℕ). x == d) (eqb-true e.depth 1 ((and_parts (e.depth == 1) (not e.member) ((and_parts (e.to == list) ((e.depth == 1) && not e.member) h).1)).0))

  copied_step : (c s h x t : Bool) (m k r : Option Bool) → m ≡ (if h then k else None) → (c ≡ true → x ≡ h) → r ≡ m
      → (if c then (if s && x then Some t else r) else r) ≡ (if h then (if s && c then Some t else k) else None)
  copied_step true true true x t m k r e f g = ap (λ b. if b then Some t else r) (f refl)
  copied_step true true false x t m k r e f g = ap (λ b. if b then Some t else r) (f refl) ∙ (g ∙ e)
  copied_step true false true x t m k r e f g = g ∙ e
  copied_step true false false x t m k r e f g = g ∙ e
  copied_step false true true x t m k r e f g = g ∙ e
  copied_step false true false x t m k r e f g = g ∙ e
  copied_step false false true x t m k r e f g = g ∙ e
  copied_step false false false x t m k r e f g = g ∙ e

  through : (i : ℕ) (a : Ask) (c : Bool) (e : Entry) (es : List Entry)
      → kind_among toks i a (if c then e ∷ es else es) ≡ (if c then (if alike toks i e.name_at && meets a e then Some e.typedef else kind_among toks i a es) else kind_among toks i a es)
  through i a true e es = refl
  through i a false e es = refl

  pub copies_kind : (i : ℕ) (a : Ask) (es : List Entry)
      → kind_among toks i a (copies list 1 from to es) ≡ (if holds from to a then kind_among toks i (of_list list) es else None)
  copies_kind i a [] = either_way (holds from to a) None
  copies_kind i a (e ∷ es) =
      let c : Bool = meets (of_list list) e in
      let f : Entry = record e { from = from; to = to } in
      through i a c f (copies list 1 from to es)
      ∙ copied_step c (alike toks i e.name_at) (holds from to a) (meets a f) e.typedef (if holds from to a then kind_among toks i (of_list list) es else None)
      (kind_among toks i (of_list list) es) (kind_among toks i a (copies list 1 from to es)) refl (stretched_meets a e) (copies_kind i a es)

-- ---- Two texts

abbrev pub moved_ask : (ℕ → ℕ) → Ask → Ask
moved_ask m (open_at k) = open_at (m k)
moved_ask m (of_list l) = of_list (m l)
moved_ask m (at_depth d) = at_depth d

module _ (m : ℕ → ℕ) (old new : List Token) (law : AreMovedTexts m old new) (level : ℕ) where
  -- what is asked once these places are reached: ranges at tokens ahead, names of lists, and names at one level
  abbrev pub IsWanted : ℕ → ℕ → Ask → Type 0
  IsWanted lo there (open_at k) = IsAhead m lo there k
  IsWanted lo there (of_list l) = Unit {0}
  IsWanted lo there (at_depth d) = d ≡ level

  -- each answer is the same
  abbrev pub EntriesGo : ℕ → ℕ → List Entry → List Entry → Type 0
  EntriesGo lo there es fs = (i : ℕ) (a : Ask) → IsWanted lo there a → kind_among new (m i) (moved_ask m a) fs ≡ kind_among old i a es

  pub none_go : (lo there : ℕ) → EntriesGo lo there [] []
  none_go lo there i a w = refl

  pub append_go : (lo there : ℕ) (es fs xs ys : List Entry) → EntriesGo lo there es fs → EntriesGo lo there xs ys → EntriesGo lo there (es ++ xs) (fs ++ ys)
  append_go lo there es fs xs ys h k i a w =
      kind_append new (m i) (moved_ask m a) fs ys
      ∙ (ap (λ o. option_or o (kind_among new (m i) (moved_ask m a) ys)) (h i a w)
      ∙ (ap (λ o. option_or (kind_among old i a es) o) (k i a w) ∙ sym (kind_append old i a es xs)))

  -- an entry and the one at its new place
  pub record EntryGoes (lo there : ℕ) (e f : Entry) : Type 0 where
    pub name_at : f.name_at ≡ m e.name_at
    pub typedef : f.typedef ≡ e.typedef
    pub met : (a : Ask) → IsWanted lo there a → meets (moved_ask m a) f ≡ meets a e

  pub more_go : (lo there : ℕ) (e f : Entry) (es fs : List Entry) → EntryGoes lo there e f → EntriesGo lo there es fs → EntriesGo lo there (e ∷ es) (f ∷ fs)
  more_go lo there e f es fs g k i a w =
      ap (λ b. if b && meets (moved_ask m a) f then Some f.typedef else kind_among new (m i) (moved_ask m a) fs)
      (ap (λ (x : ℕ). alike new (m i) x) g.name_at ∙ same_spelling m old new law i e.name_at)
      ∙ (ap (λ b. if alike old i e.name_at && b then Some f.typedef else kind_among new (m i) (moved_ask m a) fs) (g.met a w)
      ∙ (ap (λ t. if alike old i e.name_at && meets a e then Some t else kind_among new (m i) (moved_ask m a) fs) g.typedef
      ∙ ap (λ o. if alike old i e.name_at && meets a e then Some e.typedef else o) (k i a w)))

  pub from_first : (lo there i : ℕ) → IsAhead m lo there i → nat_lt (m i) there ≡ nat_lt i lo
  from_first lo there i (inl a) = le-ltb (m i) there a.1 ∙ sym (le-ltb i lo a.0)
  from_first lo there i (inr a) = lt-ltb (m i) there (omega (arith, a.1)) ∙ sym (lt-ltb i lo (omega (arith, a.0)))

  -- in scopes that end alike an entry that begins at these places
  module _ (lo there depth to to' : ℕ) (ends : (k : ℕ) → IsAhead m lo there k → nat_lt (m k) to' ≡ nat_lt k to) (outer : depth ≡ 1 → to' ≡ m to) where
    list_same : (l : ℕ) (c : Bool) → (c ≡ true → to' ≡ m to) → ((to' == m l) && (c && true)) ≡ ((to == l) && (c && true))
    list_same l true f = ap (λ (x : ℕ). (x == m l) && true) (f refl) ∙ ap (λ b. b && true) (same_number m old new law to l)
    list_same l false f = by (to' == m l) (to == l)
      where
        by : (a b : Bool) → (a && false) ≡ (b && false)
        by true true = refl
        by true false = refl
        by false true = refl
        by false false = refl

    met_here : (i : ℕ) (t : Bool) (a : Ask) → IsWanted lo there a
        → meets (moved_ask m a) (record { name_at = m i; typedef = t; depth = depth; from = there; to = to'; member = false })
        ≡ meets a (record { name_at = i; typedef = t; depth = depth; from = lo; to = to; member = false })
    met_here i t (open_at k) w = ap (λ b. not b && nat_lt (m k) to') (from_first lo there k w) ∙ ap (λ b. not (nat_lt k lo) && b) (ends k w)
    met_here i t (of_list l) w = list_same l (depth == 1) (λ e. outer (eqb-true depth 1 e))
    met_here i t (at_depth d) w = refl

    pub entry_goes : (i : ℕ) (t : Bool) → EntryGoes lo there (entry i t depth lo to) (entry (m i) t depth there to')
    entry_goes i t = record { name_at = refl; typedef = refl; met = met_here i t }

  -- ---- Further places

  -- the answers at places that are further on
  pub entries_further : (lo there hi beyond : ℕ) (es fs : List Entry) → ((k : ℕ) → IsAhead m hi beyond k → IsAhead m lo there k)
      → EntriesGo lo there es fs → EntriesGo hi beyond es fs
  entries_further lo there hi beyond es fs ahead k i a w = k i a (by a w)
    where
      by : (b : Ask) → IsWanted hi beyond b → IsWanted lo there b
      by (open_at n) v = ahead n v
      by (of_list l) v = tt
      by (at_depth d) v = v

  -- ---- The names that a body begins with

  module _ (lo there : ℕ) (es fs : List Entry) (k : EntriesGo lo there es fs) (list from to from' to' : ℕ)
      (lives : (i : ℕ) → IsAhead m lo there i → (not (nat_lt (m i) from') && nat_lt (m i) to') ≡ (not (nat_lt i from) && nat_lt i to))
      (ends : to' ≡ m to) where
    holds_moved : (a : Ask) → IsWanted lo there a → holds from' to' (moved_ask m a) ≡ holds from to a
    holds_moved (open_at n) w = lives n w
    holds_moved (of_list l) w = ap (λ (x : ℕ). x == m l) ends ∙ same_number m old new law to l
    holds_moved (at_depth d) w = refl

    copies_go : EntriesGo lo there (copies list 1 from to es) (copies (m list) 1 from' to' fs)
    copies_go i a w =
        copies_kind new (m list) from' to' (m i) (moved_ask m a) fs
        ∙ (ap (λ b. if b then kind_among new (m i) (of_list (m list)) fs else None) (holds_moved a w)
        ∙ (ap (λ o. if holds from to a then o else None) (k i (of_list list) tt) ∙ sym (copies_kind old list from to i a es)))

    pub list_goes : EntriesGo lo there (kept_entries (Some list) 1 from to es) (kept_entries (Some (m list)) 1 from' to' fs)
    list_goes = append_go lo there (copies list 1 from to es) (copies (m list) 1 from' to' fs) es fs copies_go k

  pub kept_go : (lo there : ℕ) (es fs : List Entry) (kept over : Option ℕ) (from to from' to' : ℕ) → EntriesGo lo there es fs → over ≡ option_map m kept
      → ((i : ℕ) → IsAhead m lo there i → (not (nat_lt (m i) from') && nat_lt (m i) to') ≡ (not (nat_lt i from) && nat_lt i to)) → to' ≡ m to
      → EntriesGo lo there (kept_entries kept 1 from to es) (kept_entries over 1 from' to' fs)
  kept_go lo there es fs None None from to from' to' k e lives ends = k
  kept_go lo there es fs (Some list) (Some l) from to from' to' k e lives ends =
      subst (λ (r : Option ℕ). EntriesGo lo there (kept_entries (Some list) 1 from to es) (kept_entries r 1 from' to' fs)) (sym e)
      (list_goes lo there es fs k list from to from' to' lives ends)
  kept_go lo there es fs None (Some l) from to from' to' k e lives ends = absurd cc
  kept_go lo there es fs (Some list) None from to from' to' k e lives ends = absurd cc
