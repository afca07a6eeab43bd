-- The table of the replacement lists of macros, as tokens come into it.
use Rattle.std.proofs.Common.{ℕ, ◌+◌, ◌<◌, ◌≤◌, ◌≡◌, true, cond, List, [], ◌∷◌, ◌++◌, length, take, drop, Option, None, Some, refl, sym, ap, ◌∙◌, inl, inr}
use Rattle.std.specs.Prelude.{find, map, ◌==◌}
use Rattle.std.specs.Option.{option_map, option_map_or, option_or}
use Rattle.std.proofs.lemmas.Bool.{cases_Bool, eqb-true, and_parts}
use Rattle.std.proofs.lemmas.List.{at_drop_more, at_drop_all, map-append, append-nil}
use Rattle.std.specs.List.{flat_map}
use Rattle.std.proofs.lemmas.Grind.{flat_map-append}
use Rattle.std.proofs.lemmas.List.Folds.{find-append}
use Rattle.std.proofs.lemmas.Option.{slice_get-get_or}
use Rattle.cs_base.specs.declared.positions.Pos.{Pos}
use Rattle.cs_base.specs.Token.{Token}
use Rattle.cs_base.proofs.OptionLemmas.{option_or-None}
use Rattle.analysis.specs.Below.lexer.Places.{pos}
use Rattle.analysis.specs.Below.source_files.Files.{Table, Entry, Absent, entry}
use Rattle.analysis.specs.Below.source_files.KeptFiles.{kept_at}
use Rattle.calls_of.specs.Bodies.{Owned, owned, is_pos, begins_at, owner_among, owned_in_file, owned_from}
use Rattle.calls_of.specs.Owners.{Owners, owner_with, Grew}

pub option_or-assoc : {X : Type 0} (a b c : Option X) → option_or (option_or a b) c ≡ option_or a (option_or b c)
option_or-assoc None b c = refl
option_or-assoc (Some x) b c = refl

pub option_map-or : {X Y : Type 0} (f : X → Y) (a b : Option X) → option_map f (option_or a b) ≡ option_or (option_map f a) (option_map f b)
option_map-or f None b = refl
option_map-or f (Some x) b = refl

is_pos-same : (p q : Pos) → is_pos p q ≡ true → p ≡ q
is_pos-same p q h =
    let parts = and_parts (p.file == q.file) (p.at == q.at) h in
    let file : p.file ≡ q.file = eqb-true p.file q.file parts.0 in
    let at : p.at ≡ q.at = eqb-true p.at q.at parts.1 in
    ap (λ (f : ℕ). pos f p.at) file ∙ ap (pos q.file) at

-- owners among two lists
pub owner_among-append : (p : Pos) (xs ys : List Owned) → owner_among (xs ++ ys) p ≡ option_or (owner_among xs p) (owner_among ys p)
owner_among-append p xs ys =
    ap (option_map (λ (o : Owned). o.macro_name)) (find-append (λ (o : Owned). begins_at p o.tok) xs ys)
    ∙ option_map-or (λ (o : Owned). o.macro_name) (find (λ (o : Owned). begins_at p o.tok) xs) (find (λ (o : Owned). begins_at p o.tok) ys)

-- nothing comes
pub grew-none : (old : Owners) → Grew [] old old
grew-none old p = sym (option_or-None (old p))

-- what comes first, and what comes then
pub grew-both : (xs ys : List Owned) (old mid new : Owners) → Grew xs old mid → Grew ys mid new → Grew (xs ++ ys) old new
grew-both xs ys old mid new first later p =
    later p
    ∙ ap (λ (o : Option Token). option_or o (owner_among ys p)) (first p)
    ∙ option_or-assoc (old p) (owner_among xs p) (owner_among ys p)
    ∙ ap (option_or (old p)) (sym (owner_among-append p xs ys))

-- ---- lists

pub grew-next : (name : Token) (toks : List Token) (k : ℕ) (t : Token) (old mid new : Owners)
    → take (k + 1) toks ≡ take k toks ++ t ∷ [] → Grew (map (owned name) (take k toks)) old mid → Grew (owned name t ∷ []) mid new
    → Grew (map (owned name) (take (k + 1) toks)) old new
grew-next name toks k t old mid new more before here =
    let all : map (owned name) (take (k + 1) toks) ≡ map (owned name) (take k toks) ++ owned name t ∷ [] =
    ap (map (owned name)) more ∙ map-append (owned name) (take k toks) (t ∷ []) in
    rw all (grew-both (map (owned name) (take k toks)) (owned name t ∷ []) old mid new before here)

pub grew-items : {X : Type 0} (f : X → List Owned) (xs : List X) (k : ℕ) (x : X) (old mid new : Owners)
    → take (k + 1) xs ≡ take k xs ++ x ∷ [] → Grew (flat_map f (take k xs)) old mid → Grew (f x) mid new
    → Grew (flat_map f (take (k + 1) xs)) old new
grew-items f xs k x old mid new more before here =
    let all : flat_map f (take (k + 1) xs) ≡ flat_map f (take k xs) ++ f x =
    ap (flat_map f) more ∙ flat_map-append f (take k xs) (x ∷ []) ∙ ap (λ (os : List Owned). flat_map f (take k xs) ++ os) (append-nil (f x)) in
    rw all (grew-both (flat_map f (take k xs)) (f x) old mid new before here)

-- ---- files: what is left of the table of files comes still

-- what comes behind a table makes it that of all tokens
abbrev pub GrowsTo : List Owned → List Owned → Owners → Owners → Type 0
GrowsTo rest all old now = (last : Owners) → Grew rest now last → Grew all old last

owned-more : (table : Table) (k : ℕ) → k < length table
    → owned_from k (drop k table) ≡ option_map_or owned_in_file (kept_at table k) [] ++ owned_from (k + 1) (drop (k + 1) table)
unfolding owned_from
owned-more table k within =
    let d : Entry = entry [] Absent in
    let found = slice_get-get_or table k d within in
    at_drop_more (owned_from k) table k d within ∙ rw found refl

pub grows-next : (table : Table) (k : ℕ) (all : List Owned) (old mid new : Owners) → k < length table
    → GrowsTo (owned_from k (drop k table)) all old mid → Grew (option_map_or owned_in_file (kept_at table k) []) mid new
    → GrowsTo (owned_from (k + 1) (drop (k + 1) table)) all old new
grows-next table k all old mid new within so_far here last later =
    let toks = option_map_or owned_in_file (kept_at table k) [] in
    let rest = owned_from (k + 1) (drop (k + 1) table) in
    so_far last (rw (owned-more table k within) (grew-both toks rest mid new last here later))

pub grows-all : (table : Table) (k : ℕ) (all : List Owned) (old now : Owners) → length table ≤ k
    → GrowsTo (owned_from k (drop k table)) all old now → Grew all old now
unfolding owned_from
grows-all table k all old now past so_far =
    let none : owned_from k (drop k table) ≡ [] = at_drop_all (owned_from k) table k past in
    so_far now (rw none (grew-none now))

-- ---- a map

-- a name at a position that had none
pub owner_with-put : (old new : Owners) (name : Token) (q : Pos) → old q ≡ None
    → ((p : Pos) → new p ≡ cond (is_pos q p) (Some name) (old p)) → (p : Pos) → new p ≡ owner_with name q old p
owner_with-put old new name q absent put p = elim (cases_Bool (is_pos q p)) [
  | inl here ↦
      let same : p ≡ q = sym (is_pos-same q p here) in
      let gone : old p ≡ None = ap old same ∙ absent in
      put p ∙ rw (here, gone) refl
  | inr apart ↦ put p ∙ rw apart (sym (option_or-None (old p)))
]
