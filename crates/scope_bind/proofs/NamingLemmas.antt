-- Names by their tokens, and the lists of facts that they come from.
use Rattle.std.proofs.Common.{ℕ, ◌≡◌, Bool, true, false, cond, ◌&&◌, ◌||◌, List, [], ◌∷◌, Option, None, Some, map, reverse, refl, sym, ap, ◌∙◌}
use Rattle.std.specs.Prelude.{filter, find, is_some, ◌==◌}
use Rattle.std.specs.List.{list_any}
use Rattle.std.specs.Option.{option_map, option_map_or}
use Rattle.std.proofs.lemmas.List.Sorted.{list_any-IsPermutation, IsPermutation-reverse}
use Rattle.c_types.specs.declared.entity.EntityKind.TheVariants.{Object}
use Rattle.c_types.specs.declared.entity.Linkage.TheVariants.{Absent}
use Rattle.c_types.specs.declared.declarations.Declaration.{Declaration}
use Rattle.c_types.specs.declared.declarations.Occurrence.{Occurrence}
use Rattle.c_types.specs.declared.lists.List.{List as NameList}
use Rattle.scope_bind.specs.declared.bound.Name.{Name}
use Rattle.c_types.specs.Declarations.{Facts}
use Rattle.scope_bind.specs.Names.{name_at}
use Rattle.scope_bind.specs.Bound.{names_of, is_function_name, is_of_function}
use Rattle.scope_bind.specs.Told.{told_name, name_with, name_by}
use Rattle.name_chains.proofs.Reversed.{map_reversed, map_twice, filter_reversed}

module _ {A B : Type 0} (f g : A → B) (same : (x : A) → f x ≡ g x) where
  map_same : (xs : List A) → map f xs ≡ map g xs
  map_same [] = refl
  map_same (x ∷ xs) = ap (λ y. y ∷ map f xs) (same x) ∙ ap (λ ys. g x ∷ ys) (map_same xs)

module _ {A : Type 0} (p q : A → Bool) (same : (x : A) → p x ≡ q x) where
  filter_same : (xs : List A) → filter p xs ≡ filter q xs
  filter_same [] = refl
  filter_same (x ∷ xs) =
      ap (λ b. cond b (x ∷ filter p xs) (filter p xs)) (same x) ∙ ap (λ ys. cond (q x) (x ∷ ys) ys) (filter_same xs)

-- ---- The name of an occurrence

-- where the latest declaration stands first
abbrev named : List Declaration → Occurrence → Name
named latest o = record {
  index = o.index;
  entity = o.entity;
  declares = o.declares;
  kind = option_map_or (λ d. d.kind) (find (λ d. d.name_at == o.entity) latest) Object;
  linkage = option_map_or (λ d. d.linkage) (find (λ d. d.name_at == o.entity) latest) Absent;
}

abbrev named_with : Occurrence → Option Declaration → Name
named_with o first = record {
  index = o.index;
  entity = o.entity;
  declares = o.declares;
  kind = option_map_or (λ d. d.kind) first Object;
  linkage = option_map_or (λ d. d.linkage) first Absent;
}

with-told : (o : Occurrence) (first : Option Declaration) → name_with o (option_map told_name first) ≡ named_with o first
with-told o None = refl
with-told o (Some d) = refl

found-put : (b : Bool) (d : Declaration) (o : Option Declaration)
    → cond b (Some (told_name d)) (option_map told_name o) ≡ option_map told_name (cond b (Some d) o)
found-put true d o = refl
found-put false d o = refl

found-told : (k : ℕ) (ds : List Declaration)
    → find (λ n. n.index == k) (map told_name ds) ≡ option_map told_name (find (λ d. d.name_at == k) ds)
found-told k [] = refl
found-told k (d ∷ ds) =
    ap (λ o. cond (d.name_at == k) (Some (told_name d)) o) (found-told k ds)
    ∙ found-put (d.name_at == k) d (find (λ e. e.name_at == k) ds)

told-at : (ds : List Declaration) (k : ℕ) → name_at (map told_name ds) k ≡ option_map told_name (find (λ d. d.name_at == k) (reverse ds))
told-at ds k = ap (find (λ n. n.index == k)) (sym (map_reversed told_name ds)) ∙ found-told k (reverse ds)

by-told : (ds : List Declaration) (o : Occurrence) → name_by (map told_name ds) o ≡ named (reverse ds) o
by-told ds o = ap (name_with o) (told-at ds o.entity) ∙ with-told o (find (λ d. d.name_at == o.entity) (reverse ds))

names-in : (f : Facts) (ds : List Declaration) (os : List Occurrence) → reverse ds ≡ f.declared → reverse os ≡ f.occurrences
    → map (named (reverse ds)) os ≡ names_of f
names-in f ds os d o =
    sym (map_twice (named (reverse ds)) os)
    ∙ (ap (λ xs. reverse (map (named (reverse ds)) xs)) o ∙ ap (λ xs. reverse (map (named xs) f.occurrences)) d)

pub names-by : (f : Facts) (ds : List Declaration) (os : List Occurrence) (t : List Name) → t ≡ map told_name ds
    → reverse ds ≡ f.declared → reverse os ≡ f.occurrences → map (name_by t) os ≡ names_of f
names-by f ds os t e d o =
    ap (λ ns. map (name_by ns) os) e
    ∙ (map_same (name_by (map told_name ds)) (named (reverse ds)) (by-told ds) os ∙ names-in f ds os d o)

-- ---- The names of functions

module _ (p q : Name → Bool) where
  any-put : (a : Bool) (n : Name) (o : Option Name) → is_some (cond a (Some n) o) ≡ ((a && true) || is_some o)
  any-put true n o = refl
  any-put false n o = refl

  any-none : (a : Bool) (b : Bool) → b ≡ ((a && false) || b)
  any-none true b = refl
  any-none false b = refl

  any-kept : (b : Bool) (n : Name) (ns : List Name) → is_some (find p (cond b (n ∷ ns) ns)) ≡ ((p n && b) || is_some (find p ns))
  any-kept true n ns = any-put (p n) n (find p ns)
  any-kept false n ns = any-none (p n) (is_some (find p ns))

  any-found : (ns : List Name) → is_some (find p (filter q ns)) ≡ list_any (λ n. p n && q n) ns
  any-found [] = refl
  any-found (n ∷ ns) = any-kept (q n) n (filter q ns) ∙ ap (λ b. (p n && q n) || b) (any-found ns)

function-at : (ns : List Name) (k : ℕ) → is_some (name_at (filter (λ n. is_function_name n.kind) ns) k) ≡ is_of_function ns k
function-at ns k =
    ap (λ xs. is_some (find (λ n. n.index == k) xs)) (sym (filter_reversed (λ n. is_function_name n.kind) ns))
    ∙ (any-found (λ n. n.index == k) (λ n. is_function_name n.kind) (reverse ns)
    ∙ sym (list_any-IsPermutation (λ n. (n.index == k) && is_function_name n.kind) ns (reverse ns) (IsPermutation-reverse ns)))

pub function-lists : (ns fs : List Name) (ls : List NameList) → fs ≡ filter (λ n. is_function_name n.kind) ns
    → filter (λ (l : NameList). is_some (name_at fs l.name)) ls ≡ filter (λ (l : NameList). is_of_function ns l.name) ls
function-lists ns fs ls e =
    ap (λ xs. filter (λ (l : NameList). is_some (name_at xs l.name)) ls) e
    ∙ filter_same (λ (l : NameList). is_some (name_at (filter (λ n. is_function_name n.kind) ns) l.name)) (λ (l : NameList). is_of_function ns l.name)
    (λ l. function-at ns l.name) ls
