-- Facts on kept files.
use Rattle.std.proofs.Common.{Err, List, None, Ok, Option, Result, Some, [], ap, false, inl, inr, length, refl, subst, suc, sym, zero, ℕ, ◌+◌, ◌<◌, ◌∙◌, ◌∷◌, ◌≡◌}
use Rattle.std.proofs.lemmas.Option.{none-some, same_Some, slice_get_within}
use Rattle.std.specs.Option.{option_and_then, option_map}
use Rattle.std.specs.Prelude.{slice_get}
use Rattle.std.specs.Str.{bytes_eq}
use Rattle.lexer.specs.FileText.{LexFault, TextValue}
use Rattle.source_files.specs.Files.{Entry, Found, SourceFile, Table, absent_at, number_of, source_file}
use Rattle.source_files.specs.KeptFiles.{KeptValue, kept, kept_bytes, kept_in}
use Rattle.source_files.specs.Tables.{Becomes, IsGrown, paths_in}
use Rattle.source_files.specs.Sources.{read_as}

pub kept-becomes : (n : ℕ) (path : List ℕ) (old new : Found) (k : KeptValue) → Becomes old new → option_map (kept n path) (kept_bytes old) ≡ Some k
    → option_map (kept n path) (kept_bytes new) ≡ Some k
kept-becomes n path old new k (inl same) h = subst (λ (f : Found). option_map (kept n path) (kept_bytes f) ≡ Some k) (sym same) h
kept-becomes n path old new k (inr opens) h =
    absurd (let none : ◌≡◌ {A = Option KeptValue} None (Some k) = subst (λ (f : Found). option_map (kept n path) (kept_bytes f) ≡ Some k) opens.1 h in cc)

pub kept-entry : (n : ℕ) (e f : Entry) (k : KeptValue) → f.path ≡ e.path → Becomes e.found f.found → kept_in n e ≡ Some k → kept_in n f ≡ Some k
kept-entry n e f k path becomes h =
    ap (λ (p : List ℕ). option_map (kept n p) (kept_bytes f.found)) path ∙ kept-becomes n e.path e.found f.found k becomes h

pub kept-grown : (old new : Table) (n m : ℕ) (k : KeptValue) → IsGrown old new → option_and_then (kept_in n) (slice_get old m) ≡ Some k
    → option_and_then (kept_in n) (slice_get new m) ≡ Some k
kept-grown [] new n m k g h = absurd (let none : ◌≡◌ {A = Option KeptValue} None (Some k) = h in cc)
kept-grown (e ∷ old) [] n m k g h = absurd g
kept-grown (e ∷ old) (f ∷ new) n zero k g h = kept-entry n e f k g.0 g.1 h
kept-grown (e ∷ old) (f ∷ new) n (suc m) k g h = kept-grown old new n m k g.2 h

-- a source file has the text of its bytes, which are not too many
pub read-text : (number : ℕ) (path : List ℕ) (r : Result TextValue LexFault) (file : SourceFile) → read_as number path r ≡ Some file → r ≡ Ok file.text
read-text number path (Ok text) file e = ap (λ (f : SourceFile). Ok f.text) (same_Some (source_file number path text) file e)
read-text number path (Err fault) file e = absurd (none-some file e)

pub behind_other : (path : List ℕ) (e : Entry) (t : Table) → bytes_eq path e.path ≡ false → number_of path (e ∷ t) ≡ 1 + number_of path t
behind_other path e t other = rw other refl

-- a number that is absent is one of the table
pub absent-within : (table : Table) (k : ℕ) (path : List ℕ) → absent_at table k ≡ Some path → k < length table
absent-within table k path at = by (slice_get table k) refl
  where
    by : (o : Option Entry) → slice_get table k ≡ o → k < length table
    by (Some e) there = slice_get_within table k e there
    by None there =
        let none : absent_at table k ≡ None = rw there refl in
        absurd (none-some path (sym none ∙ at))

pub kept_path : (table : Table) (n k : ℕ) (f : KeptValue) → option_and_then (kept_in n) (slice_get table k) ≡ Some f → slice_get (paths_in table) k ≡ Some f.path
kept_path [] n zero f h = absurd cc
kept_path [] n (suc k) f h = absurd cc
kept_path (e ∷ table) n (suc k) f h = kept_path table n k f h
kept_path (e ∷ table) n zero f h = here (kept_bytes e.found) h
  where
    here : (o : Option (List ℕ)) → option_map (kept n e.path) o ≡ Some f → Some e.path ≡ Some f.path
    here None is = absurd cc
    here (Some bytes) is = ap (λ (o : Option KeptValue). option_map (λ (g : KeptValue). g.path) o) is

pub path_in : (t : Table) (k : ℕ) (e : Entry) → slice_get t k ≡ Some e → slice_get (paths_in t) k ≡ Some e.path
path_in [] k e at = absurd (none-some e at)
path_in (x ∷ t) zero e at = ap (λ (y : Entry). Some y.path) (same_Some x e at)
path_in (x ∷ t) (suc k) e at = path_in t k e at
