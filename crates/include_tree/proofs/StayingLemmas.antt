-- Files that are kept stay, as a table of files grows.
use Rattle.std.proofs.Common.{◌≡◌, ℕ, true, false, List, Option, Some, None, Result, Ok, Err, refl, sym, ◌∙◌, ap}
use Rattle.std.specs.Prelude.{IfSome, IsSome, slice_get}
use Rattle.std.specs.Option.{option_map, option_and_then}
use Rattle.source_files.specs.Below.lexer.FileText.{TextValue, LexFault, file_text}
use Rattle.source_files.specs.Files.{Entry, Table, SourceFile, source_file}
use Rattle.source_files.specs.KeptFiles.{KeptValue, kept, kept_bytes, kept_in, kept_at}
use Rattle.source_files.specs.Sources.{read_as, source_kept, source_at}
use Rattle.source_files.specs.Tables.{IsGrown}
use Rattle.source_files.proofs.KeptLemmas.{kept-grown}

-- ---- what holds of a value, if there is one

pub some_all : {A : Type 0} (o : Option A) (P : A → Type 0) → ((a : A) → P a) → IfSome o P
some_all None P f = tt
some_all (Some a) P f = f a

pub some_three : {A : Type 0} (o : Option A) (P R S Q : A → Type 0) → IfSome o P → IfSome o R → IfSome o S → ((a : A) → P a → R a → S a → Q a) → IfSome o Q
some_three None P R S Q h k l f = tt
some_three (Some a) P R S Q h k l f = f a h k l

pub some_at : {A : Type 0} (o : Option A) (P Q : A → Type 0) → IfSome o P → ((a : A) → o ≡ Some a → P a → Q a) → IfSome o Q
some_at None P Q h f = tt
some_at (Some a) P Q h f = f a refl h

pub some_is : {A : Type 0} (o : Option A) → IsSome o → (a : A) × (o ≡ Some a)
some_is None h = absurd (let no : false ≡ true = h in cc)
some_is (Some a) h = (a, refl)

-- ---- files that are kept

pub some_same : {A : Type 0} (a b : A) → ◌≡◌ {A = Option A} (Some a) (Some b) → a ≡ b
some_same a b h = cc

source-kept_same : (o p : Option KeptValue) (file : SourceFile) → ((k : KeptValue) → o ≡ Some k → p ≡ Some k) → option_and_then source_kept o ≡ Some file
    → option_and_then source_kept p ≡ Some file
source-kept_same None p file same h = absurd (let none : ◌≡◌ {A = Option SourceFile} None (Some file) = h in cc)
source-kept_same (Some k) p file same h = ap (option_and_then source_kept) (same k refl) ∙ h

pub source-grown : (old new : Table) (n : ℕ) (file : SourceFile) → IsGrown old new → source_at old n ≡ Some file → source_at new n ≡ Some file
source-grown old new n file g h = source-kept_same (kept_at old n) (kept_at new n) file (λ k is. kept-grown old new n n k g is) h

pub source-same : (old new : Table) (n : ℕ) → IsGrown old new → IsSome (source_at old n) → source_at new n ≡ source_at old n
source-same old new n g there =
    let file : (f : SourceFile) × (source_at old n ≡ Some f) = some_is (source_at old n) there in
    source-grown old new n file.0 g file.1 ∙ sym file.1

read-number : (number : ℕ) (path : List ℕ) (r : Result TextValue LexFault) (file : SourceFile) → read_as number path r ≡ Some file → file.number ≡ number
read-number number path (Ok text) file h = sym (ap (λ (f : SourceFile). f.number) (some_same (source_file number path text) file h))
read-number number path (Err e) file h = absurd (let none : ◌≡◌ {A = Option SourceFile} None (Some file) = h in cc)

kept-number : (n : ℕ) (path : List ℕ) (b : Option (List ℕ)) (file : SourceFile) → option_and_then source_kept (option_map (kept n path) b) ≡ Some file → file.number ≡ n
kept-number n path None file h = absurd (let none : ◌≡◌ {A = Option SourceFile} None (Some file) = h in cc)
kept-number n path (Some bytes) file h = read-number n path (file_text n bytes) file h

entry-number : (n : ℕ) (o : Option Entry) (file : SourceFile) → option_and_then source_kept (option_and_then (kept_in n) o) ≡ Some file → file.number ≡ n
entry-number n None file h = absurd (let none : ◌≡◌ {A = Option SourceFile} None (Some file) = h in cc)
entry-number n (Some e) file h = kept-number n e.path (kept_bytes e.found) file h

-- a file has its number
pub source-number : (table : Table) (n : ℕ) (file : SourceFile) → source_at table n ≡ Some file → file.number ≡ n
source-number table n file h = entry-number n (slice_get table n) file h
