-- Files that are opened are kept under their numbers.
use Rattle.std.proofs.Common.{◌≡◌, ℕ, suc, ◌+◌, Bool, true, false, cond, nat_le, List, [], ◌∷◌, length, Option, None, Some, Result, Ok, Err, refl, sym, ◌∙◌, ap, subst, inl, inr, arith, slice_get}
use Rattle.std.specs.Prelude.{IfSome, IsSome, IfOk, OnErr}
use Rattle.std.specs.Option.{option_map, option_and_then}
use Rattle.std.specs.Str.{bytes_eq}
use Rattle.std.proofs.lemmas.Bool.{cases_Bool}
use Rattle.std.proofs.lemmas.Option.{same_Some}
use Rattle.cs_base.specs.declared.causes.Cause.TheVariants.{MissingFile, TooManyFiles, TooManyBytes}
use Rattle.cs_base.specs.declared.positions.Place.{Place}
use Rattle.cs_base.proofs.FileMapLemmas.{bytes_eq-equal, bytes_eq-same}
use Rattle.lexer.specs.FileText.{TextValue, LexFault, FileTooLarge, OpenComment, file_text}
use Rattle.source_files.specs.declared.pre_fault.PreFault.{PreFault}
use Rattle.source_files.specs.Limits.{the_limits}
use Rattle.source_files.specs.Files.{Found, Lines, Absent, Unopened, Opened, Made, entry, Table, SourceFile, source_file, number_of, found_at, numbered, opened, files_opened, Source, Carried}
use Rattle.source_files.specs.Faults.{Fault, fault}
use Rattle.source_files.specs.KeptFiles.{kept, kept_in, kept_at, kept_bytes}
use Rattle.source_files.specs.Opening.{Opening, file_read, readable, are_too_many, opened_as, opening}
use Rattle.source_files.specs.Search.{Searched, searched, search}
use Rattle.source_files.specs.Answers.{OpensFile}
use Rattle.source_files.specs.Sources.{read_as, source_kept, source_at, GivesOpening, opening_found}
use Rattle.source_files.specs.CacheFields.{IsCache}
use Rattle.source_files.specs.Tables.{OnlyAsks, Widens}
use Rattle.source_files.proofs.TableLemmas.{widens_refl, widens_opened}
use Rattle.source_files.proofs.OpeningLemmas.{refused_fault}

-- ---- where a path stands in the table

pub entry-at : (path : List ℕ) (f : Found) (t : Table) → found_at path t ≡ Some f → slice_get t (number_of path t) ≡ Some (entry path f)
unfolding found_at
entry-at path f [] h = absurd (cc)
entry-at path f (e ∷ t) h =
    let k : cond (bytes_eq path e.path) (Some e.found) (found_at path t) ≡ Some f = h in
    elim (cases_Bool (bytes_eq path e.path)) [
      | inl same ↦
          rw same (ap (λ (p : List ℕ). Some (entry p e.found)) (sym (bytes_eq-equal path e.path same))
          ∙ ap (λ (g : Found). Some (entry path g)) (same_Some e.found f (rw same at k)))
      | inr other ↦
          let n : 1 + number_of path t ≡ suc (number_of path t) = omega arith in
          rw other (rw n (entry-at path f t (rw other at k)))
    ]

pub found-opened : (path bytes : List ℕ) (f : Found) (t : Table) → found_at path t ≡ Some f → found_at path (opened path bytes t) ≡ Some (Opened bytes)
unfolding found_at opened
found-opened path bytes f [] h = absurd (cc)
found-opened path bytes f (e ∷ t) h =
    let k : cond (bytes_eq path e.path) (Some e.found) (found_at path t) ≡ Some f = h in
    elim (cases_Bool (bytes_eq path e.path)) [
      | inl same ↦ rw same (rw (bytes_eq-same path) refl)
      | inr other ↦ rw other (rw other (found-opened path bytes f t (rw other at k)))
    ]

-- the kept file of a path that stands for one
pub kept-at : (path bytes : List ℕ) (f : Found) (t : Table) → found_at path t ≡ Some f → kept_bytes f ≡ Some bytes
    → kept_at t (number_of path t) ≡ Some (kept (number_of path t) path bytes)
kept-at path bytes f t h is =
    ap (option_and_then (kept_in (number_of path t))) (entry-at path f t h)
    ∙ ap (λ (o : Option (List ℕ)). option_map (kept (number_of path t) path) o) is

-- ---- what opening leaves

-- The file is kept under its number, and the table has grown.
pub record OpenedAs (t u : Table) (file : SourceFile) : Type 0 where
  pub is_kept : source_at u file.number ≡ Some file
  pub widens : (source : Source) → Widens source t u

pub same_ok : (a b : SourceFile × Table) → ◌≡◌ {A = Opening} (Ok a) (Ok b) → a ≡ b
same_ok a b h = cc

read-as : (t u v : Table) (place : Place) (number : ℕ) (path bytes : List ℕ) (file : SourceFile) (r : Result TextValue LexFault) → file_text number bytes ≡ r
    → kept_at u number ≡ Some (kept number path bytes) → ((source : Source) → Widens source t u) → file_read place number path u r ≡ Ok (file, v) → OpenedAs t v file
read-as t u v place number path bytes file (Ok text) is at wide h =
    let file_is : source_at u number ≡ Some (source_file number path text) = ap (option_and_then source_kept) at ∙ ap (read_as number path) is in
    subst (λ (p : SourceFile × Table). OpenedAs t p.1 p.0) (same_ok (source_file number path text, u) (file, v) h) (record { is_kept = file_is; widens = wide })
read-as t u v place number path bytes file (Err FileTooLarge) is at wide h = absurd (cc)
read-as t u v place number path bytes file (Err (OpenComment k line column)) is at wide h = absurd (cc)

readable-as : (t u v : Table) (place : Place) (path bytes : List ℕ) (f : Found) (file : SourceFile) → found_at path u ≡ Some f → kept_bytes f ≡ Some bytes → ((source : Source) → Widens source t u)
    → readable file_text place path bytes u ≡ Ok (file, v) → OpenedAs t v file
readable-as t u v place path bytes f file at is wide h =
    read-as t u v place (number_of path u) path bytes file (file_text (number_of path u) bytes) refl (kept-at path bytes f u at is) wide h

past_test : (b : Bool) (g : Fault) (o : Opening) (r : SourceFile × Table) → cond b (Err g) o ≡ Ok r → o ≡ Ok r
past_test true g o r h = absurd (cc)
past_test false g o r h = h

opened_as-as : (t v : Table) (place : Place) (path : List ℕ) (file : SourceFile) (o : Option Found) → found_at path t ≡ o
    → opened_as the_limits file_text place path t o ≡ Ok (file, v) → OpenedAs t v file
opened_as-as t v place path file None at h = absurd (cc)
opened_as-as t v place path file (Some Lines) at h = absurd (cc)
opened_as-as t v place path file (Some Absent) at h = absurd (cc)
opened_as-as t v place path file (Some (Unopened bytes)) at h =
    let fits = past_test (nat_le the_limits.files (files_opened t)) (fault place TooManyFiles)
    (cond (are_too_many the_limits file_text path bytes t) (Err (fault place TooManyBytes)) (readable file_text place path bytes (opened path bytes t))) (file, v) h in
    let rest = past_test (are_too_many the_limits file_text path bytes t) (fault place TooManyBytes) (readable file_text place path bytes (opened path bytes t)) (file, v) fits in
    readable-as t (opened path bytes t) v place path bytes (Opened bytes) file (found-opened path bytes (Unopened bytes) t at) refl
    (λ source. widens_opened source path bytes t at) rest
opened_as-as t v place path file (Some (Opened bytes)) at h = readable-as t t v place path bytes (Opened bytes) file at refl (λ source. widens_refl source t) h
opened_as-as t v place path file (Some (Made bytes)) at h = readable-as t t v place path bytes (Made bytes) file at refl (λ source. widens_refl source t) h

pub opening-as : (t v : Table) (place : Place) (path : List ℕ) (file : SourceFile) → opening the_limits file_text place path t ≡ Ok (file, v) → OpenedAs t v file
opening-as t v place path file h = opened_as-as t v place path file (found_at path t) refl h

-- ---- the same of what the program answers

pub gives-opening : (r : Result ℕ PreFault) (t v : Table) (place : Place) (path : List ℕ) → OpensFile r (opening the_limits file_text place path t) v path
    → GivesOpening r (opening the_limits file_text place path t) v
gives-opening (Ok number) t v place path h =
    let left = opening-as t v place path (source_file number path h.0) h.1 in
    (source_file number path h.0, left.is_kept, h.1)
gives-opening (Err e) t v place path h = h

pub opens-there : (r : Result ℕ PreFault) (m : Opening) (v : Table) → GivesOpening r m v → IfOk r (λ n. IsSome (source_at v n))
opens-there (Ok number) m v h = rw h.1 refl
opens-there (Err e) m v h = tt

-- the table behind an opening, or behind its fault
pub opens-wide : (r : Result ℕ PreFault) (before after : Carried) (place : Place) (path : List ℕ) → OpensFile r (opening the_limits file_text place path before.table) after.table path
    → OnErr r (after ≡ before) → (source : Source) → Widens source before.table after.table
opens-wide (Ok number) before after place path h same source = (opening-as before.table after.table place path (source_file number path h.0) h.1).widens source
opens-wide (Err e) before after place path h same source =
    subst (λ (c : Carried). Widens source before.table c.table) (sym same) (widens_refl source before.table)

-- the file that a search found
pub found-opening : (r : Result ℕ PreFault) (v t u : Table) (source : Source) (paths : List (List ℕ)) (place : Place) (path : List ℕ) → search source paths t ≡ searched (Some path) u
    → GivesOpening r (opening the_limits file_text place path u) v → GivesOpening r (opening_found place (search source paths t)) v
found-opening r v t u source paths place path is h = subst (λ (s : Searched). GivesOpening r (opening_found place s) v) (sym is) h

-- it found none
pub found-missing : (o : Option Fault) (t u : Table) (source : Source) (paths : List (List ℕ)) (place : Place) → search source paths t ≡ searched None u
    → IfSome o (λ f. f ≡ fault place MissingFile) → IfSome o (λ f. ◌≡◌ {A = Opening} (opening_found place (search source paths t)) (Err f))
found-missing None t u source paths place is h = tt
found-missing (Some f) t u source paths place is h = ap (opening_found place) is ∙ ap (λ (x : Fault). Err x) (sym h)

-- ---- a pseudo file that is made

found-push : (path : List ℕ) (f : Found) (t : Table) → found_at path t ≡ None → found_at path (numbered path f t) ≡ Some f
unfolding found_at
found-push path f [] h = rw (bytes_eq-same path) refl
found-push path f (e ∷ t) h =
    let k : cond (bytes_eq path e.path) (Some e.found) (found_at path t) ≡ None = h in
    elim (cases_Bool (bytes_eq path e.path)) [
      | inl same ↦ absurd (let wrong : ◌≡◌ {A = Option Found} (Some e.found) None = rw same at k in cc)
      | inr other ↦ rw other (found-push path f t (rw other at k))
    ]

number-push : (path : List ℕ) (f : Found) (t : Table) → found_at path t ≡ None → number_of path (numbered path f t) ≡ length t
unfolding found_at
number-push path f [] h = rw (bytes_eq-same path) refl
number-push path f (e ∷ t) h =
    let k : cond (bytes_eq path e.path) (Some e.found) (found_at path t) ≡ None = h in
    elim (cases_Bool (bytes_eq path e.path)) [
      | inl same ↦ absurd (let wrong : ◌≡◌ {A = Option Found} (Some e.found) None = rw same at k in cc)
      | inr other ↦
          let n : 1 + length t ≡ suc (length t) = omega arith in
          rw other (ap (λ (m : ℕ). 1 + m) (number-push path f t (rw other at k)) ∙ n)
    ]

pub opening-made : (place : Place) (path bytes : List ℕ) (t : Table) → found_at path t ≡ None
    → opening the_limits file_text place path (numbered path (Made bytes) t) ≡ file_read place (length t) path (numbered path (Made bytes) t) (file_text (length t) bytes)
opening-made place path bytes t none =
    ap (opened_as the_limits file_text place path (numbered path (Made bytes) t)) (found-push path (Made bytes) t none)
    ∙ ap (λ (n : ℕ). file_read place n path (numbered path (Made bytes) t) (file_text n bytes)) (number-push path (Made bytes) t none)

pub made-gives : (place : Place) (path bytes : List ℕ) (t v : Table) (number : ℕ) (text : TextValue) → found_at path t ≡ None → number ≡ length t
    → file_text number bytes ≡ Ok text → v ≡ numbered path (Made bytes) t
    → GivesOpening (Ok number) (opening the_limits file_text place path (numbered path (Made bytes) t)) v
made-gives place path bytes t v number text none is has new =
    let made : opening the_limits file_text place path (numbered path (Made bytes) t) ≡ Ok (source_file number path text, v) =
    opening-made place path bytes t none ∙ ap (λ (n : ℕ). file_read place n path (numbered path (Made bytes) t) (file_text n bytes)) (sym is)
    ∙ ap (file_read place number path (numbered path (Made bytes) t)) has ∙ ap (λ (u : Table). Ok (source_file number path text, u)) (sym new) in
    let left = opening-as (numbered path (Made bytes) t) v place path (source_file number path text) made in
    (source_file number path text, left.is_kept, made)

pub made-refused : (o : Option Fault) (l : Option LexFault) (place place2 : Place) (path bytes : List ℕ) (t : Table) (number : ℕ) → found_at path t ≡ None → number ≡ length t → place2 ≡ place
    → IfSome o (λ f. IfSome l (λ e. (n : ℕ) (u : Table) → ◌≡◌ {A = Opening} (file_read place2 n path u (Err e)) (Err f))) → (IsSome o → IsSome l)
    → IfSome l (λ e. ◌≡◌ {A = Result TextValue LexFault} (file_text number bytes) (Err e))
    → IfSome o (λ f. ◌≡◌ {A = Opening} (opening the_limits file_text place path (numbered path (Made bytes) t)) (Err f))
made-refused o l place place2 path bytes t number none is same reads told has =
    refused_fault o l _ (file_text number bytes) place number path (numbered path (Made bytes) t)
    (subst (λ (p : Place). IfSome o (λ f. IfSome l (λ e. (n : ℕ) (u : Table) → ◌≡◌ {A = Opening} (file_read p n path u (Err e)) (Err f)))) same reads) told has
    (opening-made place path bytes t none ∙ ap (λ (n : ℕ). file_read place n path (numbered path (Made bytes) t) (file_text n bytes)) (sym is))

-- a table in which no file more is opened
pub cache-made : (t v : Table) (files bytes toks : ℕ) → IsCache t files bytes toks → OnlyAsks None t v → IsCache v files bytes toks
cache-made t v files bytes toks is asks = record {
  counted = is.counted ∙ sym asks.files;
  measured = is.measured ∙ sym asks.bytes;
  few_files = is.few_files;
  few_bytes = is.few_bytes;
  few_toks = is.few_toks;
}

-- a read that failed, or want of memory, tells of no fault
pub none-told : {A : Type 0} (o : Option Fault) (m : Result A Fault) → o ≡ None → IfSome o (λ f. m ≡ Err f)
none-told None m none = tt
none-told (Some f) m none = absurd (cc)
