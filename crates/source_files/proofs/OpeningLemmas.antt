-- Opening files: what the tests and the table say.
use Rattle.std.proofs.Common.{◌≡◌, ℕ, suc, ◌+◌, ◌≤◌, ◌<◌, ◌^◌, ◌&&◌, Bool, true, false, not, cond, nat_le, nat_lt, List, [], ◌∷◌, length, Option, None, Some, Result, Ok, Err, is_ok, refl, sym, ◌∙◌, ap, arith, inl, inr, ◌⊎◌}
use Rattle.std.specs.Prelude.{IfSome, IsSome}
use Rattle.std.specs.Str.{bytes_eq}
use Rattle.std.proofs.lemmas.Bool.{cases_Bool}
use Rattle.std.proofs.lemmas.Bool.Decides.{leb_tells}
use Rattle.cs_base.specs.declared.causes.Cause.TheVariants.{TooManyBytes}
use Rattle.cs_base.specs.declared.positions.Place.{Place}
use Rattle.cs_base.proofs.FileMapLemmas.{bytes_eq-same}
use Rattle.lexer.specs.FileText.{TextValue, LexFault, FileTooLarge, OpenComment, file_text, text_or_open}
use Rattle.lexer.specs.Tokens.{open_comment_of}
use Rattle.source_files.specs.Limits.{the_limits}
use Rattle.source_files.specs.Files.{Found, Lines, Absent, Unopened, Opened, Made, Table, number_of, found_at, opened, files_opened, bytes_opened, one_more, more_bytes, opened_bytes}
use Rattle.source_files.specs.Faults.{Fault, fault}
use Rattle.source_files.specs.Statuses.{IsUnread}
use Rattle.source_files.specs.FileTableFields.{unread_bytes}
use Rattle.source_files.specs.CacheFields.{IsCache}
use Rattle.source_files.specs.Opening.{Opening, file_read, is_too_large, are_too_many, first_opened, opened_as, opening}

-- ---- the size of a file

open_not_large : (n : ℕ) (bytes : List ℕ) (o : Option ℕ) → is_too_large (text_or_open n bytes o) ≡ false
open_not_large n bytes None = refl
open_not_large n bytes (Some at) = refl

pub too_large-file : (n : ℕ) (bytes : List ℕ) → is_too_large (file_text n bytes) ≡ nat_lt (2 ^ 22) (length bytes)
unfolding file_text
too_large-file n bytes = elim (cases_Bool (nat_lt (2 ^ 22) (length bytes))) [
  | inl large ↦ rw large refl
  | inr small ↦ rw small (open_not_large n bytes (open_comment_of bytes))
]

ok_not_large : (r : Result TextValue LexFault) → is_ok r ≡ true → is_too_large r ≡ false
ok_not_large (Ok text) h = refl
ok_not_large (Err FileTooLarge) h = cc
ok_not_large (Err (OpenComment at line column)) h = refl

-- a file that has a text is not too large
pub readable-small : (n : ℕ) (bytes : List ℕ) → is_ok (file_text n bytes) ≡ true → length bytes ≤ 2 ^ 22
readable-small n bytes h =
    let e : nat_lt (2 ^ 22) (length bytes) ≡ false = sym (too_large-file n bytes) ∙ ok_not_large (file_text n bytes) h in
    grind (arith, leb_tells (suc (2 ^ 22)) (length bytes), e)

-- ---- the table once a file is opened

pub same_found : (a b : Found) → ◌≡◌ {A = Option Found} (Some a) (Some b) → a ≡ b
same_found a b h = grind (arith, h)

module _ (path bytes : List ℕ) where
  pub files-opened : (t : Table) → found_at path t ≡ Some (Unopened bytes) → files_opened (opened path bytes t) ≡ files_opened t + 1
  unfolding found_at opened files_opened
  files-opened [] h = cc
  files-opened (e ∷ t) h =
      let k : cond (bytes_eq path e.path) (Some e.found) (found_at path t) ≡ Some (Unopened bytes) = h in
      elim (cases_Bool (bytes_eq path e.path)) [
        | inl same ↦ rw same (rw (same_found e.found (Unopened bytes) (rw same at k)) refl)
        | inr other ↦ rw other (rw (files-opened t (rw other at k)) (more e.found (files_opened t)))
      ]
    where
      more : (f : Found) (n : ℕ) → one_more (opened_bytes f) (n + 1) ≡ one_more (opened_bytes f) n + 1
      more Lines n = refl
      more Absent n = refl
      more (Unopened b) n = refl
      more (Opened b) n = refl
      more (Made b) n = refl

  pub bytes-opened : (t : Table) → found_at path t ≡ Some (Unopened bytes) → bytes_opened (opened path bytes t) ≡ bytes_opened t + length bytes
  unfolding found_at opened bytes_opened
  bytes-opened [] h = cc
  bytes-opened (e ∷ t) h =
      let k : cond (bytes_eq path e.path) (Some e.found) (found_at path t) ≡ Some (Unopened bytes) = h in
      elim (cases_Bool (bytes_eq path e.path)) [
        | inl same ↦ rw same (rw (same_found e.found (Unopened bytes) (rw same at k)) refl)
        | inr other ↦ rw other (rw (bytes-opened t (rw other at k)) (more e.found (bytes_opened t)))
      ]
    where
      more : (f : Found) (n : ℕ) → more_bytes (opened_bytes f) (n + length bytes) ≡ more_bytes (opened_bytes f) n + length bytes
      more Lines n = refl
      more Absent n = refl
      more (Unopened b) n = refl
      more (Opened b) n = omega arith
      more (Made b) n = refl

  pub number-opened : (t : Table) → number_of path (opened path bytes t) ≡ number_of path t
  unfolding opened
  number-opened [] = refl
  number-opened (e ∷ t) = elim (cases_Bool (bytes_eq path e.path)) [
    | inl same ↦ rw same (rw (bytes_eq-same path) refl)
    | inr other ↦ rw other (rw other (ap (λ (n : ℕ). 1 + n) (number-opened t)))
  ]

-- ---- what is named

module _ (place : Place) (path bytes : List ℕ) (t : Table) (unread : found_at path t ≡ Some (Unopened bytes)) where
  opening-first : opening the_limits file_text place path t ≡ first_opened the_limits file_text place path bytes t
  opening-first = ap (opened_as the_limits file_text place path t) unread

  few_files : files_opened t < 4096 → nat_le 4096 (files_opened t) ≡ false
  few_files few = grind (arith, leb_tells 4096 (files_opened t), few)

  many_bytes : length bytes ≤ 2 ^ 22 → 2 ^ 28 < bytes_opened t + length bytes → are_too_many the_limits file_text path bytes t ≡ true
  many_bytes small many =
      let e : nat_lt (2 ^ 22) (length bytes) ≡ false = grind (arith, leb_tells (suc (2 ^ 22)) (length bytes), small) in
      let f : nat_lt (2 ^ 28) (bytes_opened t + length bytes) ≡ true = grind (arith, leb_tells (suc (2 ^ 28)) (bytes_opened t + length bytes), many) in
      let g : is_too_large (file_text (number_of path t) bytes) ≡ false = too_large-file (number_of path t) bytes ∙ e in
      rw (g, f) refl

  pub opening-bytes : files_opened t < 4096 → length bytes ≤ 2 ^ 22 → 2 ^ 28 < bytes_opened t + length bytes
      → opening the_limits file_text place path t ≡ Err (fault place TooManyBytes)
  opening-bytes few small many = opening-first ∙ rw (few_files few, many_bytes small many) refl

  large_or_few : (2 ^ 22 < length bytes) ⊎ (bytes_opened t + length bytes ≤ 2 ^ 28) → are_too_many the_limits file_text path bytes t ≡ false
  large_or_few (inl large) =
      let e : nat_lt (2 ^ 22) (length bytes) ≡ true = grind (arith, leb_tells (suc (2 ^ 22)) (length bytes), large) in
      let g : is_too_large (file_text (number_of path t) bytes) ≡ true = too_large-file (number_of path t) bytes ∙ e in
      rw g refl
  large_or_few (inr few) =
      let f : nat_lt (2 ^ 28) (bytes_opened t + length bytes) ≡ false = grind (arith, leb_tells (suc (2 ^ 28)) (bytes_opened t + length bytes), few) in
      rw f (and-no (not (is_too_large (file_text (number_of path t) bytes))))
    where
      and-no : (b : Bool) → (b && false) ≡ false
      and-no true = refl
      and-no false = refl

  -- otherwise it is what the text says
  pub opening-text : files_opened t < 4096 → (2 ^ 22 < length bytes) ⊎ (bytes_opened t + length bytes ≤ 2 ^ 28)
      → opening the_limits file_text place path t ≡ file_read place (number_of path t) path (opened path bytes t) (file_text (number_of path t) bytes)
  opening-text few fits =
      opening-first ∙ rw (few_files few, large_or_few fits)
      (ap (λ (n : ℕ). file_read place n path (opened path bytes t) (file_text n bytes)) (number-opened path bytes t))

-- ---- what a cache makes of it

pub named_fault : (o : Option Fault) (g : Fault) (m : Opening) → IfSome o (λ f. f ≡ g) → m ≡ Err g → IfSome o (λ f. ◌≡◌ {A = Opening} m (Err f))
named_fault None g m h e = tt
named_fault (Some f) g m h e = e ∙ ap (λ (x : Fault). Err x) (sym h)

pub refused_fault : (o : Option Fault) (l : Option LexFault) (m : Opening) (r : Result TextValue LexFault) (place : Place) (number : ℕ) (path : List ℕ) (t : Table)
    → IfSome o (λ f. IfSome l (λ e. (n : ℕ) (u : Table) → ◌≡◌ {A = Opening} (file_read place n path u (Err e)) (Err f))) → (IsSome o → IsSome l)
    → IfSome l (λ e. ◌≡◌ {A = Result TextValue LexFault} r (Err e)) → m ≡ file_read place number path t r → IfSome o (λ f. ◌≡◌ {A = Opening} m (Err f))
refused_fault None l m r place number path t h some k e = tt
refused_fault (Some f) None m r place number path t h some k e = absurd (let none : false ≡ true = some refl in cc)
refused_fault (Some f) (Some x) m r place number path t h some k e = e ∙ ap (file_read place number path t) k ∙ h number t

pub ok_value : (r : Result TextValue LexFault) → is_ok r ≡ true → (text : TextValue) × (r ≡ Ok text)
ok_value (Ok text) h = (text, refl)
ok_value (Err e) h = cc

module _ (t : Table) (path : List ℕ) (number size : ℕ) (unread : IsUnread t path number size) where
  pub unread-small : is_ok (file_text (number_of path t) (unread_bytes (found_at path t))) ≡ true → size ≤ 2 ^ 22
  unread-small h =
      let e : is_ok (file_text (number_of path t) unread.1.0) ≡ true = rw unread.1.1 at h in
      omega (arith, readable-small (number_of path t) unread.1.0 e, unread.1.2)

  pub cache-opened : (new : Table) (files bytes toks : ℕ) → IsCache t files bytes toks → ◌≡◌ new (opened path (unread_bytes (found_at path t)) t)
      → files < 4096 → size ≤ 2 ^ 22 → (2 ^ 22 < size) ⊎ (bytes + size ≤ 2 ^ 28) → IsCache new (files + 1) (bytes + size) toks
  cache-opened new files bytes toks is e few small fits =
      let n : new ≡ opened path unread.1.0 t = rw unread.1.1 at e in
      let room : bytes + size ≤ 2 ^ 28 = elim fits [ inl large ↦ absurd (omega (arith, large, small)) | inr room ↦ room ] in
      rw n (record {
        counted = omega (arith, is.counted, files-opened path unread.1.0 t unread.1.1);
        measured = omega (arith, is.measured, bytes-opened path unread.1.0 t unread.1.1, unread.1.2);
        few_files = omega (arith, few);
        few_bytes = room;
        few_toks = is.few_toks;
      })

  -- what opening gives where neither files nor bytes are too many
  pub opening-read : (place : Place) (files bytes toks : ℕ) → IsCache t files bytes toks → files < 4096 → (2 ^ 22 < size) ⊎ (bytes + size ≤ 2 ^ 28)
      → opening the_limits file_text place path t ≡ file_read place number path (opened path (unread_bytes (found_at path t)) t) (file_text number (unread_bytes (found_at path t)))
  opening-read place files bytes toks is few fits =
      let room : (2 ^ 22 < length unread.1.0) ⊎ (bytes_opened t + length unread.1.0 ≤ 2 ^ 28) =
      elim fits [ inl large ↦ inl (omega (arith, large, unread.1.2)) | inr room ↦ inr (omega (arith, room, unread.1.2, is.measured)) ] in
      let e : opening the_limits file_text place path t ≡ file_read place (number_of path t) path (opened path unread.1.0 t) (file_text (number_of path t) unread.1.0) =
      opening-text place path unread.1.0 t unread.1.1 (omega (arith, few, is.counted)) room in
      let b : unread_bytes (found_at path t) ≡ unread.1.0 = ap unread_bytes unread.1.1 in
      rw b (rw unread.0 at e)

  pub opening-much : (place : Place) (files bytes toks : ℕ) → IsCache t files bytes toks → files < 4096 → size ≤ 2 ^ 22 → 2 ^ 28 < bytes + size
      → opening the_limits file_text place path t ≡ Err (fault place TooManyBytes)
  opening-much place files bytes toks is few small many =
      opening-bytes place path unread.1.0 t unread.1.1 (omega (arith, few, is.counted)) (omega (arith, small, unread.1.2)) (omega (arith, many, unread.1.2, is.measured))
