-- What is read of a workspace file is a workspace.
use Rattle.std.proofs.Common.{◌≡◌, ℕ, Bool, true, false, not, ◌||◌, ◌+◌, ◌≤◌, List, [], ◌∷◌, ◌++◌, length, Option, None, Some, Result, Ok, Err, refl, sym, ap, subst, ◌∙◌, arith, codes, if◌then◌else◌}
use Rattle.std.specs.Prelude.{nat_lt, ◌==◌, ◌^◌}
use Rattle.std.specs.List.{list_all, onto_first}
use Rattle.std.specs.Str.{bytes_eq, is_utf8}
use Rattle.std.proofs.lemmas.Bool.{and_parts, and_from, or_parts, not_from_false}
use Rattle.std.proofs.lemmas.Bool.Decides.{nat_tests}
use Rattle.cs_base.specs.declared.ws_units.Setting.{Setting}
use Rattle.cs_base.specs.declared.ws_units.Setting.TheVariants as setting
use Rattle.cs_base.specs.declared.ws_units.Standard.{Standard as Language}
use Rattle.cs_base.specs.declared.ws_units.Standard.TheVariants.{C99, C11, Gnu99, Gnu11}
use Rattle.cs_base.specs.Paths.{normal_path_of}
use Rattle.cs_base.specs.Units.{line_feed, backslash, is_blank, is_nondigit, is_identifier, begins_with, ends_with, has_bad_ends, is_writable, is_setting, defines_fit}
use Rattle.cs_base.specs.Limits.{most_units}
use Rattle.cs_base.proofs.ListLemmas.{list_all-push as pushed}
use Rattle.ws_file.specs.Workspace.{WorkspaceValue, IsWorkspace, workspace, is_prefix}
use Rattle.ws_file.specs.Lines.{lines_of, trimmed, first_word, rest_of, line_word}
use Rattle.ws_file.specs.Reading.{Reading, WsFault, too_many_units, at_first, of_standard, is_bad_path, is_bad_include, with_word, is_comment, with_text, with_line, checked, read_lines, workspace_of}
use Rattle.ws_file.specs.Taking.{IsReading, IsTrimmed, has_no_feed}
use Rattle.ws_file.specs.declared.words.LineWord.{LineWord}
use Rattle.ws_file.specs.declared.words.LineWord.TheVariants as word
use Rattle.ws_file.proofs.ReadLemmas.{read_lines-taken, read_lines-refused, read_lines-end}
use Rattle.ws_file.proofs.ReadingLemmas.{IsReading-first, IsReading-quoted, IsReading-directory, IsReading-include, IsReading-unit, IsUnit-reading, is_directory-normal, is_include-normal, is_unit_path-normal, unit_in}
use Rattle.ws_file.proofs.TrimLemmas.{IsTrimmed-trimmed, is_writable-rest_of}

-- ---- What is taken

same_taken : {X : Type 0} (x y : X) → ◌≡◌ {A = Option X} (Some x) (Some y) → x ≡ y
same_taken x y e = cc

some_if : {X : Type 0} (b : Bool) (x y : X) → (if b then Some x else None) ≡ Some y → (b ≡ true) × (x ≡ y)
some_if true x y e = (refl, same_taken x y e)
some_if false x y e = cc

some_else : {X : Type 0} (b : Bool) (o : Option X) (y : X) → (if b then None else o) ≡ Some y → (b ≡ false) × (o ≡ Some y)
some_else true o y e = cc
some_else false o y e = (refl, e)

-- ---- One line

module _ (rest : List ℕ) (writable : is_writable rest ≡ true) (full : bytes_eq rest [] ≡ false) (r : Reading) (k : IsReading r) where
  not_empty : not (bytes_eq rest []) ≡ true
  not_empty = not_from_false (bytes_eq rest []) full

  set : (s : Setting) → is_setting s ≡ true → (next : Reading) → record r { settings = r.settings ++ s ∷ [] } ≡ next → IsReading next
  set s h next e =
      subst IsReading e
      (record {
        is_named = k.is_named;
        are_quoted_directories = k.are_quoted_directories;
        are_directories = k.are_directories;
        are_settings = pushed is_setting r.settings s k.are_settings h;
        are_includes = k.are_includes;
        are_units = k.are_units;
        are_prefixes = k.are_prefixes;
      })

  told : (s : Language) (next : Reading) → of_standard s r ≡ next → IsReading next
  told s next e =
      subst IsReading e
      (record {
        is_named = k.is_named;
        are_quoted_directories = k.are_quoted_directories;
        are_directories = k.are_directories;
        are_settings = k.are_settings;
        are_includes = k.are_includes;
        are_units = k.are_units;
        are_prefixes = k.are_prefixes;
      })

  standard_read : (c d g h : Bool) (next : Reading)
      → (if c then Some (of_standard C99 r) else (if d then Some (of_standard C11 r) else (if g then Some (of_standard Gnu99 r) else (if h then Some (of_standard Gnu11 r) else None))))
      ≡ Some next → IsReading next
  standard_read true d g h next e = told C99 next (same_taken (of_standard C99 r) next e)
  standard_read false true g h next e = told C11 next (same_taken (of_standard C11 r) next e)
  standard_read false false true h next e = told Gnu99 next (same_taken (of_standard Gnu99 r) next e)
  standard_read false false false h next e = told Gnu11 next ((some_if h (of_standard Gnu11 r) next e).1)

  word_read : (w : LineWord) (next : Reading) → with_word w rest r ≡ Some next → IsReading next
  unfolding with_word
  word_read word.Project next e =
      let both = some_if (list_all (λ b. not (is_blank b)) rest) _ next e in
      subst IsReading both.1
      (record {
        is_named = and_from _ _ (and_from _ _ writable not_empty) both.0;
        are_quoted_directories = refl;
        are_directories = refl;
        are_settings = refl;
        are_includes = refl;
        are_units = k.are_units;
        are_prefixes = k.are_prefixes;
      })
  word_read word.Standard next e =
      standard_read (bytes_eq rest (codes "c99")) (bytes_eq rest (codes "c11")) (bytes_eq rest (codes "gnu99")) (bytes_eq rest (codes "gnu11")) next e
  word_read word.Qpath next e =
      let both = some_else (has_bad_ends (normal_path_of rest)) _ next e in
      subst IsReading (same_taken _ next both.1) (IsReading-quoted r (normal_path_of rest) k (is_directory-normal rest writable both.0))
  word_read word.Ipath next e =
      let both = some_else (has_bad_ends (normal_path_of rest)) _ next e in
      subst IsReading (same_taken _ next both.1) (IsReading-directory r (normal_path_of rest) k (is_directory-normal rest writable both.0))
  word_read word.Readonly next e =
      subst IsReading (same_taken _ next e)
      (record {
        is_named = k.is_named;
        are_quoted_directories = k.are_quoted_directories;
        are_directories = k.are_directories;
        are_settings = k.are_settings;
        are_includes = k.are_includes;
        are_units = k.are_units;
        are_prefixes = pushed is_prefix r.readonly rest k.are_prefixes (and_from _ _ writable not_empty);
      })
  word_read word.Define next e =
      let both = some_if (begins_with is_nondigit rest) _ next e in
      set (setting.Define rest) (and_from _ _ writable both.0) next both.1
  word_read word.Undefine next e =
      let both = some_if (is_identifier rest) _ next e in
      set (setting.Undefine rest) both.0 next both.1
  word_read word.Include next e =
      let both = some_else (is_bad_include (normal_path_of rest)) _ next e in
      subst IsReading (same_taken _ next both.1) (IsReading-include r (normal_path_of rest) k (is_include-normal rest writable both.0))
  word_read word.File next e =
      let path : List ℕ = normal_path_of rest in
      let fit : Bool = defines_fit r.standard r.settings r.includes in
      let both = some_else (is_bad_path path || not fit) _ next e in
      let good = or_parts (is_bad_path path) (not fit) both.0 in
      subst IsReading (same_taken _ next both.1)
      (IsReading-unit r (unit_in r path) k (IsUnit-reading r path k (is_unit_path-normal rest writable good.0) (fits fit good.1)))
    where
      fits : (b : Bool) → not b ≡ false → b ≡ true
      fits true h = refl
      fits false h = cc
  word_read word.Other next e = cc

text_read : (text : List ℕ) (r next : Reading) → IsTrimmed text → IsReading r → with_text text r ≡ Some next → IsReading next
unfolding with_text
text_read text r next t k e =
    let ended = some_else (ends_with (λ b. b == backslash) text) _ next e in
    said (is_comment text) ended.1 (λ f.
    let full = some_else (bytes_eq (rest_of text) []) _ next f in
    word_read (rest_of text) (is_writable-rest_of text t ended.0 full.0) full.0 r k (line_word (first_word text)) next full.1)
  where
    said : (b : Bool) {o : Option Reading} → (if b then Some r else o) ≡ Some next → (o ≡ Some next → IsReading next) → IsReading next
    said true f later = subst IsReading (same_taken r next f) k
    said false f later = later f

line_read : (start : ℕ) (line : List ℕ) (r next : Reading) → has_no_feed line ≡ true → IsReading r → with_line start line r ≡ Some next → IsReading next
unfolding with_line
line_read start line r next feed k e =
    let fit = some_else (nat_lt (2 ^ 22) (start + length line) || not (is_utf8 line)) _ next e in
    let utf8 = utf8_is (is_utf8 line) ((or_parts (nat_lt (2 ^ 22) (start + length line)) (not (is_utf8 line)) fit.0).1) in
    text_read (trimmed line) r next (IsTrimmed-trimmed line utf8 feed) k fit.1
  where
    utf8_is : (b : Bool) → not b ≡ false → b ≡ true
    utf8_is true h = refl
    utf8_is false h = cc

-- ---- All lines

onto_plain : (b : ℕ) (lines : List (List ℕ)) → (b == line_feed) ≡ false → list_all has_no_feed lines ≡ true → list_all has_no_feed (onto_first b lines) ≡ true
onto_plain b [] other h = rw other refl
onto_plain b (line ∷ lines) other h =
    let parts = and_parts (has_no_feed line) (list_all has_no_feed lines) h in
    and_from _ _ (and_from _ _ (not_from_false (b == line_feed) other) parts.0) parts.1

lines_plain : (bytes : List ℕ) → list_all has_no_feed (lines_of bytes) ≡ true
lines_plain [] = refl
lines_plain (b ∷ bytes) = by (b == line_feed) refl (lines_plain bytes)
  where
    by : (c : Bool) → (b == line_feed) ≡ c → list_all has_no_feed (lines_of bytes) ≡ true
        → list_all has_no_feed (if c then [] ∷ lines_of bytes else onto_first b (lines_of bytes)) ≡ true
    by true e h = h
    by false e h = onto_plain b (lines_of bytes) e h

checked_few : (number : ℕ) (o : Option Reading) (next : Reading) → checked number o ≡ Ok next → (o ≡ Some next) × (length next.units ≤ most_units)
checked_few number None next e = cc
checked_few number (Some r) next e = by (nat_lt most_units (length r.units)) refl e
  where
    by : (b : Bool) → nat_lt most_units (length r.units) ≡ b → (if b then Err (too_many_units number) else Ok r) ≡ Ok next
        → (Some r ≡ Some next) × (length next.units ≤ most_units)
    by true h e = cc
    by false h e =
        let same : r ≡ next = cc in
        (ap Some same, subst (λ (x : Reading). length x.units ≤ most_units) same (grind (arith, nat_tests, h)))

ok_same : (v w : WorkspaceValue) → ◌≡◌ {A = Result WorkspaceValue WsFault} (Ok v) (Ok w) → v ≡ w
ok_same v w e = cc

lines_read : (number start : ℕ) (lines : List (List ℕ)) (r : Reading) (w : WorkspaceValue) → list_all has_no_feed lines ≡ true → IsReading r
    → length r.units ≤ most_units → read_lines number start lines r ≡ Ok w → IsWorkspace w
lines_read number start [] r w plain k few e =
    subst IsWorkspace (ok_same (workspace r.units r.readonly) w (sym (read_lines-end number start r) ∙ e))
    (record { are_few = few; are_units = k.are_units; are_prefixes = k.are_prefixes })
lines_read number start (line ∷ lines) r w plain k few e =
    by (checked number (with_line start line r)) refl
    (λ next h.
    let parts = and_parts (has_no_feed line) (list_all has_no_feed lines) plain in
    let taken = checked_few number (with_line start line r) next h in
    lines_read (number + 1) (start + length line + 1) lines next w parts.1 (line_read start line r next parts.0 k taken.0) taken.1
    (sym (read_lines-taken number start line lines r next h) ∙ e))
  where
    by : (c : Result Reading WsFault) → checked number (with_line start line r) ≡ c → ((next : Reading) → checked number (with_line start line r) ≡ Ok next → IsWorkspace w)
        → IsWorkspace w
    by (Ok next) h later = later next h
    by (Err fault) h later = refused (Err fault) (sym (read_lines-refused number start line lines r fault h) ∙ e) refl
      where
        refused : (x : Result WorkspaceValue WsFault) → x ≡ Ok w → x ≡ Err fault → IsWorkspace w
        refused x f g = cc

-- what a file describes is a workspace
pub read_is_workspace : (bytes : List ℕ) (w : WorkspaceValue) → workspace_of bytes ≡ Ok w → IsWorkspace w
unfolding workspace_of
read_is_workspace bytes w e = lines_read 1 0 (lines_of bytes) at_first w (lines_plain bytes) IsReading-first (omega arith) e
