-- The text of a workspace is read back as the same workspace.
use Rattle.std.proofs.Common.{◌≡◌, ℕ, suc, Bool, true, false, not, ◌&&◌, ◌||◌, ◌==◌, ◌+◌, ◌≤◌, ◌^◌, List, [], ◌∷◌, ◌++◌, length, map, reverse, refl, ap, sym, subst, ◌∙◌, arith, length-append, append_assoc}
use Rattle.std.specs.Prelude.{All, Ok, codes, nat_lt}
use Rattle.std.specs.List.{list_all, flat_map}
use Rattle.std.specs.Char.{is_ascii_digit}
use Rattle.std.specs.Str.{bytes_eq, is_utf8}
use Rattle.std.proofs.lemmas.Bool.Decides.{nat_tests}
use Rattle.std.proofs.lemmas.List.{append-nil}
use Rattle.std.proofs.lemmas.Slice.Eq.{bytes_eq-Decides}
use Rattle.std.proofs.lemmas.Bool.{and_parts, and_from, not-true}
use Rattle.cs_base.specs.declared.ws_units.Setting.{Setting}
use Rattle.cs_base.specs.declared.ws_units.Setting.TheVariants.{Define, Undefine}
use Rattle.cs_base.specs.declared.ws_units.Standard.{Standard}
use Rattle.cs_base.specs.declared.ws_units.Standard.TheVariants.{C99, C11, Gnu99, Gnu11}
use Rattle.cs_base.specs.Paths.{normal_path_of, is_normal, kept_of}
use Rattle.cs_base.specs.Units.{UnitValue, IsUnit, line_feed, backslash, quote, less_sign, is_blank, begins_with, has_bad_ends, is_writable, is_project, is_unit_path, is_directory, is_include, is_nondigit, is_identifier, is_setting, defines_fit}
use Rattle.cs_base.proofs.PathLaws.{list_all-reverse}
use Rattle.cs_base.proofs.UnitLemmas.{is_utf8-ascii}
use Rattle.cs_base.proofs.ListLemmas.{all_more as list_all-weaker}
use Rattle.cs_base.specs.Limits.{most_units}
use Rattle.ws_file.specs.Workspace.{WorkspaceValue, workspace, IsWorkspace, is_prefix}
use Rattle.ws_file.specs.Lines.{lines_of, line_word}
use Rattle.ws_file.specs.Reading.{Reading, reading, project_begun, at_first, of_standard, is_bad_path, with_word, read_lines, workspace_of}
use Rattle.ws_file.specs.Printing.{readonly_line, project_line, standard_lines, qpath_line, ipath_line, define_line, included_line, file_line, unit_lines, lines_text, workspace_lines, workspace_text}
use Rattle.ws_file.specs.Taking.{is_no_feed, has_no_feed}
use Rattle.ws_file.proofs.ReadLemmas.{read_lines-end}
use Rattle.ws_file.proofs.ReadingLemmas.{unit_in}
use Rattle.ws_file.proofs.PrintedLines.{IsRest, IsRest-writable}
use Rattle.ws_file.proofs.Leads.{Leads, Leads-nil, Leads-append, Leads-line_with}

-- Identifiers can stand in a line.

abbrev is_word_byte : ℕ → Bool
is_word_byte c = is_nondigit c || is_ascii_digit c

word_byte-ascii : (c : ℕ) → is_word_byte c ≡ true → nat_lt c 128 ≡ true
word_byte-ascii c h = grind (arith, nat_tests, h)

word_byte-no_feed : (c : ℕ) → is_word_byte c ≡ true → is_no_feed c ≡ true
word_byte-no_feed c h = grind (arith, nat_tests, h)

word_byte-other : (c : ℕ) → is_word_byte c ≡ true → is_blank c ≡ false
word_byte-other c h = grind (arith, nat_tests, h)

word_byte-unslashed : (c : ℕ) → is_word_byte c ≡ true → (c == backslash) ≡ false
word_byte-unslashed c h = grind (arith, nat_tests, h)

begins_with-none : (p q : ℕ → Bool) → ((c : ℕ) → p c ≡ true → q c ≡ false) → (text : List ℕ) → list_all p text ≡ true → begins_with q text ≡ false
begins_with-none p q step [] h = refl
begins_with-none p q step (c ∷ text) h = step c ((and_parts _ _ h).0)

is_writable-identifier : (name : List ℕ) → is_identifier name ≡ true → is_writable name ≡ true
unfolding is_writable
is_writable-identifier name h =
    let all : list_all is_word_byte name ≡ true = (and_parts (begins_with is_nondigit name) _ h).1 in
    let turned = list_all-reverse is_word_byte name all in
    let utf8 = is_utf8-ascii name (list_all-weaker is_word_byte (λ b. nat_lt b 128) word_byte-ascii name all) in
    let one_line = list_all-weaker is_word_byte is_no_feed word_byte-no_feed name all in
    let first = begins_with-none is_word_byte is_blank word_byte-other name all in
    let last = begins_with-none is_word_byte is_blank word_byte-other (reverse name) turned in
    let end = begins_with-none is_word_byte (λ b. b == backslash) word_byte-unslashed (reverse name) turned in
    and_from _ _ (and_from _ _ utf8 one_line) (rw (first, last, end) refl)

some-first : (p : ℕ → Bool) (text : List ℕ) → begins_with p text ≡ true → bytes_eq text [] ≡ false
some-first p [] h = absurd (cc)
some-first p (b ∷ text) h = refl

-- The lines, by their words.

Leads-prefix : (prefix : List ℕ) (r : Reading) → is_prefix prefix ≡ true → length r.units ≤ most_units
    → Leads (readonly_line prefix ∷ []) r (record r { readonly = r.readonly ++ prefix ∷ [] })
unfolding with_word line_word
Leads-prefix prefix r h few =
    Leads-line_with (codes "readonly") prefix r _ refl
    (IsRest-writable prefix ((and_parts _ _ h).0) (not-true _ ((and_parts _ _ h).1))) refl few

Leads-project : (name : List ℕ) (r : Reading) → is_project name ≡ true → length r.units ≤ most_units
    → Leads (project_line name ∷ []) r (project_begun name r.units r.readonly)
unfolding with_word line_word
Leads-project name r h few =
    let one : list_all (λ b. not (is_blank b)) name ≡ true = (and_parts (is_writable name && not (bytes_eq name [])) _ h).1 in
    let filled : (is_writable name && not (bytes_eq name [])) ≡ true = (and_parts _ _ h).0 in
    let some = not-true (bytes_eq name []) ((and_parts (is_writable name) _ filled).1) in
    Leads-line_with (codes "project") name r _ refl (IsRest-writable name ((and_parts _ _ filled).0) some) (rw one refl) few

normal-path : (path : List ℕ) → is_normal path ≡ true → normal_path_of path ≡ path
normal-path path h = (bytes_eq-Decides (normal_path_of path) path).0 h

normal-here : normal_path_of (codes ".") ≡ []
unfolding normal_path_of kept_of
normal-here = refl

good_ends : (text : List ℕ) → is_writable text ≡ true → has_bad_ends text ≡ false
unfolding is_writable
good_ends text h = not-true _ ((and_parts (is_utf8 text && has_no_feed text) _ h).1)

is_writable-here : is_writable (codes ".") ≡ true
unfolding is_writable
is_writable-here = rw (is_utf8-ascii (codes ".") refl) refl

is_writable-c11 : is_writable (codes "c11") ≡ true
unfolding is_writable
is_writable-c11 = rw (is_utf8-ascii (codes "c11") refl) refl

is_writable-gnu99 : is_writable (codes "gnu99") ≡ true
unfolding is_writable
is_writable-gnu99 = rw (is_utf8-ascii (codes "gnu99") refl) refl

is_writable-gnu11 : is_writable (codes "gnu11") ≡ true
unfolding is_writable
is_writable-gnu11 = rw (is_utf8-ascii (codes "gnu11") refl) refl

Leads-quoted : (directory : List ℕ) (r : Reading) → is_directory directory ≡ true → length r.units ≤ most_units
    → Leads (qpath_line directory ∷ []) r (record r { qpath = r.qpath ++ directory ∷ [] })
unfolding with_word line_word
Leads-quoted [] r h few = Leads-line_with (codes "qpath") (codes ".") r _ refl (IsRest-writable (codes ".") is_writable-here refl) (rw normal-here refl) few
Leads-quoted (b ∷ directory) r h few =
    let path = b ∷ directory in
    let same = normal-path path ((and_parts _ _ h).1) in
    let ends = good_ends path ((and_parts _ _ h).0) in
    Leads-line_with (codes "qpath") path r _ refl (IsRest-writable path ((and_parts _ _ h).0) refl) (rw (same, ends) refl) few

Leads-directory : (directory : List ℕ) (r : Reading) → is_directory directory ≡ true → length r.units ≤ most_units
    → Leads (ipath_line directory ∷ []) r (record r { ipath = r.ipath ++ directory ∷ [] })
unfolding with_word line_word
Leads-directory [] r h few = Leads-line_with (codes "ipath") (codes ".") r _ refl (IsRest-writable (codes ".") is_writable-here refl) (rw normal-here refl) few
Leads-directory (b ∷ directory) r h few =
    let path = b ∷ directory in
    let same = normal-path path ((and_parts _ _ h).1) in
    let ends = good_ends path ((and_parts _ _ h).0) in
    Leads-line_with (codes "ipath") path r _ refl (IsRest-writable path ((and_parts _ _ h).0) refl) (rw (same, ends) refl) few

Leads-setting : (s : Setting) (r : Reading) → is_setting s ≡ true → length r.units ≤ most_units
    → Leads (define_line s ∷ []) r (record r { settings = r.settings ++ s ∷ [] })
unfolding with_word line_word
Leads-setting (Define rest) r h few =
    let begins = (and_parts _ _ h).1 in
    Leads-line_with (codes "define") rest r _ refl
    (IsRest-writable rest ((and_parts _ _ h).0) (some-first is_nondigit rest begins)) (rw begins refl) few
Leads-setting (Undefine name) r h few =
    Leads-line_with (codes "undefine") name r _ refl
    (IsRest-writable name (is_writable-identifier name h) (some-first is_nondigit name ((and_parts _ _ h).0))) (rw h refl) few

-- What is true of a path that a unit may have: it is a rest, it is normal, and no line refuses it.
record IsGoodPath (path : List ℕ) : Type 0 where
  is_rest : IsRest path
  same : normal_path_of path ≡ path
  good : is_bad_path path ≡ false

good_path : (path : List ℕ) → is_unit_path path ≡ true → IsGoodPath path
good_path path h =
    let place = (and_parts _ _ ((and_parts _ _ h).0)).0 in
    let some = not-true (bytes_eq path []) ((and_parts _ _ ((and_parts _ _ h).0)).1) in
    let real = not-true (begins_with (λ b. b == less_sign) path) ((and_parts _ _ h).1) in
    let ends = good_ends path ((and_parts _ _ place).0) in
    record {
      is_rest = IsRest-writable path ((and_parts _ _ place).0) some;
      same = normal-path path ((and_parts _ _ place).1);
      good = rw (some, real, ends) refl;
    }

Leads-include : (path : List ℕ) (r : Reading) → is_include path ≡ true → length r.units ≤ most_units
    → Leads (included_line path ∷ []) r (record r { includes = r.includes ++ path ∷ [] })
unfolding with_word line_word
Leads-include path r h few =
    let parts = and_parts (is_unit_path path) (list_all (λ b. not (b == quote)) path) h in
    let p = good_path path parts.0 in
    Leads-line_with (codes "include") path r _ refl p.is_rest (rw (p.same, p.good, parts.1) refl) few

Leads-file : (path : List ℕ) (r : Reading) → is_unit_path path ≡ true → defines_fit r.standard r.settings r.includes ≡ true → length r.units + 1 ≤ most_units
    → Leads (file_line path ∷ []) r (record r { units = r.units ++ unit_in r path ∷ [] })
unfolding with_word line_word
Leads-file path r h fits few =
    let p = good_path path h in
    let u = unit_in r path in
    let few' : length (r.units ++ u ∷ []) ≤ most_units = omega (arith, length-append r.units (u ∷ [])) in
    Leads-line_with (codes "file") path r _ refl p.is_rest (rw (p.same, p.good, fits) refl) few'

-- Lists of lines.

Leads-prefixes : (prefixes : List (List ℕ)) (r : Reading) → list_all is_prefix prefixes ≡ true → length r.units ≤ most_units
    → Leads (map readonly_line prefixes) r (record r { readonly = r.readonly ++ prefixes })
Leads-prefixes [] r h few =
    subst (λ (all : List (List ℕ)). Leads [] r (record r { readonly = all })) (sym (append-nil r.readonly)) (Leads-nil r)
Leads-prefixes (prefix ∷ prefixes) r h few =
    let next = record r { readonly = r.readonly ++ prefix ∷ [] } in
    subst (λ (all : List (List ℕ)). Leads (map readonly_line (prefix ∷ prefixes)) r (record r { readonly = all })) (append_assoc r.readonly (prefix ∷ []) prefixes)
    (Leads-append (readonly_line prefix ∷ []) (map readonly_line prefixes) r next _ (Leads-prefix prefix r ((and_parts _ _ h).0) few)
    (Leads-prefixes prefixes next ((and_parts _ _ h).1) few))

Leads-quoteds : (directories : List (List ℕ)) (r : Reading) → list_all is_directory directories ≡ true → length r.units ≤ most_units
    → Leads (map qpath_line directories) r (record r { qpath = r.qpath ++ directories })
Leads-quoteds [] r h few =
    subst (λ (all : List (List ℕ)). Leads [] r (record r { qpath = all })) (sym (append-nil r.qpath)) (Leads-nil r)
Leads-quoteds (directory ∷ directories) r h few =
    let next = record r { qpath = r.qpath ++ directory ∷ [] } in
    subst (λ (all : List (List ℕ)). Leads (map qpath_line (directory ∷ directories)) r (record r { qpath = all })) (append_assoc r.qpath (directory ∷ []) directories)
    (Leads-append (qpath_line directory ∷ []) (map qpath_line directories) r next _ (Leads-quoted directory r ((and_parts _ _ h).0) few)
    (Leads-quoteds directories next ((and_parts _ _ h).1) few))

Leads-directories : (directories : List (List ℕ)) (r : Reading) → list_all is_directory directories ≡ true → length r.units ≤ most_units
    → Leads (map ipath_line directories) r (record r { ipath = r.ipath ++ directories })
Leads-directories [] r h few =
    subst (λ (all : List (List ℕ)). Leads [] r (record r { ipath = all })) (sym (append-nil r.ipath)) (Leads-nil r)
Leads-directories (directory ∷ directories) r h few =
    let next = record r { ipath = r.ipath ++ directory ∷ [] } in
    subst (λ (all : List (List ℕ)). Leads (map ipath_line (directory ∷ directories)) r (record r { ipath = all })) (append_assoc r.ipath (directory ∷ []) directories)
    (Leads-append (ipath_line directory ∷ []) (map ipath_line directories) r next _ (Leads-directory directory r ((and_parts _ _ h).0) few)
    (Leads-directories directories next ((and_parts _ _ h).1) few))

Leads-settings : (settings : List Setting) (r : Reading) → list_all is_setting settings ≡ true → length r.units ≤ most_units
    → Leads (map define_line settings) r (record r { settings = r.settings ++ settings })
Leads-settings [] r h few =
    subst (λ (all : List Setting). Leads [] r (record r { settings = all })) (sym (append-nil r.settings)) (Leads-nil r)
Leads-settings (s ∷ settings) r h few =
    let next = record r { settings = r.settings ++ s ∷ [] } in
    subst (λ (all : List Setting). Leads (map define_line (s ∷ settings)) r (record r { settings = all })) (append_assoc r.settings (s ∷ []) settings)
    (Leads-append (define_line s ∷ []) (map define_line settings) r next _ (Leads-setting s r ((and_parts _ _ h).0) few)
    (Leads-settings settings next ((and_parts _ _ h).1) few))

Leads-includes : (includes : List (List ℕ)) (r : Reading) → list_all is_include includes ≡ true → length r.units ≤ most_units
    → Leads (map included_line includes) r (record r { includes = r.includes ++ includes })
Leads-includes [] r h few =
    subst (λ (all : List (List ℕ)). Leads [] r (record r { includes = all })) (sym (append-nil r.includes)) (Leads-nil r)
Leads-includes (path ∷ includes) r h few =
    let next = record r { includes = r.includes ++ path ∷ [] } in
    subst (λ (all : List (List ℕ)). Leads (map included_line (path ∷ includes)) r (record r { includes = all })) (append_assoc r.includes (path ∷ []) includes)
    (Leads-append (included_line path ∷ []) (map included_line includes) r next _ (Leads-include path r ((and_parts _ _ h).0) few)
    (Leads-includes includes next ((and_parts _ _ h).1) few))

Leads-standard : (s : Standard) (r : Reading) → length r.units ≤ most_units
    → Leads (standard_lines s) (of_standard C99 r) (of_standard s r)
unfolding with_word line_word
Leads-standard C99 r few = Leads-nil (of_standard C99 r)
Leads-standard C11 r few =
    Leads-line_with (codes "standard") (codes "c11") (of_standard C99 r) _ refl (IsRest-writable (codes "c11") is_writable-c11 refl) refl few
Leads-standard Gnu99 r few =
    Leads-line_with (codes "standard") (codes "gnu99") (of_standard C99 r) _ refl (IsRest-writable (codes "gnu99") is_writable-gnu99 refl) refl few
Leads-standard Gnu11 r few =
    Leads-line_with (codes "standard") (codes "gnu11") (of_standard C99 r) _ refl (IsRest-writable (codes "gnu11") is_writable-gnu11 refl) refl few

-- what is in force behind the lines of a unit
abbrev behind_unit : UnitValue → Reading → Reading
behind_unit u r = reading u.project u.qpath u.ipath u.settings u.includes (r.units ++ u ∷ []) r.readonly u.standard

Leads-unit : (u : UnitValue) (r : Reading) → IsUnit u → length r.units + 1 ≤ most_units
    → Leads (unit_lines u) r (behind_unit u r)
unfolding unit_lines
Leads-unit u r h few =
    let few' : length r.units ≤ most_units = omega arith in
    let named = project_begun u.project r.units r.readonly in
    let dated = record named { standard = u.standard } in
    let quoted = record dated { qpath = u.qpath } in
    let placed = record quoted { ipath = u.ipath } in
    let set = record placed { settings = u.settings } in
    let held = record set { includes = u.includes } in
    let file = file_line u.path ∷ [] in
    Leads-append (project_line u.project ∷ []) _ r named _ (Leads-project u.project r h.is_named few')
    (Leads-append (standard_lines u.standard) _ named dated _ (Leads-standard u.standard named few')
    (Leads-append (map qpath_line u.qpath) _ dated quoted _ (Leads-quoteds u.qpath dated h.are_quoted_directories few')
    (Leads-append (map ipath_line u.ipath) _ quoted placed _ (Leads-directories u.ipath quoted h.are_directories few')
    (Leads-append (map define_line u.settings) _ placed set _ (Leads-settings u.settings placed h.are_settings few')
    (Leads-append (map included_line u.includes) file set held _ (Leads-includes u.includes set h.are_includes few')
    (Leads-file u.path held h.is_placed h.fits few))))))

-- Lines that lead to a reading of these units and prefixes.
record LeadsTo (lines : List (List ℕ)) (r : Reading) (units : List UnitValue) (readonly : List (List ℕ)) : Type 0 where
  last : Reading
  way : Leads lines r last
  has_units : last.units ≡ units
  has_readonly : last.readonly ≡ readonly

LeadsTo-units : (units : List UnitValue) (r : Reading) → All IsUnit units → length r.units + length units ≤ most_units
    → LeadsTo (flat_map unit_lines units) r (r.units ++ units) r.readonly
LeadsTo-units [] r h few = record { last = r; way = Leads-nil r; has_units = sym (append-nil r.units); has_readonly = refl }
LeadsTo-units (u ∷ units) r h few =
    let next = behind_unit u r in
    let one : length r.units + 1 ≤ most_units = omega arith in
    let left : length next.units + length units ≤ most_units = omega (arith, length-append r.units (u ∷ [])) in
    let more = LeadsTo-units units next (λ k d below. h (suc k) d (omega arith)) left in
    record {
      last = more.last;
      way = Leads-append (unit_lines u) (flat_map unit_lines units) r next more.last (Leads-unit u r (h 0 u (omega arith)) one) more.way;
      has_units = more.has_units ∙ append_assoc r.units (u ∷ []) units;
      has_readonly = more.has_readonly;
    }

LeadsTo-workspace : (ws : WorkspaceValue) → IsWorkspace ws → LeadsTo (workspace_lines ws) at_first ws.units ws.readonly
unfolding workspace_lines
LeadsTo-workspace ws h =
    let none : length at_first.units ≤ most_units = omega arith in
    let protected = project_begun at_first.project [] ws.readonly in
    let few : length protected.units + length ws.units ≤ most_units = omega (arith, h.are_few) in
    let units = LeadsTo-units ws.units protected h.are_units few in
    record {
      last = units.last;
      way = Leads-append (map readonly_line ws.readonly) (flat_map unit_lines ws.units) at_first protected units.last
          (Leads-prefixes ws.readonly at_first h.are_prefixes none) units.way;
      has_units = units.has_units;
      has_readonly = units.has_readonly;
    }

lines_of-ended : (line rest : List ℕ) → has_no_feed line ≡ true → lines_of (line ++ line_feed ∷ rest) ≡ line ∷ lines_of rest
lines_of-ended [] rest h = refl
lines_of-ended (b ∷ line) rest h =
    let other = not-true (b == line_feed) ((and_parts _ _ h).0) in
    let same = lines_of-ended line rest ((and_parts _ _ h).1) in
    rw (other, same) refl

lines_of-lines_text : (lines : List (List ℕ)) → list_all has_no_feed lines ≡ true → lines_of (lines_text lines) ≡ lines
lines_of-lines_text [] h = refl
lines_of-lines_text (line ∷ lines) h =
    ap lines_of (append_assoc line (line_feed ∷ []) (lines_text lines))
    ∙ lines_of-ended line (lines_text lines) ((and_parts _ _ h).0)
    ∙ ap (λ (rest : List (List ℕ)). line ∷ rest) (lines_of-lines_text lines ((and_parts _ _ h).1))

-- what is printed is read back
pub workspace_of-workspace_text : (ws : WorkspaceValue) → IsWorkspace ws → length (workspace_text ws) ≤ 2 ^ 22
    → workspace_of (workspace_text ws) ≡ Ok ws
unfolding workspace_of workspace_text
workspace_of-workspace_text ws h fits =
    let lines = workspace_lines ws in
    let to = LeadsTo-workspace ws h in
    let ended : lines ++ [] ≡ lines = append-nil lines in
    let fits' : 0 + length (lines_text (lines ++ [])) ≤ 2 ^ 22 = rw ended (omega arith) in
    let end = to.way.leads 1 0 [] fits' in
    ap (λ (read : List (List ℕ)). read_lines 1 0 read at_first) (lines_of-lines_text lines to.way.are_lines ∙ sym ended)
    ∙ end.same
    ∙ read_lines-end end.next_number end.next_start to.last
    ∙ ap (λ (units : List UnitValue). Ok (workspace units to.last.readonly)) to.has_units
    ∙ ap (λ (readonly : List (List ℕ)). Ok (workspace ws.units readonly)) to.has_readonly
