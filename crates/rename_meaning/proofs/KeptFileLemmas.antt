-- A renaming against which nothing stands keeps the files.
use Rattle.std.proofs.Common.{◌≡◌, ℕ, zero, suc, ◌+◌, ◌-◌, ◌==◌, ◌≤◌, Bool, true, false, ◌++◌, inl, inr, List, [], ◌∷◌, length, Option, Some, None, Result, Ok, Err, refl, sym, ap, subst, ◌∙◌, arith, cond, nat_lt}
use Rattle.std.specs.Prelude.{eqb, slice_get}
use Rattle.std.specs.List.{list_any, starts_with}
use Rattle.std.specs.Option.{option_map, option_map_or, option_and_then}
use Rattle.std.proofs.lemmas.Bool.{cases_Bool, cases_lt, both_ways, or_left, or_right, lt-ltb}
use Rattle.std.proofs.lemmas.Option.{none-some, same_Some}
use Rattle.cs_base.specs.declared.positions.Part.{Part}
use Rattle.cs_base.specs.Token.{Token}
use Rattle.cs_base.specs.Limits.{most_bytes}
use Rattle.lexer.specs.FileText.{TextValue, LexFault, FileTooLarge, file_text}
use Rattle.lexer.specs.Logical.{gone_length}
use Rattle.lexer.specs.Places.{pos}
use Rattle.lexer.specs.Respelling.{Put, edited_from as bytes_edited, edited}
use Rattle.lexer.specs.Tokens.{tokens_of, firsts_of}
use Rattle.lexer.proofs.OrderLemmas.{few_bytes as text_small}
use Rattle.line_shape.specs.Items.{lines_of}
use Rattle.source_files.specs.Files.{Source, SourceFile, source_file, Found, Lines, Absent, Unopened, Opened, Made, Entry, entry, Table}
use Rattle.source_files.specs.KeptFiles.{KeptValue, kept, kept_in, kept_at}
use Rattle.source_files.specs.Sources.{read_as, source_kept, source_at}
use Rattle.source_files.proofs.KeptLemmas.{read-text as read_text}
use Rattle.unit_steps.specs.Texts.{UnitTextValue, text_of}
use Rattle.include_tree.specs.PseudoFiles.{is_pseudo}
use Rattle.analysis.specs.Below.eclass_map.Positions.{holds}
use Rattle.analysis.proofs.Below.eclass_map.TokenFacts.{holding}
use Rattle.part_respell.specs.Respelled.{member_over, put_in, put_of, respelled, moved_to}
use Rattle.analysis.specs.Tables.{IsPseudoIfMade, MadeArePseudo}
use Rattle.analysis.proofs.MadeLemmas.{made_files_pseudo}
use Rattle.edited_unit_laws.specs.Lines.{Each, KeepsToken, KeepsLine}
use Rattle.edited_unit_laws.proofs.EditedTokenLemmas.{edited_files_keep_tokens}
use Rattle.edited_unit_laws.specs.EditedFiles.{HoldsEdited, IsEdited}
use Rattle.edited_unit_laws.specs.Keeping.{Change, Fits, KeepsFile, KeepsFiles}
use Rattle.edited_unit_laws.proofs.FoundLemmas.{edited_tables_are_found}
use Rattle.edited_unit_laws.proofs.RespelledLemmas.{edited_files_are_kept}
use Rattle.analysis.specs.Analysed.{Analysed}
use Rattle.analysis.specs.Places.{is_read_only, is_read_only_path}
use Rattle.analysis.proofs.PlaceNameLemmas.{kept_number}
use Rattle.rename_meaning.specs.Allowed.{IsAllowed}
use Rattle.rename_meaning.specs.KeptFiles.{WordsAreFree}
use Rattle.rename_meaning.specs.KeptLines.{LinesStayAlike}
use Rattle.rename_meaning.specs.KeptTokens.{Spells}
use Rattle.edited_unit_laws.proofs.ListLemmas.{In, all_at, found}
use Rattle.rename_meaning.proofs.NoneLemmas.{none_stand, writable}
use Rattle.rename_meaning.proofs.KeptLineLemmas.{lines_are_kept, from_each}
use Rattle.rename_meaning.proofs.KeptTokenLemmas.{each_of, tokens_are_kept}
use Rattle.rename_meaning.proofs.OccurringLemmas.{file_tokens_occur}
use Rattle.rename_meaning.proofs.RenamingLemmas.{spell-same, edited_files_are_renamed}
use Rattle.edited_unit_laws.proofs.TracedLemmas.{source_of_kept}
use Rattle.rename_meaning.specs.KeptUnits.{change_by}
use Rattle.rename_meaning.specs.Limits.{AreWithinLimits}
use Rattle.rename_meaning.proofs.FoundLemmas.{analysis_finds}
use Rattle.analysis.specs.Changed.{Editing, edited_found, edited_from, edited_table}

-- ---- files without members

stays_whole : (put : Put) → ((at c : ℕ) → put at c ≡ c ∷ []) → (skip at : ℕ) (bytes : List ℕ) → bytes_edited put skip at bytes ≡ bytes
unfolding bytes_edited
stays_whole put same zero at [] = refl
stays_whole put same (suc skip) at [] = refl
stays_whole put same (suc skip) at (c ∷ cs) = ap (λ (w : List ℕ). c ∷ w) (stays_whole put same skip at cs)
stays_whole put same zero at (c ∷ cs) = elim (cases_Bool (gone_length c cs == 0)) [
  | inl character ↦
      rw character
      (ap (λ (w : List ℕ). w ++ bytes_edited put 0 (at + 1) cs) (same at c) ∙ ap (λ (w : List ℕ). c ∷ w) (stays_whole put same 0 (at + 1) cs))
  | inr gone ↦ rw gone (ap (λ (w : List ℕ). c ∷ w) (stays_whole put same (gone_length c cs - 1) at cs))
]

-- a file in which no member stands is respelled as it is
pub respelled_same : (members : List Part) (name : List ℕ) (file : ℕ) (bytes : List ℕ) → ((m : Part) → In m members → m.start.file ≡ file → ⊥)
    → respelled members name file bytes ≡ bytes
unfolding respelled edited
respelled_same members name file bytes none = stays_whole (put_of members name file) same 0 0 bytes
  where
    by : (at c : ℕ) (o : Option Part) → member_over members (pos file at) ≡ o → option_map_or (put_in name (pos file at)) o (c ∷ []) ≡ c ∷ []
    by at c None e = refl
    by at c (Some m) e =
        let is = found (λ (q : Part). holds q (pos file at)) members m e in
        absurd (none m is.0 (holding m (pos file at) is.1).file)

    same : (at c : ℕ) → put_of members name file at c ≡ c ∷ []
    same at c = by at c (member_over members (pos file at)) refl

-- a pseudo file is one
made_entry : (table : Table) (n : ℕ) (path bytes : List ℕ) → MadeArePseudo table → slice_get table n ≡ Some (entry path (Made bytes)) → is_pseudo path ≡ true
made_entry [] n path bytes h e = absurd (none-some _ e)
made_entry (x ∷ table) zero path bytes h e =
    let same : x ≡ entry path (Made bytes) = same_Some x (entry path (Made bytes)) e in
    subst (λ (d : Entry). IsPseudoIfMade d.path d.found) same h.0
made_entry (x ∷ table) (suc n) path bytes h e = made_entry table n path bytes h.1 e

-- ---- kept files behind an edit

entry_edited : (edit : List ℕ → List ℕ) (n : ℕ) (path : List ℕ) (found : Found) (f : KeptValue) → ((bytes : List ℕ) → found ≡ Made bytes → edit bytes ≡ bytes)
    → kept_in n (entry path found) ≡ Some f → kept_in n (entry path (edited_found edit found)) ≡ Some (kept f.number f.path (edit f.bytes))
entry_edited edit n path Lines f made e = absurd (none-some f e)
entry_edited edit n path Absent f made e = absurd (none-some f e)
entry_edited edit n path (Unopened bytes) f made e = absurd (none-some f e)
entry_edited edit n path (Opened bytes) f made e = ap (λ (k : KeptValue). Some (kept k.number k.path (edit k.bytes))) (same_Some (kept n path bytes) f e)
entry_edited edit n path (Made bytes) f made e =
    ap (λ (w : List ℕ). Some (kept n path w)) (sym (made bytes refl)) ∙ ap (λ (k : KeptValue). Some (kept k.number k.path (edit k.bytes))) (same_Some (kept n path bytes) f e)

table_edited : (edit : Editing) (m : ℕ) (table : Table) (k : ℕ) (f : KeptValue) → ((j : ℕ) (path bytes : List ℕ) → slice_get table j ≡ Some (entry path (Made bytes)) → edit (m + j) bytes ≡ bytes)
    → option_and_then (kept_in (m + k)) (slice_get table k) ≡ Some f
    → option_and_then (kept_in (m + k)) (slice_get (edited_from edit m table) k) ≡ Some (kept f.number f.path (edit (m + k) f.bytes))
table_edited edit m [] k f made e = absurd (none-some f e)
table_edited edit m (x ∷ table) zero f made e =
    let here : m + 0 ≡ m = omega arith in
    let own : kept_in m x ≡ Some f = subst (λ (n : ℕ). kept_in n x ≡ Some f) here e in
    let r = entry_edited (edit m) m x.path x.found f (λ bytes is. ap (λ (n : ℕ). edit n bytes) (sym here) ∙ made 0 x.path bytes (ap (λ (g : Found). Some (entry x.path g)) is)) own in
    subst (λ (n : ℕ). kept_in n (entry x.path (edited_found (edit m) x.found)) ≡ Some (kept f.number f.path (edit n f.bytes))) (sym here) r
table_edited edit m (x ∷ table) (suc k) f made e =
    let on : m + suc k ≡ suc m + k = omega arith in
    let own : option_and_then (kept_in (suc m + k)) (slice_get table k) ≡ Some f = subst (λ (n : ℕ). option_and_then (kept_in n) (slice_get table k) ≡ Some f) on e in
    let r = table_edited edit (suc m) table k f
    (λ j path bytes at. (let more : suc m + j ≡ m + suc j = omega arith in ap (λ (n : ℕ). edit n bytes) more ∙ made (suc j) path bytes at)) own in
    subst (λ (n : ℕ). option_and_then (kept_in n) (slice_get (edited_from edit (suc m) table) k) ≡ Some (kept f.number f.path (edit n f.bytes))) (sym on) r

file_named : (number : ℕ) (path : List ℕ) (r : Result TextValue LexFault) (file : SourceFile) → read_as number path r ≡ Some file → (file.number ≡ number) × (file.path ≡ path)
file_named number path (Ok text) file e =
    let same : source_file number path text ≡ file = same_Some (source_file number path text) file e in
    (ap (λ (f : SourceFile). f.number) (sym same), ap (λ (f : SourceFile). f.path) (sym same))
file_named number path (Err fault) file e = absurd (none-some file e)

source_named : (table : Table) (n : ℕ) (file : SourceFile) (k : KeptValue) → source_at table n ≡ Some file → kept_at table n ≡ Some k → (file.number ≡ k.number) × (file.path ≡ k.path)
source_named table n file k e is =
    let read : read_as k.number k.path (file_text k.number k.bytes) ≡ Some file = ap (option_and_then source_kept) (sym is) ∙ e in
    file_named k.number k.path (file_text k.number k.bytes) file read

source_text : (table : Table) (n : ℕ) (file : SourceFile) (bytes : List ℕ) → kept_at table n ≡ Some (kept n file.path bytes) → source_at table n ≡ Some file → file_text n bytes ≡ Ok file.text
source_text table n file bytes is e = read_text n file.path (file_text n bytes) file (ap (option_and_then source_kept) (sym is) ∙ e)

cond_small : (n : ℕ) (bytes : List ℕ) (text : TextValue) (r : Result TextValue LexFault) (b : Bool) → nat_lt most_bytes (length bytes) ≡ b → cond b (Err FileTooLarge) r ≡ Ok text → length bytes ≤ most_bytes
cond_small n bytes text r true is e = absurd (cc)
cond_small n bytes text r false is e = elim (cases_lt most_bytes (length bytes)) [
  | inl more ↦ absurd (both_ways (nat_lt most_bytes (length bytes)) is (lt-ltb most_bytes (length bytes) more))
  | inr within ↦ within
]

-- nothing is told of a text but its names, which are not asked for
abbrev pub no_text : UnitTextValue
no_text = text_of [] [] [] [] [] [] [] []

module _ (a : Analysed) (members : List Part) (name : List ℕ) (h : IsAllowed a members name) where
  -- no member stands in a pseudo file
  pub made_stays : (n : ℕ) (path bytes : List ℕ) → slice_get a.value.table n ≡ Some (entry path (Made bytes)) → respelled members name n bytes ≡ bytes
  made_stays n path bytes at =
      respelled_same members name n bytes (λ m i file.
      let pseudo = made_entry a.value.table n path bytes (made_files_pseudo h.source h.workspace a.value h.accepted) at in
      let is : kept_at a.value.table m.start.file ≡ Some (kept n path bytes) = ap (kept_at a.value.table) file ∙ ap (option_and_then (kept_in n)) at in
      let prefixes : List (List ℕ) = a.value.workspace.readonly in
      let path_is : is_read_only_path prefixes path ≡ true = or_left (is_pseudo path) (list_any (starts_with eqb path) prefixes) pseudo in
      let here : option_map_or (λ (f : KeptValue). is_read_only_path prefixes f.path) (kept_at a.value.table m.start.file) false ≡ true =
      ap (λ (o : Option KeptValue). option_map_or (λ (f : KeptValue). is_read_only_path prefixes f.path) o false) is ∙ path_is in
      let read_only : is_read_only a.value.table prefixes m.start.file ≡ true =
      or_right (m.start.file == 0) (option_map_or (λ (f : KeptValue). is_read_only_path prefixes f.path) (kept_at a.value.table m.start.file) false) here in
      both_ways (is_read_only a.value.table prefixes m.start.file) (writable a.value members name (none_stand a.value members name h.first) m i) read_only)

  -- the edited file of a kept one
  pub kept_anew : (n : ℕ) (f : KeptValue) → kept_at a.value.table n ≡ Some f
      → kept_at (edited_table (respelled members name) a.value.table) n ≡ Some (kept f.number f.path (respelled members name n f.bytes))
  kept_anew n f is =
      let here : 0 + n ≡ n = omega arith in
      let own : option_and_then (kept_in (0 + n)) (slice_get a.value.table n) ≡ Some f =
      subst (λ (k : ℕ). option_and_then (kept_in k) (slice_get a.value.table n) ≡ Some f) (sym here) is in
      let r = table_edited (respelled members name) 0 a.value.table n f
      (λ j path bytes at. (let there : 0 + j ≡ j = omega arith in ap (λ (k : ℕ). respelled members name k bytes) there ∙ made_stays j path bytes at)) own in
      subst (λ (k : ℕ). option_and_then (kept_in k) (slice_get (edited_table (respelled members name) a.value.table) n) ≡ Some (kept f.number f.path (respelled members name k f.bytes))) here r

  module _ (words : WordsAreFree a.value members) (uses : LinesStayAlike a.value members name) (limits : AreWithinLimits a.value members name) (macro_name : List ℕ → List ℕ) where
    abbrev c : Change
    c = change_by a.value members name macro_name

    pub spells : Spells members name c.renaming
    spells = λ t same. spell-same members name t.origins t.text same

    -- a kept file is edited
    file_edited : (file : SourceFile) (bytes : List ℕ) → kept_at a.value.table file.number ≡ Some (kept file.number file.path bytes)
        → file_text file.number bytes ≡ Ok file.text → file.text.toks ≡ tokens_of file.number bytes → file.text.firsts ≡ firsts_of bytes → IsEdited c file bytes (respelled members name file.number bytes)
    file_edited file bytes is text toks firsts =
        let n : ℕ = file.number in
        let f : KeptValue = kept n file.path bytes in
        let anew = edited_files_are_renamed edited_files_keep_tokens a members name no_text h words n f is in
        let tokens : Each (KeepsToken c.renaming) (tokens_of n bytes) = tokens_are_kept a members name c.renaming h spells n f is in
        let fit : Each (Fits c) (tokens_of n bytes) =
        each_of (Fits c) (tokens_of n bytes) (λ t i. (
          file_tokens_occur a.value t (record { number = n; file = f; is_kept = is; there = i }),
          all_at (KeepsToken c.renaming) (tokens_of n bytes) (from_each (KeepsToken c.renaming) (tokens_of n bytes) tokens) t i,
        )) in
        let lines : Each (KeepsLine c.renaming) (lines_of (tokens_of n bytes) (firsts_of bytes)) = lines_are_kept a members name c.renaming h spells words uses n f is in
        record {
          old = is;
          new = kept_anew n f is;
          small = limits.small n f is (text_small n bytes file.text text);
          toks = anew.0;
          firsts = anew.1;
          ends = λ none. anew.2 ∙ ap (option_map (moved_to members name n bytes)) none;
          fits = subst (Each (Fits c)) (sym toks) fit;
          lines = subst (λ (fs : List Bool). Each (KeepsLine c.renaming) (lines_of file.text.toks fs)) (sym firsts)
              (subst (λ (ts : List Token). Each (KeepsLine c.renaming) (lines_of ts (firsts_of bytes))) (sym toks) lines);
        }

    file_kept : (number : ℕ) (file : SourceFile) → source_at a.value.table number ≡ Some file → KeepsFile c file
    file_kept number file is =
        let s = source_of_kept a.value.table number file is in
        let k : KeptValue = s.kept in
        let named = source_named a.value.table number file k is s.is_kept in
        let own : k.number ≡ number = kept_number a.value.table number k s.is_kept in
        let same : number ≡ file.number = sym own ∙ sym named.0 in
        let value : k ≡ kept file.number file.path k.bytes = ap (λ (n : ℕ). kept n k.path k.bytes) (sym named.0) ∙ ap (λ (p : List ℕ). kept file.number p k.bytes) (sym named.1) in
        let old : kept_at a.value.table file.number ≡ Some (kept file.number file.path k.bytes) =
        ap (kept_at a.value.table) (sym same) ∙ s.is_kept ∙ ap (λ (v : KeptValue). Some v) value in
        let toks : file.text.toks ≡ tokens_of file.number k.bytes = s.toks ∙ ap (λ (n : ℕ). tokens_of n k.bytes) (sym named.0) in
        edited_files_are_kept c file k.bytes (respelled members name file.number k.bytes) (ap (source_at a.value.table) (sym same) ∙ is)
        (file_edited file k.bytes old (source_text a.value.table file.number file k.bytes old (ap (source_at a.value.table) (sym same) ∙ is)) toks s.firsts)

    pub files_kept : (new : Source) → HoldsEdited c h.source new → KeepsFiles c new
    files_kept new holds = record {
      each = file_kept;
      found = edited_tables_are_found c h.source new (analysis_finds h.source h.workspace a.value h.accepted) holds;
      few_bytes = limits.few;
    }
