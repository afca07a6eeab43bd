-- Files in which include lines are null directives.
use Rattle.std.proofs.Common.{◌≡◌, ℕ, ◌+◌, ◌<◌, ◌≤◌, ◌||◌, Bool, true, false, cond, List, [], ◌∷◌, ◌++◌, Option, Some, None, length, drop, refl, sym, ap, ◌∙◌, inl, inr, arith, length-append}
use Rattle.std.specs.Prelude.{IsUtf8, filter, map, OnOk, Result, Ok, Err}
use Rattle.std.specs.Str.{is_utf8}
use Rattle.std.proofs.lemmas.Str.{IsUtf8-from_is_utf8}
use Rattle.std.specs.List.{flat_map, slice_range}
use Rattle.std.specs.Option.{option_map_or}
use Rattle.std.proofs.lemmas.Bool.{cases_Bool}
use Rattle.std.proofs.lemmas.Grind.{flat_map-append}
use Rattle.std.proofs.lemmas.List.{at_drop_more, at_drop_all, append-nil}
use Rattle.std.proofs.lemmas.Option.{slice_get-get_or}
use Rattle.cs_base.specs.declared.positions.Part.{Part}
use Rattle.cs_base.specs.declared.positions.Pos.{Pos}
use Rattle.cs_base.specs.Edit.{Edit, edit}
use Rattle.cs_base.specs.Token.{Token}
use Rattle.cs_base.proofs.ListLemmas.{passes-at}
use Rattle.analysis.specs.FileTokens.{span_of}
use Rattle.edited_files.specs.Edited.{with_edit, with_each}
use Rattle.edited_files.proofs.EditLemmas.{with_each-append, with_each-none, with_each-one}
use Rattle.analysis.specs.Below.include_tree.PseudoFiles.{is_pseudo}
use Rattle.analysis.specs.Below.include_tree.Walk.{ItemText, item_text}
use Rattle.analysis.specs.Below.lexer.Tokens.{tokens_of, firsts_of}
use Rattle.analysis.specs.Below.line_shape.declared.items.Item.{Item}
use Rattle.analysis.specs.Below.line_shape.Items.{items_of as shaped_items}
use Rattle.analysis.specs.Below.source_files.Files.{Table, Entry, Absent, entry}
use Rattle.analysis.specs.Below.source_files.KeptFiles.{KeptValue, kept_at}
use Rattle.analysis.specs.Below.source_files.Tables.{paths_in, AreText}
use Rattle.analysis.proofs.Below.source_files.KeptLemmas.{kept_path as kept-path}
use Rattle.part_respell.specs.Respelled.{respelled}
use Rattle.trim_rules.specs.declared.trimming.TrimmedFile.{TrimmedFile}
use Rattle.trim_rules.specs.Gone.{in_line, AreGone, AreAllGone}
use Rattle.trim_rules.specs.Made.{AgreeOn, edit_made}
use Rattle.trim_rules.specs.Staying.{items_of}
use Rattle.trim_rules.specs.Trimmed.{is_line, lines_in, behind_hash, edit_for, edit_in, edits_from, edits_of}
use Rattle.unused_names.specs.Lines.{is_position}
use Rattle.trim_rules.proofs.JudgingLemmas.{any-last}

-- ---- positions

pub agree-none : (has : Pos → Bool) → ((p : Pos) → has p ≡ false) → AgreeOn has []
agree-none has none p = none p

pub agree-next : (xs ys : List Pos) (q : Pos) (old new : Pos → Bool) → ys ≡ xs ++ q ∷ [] → AgreeOn old xs
    → ((p : Pos) → new p ≡ cond (is_position q p) true (old p)) → AgreeOn new ys
agree-next xs ys q old new more h put p =
    put p ∙ ap (cond (is_position q p) true) (h p) ∙ either (is_position q p) (is_line xs p)
    ∙ sym (ap (λ (zs : List Pos). is_line zs p) more ∙ any-last p xs q)
  where
    either : (a b : Bool) → cond a true b ≡ (a || b)
    either true b = refl
    either false b = refl

-- ---- the lines of a file

pub lines-picked : (lines : List Pos) (f : KeptValue) (xs : List Item)
    → filter (λ (i : ItemText). is_line lines i.at) (map (item_text (tokens_of f.number f.bytes)) xs) ≡ flat_map (in_line lines f) xs
lines-picked lines f [] = refl
lines-picked lines f (x ∷ xs) = elim (cases_Bool (is_line lines x.at)) [
  | inl is ↦ rw is (ap (λ (is : List ItemText). item_text (tokens_of f.number f.bytes) x ∷ is) (lines-picked lines f xs))
  | inr differs ↦ rw differs (lines-picked lines f xs)
]

pub gone-next : (lines : List Pos) (f : KeptValue) (xs ys : List Item) (x : Item) (old new : List Part) (n m : ℕ) → ys ≡ xs ++ x ∷ []
    → AreGone lines f xs old n → new ≡ old ++ flat_map behind_hash (in_line lines f x) → m ≡ n + length (in_line lines f x) → AreGone lines f ys new m
gone-next lines f xs ys x old new n m more h put counted =
    let before = flat_map (in_line lines f) xs in
    let here = in_line lines f x in
    let all : flat_map (in_line lines f) ys ≡ before ++ here =
    ap (flat_map (in_line lines f)) more ∙ flat_map-append (in_line lines f) xs (x ∷ []) ∙ ap (λ (is : List ItemText). before ++ is) (append-nil here) in
    record {
      parts_are = put ∙ ap (λ (ps : List Part). ps ++ flat_map behind_hash here) h.parts_are ∙ sym (ap (flat_map behind_hash) all ∙ flat_map-append behind_hash before here);
      count_is = counted ∙ ap (λ (k : ℕ). k + length here) h.count_is ∙ sym (ap length all ∙ length-append before here);
    }

module _ (lines : List Pos) (f : KeptValue) (parts : List Part) (count : ℕ) where
  pub gone-pseudo : is_pseudo f.path ≡ true → parts ≡ [] → count ≡ 0 → AreAllGone lines f parts count
  gone-pseudo is parts_is count_is =
      let none : lines_in lines f ≡ [] = rw is refl in
      record { parts_are = parts_is ∙ sym (ap (flat_map behind_hash) none); count_is = count_is ∙ sym (ap length none) }

  pub gone-begin : parts ≡ [] → count ≡ 0 → AreGone lines f [] parts count
  gone-begin parts_is count_is = record { parts_are = parts_is; count_is = count_is }

  pub gone-all : is_pseudo f.path ≡ false → AreGone lines f (shaped_items (tokens_of f.number f.bytes) (firsts_of f.bytes)) parts count
      → AreAllGone lines f parts count
  gone-all real h =
      let items = shaped_items (tokens_of f.number f.bytes) (firsts_of f.bytes) in
      let all : lines_in lines f ≡ filter (λ (i : ItemText). is_line lines i.at) (items_of f) = rw real refl in
      let same : flat_map (in_line lines f) items ≡ lines_in lines f = sym (lines-picked lines f items) ∙ sym all in
      record { parts_are = h.parts_are ∙ ap (flat_map behind_hash) same; count_is = h.count_is ∙ ap length same }

-- ---- one file

pub none-trimmed : (lines : List Pos) (f : KeptValue) (count : ℕ) → count ≡ length (lines_in lines f) → count ≡ 0 → edit_made f None ≡ edit_in lines f
none-trimmed lines f count is zero_is = empty (lines_in lines f) (sym is ∙ zero_is)
  where
    empty : (is : List ItemText) → length is ≡ 0 → [] ≡ edit_for f is
    empty [] e = refl
    empty (i ∷ is) e = absurd (omega (arith, e))

pub some-trimmed : (lines : List Pos) (f : KeptValue) (parts : List Part) (count : ℕ) (bytes : List ℕ) → parts ≡ flat_map behind_hash (lines_in lines f)
    → count ≡ length (lines_in lines f) → (count ≡ 0 → ⊥) → bytes ≡ respelled parts [] f.number f.bytes
    → edit f.path bytes count ∷ [] ≡ edit_in lines f
some-trimmed lines f parts count bytes are is some made = by (lines_in lines f) are is
  where
    by : (is : List ItemText) → parts ≡ flat_map behind_hash is → count ≡ length is → edit f.path bytes count ∷ [] ≡ edit_for f is
    by [] are is = absurd (some is)
    by (i ∷ is) are counted =
        ap (λ (n : ℕ). edit f.path bytes n ∷ []) counted
        ∙ ap (λ (bs : List ℕ). edit f.path bs (length (i ∷ is)) ∷ []) (made ∙ ap (λ (ps : List Part). respelled ps [] f.number f.bytes) are)

-- ---- all edits

pub put-made : {X E : Type 0} (f : KeptValue) (m : TrimmedFile) (path bytes : List ℕ) (before now : List Edit) (r : Result X E) → path ≡ f.path → bytes ≡ m.bytes.items
    → OnOk r (now ≡ with_edit (edit path bytes m.count) before) → OnOk r (now ≡ with_each (edit_made f (Some m)) before)
put-made f m path bytes before now (Ok x) own made put =
    put ∙ ap (λ (p : List ℕ). with_edit (edit p bytes m.count) before) own ∙ ap (λ (bs : List ℕ). with_edit (edit f.path bs m.count) before) made
    ∙ sym (with_each-one (edit f.path m.bytes.items m.count) before)
put-made f m path bytes before now (Err e) own made put = tt

pub file-made : {X E : Type 0} (lines : List Pos) (f : KeptValue) (o : Option TrimmedFile) (m : TrimmedFile) (before now : List Edit) (r : Result X E) → o ≡ Some m
    → edit_made f o ≡ edit_in lines f → OnOk r (now ≡ with_each (edit_made f (Some m)) before) → OnOk r (now ≡ with_each (edit_in lines f) before)
file-made lines f o m before now (Ok x) is made put = put ∙ ap (λ (es : List Edit). with_each es before) (sym (ap (edit_made f) is) ∙ made)
file-made lines f o m before now (Err e) is made put = tt

pub file-none : (lines : List Pos) (f : KeptValue) (o : Option TrimmedFile) (before : List Edit) → o ≡ None → edit_made f o ≡ edit_in lines f
    → before ≡ with_each (edit_in lines f) before
file-none lines f o before is made = sym (with_each-none before) ∙ ap (λ (es : List Edit). with_each es before) (sym (ap (edit_made f) is) ∙ made)

-- ---- paths

pub kept-text : (table : Table) (n : ℕ) (f : KeptValue) → AreText table → kept_at table n ≡ Some f → IsUtf8 f.path
kept-text table n f texts h = IsUtf8-from_is_utf8 f.path (passes-at is_utf8 (paths_in table) n f.path texts (kept-path table n n f h))

module _ (lines : List Pos) where
  edits-more : (table : Table) (k : ℕ) → k < length table
      → edits_from lines k (drop k table) ≡ option_map_or (edit_in lines) (kept_at table k) [] ++ edits_from lines (k + 1) (drop (k + 1) table)
  unfolding edits_from
  edits-more table k within =
      let d : Entry = entry [] Absent in
      let there = slice_get-get_or table k d within in
      at_drop_more (edits_from lines k) table k d within ∙ rw there refl

  pub edits-next : (table : Table) (k : ℕ) (before now whole : List Edit) → k < length table
      → with_each (edits_from lines k (drop k table)) before ≡ whole
      → now ≡ with_each (option_map_or (edit_in lines) (kept_at table k) []) before
      → with_each (edits_from lines (k + 1) (drop (k + 1) table)) now ≡ whole
  edits-next table k before now whole within so_far here =
      let one = option_map_or (edit_in lines) (kept_at table k) [] in
      let rest = edits_from lines (k + 1) (drop (k + 1) table) in
      ap (with_each rest) here ∙ sym (with_each-append one rest before)
      ∙ ap (λ (es : List Edit). with_each es before) (sym (edits-more table k within)) ∙ so_far

  pub edits-all : (table : Table) (k : ℕ) (now whole : List Edit) → length table ≤ k
      → with_each (edits_from lines k (drop k table)) now ≡ whole → now ≡ whole
  unfolding edits_from with_each
  edits-all table k now whole past so_far =
      let none : edits_from lines k (drop k table) ≡ [] = at_drop_all (edits_from lines k) table k past in
      rw none at so_far

pub edits-first : (lines : List Pos) (table : Table) (edits : List Edit) → edits ≡ [] → with_each (edits_from lines 0 (drop 0 table)) edits ≡ edits_of lines table
unfolding edits_of
edits-first lines table edits none = rw none refl

-- ---- one item

module _ (lines : List Pos) (f : KeptValue) (i : Item) where
  pub parts-other : (old : List Part) → is_line lines i.at ≡ false → old ≡ old ++ flat_map behind_hash (in_line lines f i)
  parts-other old differs = rw differs (sym (append-nil old))

  pub count-other : (n : ℕ) → is_line lines i.at ≡ false → n ≡ n + length (in_line lines f i)
  count-other n differs = rw differs (omega arith)

  pub parts-one : (old new : List Part) (toks : List Token) → is_line lines i.at ≡ true → toks ≡ slice_range (tokens_of f.number f.bytes) i.from i.to
      → new ≡ old ++ map span_of (drop 1 toks) → new ≡ old ++ flat_map behind_hash (in_line lines f i)
  parts-one old new toks is own put =
      rw is (put ∙ ap (λ (ts : List Token). old ++ map span_of (drop 1 ts)) own
      ∙ ap (λ (ps : List Part). old ++ ps) (sym (append-nil (map span_of (drop 1 (slice_range (tokens_of f.number f.bytes) i.from i.to))))))

  pub count-one : (n : ℕ) → is_line lines i.at ≡ true → n + 1 ≡ n + length (in_line lines f i)
  count-one n is = rw is refl
