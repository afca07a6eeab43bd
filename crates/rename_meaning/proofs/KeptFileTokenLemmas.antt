-- A renaming against which nothing stands keeps the file tokens of an analysis.
use Rattle.std.proofs.Common.{◌≡◌, ℕ, ◌==◌, Bool, true, false, cond, codes, List, [], ◌∷◌, map, Some, inl, inr, refl, sym, ap, subst, ◌∙◌}
use Rattle.std.specs.Prelude.{filter, slice_get}
use Rattle.std.specs.Option.{option_and_then}
use Rattle.std.specs.Str.{bytes_eq}
use Rattle.std.proofs.lemmas.Bool.{cases_Bool, both_ways}
use Rattle.cs_base.proofs.FileMapLemmas.{bytes_eq-equal, bytes_eq-same}
use Rattle.cs_base.specs.declared.positions.Part.{Part}
use Rattle.cs_base.specs.declared.positions.Pos.{Pos}
use Rattle.cs_base.specs.Token.{Token, has_origins}
use Rattle.lexer.specs.Tokens.{tokens_of}
use Rattle.lexer.specs.Characters.{double_quote}
use Rattle.line_shape.specs.Signs.{is_name}
use Rattle.unit_steps.specs.Below.macro_expand.Renaming.{Renaming, renamed}
use Rattle.unit_steps.specs.Below.macro_expand.Renaming as macros
use Rattle.source_files.specs.Files.{Found, Lines, Absent, Unopened, Opened, Made, entry, Table}
use Rattle.source_files.specs.KeptFiles.{KeptValue, kept, kept_in, kept_at}
use Rattle.unit_steps.specs.Texts.{UnitTextValue}
use Rattle.unit_laws.specs.ToldNames.{IsTold}
use Rattle.part_respell.specs.Respelled.{respelled}
use Rattle.edited_unit_laws.specs.Lines.{Each}
use Rattle.edited_unit_laws.proofs.EditedTokenLemmas.{edited_files_keep_tokens}
use Rattle.edited_unit_laws.specs.FileTokens.{EntryIsRenamed, NamesLineAsBefore}
use Rattle.edited_unit_laws.proofs.FileTokensLemmas.{file_tokens_are_renamed}
use Rattle.analysis.specs.Analysed.{Analysed}
use Rattle.analysis.specs.Analysis.{UnitAnalysis}
use Rattle.rename_meaning.specs.Allowed.{IsAllowed}
use Rattle.rename_meaning.specs.KeptFiles.{WordsAreFree}
use Rattle.rename_meaning.specs.KeptTokens.{Spells}
use Rattle.rename_meaning.specs.Occurring.{KeepsOccurring, occurring_in}
use Rattle.rename_meaning.specs.Renamings.{KeepsUnedited, name_for}
use Rattle.rename_meaning.proofs.KeptTokenLemmas.{each_of}
use Rattle.edited_unit_laws.proofs.ListLemmas.{In}
use Rattle.rename_meaning.proofs.OccurringLemmas.{occurring_are_kept}
use Rattle.rename_meaning.proofs.ProcessedLemmas.{words_are_free_where_named}
use Rattle.rename_meaning.proofs.RenamingLemmas.{spell-same, edited_files_are_renamed}
use Rattle.rename_meaning.proofs.UneditedLemmas.{renamings_keep_unedited}
use Rattle.edited_unit_laws.proofs.AnalysedUnitLemmas.{IsUnit, unit_is}
use Rattle.rename_meaning.proofs.KeptNameLemmas.{line_reserved, told_traced, told_names_are_kept}
use Rattle.rename_meaning.proofs.OccurLemmas.{units_occur}
use Rattle.rename_meaning.specs.KeptFileTokens.{FileTokensAreKept, FileTokensAreRenamedWhereNamed}
use Rattle.rename_meaning.specs.KeptUnits.{change}
use Rattle.rename_meaning.proofs.KeptFileLemmas.{no_text, made_stays}
use Rattle.rename_meaning.proofs.UnitTokenLemmas.{told_kept}

-- ---- lists and tests

-- an element that is taken, and those behind it
taken : {X Y : Type 0} (f : X → Y) (b : Bool) (x : X) (xs : List X) (ys : List Y) → ys ≡ map f xs → cond b (f x ∷ ys) ys ≡ map f (cond b (x ∷ xs) xs)
taken f true x xs ys e = ap (λ l. f x ∷ l) e
taken f false x xs ys e = e

with_origins : (r : Renaming) (ts : List Token) → filter (λ t. has_origins t.kind) (map (renamed r) ts) ≡ map (renamed r) (filter (λ t. has_origins t.kind) ts)
with_origins r [] = refl
with_origins r (t ∷ ts) =
    taken (renamed r) (has_origins t.kind) t (filter (λ (u : Token). has_origins u.kind) ts) (filter (λ (u : Token). has_origins u.kind) (map (renamed r) ts)) (with_origins r ts)

-- a test that is so exactly where the other is
same_test : (v w x : List ℕ) → (bytes_eq v x ≡ true → bytes_eq w x ≡ true) → (bytes_eq w x ≡ true → bytes_eq v x ≡ true) → bytes_eq v x ≡ bytes_eq w x
same_test v w x on back = by (bytes_eq v x) (bytes_eq w x) on back
  where
    by : (b c : Bool) → (b ≡ true → c ≡ true) → (c ≡ true → b ≡ true) → b ≡ c
    by true c on back = sym (on refl)
    by false true on back = back refl
    by false false on back = refl

-- ---- names of which a unit tells

begins_quoted : List ℕ → Bool
begins_quoted [] = false
begins_quoted (c ∷ cs) = c == double_quote

no_quote : (cs : List ℕ) → double_quote ∷ cs ≡ codes "__LINE__" → ⊥
unfolding begins_quoted
no_quote cs same = both_ways (begins_quoted (codes "__LINE__")) refl (sym (ap begins_quoted same))

module _ (a : Analysed) (members : List Part) (name : List ℕ) (h : IsAllowed a members name) where
  abbrev r : Renaming
  r = (change a.value members name).renaming

  spells : Spells members name r
  spells = λ t same. spell-same members name t.origins t.text same

  unedited : KeepsUnedited r
  unedited = let u = renamings_keep_unedited a members name no_text h in record { untraced = u.untraced; numbers = u.numbers; still = u.still }

  occurring : KeepsOccurring (occurring_in a.value) r
  occurring = occurring_are_kept a members name r h spells

  module _ (u : UnitAnalysis) (i : In u a.value.units) where
    -- a name of which the unit tells is `__LINE__` anew exactly where it was
    line_on : (t : Token) → IsTold u.text t → bytes_eq t.text (codes "__LINE__") ≡ true → bytes_eq (macros.spelled r t) (codes "__LINE__") ≡ true
    line_on t told is =
        let names = told_names_are_kept a members name h u i in
        let text : t.text ≡ codes "__LINE__" = bytes_eq-equal t.text (codes "__LINE__") is in
        let each = told_traced a members name h u i t told in
        let new : macros.spelled r t ≡ codes "__LINE__" =
        spells t each.each ∙ names.told t told ∙ ap (name_for members name u.text) text ∙ names.first (codes "__LINE__") refl in
        ap (λ (w : List ℕ). bytes_eq w (codes "__LINE__")) new ∙ bytes_eq-same (codes "__LINE__")

    line_back : (t : Token) → IsTold u.text t → bytes_eq (macros.spelled r t) (codes "__LINE__") ≡ true → bytes_eq t.text (codes "__LINE__") ≡ true
    line_back t told is =
        let new : macros.spelled r t ≡ codes "__LINE__" = bytes_eq-equal (macros.spelled r t) (codes "__LINE__") is in
        let kept = told_kept a members name r h spells unedited u i t told in
        let text : t.text ≡ codes "__LINE__" = elim (cases_Bool (is_name t)) [
          | inl named ↦ occurring.alone t (codes "__LINE__") line_reserved ((units_occur a members name h u i).told t told) named new
          | inr other ↦ elim (kept.stays other) [
            | inl same ↦ sym same ∙ new
            | inr q ↦ absurd (no_quote q.behind (sym q.is ∙ new))
          ]
        ] in
        ap (λ (w : List ℕ). bytes_eq w (codes "__LINE__")) text ∙ bytes_eq-same (codes "__LINE__")

    lines_named : Each (NamesLineAsBefore r) u.text.events
    lines_named =
        each_of (NamesLineAsBefore r) u.text.events (λ e among t named.
        let told : IsTold u.text t = record { event = e; among = among; named = named } in
        same_test (macros.spelled r t) t.text (codes "__LINE__") (line_back t told) (line_on t told))

  -- ---- files

  module _ (words : WordsAreFree a.value members) where
    file_anew : (n : ℕ) (f : KeptValue) → kept_at a.value.table n ≡ Some f
        → filter (λ t. has_origins t.kind) (tokens_of f.number (respelled members name f.number f.bytes)) ≡ map (renamed r) (filter (λ t. has_origins t.kind) (tokens_of f.number f.bytes))
    file_anew n f is =
        let anew = edited_files_are_renamed edited_files_keep_tokens a members name no_text h words n f is in
        ap (filter (λ (t : Token). has_origins t.kind)) anew.0 ∙ with_origins r (tokens_of f.number f.bytes)

    entry_anew : (n : ℕ) (path : List ℕ) (found : Found) → slice_get a.value.table n ≡ Some (entry path found) → EntryIsRenamed (change a.value members name) n (entry path found)
    entry_anew n path Lines at = refl
    entry_anew n path Absent at = refl
    entry_anew n path (Unopened bytes) at = refl
    entry_anew n path (Opened bytes) at = file_anew n (kept n path bytes) (ap (option_and_then (kept_in n)) at)
    entry_anew n path (Made bytes) at =
        ap (λ (bs : List ℕ). filter (λ (t : Token). has_origins t.kind) (tokens_of n bs)) (sym (made_stays a members name h n path bytes at))
        ∙ file_anew n (kept n path bytes) (ap (option_and_then (kept_in n)) at)

pub file_tokens_are_kept : FileTokensAreKept
file_tokens_are_kept = λ a members name h words. record {
  files = λ n e at. entry_anew a members name h words n e.path e.found at;
  lines = each_of (λ (u : UnitAnalysis). Each (NamesLineAsBefore (change a.value members name).renaming) u.text.events) a.value.units (lines_named a members name h);
  numbers = (unedited a members name h).numbers;
}

pub file_tokens_are_renamed_where_named : FileTokensAreRenamedWhereNamed
file_tokens_are_renamed_where_named = λ a members name path line column h named.
    file_tokens_are_renamed (change a.value members name) a.value
    (file_tokens_are_kept a members name h (words_are_free_where_named a members name path line column h named))
