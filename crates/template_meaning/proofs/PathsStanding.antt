-- Each path that holds a file has a text in the new order.
use Rattle.std.proofs.Common.{◌≡◌, ℕ, Bool, true, false, cond, List, [], ◌∷◌, length, map, Option, Some, None, refl, ap, sym, subst, ◌∙◌}
use Rattle.std.specs.Prelude.{slice_get}
use Rattle.std.specs.Option.{option_map, option_map_or, option_and_then}
use Rattle.std.proofs.lemmas.Option.{none-some, same_Some}
use Rattle.cs_base.specs.declared.positions.Part.{Part}
use Rattle.lexer.specs.Tokens.{tokens_of}
use Rattle.source_files.specs.Files.{Source, Found, Lines, Absent, Unopened, Opened, Made, Entry, Table, number_of}
use Rattle.source_files.specs.KeptFiles.{KeptValue, kept, kept_at, kept_in, kept_bytes}
use Rattle.analysis.specs.Analysis.{AnalysisValue}
use Rattle.arranged_text_laws.specs.Moving.{byte_lists}
use Rattle.list_cuts.specs.Cuts.{done, IsOrder}
use Rattle.list_cuts.specs.CutOf.{cut_of}
use Rattle.list_cuts.specs.Spans.{all_rearranged}
use Rattle.list_cuts.specs.declared.spans.Span.{Span}
use Rattle.edited_unit_laws.specs.Paths.{ListsMovePaths, PathsStay}
use Rattle.edited_unit_laws.specs.Workspaces.{PathStands}
use Rattle.template_rules.specs.FileLists.{all_found, lists_in, items_of}
use Rattle.template_meaning.specs.Editing.{edit_by}
use Rattle.reordered.specs.Reorder.{HoldsLists}
use Rattle.template_meaning.specs.Spans.{FileSpans, is_none, cut_at, FilesMove, FilesStandInOrder}
use Rattle.template_meaning.proofs.TablesEdited.{number_entry}

-- ---- a kept file and its path

kept_entry : (n : ℕ) (e : Entry) (found : Found) (f : KeptValue) → e.found ≡ found → kept_in n e ≡ Some f → (f.number ≡ n) × (f.path ≡ e.path)
kept_entry n e Lines f is h = absurd (none-some f (ap (λ (x : Found). option_map (kept n e.path) (kept_bytes x)) (sym is) ∙ h))
kept_entry n e Absent f is h = absurd (none-some f (ap (λ (x : Found). option_map (kept n e.path) (kept_bytes x)) (sym is) ∙ h))
kept_entry n e (Unopened bytes) f is h = absurd (none-some f (ap (λ (x : Found). option_map (kept n e.path) (kept_bytes x)) (sym is) ∙ h))
kept_entry n e (Opened bytes) f is h =
    let same = same_Some (kept n e.path bytes) f (ap (λ (x : Found). option_map (kept n e.path) (kept_bytes x)) (sym is) ∙ h) in
    (ap (λ (x : KeptValue). x.number) (sym same), ap (λ (x : KeptValue). x.path) (sym same))
kept_entry n e (Made bytes) f is h =
    let same = same_Some (kept n e.path bytes) f (ap (λ (x : Found). option_map (kept n e.path) (kept_bytes x)) (sym is) ∙ h) in
    (ap (λ (x : KeptValue). x.number) (sym same), ap (λ (x : KeptValue). x.path) (sym same))

-- the kept file with the number of a path has this path
kept_path : (t : Table) (path : List ℕ) (f : KeptValue) → kept_at t (number_of path t) ≡ Some f → (f.number ≡ number_of path t) × (path ≡ f.path)
kept_path t path f h = by (slice_get t (number_of path t)) refl h
  where
    by : (o : Option Entry) → slice_get t (number_of path t) ≡ o → option_and_then (kept_in (number_of path t)) o ≡ Some f → (f.number ≡ number_of path t) × (path ≡ f.path)
    by None at is = absurd (none-some f is)
    by (Some e) at is =
        let k = kept_entry (number_of path t) e e.found f refl is in
        (k.0, number_entry t path e at ∙ sym k.1)

-- ---- paths

some_lists : {X : Type 0} (xs : List X) → is_none xs ≡ false → xs ≡ [] → ⊥
some_lists [] h e = absurd cc
some_lists (x ∷ xs) h e = absurd cc

no_lists : {X : Type 0} (xs : List X) → is_none xs ≡ true → xs ≡ []
no_lists [] h = refl
no_lists (x ∷ xs) h = absurd cc

module _ (lists : ListsMovePaths) (stay : PathsStay) (source : Source) (a : AnalysisValue) (members : List Part) (order : List ℕ) (spans : FileSpans) (is : IsOrder (length order) order)
    (moves : FilesMove source members order a spans) (path bytes : List ℕ) (held : source path ≡ Some bytes) where
  abbrev number : ℕ
  number = number_of path a.table

  abbrev found : List (List ℕ)
  found = lists_in (all_found members a) number

  abbrev Stands : Type 0
  Stands = PathStands (edit_by members order a) (length order) order (cut_at members a spans) path bytes

  -- a path without lists
  none_stands : is_none found ≡ true → cut_at members a spans path bytes ≡ done → Stands
  unfolding all_rearranged
  none_stands none cut =
      stay (edit_by members order a) (length order) order (cut_at members a spans) path bytes
      (ap (λ (l : List (List ℕ)). all_rearranged order (map (items_of bytes (tokens_of number bytes)) l) bytes) (no_lists found none)) cut

  -- the file with lists
  some_stands : (f : KeptValue) → kept_at a.table number ≡ Some f → is_none found ≡ false → Stands
  some_stands f at some =
      let k = kept_path a.table path f at in
      let own : (lists_in (all_found members a) f.number ≡ [] → ⊥) = λ e. some_lists found some (ap (lists_in (all_found members a)) (sym k.0) ∙ e) in
      let holds : HoldsLists a members f = record { kept = ap (kept_at a.table) k.0 ∙ at; some = own } in
      let same : f.bytes ≡ bytes = same_Some f.bytes bytes (sym (moves.held f holds) ∙ ap source (sym k.1) ∙ held) in
      let m = moves.move f holds in
      let cut : cut_at members a spans path bytes ≡ cut_of (spans f) =
      ap (λ (o : Option KeptValue). option_map_or (λ g. cond (is_none (lists_in (all_found members a) g.number)) done (cut_of (spans g))) o done) at
      ∙ ap (λ (n : ℕ). cond (is_none (lists_in (all_found members a) n)) done (cut_of (spans f))) k.0
      ∙ ap (λ (b : Bool). cond b done (cut_of (spans f))) some in
      let edited : edit_by members order a path f.bytes ≡ all_rearranged order (byte_lists f.number f.bytes (spans f)) f.bytes =
      ap (λ (n : ℕ). all_rearranged order (map (items_of f.bytes (tokens_of n f.bytes)) (lists_in (all_found members a) n)) f.bytes) (sym k.0)
      ∙ ap (λ (l : List (List Span)). all_rearranged order l f.bytes) m.bytes in
      subst (λ (b : List ℕ). PathStands (edit_by members order a) (length order) order (cut_at members a spans) path b) same
      (lists (edit_by members order a) order (cut_at members a spans) f.number path f.bytes (spans f) is m.long m.moves edited cut)

  stands : Stands
  stands = by (is_none found) refl
    where
      none_at : is_none found ≡ true → (o : Option KeptValue) → kept_at a.table number ≡ o → cut_at members a spans path bytes ≡ done
      none_at none None at = ap (λ (o : Option KeptValue). option_map_or (λ g. cond (is_none (lists_in (all_found members a) g.number)) done (cut_of (spans g))) o done) at
      none_at none (Some f) at =
          ap (λ (o : Option KeptValue). option_map_or (λ g. cond (is_none (lists_in (all_found members a) g.number)) done (cut_of (spans g))) o done) at
          ∙ ap (λ (n : ℕ). cond (is_none (lists_in (all_found members a) n)) done (cut_of (spans f))) (kept_path a.table path f at).0
          ∙ ap (λ (b : Bool). cond b done (cut_of (spans f))) none

      by : (b : Bool) → is_none found ≡ b → Stands
      by true none = none_stands none (none_at none (kept_at a.table number) refl)
      by false some = let f = moves.files number (some_lists found some) in some_stands f.0 f.1 some

pub files_stand_in_order : ListsMovePaths → PathsStay → FilesStandInOrder
files_stand_in_order lists stay = λ source a members order spans is moves path bytes held. stands lists stay source a members order spans is moves path bytes held
