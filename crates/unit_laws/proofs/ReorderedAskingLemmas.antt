-- Conditions of GNU C over the edited files: what they ask for is there as before.
use Rattle.std.proofs.Common.{◌≡◌, ℕ, Bool, true, false, List, [], ◌∷◌, Option, Some, None, refl, ap, sym, subst}
use Rattle.cs_base.specs.declared.positions.Pos.{Pos}
use Rattle.cs_base.specs.Token.{Token}
use Rattle.cs_base.specs.Units.{UnitValue}
use Rattle.lexer.specs.FileText.{TextValue}
use Rattle.source_files.specs.Faults.{place_in}
use Rattle.source_files.specs.Files.{SourceFile, Table}
use Rattle.source_files.specs.HeaderNames.{header_of_toks}
use Rattle.source_files.specs.Search.{Header, Searched, searched, candidates_of, search}
use Rattle.source_files.proofs.TableLemmas.{grown_refl}
use Rattle.unit_steps.specs.Conditions.{asked_toks, judged, answer_for}
use Rattle.unit_steps.specs.IncludeNames.{header_or}
use Rattle.unit_steps.specs.Notes.{Answered}
use Rattle.unit_steps.specs.Questions.{Question, Unasked, Looks, Lacks, asks_next, questions_from, found_as}
use Rattle.unit_steps.specs.State.{State, Outcome, only, onward}
use Rattle.include_tree.specs.OpeningStep.{open_file}
use Rattle.include_tree.specs.Asking.{there, is_there, look, looked, gnu_known, gnu_asked, gnu_holds}
use Rattle.include_tree.proofs.SearchLemmas.{search_wide}
use Rattle.unit_laws.specs.Edited.{edited_files, edited_state}
use Rattle.unit_laws.specs.Walking.{KeepsTexts, with_text}
use Rattle.unit_laws.proofs.EditedLemmas.{search_edited}
use Rattle.unit_laws.proofs.ReorderedStepLemmas.{World, Still, Same, still_only, then_still}
use Rattle.unit_laws.proofs.OpenLemmas.{FileGoes, ctx, ctx2, open_goes, from_table}
use Rattle.unit_laws.proofs.LineLemmas.{judged_goes, asked_goes, header_or_goes}

module _ (w : World) (keeps : KeepsTexts w.edit w.old) (unit : UnitValue) (earlier : ℕ) where
  there_goes : (file : SourceFile) (text : TextValue) (at : Pos) (s : State) (u : Table) (o : Option (List ℕ))
      → Still w Same (record s { table = u }) (there (ctx w keeps unit earlier) file at s (searched o u) o)
      (there (ctx2 w keeps unit earlier) (with_text file text) at (edited_state w.edit s) (searched o (edited_files w.edit u)) o)
  there_goes file text at s u None = still_only w Same (record s { table = u }) false false refl
  there_goes file text at s u (Some path) =
      let t : State = record s { table = u } in
      then_still w (FileGoes w) Same t (open_file (ctx w keeps unit earlier) (place_in file at) path t)
      (open_file (ctx2 w keeps unit earlier) (place_in (with_text file text) at) path (edited_state w.edit t)) (λ f v. only true v) (λ f v. only true v)
      (open_goes w keeps unit earlier (place_in file at) (place_in (with_text file text) at) path t) (λ a b v r. still_only w Same v true true refl)

  is_there_goes : (file : SourceFile) (text : TextValue) (at : Pos) (next : Bool) (h : Header) (s : State)
      → Still w Same s (is_there (ctx w keeps unit earlier) file at next h s) (is_there (ctx2 w keeps unit earlier) (with_text file text) at next h (edited_state w.edit s))
  is_there_goes file text at next h s =
      let paths : List (List ℕ) = candidates_of next h s.behind file.path unit in
      let d : Searched = search w.old paths s.table in
      subst (λ (x : Searched). Still w Same s (there (ctx w keeps unit earlier) file at s d d.path) (there (ctx2 w keeps unit earlier) (with_text file text) at (edited_state w.edit s) x x.path))
      (sym (search_edited w.edit w.old w.new w.news paths s.table))
      (from_table w keeps unit earlier Same s d.table (there (ctx w keeps unit earlier) file at s d d.path)
      (there (ctx2 w keeps unit earlier) (with_text file text) at (edited_state w.edit s) (searched d.path (edited_files w.edit d.table)) d.path)
      (search_wide w.old paths s.table) (there_goes file text at s d.table d.path))

  found_goes : (word : Token) (b : Bool) (s : State) → Still w Same s (found_as word b s) (found_as word b (edited_state w.edit s))
  found_goes word b s = λ fits. record {
    too = record { value = answer_for word b; notes = Answered (answer_for word b) ∷ []; is = refl; goes = refl };
    fits = fits;
    before = refl;
    grown = grown_refl s.table;
    quiet = λ n. ((tt, tt), (tt, tt));
  }

  -- a word whose header is known
  known_goes : (file : SourceFile) (text : TextValue) (at : Pos) (word : Token) (h : Header) (s : State)
      → Still w Same s (onward (is_there (ctx w keeps unit earlier) file at (asks_next word) h s) (found_as word))
      (onward (is_there (ctx2 w keeps unit earlier) (with_text file text) at (asks_next word) h (edited_state w.edit s)) (found_as word))
  known_goes file text at word h s =
      then_still w Same Same s (is_there (ctx w keeps unit earlier) file at (asks_next word) h s) (is_there (ctx2 w keeps unit earlier) (with_text file text) at (asks_next word) h (edited_state w.edit s))
      (found_as word) (found_as word) (is_there_goes file text at (asks_next word) h s)
      (λ b b2 t r. subst (λ (x : Bool). Still w Same t (found_as word b t) (found_as word x (edited_state w.edit t))) (sym r) (found_goes word b t))

  look_goes : (file : SourceFile) (text : TextValue) (at : Pos) (q : Question) (s : State)
      → Still w Same s (look (ctx w keeps unit earlier) file at q s) (look (ctx2 w keeps unit earlier) (with_text file text) at q (edited_state w.edit s))
  look_goes file text at (Unasked t) s = still_only w Same s t t refl
  look_goes file text at (Looks word operand) s =
      then_still w Same Same s (header_or file at operand s (header_of_toks operand)) (header_or (with_text file text) at operand (edited_state w.edit s) (header_of_toks operand))
      (λ h t. onward (is_there (ctx w keeps unit earlier) file at (asks_next word) h t) (found_as word)) (λ h t. onward (is_there (ctx2 w keeps unit earlier) (with_text file text) at (asks_next word) h t) (found_as word))
      (header_or_goes w file (with_text file text) at operand s (header_of_toks operand))
      (λ h h2 t r. subst (λ (x : Header). Still w Same t (onward (is_there (ctx w keeps unit earlier) file at (asks_next word) h t) (found_as word))
      (onward (is_there (ctx2 w keeps unit earlier) (with_text file text) at (asks_next word) x (edited_state w.edit t)) (found_as word))) (sym r) (known_goes file text at word h t))
  look_goes file text at Lacks s = tt

  -- a token in front of those of the pieces behind it
  front_goes : (t : Token) (s : State) (m new : Outcome (List Token)) → Still w Same s m new → Still w Same s (onward m (λ toks v. only (t ∷ toks) v)) (onward new (λ toks v. only (t ∷ toks) v))
  front_goes t s m new h =
      then_still w Same Same s m new (λ toks v. only (t ∷ toks) v) (λ toks v. only (t ∷ toks) v) h (λ a b v r. still_only w Same v (t ∷ a) (t ∷ b) (ap (λ (l : List Token). t ∷ l) r))

  looked_goes : (file : SourceFile) (text : TextValue) (at : Pos) (qs : List Question) (s : State)
      → Still w Same s (looked (ctx w keeps unit earlier) file at qs s) (looked (ctx2 w keeps unit earlier) (with_text file text) at qs (edited_state w.edit s))
  unfolding looked
  looked_goes file text at [] s = still_only w Same s [] [] refl
  looked_goes file text at (q ∷ qs) s =
      let rest : Token → State → Outcome (List Token) = λ t u. onward (looked (ctx w keeps unit earlier) file at qs u) (λ toks v. only (t ∷ toks) v) in
      let rest2 : Token → State → Outcome (List Token) = λ t u. onward (looked (ctx2 w keeps unit earlier) (with_text file text) at qs u) (λ toks v. only (t ∷ toks) v) in
      then_still w Same Same s (look (ctx w keeps unit earlier) file at q s) (look (ctx2 w keeps unit earlier) (with_text file text) at q (edited_state w.edit s)) rest rest2 (look_goes file text at q s)
      (λ t t2 u r. subst (λ (x : Token). Still w Same u (rest t u) (rest2 x (edited_state w.edit u))) (sym r)
      (front_goes t u (looked (ctx w keeps unit earlier) file at qs u) (looked (ctx2 w keeps unit earlier) (with_text file text) at qs (edited_state w.edit u)) (looked_goes file text at qs u)))

  gnu_known_goes : (file : SourceFile) (text : TextValue) (at : Pos) (toks : List Token) (s : State)
      → Still w Same s (gnu_known (ctx w keeps unit earlier) file at toks s) (gnu_known (ctx2 w keeps unit earlier) (with_text file text) at toks (edited_state w.edit s))
  gnu_known_goes file text at toks s =
      let qs : List Question = questions_from false 0 toks in
      then_still w Same Same s (looked (ctx w keeps unit earlier) file at qs s) (looked (ctx2 w keeps unit earlier) (with_text file text) at qs (edited_state w.edit s))
      (judged file at) (judged (with_text file text) at) (looked_goes file text at qs s)
      (λ a b t r. subst (λ (l : List Token). Still w Same t (judged file at a t) (judged (with_text file text) at l (edited_state w.edit t))) (sym r) (judged_goes w file text at a t))

  gnu_asked_goes : (file : SourceFile) (text : TextValue) (at : Pos) (toks : List Token) (s : State)
      → Still w Same s (gnu_asked (ctx w keeps unit earlier) file at toks s) (gnu_asked (ctx2 w keeps unit earlier) (with_text file text) at toks (edited_state w.edit s))
  gnu_asked_goes file text at toks s =
      then_still w Same Same s (asked_toks file at toks s) (asked_toks (with_text file text) at toks (edited_state w.edit s))
      (gnu_known (ctx w keeps unit earlier) file at) (gnu_known (ctx2 w keeps unit earlier) (with_text file text) at) (asked_goes w file text at toks s)
      (λ a b t r. subst (λ (l : List Token). Still w Same t (gnu_known (ctx w keeps unit earlier) file at a t) (gnu_known (ctx2 w keeps unit earlier) (with_text file text) at l (edited_state w.edit t))) (sym r)
      (gnu_known_goes file text at a t))

  pub gnu_goes : (file : SourceFile) (text : TextValue) (at : Pos) (toks : List Token) (s : State)
      → Still w Same s (gnu_holds (ctx w keeps unit earlier) file at toks s) (gnu_holds (ctx2 w keeps unit earlier) (with_text file text) at toks (edited_state w.edit s))
  gnu_goes file text at toks s =
      let qs : List Question = questions_from true 0 toks in
      then_still w Same Same s (looked (ctx w keeps unit earlier) file at qs s) (looked (ctx2 w keeps unit earlier) (with_text file text) at qs (edited_state w.edit s))
      (gnu_asked (ctx w keeps unit earlier) file at) (gnu_asked (ctx2 w keeps unit earlier) (with_text file text) at) (looked_goes file text at qs s)
      (λ a b t r. subst (λ (l : List Token). Still w Same t (gnu_asked (ctx w keeps unit earlier) file at a t) (gnu_asked (ctx2 w keeps unit earlier) (with_text file text) at l (edited_state w.edit t))) (sym r)
      (gnu_asked_goes file text at a t))
