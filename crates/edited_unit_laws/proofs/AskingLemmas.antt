-- Conditions of GNU C over the edited files: the headers for which they ask.
use Rattle.std.proofs.Common.{◌≡◌, ℕ, zero, suc, ◌+◌, ◌||◌, Bool, true, false, cond, List, [], ◌∷◌, map, take, drop, codes, Option, Some, None, Ok, Err, refl, ap, sym, subst, ◌∙◌, inl, inr}
use Rattle.std.specs.List.{position_or_len}
use Rattle.std.proofs.lemmas.Bool.{cases_Bool}
use Rattle.std.proofs.lemmas.List.{drop-map, take-map, length-map}
use Rattle.cs_base.specs.declared.positions.Pos.{Pos}
use Rattle.cs_base.specs.Token.{Token}
use Rattle.cs_base.specs.Units.{UnitValue}
use Rattle.lexer.specs.FileText.{TextValue}
use Rattle.line_shape.specs.Signs.{is_word, is_open}
use Rattle.macro_body.specs.Macro.{Table as Macros}
use Rattle.macro_expand.specs.Renaming.{Renaming, renamed}
use Rattle.source_files.specs.Faults.{place_in}
use Rattle.source_files.specs.Files.{Source, SourceFile}
use Rattle.source_files.specs.HeaderNames.{is_greater, header_of_toks}
use Rattle.source_files.specs.Search.{Header, Searched, candidates_of, search}
use Rattle.source_files.proofs.TableLemmas.{grown_refl}
use Rattle.unit_steps.specs.Conditions.{asked_toks, judged, answer_for}
use Rattle.unit_steps.specs.IncludeNames.{header_or}
use Rattle.unit_steps.specs.Notes.{Answered}
use Rattle.unit_steps.specs.Questions.{Question, Unasked, Looks, Lacks, asks_next, asks_header, header_length, closes_at, closed_length, asked_length, lacking, looks_with, questions_from, found_as}
use Rattle.unit_steps.specs.State.{Context, State, did, Outcome, only, onward}
use Rattle.include_tree.specs.Asking.{there, is_there, look, looked, gnu_known, gnu_asked, gnu_holds}
use Rattle.include_tree.specs.GivenFiles.{unit_context}
use Rattle.include_tree.specs.Laws.{IfDone}
use Rattle.include_tree.specs.OpeningStep.{open_file}
use Rattle.include_tree.proofs.StepLemmas.{Behind}
use Rattle.include_tree.proofs.WalkLemmas.{is_there_leads, looked_leads, gnu_known_leads, gnu_asked_leads}
use Rattle.edited_unit_laws.specs.Lines.{Each, KeepsToken}
use Rattle.edited_unit_laws.specs.Keeping.{Change, KeepsNames, KeepsFiles, Fits}
use Rattle.edited_unit_laws.specs.Steps.{moved, GoesAlike, AreRenamed, IsSame, with_text, OpensAlike, Grows}
use Rattle.edited_unit_laws.proofs.ConditionLemmas.{answer-renamed, answer-fits, asked-alike, judged-grows, judged-alike}
use Rattle.edited_unit_laws.proofs.DirectiveLemmas.{kept-tokens}
use Rattle.edited_unit_laws.proofs.FollowLemmas.{onward-grows, alike-onward, alike-only, alike-did, alike-reach}
use Rattle.edited_unit_laws.proofs.IncludeLemmas.{header_or-alike}
use Rattle.edited_unit_laws.proofs.MacroLineLemmas.{sign-kept, open-kept, close-kept}
use Rattle.edited_unit_laws.proofs.OpenLemmas.{anew, search-edited, open-grows, open-alike, alike-table}

-- ---- where pieces begin

-- a piece, renamed
abbrev renamed_question : Renaming → Question → Question
renamed_question r (Unasked t) = Unasked (renamed r t)
renamed_question r (Looks word operand) = Looks (renamed r word) (map (renamed r) operand)
renamed_question r Lacks = Lacks

module _ (r : Renaming) where
  place-kept : (toks : List Token) → Each (KeepsToken r) toks → position_or_len is_greater (map (renamed r) toks) ≡ position_or_len is_greater toks
  place-kept [] h = refl
  place-kept (t ∷ toks) h = elim (cases_Bool (is_greater t)) [
    | inl is ↦ rw (sign-kept r (codes ">") t h.0, is) refl
    | inr other ↦ rw (sign-kept r (codes ">") t h.0, other) (ap (λ (n : ℕ). 1 + n) (place-kept toks h.1))
  ]

  header_length-kept : (toks : List Token) → Each (KeepsToken r) toks → header_length (map (renamed r) toks) ≡ header_length toks
  header_length-kept [] h = refl
  header_length-kept (t ∷ toks) h = rw (sign-kept r (codes "<") t h.0, place-kept toks h.1, length-map toks (renamed r)) refl

  closes-kept : (toks : List Token) (n : ℕ) → Each (KeepsToken r) toks → closes_at (map (renamed r) toks) n ≡ closes_at toks n
  closes-kept [] n h = refl
  closes-kept (t ∷ toks) zero h = close-kept r t h.0
  closes-kept (t ∷ toks) (suc n) h = closes-kept toks n h.1

  closed-kept : (toks : List Token) (o : Option ℕ) → Each (KeepsToken r) toks → closed_length (map (renamed r) toks) o ≡ closed_length toks o
  closed-kept toks None h = refl
  closed-kept toks (Some n) h = ap (λ (b : Bool). cond b (Some n) None) (closes-kept toks n h)

  asked_length-kept : (toks : List Token) → Each (KeepsToken r) toks → asked_length (map (renamed r) toks) ≡ asked_length toks
  asked_length-kept [] h = refl
  asked_length-kept (t ∷ toks) h =
      ap (λ (b : Bool). cond b (closed_length (map (renamed r) toks) (header_length (map (renamed r) toks))) None) (open-kept r t h.0)
      ∙ ap (λ (o : Option ℕ). cond (is_open t) o None)
      (closed-kept toks (header_length (map (renamed r) toks)) h.1 ∙ ap (closed_length toks) (header_length-kept toks h.1))

  asks-kept : (t : Token) → KeepsToken r t → asks_header (renamed r t) ≡ asks_header t
  asks-kept t h = ap (λ (b : Bool). b || asks_next (renamed r t)) h.header ∙ ap (λ (b : Bool). is_word (codes "__has_include") t || b) h.next

  lacking-renamed : (early : Bool) (word : Token) → lacking early (renamed r word) ≡ renamed_question r (lacking early word)
  lacking-renamed true word = refl
  lacking-renamed false word = refl

  looks-renamed : (early : Bool) (word : Token) (toks : List Token) (rest rest2 : ℕ → List Question) (o : Option ℕ) → ((n : ℕ) → rest2 n ≡ map (renamed_question r) (rest n))
      → looks_with early (renamed r word) (map (renamed r) toks) rest2 o ≡ map (renamed_question r) (looks_with early word toks rest o)
  looks-renamed early word toks rest rest2 None k =
      ap (λ (qs : List Question). lacking early (renamed r word) ∷ qs) (k 0) ∙ ap (λ (q : Question). q ∷ map (renamed_question r) (rest 0)) (lacking-renamed early word)
  looks-renamed early word toks rest rest2 (Some n) k =
      ap (λ (ts : List Token). Looks (renamed r word) ts ∷ rest2 (n + 2)) (ap (take n) (drop-map (renamed r) 1 toks) ∙ take-map (renamed r) n (drop 1 toks))
      ∙ ap (λ (qs : List Question). Looks (renamed r word) (map (renamed r) (take n (drop 1 toks))) ∷ qs) (k (n + 2))

  questions-renamed : (early : Bool) (skip : ℕ) (toks : List Token) → Each (KeepsToken r) toks
      → questions_from early skip (map (renamed r) toks) ≡ map (renamed_question r) (questions_from early skip toks)
  unfolding questions_from
  questions-renamed early zero [] h = refl
  questions-renamed early (suc skip) [] h = refl
  questions-renamed early (suc skip) (t ∷ toks) h = questions-renamed early skip toks h.1
  questions-renamed early zero (t ∷ toks) h = elim (cases_Bool (asks_header t)) [
    | inl asks ↦
        rw (asks-kept t h.0, asks)
        (ap (looks_with early (renamed r t) (map (renamed r) toks) (λ skip. questions_from early skip (map (renamed r) toks))) (asked_length-kept toks h.1)
        ∙ looks-renamed early t toks (λ skip. questions_from early skip toks) (λ skip. questions_from early skip (map (renamed r) toks)) (asked_length toks)
        (λ n. questions-renamed early n toks h.1))
    | inr other ↦ rw (asks-kept t h.0, other) (ap (λ (qs : List Question). Unasked (renamed r t) ∷ qs) (questions-renamed early 0 toks h.1))
  ]

-- a piece fits
abbrev QuestionFits : Change → Question → Type 0
QuestionFits c (Unasked t) = Fits c t
QuestionFits c (Looks word operand) = Fits c word
QuestionFits c Lacks = Unit {0}

module _ (c : Change) where
  lacking-fits : (early : Bool) (word : Token) → Fits c word → QuestionFits c (lacking early word)
  lacking-fits true word h = h
  lacking-fits false word h = tt

  looks-fit : (early : Bool) (word : Token) (toks : List Token) (rest : ℕ → List Question) (o : Option ℕ) → Fits c word → ((n : ℕ) → Each (QuestionFits c) (rest n))
      → Each (QuestionFits c) (looks_with early word toks rest o)
  looks-fit early word toks rest None h k = (lacking-fits early word h, k 0)
  looks-fit early word toks rest (Some n) h k = (h, k (n + 2))

  questions-fit : (early : Bool) (skip : ℕ) (toks : List Token) → Each (Fits c) toks → Each (QuestionFits c) (questions_from early skip toks)
  unfolding questions_from
  questions-fit early zero [] h = tt
  questions-fit early (suc skip) [] h = tt
  questions-fit early (suc skip) (t ∷ toks) h = questions-fit early skip toks h.1
  questions-fit early zero (t ∷ toks) h = elim (cases_Bool (asks_header t)) [
    | inl asks ↦ rw asks (looks-fit early t toks (λ skip. questions_from early skip toks) (asked_length toks) h.0 (λ n. questions-fit early n toks h.1))
    | inr other ↦ rw other (h.0, questions-fit early 0 toks h.1)
  ]

-- ---- tables grow

grows-of : {A : Type 0} (ctx : Context) (s : State) (m : Outcome A) → IfDone (Behind {A = A} ctx s) m → Grows s m
grows-of ctx s (Ok d) h = h.table.grown
grows-of ctx s (Err found) h = tt

-- ---- steps

-- a token, renamed, which fits
abbrev IsRenamed : Change → Token → Token → Type 0
IsRenamed c t new = (new ≡ renamed c.renaming t) × Fits c t

module _ (c : Change) (names : KeepsNames c) (source : Source) (files : KeepsFiles c source) (old : Source) (unit : UnitValue) (earlier : ℕ) where
  abbrev ctx : Context
  ctx = unit_context old unit earlier

  abbrev ctx2 : Context
  ctx2 = unit_context source unit earlier

  there-grows : (file : SourceFile) (at : Pos) (s : State) (found : Searched) (o : Option (List ℕ)) → Grows (record s { table = found.table }) (there ctx file at s found o)
  there-grows file at s found None = grown_refl found.table
  there-grows file at s found (Some path) =
      let t : State = record s { table = found.table } in
      onward-grows t (open_file ctx (place_in file at) path t) (λ f u. only true u) (open-grows old unit earlier (place_in file at) path t) (λ f u. grown_refl u.table)

  there-alike : (file : SourceFile) (text : TextValue) (at at2 : Pos) (macros : Macros) (s : State) (found : Searched) (o : Option (List ℕ))
      → GoesAlike c (IsSame {A = Bool}) macros s (there ctx file at s found o) (there ctx2 (with_text file text) at2 (moved c macros s) (anew c.editing found) o)
  there-alike file text at at2 macros s found None =
      let t : State = record s { table = found.table } in
      alike-table c source files (IsSame {A = Bool}) macros s found.table (only false t) (only false (moved c macros t)) (alike-only c (IsSame {A = Bool}) macros t false false refl)
  there-alike file text at at2 macros s found (Some path) =
      let t : State = record s { table = found.table } in
      alike-table c source files (IsSame {A = Bool}) macros s found.table (onward (open_file ctx (place_in file at) path t) (λ f u. only true u))
      (onward (open_file ctx2 (place_in (with_text file text) at2) path (moved c macros t)) (λ f u. only true u))
      (alike-onward c (OpensAlike c) (IsSame {A = Bool}) macros t (open_file ctx (place_in file at) path t) (open_file ctx2 (place_in (with_text file text) at2) path (moved c macros t))
      (λ f u. only true u) (λ f u. only true u) (λ f u. grown_refl u.table)
      (open-alike c source files old source unit earlier (place_in file at) (place_in (with_text file text) at2) path macros t)
      (λ f new u macros2 v. alike-only c (IsSame {A = Bool}) macros2 u true true refl))

  is_there-alike : (file : SourceFile) (text : TextValue) (at at2 : Pos) (next : Bool) (h : Header) (macros : Macros) (s : State)
      → GoesAlike c (IsSame {A = Bool}) macros s (is_there ctx file at next h s) (is_there ctx2 (with_text file text) at2 next h (moved c macros s))
  is_there-alike file text at at2 next h macros s =
      let paths = candidates_of next h s.behind file.path unit in
      let found : Searched = search old paths s.table in
      alike-reach c (IsSame {A = Bool}) macros s found.table (there ctx file at s found found.path) (is_there ctx2 (with_text file text) at2 next h (moved c macros s))
      (there-grows file at s found found.path)
      (λ reach.
      subst (λ (d : Searched). GoesAlike c (IsSame {A = Bool}) macros s (there ctx file at s found found.path) (there ctx2 (with_text file text) at2 (moved c macros s) d d.path))
      (sym (search-edited old source c.editing paths s.table c.files reach files.found))
      (there-alike file text at at2 macros s found found.path))

  found-alike : (word : Token) (b : Bool) (macros : Macros) (s : State) → GoesAlike c (IsRenamed c) macros s (found_as word b s) (found_as (renamed c.renaming word) b (moved c macros s))
  found-alike word b macros s =
      let a : Token = answer_for word b in
      subst (λ (n : Token). GoesAlike c (IsRenamed c) macros s (found_as word b s) (Ok (did n (Answered n ∷ []) (moved c macros s)))) (sym (answer-renamed c names word b))
      (alike-did c (IsRenamed c) macros macros s s a (renamed c.renaming a) (Answered a ∷ []) (refl, answer-fits c names word b) (λ kept told. kept))

  -- a word whose header is known
  known-alike : (file : SourceFile) (text : TextValue) (at at2 : Pos) (word : Token) (h : Header) (macros : Macros) (s : State) → Fits c word
      → GoesAlike c (IsRenamed c) macros s (onward (is_there ctx file at (asks_next word) h s) (found_as word))
      (onward (is_there ctx2 (with_text file text) at2 (asks_next (renamed c.renaming word)) h (moved c macros s)) (found_as (renamed c.renaming word)))
  known-alike file text at at2 word h macros s fits =
      subst (λ (b : Bool). GoesAlike c (IsRenamed c) macros s (onward (is_there ctx file at (asks_next word) h s) (found_as word))
      (onward (is_there ctx2 (with_text file text) at2 b h (moved c macros s)) (found_as (renamed c.renaming word)))) (sym fits.1.next)
      (alike-onward c (IsSame {A = Bool}) (IsRenamed c) macros s (is_there ctx file at (asks_next word) h s) (is_there ctx2 (with_text file text) at2 (asks_next word) h (moved c macros s))
      (found_as word) (found_as (renamed c.renaming word)) (λ b t. grown_refl t.table) (is_there-alike file text at at2 (asks_next word) h macros s)
      (λ b b2 t macros2 v.
      subst (λ (x : Bool). GoesAlike c (IsRenamed c) macros2 t (found_as word b t) (found_as (renamed c.renaming word) x (moved c macros2 t))) (sym v) (found-alike word b macros2 t)))

  look-alike : (file : SourceFile) (text : TextValue) (at at2 : Pos) (q : Question) (macros : Macros) (s : State) → QuestionFits c q
      → GoesAlike c (IsRenamed c) macros s (look ctx file at q s) (look ctx2 (with_text file text) at2 (renamed_question c.renaming q) (moved c macros s))
  look-alike file text at at2 (Unasked t) macros s fits = alike-only c (IsRenamed c) macros s t (renamed c.renaming t) (refl, fits)
  look-alike file text at at2 (Looks word operand) macros s fits =
      let next : Header → State → Outcome Token = λ h t. onward (is_there ctx file at (asks_next word) h t) (found_as word) in
      let next2 : Header → State → Outcome Token = λ h t. onward (is_there ctx2 (with_text file text) at2 (asks_next (renamed c.renaming word)) h t) (found_as (renamed c.renaming word)) in
      alike-onward c (IsSame {A = Header}) (IsRenamed c) macros s (header_or file at operand s (header_of_toks operand))
      (header_or (with_text file text) at2 (map (renamed c.renaming) operand) (moved c macros s) (header_of_toks (map (renamed c.renaming) operand))) next next2
      (λ h t. onward-grows t (is_there ctx file at (asks_next word) h t) (found_as word) (grows-of ctx t (is_there ctx file at (asks_next word) h t) (is_there_leads ctx file at (asks_next word) h t)) (λ b u. grown_refl u.table))
      (header_or-alike c names file (with_text file text) at at2 operand macros s (header_of_toks operand) refl)
      (λ h h2 t macros2 v.
      subst (λ (x : Header). GoesAlike c (IsRenamed c) macros2 t (next h t) (next2 x (moved c macros2 t))) (sym v) (known-alike file text at at2 word h macros2 t fits))
  look-alike file text at at2 Lacks macros s fits = tt

  -- a token in front of those of the pieces behind it
  front-alike : (t : Token) (macros : Macros) (s : State) (m new : Outcome (List Token)) → Fits c t → GoesAlike c (AreRenamed c) macros s m new
      → GoesAlike c (AreRenamed c) macros s (onward m (λ toks v. only (t ∷ toks) v)) (onward new (λ toks v. only (renamed c.renaming t ∷ toks) v))
  front-alike t macros s m new fits h =
      alike-onward c (AreRenamed c) (AreRenamed c) macros s m new (λ toks v. only (t ∷ toks) v) (λ toks v. only (renamed c.renaming t ∷ toks) v) (λ toks v. grown_refl v.table) h
      (λ a b v macros2 r. alike-only c (AreRenamed c) macros2 v (t ∷ a) (renamed c.renaming t ∷ b) (ap (λ (ts : List Token). renamed c.renaming t ∷ ts) r.0, (fits, r.1)))

  looked-alike : (file : SourceFile) (text : TextValue) (at at2 : Pos) (qs : List Question) (macros : Macros) (s : State) → Each (QuestionFits c) qs
      → GoesAlike c (AreRenamed c) macros s (looked ctx file at qs s) (looked ctx2 (with_text file text) at2 (map (renamed_question c.renaming) qs) (moved c macros s))
  unfolding looked
  looked-alike file text at at2 [] macros s h = alike-only c (AreRenamed c) macros s [] [] (refl, tt)
  looked-alike file text at at2 (q ∷ qs) macros s h =
      let rest : Token → State → Outcome (List Token) = λ t u. onward (looked ctx file at qs u) (λ toks v. only (t ∷ toks) v) in
      let rest2 : Token → State → Outcome (List Token) = λ t u. onward (looked ctx2 (with_text file text) at2 (map (renamed_question c.renaming) qs) u) (λ toks v. only (t ∷ toks) v) in
      alike-onward c (IsRenamed c) (AreRenamed c) macros s (look ctx file at q s) (look ctx2 (with_text file text) at2 (renamed_question c.renaming q) (moved c macros s)) rest rest2
      (λ t u. onward-grows u (looked ctx file at qs u) (λ toks v. only (t ∷ toks) v) (grows-of ctx u (looked ctx file at qs u) (looked_leads ctx file at qs u)) (λ toks v. grown_refl v.table))
      (look-alike file text at at2 q macros s h.0)
      (λ t t2 u macros2 v.
      subst (λ (x : Token). GoesAlike c (AreRenamed c) macros2 u (rest t u) (rest2 x (moved c macros2 u))) (sym v.0)
      (front-alike t macros2 u (looked ctx file at qs u) (looked ctx2 (with_text file text) at2 (map (renamed_question c.renaming) qs) (moved c macros2 u)) v.1
      (looked-alike file text at at2 qs macros2 u h.1)))

  -- pieces of renamed tokens
  answered-alike : (early : Bool) (file : SourceFile) (text : TextValue) (at at2 : Pos) (toks : List Token) (macros : Macros) (s : State) → Each (Fits c) toks
      → GoesAlike c (AreRenamed c) macros s (looked ctx file at (questions_from early 0 toks) s)
      (looked ctx2 (with_text file text) at2 (questions_from early 0 (map (renamed c.renaming) toks)) (moved c macros s))
  answered-alike early file text at at2 toks macros s h =
      rw (questions-renamed c.renaming early 0 toks (kept-tokens c toks h)) (looked-alike file text at at2 (questions_from early 0 toks) macros s (questions-fit c early 0 toks h))

  gnu_known-alike : (file : SourceFile) (text : TextValue) (at at2 : Pos) (toks : List Token) (macros : Macros) (s : State) → Each (Fits c) toks
      → GoesAlike c (IsSame {A = Bool}) macros s (gnu_known ctx file at toks s) (gnu_known ctx2 (with_text file text) at2 (map (renamed c.renaming) toks) (moved c macros s))
  gnu_known-alike file text at at2 toks macros s h =
      alike-onward c (AreRenamed c) (IsSame {A = Bool}) macros s (looked ctx file at (questions_from false 0 toks) s)
      (looked ctx2 (with_text file text) at2 (questions_from false 0 (map (renamed c.renaming) toks)) (moved c macros s))
      (judged file at) (judged (with_text file text) at2) (judged-grows file at) (answered-alike false file text at at2 toks macros s h)
      (λ out new t macros2 v.
      subst (λ (ts : List Token). GoesAlike c (IsSame {A = Bool}) macros2 t (judged file at out t) (judged (with_text file text) at2 ts (moved c macros2 t))) (sym v.0)
      (judged-alike c names file (with_text file text) at at2 out macros2 t v.1))

  gnu_asked-alike : (file : SourceFile) (text : TextValue) (at at2 : Pos) (toks : List Token) (macros : Macros) (s : State) → Each (Fits c) toks
      → GoesAlike c (IsSame {A = Bool}) macros s (gnu_asked ctx file at toks s) (gnu_asked ctx2 (with_text file text) at2 (map (renamed c.renaming) toks) (moved c macros s))
  gnu_asked-alike file text at at2 toks macros s h =
      alike-onward c (AreRenamed c) (IsSame {A = Bool}) macros s (asked_toks file at toks s) (asked_toks (with_text file text) at2 (map (renamed c.renaming) toks) (moved c macros s))
      (gnu_known ctx file at) (gnu_known ctx2 (with_text file text) at2) (λ out t. grows-of ctx t (gnu_known ctx file at out t) (gnu_known_leads ctx file at out t))
      (asked-alike c names file text at at2 toks macros s h)
      (λ out new t macros2 v.
      subst (λ (ts : List Token). GoesAlike c (IsSame {A = Bool}) macros2 t (gnu_known ctx file at out t) (gnu_known ctx2 (with_text file text) at2 ts (moved c macros2 t))) (sym v.0)
      (gnu_known-alike file text at at2 out macros2 t v.1))

  pub gnu-alike : (file : SourceFile) (text : TextValue) (at at2 : Pos) (toks : List Token) (macros : Macros) (s : State) → Each (Fits c) toks
      → GoesAlike c (IsSame {A = Bool}) macros s (gnu_holds ctx file at toks s) (gnu_holds ctx2 (with_text file text) at2 (map (renamed c.renaming) toks) (moved c macros s))
  gnu-alike file text at at2 toks macros s h =
      alike-onward c (AreRenamed c) (IsSame {A = Bool}) macros s (looked ctx file at (questions_from true 0 toks) s)
      (looked ctx2 (with_text file text) at2 (questions_from true 0 (map (renamed c.renaming) toks)) (moved c macros s))
      (gnu_asked ctx file at) (gnu_asked ctx2 (with_text file text) at2) (λ out t. grows-of ctx t (gnu_asked ctx file at out t) (gnu_asked_leads ctx file at out t))
      (answered-alike true file text at at2 toks macros s h)
      (λ out new t macros2 v.
      subst (λ (ts : List Token). GoesAlike c (IsSame {A = Bool}) macros2 t (gnu_asked ctx file at out t) (gnu_asked ctx2 (with_text file text) at2 ts (moved c macros2 t))) (sym v.0)
      (gnu_asked-alike file text at at2 out macros2 t v.1))
