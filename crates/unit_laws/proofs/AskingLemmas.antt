-- Conditions of GNU C, which ask for headers: what is true of what they give.
use Rattle.std.proofs.Common.{◌≡◌, ℕ, zero, suc, ◌+◌, Bool, true, false, List, [], ◌∷◌, take, drop, Option, Some, None, refl, inl, inr}
use Rattle.std.proofs.lemmas.Bool.{cases_Bool}
use Rattle.cs_base.specs.declared.positions.Pos.{Pos}
use Rattle.cs_base.specs.Token.{Token}
use Rattle.cs_base.specs.Units.{UnitValue}
use Rattle.lexer.specs.FileText.{file_text}
use Rattle.source_files.specs.Faults.{place_in}
use Rattle.source_files.specs.Files.{Source, SourceFile, Table}
use Rattle.source_files.specs.HeaderNames.{header_of_toks}
use Rattle.source_files.specs.Limits.{the_limits}
use Rattle.source_files.specs.Search.{Header, Searched, candidates_of, search}
use Rattle.source_files.specs.Tables.{IsGrown}
use Rattle.source_files.proofs.TableLemmas.{grown_refl}
use Rattle.unit_steps.specs.Conditions.{asked_toks, judged}
use Rattle.unit_steps.specs.IncludeNames.{header_or}
use Rattle.unit_steps.specs.Notes.{Note}
use Rattle.unit_steps.specs.Questions.{Question, Unasked, Looks, Lacks, asks_header, asks_next, asked_length, lacking, looks_with, questions_from, found_as}
use Rattle.unit_steps.specs.State.{Context, context, State, only, onward}
use Rattle.include_tree.specs.OpeningStep.{open_file}
use Rattle.include_tree.specs.Asking.{there, is_there, look, looked, gnu_known, gnu_asked, gnu_holds}
use Rattle.include_tree.proofs.SearchLemmas.{search_wide}
use Rattle.expansion_laws.proofs.ListLemmas.{AllToks}
use Rattle.unit_laws.proofs.DoneLemmas.{AllIn, UnitRules, Done, done_more, done_onward, done_only}
use Rattle.unit_laws.proofs.ConditionLemmas.{asked_done, judged_done}
use Rattle.unit_laws.proofs.IncludeLemmas.{Any, FileIs, open_done, grown_done, or_done}

-- each token of a piece
abbrev QuestionHas : (Token → Type 0) → Question → Type 0
QuestionHas P (Unasked t) = P t
QuestionHas P (Looks word operand) = P word × AllToks P operand
QuestionHas P Lacks = Unit {0}

module _ (P : Token → Type 0) where
  take_has : (n : ℕ) (toks : List Token) → AllToks P toks → AllToks P (take n toks)
  take_has zero toks h = tt
  take_has (suc n) [] h = tt
  take_has (suc n) (t ∷ toks) h = (h.0, take_has n toks h.1)

  rest_has : (toks : List Token) → AllToks P toks → AllToks P (drop 1 toks)
  rest_has [] h = tt
  rest_has (t ∷ toks) h = h.1

  lacking_has : (early : Bool) (word : Token) → P word → QuestionHas P (lacking early word)
  lacking_has true word h = h
  lacking_has false word h = tt

  looks_have : (early : Bool) (word : Token) (toks : List Token) (rest : ℕ → List Question) (o : Option ℕ) → P word → AllToks P toks
      → ((n : ℕ) → AllIn (QuestionHas P) (rest n)) → AllIn (QuestionHas P) (looks_with early word toks rest o)
  looks_have early word toks rest None here h more = (lacking_has early word here, more 0)
  looks_have early word toks rest (Some n) here h more = ((here, take_has n (drop 1 toks) (rest_has toks h)), more (n + 2))

  questions_have : (early : Bool) (skip : ℕ) (toks : List Token) → AllToks P toks → AllIn (QuestionHas P) (questions_from early skip toks)
  unfolding questions_from
  questions_have early skip [] h = tt
  questions_have early (suc skip) (t ∷ toks) h = questions_have early skip toks h.1
  questions_have early zero (t ∷ toks) h = elim (cases_Bool (asks_header t)) [
    | inl asks ↦ rw asks (looks_have early t toks (λ skip. questions_from early skip toks) (asked_length toks) h.0 h.1 (λ n. questions_have early n toks h.1))
    | inr other ↦ rw other (h.0, questions_have early 0 toks h.1)
  ]

module _ (P : Token → Type 0) (M : Note → Type 0) (table : Table) (rules : UnitRules P M table) (source : Source) (unit : UnitValue) (earlier : ℕ) where
  -- what stays the same
  abbrev ctx : Context
  ctx = context source file_text unit the_limits earlier

  abbrev AnyBool : Bool → Type 0
  AnyBool b = Unit {0}

  there_done : (file : SourceFile) (at : Pos) (s : State) (found : Searched) (o : Option (List ℕ)) → IsGrown s.table found.table
      → Done P M table (Unit {0}) AnyBool s (there ctx file at s found o)
  there_done file at s found None grown =
      let t : State = record s { table = found.table } in
      grown_done P M table rules source unit earlier (Unit {0}) AnyBool s found.table (only false t) grown (done_only P M table (Unit {0}) AnyBool t false (λ p. tt))
  there_done file at s found (Some path) grown =
      let t : State = record s { table = found.table } in
      grown_done P M table rules source unit earlier (Unit {0}) AnyBool s found.table (onward (open_file ctx (place_in file at) path t) (λ f u. only true u)) grown
      (done_onward P M table (Unit {0}) (FileIs table) AnyBool t (open_file ctx (place_in file at) path t) (λ f u. only true u)
      (open_done P M table rules source unit earlier (place_in file at) path t) (λ f u. done_only P M table (Unit {0} × FileIs table f) AnyBool u true (λ p. tt)))

  is_there_done : (file : SourceFile) (at : Pos) (next : Bool) (h : Header) (s : State) → Done P M table (Unit {0}) AnyBool s (is_there ctx file at next h s)
  is_there_done file at next h s =
      let paths = candidates_of next h s.behind file.path unit in
      let found : Searched = search source paths s.table in
      there_done file at s found found.path (search_wide source paths s.table).grown

  -- the number for the word stands where the word stands
  found_done : (word : Token) (b : Bool) (s : State) → Done P M table (P word) P s (found_as word b s)
  found_done word b s = (grown_refl s.table, λ p reach has told. let here = rules.answers word b p told.0 in (here, has, ((here, (word, b, refl)), tt)))

  look_done : (file : SourceFile) (at : Pos) (q : Question) (s : State) → Done P M table (QuestionHas P q) P s (look ctx file at q s)
  look_done file at (Unasked t) s = done_only P M table (P t) P s t (λ p. p)
  look_done file at (Looks word operand) s =
      let pre : Type 0 = P word × AllToks P operand in
      done_onward P M table pre (Any {A = Header}) P s (header_or file at operand s (header_of_toks operand)) (λ h t. onward (is_there ctx file at (asks_next word) h t) (found_as word))
      (or_done P M table rules source unit earlier pre file at operand s (header_of_toks operand) (λ p. p.1))
      (λ h t. done_onward P M table (pre × Any h) AnyBool P t (is_there ctx file at (asks_next word) h t) (found_as word)
      (done_more P M table (Unit {0}) (pre × Any h) AnyBool AnyBool t (is_there ctx file at (asks_next word) h t) (λ p. tt) (λ a p k. tt) (is_there_done file at (asks_next word) h t))
      (λ b u. done_more P M table (P word) ((pre × Any h) × AnyBool b) P P u (found_as word b u) (λ p. p.0.0.0) (λ a p k. k) (found_done word b u)))
  look_done file at Lacks s = tt

  looked_done : (pre : Type 0) (file : SourceFile) (at : Pos) (qs : List Question) (s : State) → (pre → AllIn (QuestionHas P) qs) → Done P M table pre (AllToks P) s (looked ctx file at qs s)
  unfolding looked
  looked_done pre file at [] s h = done_only P M table pre (AllToks P) s [] (λ p. tt)
  looked_done pre file at (q ∷ qs) s h =
      done_onward P M table pre P (AllToks P) s (look ctx file at q s) (λ t u. onward (looked ctx file at qs u) (λ toks v. only (t ∷ toks) v))
      (done_more P M table (QuestionHas P q) pre P P s (look ctx file at q s) (λ p. (h p).0) (λ a p k. k) (look_done file at q s))
      (λ t u. done_onward P M table (pre × P t) (AllToks P) (AllToks P) u (looked ctx file at qs u) (λ toks v. only (t ∷ toks) v)
      (looked_done (pre × P t) file at qs u (λ p. (h p.0).1))
      (λ toks v. done_only P M table ((pre × P t) × AllToks P toks) (AllToks P) v (t ∷ toks) (λ p. (p.0.1, p.1))))

  known_done : (file : SourceFile) (at : Pos) (toks : List Token) (s : State) → Done P M table (AllToks P toks) AnyBool s (gnu_known ctx file at toks s)
  known_done file at toks s =
      done_onward P M table (AllToks P toks) (AllToks P) AnyBool s (looked ctx file at (questions_from false 0 toks) s) (judged file at)
      (looked_done (AllToks P toks) file at (questions_from false 0 toks) s (λ p. questions_have P false 0 toks p))
      (λ out t. done_more P M table (AllToks P out) (AllToks P toks × AllToks P out) AnyBool AnyBool t (judged file at out t) (λ p. p.1) (λ a p k. tt) (judged_done P M table rules file at out t))

  gnu_asked_done : (file : SourceFile) (at : Pos) (toks : List Token) (s : State) → Done P M table (AllToks P toks) AnyBool s (gnu_asked ctx file at toks s)
  gnu_asked_done file at toks s =
      done_onward P M table (AllToks P toks) (AllToks P) AnyBool s (asked_toks file at toks s) (gnu_known ctx file at) (asked_done P M table rules file at toks s)
      (λ out t. done_more P M table (AllToks P out) (AllToks P toks × AllToks P out) AnyBool AnyBool t (gnu_known ctx file at out t) (λ p. p.1) (λ a p k. tt) (known_done file at out t))

  pub gnu_done : (file : SourceFile) (at : Pos) (toks : List Token) (s : State) → Done P M table (AllToks P toks) AnyBool s (gnu_holds ctx file at toks s)
  gnu_done file at toks s =
      done_onward P M table (AllToks P toks) (AllToks P) AnyBool s (looked ctx file at (questions_from true 0 toks) s) (gnu_asked ctx file at)
      (looked_done (AllToks P toks) file at (questions_from true 0 toks) s (λ p. questions_have P true 0 toks p))
      (λ out t. done_more P M table (AllToks P out) (AllToks P toks × AllToks P out) AnyBool AnyBool t (gnu_asked ctx file at out t) (λ p. p.1) (λ a p k. tt) (gnu_asked_done file at out t))
