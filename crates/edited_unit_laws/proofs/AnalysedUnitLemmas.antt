-- The units of an analysis: what preprocessing gave them, and what its tokens are.
use Rattle.std.proofs.Common.{◌≡◌, ℕ, zero, suc, ◌+◌, ◌-◌, ◌*◌, length, Bool, true, false, codes, List, [], ◌∷◌, Option, None, Some, Result, Ok, Err, inl, inr, refl, sym, ap, subst, ◌∙◌}
use Rattle.std.specs.Prelude.{slice_get, cond}
use Rattle.std.specs.List.{flat_map}
use Rattle.std.specs.Str.{bytes_eq}
use Rattle.std.proofs.lemmas.Option.{same_Some}
use Rattle.cs_base.specs.declared.ws_units.Standard.{Standard}
use Rattle.cs_base.specs.Answer.{result_then}
use Rattle.cs_base.specs.Token.{Token}
use Rattle.cs_base.specs.Units.{UnitValue, defines_of}
use Rattle.lexer.specs.FileText.{file_text}
use Rattle.std.specs.Fmt.{decimal}
use Rattle.cs_base.specs.declared.positions.Pos.{Pos}
use Rattle.cs_base.proofs.OptionLemmas.{ok_same}
use Rattle.cs_base.proofs.AnswerLemmas.{map_err_ok as unmapped}
use Rattle.lexer.specs.Characters.{is_word}
use Rattle.lexer.specs.Places.{pos}
use Rattle.macro_body.specs.Substitution.{line_number, digit_origins}
use Rattle.ws_file.specs.Workspace.{WorkspaceValue}
use Rattle.unit_steps.specs.declared.events.EventKind.{EventKind}
use Rattle.unit_steps.specs.declared.events.EventKind.TheVariants as kind
use Rattle.unit_steps.specs.Conditions.{answer_for, digit_place}
use Rattle.source_files.specs.Faults.{Fault, first_place}
use Rattle.source_files.specs.Files.{Source, SourceFile, Table, Carried, nothing_carried, Found, Lines, Made, entry, lines_path, defines_path, numbered, asked, opened}
use Rattle.source_files.specs.KeptFiles.{kept_at}
use Rattle.source_files.specs.Limits.{Limits, the_limits}
use Rattle.include_tree.specs.OpeningStep.{open_file}
use Rattle.unit_steps.specs.State.{Context, context, State, Outcome}
use Rattle.source_files.specs.Opening.{Reader}
use Rattle.include_tree.specs.Unit.{pseudo_path, first_state, outer_file, main_file, unit_outcome}
use Rattle.include_tree.specs.Walk.{file_items}
use Rattle.include_tree.proofs.DefinesLemmas.{with_defines_has}
use Rattle.include_tree.proofs.OutcomeLemmas.{onward_done}
use Rattle.include_tree.proofs.StayLemmas.{IsStable, Stays, open_file_stays}
use Rattle.include_tree.proofs.StayingWalk.{files_stay}
use Rattle.include_tree.specs.Laws.{IfDone}
use Rattle.source_files.specs.Tables.{IsGrown, paths_in}
use Rattle.unit_steps.specs.Notes.{Note}
use Rattle.unit_steps.specs.Texts.{UnitTextValue, unit_text}
use Rattle.include_tree.specs.Preprocessed.{Preprocessed, preprocessed, preprocessed_by}
use Rattle.source_files.proofs.TableLemmas.{grown_refl, grown_trans, widens_asked, widens_opened}
use Rattle.include_tree.proofs.StayingLemmas.{source-grown}
use Rattle.expansion_laws.specs.Pieces.{IsMadeOf}
use Rattle.expansion_laws.proofs.ListLemmas.{toks_at}
use Rattle.unit_laws.specs.UnitLinks.{IsIn}
use Rattle.unit_laws.specs.UnitNames.{HasNames, UnitIsMade}
use Rattle.unit_laws.specs.UnitSpelling.{UnitIsSpelled}
use Rattle.unit_laws.specs.UnitItems.{ReachedAreWhole}
use Rattle.unit_laws.specs.UnitTokens.{NumbersAreWhole, UnitIsWhole}
use Rattle.unit_laws.proofs.DoneLemmas.{UnitRules, IsAnswer, IsBrought}
use Rattle.unit_laws.proofs.NameLemmas.{unit_names_are_made}
use Rattle.unit_laws.proofs.NoteLemmas.{TextHas}
use Rattle.unit_laws.proofs.ReachedLemmas.{reached_tokens_are_whole}
use Rattle.unit_laws.proofs.SpellingLemmas.{unit_tokens_are_spelled}
use Rattle.unit_laws.proofs.TextLemmas.{IsText, text_is, unit_text_has}
use Rattle.analysis.specs.Analysis.{UnitAnalysis, UnitsValue, AnalysisValue, analysis_and, with_unit, unit_read, analysed_from, analysis_of, read_unit, bound_unit, unit_analysis}
use Rattle.analysis.specs.FileTokens.{file_tokens, numbers_brought, number_of_event, number_for, table_tokens}
use Rattle.analysis.specs.Texts.{UnitFault, unit_fault, unit_with}
use Rattle.analysis.proofs.NamingLemmas.{split_at, in_right}
use Rattle.edited_unit_laws.proofs.ListLemmas.{In, in_flat}
use Rattle.edited_unit_laws.proofs.TableTokenLemmas.{file_token}
use Rattle.edited_unit_laws.proofs.TracedLemmas.{source_of_kept, Traced, line_told, answer_told, line_in, answer_in, rules_traced}

-- ---- the table grows

-- one number more
pub grown_push : (t : Table) (path : List ℕ) (found : Found) → IsGrown t (numbered path found t)
grown_push [] path found = tt
grown_push (e ∷ t) path found = (refl, inl refl, grown_push t path found)

grown_stable : (source : Source) (t0 : Table) → IsStable source (IsGrown t0)
grown_stable source t0 = record {
  asks = λ path t real h. grown_trans t0 t (asked source path t) h (widens_asked source path t).grown;
  opens = λ path bytes t there h. grown_trans t0 t (opened path bytes t) h (widens_opened source path bytes t there).grown;
}

outer_grown : (t0 : Table) (ctx : Context) (path : List ℕ) (s : State) → IsGrown t0 s.table
    → IfDone (Stays {A = List Token} (IsGrown t0)) (outer_file ctx path s)
outer_grown t0 ctx path s h =
    onward_done (Stays {A = SourceFile} (IsGrown t0)) (Stays {A = List Token} (IsGrown t0)) (open_file ctx (first_place path) path s) (file_items ctx (ctx.limits.open_files - 1))
    (open_file_stays ctx (IsGrown t0) (grown_stable ctx.source t0) (first_place path) path s h)
    (λ f t g. files_stay ctx (IsGrown t0) (grown_stable ctx.source t0) (ctx.limits.open_files - 1) f t g)

main_grown : (t0 : Table) (ctx : Context) (path : List ℕ) (s : State) → IsGrown t0 s.table
    → IfDone (Stays {A = List Token} (IsGrown t0)) (main_file ctx path s)
main_grown t0 ctx path s h =
    outer_grown t0 ctx path (record s { table = asked ctx.source path s.table })
    (grown_trans t0 s.table (asked ctx.source path s.table) h (widens_asked ctx.source path s.table).grown)

unit_grown : (limits : Limits) (reader : Reader) (source : Source) (number : ℕ) (unit : UnitValue) (before : Carried)
    → IfDone (Stays {A = List Token} (IsGrown before.table)) (unit_outcome limits reader source number unit before)
unit_grown limits reader source number unit before =
    let J : Table → Type 0 = IsGrown before.table in
    let ctx : Context = context source reader unit limits before.toks in
    let s : State = first_state limits number unit before.table in
    let first =
    with_defines_has J number unit before.table (grown_refl before.table) (grown_push before.table (defines_path number) (Made (defines_of unit))) in
    let path : List ℕ = pseudo_path number unit before.table in
    onward_done (Stays {A = List Token} J) (Stays {A = List Token} J) (outer_file ctx path s) _ (outer_grown before.table ctx path s first)
    (λ toks t g. onward_done (Stays {A = List Token} J) (Stays {A = List Token} J) (main_file ctx unit.path t) _ (main_grown before.table ctx unit.path t g)
    (λ more u f. f))

grown_by : (before : Carried) (o : Outcome (List Token)) (p : Preprocessed) → IfDone (Stays {A = List Token} (IsGrown before.table)) o
    → preprocessed_by before.toks o ≡ Ok p → IsGrown before.table p.after.table
grown_by before (Ok d) p h e =
    let same = ok_same {D = Fault} _ p e in
    let P : Preprocessed → Type 0 = λ q. IsGrown before.table q.after.table in
    subst P same h
grown_by before (Err found) p h e = absurd (cc)

pub unit_grows : (source : Source) (number : ℕ) (unit : UnitValue) (before : Carried) (p : Preprocessed)
    → preprocessed source number unit before ≡ Ok p → IsGrown before.table p.after.table
unfolding preprocessed
unit_grows source number unit before p e =
    grown_by before (unit_outcome the_limits file_text source number unit before) p (unit_grown the_limits file_text source number unit before) e

-- ---- units in order

pub done_first : {X Y E : Type 0} (r : Result X E) (next : X → Result Y E) (y : Y) → result_then next r ≡ Ok y → (x : X) × (r ≡ Ok x) × (next x ≡ Ok y)
done_first (Ok x) next y e = (x, refl, e)
done_first (Err fault) next y e = absurd (cc)

-- What preprocessing gave a unit of an analysis.
pub record IsUnit (table : Table) (u : UnitAnalysis) : Type 0 where
  pub source : Source
  pub number : ℕ
  pub unit : UnitValue
  pub before : Carried
  pub text : Preprocessed
  pub is_text : preprocessed source number unit before ≡ Ok text
  pub own : text.text ≡ u.text
  pub grown : IsGrown text.after.table table

pub bound_text : (standard : Standard) (table : Table) (path : List ℕ) (text : UnitTextValue) (u : UnitAnalysis) → read_unit standard table path text ≡ Ok u → text ≡ u.text
bound_text standard table path text u e =
    let r = done_first {E = Fault} _ (bound_unit standard table path text) u e in
    let b = done_first {E = Fault} _ (λ bound. Ok (unit_analysis standard text r.0 bound)) u r.2 in
    ap (λ (v : UnitAnalysis). v.text) (ok_same {D = Fault} (unit_analysis standard text r.0 b.0) u b.2)

pub units_are : (source : Source) (number : ℕ) (units : List UnitValue) (before : Carried) (v : UnitsValue)
    → analysed_from source number units before ≡ Ok v → IsGrown before.table v.table × ((u : UnitAnalysis) → In u v.units → IsUnit v.table u)
unfolding analysed_from
units_are source number [] before v e =
    let same = ok_same {D = UnitFault} _ v e in
    let P : UnitsValue → Type 0 = λ w. IsGrown before.table w.table × ((u : UnitAnalysis) → In u w.units → IsUnit w.table u) in
    subst P same (grown_refl before.table, λ u i. absurd (let at = i.1 in cc))
units_are source number (unit ∷ units) before v e =
    let p = done_first (unit_with source number unit before) _ v e in
    let u = done_first (unit_read unit.standard number unit.path p.0) _ v p.2 in
    let later = done_first (analysed_from source (number + 1) units p.0.after) _ v u.2 in
    let is_text = unmapped (preprocessed source number unit before) (unit_fault number) p.0 p.1 in
    let is_read = unmapped (read_unit unit.standard p.0.after.table unit.path p.0.text) (unit_fault number) u.0 u.1 in
    let rest = units_are source (number + 1) units p.0.after later.0 later.1 in
    let grows = unit_grows source number unit before p.0 is_text in
    let own : IsUnit later.0.table u.0 = record {
      source = source;
      number = number;
      unit = unit;
      before = before;
      text = p.0;
      is_text = is_text;
      own = bound_text unit.standard p.0.after.table unit.path p.0.text u.0 is_read;
      grown = rest.0;
    } in
    let same = ok_same {D = UnitFault} (with_unit u.0 later.0) v later.2 in
    let P : UnitsValue → Type 0 = λ w. IsGrown before.table w.table × ((x : UnitAnalysis) → In x w.units → IsUnit w.table x) in
    subst P same (
      grown_trans before.table p.0.after.table later.0.table grows rest.0,
      λ x i. first_or later.0.table u.0 later.0.units x i.0 i.1 own rest.1,
    )
  where
    first_or : (table : Table) (first : UnitAnalysis) (others : List UnitAnalysis) (x : UnitAnalysis) (k : ℕ) → slice_get (first ∷ others) k ≡ Some x → IsUnit table first
        → ((y : UnitAnalysis) → In y others → IsUnit table y) → IsUnit table x
    first_or table first others x zero at here rest = subst (λ (y : UnitAnalysis). IsUnit table y) (same_Some first x at) here
    first_or table first others x (suc k) at here rest = rest x (k, at)

pub unit_is : (source : Source) (ws : WorkspaceValue) (a : AnalysisValue) → analysis_of source ws ≡ Ok a → (u : UnitAnalysis) → In u a.units → IsUnit a.table u
unit_is source ws a e =
    let all = done_first (analysed_from source 1 ws.units nothing_carried) _ a e in
    let same = ok_same {D = UnitFault} (analysis_and ws all.0.units all.0.table) a all.2 in
    let P : AnalysisValue → Type 0 = λ b. (u : UnitAnalysis) → In u b.units → IsUnit b.table u in
    subst P same (units_are source 1 ws.units nothing_carried all.0 all.1).1

-- the first number is that of the pseudo file of lines, which is not kept
first_none : (old new : Table) → IsGrown (entry lines_path Lines ∷ old) new → kept_at new 0 ≡ None
first_none old [] h = refl
first_none old (e ∷ new) h = elim h.1 [
  | inl same ↦ rw same refl
  | inr opened ↦ absurd (let no = opened.1 in cc)
]

-- .. and has its path
first_path : (old new : Table) → IsGrown (entry lines_path Lines ∷ old) new → slice_get (paths_in new) 0 ≡ Some lines_path
first_path old [] h = absurd h
first_path old (e ∷ new) h = ap (λ (p : List ℕ). Some p) h.0

pub lines_first : (source : Source) (ws : WorkspaceValue) (a : AnalysisValue) → analysis_of source ws ≡ Ok a → slice_get (paths_in a.table) 0 ≡ Some lines_path
lines_first source ws a e =
    let all = done_first (analysed_from source 1 ws.units nothing_carried) _ a e in
    let same = ok_same {D = UnitFault} (analysis_and ws all.0.units all.0.table) a all.2 in
    let P : AnalysisValue → Type 0 = λ b. slice_get (paths_in b.table) 0 ≡ Some lines_path in
    subst P same (first_path [] all.0.table (units_are source 1 ws.units nothing_carried all.0 all.1).0)

pub no_lines : (source : Source) (ws : WorkspaceValue) (a : AnalysisValue) → analysis_of source ws ≡ Ok a → kept_at a.table 0 ≡ None
no_lines source ws a e =
    let all = done_first (analysed_from source 1 ws.units nothing_carried) _ a e in
    let same = ok_same {D = UnitFault} (analysis_and ws all.0.units all.0.table) a all.2 in
    let P : AnalysisValue → Type 0 = λ b. kept_at b.table 0 ≡ None in
    subst P same (first_none [] all.0.table (units_are source 1 ws.units nothing_carried all.0 all.1).0)

-- ---- numbers

digits_zero : (at n k : ℕ) (p : Pos) → slice_get (digit_origins at n) k ≡ Some (Some p) → p.file ≡ 0
digits_zero at zero k p e = absurd (cc)
digits_zero at (suc n) zero p e =
    let same : pos 0 at ≡ p = same_Some (pos 0 at) p (same_Some (Some (pos 0 at)) (Some p) e) in
    sym (ap (λ (q : Pos). q.file) same)
digits_zero at (suc n) (suc k) p e = digits_zero (at + 1) n k p e

cond_line : (b : Bool) (x t : Token) → In t (cond b (x ∷ []) []) → x ≡ t
cond_line true x t (zero, e) = same_Some x t e
cond_line true x t (suc k, e) = absurd (cc)
cond_line false x t (k, e) = absurd (cc)

number_for_line : (k : EventKind) (def : Option Pos) (o : Option Token) (t : Token) → In t (number_for k def o) → (name : Token) × (line_number name ≡ t)
number_for_line kind.Replaced None (Some name) t i = (name, cond_line (bytes_eq name.text (codes "__LINE__")) (line_number name) t i)
number_for_line kind.Replaced None None t i = absurd (let e = i.1 in cc)
number_for_line kind.Replaced (Some d) o t i = absurd (let e = i.1 in cc)
number_for_line kind.Defined def o t i = absurd (let e = i.1 in cc)
number_for_line kind.Undefined def o t i = absurd (let e = i.1 in cc)
number_for_line kind.Tested def o t i = absurd (let e = i.1 in cc)
number_for_line kind.Left def o t i = absurd (let e = i.1 in cc)
number_for_line kind.Enter def o t i = absurd (let e = i.1 in cc)
number_for_line kind.Leave def o t i = absurd (let e = i.1 in cc)
number_for_line kind.Once def o t i = absurd (let e = i.1 in cc)
number_for_line kind.Passed def o t i = absurd (let e = i.1 in cc)

line_origin : (t : Token) → (name : Token) × (line_number name ≡ t) → (k : ℕ) (p : Pos) → slice_get t.origins k ≡ Some (Some p) → p.file ≡ 0
line_origin t line k p at =
    digits_zero (8 * line.0.line) (length (decimal line.0.line)) k p (ap (λ (x : Token). slice_get x.origins k) line.1 ∙ at)

answer_zero : (word : Token) (b : Bool) (k : ℕ) (p : Pos) → slice_get (answer_for word b).origins k ≡ Some (Some p) → p.file ≡ 0
answer_zero word b zero p e =
    let same : pos 0 (digit_place b) ≡ p = same_Some (pos 0 (digit_place b)) p (same_Some (Some (pos 0 (digit_place b))) (Some p) e) in
    sym (ap (λ (q : Pos). q.file) same)
answer_zero word b (suc k) p e = absurd (cc)

answer_origin : (t : Token) → IsAnswer t → (k : ℕ) (p : Pos) → slice_get t.origins k ≡ Some (Some p) → p.file ≡ 0
answer_origin t is k p at = answer_zero is.0 is.1 k p (ap (λ (x : Token). slice_get x.origins k) (sym is.2) ∙ at)

brought_origin : (t : Token) → IsBrought t → (k : ℕ) (p : Pos) → slice_get t.origins k ≡ Some (Some p) → p.file ≡ 0
brought_origin t (inl is) k p at = answer_origin t is k p at
brought_origin t (inr is) k p at = digits_zero (8 * is.1) (length (decimal is.1)) k p (ap (λ (x : Token). slice_get x.origins k) (sym is.2) ∙ at)

-- ---- what is true of the text of a unit

pub brought_in : (a : AnalysisValue) (u : UnitAnalysis) → In u a.units → (t : Token) → In t (numbers_brought u.text) → In t (file_tokens a)
unfolding file_tokens
brought_in a u i t j =
    in_right t (table_tokens 0 a.table) (flat_map (λ (v : UnitAnalysis). numbers_brought v.text) a.units)
    (in_flat (λ (v : UnitAnalysis). numbers_brought v.text) a.units u t i j)

module _ (a : AnalysisValue) (u : UnitAnalysis) (i : In u a.units) (h : IsUnit a.table u) where
  is_done : IsText h.source h.number h.unit h.before h.text
  is_done = text_is h.source h.number h.unit h.before h.text h.is_text

  abbrev notes : List Note
  notes = is_done.did.notes

  abbrev toks : List Token
  toks = is_done.did.value

  is_text : unit_text toks notes ≡ u.text
  is_text = is_done.text ∙ h.own

  has_names : HasNames (file_tokens a) h.text.after.table u.text
  has_names = record {
    kept = λ number file t is at parted.
        let s = source_of_kept a.table number file (source-grown h.text.after.table a.table number file h.grown is) in
        file_token a number s.kept t s.is_kept (at.0, ap (λ (ts : List Token). slice_get ts at.0) (sym s.toks) ∙ at.1) parted;
    lines = λ e name at brings. line_in a u.text notes toks h.text.after.table is_text h.grown (brought_in a u i) e name at brings;
    answers = λ t at. answer_in a u.text notes toks h.text.after.table is_text h.grown (brought_in a u i) t at;
  }

  pub unit_made : UnitIsMade (file_tokens a) u.text
  unit_made =
      let P : UnitTextValue → Type 0 = λ x. UnitIsMade (file_tokens a) x in
      let Q : UnitTextValue → Type 0 = λ x. HasNames (file_tokens a) h.text.after.table x in
      subst P h.own (unit_names_are_made (file_tokens a) h.source h.number h.unit h.before h.text h.is_text (subst Q (sym h.own) has_names))

  pub unit_spelled : UnitIsSpelled u.text
  unit_spelled =
      let P : UnitTextValue → Type 0 = UnitIsSpelled in
      subst P h.own (unit_tokens_are_spelled h.source h.number h.unit h.before h.text h.is_text)

  pub unit_traced : TextHas (Traced a) u.text
  unit_traced =
      let P : UnitTextValue → Type 0 = TextHas (Traced a) in
      let R : Table → Type 0 = λ table. UnitRules (Traced a) (IsIn notes) table in
      let rules = rules_traced a u.text notes toks h.text.after.table is_text h.grown (brought_in a u i) in
      subst P h.own (unit_text_has (Traced a) h.source h.number h.unit h.before h.text is_done (subst R (sym is_done.table) rules))

  -- where what it took is made of tokens, and so are the numbers that it brought, so are its tokens
  pub unit_whole_by : (files : List Token) → ReachedAreWhole is_word files h.text.after.table u.text → ((t : Token) → In t (numbers_brought u.text) → IsMadeOf files t)
      → UnitIsWhole is_word files u.text
  unit_whole_by files reached numbers =
      let P : UnitTextValue → Type 0 = λ x. UnitIsWhole is_word files x in
      let Q : UnitTextValue → Type 0 = λ x. ReachedAreWhole is_word files h.text.after.table x in
      let R : UnitTextValue → Type 0 = λ x. NumbersAreWhole is_word files x in
      let brought : NumbersAreWhole is_word files u.text = record {
        lines = λ e name at brings words. numbers (line_number name) (line_told u.text e name at brings);
        answers = λ t at words. numbers t (answer_told u.text t at);
      } in
      subst P h.own (reached_tokens_are_whole is_word files h.source h.number h.unit h.before h.text refl h.is_text (subst Q (sym h.own) reached) (subst R (sym h.own) brought))

  -- a number comes from the pseudo file of lines
  pub number_origin : (t : Token) → In t (numbers_brought u.text) → (k : ℕ) (p : Pos) → slice_get t.origins k ≡ Some (Some p) → p.file ≡ 0
  number_origin t j k p at =
      split_at _ t (flat_map number_of_event u.text.events) u.text.answers j.0 j.1
      (λ i. let e = flat_one number_of_event t u.text.events i in line_origin t (number_for_line e.0.kind e.0.def e.0.name t e.1) k p at)
      (λ i. brought_origin t (toks_at IsBrought u.text.answers (unit_traced).answered t i.0 i.1) k p at)
    where
      flat_one : {X Y : Type 0} (f : X → List Y) (y : Y) (xs : List X) → In y (flat_map f xs) → (x : X) × In y (f x)
      flat_one f y [] i = absurd (let e = i.1 in cc)
      flat_one f y (x ∷ xs) i = split_at _ y (f x) (flat_map f xs) i.0 i.1 (λ n. (x, n)) (λ n. flat_one f y xs n)
