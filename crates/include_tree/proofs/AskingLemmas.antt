-- Conditions of GNU C, which ask for headers, one step at a time.
use Rattle.std.proofs.Common.{◌≡◌, ℕ, ◌&&◌, Bool, true, false, List, [], ◌∷◌, ◌++◌, map, length, Option, Some, None, Result, Ok, Err, refl, sym, ◌∙◌, ap, subst, append_assoc, arith}
use Rattle.std.specs.Prelude.{IfSome}
use Rattle.std.specs.List.{list_all}
use Rattle.std.proofs.lemmas.Bool.{and_parts, and_from}
use Rattle.std.proofs.lemmas.List.{append-nil}
use Rattle.cs_base.specs.Answer.{Gives}
use Rattle.cs_base.specs.declared.positions.Place.{Place}
use Rattle.cs_base.specs.declared.positions.Pos.{Pos}
use Rattle.cs_base.specs.Token.{Token}
use Rattle.cs_base.specs.Units.{UnitValue}
use Rattle.source_files.specs.Below.lexer.FileText.{file_text}
use Rattle.source_files.specs.declared.pre_fault.PreFault.{PreFault}
use Rattle.source_files.specs.Answers.{fault_of}
use Rattle.source_files.specs.Faults.{Fault, place_in}
use Rattle.source_files.specs.Files.{Source, SourceFile, Table}
use Rattle.source_files.specs.Limits.{the_limits}
use Rattle.source_files.specs.Opening.{Opening, opening}
use Rattle.source_files.specs.Search.{Header, Searched, searched, candidates_of, search}
use Rattle.unit_steps.specs.declared.progress.Progress.{Progress}
use Rattle.unit_steps.specs.Below.macro_body.Sound.{is_traced, is_low}
use Rattle.unit_steps.specs.Conditions.{judged}
use Rattle.unit_steps.specs.Moments.{state_in}
use Rattle.unit_steps.specs.Keeping.{noted_in, kept_after}
use Rattle.unit_steps.specs.declared.questions.Question.{Question as Kept}
use Rattle.unit_steps.specs.Questions.{Question, Unasked, asks_next, is_sound, found_as, question_of}
use Rattle.unit_steps.specs.State.{Context, State, did, Outcome, only, onward}
use Rattle.unit_steps.specs.Texts.{UnitTextValue}
use Rattle.unit_steps.proofs.GoingLemmas.{kept-onward, err_same}
use Rattle.unit_steps.proofs.KeepingLemmas.{noted_in-nil}
use Rattle.include_tree.specs.OpeningStep.{with_opened}
use Rattle.include_tree.specs.declared.asking.ConditionLine.{ConditionLine}
use Rattle.include_tree.specs.Asking.{there, is_there, look_for, look, looked, gnu_answered}
use Rattle.include_tree.specs.Sections.{Section, section, group_if}
use Rattle.include_tree.specs.Walking.{stepped_after, asked_line}
use Rattle.include_tree.specs.GivenFiles.{unit_context, opens_there, searched_there, found_there, IsThere}
use Rattle.include_tree.proofs.StayingLemmas.{some_all}
use Rattle.include_tree.proofs.WalkingLemmas.{fault_on, section-done, section-fault}

-- what holds of a value, if there is one
some_two : {A : Type 0} (o : Option A) (P R Q : A → Type 0) → IfSome o P → IfSome o R → ((a : A) → P a → R a → Q a) → IfSome o Q
some_two None P R Q h k f = tt
some_two (Some a) P R Q h k f = f a h k

-- ---- whether a file is there

-- what is told of a file, as a step
abbrev with_there : State → Result (Bool × Table) Fault → Outcome Bool
with_there s (Ok r) = Ok (did r.0 [] (record s { table = r.1 }))
with_there s (Err f) = Err f

there-open : (s : State) (t : Table) (o : Opening)
    → ◌≡◌ {A = Outcome Bool} (onward (with_opened (record s { table = t }) o) (λ f u. only true u)) (with_there s (opens_there o))
there-open s t (Ok r) = refl
there-open s t (Err f) = refl

there-step : (source : Source) (unit : UnitValue) (earlier : ℕ) (file : SourceFile) (at : Pos) (s : State) (found : Searched) (o : Option (List ℕ))
    → ◌≡◌ {A = Outcome Bool} (there (unit_context source unit earlier) file at s found o) (with_there s (searched_there (place_in file at) found o))
there-step source unit earlier file at s found None = refl
there-step source unit earlier file at s found (Some path) = there-open s found.table (opening the_limits file_text (place_in file at) path found.table)

some-fault : (o : Option Fault) (m : Result (Bool × Table) Fault) (s : State) → IfSome o (λ f. m ≡ Err f) → IfSome o (λ f. ◌≡◌ {A = Outcome Bool} (with_there s m) (Err f))
some-fault None m s h = tt
some-fault (Some f) m s h = ap (with_there s) h

tells-there : (r : Result Bool PreFault) (m : Result (Bool × Table) Fault) (v : Table) (s : State) → Gives (λ b. (b, v)) fault_of r m → IsThere r (with_there s m) v s
tells-there (Ok b) m v s h = ap (with_there s) h
tells-there (Err e) m v s h = some-fault (fault_of e) m s h

header-there : (r : Result Bool PreFault) (t v : Table) (source : Source) (unit : UnitValue) (earlier : ℕ) (file : SourceFile) (at : Pos) (next : Bool) (h : Header) (s : State) → s.table ≡ t
    → Gives (λ b. (b, v)) fault_of r (found_there (place_in file at) (search source (candidates_of next h s.behind file.path unit) t))
    → IsThere r (is_there (unit_context source unit earlier) file at next h s) v s
header-there r t v source unit earlier file at next h s is gives =
    let paths = candidates_of next h s.behind file.path unit in
    rw (there-step source unit earlier file at s (search source paths s.table) (search source paths s.table).path)
    (tells-there r _ v s (rw (← is) at gives))

-- by what the condition asks for
pub there-asked : (r : Result Bool PreFault) (t v : Table) (source : Source) (unit : UnitValue) (earlier : ℕ) (o : Option SourceFile) (at : Pos) (next : Bool) (h : Header) (behind : Option ℕ) (paths : List (List ℕ)) (place : Place)
    → IfSome o (λ file. paths ≡ candidates_of next h behind file.path unit) → IfSome o (λ file. place ≡ place_in file at)
    → Gives (λ b. (b, v)) fault_of r (found_there place (search source paths t))
    → IfSome o (λ file. (s : State) → s.table ≡ t → s.behind ≡ behind → IsThere r (is_there (unit_context source unit earlier) file at next h s) v s)
there-asked r t v source unit earlier None at next h behind paths place asks stands gives = tt
there-asked r t v source unit earlier (Some file) at next h behind paths place asks stands gives = λ s is begins.
    header-there r t v source unit earlier file at next h s is
    (subst (λ (b : Option ℕ). Gives (λ x. (x, v)) fault_of r (found_there (place_in file at) (search source (candidates_of next h b file.path unit) t))) (sym begins)
    (subst (λ (ps : List (List ℕ)). Gives (λ x. (x, v)) fault_of r (found_there (place_in file at) (search source ps t))) asks
    (subst (λ (p : Place). Gives (λ x. (x, v)) fault_of r (found_there p (search source paths t))) stands gives)))

-- what an opening tells
pub some-opens : (q : Option Fault) (o : Opening) → IfSome q (λ f. ◌≡◌ {A = Opening} o (Err f)) → IfSome q (λ f. opens_there o ≡ Err f)
some-opens None o h = tt
some-opens (Some f) o h = ap opens_there h

pub there-opening : (r : Result Bool PreFault) (v t u : Table) (source : Source) (paths : List (List ℕ)) (place : Place) (path : List ℕ) → search source paths t ≡ searched (Some path) u
    → Gives (λ b. (b, v)) fault_of r (opens_there (opening the_limits file_text place path u)) → Gives (λ b. (b, v)) fault_of r (found_there place (search source paths t))
there-opening r v t u source paths place path is gives = subst (λ (d : Searched). Gives (λ b. (b, v)) fault_of r (found_there place d)) (sym is) gives

pub there-missing : (t u : Table) (source : Source) (paths : List (List ℕ)) (place : Place) → search source paths t ≡ searched None u → found_there place (search source paths t) ≡ Ok (false, u)
there-missing t u source paths place is = ap (found_there place) is

pub none-there : (q : Option Fault) (m : Result (Bool × Table) Fault) → q ≡ None → IfSome q (λ f. m ≡ Err f)
none-there q m none = rw none tt

-- ---- one step behind another

-- the fault of a step is that of the steps behind it
pub kept-onward_fault : {A B : Type 0} (k : UnitTextValue) (m : Outcome A) (next : A → State → Outcome B) (f : Fault)
    → kept_after k m ≡ Err f → kept_after k (onward m next) ≡ Err f
kept-onward_fault k (Ok d) next f h = absurd (cc)
kept-onward_fault {A} k (Err g) next f h = ap (λ (x : Fault). Err x) (err_same {A = A × State × UnitTextValue} g f h)

-- A step behind one that is done, over the file of a number; what is known of it is told over the cache behind the first.
pub then-gives : {A B : Type 0} (q q1 : Option SourceFile) (toks toks1 : ℕ) (m : SourceFile → Outcome A) (next : ℕ → SourceFile → A → State → Outcome B) (k k1 k2 : UnitTextValue) (a : A) (t u : State)
    (r : Result B PreFault) → toks1 ≡ toks → q1 ≡ q → IfSome q (λ file. kept_after k (m file) ≡ Ok (a, t, k1))
    → IfSome q1 (λ file. Gives (λ b. (b, u, k2)) fault_of r (kept_after k1 (next toks1 file a t)))
    → IfSome q (λ file. Gives (λ b. (b, u, k2)) fault_of r (kept_after k (onward (m file) (next toks file))))
then-gives None q1 toks toks1 m next k k1 k2 a t u r count same h g = tt
then-gives {A} {B} (Some file) q1 toks toks1 m next k k1 k2 a t u r count same h g =
    let there : Gives (λ b. (b, u, k2)) fault_of r (kept_after k1 (next toks1 file a t)) =
    subst (λ (o : Option SourceFile). IfSome o (λ f. Gives (λ b. (b, u, k2)) fault_of r (kept_after k1 (next toks1 f a t)))) same g in
    let here : Gives (λ b. (b, u, k2)) fault_of r (kept_after k1 (next toks file a t)) = subst (λ (n : ℕ). Gives (λ b. (b, u, k2)) fault_of r (kept_after k1 (next n file a t))) count there in
    subst (λ (x : Result (B × State × UnitTextValue) Fault). Gives (λ b. (b, u, k2)) fault_of r x) (sym (kept-onward k k1 (m file) (next toks file) a t h)) here

pub then-stops : {A B : Type 0} (q : Option SourceFile) (m : SourceFile → Outcome A) (next : SourceFile → A → State → Outcome B) (k : UnitTextValue) (found : Option Fault)
    → IfSome q (λ file. IfSome found (λ f. kept_after k (m file) ≡ Err f)) → IfSome q (λ file. IfSome found (λ f. kept_after k (onward (m file) (next file)) ≡ Err f))
then-stops None m next k found h = tt
then-stops (Some file) m next k found h =
    fault_on found (kept_after k (m file)) (kept_after k (onward (m file) (next file))) h (λ f is. kept-onward_fault k (m file) (next file) f is)

-- what holds of the file of a number holds of the file under it
pub file-known : (q : Option SourceFile) (file : SourceFile) (P : SourceFile → Type 0) → q ≡ Some file → P file → IfSome q P
file-known q file P same h = subst (λ (o : Option SourceFile). IfSome o P) (sym same) h

-- ---- a word that asks

module _ (source : Source) (unit : UnitValue) (toks : ℕ) (at : Pos) (word : Token) (s : State) (k : UnitTextValue) (h : Header) (next : Bool) (is : next ≡ asks_next word) where
  -- what is asked of a file
  abbrev asks_there : SourceFile → Outcome Bool
  asks_there file = is_there (unit_context source unit toks) file at (asks_next word) h s

  abbrev looks_for : SourceFile → Outcome Token
  looks_for file = look_for (unit_context source unit toks) file at word h s

  there-kept : (file : SourceFile) (b : Bool) (u : State) → asks_there file ≡ Ok (did b [] u) → kept_after k (asks_there file) ≡ Ok (b, u, k)
  there-kept file b u is = ap (λ (m : Outcome Bool). kept_after k m) is ∙ ap (λ (x : UnitTextValue). Ok (b, u, x)) (noted_in-nil k)

  -- it is told so of each state with such a table
  abbrev TellsThere : Result Bool PreFault → Table → SourceFile → Type 0
  TellsThere r table file = (x : State) → x.table ≡ s.table → x.behind ≡ s.behind → IsThere r (is_there (unit_context source unit toks) file at next h x) table x

  told-there : (r : Result Bool PreFault) (table : Table) (file : SourceFile) → TellsThere r table file → IsThere r (asks_there file) table s
  told-there r table file h0 = subst (λ (b : Bool). IsThere r (is_there (unit_context source unit toks) file at b h s) table s) is (h0 s refl refl)

  pub look-found : (q : Option SourceFile) (b : Bool) (table : Table) (v : State) (k2 : UnitTextValue) (tok : Token) → IfSome q (TellsThere (Ok b) table)
      → kept_after k (found_as word b (record s { table = table })) ≡ Ok (tok, v, k2) → IfSome q (λ file. kept_after k (looks_for file) ≡ Ok (tok, v, k2))
  look-found None b table v k2 tok tells found = tt
  look-found (Some file) b table v k2 tok tells found =
      kept-onward k k (asks_there file) (found_as word) b (record s { table = table }) (there-kept file b (record s { table = table }) (told-there (Ok b) table file tells)) ∙ found

  pub look-stopped : (q : Option SourceFile) (e : PreFault) (table : Table) → IfSome q (TellsThere (Err e) table)
      → IfSome q (λ file. IfSome (fault_of e) (λ f. kept_after k (looks_for file) ≡ Err f))
  look-stopped None e table tells = tt
  look-stopped (Some file) e table tells =
      fault_on (fault_of e) (asks_there file) (kept_after k (looks_for file)) (told-there (Err e) table file tells)
      (λ f same. kept-onward_fault k (asks_there file) (found_as word) f (ap (λ (m : Outcome Bool). kept_after k m) same))

-- a token that stays
pub unasked-told : (ctx : Context) (at : Pos) (question : Question) (s : State) (k : UnitTextValue) (q : Option SourceFile) (t u : Token) → question ≡ Unasked t → u ≡ t
    → IfSome q (λ file. kept_after k (look ctx file at question s) ≡ Ok (u, s, k))
unasked-told ctx at question s k None t u is same = tt
unasked-told ctx at question s k (Some file) t u is same =
    rw is (ap (λ (x : UnitTextValue). Ok (t, s, x)) (noted_in-nil k) ∙ ap (λ (x : Token). Ok (x, s, k)) (sym same))

-- ---- pieces, one behind another

-- what is known behind tokens
abbrev pub behind : List Token → Result (List Token × State × UnitTextValue) Fault → Result (List Token × State × UnitTextValue) Fault
behind out (Ok r) = Ok (out ++ r.0, r.1, r.2)
behind out (Err f) = Err f

front-of : (k : UnitTextValue) (t : Token) (m : Outcome (List Token)) → kept_after k (onward m (λ toks v. only (t ∷ toks) v)) ≡ behind (t ∷ []) (kept_after k m)
front-of k t (Ok d) = ap (λ (notes : List _). Ok (t ∷ d.value, d.state, noted_in k notes)) (append-nil d.notes)
front-of k t (Err f) = refl

behind-more : (out new : List Token) (t : Token) (r : Result (List Token × State × UnitTextValue) Fault) → new ≡ out ++ t ∷ [] → behind out (behind (t ∷ []) r) ≡ behind new r
behind-more out new t (Ok r) is = ap (λ (ts : List Token). Ok (ts, r.1, r.2)) (sym (append_assoc out (t ∷ []) r.0) ∙ ap (λ (ts : List Token). ts ++ r.0) (sym is))
behind-more out new t (Err f) is = refl

module _ (ctx : Context) (file : SourceFile) (at : Pos) (question : Question) (rest : List Question) (s : State) (k : UnitTextValue) where
  pub looked-goes : (out new : List Token) (t : Token) (u : State) (k2 : UnitTextValue) → kept_after k (look ctx file at question s) ≡ Ok (t, u, k2) → new ≡ out ++ t ∷ []
      → behind out (kept_after k (looked ctx file at (question ∷ rest) s)) ≡ behind new (kept_after k2 (looked ctx file at rest u))
  unfolding looked
  looked-goes out new t u k2 h is =
      ap (behind out) (kept-onward k k2 (look ctx file at question s) (λ t u. onward (looked ctx file at rest u) (λ toks v. only (t ∷ toks) v)) t u h ∙ front-of k2 t (looked ctx file at rest u))
      ∙ behind-more out new t (kept_after k2 (looked ctx file at rest u)) is

  pub looked-stops : (out : List Token) (f : Fault) → kept_after k (look ctx file at question s) ≡ Err f → behind out (kept_after k (looked ctx file at (question ∷ rest) s)) ≡ Err f
  unfolding looked
  looked-stops out f h =
      ap (behind out) (kept-onward_fault k (look ctx file at question s) (λ t u. onward (looked ctx file at rest u) (λ toks v. only (t ∷ toks) v)) f h)

module _ (source : Source) (q : Option SourceFile) (unit : UnitValue) (toks : ℕ) (at : Pos) (qs : List Question) (start : State) (before : UnitTextValue) where
  -- what all pieces give, and those that are left behind tokens
  abbrev pub all_of : SourceFile → Result (List Token × State × UnitTextValue) Fault
  all_of file = kept_after before (looked (unit_context source unit toks) file at qs start)

  abbrev pub rest_of : SourceFile → List Token → List Question → State → UnitTextValue → Result (List Token × State × UnitTextValue) Fault
  rest_of file out rest s text = behind out (kept_after text (looked (unit_context source unit toks) file at rest s))

  behind-none : (r : Result (List Token × State × UnitTextValue) Fault) → r ≡ behind [] r
  behind-none (Ok r) = refl
  behind-none (Err f) = refl

  pub looked-starts : (out : List Token) → out ≡ [] → IfSome q (λ file. all_of file ≡ rest_of file out qs start before)
  looked-starts out none =
      some_all q (λ file. all_of file ≡ rest_of file out qs start before) (λ file. behind-none (all_of file) ∙ ap (λ (ts : List Token). rest_of file ts qs start before) (sym none))

  module _ (q1 : Option SourceFile) (toks1 : ℕ) (question : Question) (rest : List Question) (out : List Token) (s : State) (text : UnitTextValue) (same : q1 ≡ q) (counted : toks1 ≡ toks)
      (left : IfSome q (λ file. all_of file ≡ rest_of file out (question ∷ rest) s text)) where
    -- what the piece gives, where the file and the count are the same as before
    piece-here : (P : Result (Token × State × UnitTextValue) Fault → Type 0) → IfSome q1 (λ file. P (kept_after text (look (unit_context source unit toks1) file at question s)))
        → IfSome q (λ file. P (kept_after text (look (unit_context source unit toks) file at question s)))
    piece-here P h =
        subst (λ (c : ℕ). IfSome q (λ file. P (kept_after text (look (unit_context source unit c) file at question s)))) counted
        (subst (λ (x : Option SourceFile). IfSome x (λ file. P (kept_after text (look (unit_context source unit toks1) file at question s)))) same h)

    pub looked-more : (new : List Token) (t : Token) (u : State) (k2 : UnitTextValue) → IfSome q1 (λ file. kept_after text (look (unit_context source unit toks1) file at question s) ≡ Ok (t, u, k2))
        → new ≡ out ++ t ∷ [] → IfSome q (λ file. all_of file ≡ rest_of file new rest u k2)
    looked-more new t u k2 h is =
        some_two q (λ file. all_of file ≡ rest_of file out (question ∷ rest) s text) (λ file. kept_after text (look (unit_context source unit toks) file at question s) ≡ Ok (t, u, k2))
        (λ file. all_of file ≡ rest_of file new rest u k2) left (piece-here (λ x. x ≡ Ok (t, u, k2)) h)
        (λ file x y. x ∙ looked-goes (unit_context source unit toks) file at question rest s text out new t u k2 y is)

    pub looked-faulted : (found : Option Fault) → IfSome q1 (λ file. IfSome found (λ f. kept_after text (look (unit_context source unit toks1) file at question s) ≡ Err f))
        → IfSome q (λ file. IfSome found (λ f. all_of file ≡ Err f))
    looked-faulted found h =
        some_two q (λ file. all_of file ≡ rest_of file out (question ∷ rest) s text) (λ file. IfSome found (λ f. kept_after text (look (unit_context source unit toks) file at question s) ≡ Err f))
        (λ file. IfSome found (λ f. all_of file ≡ Err f)) left (piece-here (λ x. IfSome found (λ f. x ≡ Err f)) h)
        (λ file x y. fault_on found (kept_after text (look (unit_context source unit toks) file at question s)) (all_of file) y
        (λ f is. x ∙ looked-stops (unit_context source unit toks) file at question rest s text out f is))

  none-left : (xs : List Kept) → length xs ≡ 0 → map question_of xs ≡ []
  none-left [] h = refl
  none-left (x ∷ xs) h = absurd (omega arith)

  nothing-looked : (file : SourceFile) (out : List Token) (s : State) (text : UnitTextValue) → rest_of file out [] s text ≡ Ok (out, s, text)
  unfolding looked
  nothing-looked file out s text =
      ap (λ (ts : List Token). Ok (ts, s, noted_in text [])) (append-nil out) ∙ ap (λ (x : UnitTextValue). Ok (out, s, x)) (noted_in-nil text)

  pub looked-ends : (out : List Token) (rest : List Kept) (s : State) (text : UnitTextValue) → length rest ≡ 0 → IfSome q (λ file. all_of file ≡ rest_of file out (map question_of rest) s text)
      → IfSome q (λ file. all_of file ≡ Ok (out, s, text))
  looked-ends out rest s text none left =
      some_two q (λ file. all_of file ≡ rest_of file out (map question_of rest) s text) (λ file. Unit {0}) (λ file. all_of file ≡ Ok (out, s, text)) left (some_all q (λ file. Unit {0}) (λ file. tt))
      (λ file x y. x ∙ ap (λ (ps : List Question). rest_of file out ps s text) (none-left rest none) ∙ nothing-looked file out s text)

-- the value of a condition, and the section that it opens
pub asked-opens : (ctx : Context) (q : Option SourceFile) (l : ConditionLine) (sections new : List Section) (s t : State) (k k2 : UnitTextValue) (b : Bool)
    → new ≡ section l.opening (group_if b) false ∷ sections → IfSome q (λ file. kept_after k (gnu_answered ctx file l.at (map question_of l.questions.items) s) ≡ Ok (b, t, k2))
    → IfSome q (λ file. stepped_after k (asked_line ctx file l sections s) ≡ Ok (new, t, k2))
asked-opens ctx None l sections new s t k k2 b is h = tt
asked-opens ctx (Some file) l sections new s t k k2 b is h =
    section-done k k2 (gnu_answered ctx file l.at (map question_of l.questions.items) s) l.opening sections b t h ∙ ap (λ (xs : List Section). Ok (xs, t, k2)) (sym is)

pub asked-stops : (ctx : Context) (q : Option SourceFile) (l : ConditionLine) (sections : List Section) (s : State) (k : UnitTextValue) (found : Option Fault)
    → IfSome q (λ file. IfSome found (λ f. kept_after k (gnu_answered ctx file l.at (map question_of l.questions.items) s) ≡ Err f))
    → IfSome q (λ file. IfSome found (λ f. stepped_after k (asked_line ctx file l sections s) ≡ Err f))
asked-stops ctx None l sections s k found h = tt
asked-stops ctx (Some file) l sections s k found h =
    let m : Outcome Bool = gnu_answered ctx file l.at (map question_of l.questions.items) s in
    fault_on found (kept_after k m) (stepped_after k (asked_line ctx file l sections s)) h (λ f is. section-fault k m l.opening sections f is)

-- ---- tokens from which an expansion may begin

abbrev sound : Token → Bool
sound t = is_traced t && is_low t

push-sound : (out : List Token) (t : Token) → list_all sound out ≡ true → sound t ≡ true → list_all sound (out ++ t ∷ []) ≡ true
push-sound [] t h k = and_from (sound t) true k refl
push-sound (o ∷ out) t h k =
    let parts = and_parts (sound o) (list_all sound out) h in
    and_from (sound o) (list_all sound (out ++ t ∷ [])) parts.0 (push-sound out t parts.1 k)

pub pieces-sound : (out new : List Token) (t : Token) (question : Question) (rest : List Question) → new ≡ out ++ t ∷ [] → list_all sound out ≡ true → list_all is_sound (question ∷ rest) ≡ true
    → (is_sound question ≡ true → sound t ≡ true) → (list_all sound new ≡ true) × (list_all is_sound rest ≡ true)
pieces-sound out new t question rest is h k so =
    let parts = and_parts (is_sound question) (list_all is_sound rest) k in
    (ap (list_all sound) is ∙ push-sound out t h (so parts.0), parts.1)

-- ---- the value

-- it is told so in each table
pub judged-told : (q : Option SourceFile) (table : Table) (p p1 : Progress) (at : Pos) (toks : List Token) (r : Result Bool PreFault)
    → IfSome q (λ file. (t : Table) → Gives (λ b. (b, state_in t p1, p1.text)) fault_of r (kept_after p.text (judged file at toks (state_in t p))))
    → IfSome q (λ file. Gives (λ b. (b, state_in table p1, p1.text)) fault_of r (kept_after p.text (judged file at toks (state_in table p))))
judged-told None table p p1 at toks r h = tt
judged-told (Some file) table p p1 at toks r h = h table
