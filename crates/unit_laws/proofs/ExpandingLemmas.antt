-- Expansions in a unit: what is true of what they give.
use Rattle.std.proofs.Common.{◌≡◌, ℕ, ◌+◌, ◌-◌, Bool, true, List, [], ◌∷◌, length, map, drop, Some, Result, Ok, Err, nat_lt, refl, sym, subst}
use Rattle.cs_base.specs.Token.{Token}
use Rattle.macro_body.specs.declared.notes.Work.{Work}
use Rattle.macro_body.specs.declared.definitions.Definition.{Definition}
use Rattle.macro_body.specs.Notes as expansion
use Rattle.macro_expand.specs.Expansion.{Setting, expansion}
use Rattle.source_files.specs.Files.{SourceFile, Table}
use Rattle.unit_steps.specs.Notes.{Note, Happened}
use Rattle.unit_steps.specs.State.{Context, State, only}
use Rattle.unit_steps.specs.Expanding.{expanded_as, expanded_in, most_toks, past_limit, put_out, run_of}
use Rattle.source_files.proofs.TableLemmas.{grown_refl}
use Rattle.expansion_laws.proofs.ListLemmas.{AllToks, AllNotes, toks_more, hidden_toks}
use Rattle.expansion_laws.proofs.RuleLemmas.{Rules, HasPutIn}
use Rattle.expansion_laws.proofs.ClosureLemmas.{expansion_keeps}
use Rattle.unit_laws.proofs.DoneLemmas.{AllIn, UnitRules, HappenedSo, NotedSo, MacroHas, StateHas, Done, done_more, done_onward, done_test}

-- notes of an expansion, and what is known of them
notes_known : (M : Note → Type 0) (run : Bool) (before : ℕ) (notes : List expansion.Note) → AllIn M (map (Happened run before) notes)
    → AllNotes (λ n. M (Happened run before n)) notes
notes_known M run before [] h = tt
notes_known M run before (n ∷ ns) h = (h.0, notes_known M run before ns h.1)

notes_so : (P : Token → Type 0) (run : Bool) (before : ℕ) (notes : List expansion.Note) → AllNotes (HappenedSo P) notes
    → AllIn (NotedSo P) (map (Happened run before) notes)
notes_so P run before [] h = tt
notes_so P run before (n ∷ ns) h = (h.0, notes_so P run before ns h.1)

module _ (P : Token → Type 0) (M : Note → Type 0) (table : Table) (rules : UnitRules P M table) where
  rules_in : (set : Setting) (run : Bool) (before : ℕ) → ((name : List ℕ) (m : Definition) → set.table name ≡ Some m → MacroHas P name m)
      → Rules P (λ n. M (Happened run before n)) (HappenedSo P) set
  rules_in set run before macros = record {
    spaced = rules.spaced;
    moved = rules.moved;
    bodies = λ name m here found. toks_more P (HasPutIn P name) m.body (let has = macros name.text m found in has.body) (λ t h gap. rules.placed name t gap here h);
    lines = λ name m more here found is brought.
        let line = (let has = macros name.text m found in has.line) is in
        rules.lines name run before more here line.1 (subst (λ (t : Token). M (Happened run before (expansion.Replaced name t more))) line.0 brought);
    numbers = λ name n here low brought. rules.numbers name n run before here low brought;
    paths = λ name m here found is. rules.paths set.path name here;
    strings = rules.strings;
    pastes = λ name x y z here px py is told. rules.pastes name x y z run before here px py is told;
    replaced = λ name m more here is found. here;
    linked = λ name m here is found links.
        let own = (let has = macros name.text m found in has.own) links in
        (here, own.0.0, record { first = is; second = own.0.1; text = sym own.1 });
    stringized = λ toks s all is. (all, is);
    pasted = λ name x y z px py pz is. (px, py, pz, record { token = z; made = is; same = record { kind = refl; text = refl; origins = refl } });
    counted = λ name n here z. (z, (name, n, refl));
  }

  with_work : (s : State) (work : Work) → StateHas P s → StateHas P (record s { work = work })
  with_work s work has = record { macros = has.macros; names = has.names }

  expanded_as_done : (run : Bool) (file : SourceFile) (toks : List Token) (s : State) (r : Result expansion.Expanded expansion.Fault) → expansion s.macros file.path toks s.work ≡ r
      → Done P M table (AllToks P toks) (AllToks P) s (expanded_as run file s r)
  expanded_as_done run file toks s (Err found) is = tt
  expanded_as_done run file toks s (Ok e) is = (
    grown_refl s.table,
    λ h reach has told.
        let good = expansion_keeps P (λ n. M (Happened run s.before n)) (HappenedSo P) s.macros file.path
        (rules_in (record { table = s.macros; path = file.path }) run s.before has.macros) toks s.work e h is (notes_known M run s.before e.notes told) in
        (hidden_toks P e.toks good.0, with_work s e.left has, notes_so P run s.before e.notes good.1),
  )

  pub expanded_done : (run : Bool) (file : SourceFile) (toks : List Token) (s : State) → Done P M table (AllToks P toks) (AllToks P) s (expanded_in run file toks s)
  expanded_done run file toks s = expanded_as_done run file toks s (expansion s.macros file.path toks s.work) refl

  put_out_done : (ctx : Context) (file : SourceFile) (toks : List Token) (s : State) → Done P M table (AllToks P toks) (AllToks P) s (put_out ctx file toks s)
  put_out_done ctx file toks s =
      done_test P M table (AllToks P toks) (AllToks P) s (nat_lt (most_toks ctx) (s.before + length toks)) (past_limit file (drop (most_toks ctx - s.before) toks))
      (only toks (record s { before = s.before + length toks }))
      (grown_refl s.table, λ h reach has told. (h, record { macros = has.macros; names = has.names }, tt))

  pub run_done : (ctx : Context) (file : SourceFile) (toks : List Token) (s : State) → Done P M table (AllToks P toks) (AllToks P) s (run_of ctx file toks s)
  run_done ctx file toks s =
      done_onward P M table (AllToks P toks) (AllToks P) (AllToks P) s (expanded_in true file toks s) (put_out ctx file) (expanded_done true file toks s)
      (λ out t. done_more P M table (AllToks P out) (AllToks P toks × AllToks P out) (AllToks P) (AllToks P) t (put_out ctx file out t) (λ p. p.1) (λ a p h. h) (put_out_done ctx file out t))
