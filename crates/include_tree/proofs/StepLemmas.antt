-- The steps of items: what becomes of the state.
use Rattle.std.proofs.Common.{◌≡◌, ℕ, ◌+◌, ◌≤◌, nat_lt, Bool, true, false, List, [], ◌∷◌, length, Option, None, Some, Result, Ok, Err, refl, arith, ltb-false, inl, inr, cond}
use Rattle.std.proofs.lemmas.Bool.{cases_Bool}
use Rattle.std.specs.List.{list_any}
use Rattle.cs_base.specs.declared.causes.Cause.TheVariants.{BadDirective}
use Rattle.cs_base.specs.declared.causes.Cause.TheVariants.{DefinedFromMacro}
use Rattle.cs_base.specs.declared.positions.Pos.{Pos}
use Rattle.cs_base.specs.Token.{Token}
use Rattle.source_files.specs.Below.line_shape.Signs.{is_name}
use Rattle.unit_steps.specs.Below.cond_eval.declared.faults.CondFault.{CondFault}
use Rattle.unit_steps.specs.Below.cond_eval.Evaluation.{condition}
use Rattle.unit_steps.specs.Below.macro_body.declared.definitions.Definition.{Definition}
use Rattle.unit_steps.specs.Below.macro_body.declared.notes.Work.{Work}
use Rattle.unit_steps.specs.Below.macro_body.Hides.{unhidden}
use Rattle.unit_steps.specs.Below.macro_body.Macro.{Table as Macros}
use Rattle.unit_steps.specs.Below.macro_body.Notes as expansion
use Rattle.unit_steps.specs.Below.macro_expand.Expansion.{expansion}
use Rattle.unit_steps.specs.Below.macro_body.Defining.{defined_by, in_gnu}
use Rattle.unit_steps.specs.Below.macro_body.Live.{with_macro, without_macro}
use Rattle.unit_steps.proofs.Below.macro_expand.WholeLemmas.{whole_falls}
use Rattle.source_files.specs.Files.{SourceFile}
use Rattle.source_files.specs.Faults.{fault_at}
use Rattle.unit_steps.specs.State.{Context, State, Outcome, did}
use Rattle.unit_steps.specs.Names.{with_name}
use Rattle.unit_steps.specs.Expanding.{expanded_as, expanded_in, most_toks, put_out, run_of}
use Rattle.unit_steps.specs.Conditions.{Piece, Plain, Asks, pieces_from, answered, left_over, valued, judged, asked_pieces, asked_toks, holds, is_defined}
use Rattle.unit_steps.specs.Directives.{defined_as, define_of, undefined_as, undef_of, operand_in, asks_name, define_notes, after_define, may_define}
use Rattle.include_tree.specs.Laws.{IfDone, Leads}
use Rattle.include_tree.proofs.OutcomeLemmas.{onward_done, test_done}
use Rattle.source_files.proofs.TableLemmas.{widens_refl}
use Rattle.include_tree.proofs.LeadsLemmas.{leads_by, leads_refl, leads_then, leads_name}

-- a state behind a value that puts out nothing, and behind tokens that are put out
abbrev pub Behind : {A : Type 0} → Context → State → A → State → Type 0
Behind ctx s a t = Leads ctx s 0 t

abbrev pub PutsOut : Context → State → List Token → State → Type 0
PutsOut ctx s toks t = Leads ctx s (length toks) t

-- ---- expansions

expansion_falls : (macros : Macros) (path : List ℕ) (toks : List Token) (work : Work) (e : expansion.Expanded)
    → expansion macros path toks work ≡ Ok e → e.left.left ≤ work.left
unfolding expansion
expansion_falls macros path toks work e h = whole_falls (record { table = macros; path = path }) 0 0 (unhidden toks) work e h

expanded_as_leads : (ctx : Context) (run : Bool) (file : SourceFile) (s : State) (r : Result expansion.Expanded expansion.Fault)
    → ((e : expansion.Expanded) → r ≡ Ok e → e.left.left ≤ s.work.left) → IfDone (Behind {A = List Token} ctx s) (expanded_as run file s r)
expanded_as_leads ctx run file s (Ok e) falls =
    leads_by ctx s (record s { work = e.left }) refl (falls e refl) (widens_refl ctx.source s.table)
expanded_as_leads ctx run file s (Err found) falls = tt

pub expanded_leads : (ctx : Context) (run : Bool) (file : SourceFile) (toks : List Token) (s : State)
    → IfDone (Behind {A = List Token} ctx s) (expanded_in run file toks s)
expanded_leads ctx run file toks s =
    expanded_as_leads ctx run file s (expansion s.macros file.path toks s.work) (λ e h. expansion_falls s.macros file.path toks s.work e h)

pub put_out_leads : (ctx : Context) (file : SourceFile) (toks : List Token) (s : State) → IfDone (PutsOut ctx s) (put_out ctx file toks s)
put_out_leads ctx file toks s = elim (cases_Bool (nat_lt (most_toks ctx) (s.before + length toks))) [
  | inl past ↦ rw past tt
  | inr within ↦
      rw within (record {
        counted = refl;
        few = λ h. ltb-false _ _ within;
        work = omega arith;
        table = widens_refl ctx.source s.table;
      })
]

-- a step behind one that puts out nothing
pub puts_then : (ctx : Context) (s t : State) → Leads ctx s 0 t → (m : Outcome (List Token)) → IfDone (PutsOut ctx t) m → IfDone (PutsOut ctx s) m
puts_then ctx s t h (Ok d) k = leads_then ctx s t d.state (length d.value) h k
puts_then ctx s t h (Err found) k = tt

pub behind_then : {A : Type 0} (ctx : Context) (s t : State) → Leads ctx s 0 t → (m : Outcome A) → IfDone (Behind ctx t) m → IfDone (Behind ctx s) m
behind_then ctx s t h (Ok d) k = leads_then ctx s t d.state 0 h k
behind_then ctx s t h (Err found) k = tt

pub run_leads : (ctx : Context) (file : SourceFile) (toks : List Token) (s : State) → IfDone (PutsOut ctx s) (run_of ctx file toks s)
run_leads ctx file toks s =
    onward_done (Behind {A = List Token} ctx s) (PutsOut ctx s) (expanded_in true file toks s) (put_out ctx file) (expanded_leads ctx true file toks s)
    (λ out t h. puts_then ctx s t h (put_out ctx file out t) (put_out_leads ctx file out t))

-- ---- definitions and tests

-- a state with other macros
leads_macros : (ctx : Context) (s : State) (macros : Macros) → Leads ctx s 0 (record s { macros = macros })
leads_macros ctx s macros = leads_by ctx s (record s { macros = macros }) refl (omega arith) (widens_refl ctx.source s.table)

leads_named : (ctx : Context) (name : Token) (s : State) (macros : Macros) → Leads ctx s 0 (record (with_name name s) { macros = macros })
leads_named ctx name s macros =
    leads_then ctx s (with_name name s) (record (with_name name s) { macros = macros }) 0 (leads_name ctx name s)
    (leads_macros ctx (with_name name s) macros)

defined_as_leads : (ctx : Context) (gnu : Bool) (file : SourceFile) (at : Pos) (s : State) (o : Option Definition) → IfDone (PutsOut ctx s) (defined_as gnu file at s o)
defined_as_leads ctx gnu file at s None = tt
defined_as_leads ctx gnu file at s (Some m) = by (may_define gnu m)
  where
    own : Definition
    own = in_gnu gnu m

    by : (b : Bool) → IfDone (PutsOut ctx s) (cond b (Ok (did [] (define_notes own s) (after_define own s))) (Err (fault_at file at BadDirective)))
    by true = leads_named ctx m.name s (with_macro own s.macros)
    by false = tt

pub define_leads : (ctx : Context) (gnu : Bool) (file : SourceFile) (at : Pos) (toks : List Token) (s : State) → IfDone (PutsOut ctx s) (define_of gnu file at toks s)
define_leads ctx gnu file at toks s = defined_as_leads ctx gnu file at s (defined_by toks)

undefined_as_leads : (ctx : Context) (file : SourceFile) (at : Pos) (s : State) (o : Option Token) → IfDone (PutsOut ctx s) (undefined_as file at s o)
undefined_as_leads ctx file at s None = tt
undefined_as_leads ctx file at s (Some name) = leads_named ctx name s (without_macro name.text s.macros)

pub undef_leads : (ctx : Context) (file : SourceFile) (at : Pos) (toks : List Token) (s : State) → IfDone (PutsOut ctx s) (undef_of file at toks s)
undef_leads ctx file at toks s = undefined_as_leads ctx file at s (operand_in toks)

pub asks_leads : (ctx : Context) (file : SourceFile) (at : Pos) (answer : Bool → Bool) (s : State) (o : Option Token)
    → IfDone (Behind {A = Bool} ctx s) (asks_name file at answer s o)
asks_leads ctx file at answer s None = tt
asks_leads ctx file at answer s (Some name) = leads_name ctx name s

-- ---- conditions

answered_leads : (ctx : Context) (pieces : List Piece) (s : State) → Leads ctx s 0 (answered pieces s).state
unfolding answered
answered_leads ctx [] s = leads_refl ctx s
answered_leads ctx (Plain t ∷ pieces) s = answered_leads ctx pieces s
answered_leads ctx (Asks word name ∷ pieces) s =
    leads_then ctx s (with_name name s) (answered pieces (with_name name s)).state 0 (leads_name ctx name s)
    (answered_leads ctx pieces (with_name name s))

left_over_leads : (ctx : Context) (toks : List Token) (s : State) → Leads ctx s 0 (left_over toks s).state
unfolding left_over
left_over_leads ctx [] s = leads_refl ctx s
left_over_leads ctx (t ∷ toks) s = elim (cases_Bool (is_name t)) [
  | inl name ↦
      rw name (leads_then ctx s (with_name t s) (left_over toks (with_name t s)).state 0 (leads_name ctx t s) (left_over_leads ctx toks (with_name t s)))
  | inr other ↦ rw other (left_over_leads ctx toks s)
]

valued_leads : (ctx : Context) (file : SourceFile) (at : Pos) (toks : List Token) (s : State) (r : Result Bool CondFault)
    → IfDone (Behind {A = Bool} ctx s) (valued file at toks s r)
valued_leads ctx file at toks s (Ok b) = left_over_leads ctx toks s
valued_leads ctx file at toks s (Err found) = tt

pub judged_leads : (ctx : Context) (file : SourceFile) (at : Pos) (toks : List Token) (s : State) → IfDone (Behind {A = Bool} ctx s) (judged file at toks s)
judged_leads ctx file at toks s =
    test_done (Behind {A = Bool} ctx s) (list_any is_defined toks) (fault_at file at DefinedFromMacro) (valued file at toks s (condition toks))
    (valued_leads ctx file at toks s (condition toks))

asked_pieces_leads : (ctx : Context) (file : SourceFile) (at : Pos) (s : State) (o : Option (List Piece))
    → IfDone (Behind {A = List Token} ctx s) (asked_pieces file at s o)
asked_pieces_leads ctx file at s None = tt
asked_pieces_leads ctx file at s (Some pieces) =
    onward_done (Behind {A = List Token} ctx s) (Behind {A = List Token} ctx s) (Ok (answered pieces s)) (expanded_in false file) (answered_leads ctx pieces s)
    (λ toks t h. behind_then ctx s t h (expanded_in false file toks t) (expanded_leads ctx false file toks t))

pub asked_leads : (ctx : Context) (file : SourceFile) (at : Pos) (toks : List Token) (s : State) → IfDone (Behind {A = List Token} ctx s) (asked_toks file at toks s)
asked_leads ctx file at toks s = asked_pieces_leads ctx file at s (pieces_from 0 toks)

pub holds_leads : (ctx : Context) (file : SourceFile) (at : Pos) (toks : List Token) (s : State) → IfDone (Behind {A = Bool} ctx s) (holds file at toks s)
holds_leads ctx file at toks s =
    onward_done (Behind {A = List Token} ctx s) (Behind {A = Bool} ctx s) (asked_toks file at toks s) (judged file at) (asked_leads ctx file at toks s)
    (λ out t h. behind_then ctx s t h (judged file at out t) (judged_leads ctx file at out t))
