-- What is asked along a whole unit.
use Rattle.std.proofs.Common.{ℕ, zero, suc, ◌≡◌, Bool, true, false, ◌&&◌, if◌then◌else◌, ◌==◌, List, [], ◌∷◌, length, Ok, Err, refl, ap, ◌∙◌, arith}
use Rattle.std.proofs.lemmas.Bool.{and_from}
use Rattle.c99_grammar.specs.declared.dialects.Edition.{Edition}
use Rattle.cs_base.specs.Token.{Token}
use Rattle.c99_tree.specs.Tree.{none, node}
use Rattle.c99_tree.specs.declared.production.Production.TheVariants.{TranslationUnit, External}
use Rattle.c99_grammar.specs.Items.{Item, part, end_of_text, many, own}
use Rattle.c99_grammar.specs.Standard.{c99, iso}
use Rattle.c99_read.specs.State.{State, base_at, opened, closed}
use Rattle.c99_read.specs.Reading.{Goal, produce, repeat, Step, syntax, at_end, at_first, and_then, may, step, alternative, read_within}
use Rattle.name_chains.specs.Frames.{at_first as before}
use Rattle.tree_laws.proofs.Parts.{first_body}
use Rattle.tree_laws.proofs.Outline.{Outline, all_agree}
use Rattle.tree_laws.proofs.Outlines.{outline}
use Rattle.tree_laws.proofs.Matching.{Bounds, outer_open, bounds_sooner}
use Rattle.tree_laws.proofs.Beginning.{file_bounds}
use Rattle.tree_laws.proofs.Goes.{After}
use Rattle.tree_laws.proofs.Listed.{outlined_scope}
use Rattle.tree_laws.proofs.Handing.{now}
use Rattle.tree_laws.proofs.Steady.{steady_within}
use Rattle.tree_laws.proofs.Declarators.{declarator_hands}
use Rattle.tree_laws.proofs.Table.{reads_within}
use Rattle.tree_laws.proofs.Units.{listed_scope, outer_within, Between, UnitGoes, unit_label, definitions_within, many_within, all_within, unit_begins, unit_still as goes_still, unit_then as goes_onward, end_goes}
use Rattle.renamed_tree_laws.specs.Along.{along_rest, along_within}
use Rattle.renamed_tree_laws.proofs.Asking.{of_token, of_node, along}
use Rattle.renamed_tree_laws.proofs.AskTable.{asked_within}
use Rattle.renamed_tree_laws.proofs.OuterAsks.{DefinitionAsks, OuterAsked, body_made, tail_made, rest_made, external_made}

module _ (std : Edition) where
  module _ (a b : List Token) (same : (k : ℕ) → base_at (iso std) a k ≡ base_at (iso std) b k) where
    abbrev along_steps : ℕ → ℕ → Goal → State → Bool
    along_steps fuel = along_within (iso std) (of_token std a b) (of_node std a b) fuel

    outer_asked : (fuel : ℕ) → OuterAsked std a b (read_within (iso std) fuel) (along_steps fuel)
    unfolding read_within along_within
    outer_asked zero = record { bodies = λ depth s. tt; tails = λ depth s. tt; rests = λ depth s. tt; definitions = λ depth s. tt }
    outer_asked (suc fuel) = record {
      bodies = λ depth s.
          (body_made std) a b (read_within (iso std) fuel) (along_steps fuel) (reads_within std a fuel) (asked_within std a b same fuel) (outer_within std a fuel) (outer_asked fuel)
          (declarator_hands std a fuel) (steady_within std fuel) depth s;
      tails = λ depth s.
          (tail_made std) a b (read_within (iso std) fuel) (along_steps fuel) (reads_within std a fuel) (asked_within std a b same fuel) (outer_within std a fuel) (outer_asked fuel)
          (declarator_hands std a fuel) (steady_within std fuel) depth s;
      rests = λ depth s.
          (rest_made std) a b (read_within (iso std) fuel) (along_steps fuel) (reads_within std a fuel) (asked_within std a b same fuel) (outer_within std a fuel) (outer_asked fuel)
          (declarator_hands std a fuel) (steady_within std fuel) depth s;
      definitions = λ depth s.
          (external_made std) a b (read_within (iso std) fuel) (along_steps fuel) (reads_within std a fuel) (asked_within std a b same fuel) (outer_within std a fuel) (outer_asked fuel)
          (declarator_hands std a fuel) (steady_within std fuel) depth s;
    }

    -- between definitions
    abbrev UnitAsks : Bool → State → State → Type 0
    UnitAsks v s s' =
        (o : Outline) (ends : List ℕ) → Bounds s'.at o.scope.to s'.names.scopes ends → Between std a s ends o → all_agree std b s'.built.under o ≡ true
        → (all_agree std b s.built.under o ≡ true) × (v ≡ true)

    unit_further : (v w : Bool) (s s' s'' : State) → UnitGoes std a s s' → UnitGoes std a s' s'' → UnitAsks v s s' → UnitAsks w s' s'' → UnitAsks (v && w) s s''
    unit_further v w s s' s'' g g' k k' = λ o ends bounds f agree. (
        let op = outer_open s.names.scopes s'.names.scopes f.fits.opens (g.outer f.fits.opens) in
        let sooner = bounds_sooner s'.at s''.at o.scope.to s'.names.scopes s''.names.scopes ends op g'.later (g'.outer op) bounds in
        let second = k' o ends bounds (g.goes o ends sooner f) agree in
        let start = k o ends sooner f second.0 in
        (start.0, and_from v w start.1 second.1))

    unit_then : (v : Bool) (w : State → Bool) (s : State) (r : Step) (next_step : State → Step) → After (UnitGoes std a s) r → After (UnitAsks v s) r
        → ((s' : State) → After (UnitGoes std a s') (next_step s')) → ((s' : State) → After (UnitAsks (w s') s') (next_step s'))
        → After (UnitAsks (v && along_rest r w) s) (and_then r next_step)
    unit_then v w s (Err stop) next_step g k g' k' = tt
    unit_then v w s (Ok s') next_step g k g' k' = onward (next_step s') (g' s') (k' s')
      where
        onward : (r : Step) → After (UnitGoes std a s') r → After (UnitAsks (w s') s') r → After (UnitAsks (v && w s') s) r
        onward (Err stop) h m = tt
        onward (Ok s'') h m = unit_further v (w s') s s' s'' g h k m

    definition_asks : (v : Bool) (s s' : State) → DefinitionAsks std a b v s s' → UnitAsks v s s'
    definition_asks v s s' k = λ o ends bounds f agree. (
        let here : Outline = now s o in
        let scope : here.scope ≡ o.scope = outlined_scope s.built.under o in
        k o ends f.fits.text f.fits.opens bounds f.fits.matches f.fits.near (f.heads, λ list h. listed_scope here o list here.entries scope ∙ f.past list h) agree)

    definitions_ask : (fuel depth : ℕ) (s : State) → After (UnitAsks (along_steps fuel depth (produce External) s) s) (read_within (iso std) fuel depth (produce External) s)
    definitions_ask fuel depth s = by (read_within (iso std) fuel depth (produce External) s) ((outer_asked fuel).definitions depth s)
      where
        by : (r : Step) → After (DefinitionAsks std a b (along_steps fuel depth (produce External) s) s) r → After (UnitAsks (along_steps fuel depth (produce External) s) s) r
        by (Err stop) k = tt
        by (Ok s') k = definition_asks (along_steps fuel depth (produce External) s) s s' k

    unit_still : (s : State) → UnitAsks true s s
    unit_still s = λ o ends bounds f agree. (agree, refl)

    again_if : (v : Bool) (s : State) (c : Bool) (r : Step) → After (UnitAsks v s) r → After (UnitAsks (if c then v else true) s) (if c then r else Ok s)
    again_if v s true r m = m
    again_if v s false r m = unit_still s

    many_ask : (fuel depth : ℕ) (s : State) → After (UnitAsks (along_steps fuel depth (repeat own (part External)) s) s) (read_within (iso std) fuel depth (repeat own (part External)) s)
    unfolding read_within along_within
    many_ask zero depth s = tt
    many_ask (suc fuel) depth s =
        again_if (along_steps fuel depth (produce External) s && along_rest (read_within (iso std) fuel depth (produce External) s) (along_steps fuel depth (repeat own (part External)))) s
        (may (iso std) own (part External) s)
        (and_then (read_within (iso std) fuel depth (produce External) s) (read_within (iso std) fuel depth (repeat own (part External))))
        (unit_then (along_steps fuel depth (produce External) s) (along_steps fuel depth (repeat own (part External))) s (read_within (iso std) fuel depth (produce External) s)
        (read_within (iso std) fuel depth (repeat own (part External))) (definitions_within std a fuel depth s) (definitions_ask fuel depth s) (many_within std a fuel depth) (many_ask fuel depth))

    end_asks : (s : State) → After (UnitAsks true s) (at_end s)
    unfolding at_end
    end_asks s = by (s.at == length s.toks)
      where
        by : (c : Bool) → After (UnitAsks true s) (if c then Ok s else Err (syntax s.at))
        by true = unit_still s
        by false = tt

    abbrev unit_items : Item
    unit_items = first_body (c99.table TranslationUnit)

    abbrev definitions_item : Item
    definitions_item = many own (part External)

    -- all definitions, and the end of the text
    all_ask : (fuel depth : ℕ) (s : State)
        → After (UnitAsks (along std a b (read_within (iso std) fuel) (along_steps fuel) depth unit_items s) s) (step (iso std) (read_within (iso std) fuel) depth unit_items s)
    all_ask fuel depth s =
        unit_then (along std a b (read_within (iso std) fuel) (along_steps fuel) depth definitions_item s) (along std a b (read_within (iso std) fuel) (along_steps fuel) depth end_of_text) s
        (step (iso std) (read_within (iso std) fuel) depth definitions_item s) at_end
        (goes_if (may (iso std) own (part External) s) (and_then (read_within (iso std) fuel depth (produce External) s) (read_within (iso std) fuel depth (repeat own (part External))))
        (goes_then (read_within (iso std) fuel depth (produce External) s) (definitions_within std a fuel depth s)))
        (again_if (along_steps fuel depth (produce External) s && along_rest (read_within (iso std) fuel depth (produce External) s) (along_steps fuel depth (repeat own (part External)))) s
        (may (iso std) own (part External) s)
        (and_then (read_within (iso std) fuel depth (produce External) s) (read_within (iso std) fuel depth (repeat own (part External))))
        (unit_then (along_steps fuel depth (produce External) s) (along_steps fuel depth (repeat own (part External))) s (read_within (iso std) fuel depth (produce External) s)
        (read_within (iso std) fuel depth (repeat own (part External))) (definitions_within std a fuel depth s) (definitions_ask fuel depth s) (many_within std a fuel depth) (many_ask fuel depth)))
        (end_goes std a) end_asks
      where
        goes_then : (r : Step) → After (UnitGoes std a s) r → After (UnitGoes std a s) (and_then r (read_within (iso std) fuel depth (repeat own (part External))))
        goes_then r g = goes_onward std a s r (read_within (iso std) fuel depth (repeat own (part External))) g (many_within std a fuel depth)

        goes_if : (c : Bool) (r : Step) → After (UnitGoes std a s) r → After (UnitGoes std a s) (if c then r else Ok s)
        goes_if true r m = m
        goes_if false r m = goes_still std a s

    -- ---- The text

    -- the node of the unit
    closed_unit : (s : State) → UnitGoes std a (opened TranslationUnit 1 (at_first a)) s
        → (closed TranslationUnit (at_first a) s).built ≡ record (at_first a).built { under = node (unit_label std a) 0 s.built.under none }
    unfolding opened closed
    closed_unit s g =
        let i = g.inside (record { label = refl; begins = refl }) in
        ap (λ l. record (at_first a).built { under = node l s.built.first s.built.under none }) i.label
        ∙ ap (λ k. record (at_first a).built { under = node (unit_label std a) k s.built.under none }) i.begins

    opened_start : (opened TranslationUnit 1 (at_first a)).at ≡ 0
    unfolding opened
    opened_start = refl

    unit_told : (v : Bool) (s : State) → UnitGoes std a (opened TranslationUnit 1 (at_first a)) s → UnitAsks v (opened TranslationUnit 1 (at_first a)) s
        → all_agree std b s.built.under (outline (before (length a))) ≡ true → v ≡ true
    unfolding opened
    unit_told v s g k agree =
        (k (outline (before (length a))) (length a ∷ []) (file_bounds s.at (length a) s.names.scopes (g.outer tt) (g.within (omega arith))) (unit_begins std a (length a)) agree).1

    -- what is known of the state that is left once a unit was read
    pub record UnitTold (v : Bool) (s : State) : Type 0 where
      pub last_one : State
      pub built : s.built ≡ record (at_first a).built { under = node (unit_label std a) 0 last_one.built.under none }
      pub told : all_agree std b last_one.built.under (outline (before (length a))) ≡ true → v ≡ true

    pub unit_asks : (fuel : ℕ) → After (UnitTold (along_steps fuel 0 (produce TranslationUnit) (at_first a))) (read_within (iso std) fuel 0 (produce TranslationUnit) (at_first a))
    unfolding read_within along_within
    unit_asks zero = tt
    unit_asks (suc fuel) = choose (may (iso std) own unit_items (at_first a))
      where
        by : (r : Step) → After (UnitGoes std a (opened TranslationUnit 1 (at_first a))) r
            → After (UnitAsks (along std a b (read_within (iso std) fuel) (along_steps fuel) 0 unit_items (opened TranslationUnit 1 (at_first a))) (opened TranslationUnit 1 (at_first a))) r
            → After (UnitTold (along std a b (read_within (iso std) fuel) (along_steps fuel) 0 unit_items (opened TranslationUnit 1 (at_first a)))) (and_then r (λ s'. Ok (closed TranslationUnit (at_first a) s')))
        by (Err stop) g k = tt
        by (Ok s') g k = record {
          last_one = s';
          built = closed_unit s' g;
          told = unit_told (along std a b (read_within (iso std) fuel) (along_steps fuel) 0 unit_items (opened TranslationUnit 1 (at_first a))) s' g k;
        }

        choose : (c : Bool)
            → After (UnitTold (if c then along std a b (read_within (iso std) fuel) (along_steps fuel) 0 unit_items (opened TranslationUnit 1 (at_first a)) else true))
            (if c then alternative (iso std) (read_within (iso std) fuel) 0 TranslationUnit 1 unit_items (at_first a) else Err (syntax 0))
        choose true =
            by (step (iso std) (read_within (iso std) fuel) 0 unit_items (opened TranslationUnit 1 (at_first a))) (all_within std a fuel 0 (opened TranslationUnit 1 (at_first a)))
            (all_ask fuel 0 (opened TranslationUnit 1 (at_first a)))
        choose false = tt
