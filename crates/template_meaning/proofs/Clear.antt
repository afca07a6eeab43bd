-- What no offence says of lists and names.
use Rattle.std.proofs.Common.{◌≡◌, ℕ, zero, suc, ◌+◌, ◌-◌, ◌<◌, ◌==◌, ◌&&◌, ◌||◌, not, if◌then◌else◌, Bool, true, false, List, [], ◌∷◌, ◌++◌, length, Option, None, Some, inl, inr, refl, sym, ap, subst, ◌∙◌, arith}
use Rattle.std.specs.Prelude.{slice_get, slice_index_or}
use Rattle.std.specs.List.{flat_map, list_any, list_all, remove}
use Rattle.std.specs.Option.{option_map_or}
use Rattle.std.proofs.lemmas.Bool.{cases_Bool, false≢true, and_parts, or_cases, eqb-true}
use Rattle.cs_base.specs.declared.causes.Cause.TheVariants as cause
use Rattle.cs_base.specs.declared.positions.Part.{Part}
use Rattle.cs_base.specs.declared.positions.Pos.{Pos}
use Rattle.cs_base.specs.Token.{Token}
use Rattle.cs_base.proofs.ListLemmas.{front_none as nil_left, nil_behind as nil_right}
use Rattle.c_types.specs.Declarations.{is_in}
use Rattle.c_types.specs.declared.lists.List.{List as NameList}
use Rattle.c_types.specs.declared.parameters.ParameterList.{ParameterList}
use Rattle.c_types.specs.Parameters.{parameters_in}
use Rattle.c99_grammar.specs.Dialects.{edition}
use Rattle.c99_grammar.specs.Standard.{iso}
use Rattle.c99_read.specs.State.{base_at, is_identifier}
use Rattle.scope_bind.specs.declared.bound.Name.{Name}
use Rattle.scope_bind.specs.Bound.{Bound}
use Rattle.scope_bind.specs.Names.{entity_at}
use Rattle.tree_laws.proofs.HeldNames.{binding_is}
use Rattle.tree_laws.proofs.NamesRead.{names_are_read}
use Rattle.source_files.specs.Files.{Source}
use Rattle.ws_file.specs.Workspace.{WorkspaceValue}
use Rattle.analysis.specs.Analysis.{UnitAnalysis, AnalysisValue}
use Rattle.analysis.specs.GnuUnits.{gnu_places}
use Rattle.analysis.specs.Places.{is_read_only}
use Rattle.offences.specs.declared.firsts.Offence.{Offence}
use Rattle.offences.specs.First.{offence, standing}
use Rattle.edited_unit_laws.proofs.ListLemmas.{In, map_nil, cons_nil, flat_nil}
use Rattle.list_cuts.specs.Cuts.{numbers}
use Rattle.template_rules.specs.Functions.{origin_of, place_of, holds_at, is_function, declares_function}
use Rattle.template_rules.specs.GnuOffences.{gnu_offences}
use Rattle.template_rules.specs.Insides.{inside_offences, list_insides, unit_insides, all_insides, all_macro_names}
use Rattle.template_rules.specs.LineOffences.{odd_positions, is_odd_by, odd_place, odd_places}
use Rattle.template_rules.specs.Lists.{parameters_at, parameters_of, arguments_of, separators, each_mark, count_of}
use Rattle.template_rules.specs.MacroOffences.{is_direct, is_mark_everywhere, macro_place, is_line_number, line_number_place, line_number_places}
use Rattle.template_rules.specs.Marks.{read_only_at, read_only_place, is_between, is_across, across_place, count_place, main_place, mark_offences, declarator_marks, call_marks, unit_marks, all_marks}
use Rattle.template_rules.specs.NameOffences.{has_prototype, no_prototype_place, is_callee, value_place, name_offences, unit_names, all_names}
use Rattle.template_rules.specs.Offences.{list_offences, declarator_offences, call_offences, unit_lists, all_lists, offences_of}
use Rattle.template_rules.specs.ScopeOffences.{is_inside, declares_more, declaration_place, declaration_places, body_lists_in, body_place, is_used_at, is_spelled_as, is_use, dependence_place, dependence_in, dependence_places}
use Rattle.template_meaning.specs.Accepted.{IsAccepted}
use Rattle.template_meaning.specs.Clear.{IsOwn, ListIsClear, DeclaratorIsClear, CallIsClear, NameIsClear, UnitsAreClear}
use Rattle.template_meaning.proofs.Bare.{bare_pass}
use Rattle.template_meaning.proofs.Editions.{no_gnu_places}
use Rattle.template_meaning.proofs.Units.{identifier_placed, name_placed, entity_placed, read_so}

-- ---- places that do not stand

no_place : (toks : List Token) (k : ℕ) (p : Pos) → origin_of toks k ≡ Some p → place_of toks k ≡ [] → ⊥
no_place toks k p at none = cons_nil p [] (sym (ap (λ (o : Option Pos). option_map_or (λ q. q ∷ []) o []) at) ∙ none)

-- a place that stands where the test fails
if_else : {X : Type 0} (c : Bool) (xs : List X) → (xs ≡ [] → ⊥) → (if c then [] else xs) ≡ [] → c ≡ true
if_else true xs some e = refl
if_else false xs some e = absurd (some e)

-- one that stands where it passes
if_then : {X : Type 0} (c : Bool) (xs : List X) → (xs ≡ [] → ⊥) → (if c then xs else []) ≡ [] → c ≡ false
if_then true xs some e = absurd (some e)
if_then false xs some e = refl

-- what is asked of the lists of functions alone
if_own : {X : Type 0} (c : Bool) (xs : List X) → c ≡ true → (if c then xs else []) ≡ [] → xs ≡ []
if_own true xs h e = e
if_own false xs h e = absurd (false≢true h)

none_stands : (c : _) (places : List Pos) → standing c places ≡ [] → places ≡ []
none_stands c places e = map_nil (offence c) places e

numbers_at : (from n k : ℕ) → k < n → slice_get (numbers from n) k ≡ Some (from + k)
unfolding numbers
numbers_at from zero k h = absurd (omega (arith, h))
numbers_at from (suc n) zero h = ap (λ (j : ℕ). Some j) (let e : from ≡ from + 0 = omega arith in e)
numbers_at from (suc n) (suc k) h =
    numbers_at (from + 1) n k (omega (arith, h)) ∙ ap (λ (j : ℕ). Some j) (let e : from + 1 + k ≡ from + suc k = omega arith in e)

pub in_numbers : (from n i : ℕ) → from < i + 1 → i < from + n → In i (numbers from n)
in_numbers from n i low high =
    let e : from + (i - from) ≡ i = omega (arith, low) in
    (i - from, numbers_at from n (i - from) (omega (arith, low, high)) ∙ ap (λ (j : ℕ). Some j) e)

module _ (source : Source) (ws : WorkspaceValue) (a : AnalysisValue) (members : List Part) (order : List ℕ) (h : IsAccepted source ws a members order) where
  abbrev count : ℕ
  count = count_of a members

  abbrev marks : List Offence
  marks = all_marks members a count

  -- ---- the offences by their kinds

  no_offence : offences_of a members count ≡ []
  no_offence = h.clear

  no_gnu : gnu_places a ≡ []
  no_gnu = no_gnu_places source ws a members order h

  abbrev last : List Offence
  last = gnu_offences members a

  behind_names : marks ++ (all_macro_names members a ++ (all_insides members a ++ (all_lists members a ++ last))) ≡ []
  behind_names = nil_right (all_names members a) (marks ++ (all_macro_names members a ++ (all_insides members a ++ (all_lists members a ++ last)))) no_offence

  behind_marks : all_macro_names members a ++ (all_insides members a ++ (all_lists members a ++ last)) ≡ []
  behind_marks = nil_right marks (all_macro_names members a ++ (all_insides members a ++ (all_lists members a ++ last))) behind_names

  behind_macros : all_insides members a ++ (all_lists members a ++ last) ≡ []
  behind_macros = nil_right (all_macro_names members a) (all_insides members a ++ (all_lists members a ++ last)) behind_marks

  module _ (u : UnitAnalysis) (i : In u a.units) where
    abbrev toks : List Token
    toks = u.text.toks

    abbrev lists : List ParameterList
    lists = parameters_in u.tree.under

    names_none : unit_names members u ≡ []
    names_none = flat_nil (unit_names members) a.units u (nil_left (all_names members a) _ no_offence) i

    marks_none : unit_marks members a count u ≡ []
    marks_none = flat_nil (unit_marks members a count) a.units u (nil_left marks _ behind_names) i

    insides_none : unit_insides members u ≡ []
    insides_none = flat_nil (unit_insides members) a.units u (nil_left (all_insides members a) _ behind_macros) i

    lists_none : unit_lists members a (odd_positions a.table) u ≡ []
    lists_none = flat_nil (unit_lists members a (odd_positions a.table)) a.units u (nil_left (all_lists members a) last (nil_right (all_insides members a) _ behind_macros)) i

    -- ---- a list

    own_placed : (l : NameList) → IsOwn members u l → (p : Pos) × (origin_of toks l.name ≡ Some p)
    own_placed l own = by (entity_at u.bound.names l.name) refl own
      where
        by : (o : Option ℕ) → entity_at u.bound.names l.name ≡ o → option_map_or (is_function members toks u.bound.names) o false ≡ true
            → (p : Pos) × (origin_of toks l.name ≡ Some p)
        by None at f = absurd (false≢true f)
        by (Some e) at f = entity_placed source ws a h.analysed no_gnu u i l.name e at

    list_clear : (items : ℕ) (l : NameList) → IsOwn members u l → mark_offences a count toks u.text.reached items l ≡ []
        → inside_offences toks u.text.events u.bound.names l ≡ [] → list_offences members a (odd_positions a.table) u.text l ≡ []
        → ListIsClear a members u items l
    list_clear items l own no_mark no_inside no_list =
        let placed = own_placed l own in
        let some : place_of toks l.name ≡ [] → ⊥ = no_place toks l.name placed.0 placed.1 in
        let read_only = none_stands cause.ReadOnly (read_only_place a toks l) (nil_left (standing cause.ReadOnly (read_only_place a toks l)) _ no_mark) in
        let behind = standing cause.AcrossDirective (across_place toks u.text.reached l) ++ standing cause.ArgumentCount (count_place count items toks l) in
        let marked = nil_right (standing cause.Reserved (main_place toks l)) behind
        (nil_right (standing cause.ReadOnly (read_only_place a toks l)) (standing cause.Reserved (main_place toks l) ++ behind) no_mark) in
        let across = none_stands cause.AcrossDirective (across_place toks u.text.reached l) (nil_left (standing cause.AcrossDirective (across_place toks u.text.reached l)) _ marked) in
        let counted = none_stands cause.ArgumentCount (count_place count items toks l) (nil_right (standing cause.AcrossDirective (across_place toks u.text.reached l)) _ marked) in
        let lines_ = none_stands cause.LineNumber (line_number_places u.text.events l) (nil_left (standing cause.LineNumber (line_number_places u.text.events l)) _ no_inside) in
        let tags = none_stands cause.DeclarationInArgument (declaration_places toks u.bound.names l) (nil_right (standing cause.LineNumber (line_number_places u.text.events l)) _ no_inside) in
        let macros = none_stands cause.InMacro (macro_place members a toks u.text.reached l) (nil_left (standing cause.InMacro (macro_place members a toks u.text.reached l)) _ no_list) in
        let odds = none_stands cause.OddToken (odd_places a.table (odd_positions a.table) u.text l) (nil_right (standing cause.InMacro (macro_place members a toks u.text.reached l)) _ no_list) in
        let both = and_parts (is_direct toks l) (each_mark (is_mark_everywhere members a toks u.text.reached l) l)
        (if_else (is_direct toks l && each_mark (is_mark_everywhere members a toks u.text.reached l) l) (place_of toks l.name) some macros) in
        record {
          named = placed;
          edited = λ p at. if_then (is_read_only a.table a.workspace.readonly p.file) (p ∷ []) (cons_nil p [])
              (sym (ap (λ (o : Option Pos). option_map_or (read_only_at a) o []) at) ∙ read_only);
          direct = both.0;
          one_run = if_then (is_across u.text.reached l) (place_of toks l.name) some across;
          everywhere = both.1;
          many = eqb-true items count (if_else (items == count) (place_of toks l.name) some counted);
          lines = λ e j. if_then (is_line_number e.kind e.def e.name && is_between l.begin l.close e.before) (e.at ∷ []) (cons_nil e.at [])
              (flat_nil (line_number_place l) u.text.events e lines_ j);
          declared = λ n j.
              let p = name_placed source ws a h.analysed no_gnu u i n j in
              if_then (declares_more toks n && is_inside l n.index) (place_of toks n.index) (no_place toks n.index p.0 p.1)
              (flat_nil (declaration_place toks l) u.bound.names n tags j);
          odd = λ p j. if_then (is_odd_by a.table u.text l p) (p ∷ []) (cons_nil p [])
              (flat_nil (odd_place a.table u.text l) (odd_positions a.table) p odds j);
        }

    -- ---- the parameter list of a declarator

    -- a token that uses a name has a place
    use_placed : (k : ℕ) → is_use u.bound.names u.bound.bare k ≡ true → (p : Pos) × (origin_of toks k ≡ Some p)
    use_placed k used = elim (or_cases (list_any (is_used_at k) u.bound.names) (is_in u.bound.bare k) used) [
      | inl named ↦ by_name u.bound.names named (λ n j. j)
      | inr bare ↦ identifier_placed source ws a h.analysed no_gnu u i k (bare_named k bare)
    ]
      where
        by_name : (ns : List Name) → list_any (is_used_at k) ns ≡ true → ((n : Name) → In n ns → In n u.bound.names) → (p : Pos) × (origin_of toks k ≡ Some p)
        by_name [] w into = absurd (false≢true w)
        by_name (n ∷ ns) w into = elim (or_cases (is_used_at k n) (list_any (is_used_at k) ns) w) [
          | inl here ↦
              let at : n.index ≡ k = eqb-true n.index k (and_parts (n.index == k) _ here).0 in
              let p = name_placed source ws a h.analysed no_gnu u i n (into n (0, refl)) in
              (p.0, ap (λ (j : ℕ). origin_of toks j) (sym at) ∙ p.1)
          | inr later ↦ by_name ns later (λ m j. into m (suc j.0, j.1))
        ]

        any_all : (test : ℕ → Bool) (ks : List ℕ) → list_all test ks ≡ true → list_any (λ m. m == k) ks ≡ true → test k ≡ true
        any_all test [] all any = absurd (false≢true any)
        any_all test (m ∷ ks) all any =
            let both = and_parts (test m) (list_all test ks) all in
            elim (or_cases (m == k) (list_any (λ j. j == k) ks) any) [
              | inl here ↦ subst (λ (j : ℕ). test j ≡ true) (eqb-true m k here) both.0
              | inr later ↦ any_all test ks both.1 later
            ]

        bare_named : (j : ℕ) → is_in u.bound.bare k ≡ true → is_identifier (base_at (iso (edition u.standard)) toks k) ≡ true
        bare_named j bare =
            let read = read_so source ws a h.analysed no_gnu u i in
            let test : ℕ → Bool = λ m. is_identifier (base_at (iso (edition u.standard)) toks m) in
            let pass = bare_pass test u.tree.under _ 0 (names_are_read (edition u.standard) toks u.tree read.reads) in
            let own : u.bound.bare ≡ _ = ap (λ (b : Bound). b.bare) (binding_is toks u.tree u.bound read.binds) in
            any_all test u.bound.bare (subst (λ (ks : List ℕ). list_all test ks ≡ true) (sym own) pass) bare

    apart_clear : (l : NameList) → dependence_places toks u.bound.names u.bound.bare lists l ≡ [] → (p : ParameterList) (k j : ℕ) → parameters_at lists l.name ≡ Some p
        → k < length l.commas + 1 → slice_index_or (separators l) k 0 < j → j < slice_index_or (separators l) (k + 1) 0
        → (list_any (is_spelled_as toks j) (remove p.names k) && is_use u.bound.names u.bound.bare j) ≡ false
    apart_clear l none p k j at within low high =
        let of_list = sym (ap (λ (o : Option ParameterList). option_map_or
        (λ (q : ParameterList). flat_map (dependence_in toks u.bound.names u.bound.bare q.names (separators l)) (numbers 0 (length l.commas + 1))) o []) at) ∙ none in
        let of_item = flat_nil (dependence_in toks u.bound.names u.bound.bare p.names (separators l)) (numbers 0 (length l.commas + 1)) k of_list
        (in_numbers 0 (length l.commas + 1) k (omega arith) (omega (arith, within))) in
        let begin : ℕ = slice_index_or (separators l) k 0 in
        let close : ℕ = slice_index_or (separators l) (k + 1) 0 in
        let of_token = flat_nil (dependence_place toks u.bound.names u.bound.bare (remove p.names k)) (numbers (begin + 1) (close - (begin + 1))) j of_item
        (in_numbers (begin + 1) (close - (begin + 1)) j (omega (arith, low)) (omega (arith, low, high))) in
        elim (cases_Bool (list_any (is_spelled_as toks j) (remove p.names k) && is_use u.bound.names u.bound.bare j)) [
          | inl stands ↦
              let q = use_placed j (and_parts (list_any (is_spelled_as toks j) (remove p.names k)) (is_use u.bound.names u.bound.bare j) stands).1 in
              if_then (list_any (is_spelled_as toks j) (remove p.names k) && is_use u.bound.names u.bound.bare j) (place_of toks j) (no_place toks j q.0 q.1) of_token
          | inr clear ↦ clear
        ]

    declarator_clear : (l : NameList) → In l u.bound.declarators → IsOwn members u l → DeclaratorIsClear a members u l
    declarator_clear l j own =
        let marked = if_own _ _ own (flat_nil (declarator_marks members a count toks u.text.reached u.bound.names lists) u.bound.declarators l
        (nil_left (flat_map (declarator_marks members a count toks u.text.reached u.bound.names lists) u.bound.declarators) _ marks_none) j) in
        let inside = if_own _ _ own (flat_nil (list_insides members toks u.text.events u.bound.names) u.bound.declarators l
        (nil_left (flat_map (list_insides members toks u.text.events u.bound.names) u.bound.declarators) _ insides_none) j) in
        let listed = if_own _ _ own (flat_nil (declarator_offences members a (odd_positions a.table) u.text u.bound lists) u.bound.declarators l
        (nil_left (flat_map (declarator_offences members a (odd_positions a.table) u.text u.bound lists) u.bound.declarators) _ lists_none) j) in
        let depends = none_stands cause.ParameterDependence (dependence_places toks u.bound.names u.bound.bare lists l)
        (nil_right (list_offences members a (odd_positions a.table) u.text l) _ listed) in
        record {
          list = list_clear (parameters_of lists l.name) l own marked inside (nil_left (list_offences members a (odd_positions a.table) u.text l) _ listed);
          apart = apart_clear l depends;
        }

    -- ---- the argument list of a call

    call_clear : (l : NameList) → In l u.bound.calls → IsOwn members u l → CallIsClear a members u l
    call_clear l j own =
        let marked = if_own _ _ own (flat_nil (call_marks members a count toks u.text.reached u.bound.names) u.bound.calls l
        (nil_right (flat_map (declarator_marks members a count toks u.text.reached u.bound.names lists) u.bound.declarators) _ marks_none) j) in
        let inside = if_own _ _ own (flat_nil (list_insides members toks u.text.events u.bound.names) u.bound.calls l
        (nil_right (flat_map (list_insides members toks u.text.events u.bound.names) u.bound.declarators) _ insides_none) j) in
        let listed = if_own _ _ own (flat_nil (call_offences members a (odd_positions a.table) u.text u.bound (body_lists_in u.tree.under)) u.bound.calls l
        (nil_right (flat_map (declarator_offences members a (odd_positions a.table) u.text u.bound lists) u.bound.declarators) _ lists_none) j) in
        let bodies = none_stands cause.DeclarationInArgument (body_place toks (body_lists_in u.tree.under) l)
        (nil_right (list_offences members a (odd_positions a.table) u.text l) _ listed) in
        let placed = own_placed l own in
        record {
          list = list_clear (arguments_of l) l own marked inside (nil_left (list_offences members a (odd_positions a.table) u.text l) _ listed);
          bodies = if_then (list_any (is_inside l) (body_lists_in u.tree.under)) (place_of toks l.name) (no_place toks l.name placed.0 placed.1) bodies;
        }

    -- ---- a name

    not_and : (x y : Bool) → x ≡ true → (x && not y) ≡ false → y ≡ true
    not_and true true e f = refl
    not_and true false e f = absurd (false≢true (sym f))
    not_and false y e f = absurd (false≢true e)

    name_clear : (n : Name) → In n u.bound.names → NameIsClear members u n
    name_clear n j =
        let p = name_placed source ws a h.analysed no_gnu u i n j in
        let some : place_of toks n.index ≡ [] → ⊥ = no_place toks n.index p.0 p.1 in
        let none = flat_nil (name_offences members toks u.bound.names u.bound.calls lists) u.bound.names n names_none j in
        let no_prototype = none_stands cause.NoPrototype (no_prototype_place members toks u.bound.names lists n)
        (nil_left (standing cause.NoPrototype (no_prototype_place members toks u.bound.names lists n)) _ none) in
        let no_value = none_stands cause.FunctionAsValue (value_place members toks u.bound.names u.bound.calls n)
        (nil_right (standing cause.NoPrototype (no_prototype_place members toks u.bound.names lists n)) _ none) in
        record {
          prototype = λ declares. not_and (declares_function members toks u.bound.names n) (has_prototype lists n.index) declares
              (if_then (declares_function members toks u.bound.names n && not (has_prototype lists n.index)) (place_of toks n.index) some no_prototype);
          used = λ held. not_and (holds_at members toks n.index) (declares_function members toks u.bound.names n || is_callee u.bound.calls n.index) held
              (if_then (holds_at members toks n.index && not (declares_function members toks u.bound.names n || is_callee u.bound.calls n.index)) (place_of toks n.index) some no_value);
        }

pub units_are_clear : UnitsAreClear
units_are_clear source ws a members order h u i = record {
  declarators = declarator_clear source ws a members order h u i;
  calls = call_clear source ws a members order h u i;
  names = name_clear source ws a members order h u i;
}
