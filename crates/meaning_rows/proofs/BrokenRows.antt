-- Renamings of the rows that break meaning, and what stands against them.
use Rattle.std.proofs.Common.{ℕ, Bool, true, false, List, [], map, Result, Ok, Err, refl, sym, ap, subst}
use Rattle.std.proofs.lemmas.Bool.{false≢true as differ}
use Rattle.std.specs.Prelude.{◌&&◌, ◌==◌, not, codes}
use Rattle.std.specs.Str.{bytes_eq}
use Rattle.cs_base.specs.declared.causes.Cause.TheVariants.{Occurs, Clash, ShadowedTypedef}
use Rattle.cs_base.specs.declared.tokens.Kind.TheVariants.{Ident}
use Rattle.cs_base.specs.Token.{Token}
use Rattle.cs_base.proofs.ListLemmas.{any_at}
use Rattle.analysis.specs.Below.lexer.Places.{pos}
use Rattle.analysis.specs.Below.lexer.Tokens.{file_token}
use Rattle.part_respell.specs.Respelled.{spelled, spelled_from}
use Rattle.analysis.specs.Below.c99_tree.Tree.{Node, size_of}
use Rattle.analysis.specs.Below.c99_read.Reading.{Stop, read_within, whole, take_one, at_end, enter}
use Rattle.analysis.specs.Below.c99_read.State.{class_at, acted, opened, closed}
use Rattle.analysis.specs.Below.c99_grammar.TokenClasses.{spelled_class, base_class}
use Rattle.analysis.specs.Below.scope_bind.Named.{Fault}
use Rattle.analysis.specs.Below.scope_bind.declared.bound.Name.{Name}
use Rattle.analysis.specs.Below.scope_bind.Bound.{Bound, binding_of}
use Rattle.analysis.specs.Below.scope_bind.Walk.{walked}
use Rattle.rename_rules.specs.Tokens.{holders}
use Rattle.edited_unit_laws.proofs.ListLemmas.{In}
use Rattle.meaning_rows.specs.Rows.{member, BreaksMeaning, IsOffence, two_objects, pasted_name, pasted_names, hidden_typedef}
use Rattle.meaning_rows.proofs.OffenceLemmas as offences
use Rattle.meaning_rows.proofs.RowLemmas.{breaks, its_bound}
use Rattle.meaning_rows.proofs.RowTokens.{tree_of, bound_of, two_objects_read, pasted_names_read, hidden_typedef_read, two_objects_lexed, hidden_typedef_lexed}
use Rattle.renamed.specs.Renamed.{spell_from}

-- ---- what tells bindings and trees apart

abbrev entities : Result Bound Fault → List ℕ
entities (Ok bound) = map (λ (n : Name). n.entity) bound.names
entities (Err fault) = []

abbrev size : Result Node Stop → ℕ
size (Ok tree) = size_of tree.under
size (Err stop) = 0

-- ---- int x;int y; where both are y

abbrev word : Bool → ℕ → List ℕ → Token
word gap at text = file_token 2 1 gap at Ident text

pub two_objects_offence : IsOffence two_objects 4 (codes "y") Occurs 10
unfolding spelled_from
two_objects_offence a h =
    let x : Token = word true 4 (codes "x") in
    let y : Token = word true 10 (codes "y") in
    let holder : In x (holders a (member 4)) =
    offences.holder_of_file two_objects a h (member 4) (codes "y") x (subst (In x) (sym two_objects_lexed) (1, refl)) refl refl in
    let any = any_at (λ (t : Token). bytes_eq (spelled (member 4) (codes "y") t) (codes "y")) (holders a (member 4)) holder.0 x holder.1 refl in
    offences.occurs_stands a (member 4) (codes "y") (pos 2 10)
    (offences.occurs_at a (member 4) (codes "y") y (pos 2 10)
    (offences.of_file two_objects a h (member 4) (codes "y") y (subst (In y) (sym two_objects_lexed) (4, refl))) any (0, refl))

pub two_objects_broken : BreaksMeaning two_objects 4 (codes "y")
unfolding read_within whole take_one at_end enter spelled_class base_class class_at acted opened closed binding_of walked spell_from
two_objects_broken = breaks two_objects 4 (codes "y") (tree_of two_objects.toks) (bound_of two_objects.toks) two_objects_read (λ a so.
    differ (ap (λ (r : Result Bound Fault). bytes_eq (entities r) (entities (Ok (bound_of two_objects.toks)))) so.binds))

-- ---- int yyy,yyy; which is pasted of y and yy

pub pasted_names_offence : IsOffence pasted_names 32 (codes "y") Clash 32
unfolding spelled_from
pasted_names_offence a h =
    let first : Token = pasted_name true 32 20 21 (codes "xyy") in
    let second : Token = pasted_name false 23 24 32 (codes "yyx") in
    let holder = offences.holder_pasted pasted_names a h (member 32) (codes "y") first (0, refl) refl in
    let other = offences.holder_pasted pasted_names a h (member 32) (codes "y") second (1, refl) refl in
    let any = any_at (λ (t : Token). bytes_eq (spelled (member 32) (codes "y") t) (spelled (member 32) (codes "y") first) && not (bytes_eq t.text first.text))
    (holders a (member 32)) other.0 second other.1 refl in
    offences.clash_stands a (member 32) (codes "y") (pos 2 32)
    (offences.clashes_at a (member 32) (codes "y") first (pos 2 32) holder any (0, refl))

pub pasted_names_broken : BreaksMeaning pasted_names 32 (codes "y")
unfolding read_within whole take_one at_end enter spelled_class base_class class_at acted opened closed binding_of walked spell_from
pasted_names_broken = breaks pasted_names 32 (codes "y") (tree_of pasted_names.toks) (bound_of pasted_names.toks) pasted_names_read (λ a so.
    differ (ap (λ (r : Result Bound Fault). bytes_eq (entities r) (entities (Ok (bound_of pasted_names.toks)))) so.binds))

-- ---- g(T), where T is a typedef name

pub hidden_typedef_offence : IsOffence hidden_typedef 31 (codes "U") ShadowedTypedef 39
unfolding read_within whole take_one at_end enter spelled_class base_class class_at acted opened closed binding_of walked
hidden_typedef_offence a h =
    let variable : Token = word true 31 (codes "T") in
    let bare : Token = word false 39 (codes "T") in
    let holder : In variable (holders a (member 31)) =
    offences.holder_of_file hidden_typedef a h (member 31) (codes "U") variable (subst (In variable) (sym hidden_typedef_lexed) (11, refl)) refl refl in
    let any = any_at (λ (t : Token). bytes_eq t.text (codes "T")) (holders a (member 31)) holder.0 variable holder.1 refl in
    offences.shadow_stands a (member 31) (codes "U") (pos 2 39)
    (offences.shadowed_at hidden_typedef a h (member 31) (codes "U") (bound_of hidden_typedef.toks)
    (its_bound hidden_typedef (tree_of hidden_typedef.toks) (bound_of hidden_typedef.toks) hidden_typedef_read a h)
    16 bare (pos 2 39) (0, refl) refl refl any (0, refl))

pub hidden_typedef_broken : BreaksMeaning hidden_typedef 31 (codes "U")
unfolding read_within whole take_one at_end enter spelled_class base_class class_at acted opened closed spell_from
hidden_typedef_broken = breaks hidden_typedef 31 (codes "U") (tree_of hidden_typedef.toks) (bound_of hidden_typedef.toks) hidden_typedef_read (λ a so.
    differ (ap (λ (r : Result Node Stop). size r == size (Ok (tree_of hidden_typedef.toks))) so.reads))
