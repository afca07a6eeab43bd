-- What an inclusion brings that other units may need, and whether it brings whole declarations (ISO/IEC 9899:1999, 6.2.2, 6.7.1,
-- 6.9, 6.9.1 and 6.9.2).
use Rattle.std.specs.Prelude.{ℕ, ◌-◌, ◌==◌, ◌&&◌, ◌||◌, not, nat_lt, Bool, true, false, Option, Some, None, List, length, if◌then◌else◌}
use Rattle.std.specs.List.{list_any}
use Rattle.std.specs.Option.{option_map_or}
use Rattle.analysis.specs.Below.c99_tree.declared.production.Production.{Production}
use Rattle.analysis.specs.Below.c99_tree.declared.production.Production.TheVariants.{Init, Specs}
use Rattle.analysis.specs.Below.c99_tree.Tree.{Forest, none, token, node}
use Rattle.analysis.specs.Below.c_types.declared.entity.EntityKind.{EntityKind}
use Rattle.analysis.specs.Below.c_types.declared.entity.EntityKind.TheVariants.{Object}
use Rattle.analysis.specs.Below.c_types.declared.entity.Linkage.{Linkage}
use Rattle.analysis.specs.Below.c_types.declared.entity.Linkage.TheVariants.{External}
use Rattle.analysis.specs.Below.c_types.declared.lists.Range.{Range}
use Rattle.analysis.specs.Below.c_types.Trees.{is_node, words_of}
use Rattle.analysis.specs.Below.scope_bind.declared.bound.Name.{Name}
use Rattle.analysis.specs.Below.scope_bind.Names.{entity_at, declares_at, kind_at, linkage_at}
use Rattle.analysis.specs.Analysis.{UnitAnalysis}
use Rattle.unused_names.specs.Inclusions.{end_of, tokens_before}
use Rattle.trim_rules.specs.Numbers.{first_from}

-- ---- whole declarations

-- one of these children is a node that begins at token k
abbrev pub begins_node : ℕ → Forest → Bool
begins_node k none = false
begins_node k (token i rest) = begins_node k rest
begins_node k (node l first under rest) = (first == k) || begins_node k rest

-- an external declaration begins at token k of a text of so many, or the text ends there
abbrev pub is_edge : Forest → ℕ → ℕ → Bool
is_edge tree count k = (k == count) || (nat_lt k count && begins_node k tree)

-- The inclusion that event k begins brings no token, or those of whole external declarations, one after another.
abbrev pub is_whole : UnitAnalysis → ℕ → Bool
is_whole u k =
    (tokens_before u.text k == tokens_before u.text (end_of u.text.events k))
    || (is_edge u.tree.under (length u.text.toks) (tokens_before u.text k)
    && is_edge u.tree.under (length u.text.toks) (tokens_before u.text (end_of u.text.events k)))

-- ---- definitions

-- a node of the production stands below
abbrev pub has_below : Production → Forest → Bool
has_below p none = false
has_below p (token i rest) = has_below p rest
has_below p (node l first under rest) = is_node l p || (has_below p under || has_below p rest)

-- `extern` is among the specifiers of an external declaration with these children (6.7.1)
abbrev pub has_extern : Forest → Bool
has_extern none = false
has_extern (token i rest) = has_extern rest
has_extern (node l first under rest) = (is_node l Specs && (words_of under).has_extern) || has_extern rest

-- what it declares it does not define: `extern` is among its specifiers, and nothing is initialized (6.9.2)
abbrev pub only_declares : Forest → Bool
only_declares f = has_extern f && not (has_below Init f)

-- the next child that is a node begins behind token k, or there is none
abbrev pub goes_behind : ℕ → Forest → Bool
goes_behind k none = true
goes_behind k (token i rest) = goes_behind k rest
goes_behind k (node l first under rest) = nat_lt k first

-- the declaration that token k stands in only declares: it is the first child behind which the next one begins behind the token
abbrev pub only_declared : ℕ → Forest → Bool
only_declared k none = false
only_declared k (token i rest) = only_declared k rest
only_declared k (node l first under rest) = if goes_behind k rest then only_declares under else only_declared k rest

abbrev pub is_external : Linkage → Bool
is_external External = true
is_external _ = false

abbrev pub is_object : Option EntityKind → Bool
is_object (Some Object) = true
is_object _ = false

-- token k declares what has external linkage (6.2.2)
abbrev pub declares_external : List Name → ℕ → Bool
declares_external names k = declares_at names k && option_map_or (λ e. is_external (linkage_at names e)) (entity_at names k) false

abbrev pub declares_object : List Name → ℕ → Bool
declares_object names k = option_map_or (λ e. is_object (kind_at names e)) (entity_at names k) false

-- token k is the name of a function whose body follows (6.9.1)
abbrev pub has_body : List Range → ℕ → Bool
has_body functions k = list_any (λ (r : Range). r.name == k) functions

-- Token k names what other units may use: a function with its body, or an object that is not declared alone.
abbrev pub names_for_others : Forest → List Name → List Range → ℕ → Bool
names_for_others tree names functions k =
    declares_external names k && (has_body functions k || (declares_object names k && not (only_declared k tree)))

abbrev pub defines : UnitAnalysis → ℕ → Bool
defines u k = nat_lt k (length u.text.toks) && names_for_others u.tree.under u.bound.names u.bound.functions k

-- the first such token that the inclusion brings
abbrev pub first_defining : UnitAnalysis → ℕ → Option ℕ
first_defining u k =
    first_from (defines u) (tokens_before u.text k) (tokens_before u.text (end_of u.text.events k) - tokens_before u.text k)
