-- Linkages of identifiers (ISO/IEC 9899:1999, 6.2.2).
-- Differs: a declaration at file scope with `register` or `auto` has none.
use Rattle.std.specs.Prelude.{ℕ, Bool, ◌&&◌, ◌||◌, not, Option, None, Some, if◌then◌else◌, ◌==◌}
use Rattle.c_types.specs.declared.entity.Linkage.{Linkage}
use Rattle.c_types.specs.declared.entity.Linkage.TheVariants.{External, Internal, Absent}
use Rattle.c_types.specs.declared.frames.Words.{Words}
use Rattle.c_types.specs.declared.declarations.Declaration.{Declaration}
use Rattle.c_types.specs.Declarations.{has_linkage}

-- that of a prior declaration that is visible, if it has one, and else external (paragraph 4)
abbrev pub prior_linkage : Option Declaration → Linkage
prior_linkage None = External
prior_linkage (Some d) = if has_linkage d.linkage then d.linkage else External

-- The linkage is that of a prior declaration: with `extern`, and of a function without a storage-class specifier,
-- in a block without `static` (paragraphs 4 and 5).
abbrev pub follows_prior : ℕ → Bool → Words → Bool
follows_prior depth of_function words =
    if depth == 0 then not words.has_static && (words.has_extern || (of_function && not words.has_any))
    else words.has_extern || (of_function && not words.has_static)

-- it is the one that the words give: at file scope internal with `static` and external without a word, and none
-- in a block (paragraphs 3, 5 and 6)
abbrev pub own_linkage : ℕ → Words → Linkage
own_linkage depth words =
    if depth == 0 then (if words.has_static then Internal else (if words.has_any then Absent else External)) else Absent

-- the linkage of an object or function with these specifiers, with so many scopes around
abbrev pub linkage_of : ℕ → Bool → Words → Option Declaration → Linkage
linkage_of depth of_function words prior =
    if follows_prior depth of_function words then prior_linkage prior else own_linkage depth words
