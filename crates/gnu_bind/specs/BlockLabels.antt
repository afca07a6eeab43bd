-- Labels that a block declares by `__label__`, and those of the function (ISO/IEC 9899:1999, 6.2.1 paragraph 3), in GNU
-- C.
use Rattle.std.specs.Prelude.{ℕ, ◌+◌, true, false, List, Option, None, Some, is_some, if◌then◌else◌}
use Rattle.cs_base.specs.Token.{Token}
use Rattle.c_types.specs.declared.entity.EntityKind.TheVariants.{Label}
use Rattle.c_types.specs.declared.entity.Linkage.TheVariants.{Absent}
use Rattle.c_types.specs.declared.declarations.Cause.TheVariants.{NoLabel as no_label, Redeclared as redeclared}
use Rattle.c_types.specs.Types.{arithmetic}
use Rattle.c_types.specs.declared.declarations.Space.{Space}
use Rattle.c_types.specs.declared.declarations.Space.TheVariants.{Labels as labels}
use Rattle.c_types.specs.declared.declarations.Declaration.{Declaration}
use Rattle.c_types.specs.Declarations.{Facts, is_in, with_fault, with_use, with_begun, with_declaration, visible, in_scope}
use Rattle.c_types.specs.declared.frames.Scope.{Scope}
use Rattle.c_types.specs.declared.frames.Frame.{Frame}
use Rattle.scope_bind.specs.Labels.{with_label, with_jump}
use Rattle.gnu_bind.specs.declared.senses.Sense.{Sense}

-- their name space: no body begins at token 0
abbrev pub block_labels : Space
block_labels = labels 0

-- the label is declared from behind its name to the end of the block
abbrev pub block_label : Scope → ℕ → Declaration
block_label scope i = record {
  space = block_labels;
  name_at = i;
  entity = i;
  kind = Label;
  linkage = Absent;
  ctype = arithmetic;
  depth = scope.depth;
  from = i + 1;
  to = scope.to;
  listed = false;
}

-- a statement with the label of a block, which it has at most once
abbrev pub block_label_used : ℕ → ℕ → Facts → Facts
block_label_used i entity facts = with_begun true entity (with_use i entity (with_fault (is_in facts.begun entity) redeclared i facts))

-- a jump to a label of the function, which may stand behind it
abbrev pub function_jump : Sense → ℕ → Facts → Facts
function_jump s i facts = if s.homeless then with_fault true no_label i facts else with_jump i facts

module _ (toks : List Token) where
  -- `__label__`: a label once in a block
  abbrev pub with_block_label : Scope → ℕ → Facts → Facts
  with_block_label scope i facts =
      with_declaration (block_label scope i) (with_fault (is_some (in_scope toks block_labels scope.depth i i facts)) redeclared i facts)

  -- the label of the innermost block that declares one of the name
  abbrev pub block_label_at : Sense → ℕ → Facts → Option Declaration
  block_label_at s i facts = if s.labels then visible toks block_labels i i facts else None

  -- a label of the function
  abbrev pub function_label : Sense → Frame → ℕ → Facts → Facts
  function_label s f i facts = if s.homeless then with_fault true no_label i facts else with_label toks f.body i facts

  -- given that label of a block
  abbrev pub labelled_by : Option Declaration → Sense → Frame → ℕ → Facts → Facts
  labelled_by None s f i facts = function_label s f i facts
  labelled_by (Some d) s f i facts = block_label_used i d.entity facts

  -- a labeled statement (6.8.1)
  abbrev pub labelled : Sense → Frame → ℕ → Facts → Facts
  labelled s f i facts = labelled_by (block_label_at s i facts) s f i facts

  abbrev pub jumped_by : Option Declaration → Sense → ℕ → Facts → Facts
  jumped_by None s i facts = function_jump s i facts
  jumped_by (Some d) s i facts = with_use i d.entity facts

  -- a `goto`, a label of an `asm goto`, and the address of a label, which need not stand in a body
  abbrev pub jumped : Sense → ℕ → Facts → Facts
  jumped s i facts = jumped_by (block_label_at s i facts) s i facts
