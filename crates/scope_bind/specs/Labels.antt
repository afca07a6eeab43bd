-- Label names (ISO/IEC 9899:1999, 6.2.1 paragraph 3 and 6.8.6.1): their scope is the function, before them too.
use Rattle.std.specs.Prelude.{ℕ, true, false, List, [], ◌∷◌, ◌++◌, Option, None, Some, is_some}
use Rattle.cs_base.specs.Token.{Token}
use Rattle.c_types.specs.declared.entity.EntityKind.TheVariants.{Label}
use Rattle.c_types.specs.declared.entity.Linkage.TheVariants.{Absent}
use Rattle.c_types.specs.declared.declarations.Cause.TheVariants.{NoLabel as no_label, Redeclared as redeclared}
use Rattle.c_types.specs.Types.{arithmetic}
use Rattle.c_types.specs.declared.declarations.Space.TheVariants.{Labels as labels}
use Rattle.c_types.specs.declared.declarations.Declaration.{Declaration}
use Rattle.c_types.specs.Declarations.{Facts, with_fault, with_use, with_declaration, anywhere}
use Rattle.c_types.specs.declared.frames.Body.{Body}

abbrev pub label_declaration : Body → ℕ → Declaration
label_declaration b i = record {
  space = labels b.from;
  name_at = i;
  entity = i;
  kind = Label;
  linkage = Absent;
  ctype = arithmetic;
  depth = 1;
  from = b.from;
  to = b.to;
  listed = false;
}

-- a `goto`, whose label may stand behind it
abbrev pub with_jump : ℕ → Facts → Facts
with_jump i facts = record facts { jumps = facts.jumps ++ i ∷ [] }

module _ (toks : List Token) where
  -- a labeled statement (6.8.1 paragraph 3: a label once in a function)
  abbrev pub with_label : Option Body → ℕ → Facts → Facts
  with_label None i facts = facts
  with_label (Some b) i facts =
      with_declaration (label_declaration b i) (with_fault (is_some (anywhere toks (labels b.from) i facts)) redeclared i facts)

  abbrev pub jump_to : ℕ → Option Declaration → Facts → Facts
  jump_to i None facts = with_fault true no_label i facts
  jump_to i (Some d) facts = with_use i d.entity facts

  -- the `goto`s of a function, once its body is read
  abbrev pub with_jumps : Body → List ℕ → Facts → Facts
  with_jumps b [] facts = facts
  with_jumps b (i ∷ later) facts = with_jumps b later (jump_to i (anywhere toks (labels b.from) i facts) facts)

  abbrev pub with_labels : Option Body → Facts → Facts
  with_labels None facts = facts
  with_labels (Some b) facts = with_jumps b facts.jumps facts
