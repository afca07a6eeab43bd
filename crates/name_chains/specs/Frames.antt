-- What is known inside a node: its scope, its function, and what its children have said so far.
use Rattle.std.specs.Prelude.{ℕ, false, None}
use Rattle.c99_tree.specs.declared.production.Production.TheVariants.{TranslationUnit}
use Rattle.c_types.specs.declared.frames.Frame.{Frame}
use Rattle.c_types.specs.declared.frames.Words.{Words}
use Rattle.c_types.specs.declared.frames.Position.TheVariants.{Beyond as beyond}
use Rattle.c_types.specs.Types.{arithmetic}
use Rattle.c_types.specs.Declarations.{Facts, no_facts}

pub record State : Type 0 where
  pub facts : Facts
  pub frame : Frame

abbrev pub state : Facts → Frame → State
state facts frame = record { facts = facts; frame = frame }

abbrev pub no_words : Words
no_words = record { has_typedef = false; has_extern = false; has_static = false; has_any = false; anonymous = false }

-- the frame of a unit of so many tokens: file scope (6.2.1 paragraph 4)
abbrev pub outermost : ℕ → Frame
outermost count = record {
  label = record { production = TranslationUnit; alternative = 1 };
  nth = 0;
  token = 0;
  scope = record { depth = 0; to = count };
  body = None;
  listing = false;
  alone = false;
  has_body = false;
  base = arithmetic;
  words = no_words;
  kept = None;
  owner = 0;
  given = arithmetic;
  found = arithmetic;
  position = beyond;
}

-- before the first token
abbrev pub at_first : ℕ → State
at_first count = record { facts = no_facts; frame = outermost count }
