use Rattle.std.proofs.Common.{◌≡◌, ◌++◌, drop}
use Rattle.std.specs.List.{flat_map}
use Rattle.cs_base.specs.declared.tokens.Kind.TheVariants.{Str}
use Rattle.paste_origin.specs.Strings.{escaped}
use Rattle.macro_body.proofs.predefined.push_escaped_path.Given as goal

-- the characters read so far are added
abbrev pub invariant-loop-c : goal.invariant-loop-c
invariant-loop-c l = l.text.items ++ flat_map (escaped Str) (drop l.c-index l.path) ≡ l.initial.text.items ++ flat_map (escaped Str) l.path
