use Rattle.std.proofs.Common.{◌≡◌, ◌++◌, take}
use Rattle.std.specs.Prelude.{map}
use Rattle.std.specs.List.{flat_map}
use Rattle.template_rules.specs.GnuOffences.{declared_text}
use Rattle.template_rules.proofs.gnu_texts.push_spellings.Given as goal

abbrev pub invariant-loop-name : goal.invariant-loop-name
invariant-loop-name l =
    map (λ t. t.now) l.out.items ≡ map (λ t. t.now) l.initial.out.items
    ++ flat_map (declared_text l.unit.class.members l.unit.text.now.toks l.unit.bound.now.names) (take l.name-index l.names)
