use Rattle.std.proofs.Common.{◌≡◌, take}
use Rattle.std.specs.List.{flat_map}
use Rattle.class_marks.specs.declared.roles.Role.{Role}
use Rattle.class_marks.specs.ClassRoles.{of_role}
use Rattle.class_marks.specs.Marks.{with_tokens}
use Rattle.class_marks.specs.Roles.{event_name}
use Rattle.class_marks.proofs.all_roles.add_events.Given as goal

abbrev pub invariant-loop-event : goal.invariant-loop-event
invariant-loop-event l = (role : Role) → of_role role l.all.items
    ≡ with_tokens l.classes (of_role role l.initial.all.items) (flat_map (event_name role) (take l.event-index l.events))
