use Rattle.std.proofs.Common.{◌≡◌, ◌-◌, ◌++◌, ℕ, List, take, drop, arith, refl, sym, ap, ◌∙◌}
use Rattle.part_respell.proofs.WalkLemmas.{between_within, made_between, made_none, made_end, made_large, made_character, made_other, small}
use Rattle.part_respell.specs.Respelled.{respelled}
use Rattle.part_respell.proofs.respelling.respell.Goals as goal
use Rattle.part_respell.proofs.respelling.respell.Goals.{then-is_character+in_ok-push, else-is_character+in_ok-push-2}

pub bytes-init : goal.bytes-init
bytes-init c = rw c.new-out.ensures.items (made_none c.args.members.now c.args.name.now c.args.file c.args.bytes.now c.requires.in_order)

pub between-requires-clause-up : goal.between-requires-clause-up
between-requires-clause-up c =
    let two = between_within c.args.members.now c.args.name.now c.args.file c.args.bytes.now c.bytes.left.now c.bytes.offset c.bytes.at c.bytes.out.items
    c.bytes-test.true (sym c.if-is_between.ensures) c.bytes.invariant in
    omega (arith, two.0, c.next_byte-next.ensures)

pub between-requires-clause-within : goal.between-requires-clause-within
between-requires-clause-within c =
    let two = between_within c.args.members.now c.args.name.now c.args.file c.args.bytes.now c.bytes.left.now c.bytes.offset c.bytes.at c.bytes.out.items
    c.bytes-test.true (sym c.if-is_between.ensures) c.bytes.invariant in
    omega (arith, two.1, c.next_byte-next.ensures)

pub bytes-smaller-then-is_between : goal.bytes-smaller-then-is_between
bytes-smaller-then-is_between c =
    let two = between_within c.args.members.now c.args.name.now c.args.file c.args.bytes.now c.bytes.left.now c.bytes.offset c.bytes.at c.bytes.out.items
    c.bytes-test.true (sym c.if-is_between.ensures) c.bytes.invariant in
    omega (arith, two.0, two.1, c.next_byte-next.ensures)

pub bytes-preserved-then-is_between : goal.bytes-preserved-then-is_between
bytes-preserved-then-is_between c =
    let out = c.bytes.out.items in
    let bytes = c.args.bytes.now in
    rw (c.next_byte-next.ensures, c.next_at-at.ensures)
    (made_between c.args.members.now c.args.name.now c.args.file bytes out c.extend_from_slice.new.self.items c.bytes.offset c.bytes.at c.bytes.left.now
    c.bytes-test.true (sym c.if-is_between.ensures)
    (c.in_ok-extend_from_slice.ensures.items
    ∙ ap (λ (more : List ℕ). out ++ more) (c.between.ensures ∙ ap (λ (n : ℕ). take (n - c.bytes.offset) (drop c.bytes.offset bytes)) c.next_byte-next.ensures))
    c.bytes.invariant)

pub overflow_add-at : goal.overflow_add-at
overflow_add-at c =
    let few = small c.args.file c.args.bytes.now c.args.text.now c.requires.lexed in
    let behind = c.bytes.invariant.behind c.bytes-test.true in
    omega (arith, few, behind, c.bytes-test.true)

pub returns-then-len-most : goal.returns-then-len-most
returns-then-len-most c =
    made_large c.args.members.now c.args.name.now c.args.file c.args.bytes.now c.args.most c.bytes.out.items c.bytes.offset
    c.bytes.at c.bytes.left.now (omega (arith, c.if-len-most.true, c.len.ensures)) c.bytes.invariant

pub bytes-preserved : goal.bytes-preserved
bytes-preserved c =
    elim c.if-is_character.branch [
      | then-is_character+in_ok-push w ↦
          rw (w.out-is, w.left-is, w.at-is)
          (made_character c.args.members.now c.args.name.now c.args.file c.args.bytes.now c.bytes.out.items w.push.new.out.items
          c.bytes.offset c.bytes.at _ c.bytes.left.now w.behind-left.result.now c.bytes-test.true refl
          (sym w.if-is_character.ensures) (rw (← w.over.ensures) w.in_ok-push.ensures) w.behind-left.ensures.left w.behind-left.ensures.same
          c.bytes.invariant)
      | else-is_character+in_ok-push-2 w ↦
          rw (w.out-is, w.left-is, w.at-is)
          (made_other c.args.members.now c.args.name.now c.args.file c.args.bytes.now c.bytes.out.items w.push-else-is_character.new.self.items
          c.bytes.offset c.bytes.at _ c.bytes.left.now c.bytes-test.true refl (sym w.if-is_character.ensures)
          w.in_ok-push-2.ensures.items c.bytes.invariant)
    ]

pub returns : goal.returns
returns c =
    let whole : c.bytes.out.items ≡ respelled c.args.members.now c.args.name.now c.args.file c.args.bytes.now =
    made_end c.args.members.now c.args.name.now c.args.file c.args.bytes.now c.bytes.out.items c.bytes.offset c.bytes.at c.bytes.left.now (omega (arith, c.bytes-test.false)) c.bytes.invariant in
    (whole, rw (← whole) (omega (arith, c.if-len-most-2.false, c.len-2.ensures)))
