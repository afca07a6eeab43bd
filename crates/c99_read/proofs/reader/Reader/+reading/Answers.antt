use Rattle.std.proofs.Common.{ℕ, ◌-◌, Result, Ok, sym, ap, subst, ◌∙◌, arith}
use Rattle.c99_tree.specs.Tree.{Node}
use Rattle.c99_tree.specs.declared.production.Production.{Production}
use Rattle.c99_tree.specs.declared.production.Production.TheVariants.{Cast}
use Rattle.c99_grammar.specs.Items.{Item, part, ◌·◌}
use Rattle.c99_grammar.specs.Standard.{grammar}
use Rattle.c99_read.specs.declared.faults.ReadRefusal.{ReadRefusal}
use Rattle.c99_read.specs.Answer.{IsBegun, Reads, ReadsNode}
use Rattle.c99_read.specs.Leading.{CanBeLeftOut}
use Rattle.c99_read.specs.Levels.{height, level_of, size, Met}
use Rattle.c99_read.specs.State.{State}
use Rattle.c99_read.specs.Reading.{Step, step, alternative, whole, produce}
use Rattle.std.specs.Option.{option_map}
use Rattle.c99_grammar.specs.ItemsOf.{item_of, test_of}
use Rattle.c99_read.specs.Choosing.{choice_of}
use Rattle.c99_read.proofs.RowLemmas.{row-ready}
use Rattle.c99_read.proofs.TurnLemmas.{many-turn, many-falls}
use Rattle.c99_read.proofs.LedLemmas.{node-chosen, node-none, node-pushed, node-stopped, node-passed, read-passed, opened-ends, opened-stopped, led-left, led-stopped, led-ends, led-stopped-behind, alone-left, alone-stopped, single-read}
use Rattle.c99_read.proofs.OperatorLemmas.{Under, binary-none, binary-ready, binary-read, cast-below, cast-under, left-out, over-left, under-end, under-left, under-next, under-stops}
use Rattle.c99_read.specs.Operators.{is_binary, operand_of, rungs}
use Rattle.c99_read.proofs.reader.Reader.+reading.Goals as goal

-- ---- a production

pub produce-returns-clause-answer : goal.produce-returns-clause-answer
produce-returns-clause-answer t c =
    let read : State → Step = whole (grammar c.args.dialect) c.args.depth (produce c.args.production) in
    let P : Step → Type 0 = Reads c.push.result c.push.new.self.state in
    subst P (sym (node-pushed c.in_ok-node.node c.args.self.now.state c.node.new.self.state read c.in_ok-node.ensures.answer)) c.push.ensures.answer

pub produce-returns-in_err-node-clause-answer : goal.produce-returns-in_err-node-clause-answer
produce-returns-in_err-node-clause-answer t c =
    let read : State → Step = whole (grammar c.args.dialect) c.args.depth (produce c.args.production) in
    read-passed c.in_err-node.field-0.0 c.from_residual.result c.node.new.self.state (read c.args.self.now.state) c.from_residual.ensures.1
    (node-stopped c.in_err-node.field-0.0 c.args.self.now.state c.node.new.self.state read c.in_err-node.ensures.answer)

pub node-alternative-requires : goal.node-alternative-requires
node-alternative-requires t c =
    let ready = row-ready c.args.dialect c.args.production c.args.self.now.state (choice_of c.in-Some.chosen) (sym c.chosen.ensures ∙ ap (option_map choice_of) c.in-Some.is) in
    (omega (arith, c.decreases), (c.requires.by, (c.requires.deep, (ready.low, (ready.short, ready.met)))))

pub node-returns-in-Some-clause-answer : goal.node-returns-in-Some-clause-answer
node-returns-in-Some-clause-answer t c =
    node-chosen c.args.dialect c.args.depth c.args.production (choice_of c.in-Some.chosen) c.alternative.result c.args.self.now.state c.alternative.new.self.state
    (sym c.chosen.ensures ∙ ap (option_map choice_of) c.in-Some.is) c.alternative.ensures.answer

pub node-returns-in-None-clause-answer : goal.node-returns-in-None-clause-answer
node-returns-in-None-clause-answer t c =
    let s = c.args.self.now.state in
    let P : Result Node ReadRefusal → Type 0 = λ r. ReadsNode r s s (whole (grammar c.args.dialect) c.args.depth (produce c.args.production)) in
    subst P (sym c.no_node-in-None.ensures)
    (node-none c.args.dialect c.args.depth c.args.production s (sym c.chosen.ensures ∙ ap (option_map choice_of) c.in-None.is))

pub node-returns-then-is_binary-clause-answer : goal.node-returns-then-is_binary-clause-answer
node-returns-then-is_binary-clause-answer t c =
    let s = c.args.self.now.state in
    let P : Result Node ReadRefusal → Type 0 = λ r. ReadsNode r s s (whole (grammar c.args.dialect) c.args.depth (produce c.args.production)) in
    subst P (sym c.no_node.ensures)
    (binary-none c.args.dialect c.args.depth c.args.production s (sym c.is_binary.ensures ∙ c.if-is_binary.true) (sym c.begins.ensures ∙ c.if-begins.false))

-- ---- an operand and its operators

pub binary-node-requires : goal.binary-node-requires
binary-node-requires t c =
    let below = cast-below c.args.production c.requires.binary in
    (omega (arith, c.decreases, below), (c.requires.by, c.requires.deep))

pub binary-rungs-init : goal.binary-rungs-init
binary-rungs-init t c =
    let P : ℕ → Type 0 = λ n. Under n Cast c.args.production in
    (c.node.ensures.by, subst P (sym c.rungs-left.ensures) (cast-under c.args.production c.requires.binary), c.in_ok-node.ensures.answer)

pub binary-over_first-requires : goal.binary-over_first-requires
binary-over_first-requires t c =
    let next = under-next c.rungs.left c.rungs.read c.args.production c.rungs-test.true c.rungs.invariant.1 in
    let same = ap level_of c.over-read.ensures in
    (omega (arith, c.decreases, next.level, same), (c.rungs.invariant.0, (c.requires.deep, ap is_binary c.over-read.ensures ∙ next.step.binary)))

pub binary-rungs-preserved : goal.binary-rungs-preserved
binary-rungs-preserved t c =
    let next = under-next c.rungs.left c.rungs.read c.args.production c.rungs-test.true c.rungs.invariant.1 in
    let s = c.args.self.now.state in
    let read : Production → State → Step = λ q. whole (grammar c.args.dialect) c.args.depth (produce q) in
    let N : Production → Type 0 = λ q. ReadsNode (Ok c.rungs.node) s c.rungs.self.state (read q) in
    let U : Production → Type 0 = λ q. Under (c.rungs.left - 1) q c.args.production in
    let begun : IsBegun c.begun-begun.result c.args.self.now.state = record { at = c.begun-begun.ensures.at; near = c.begun-begun.ensures.near } in (
      c.over_first.ensures.by,
      subst U (sym c.over-read.ensures) next.under,
      c.in_ok-node-2.ensures.answer s begun c.requires.starts (subst N (sym (ap operand_of c.over-read.ensures ∙ next.step.operand)) c.rungs.invariant.2),
    )

pub binary-returns-then-is_past-clause-answer : goal.binary-returns-then-is_past-clause-answer
binary-returns-then-is_past-clause-answer t c =
    let s1 = c.rungs.self.state in
    under-left c.args.dialect c.args.depth c.rungs.left c.rungs.read c.args.production c.args.self.now.state s1 c.end.new.self.state c.rungs.node c.rungs-test.true
    c.rungs.invariant.1 (sym c.is_past.ensures ∙ c.if-is_past.true) c.requires.starts c.rungs.invariant.2
    (c.end.ensures.answer ∙ ap (λ near. record s1 { near = near }) c.begun-begun.ensures.near)

pub binary-returns-clause-answer : goal.binary-returns-clause-answer
binary-returns-clause-answer t c =
    let read : Production → State → Step = λ q. whole (grammar c.args.dialect) c.args.depth (produce q) in
    let N : Production → Type 0 = λ q. ReadsNode (Ok c.rungs.node) c.args.self.now.state c.rungs.self.state (read q) in
    subst N (under-end c.rungs.left c.rungs.read c.args.production (omega (arith, c.rungs-test.false)) c.rungs.invariant.1) c.rungs.invariant.2

pub binary-returns-in_err-node-clause-answer : goal.binary-returns-in_err-node-clause-answer
binary-returns-in_err-node-clause-answer t c =
    let s = c.args.self.now.state in
    let s1 = c.node.new.self.state in
    let p = c.args.production in
    let e = c.in_err-node.field-0.0 in
    node-passed e c.from_residual.result s s1 (whole (grammar c.args.dialect) c.args.depth (produce p)) c.from_residual.ensures.1
    (under-stops c.args.dialect c.args.depth (rungs p) Cast p s s1 e (cast-under p c.requires.binary) c.requires.starts c.in_err-node.ensures.answer)

pub binary-returns-in_err-node-2-clause-answer : goal.binary-returns-in_err-node-2-clause-answer
binary-returns-in_err-node-2-clause-answer t c =
    let next = under-next c.rungs.left c.rungs.read c.args.production c.rungs-test.true c.rungs.invariant.1 in
    let s = c.args.self.now.state in
    let s1 = c.over_first.new.self.state in
    let p = c.args.production in
    let e = c.in_err-node-2.field-0.0 in
    let read : Production → State → Step = λ q. whole (grammar c.args.dialect) c.args.depth (produce q) in
    let N : Production → Type 0 = λ q. ReadsNode (Ok c.rungs.node) s c.rungs.self.state (read q) in
    let U : Production → Type 0 = λ q. Under (c.rungs.left - 1) q p in
    let begun : IsBegun c.begun-begun.result c.args.self.now.state = record { at = c.begun-begun.ensures.at; near = c.begun-begun.ensures.near } in
    node-passed e c.from_residual-in_err-node-2.result s s1 (read p) c.from_residual-in_err-node-2.ensures.1
    (under-stops c.args.dialect c.args.depth (c.rungs.left - 1) c.over-read.result p s s1 e (subst U (sym c.over-read.ensures) next.under) c.requires.starts
    (c.in_err-node-2.ensures.answer s begun c.requires.starts (subst N (sym (ap operand_of c.over-read.ensures ∙ next.step.operand)) c.rungs.invariant.2)))

pub over_first-joined-requires : goal.over_first-joined-requires
over_first-joined-requires t c =
    let std = c.args.dialect in
    let p = c.args.production in
    let ready = binary-ready std p c.requires.binary in
    let high = ap height c.rest_of-rest.ensures in
    let long = ap size c.rest_of-rest.ensures in
    let P : Item → Type 0 = CanBeLeftOut p in (
      omega (arith, c.decreases),
      (
        c.requires.by,
        (
          c.requires.deep,
          (
            subst P (sym c.rest_of-rest.ensures) (left-out std p c.requires.binary),
            (omega (arith, ready.low, high), (omega (arith, ready.short, long), subst Met (sym c.rest_of-rest.ensures) ready.met.1)),
          ),
        ),
      ),
    )

pub over_first-returns-then-goes_on-clause-answer : goal.over_first-returns-then-goes_on-clause-answer
over_first-returns-then-goes_on-clause-answer t c = λ s begun starts m.
    let std = c.args.dialect in
    let p = c.args.production in
    let P : Item → Type 0 = λ rest. ReadsNode c.joined.result s c.joined.new.self.state (alternative (grammar std) (whole (grammar std)) c.args.depth p 1 (part (operand_of p) · rest)) in
    binary-read std c.args.depth p c.joined.result s c.joined.new.self.state c.requires.binary starts
    (subst P c.rest_of-rest.ensures (c.joined.ensures.answer s (operand_of p) begun m))

pub over_first-returns-else-goes_on-clause-answer : goal.over_first-returns-else-goes_on-clause-answer
over_first-returns-else-goes_on-clause-answer t c = λ s begun starts m.
    let s1 = c.args.self.now.state in
    over-left c.args.dialect c.args.depth c.args.production s s1 c.end.new.self.state c.args.first c.requires.binary starts m
    (sym c.goes_on.ensures ∙ c.if-goes_on.false) (c.end.ensures.answer ∙ ap (λ near. record s1 { near = near }) begun.near)

pub joined-item-requires : goal.joined-item-requires
joined-item-requires t c =
    (omega (arith, c.decreases, c.requires.low, c.requires.short), (c.wrap.ensures.by, (c.requires.deep, c.requires.met)))

pub joined-returns-clause-answer : goal.joined-returns-clause-answer
joined-returns-clause-answer t c = λ s below begun m.
    led-ends (grammar c.args.dialect) c.args.depth c.args.production c.args.number below (item_of c.args.rest.now) c.requires.optional s c.args.self.now.state
    c.wrap.new.self.state c.item.new.self.state c.close.new.self.state c.args.first c.close.result c.wrap.new.outer c.args.begun begun m c.in_ok-wrap.ensures.answer
    c.in_ok-item.ensures.answer c.close.ensures.answer

pub joined-returns-in_err-item-clause-answer : goal.joined-returns-in_err-item-clause-answer
joined-returns-in_err-item-clause-answer t c = λ s below begun m.
    let p = c.args.production in
    let g = grammar c.args.dialect in
    let e = c.in_err-item.field-0.0 in
    let rest = item_of c.args.rest.now in
    node-passed e c.from_residual-in_err-item.result s c.item.new.self.state (alternative g (whole g) c.args.depth p c.args.number (part below · rest))
    c.from_residual-in_err-item.ensures.1
    (led-stopped-behind g c.args.depth p c.args.number below rest c.requires.optional s c.args.self.now.state c.wrap.new.self.state c.item.new.self.state
    c.args.first c.wrap.new.outer c.args.begun e begun m c.in_ok-wrap.ensures.answer c.in_err-item.ensures.answer)

-- ---- an alternative

pub alternative-alone-requires : goal.alternative-alone-requires
alternative-alone-requires t c =
    let high = ap height c.in-Alone.ensures.1 in
    (omega (arith, c.decreases, c.requires.low, high), (c.requires.by, c.requires.deep))

pub alternative-returns-in-Alone-clause-answer : goal.alternative-returns-in-Alone-clause-answer
alternative-returns-in-Alone-clause-answer t c =
    let g = grammar c.args.dialect in
    let P : Item → Type 0 = λ i. ReadsNode c.alone.result c.args.self.now.state c.alone.new.self.state (alternative g (whole g) c.args.depth c.args.production c.args.number i) in
    subst P (sym c.in-Alone.ensures.1) (c.alone.ensures.answer c.args.production c.args.number c.in-Alone.ensures.0)

pub alternative-led-requires : goal.alternative-led-requires
alternative-led-requires t c =
    let high = ap height c.in-Before.ensures.1 in
    let long = ap size c.in-Before.ensures.1 in (
      omega (arith, c.decreases),
      (
        c.requires.by,
        (
          c.requires.deep,
          (
            c.in-Before.ensures.0,
            (omega (arith, c.requires.low, high), (omega (arith, c.requires.low, high), (omega (arith, c.requires.short, long), (subst Met c.in-Before.ensures.1 c.requires.met).1))),
          ),
        ),
      ),
    )

pub alternative-returns-in-Before-clause-answer : goal.alternative-returns-in-Before-clause-answer
alternative-returns-in-Before-clause-answer t c =
    let g = grammar c.args.dialect in
    let P : Item → Type 0 = λ i. ReadsNode c.led.result c.args.self.now.state c.led.new.self.state (alternative g (whole g) c.args.depth c.args.production c.args.number i) in
    subst P (sym c.in-Before.ensures.1) c.led.ensures.answer

pub alternative-returns-in-Single-clause-answer : goal.alternative-returns-in-Single-clause-answer
alternative-returns-in-Single-clause-answer t c =
    let g = grammar c.args.dialect in
    let P : Item → Type 0 = λ i. ReadsNode c.single.result c.args.self.now.state c.single.new.self.state (alternative g (whole g) c.args.depth c.args.production c.args.number i) in
    subst P (sym c.in-Single.ensures.1)
    (single-read g c.args.depth c.args.production c.args.number c.in-Single.classes.now c.args.self.now.state c.single.result c.single.new.self.state c.in-Single.ensures.0 c.single.ensures.answer)

pub alone-returns-clause-answer : goal.alone-returns-clause-answer
alone-returns-clause-answer t c = λ p n collapsing.
    let s1 = c.node.new.self.state in
    alone-left (grammar c.args.dialect) c.args.depth p n c.args.first collapsing c.args.self.now.state s1 c.end.new.self.state c.in_ok-node.node
    c.in_ok-node.ensures.answer (c.end.ensures.answer ∙ ap (λ near. record s1 { near = near }) c.begun-begun.ensures.near)

pub alone-returns-in_err-node-clause-answer : goal.alone-returns-in_err-node-clause-answer
alone-returns-in_err-node-clause-answer t c = λ p n collapsing.
    let g = grammar c.args.dialect in
    let s = c.args.self.now.state in
    let s1 = c.node.new.self.state in
    let e = c.in_err-node.field-0.0 in
    node-passed e c.from_residual.result s s1 (alternative g (whole g) c.args.depth p n (part c.args.first)) c.from_residual.ensures.1
    (alone-stopped g c.args.depth p n c.args.first collapsing s s1 e c.in_err-node.ensures.answer)

pub led-node-requires : goal.led-node-requires
led-node-requires t c = (omega (arith, c.decreases, c.requires.first), (c.requires.by, c.requires.deep))

pub led-returns-then-starts_here-clause-answer : goal.led-returns-then-starts_here-clause-answer
led-returns-then-starts_here-clause-answer t c =
    c.joined.ensures.answer c.args.self.now.state c.args.first (record { at = c.begun-begun.ensures.at; near = c.begun-begun.ensures.near }) c.in_ok-node.ensures.answer

pub led-returns-else-starts_here-clause-answer : goal.led-returns-else-starts_here-clause-answer
led-returns-else-starts_here-clause-answer t c =
    let s1 = c.node.new.self.state in
    led-left (grammar c.args.dialect) c.args.depth c.args.production c.args.number c.args.first (item_of c.args.rest.now) c.requires.optional c.args.self.now.state
    s1 c.end.new.self.state c.in_ok-node.node c.in_ok-node.ensures.answer (sym c.starts_here.ensures ∙ c.if-starts_here.false)
    (c.end.ensures.answer ∙ ap (λ near. record s1 { near = near }) c.begun-begun.ensures.near)

pub led-returns-in_err-node-clause-answer : goal.led-returns-in_err-node-clause-answer
led-returns-in_err-node-clause-answer t c =
    let g = grammar c.args.dialect in
    let s = c.args.self.now.state in
    let s1 = c.node.new.self.state in
    let p = c.args.production in
    let e = c.in_err-node.field-0.0 in
    let rest = item_of c.args.rest.now in
    node-passed e c.from_residual.result s s1 (alternative g (whole g) c.args.depth p c.args.number (part c.args.first · rest)) c.from_residual.ensures.1
    (led-stopped g c.args.depth p c.args.number c.args.first rest c.requires.optional s s1 e c.in_err-node.ensures.answer)

-- ---- a node that is opened first

pub opened-returns-clause-answer : goal.opened-returns-clause-answer
opened-returns-clause-answer t c =
    opened-ends (grammar c.args.dialect) c.args.depth c.args.production c.args.number (item_of c.args.body.now) c.args.self.now.state c.open.new.self.state
    c.item.new.self.state c.close.new.self.state c.open.new.outer c.close.result c.in_ok-open.ensures.answer c.in_ok-item.ensures.answer c.close.ensures.answer

pub opened-returns-in_err-item-clause-answer : goal.opened-returns-in_err-item-clause-answer
opened-returns-in_err-item-clause-answer t c =
    let g = grammar c.args.dialect in
    let e = c.in_err-item.field-0.0 in
    node-passed e c.from_residual-in_err-item.result c.args.self.now.state c.item.new.self.state
    (alternative g (whole g) c.args.depth c.args.production c.args.number (item_of c.args.body.now)) c.from_residual-in_err-item.ensures.1
    (opened-stopped g c.args.depth c.args.production c.args.number (item_of c.args.body.now) c.args.self.now.state c.open.new.self.state c.item.new.self.state
    c.open.new.outer e c.in_ok-open.ensures.answer c.in_err-item.ensures.answer)

-- ---- repetitions

pub repeated-turns-smaller : goal.repeated-turns-smaller
repeated-turns-smaller t c =
    many-falls c.args.dialect (test_of c.args.test.now) (item_of c.args.item.now) c.args.depth c.turns.self.state c.item.new.self.state c.requires.repeated c.in_ok-item.ensures.answer

pub repeated-turns-preserved : goal.repeated-turns-preserved
repeated-turns-preserved t c = (
  c.item.ensures.by,
  many-turn c.args.dialect (test_of c.args.test.now) (item_of c.args.item.now) c.args.depth c.turns.self.state c.item.new.self.state c.requires.repeated
      (sym c.may.ensures ∙ c.turns-test.true) c.in_ok-item.ensures.answer
      ∙ c.turns.invariant.1,
)
