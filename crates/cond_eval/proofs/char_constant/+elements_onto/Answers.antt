use Rattle.std.proofs.Common.{◌<◌, ◌-◌, sym, ◌∙◌, rules, arith}
use Rattle.std.proofs.lemmas.List.{take_rest}
use Rattle.cond_eval.proofs.ConstantLemmas.{elements_onto-closing, elements_onto-none, elements_onto-bad, elements_onto-more, room_of-less, room_of-small}
use Rattle.cond_eval.proofs.char_constant.+elements_onto.Goals as goal

pub returns-then-is_closing : goal.returns-then-is_closing
returns-then-is_closing t c = sym (elements_onto-closing _ _ _ (sym c.is_closing.ensures ∙ c.if-is_closing.true))

pub returns-then-left-eq0 : goal.returns-then-left-eq0
returns-then-left-eq0 t c = sym (elements_onto-none _ _ _ (sym c.is_closing.ensures ∙ c.if-is_closing.false) c.if-left-eq0.true)

pub returns-in_err-value : goal.returns-in_err-value
returns-in_err-value t c =
    c.from_residual.ensures ∙ sym (elements_onto-bad _ _ _ (sym c.is_closing.ensures ∙ c.if-is_closing.false) (sym c.element.ensures.answer ∙ c.in_err-value.was))

pub overflow_mul-sofar : goal.overflow_mul-sofar
overflow_mul-sofar t c =
    let less = room_of-less c.args.left c.args.sofar 0 (omega arith) c.requires.few c.requires.room (omega arith) in
    omega (arith, less, room_of-small (c.args.left - 1))

pub overflow_add-sofar : goal.overflow_add-sofar
overflow_add-sofar t c =
    let small : c.in_ok-value.value < 256 = search rules in
    let less = room_of-less c.args.left c.args.sofar _ (omega arith) c.requires.few c.requires.room small in
    omega (arith, less, room_of-small (c.args.left - 1))

pub elements_onto-requires : goal.elements_onto-requires
elements_onto-requires t c =
    let small : c.in_ok-value.value < 256 = search rules in
    (omega arith, (omega arith, rw c.from.ensures (room_of-less c.args.left c.args.sofar _ (omega arith) c.requires.few c.requires.room small)))

pub returns : goal.returns
returns t c =
    let one = sym c.element.ensures.answer ∙ c.in_ok-value.was in
    let more = elements_onto-more c.args.left c.args.sofar _ _ _ (sym c.is_closing.ensures ∙ c.if-is_closing.false) c.if-left-eq0.false one in
    c.elements_onto.ensures ∙ rw (c.from.ensures, take_rest) (sym more)
