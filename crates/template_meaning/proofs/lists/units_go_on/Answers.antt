use Rattle.template_meaning.proofs.UnitsGoOn.{units_go_on}
use Rattle.template_meaning.proofs.lists.units_go_on.Goals as goal

pub returns : goal.returns
returns c =
    units_go_on c.read_lists_stand_in_order.ensures.parameters c.texts_are_read_in_order.ensures.arranged c.plain_tokens_stand_in_order.ensures.tokens
    c.spelled_texts_have_names.ensures.names c.reordered_names_agree.ensures c.reordered_bind_alike.ensures c.units_can_reorder.ensures
