use Rattle.cond_eval.proofs.char_constant.+elements_onto.Given as goal

abbrev pub decreases-elements_onto : goal.decreases-elements_onto
decreases-elements_onto l = l.left
