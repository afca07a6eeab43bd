use Rattle.analysis.proofs.JoinedLemmas.{joined}
use Rattle.analysis.proofs.analysing.joined_classes.Goals as goal

pub returns-clause-own : goal.returns-clause-own
returns-clause-own c =
    joined c.args.accepted.now c.in_ok-classes.classes c.join_links.new.classes
    (record { tokens = c.in_ok-classes.ensures.tokens.tokens; all = c.in_ok-classes.ensures.tokens.all })
    c.in_ok-marks.ensures.tokens c.in_ok-marks.ensures.links c.in_ok-marks.ensures.parts
