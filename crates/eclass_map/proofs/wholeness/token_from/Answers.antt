use Rattle.eclass_map.proofs.WholenessFacts.{fits_in, lies_not, lies_nowhere}
use Rattle.eclass_map.proofs.wholeness.token_from.Goals as goal

pub goes_on-requires-clause-fits : goal.goes_on-requires-clause-fits
goes_on-requires-clause-fits c = fits_in c.args.tokens.now c.in-Some.token c.requires.fits c.in-Some.ensures.0

pub returns-else-goes_on : goal.returns-else-goes_on
returns-else-goes_on c =
    lies_not c.args.tokens.now c.args.tok.now.origins c.args.at c.args.start c.in-Some.token c.requires.tokens c.requires.start c.in-Some.ensures.0 c.in-Some.ensures.1 c.if-goes_on.ensures

pub returns-in-None : goal.returns-in-None
returns-in-None c = lies_nowhere c.args.tokens.now c.args.tok.now.origins c.args.at c.args.start c.requires.tokens c.requires.start c.in-None.ensures
