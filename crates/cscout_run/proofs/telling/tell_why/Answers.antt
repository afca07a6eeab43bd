use Rattle.cscout_run.proofs.telling.tell_why.Goals as goal

pub returns-in-NoUnit : goal.returns-in-NoUnit
returns-in-NoUnit g c = rw c.in-NoUnit.is c.tell.ensures

pub returns-in-BadQuery : goal.returns-in-BadQuery
returns-in-BadQuery g c = rw c.in-BadQuery.is c.tell_query.ensures

pub returns-in-DeepQuery : goal.returns-in-DeepQuery
returns-in-DeepQuery g c = rw c.in-DeepQuery.is c.tell_query-in-DeepQuery.ensures
