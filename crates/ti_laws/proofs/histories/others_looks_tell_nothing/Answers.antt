use Rattle.ti_laws.proofs.ConcernLaws.{only_concerns_tells, only_concerns_replies, only_concerns_shows}
use Rattle.ti_laws.proofs.histories.others_looks_tell_nothing.Goals as goal

pub returns-clause-told : goal.returns-clause-told
returns-clause-told c = only_concerns_tells

pub returns-clause-replies : goal.returns-clause-replies
returns-clause-replies c = only_concerns_replies

pub returns-clause-shows : goal.returns-clause-shows
returns-clause-shows c = only_concerns_shows
