use Rattle.ti_laws.proofs.PostingAlike as laws
use Rattle.ti_laws.proofs.runs.posts_agree.Goals as goal

pub returns-clause-refused : goal.returns-clause-refused
returns-clause-refused c = laws.post_refusals_agree

pub returns-clause-posts : goal.returns-clause-posts
returns-clause-posts c = laws.posts_agree

pub returns-clause-looks : goal.returns-clause-looks
returns-clause-looks c = laws.looks_agree

pub returns-clause-cancels : goal.returns-clause-cancels
returns-clause-cancels c = laws.cancels_agree

pub returns-clause-discards : goal.returns-clause-discards
returns-clause-discards c = laws.discards_agree

pub returns-clause-elsewhere : goal.returns-clause-elsewhere
returns-clause-elsewhere c = laws.elsewhere_stays

pub returns-clause-discarded : goal.returns-clause-discarded
returns-clause-discarded c = laws.discards_tell_alike
