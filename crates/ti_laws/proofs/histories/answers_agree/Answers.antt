use Rattle.ti_laws.proofs.ConcernLaws as laws
use Rattle.ti_laws.proofs.histories.answers_agree.Goals as goal

pub returns-clause-answers : goal.returns-clause-answers
returns-clause-answers c = laws.answers_agree

pub returns-clause-found : goal.returns-clause-found
returns-clause-found c = laws.calls_find_alike

pub returns-clause-at_once : goal.returns-clause-at_once
returns-clause-at_once c = laws.calls_told_alike

pub returns-clause-stops : goal.returns-clause-stops
returns-clause-stops c = laws.stops_answer_alike

pub returns-clause-tickets : goal.returns-clause-tickets
returns-clause-tickets c = laws.tickets_agree
