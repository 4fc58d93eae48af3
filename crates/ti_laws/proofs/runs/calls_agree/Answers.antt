use Rattle.ti_laws.proofs.AgreementLaws as laws
use Rattle.ti_laws.proofs.runs.calls_agree.Goals as goal

pub returns-clause-refused : goal.returns-clause-refused
returns-clause-refused c = laws.refusals_agree

pub returns-clause-calls : goal.returns-clause-calls
returns-clause-calls c = laws.calls_agree
