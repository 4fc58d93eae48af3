mod Numbers
mod ConcernLaws
mod AgreementLaws
mod PostingAlike
mod RunLaws
mod ListLaws
mod StopShareLaws
mod OwnCallLaws
