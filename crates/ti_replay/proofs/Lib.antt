mod Rows
pub mod SettlingLaws
pub mod HistoryLaws
pub mod CostLaws
pub mod Charging
pub mod StepLaws
pub mod ReplyLaws
pub mod NextStates
pub mod HistoryStateLaws
pub mod AgreementLaws
pub mod TraceLaws
pub mod LateStepLaws
pub mod WorkedEvents
mod WorkedFrames
mod WorkedPolls
mod WorkedSuspensions
mod WorkedPops
mod WorkedStates
mod WorkedWords
mod WorkedStops
mod WorkedBudgets
mod WorkedThreads
mod WorkedCorners
pub mod DoneLaws
pub mod EventLaws
pub mod AskingLaws
pub mod BoundLaws
pub mod PlaceLaws
pub mod StorageLaws
pub mod StandingLaws
pub mod TicketReplies
pub mod LateTicketLaws
pub mod PlaceTickets
pub mod StepsStay
pub mod StorageReplies
pub mod SuspensionLaws
pub mod TakeHoldLaws
pub mod LifeLaws
pub mod WordAnswers
pub mod StopLaws
pub mod RefusedLaws
pub mod MakerLaws
pub mod TellingLaws
pub mod AloneLaws
pub mod LoggedLaws
pub mod FrontLaws
