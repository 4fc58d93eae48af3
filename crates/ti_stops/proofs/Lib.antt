pub mod Telling
pub mod Enabling
pub mod Apart
pub mod Filters
pub mod DueLaws
pub mod MayLaws
pub mod ShareLaws
pub mod WaitLaws
mod WorkedShares
