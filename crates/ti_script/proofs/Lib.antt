pub mod NameLaws
pub mod EventLaws
pub mod TreeLaws
pub mod FrontLaws
pub mod RoomLaws
pub mod BoundLaws
pub mod LiveLaws
pub mod LiveTextLaws
mod WorkedLives
pub mod LiveBoundLaws
