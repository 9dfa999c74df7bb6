pub mod Standing
mod Chosen
mod Granted
mod Due
pub mod Changed
mod Ended
pub mod Ordered
mod Stretch
pub mod Attached
pub mod HeadLaws
pub mod HeldRows
pub mod Lent
