pub mod Sound
pub mod Supply
