pub mod Allowing
pub mod Configuring
pub mod Durations
pub mod Numbers
pub mod Retaining
pub mod Telling
