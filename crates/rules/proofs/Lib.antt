pub mod Briefs
pub mod Faults
pub mod Numbered
pub mod Tested
pub mod Under
