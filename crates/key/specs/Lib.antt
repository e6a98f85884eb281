pub mod Keys
pub mod Views
pub mod Mark
