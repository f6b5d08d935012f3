pub mod Cuts
pub mod Parts
pub mod Separated
pub mod Units
pub mod Views
