pub mod Answering
pub mod Arguments
pub mod Output
