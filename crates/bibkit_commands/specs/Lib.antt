pub mod Arguments
pub mod Asked
pub mod CommandLine
pub mod Commands
pub mod EditsAsked
pub mod Messages
