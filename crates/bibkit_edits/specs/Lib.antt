pub mod Edited
pub mod LeftNotes
pub mod Printing
pub mod Steps
pub mod UninheritedNotes
