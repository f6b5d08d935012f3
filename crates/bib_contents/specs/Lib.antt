pub mod Arguments
pub mod Commands
pub mod Contents
pub mod ContentErrors
pub mod Effects
pub mod ParseResults
pub mod Progress
pub mod UnitViews
