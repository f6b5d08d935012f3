pub mod Typed
pub mod Retrieved
