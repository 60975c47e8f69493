pub mod Everything
pub mod Lexing
mod Noticed
pub mod Reading
pub mod SoundSame
pub mod SoundTypes
pub mod Stamps
pub mod Texts
