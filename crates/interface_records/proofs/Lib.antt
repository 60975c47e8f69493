pub mod BuiltIn
