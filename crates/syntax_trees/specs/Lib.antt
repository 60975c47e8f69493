pub mod PlainSyntax
pub mod Syntax
pub mod SyntaxNodes
