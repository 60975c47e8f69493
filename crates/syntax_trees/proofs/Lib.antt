pub mod LayerNodes
pub mod NodesAgree
pub mod PlainForms
pub mod SyntaxForms
