pub mod AheadLaws
pub mod ExportLaws
pub mod FaceLaws
pub mod FormLaws
pub mod ImportLaws
