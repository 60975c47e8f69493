pub use Rattle.linked_programs
pub use Rattle.filed_images
pub use Rattle.linked_programs.specs.built_runs
pub use Rattle.linked_files.specs.bound_images
pub mod Filed
pub mod Laws
