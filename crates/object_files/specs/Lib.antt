pub use Rattle.interface_records.specs.mesa_types
pub use Rattle.interface_records
