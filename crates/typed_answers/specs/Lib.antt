pub use Rattle.mesa_types
