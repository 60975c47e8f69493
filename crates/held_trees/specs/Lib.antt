pub use Rattle.mesa_base
