-- Scopes in one another, and what a name means in them.
pub use Rattle.interface_records.specs.check_scopes.specs.Scopes.{Scope, nothing, with_name, over, find, innermost, outer}
unfoldable pub use Rattle.interface_records.specs.check_scopes.specs.Scopes.{has}
