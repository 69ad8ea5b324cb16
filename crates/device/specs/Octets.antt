-- A list of bytes, passed on.
pub use Rattle.octets.specs.Octets.{Octets}
