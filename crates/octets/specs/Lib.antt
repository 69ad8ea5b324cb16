pub mod Bytes
pub mod Splice
pub mod Octets
pub mod Every
pub mod Moved
