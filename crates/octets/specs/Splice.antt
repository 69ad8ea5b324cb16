-- A run of bytes replaced.
use Rattle.std.specs.Prelude.{ℕ, ◌+◌, List, ◌++◌, length, take, drop}

-- s with the bytes from o on replaced by ds
unfoldable pub splice : List ℕ → ℕ → List ℕ → List ℕ
splice s o ds = take o s ++ ds ++ drop (o + length ds) s
