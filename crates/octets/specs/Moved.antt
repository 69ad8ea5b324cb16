-- A run of bytes moved.
use Rattle.std.specs.Prelude.{ℕ, List, take, drop}
use Rattle.octets.specs.Splice.{splice}

-- s with the n bytes that stand at `from` also at `to`
unfoldable pub moved : List ℕ → ℕ → ℕ → ℕ → List ℕ
moved s from to n = splice s to (take n (drop from s))
