-- What the steps of a call leave; proofs/ has that they give what the call is to give.
use Rattle.std.specs.Prelude.{ℕ, ◌+◌, ◌-◌, List, ◌++◌, length, replicate}
use Rattle.octets.specs.Bytes.{bytes_of}
use Rattle.octets.specs.Moved.{moved}
use Rattle.octets.specs.Splice.{splice}
use Rattle.versions.specs.Head as head
use Rattle.versions.specs.Row as row
use Rattle.versions.specs.Store.{table_end, row_of, in_row}
use Rattle.versions.specs.Linked.{linked}
use Rattle.versions.specs.Ends.{end_from}

-- saving: room for a row made at the end of the table of n, the bodies ending at `end`; the row, the body, the head and the offsets
unfoldable pub appended : List ℕ → ℕ → ℕ → ℕ → List ℕ → List ℕ
appended s n end x d =
    let t = table_end n in
    let roomy = splice (moved s t (t + 8) (end - t)) t (row_of x 0 (length d)) in
    linked (splice (splice roomy (end + 8) d) 0 (bytes_of 2 (n + 1) ++ bytes_of 2 x)) (n + 1)

-- removing: the row at p and the body of l bytes at `a` taken out, the bodies ending at `end`
unfoldable pub cut_out : List ℕ → ℕ → ℕ → ℕ → ℕ → List ℕ
cut_out s p a l end =
    splice (moved (moved s (p + 8) p (a - (p + 8))) (a + l) (a - 8) (end - (a + l))) (end - (8 + l)) (replicate (8 + l) 0)

-- and the count of those left and their offsets written anew
unfoldable pub closed : List ℕ → ℕ → ℕ → ℕ → ℕ → ℕ → List ℕ
closed s n p a l end = linked (splice (cut_out s p a l end) 0 (bytes_of 2 (n - 1))) (n - 1)

-- of version i of n
unfoldable pub taken_out : List ℕ → ℕ → ℕ → List ℕ
taken_out s n i =
    closed s n (table_end i) (in_row s (table_end i) row.offset) (in_row s (table_end i) row.long) (end_from s head.size (table_end n) n)
