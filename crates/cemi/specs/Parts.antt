-- The parts of a caller's frame: the additional information, and the TPDU, the bytes from octet 6 on.
use Rattle.std.specs.Prelude.{ℕ, ◌+◌, ◌≡◌, cond, List, [], length, take, drop, leb}
use Rattle.std.specs.Borrow.{Bor}
use Rattle.cemi.specs.Layout.{octet6}
use Rattle.cemi.specs.declared.Frame.{Frame}

-- the n bytes of b from a place on, and from where; nothing, from 0, where b has not so many
abbrev pub part_of : List ℕ → ℕ → ℕ → List ℕ
part_of b at n = cond (leb (at + n) (length b)) (take n (drop at b)) []

abbrev pub part_from : List ℕ → ℕ → ℕ → ℕ
part_from b at n = cond (leb (at + n) (length b)) at 0

-- r refers to the very bytes of s from a place on, no copy: these bytes, in the block of memory that s lies in, so far behind its start
pub record PartOf (s r : Bor (List ℕ)) (bytes : List ℕ) (from : ℕ) : Type 0 where
  pub is : r.now ≡ bytes
  pub block : r.ref_ptr.0 ≡ s.ref_ptr.0
  pub place : r.ref_ptr.1 ≡ s.ref_ptr.1 + from

-- THE PARTS OF A FRAME, and from where
abbrev pub info_of : Frame → List ℕ → List ℕ
info_of f b = part_of b 2 f.info

abbrev pub info_from : Frame → List ℕ → ℕ
info_from f b = part_from b 2 f.info

abbrev pub tpdu_of : Frame → List ℕ → List ℕ
tpdu_of f b = part_of b (octet6 f.info) (f.stated + 1)

abbrev pub tpdu_from : Frame → List ℕ → ℕ
tpdu_from f b = part_from b (octet6 f.info) (f.stated + 1)
