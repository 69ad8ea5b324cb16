-- Every position of an accepted sheet is a byte of the head, of one entry or of one body.
use Rattle.octets.proofs.Kit.{ℕ, ◌<◌, ◌≡◌, refl, List, length, dec_lt, arith}
use Rattle.sheet.specs.{Entries.contents, Rules.Accepted, Places.{Position, in_head, in_entry, in_body, which_of}}
use Rattle.sheet.specs.Head as head
use Rattle.sheet.proofs.{rules.Good.{Good, good}, places.{BodyPlaces.{after_contents, disjoint, some_body}, Standing.{after_head, place_in, one_entry, some_entry}}}

module _ {s : List ℕ} (ok : Accepted s) (p : ℕ) where
  g : Good s
  g = good s ok

  -- EVERY POSITION IS ONE OF THESE
  pub position : p < length s → Position s p
  position h = go (dec_lt p head.size) (dec_lt p (contents s))
    where
      go : Dec (p < head.size) → Dec (p < contents s) → Position s p
      go (yes l) d = in_head l
      go (no l) (yes m) =
          let e = some_entry s p (omega arith) m in
          in_entry e.0 e.1 e.2 e.3.kind e.3.below e.3.short e.3.here
      go (no l) (no m) =
          let b = some_body g p (omega arith) h in
          in_body b.0 b.1 b.2

  -- AND ONE ALONE
  pub position_once : (a b : Position s p) → which_of a ≡ which_of b
  position_once (in_head h) (in_head l) = refl
  position_once (in_head h) (in_entry k i j hk hi hj e) = absurd (omega (arith, after_head s k i hk hi))
  position_once (in_head h) (in_body k i b) = absurd (omega (arith, b, after_contents g k i b.kind b.below))
  position_once (in_entry k i j hk hi hj e) (in_head l) = absurd (omega (arith, after_head s k i hk hi))
  position_once (in_entry k i j hk hi hj e) (in_entry m n o hm hn ho f) =
      let q = one_entry s k i j m n o p (record { kind = hk; below = hi; short = hj; here = e }) (record { kind = hm; below = hn; short = ho; here = f }) in
      rw (q.0, q.1, q.2)
  position_once (in_entry k i j hk hi hj e) (in_body m n b) = absurd (omega (arith, b, place_in s k i hk hi, after_contents g m n b.kind b.below))
  position_once (in_body m n b) (in_head l) = absurd (omega (arith, b, after_contents g m n b.kind b.below))
  position_once (in_body m n b) (in_entry k i j hk hi hj e) = absurd (omega (arith, b, place_in s k i hk hi, after_contents g m n b.kind b.below))
  position_once (in_body k i a) (in_body m n b) = let q = disjoint g k i m n p a b in rw (q.0, q.1)
