-- What is stored over the body of a group object is what a lookup by its address then hands out.
use Rattle.octets.proofs.Kit.{ℕ, ◌+◌, ◌≤◌, ◌<◌, max, ◌≡◌, sym, ap, ap₂, ◌∙◌, List, length, take, drop, arith, eq-eqb, lt-ltb}
use Rattle.octets.{specs.Splice.splice, proofs.Splices.splice_read}
use Rattle.sheet.specs.{Kind.groups, Layout.◌of◌, Entries.{count, entry, key_of, offset_of, length_of, body_end}, Rules.{verdict_of, Accepted, is_accepted}, Lookup.{body_of, lookup, group_of}}
use Rattle.sheet.{specs.Agree.Agree, proofs.{rules.Good.good, promises.Keys.index_hit, places.BodyPlaces.within, alike.Sames.{count_same, group_same, offset_same, length_same}}}
use Rattle.sheet.proofs.promises.Agrees.{both_or_neither}
use Rattle.sheet.specs.Group as group

module _ (s : List ℕ) (ok : Accepted s) (i : ℕ) (there : i < count s groups) (ds : List ℕ) (long : length ds ≡ max 1 (group.code of entry s groups i)) where
  abbrev pub stored : List ℕ
  stored = splice s (group.offset of entry s groups i) ds

  pub room : group.offset of entry s groups i + length ds ≤ length s
  unfolding body_end
  room = omega (arith, long, within (good s ok) groups i (omega arith) there)

  module _ (a : Agree s stored) where
    pub still : Accepted stored
    still = (both_or_neither a).0 ok

    there_still : i < count stored groups
    there_still = rw (count_same a groups) there

    looked_up : lookup stored groups i ≡ take (length_of groups (entry stored groups i)) (drop (offset_of groups (entry stored groups i)) stored)
    unfolding lookup is_accepted body_of
    looked_up = simp (eq-eqb (verdict_of stored) 0 still, lt-ltb i (count stored groups) there_still)

    pub handed : (address : ℕ) → group.address of entry s groups i ≡ address → group_of stored address ≡ ds
    unfolding key_of
    handed address e =
        ap (lookup stored groups)
        (index_hit stored still groups (omega arith) i address there_still (group_same a i group.address there (omega arith) ∙ e))
        ∙ looked_up
        ∙ ap₂ (λ (n o : ℕ). take n (drop o stored)) (length_same a i groups (omega arith) there ∙ sym long) (offset_same a i groups (omega arith) there)
        ∙ splice_read s (group.offset of entry s groups i) ds room
