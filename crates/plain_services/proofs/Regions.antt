-- Regions as records are the regions of the sheet.
use Rattle.std.proofs.Common.{Option, Some, None}
use Rattle.octets.proofs.Kit.{ℕ, zero, suc, ◌+◌, ◌-◌, ◌/◌, ◌%◌, ◌≤◌, ◌<◌, ◌≡◌, refl, sym, ap, ap₂, subst, ◌∙◌, Bool, true, false, cond, not, ◌&&◌, List, arith, dec_lt, add-zero, lit≤, ltb}
use Rattle.octets.proofs.Kit.{leb, get_or, lt-ltb, le-ltb, le-leb, lt-leb, leb-true}
use Rattle.octets.{specs.Bytes.num_at, proofs.{Tests.both, Truths.{never, and_is, first_true}}}
use Rattle.sheet.specs.{Kind.{regions, users, kind_of}, Layout.{Field, ◌of◌}, Entries.{count, place, entry}, Lookup.{At, seek, covers, place_of, common, joined, range_of, run_in}}
use Rattle.sheet.{specs.declared.{Memory.{Memory, TheVariants.{Device, User}}, Run.Run}, proofs.places.Levels.{common_reading, common_writing}}
use Rattle.sheet.proofs.{searches.FrontSearch.{seek_first, seek_none, seek_same}, places.{Standing.field_at, Longer.range_suc}, searches.Regions.not_both}
use Rattle.sheet.specs.Region as region
use Rattle.pdu.specs.declared.Pdu.{Pdu}
use Rattle.judge.specs.{declared.Access.{Access, TheVariants.{Read, Write, Change}}, Memory.{may, run_allowed, run_at, response_of}}
use Rattle.parts.specs.{declared.{Region.Region, Parts.Parts}, Records.{IsRegion, Taken, no_region}}
use Rattle.plain_services.specs.{Steps.Held, Memory.{has, may_in, region_with, place_in, allowed_at, all_allowed, stands_for, range_allowed, range_for, IsArea}}
use Rattle.plain_services.proofs.Joined.{was_no, was_yes}

pub via_may : (w w' : Access) (level : ℕ) (e : Region) (r : Bool) → w ≡ w' → r ≡ may_in w' level e → r ≡ may_in w level e
via_may w w' level e r q h = rw q h

pub found_first :
    (rs : List Region) (n y i : ℕ) → i < n → has (get_or rs i no_region) y ≡ true → ((j : ℕ) → j < i → has (get_or rs j no_region) y ≡ false) → i ≡ region_with rs n y
unfolding region_with
found_first rs n y i h e f = sym (seek_first (λ j. has (get_or rs j no_region) y) n i h e f)

pub found_none : (rs : List Region) (n y : ℕ) → ((j : ℕ) → j < n → has (get_or rs j no_region) y ≡ false) → n ≡ region_with rs n y
unfolding region_with
found_none rs n y f = sym (seek_none (λ j. has (get_or rs j no_region) y) n (λ j h e. never (sym (f j h) ∙ e)))

-- what the search of one address gives, i being the first region that has it
module _ (rs : List Region) (n : ℕ) (w : Access) (level y i : ℕ) (e : i ≡ region_with rs n y) where
  pub stands_nowhere : n ≤ i → None ≡ stands_for rs n w level y
  unfolding stands_for allowed_at
  stands_nowhere h = rw (← e, le-ltb i n h) refl

  pub stands_denied : i < n → (b : Bool) → b ≡ may_in w level (get_or rs i no_region) → not b ≡ true → None ≡ stands_for rs n w level y
  unfolding stands_for allowed_at
  stands_denied h b f q = rw (← e, lt-ltb i n h, sym f ∙ was_no b q) refl

  pub stands_there :
      i < n → (b : Bool) → b ≡ may_in w level (get_or rs i no_region) → not b ≡ false →
      Some ((get_or rs i no_region).offset + (y - (get_or rs i no_region).address)) ≡ stands_for rs n w level y
  unfolding stands_for allowed_at place_in
  stands_there h b f q = rw (← e, lt-ltb i n h, sym f ∙ was_yes b q) refl

-- a place, and whether there is one
abbrev pub placed : Option ℕ → Bool
placed None = false
placed (Some x) = true

abbrev pub place_at : Option ℕ → ℕ
place_at None = 0
place_at (Some x) = x

module _ (b : Bool) (x : ℕ) where
  placed_if : placed (cond b (Some x) None) ≡ b
  placed_if = go b
    where
      go : (b : Bool) → placed (cond b (Some x) None) ≡ b
      go true = refl
      go false = refl

  pub if_denied : (p : Option ℕ) → p ≡ cond b (Some x) None → p ≡ None → b ≡ false
  if_denied p e d = sym placed_if ∙ ap placed (sym e ∙ d)

  pub if_placed : (p : Option ℕ) (at : ℕ) → p ≡ cond b (Some x) None → p ≡ Some at → (b ≡ true) × (at ≡ x)
  if_placed p at e d =
      let h : b ≡ true = sym placed_if ∙ ap placed (sym e ∙ d) in
      (h, ap place_at (sym d ∙ e ∙ ap (λ (c : Bool). cond c (Some x) None) h))

-- all addresses so far
module _ (rs : List Region) (n : ℕ) (w : Access) (level a : ℕ) where
  pub none_yet : all_allowed rs n w level a 0 ≡ true
  unfolding all_allowed
  none_yet = refl

  pub one_more_allowed : (i : ℕ) → all_allowed rs n w level a i ≡ true → allowed_at rs n w level (a + i) ≡ true → all_allowed rs n w level a (i + 1) ≡ true
  one_more_allowed i e f = ap (all_allowed rs n w level a) (omega arith) ∙ next
    where
      next : all_allowed rs n w level a (suc i) ≡ true
      next = unfold all_allowed in rw (e, f) refl

  stays_denied : (i m : ℕ) → i ≤ m → all_allowed rs n w level a i ≡ false → all_allowed rs n w level a m ≡ false
  stays_denied i zero h e = subst (λ (x : ℕ). all_allowed rs n w level a x ≡ false) (omega arith) e
  stays_denied i (suc m) h e = go (dec_lt m i) (λ l. stays_denied i m l e)
    where
      go : Dec (m < i) → (i ≤ m → all_allowed rs n w level a m ≡ false) → all_allowed rs n w level a (suc m) ≡ false
      go (yes l) f = subst (λ (x : ℕ). all_allowed rs n w level a x ≡ false) (omega arith) e
      go (no l) f = unfold all_allowed in rw (f (omega arith)) refl

  pub one_denied : (i m : ℕ) → i < m → all_allowed rs n w level a i ≡ true → allowed_at rs n w level (a + i) ≡ false → false ≡ all_allowed rs n w level a m
  one_denied i m h e f =
      let next : all_allowed rs n w level a (suc i) ≡ false = (unfold all_allowed in rw (e, f) refl) in
      sym (stays_denied (suc i) m (omega arith) next)

pub device_area : (s : List ℕ) (u : Parts) → Taken s u → IsArea s Device u.regions u.counts.regions
device_area s u t = record { many = t.counts.regions; each = λ i h. t.regions i (omega (arith, t.counts.regions)) }

pub user_area : (s : List ℕ) (u : Parts) → Taken s u → IsArea s User u.users u.counts.users
user_area s u t = record { many = t.counts.users; each = λ i h. t.users i (omega (arith, t.counts.users)) }

-- the entry e of a region has the fields of r
record Fields (r : Region) (e : List ℕ) : Type 0 where
  address : region.address of e ≡ r.address
  long : region.length of e ≡ r.length
  offset : region.offset of e ≡ r.offset
  read : region.levels of e / 16 ≡ r.read
  write : region.levels of e % 16 ≡ r.write

fields_by : (s : List ℕ) (k i : ℕ) (r : Region) →
    ((f : Field) → f.at + f.width ≤ 8 → f of entry s k i ≡ num_at s (place s k i + f.at) f.width) → IsRegion r s (place s k i) → Fields r (entry s k i)
fields_by s k i r f p =
    record {
      address = f region.address (lit≤ tt) ∙ ap (λ (x : ℕ). num_at s x 2) (add-zero (place s k i)) ∙ sym p.address;
      long = f region.length (lit≤ tt) ∙ sym p.long;
      offset = f region.offset (lit≤ tt) ∙ sym p.offset;
      read = ap (λ (x : ℕ). x / 16) (f region.levels (lit≤ tt)) ∙ sym p.read;
      write = ap (λ (x : ℕ). x % 16) (f region.levels (lit≤ tt)) ∙ sym p.write;
    }

-- a run permits an access
abbrev pub permitted : Access → ℕ → Option Run → Bool
permitted w level None = false
permitted w level (Some r) = may w level r.levels

module _ (s : List ℕ) (m : Memory) (rs : List Region) (n : ℕ) (r : IsArea s m rs n) where
  fields : (i : ℕ) → i < n → Fields (get_or rs i no_region) (entry s (kind_of m) i)
  fields i h = fields_by s (kind_of m) i _ (go m) (r.each i h)
    where
      go : (m : Memory) (f : Field) → f.at + f.width ≤ 8 → f of entry s (kind_of m) i ≡ num_at s (place s (kind_of m) i + f.at) f.width
      go Device f l = field_at s regions i f l
      go User f l = field_at s users i f l

  has_covers : (y j : ℕ) → j < n → has (get_or rs j no_region) y ≡ covers (entry s (kind_of m) j) y
  unfolding covers
  has_covers y j h = let f = fields j h in rw (f.address, f.long) refl

  seek_is : (y : ℕ) → region_with rs n y ≡ seek (λ j. covers (entry s (kind_of m) j) y) 0 (count s (kind_of m))
  unfolding region_with
  seek_is y = seek_same _ _ 0 n (λ j l h. has_covers y j (omega arith)) ∙ ap (seek (λ j. covers (entry s (kind_of m) j) y) 0) r.many

  may_is : (w : Access) (level i : ℕ) → i < n → may_in w level (get_or rs i no_region) ≡ may w level (region.levels of entry s (kind_of m) i)
  may_is Read level i h = let f = fields i h in rw f.read refl
  may_is Write level i h = let f = fields i h in rw f.write refl
  may_is Change level i h = let f = fields i h in rw (f.read, f.write) refl

  -- ONE ADDRESS
  pub one_is : (w : Access) (level y : ℕ) → allowed_at rs n w level y ≡ permitted w level (place_of s m y)
  unfolding allowed_at place_of
  one_is w level y = go (region_with rs n y) refl (dec_lt (region_with rs n y) n)
    where
      go : (i : ℕ) → region_with rs n y ≡ i → Dec (i < n) →
          (ltb i n && may_in w level (get_or rs i no_region))
          ≡ permitted w level
          (cond (ltb (seek (λ j. covers (entry s (kind_of m) j) y) 0 (count s (kind_of m))) (count s (kind_of m)))
          (run_in (entry s (kind_of m) (seek (λ j. covers (entry s (kind_of m) j) y) 0 (count s (kind_of m)))) y) None)
      go i e (yes h) = rw (← (seek_is y), e, ← r.many, lt-ltb i n h) (may_is w level i h)
      go i e (no h) = rw (← (seek_is y), e, ← r.many, le-ltb i n (omega arith)) refl

-- MANY ADDRESSES
same_truth : (a b : Bool) → (a ≡ true → b ≡ true) → (b ≡ true → a ≡ true) → a ≡ b
same_truth true b f g = sym (f refl)
same_truth false true f g = g refl
same_truth false false f g = refl

read_common : (level l k : ℕ) → leb level (common l k / 16) ≡ (leb level (l / 16) && leb level (k / 16))
read_common level l k =
    same_truth _ _
    (λ e. let h = (common_reading l k level).0 (leb-true _ _ e) in both _ _ (le-leb _ _ h.0) (le-leb _ _ h.1))
    (λ e. let h = (and_is (leb level (l / 16)) (leb level (k / 16))).0 e in le-leb _ _ ((common_reading l k level).1 (leb-true _ _ h.0, leb-true _ _ h.1)))

write_common : (level l k : ℕ) → leb level (common l k % 16) ≡ (leb level (l % 16) && leb level (k % 16))
write_common level l k =
    same_truth _ _
    (λ e. let h = (common_writing l k level).0 (leb-true _ _ e) in both _ _ (le-leb _ _ h.0) (le-leb _ _ h.1))
    (λ e. let h = (and_is (leb level (l % 16)) (leb level (k % 16))).0 e in le-leb _ _ ((common_writing l k level).1 (leb-true _ _ h.0, leb-true _ _ h.1)))

crossed : (a b c d : Bool) → ((a && b) && (c && d)) ≡ ((a && c) && (b && d))
crossed true true true d = refl
crossed true true false d = refl
crossed true false true d = refl
crossed true false false d = refl
crossed false b c d = refl

may_common : (w : Access) (level l k : ℕ) → may w level (common l k) ≡ (may w level l && may w level k)
may_common Read level l k = read_common level l k
may_common Write level l k = write_common level l k
may_common Change level l k =
    rw (read_common level l k, write_common level l k) (crossed (leb level (l / 16)) (leb level (k / 16)) (leb level (l % 16)) (leb level (k % 16)))

and_false : (a : Bool) → (a && false) ≡ false
and_false true = refl
and_false false = refl

permitted_joined : (w : Access) (level : ℕ) (r q : Option Run) → permitted w level (joined r q) ≡ (permitted w level r && permitted w level q)
permitted_joined w level (Some r) (Some q) = may_common w level r.levels q.levels
permitted_joined w level (Some r) None = sym (and_false (may w level r.levels))
permitted_joined w level None q = refl

pub allowed_is : (w : Access) (most level n : ℕ) (r : Option Run) → run_allowed w most level n r ≡ (leb 1 n && leb n most && permitted w level r)
allowed_is w most level n None = sym (and_false (leb 1 n && leb n most))
allowed_is w most level n (Some r) = refl

module _ (s : List ℕ) (m : Memory) (rs : List Region) (n : ℕ) (r : IsArea s m rs n) (w : Access) (level a : ℕ) where
  all_are : (i : ℕ) → all_allowed rs n w level a (suc i) ≡ permitted w level (range_of s m a (suc i))
  all_are zero = unfold all_allowed in unfold range_of in (one_is s m rs n r w level (a + 0) ∙ ap (λ (y : ℕ). permitted w level (place_of s m y)) (add-zero a))
  all_are (suc i) =
      let ih = all_are i in
      let o = one_is s m rs n r w level (a + suc i) in
      let j = permitted_joined w level (range_of s m a (suc i)) (place_of s m (a + suc i)) in
      let step : all_allowed rs n w level a (suc (suc i)) ≡ (all_allowed rs n w level a (suc i) && allowed_at rs n w level (a + suc i)) = (unfold all_allowed in refl) in
      step ∙ ap₂ ◌&&◌ ih o ∙ sym j ∙ ap (permitted w level) (sym (range_suc s m a i))

-- A RANGE of a memory is allowed where the first engine allows it
module _ (s : List ℕ) (m : Memory) (rs : List Region) (n : ℕ) (r : IsArea s m rs n) (w : Access) (level a most : ℕ) where
  pub range_is : (i : ℕ) → range_allowed rs n w level most i a ≡ run_allowed w most level i (range_of s m a i)
  unfolding range_allowed
  range_is zero =
      let none : leb 1 0 ≡ false = lt-leb 1 0 (omega arith) in
      ap (λ (b : Bool). b && leb zero most && all_allowed rs n w level a zero) none
      ∙ sym (allowed_is w most level zero (range_of s m a zero) ∙ ap (λ (b : Bool). b && leb zero most && permitted w level (range_of s m a zero)) none)
  range_is (suc i) = ap (λ (b : Bool). leb 1 (suc i) && leb (suc i) most && b) (all_are s m rs n r w level a i) ∙ sym (allowed_is w most level (suc i) (range_of s m a (suc i)))

-- what the walk over a range gives
module _ (rs : List Region) (n : ℕ) (w : Access) (level most i a : ℕ) where
  pub too_few : i < 1 → None ≡ range_for rs n w level most i a
  unfolding range_for range_allowed
  too_few h = rw (lt-leb 1 i h) refl

  pub too_many : most < i → None ≡ range_for rs n w level most i a
  unfolding range_for range_allowed
  too_many h = rw (lt-leb i most h, and_false (leb 1 i)) refl

  pub one_refused :
      (j : ℕ) → j < i → all_allowed rs n w level a j ≡ true → (p : Option ℕ) → p ≡ stands_for rs n w level (a + j) → p ≡ None → None ≡ range_for rs n w level most i a
  unfolding range_for range_allowed stands_for
  one_refused j h e p f d =
      let x = sym (one_denied rs n w level a j i h e (if_denied (allowed_at rs n w level (a + j)) _ p f d)) in
      rw (x, and_false (leb 1 i && leb i most)) refl

  pub one_stands :
      (j : ℕ) → all_allowed rs n w level a j ≡ true → (p : Option ℕ) (at : ℕ) → p ≡ stands_for rs n w level (a + j) → p ≡ Some at → all_allowed rs n w level a (j + 1) ≡ true
  unfolding stands_for
  one_stands j e p at f d = one_more_allowed rs n w level a j e (if_placed (allowed_at rs n w level (a + j)) _ p at f d).0

  first_allowed : (j : ℕ) → 1 ≤ j → all_allowed rs n w level a j ≡ true → allowed_at rs n w level a ≡ true
  first_allowed zero h e = absurd (omega arith)
  first_allowed (suc zero) h e = ap (allowed_at rs n w level) (sym (add-zero a)) ∙ (unfold all_allowed in e)
  first_allowed (suc (suc j)) h e =
      first_allowed (suc j) (omega arith) (first_true (all_allowed rs n w level a (suc j)) (allowed_at rs n w level (a + suc j)) (unfold all_allowed in e))

  pub all_stand :
      1 ≤ i → i ≤ most → (j : ℕ) → j ≡ i → all_allowed rs n w level a j ≡ true → (p : Option ℕ) → p ≡ stands_for rs n w level a → p ≡ range_for rs n w level most i a
  unfolding range_for range_allowed stands_for
  all_stand h l j q e p f =
      f ∙ rw (first_allowed j (omega arith) e, le-leb 1 i h, le-leb i most l, ap (all_allowed rs n w level a) (sym q) ∙ e) refl

pub via_response : (m j : Memory) (n a : ℕ) (r : Pdu) → m ≡ j → r ≡ response_of j n a → r ≡ response_of m n a
via_response m j n a r e h = h ∙ ap (λ (x : Memory). response_of x n a) (sym e)

module _ (u : Parts) where
  pub device_here : (m : Memory) → m ≡ Device → ((s : List ℕ) → Taken s u → IsArea s m u.regions u.counts.regions) × (Held u → u.counts.regions ≤ 16)
  device_here m e = rw e (λ s t. device_area s u t, λ k. k.taken.counts.few_regions)

  pub user_here : (m : Memory) → m ≡ User → ((s : List ℕ) → Taken s u → IsArea s m u.users u.counts.users) × (Held u → u.counts.users ≤ 16)
  user_here m e = rw e (λ s t. user_area s u t, λ k. k.taken.counts.few_users)

-- AN ADDRESS STANDS WHERE THE SHEET HAS IT
module _ (s : List ℕ) (m : Memory) (rs : List Region) (n : ℕ) (r : IsArea s m rs n) where
  pub place_at_lem : (y p l : ℕ) → place_of s m y ≡ At p l → place_in rs n y ≡ p
  unfolding place_of place_in
  place_at_lem y p l = go (region_with rs n y) refl (dec_lt (region_with rs n y) n)
    where
      go : (i : ℕ) → region_with rs n y ≡ i → Dec (i < n) →
          cond (ltb (seek (λ j. covers (entry s (kind_of m) j) y) 0 (count s (kind_of m))) (count s (kind_of m)))
          (run_in (entry s (kind_of m) (seek (λ j. covers (entry s (kind_of m) j) y) 0 (count s (kind_of m)))) y) None
          ≡ At p l →
          cond (ltb i n) ((get_or rs i no_region).offset + (y - (get_or rs i no_region).address)) 0 ≡ p
      go i e (yes h) =
          let f = fields s m rs n r i h in
          rw (← (seek_is s m rs n r y), e, ← r.many, lt-ltb i n h, f.offset, f.address) (λ q. ap run_at q)
      go i e (no h) = rw (← (seek_is s m rs n r y), e, ← r.many, le-ltb i n (omega arith)) (λ q. absurd (not_both q))
