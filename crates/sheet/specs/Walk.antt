-- What calls of this crate promise one another on the walk over a sheet.
use Rattle.std.specs.Prelude.{◌≡◌, ℕ, ◌+◌, ◌-◌, ◌<◌, ◌≤◌, Option, Some, None, Result, IfOk, List, length}
use Rattle.sheet.specs.Demand.{Demand, Met, Tells}
use Rattle.sheet.specs.Kind.{kinds, by_kind, OfKind}
use Rattle.sheet.specs.Entries.{count, size, place, entry, key_of, floor, offset_of, length_of, six_bits}
use Rattle.sheet.specs.Rules.{frame_demands, entry_demands, body_rows, edition}
use Rattle.sheet.specs.Layout.{◌of◌}
use Rattle.sheet.specs.Lookup.{common}
use Rattle.sheet.specs.declared.ranges.Reach.{Reach}
use Rattle.sheet.specs.declared.entry_rules.Step.{Step}
use Rattle.sheet.specs.declared.Fault.{Fault}
use Rattle.sheet.specs.Fault.{told}
use Rattle.sheet.specs.Region as region

-- S1 to S4 of an edition hold
pub record Framed (ed : ℕ) (s : List ℕ) : Type 0 where
  pub rows : Met (frame_demands ed s)

-- entry i of kind k is there
pub record Entry (s : List ℕ) (k i : ℕ) : Type 0 where
  pub framed : Framed edition s
  pub kind : k < kinds
  pub below : i < count s k

-- r is the number of entries of kind k
pub record Counted (s : List ℕ) (k r : ℕ) : Type 0 where
  pub is : r ≡ count s k
  pub few : r ≤ 64

-- r is the first entry of kind k whose first word is at least x, or the count
pub record Lower (s : List ℕ) (k x r : ℕ) : Type 0 where
  pub within : r ≤ count s k
  pub before : (j : ℕ) → j < r → key_of s k j < x
  pub from : (j : ℕ) → r ≤ j → j < count s k → x ≤ key_of s k j

-- region i among the entries of kind k begins at z; r is where it ends, and the rights that its levels and l have in common
pub record Goes (s : List ℕ) (k i z l : ℕ) (r : Reach) : Type 0 where
  pub there : i < count s k
  pub begins : region.address of entry s k i ≡ z
  pub ends : r.end ≡ region.address of entry s k i + region.length of entry s k i
  pub rights : r.levels ≡ common l (region.levels of entry s k i)

-- r is that, or None if there is no such region
abbrev pub Onward : List ℕ → ℕ → ℕ → ℕ → ℕ → Option Reach → Type 0
Onward s k i z l (Some r) = Goes s k i z l r
Onward s k i z l None = i < count s k → region.address of entry s k i ≡ z → ⊥

-- e is as long as an entry of kind k; none is shorter than a region's
pub record Sized (k : ℕ) (e : List ℕ) : Type 0 where
  pub least : region.size ≤ length e
  pub long : length e ≡ size k

-- e is entry i of kind k
pub record Shown (s : List ℕ) (k i : ℕ) (e : List ℕ) : Type 0 where
  pub is : e ≡ entry s k i
  pub sized : Sized k e

-- the body of an entry e of kind k starts at r
pub record Starts (k : ℕ) (e : List ℕ) (r : ℕ) : Type 0 where
  pub is : r ≡ offset_of k e
  pub below : r < 65536

-- and is r long
pub record Long (k : ℕ) (e : List ℕ) (r : ℕ) : Type 0 where
  pub is : OfKind r k (length_of 0 e) (length_of 1 e) (length_of 2 e) (length_of 3 e)
  pub below : r < 16777216

-- what the next entry is judged against, its first word being at least f: a region by f, another by the one before f
abbrev pub last_of : ℕ → ℕ → ℕ
last_of k f = by_kind k f (f - 1) (f - 1)

-- no body is so long, and no walk comes so far
abbrev pub long : ℕ
long = 65536

abbrev pub far : ℕ
far = 2147483648

-- r is 0 exactly if `late` is and S9 holds of a body that starts at `from`
pub record Late (late from z six r : ℕ) : Type 0 where
  pub even : r ≡ 0 → (late ≡ 0) × Met (body_rows from z six)
  pub met : late ≡ 0 → Met (body_rows from z six) → r ≡ 0

-- what a step leaves behind an entry with a body of n bytes: p, l, what is late, and where the body is to end
pub record Next (l late from z six n p : ℕ) (r : Step) : Type 0 where
  pub at : r.at ≡ p
  pub last : r.last ≡ l
  pub kept : Late late from z six r.late
  pub end : r.end ≡ z + n
  pub short : n < long

-- the first rule that some rows break, and if they break none, what is left
pub record StepOver (ds : List Demand) (l late from z six n p : ℕ) (r : Result Step Fault) : Type 0 where
  pub rule : Tells (told r) ds
  pub next : IfOk r (Next l late from z six n p)

-- the same of entry i of kind k
pub record Steps (s : List ℕ) (k i z late : ℕ) (r : Result Step Fault) : Type 0 where
  pub is : StepOver (entry_demands s k i) (last_of k (floor s k (i + 1))) late (offset_of k (entry s k i)) z (six_bits s k (entry s k i)) (length_of k (entry s k i)) (place s k (i + 1)) r
