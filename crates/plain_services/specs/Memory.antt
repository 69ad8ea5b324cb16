-- Regions as records: which has an address, and whether the levels of all suffice.
use Rattle.std.specs.Prelude.{ℕ, zero, suc, ◌+◌, ◌-◌, ◌<◌, ◌≤◌, ◌≡◌, Bool, true, cond, ◌&&◌, List, [], ltb, leb, length, get_or, Option, Some, None}
use Rattle.sheet.specs.Lookup.{seek}
use Rattle.judge.specs.Decisions.{denied, refused, answered}
use Rattle.judge.specs.Memory.{response_of}
use Rattle.judge.specs.declared.Answer.TheVariants as answer
use Rattle.judge.specs.declared.Access.{Access}
use Rattle.judge.specs.declared.Access.TheVariants.{Read, Write, Change}
use Rattle.parts.specs.declared.Region.{Region}
use Rattle.parts.specs.declared.Parts.{Parts}
use Rattle.parts.specs.Records.{no_region, IsRegion, Taken}
use Rattle.sheet.specs.Kind.{kind_of}
use Rattle.sheet.specs.Entries.{count, place, contents}
use Rattle.sheet.specs.declared.Memory.{Memory}
use Rattle.plain_services.specs.declared.Reply.{Reply}
use Rattle.plain_services.specs.Steps.{Agrees}

-- a region has address y
abbrev pub has : Region → ℕ → Bool
has e y = leb e.address y && ltb y (e.address + e.length)

-- the level suffices
abbrev pub may_in : Access → ℕ → Region → Bool
may_in Read level e = leb level e.read
may_in Write level e = leb level e.write
may_in Change level e = leb level e.read && leb level e.write

-- the first of n regions with address y, n where there is none
unfoldable pub region_with : List Region → ℕ → ℕ → ℕ
region_with rs n y = seek (λ j. has (get_or rs j no_region) y) 0 n

-- address y lies in a region for which the level suffices
unfoldable pub allowed_at : List Region → ℕ → Access → ℕ → ℕ → Bool
allowed_at rs n w level y = ltb (region_with rs n y) n && may_in w level (get_or rs (region_with rs n y) no_region)

-- so do all of the first i addresses from a on
unfoldable pub all_allowed : List Region → ℕ → Access → ℕ → ℕ → ℕ → Bool
all_allowed rs n w level a zero = true
all_allowed rs n w level a (suc i) = all_allowed rs n w level a i && allowed_at rs n w level (a + i)

-- where address y stands among the bodies
unfoldable pub place_in : List Region → ℕ → ℕ → ℕ
place_in rs n y =
    let i = region_with rs n y in
    let e = get_or rs i no_region in
    cond (ltb i n) (e.offset + (y - e.address)) 0

-- where address y stands, if the level suffices for it
unfoldable pub stands_for : List Region → ℕ → Access → ℕ → ℕ → Option ℕ
stands_for rs n w level y = cond (allowed_at rs n w level y) (Some (place_in rs n y)) None

-- 1 to `most` addresses from a on, i of them, may be used
unfoldable pub range_allowed : List Region → ℕ → Access → ℕ → ℕ → ℕ → ℕ → Bool
range_allowed rs n w level most i a = leb 1 i && leb i most && all_allowed rs n w level a i

-- where they stand
unfoldable pub range_for : List Region → ℕ → Access → ℕ → ℕ → ℕ → ℕ → Option ℕ
range_for rs n w level most i a = cond (range_allowed rs n w level most i a) (Some (place_in rs n a)) None

-- THE REGIONS OF A MEMORY of sheet s are these n records
pub record IsArea (s : List ℕ) (m : Memory) (rs : List Region) (n : ℕ) : Type 0 where
  pub many : n ≡ count s (kind_of m)
  pub each : (i : ℕ) → i < n → IsRegion (get_or rs i no_region) s (place s (kind_of m) i)

-- WHAT ANSWERS A WRITE of parts u that is denied
pub record NotWritten (u : Parts) (m : Memory) (a : ℕ) (r : Reply) : Type 0 where
  pub agrees : (s d : List ℕ) → Taken s u → Agrees s d (cond u.head.verify (denied (response_of m 0 a)) (refused 12)) r

-- and one that is done, u being the parts after it: if verify is on, the n bytes that then stand from `at` on
pub record Written (u : Parts) (m : Memory) (n a at : ℕ) (r : Reply) : Type 0 where
  pub agrees :
      (s : List ℕ) → Taken s u → contents s ≤ at → at + n ≤ length s →
      Agrees s [] (cond u.head.verify (answered (answer.Sheet (response_of m n a) at n)) (refused 1)) r
