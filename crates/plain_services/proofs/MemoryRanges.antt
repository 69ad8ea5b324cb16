-- A range that is allowed stands among the bodies where the sheet has it.
use Rattle.std.proofs.Common.{Option, Some, None}
use Rattle.octets.proofs.Kit.{ℕ, ◌+◌, ◌≤◌, ◌≡◌, sym, ap, ◌∙◌, true, false, List, arith, length, add-zero}
use Rattle.sheet.{specs.{Entries.contents, Kind.kind_of, Lookup.range_of, Rules.Accepted, declared.Memory.Memory}, proofs.{rules.Good.good, searches.Regions.place_hit}}
use Rattle.sheet.proofs.{promises.Runs.range_within, places.{RegionBodies.stands_in, BodyPlaces.after_contents}}
use Rattle.judge.{specs.{declared.Access.Access, Memory.run_allowed}, proofs.MemoryCases.{Permits, allowed_in, range_in}}
use Rattle.parts.specs.{declared.Parts.Parts, Records.Taken}
use Rattle.plain_services.specs.{declared.{Area.Area}, Memory.{IsArea, place_in, range_allowed, range_for}, Steps.Held}
use Rattle.plain_services.proofs.Regions.{place_at_lem, if_denied, if_placed, range_is}

-- the n addresses of a sheet stand from `at` on, and an access to them is permitted
pub record Standing (w : Access) (limit : ℕ) (s : List ℕ) (m : Memory) (level n address at : ℕ) : Type 0 where
  pub permits : Permits w limit s m level n address at
  pub low : contents s ≤ at
  pub fits : at + n ≤ length s

-- p is what the walk over the range gives
module _ (u : Parts) (w : Access) (m : Memory) (level n address : ℕ) (a : Area) (most limit : ℕ) (p : Option ℕ)
    (areas : ((s : List ℕ) → Taken s u → IsArea s m a.regions a.count) × (Held u → a.count ≤ 16)) (em : (most ≡ limit) × (most ≤ 12))
    (found : p ≡ range_for a.regions a.count w level most n address) where
  as_allowed : (s : List ℕ) → Taken s u → range_allowed a.regions a.count w level most n address ≡ run_allowed w limit level n (range_of s m address n)
  as_allowed s t =
      range_is s m a.regions a.count (areas.0 s t) w level address most n
      ∙ ap (λ (k : ℕ). run_allowed w k level n (range_of s m address n)) em.0

  pub not_allowed : p ≡ None → (s : List ℕ) → Taken s u → run_allowed w limit level n (range_of s m address n) ≡ false
  unfolding range_for
  not_allowed d s t = sym (as_allowed s t) ∙ if_denied (range_allowed a.regions a.count w level most n address) _ p found d

  module _ (at : ℕ) (there : p ≡ Some at) where
    chosen : (range_allowed a.regions a.count w level most n address ≡ true) × (at ≡ place_in a.regions a.count address)
    unfolding range_for
    chosen = if_placed (range_allowed a.regions a.count w level most n address) _ p at found there

    pub standing : (s : List ℕ) → Accepted s → Taken s u → Standing w limit s m level n address at
    standing s ok t =
        let x = allowed_in w limit s m level n address (sym (as_allowed s t) ∙ chosen.0) in
        let y = range_in (good s ok) x.permits in
        let first = stands_in (good s ok) (y.each 0 (omega (arith, x.permits.some))) in
        let hit = place_at_lem s m a.regions a.count (areas.0 s t) (address + 0) (x.at + 0) _ (place_hit (good s ok) (y.each 0 (omega (arith, x.permits.some)))) in
        let same : at ≡ x.at = chosen.1 ∙ ap (place_in a.regions a.count) (sym (add-zero address)) ∙ hit ∙ add-zero x.at in
        let fit : x.at + n ≤ length s = range_within (good s ok) y in
        record {
          permits = rw (← same) at x.permits;
          low = omega (arith, same, first.from, after_contents (good s ok) (kind_of m) _ first.kind first.below);
          fits = omega (arith, same, fit);
        }

    -- so they lie among the bodies
    pub reachable : Held u → (length u.bodies ≡ 16384) × (n ≤ 14) × (at + n ≤ 16384)
    reachable k =
        let x = standing k.sheet k.ok k.taken in
        (k.taken.room, omega (arith, x.permits.few, em.0, em.1), omega (arith, x.fits, k.taken.counts.short))
