-- Two runs that are stored one after the other: where the second stands.
use Rattle.octets.proofs.Kit.{◌≡◌, List, length, arith, ℕ}
use Rattle.judge.specs.declared.Store.{Store}
use Rattle.judge.specs.declared.Store.TheVariants as store
use Rattle.device.specs.{Carry.store_of, Safe.{StoreSafe, Narrow}}
use Rattle.device.proofs.leaves.Stores.{length_store}

-- where it stands does not depend on the first
same_safe : (s t d : List ℕ) (b : Store) → length t ≡ length s → StoreSafe t d b → StoreSafe s d b
same_safe s t d store.Nothing e h = tt
same_safe s t d (store.Number at w x) e h = (omega (arith, e, h.0), h.1)
same_safe s t d (store.Data zeros at) e h = omega (arith, e, h)
same_safe s t d (store.Bits at n) e h = (omega (arith, e, h.0), h.1)
same_safe s t d (store.Fill at n b) e h = omega (arith, e, h)

pub second_part : (s d : List ℕ) (a b : Store) → StoreSafe s d a → StoreSafe (store_of s d a) d b → Narrow (length s) b
    → StoreSafe s d b × Narrow (length s) b
second_part s d a b f h n = (same_safe s (store_of s d a) d b (length_store s d a f) h, n)
