-- A ZEROED BUFFER WITH ROOM FOR THE EMPTY TABLE IS A GOOD STORE THAT KEEPS NOTHING.
use Rattle.octets.proofs.Kit.{ℕ, ◌+◌, ◌-◌, ◌≤◌, ◌≡◌, sym, ap, ◌∙◌, List, [], arith, length, replicate, replicate-append-replicate, length-replicate}
use Rattle.octets.specs.Bytes.{bytes_of}
use Rattle.versions.specs.{Store.{none, GoodStore, lowest, head_of, table_of, bodies_of, laid, kept}, Rules.Passes}
use Rattle.versions.proofs.Forths.{good_passes, good_kept}

zeroed : (n : ℕ) → 8 ≤ n → n ≤ 32768 → GoodStore (replicate n 0) 0 [] (replicate (n - 8) 0)
unfolding laid head_of table_of bodies_of bytes_of
zeroed n h k =
    let e : 8 + (n - 8) ≡ n = omega arith in
    let z : List ℕ = replicate n 0 in
    let l : length z ≡ n = length-replicate n 0 in
    record {
      is = sym (replicate-append-replicate 8 (n - 8) 0 ∙ ap (λ (m : ℕ). replicate m 0) e);
      few = omega arith;
      rising = none {floor = lowest} (omega arith);
      given = omega arith;
      short = omega arith;
    }

pub zeroed_good : (n : ℕ) → 8 ≤ n → n ≤ 32768 → Passes (replicate n 0) × (kept (replicate n 0) ≡ [])
zeroed_good n h k = (good_passes (zeroed n h k), good_kept (zeroed n h k))
