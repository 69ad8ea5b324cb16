-- A memory write and a bit write on parts are the first engine's.
use Rattle.std.proofs.Common.{Option, Some, None}
use Rattle.octets.proofs.Kit.{ℕ, ◌+◌, ◌-◌, ◌≤◌, ◌≡◌, refl, sym, ap, subst, ◌∙◌, Bool, true, false, cond, not, List, [], arith, length, take, drop}
use Rattle.octets.{specs.Splice.splice, proofs.Splices.{length_splice, splice_below}}
use Rattle.sheet.specs.{Entries.contents, declared.Memory.{Memory, TheVariants.Device}}
use Rattle.pdu.specs.declared.Pdu.{Pdu}
use Rattle.judge.specs.{declared.{Access.{Access, TheVariants.{Write, Change}}, Store.Store, Turn.TheVariants.Stays}, Decisions.{denied, refused, answered, written, stored}}
use Rattle.judge.specs.Memory.{most_bytes, most_bits, response_of, verifies, change_of, memory_write_of, bit_write_of}
use Rattle.judge.proofs.MemoryCases.{changed, allowed_is, run_is, memory_write_is, bit_write_is}
use Rattle.judge.specs.declared.Store.TheVariants as store
use Rattle.judge.specs.declared.Answer.TheVariants as answer
use Rattle.parts.{specs.{declared.Parts.Parts, Records.Taken, With.with_bodies}, proofs.{Changed.{bodies_changed, same_contents}, Quoted.same_part}}
use Rattle.device.{specs.Carry.{build, bit_at, store_of}, proofs.leaves.Bits.length_build}
use Rattle.plain_services.specs.declared.{Area.Area, Reply.Reply}
use Rattle.plain_services.specs.{Memory.{IsArea, range_for, NotWritten, Written}, Steps.{Held, Gives, Agrees, Serves}}
use Rattle.plain_services.proofs.{Joined.{was_no, was_yes}, Agreed.{agreed, by_decision, quoted}, MemoryRanges.{not_allowed, standing, reachable}, MemoryRuns.bits_same}

-- THE REPLIES
module _ {u : Parts} {m : Memory} {address : ℕ} {r : Reply} where
  pub denied_told : u.head.verify ≡ true → (p : Pdu) → p ≡ response_of m 0 address → Gives r 11 u Stays (Some p) [] → NotWritten u m address r
  denied_told v p e g = record { agrees = λ s d t. rw v (agreed (denied (response_of m 0 address)) (rw e at g) t) }

  pub denied_quiet : u.head.verify ≡ false → Gives r 12 u Stays None [] → NotWritten u m address r
  denied_quiet v g = record { agrees = λ s d t. rw v (agreed (refused 12) g t) }

  module _ {n at : ℕ} where
    pub written_told :
        not u.head.verify ≡ false → (p : Pdu) → p ≡ response_of m n address → Gives r 0 u Stays (Some p) (take (at + n - at) (drop at u.bodies)) →
        Written u m n address at r
    written_told v p e g =
        record {
          agrees = λ s t low fit.
              let same = quoted at n u.bodies ∙ same_part s u t at n low fit in
              rw (was_yes u.head.verify v) (agreed (answered (answer.Sheet (response_of m n address) at n)) (rw (e, same) at g) t);
        }

    pub written_quiet : not u.head.verify ≡ true → Gives r 1 u Stays None [] → Written u m n address at r
    written_quiet v g = record { agrees = λ s t low fit. rw (was_no u.head.verify v) (agreed (refused 1) g t) }

-- after a write of n bytes there is as much room as before
pub still_roomy :
    (u v : Parts) (at n : ℕ) (b d : List ℕ) → v ≡ with_bodies u b → b ≡ splice u.bodies at d → length d ≡ n →
    (length u.bodies ≡ 16384) × (n ≤ 14) × (at + n ≤ 16384) → (length v.bodies ≡ 16384) × (n ≤ 14) × (at + n ≤ 16384)
still_roomy u v at n b d e f l h = (
  ap (λ (y : Parts). length y.bodies) e ∙ ap length f ∙ length_splice u.bodies at d (omega (arith, l, h.0, h.2)) ∙ h.0,
  h.1,
  h.2,
)

-- A STORE IS ANSWERED as if nothing were stored in the sheet after it
after_store :
    (s d : List ℕ) (x : Store) (p : Pdu) (o n : ℕ) (r : Reply) (verify : Bool) →
    Agrees (store_of s d x) [] (cond verify (answered (answer.Sheet p o n)) (refused 1)) r →
    Agrees s d (cond verify (written x store.Nothing (answer.Sheet p o n)) (stored x)) r
after_store s d x p o n r true g = agreed (written x store.Nothing (answer.Sheet p o n)) g.gives g.sheet
after_store s d x p o n r false g = agreed (stored x) g.gives g.sheet

-- A WRITE, of bytes or of bits: what it stores in sheet s are the n bytes ds s
module _ (u : Parts) (w : Access) (m : Memory) (level n address : ℕ) (a : Area) (most limit : ℕ) (p : Option ℕ)
    (areas : ((s : List ℕ) → Taken s u → IsArea s m a.regions a.count) × (Held u → a.count ≤ 16)) (em : (most ≡ limit) × (most ≤ 12))
    (found : p ≡ range_for a.regions a.count w level most n address) (d : List ℕ) (new : ℕ → Store) (r : Reply) where
  change_denied : p ≡ None → NotWritten u m address r → Serves u d (λ s. changed w limit new s m level n address) r
  unfolding change_of
  change_denied q g =
      record {
        agrees = λ s ok o t.
            by_decision _ _ (rw (not_allowed u w m level n address a most limit p areas em found q s t, ← t.front.verify) refl) (g.agrees s d t);
      }

  change_made :
      (at : ℕ) → p ≡ Some at → (v : Parts) (ds : List ℕ → List ℕ) → ((s : List ℕ) → length (ds s) ≡ n) → ((s : List ℕ) → store_of s d (new at) ≡ splice s at (ds s)) →
      ((s : List ℕ) → Taken s u → contents s ≤ at → at + n ≤ length s → v ≡ with_bodies u (splice u.bodies at (ds s))) →
      Written v m n address at r → Serves u d (λ s. changed w limit new s m level n address) r
  unfolding change_of
  change_made at q v ds long stores fills g =
      record {
        agrees = λ s ok oc t.
            let x = standing u w m level n address a most limit p areas em found at q s ok t in
            let run = ds s in
            let e = fills s t x.low x.fits in
            let fit : at + length run ≤ length s = omega (arith, x.fits, long s) in
            let s₁ : List ℕ = splice s at run in
            let lng : length s₁ ≡ length s = length_splice s at run fit in
            let same = same_contents s s₁ lng (λ k b. splice_below s at run fit k (omega (arith, x.low))) in
            let t₁ : Taken s₁ v = subst (λ (y : Parts). Taken s₁ y) (sym e) (bodies_changed s u t at run x.low fit) in
            let y = g.agrees s₁ t₁ (omega (arith, x.low, same)) (omega (arith, x.fits, lng)) in
            let on : v.head.verify ≡ verifies s = ap (λ (y : Parts). y.head.verify) e ∙ t.front.verify in
            by_decision _ (cond v.head.verify (written (new at) store.Nothing (answer.Sheet (response_of m n address) at n)) (stored (new at)))
            (rw (allowed_is w limit s m level n address at x.permits, run_is w limit s m level n address at x.permits, ← on) refl)
            (after_store s d (new at) (response_of m n address) at n r v.head.verify
            (subst (λ (z : List ℕ). Agrees z [] (cond v.head.verify (answered (answer.Sheet (response_of m n address) at n)) (refused 1)) r) (sym (stores s)) y));
      }

-- A MEMORY WRITE
module _ (u : Parts) (m : Memory) (level n address : ℕ) (a : Area) (most : ℕ) (p : Option ℕ)
    (areas : ((s : List ℕ) → Taken s u → IsArea s m a.regions a.count) × (Held u → a.count ≤ 16)) (em : (most ≡ most_bytes m) × (most ≤ 12))
    (found : p ≡ range_for a.regions a.count Write level most n address) (d : List ℕ) (r : Reply) where
  by_write : Serves u d (λ s. changed Write (most_bytes m) (store.Data 0) s m level n address) r → Serves u d (λ s. memory_write_of s m level n address) r
  by_write g = record { agrees = λ s ok o t. by_decision _ _ (memory_write_is s m level n address) (g.agrees s ok o t) }

  pub write_denied : p ≡ None → NotWritten u m address r → Serves u d (λ s. memory_write_of s m level n address) r
  write_denied q g = by_write (change_denied u Write m level n address a most (most_bytes m) p areas em found d (store.Data 0) r q g)

  pub write_made :
      (at : ℕ) → p ≡ Some at → length d ≡ n → (v : Parts) → v ≡ with_bodies u (splice u.bodies at d) → Written v m n address at r →
      Serves u d (λ s. memory_write_of s m level n address) r
  write_made at q long v e g =
      by_write
      (change_made u Write m level n address a most (most_bytes m) p areas em found d (store.Data 0) r at q v (λ s. d) (λ s. long) (λ s. refl) (λ s t low fit. e) g)

-- A BIT WRITE
module _ (u : Parts) (level n address : ℕ) (a : Area) (p : Option ℕ)
    (areas : ((s : List ℕ) → Taken s u → IsArea s Device a.regions a.count) × (Held u → a.count ≤ 16))
    (found : p ≡ range_for a.regions a.count Change level 5 n address) where
  pub bits_reach : (at : ℕ) → p ≡ Some at → Held u → (length u.bodies ≡ 16384) × (n ≤ 14) × (at + n ≤ 16384)
  bits_reach at q k = reachable u Change Device level n address a 5 most_bits p areas (refl, omega arith) found at q k

  module _ (d : List ℕ) (r : Reply) where
    by_bits : Serves u d (λ s. changed Change most_bits (λ o. store.Bits o n) s Device level n address) r → Serves u d (λ s. bit_write_of s level n address) r
    by_bits g = record { agrees = λ s ok o t. by_decision _ _ (bit_write_is s level n address) (g.agrees s ok o t) }

    pub bits_denied : p ≡ None → NotWritten u Device address r → Serves u d (λ s. bit_write_of s level n address) r
    bits_denied q g = by_bits (change_denied u Change Device level n address a 5 most_bits p areas (refl, omega arith) found d (λ o. store.Bits o n) r q g)

    pub bits_made :
        (at : ℕ) → p ≡ Some at → (b : List ℕ) → b ≡ splice u.bodies at (build n (bit_at u.bodies at n d)) →
        (v : Parts) → v ≡ with_bodies u b → Written v Device n address at r → Serves u d (λ s. bit_write_of s level n address) r
    bits_made at q b fills v e g =
        by_bits
        (change_made u Change Device level n address a 5 most_bits p areas (refl, omega arith) found d (λ o. store.Bits o n) r at q v
        (λ s. build n (bit_at s at n d)) (λ s. length_build n _) (λ s. refl)
        (λ s t low fit. e ∙ ap (λ (x : List ℕ). with_bodies u x) (fills ∙ ap (splice u.bodies at) (bits_same s d u n at t low fit))) g)
