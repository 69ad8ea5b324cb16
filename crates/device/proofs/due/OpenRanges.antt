-- Addresses that stand side by side, each under levels that suffice, are a range whose levels do.
use Rattle.octets.proofs.Kit.{ℕ, ◌+◌, ◌<◌, ◌≤◌, ◌≡◌, sym, subst, List, ◌↔◌, arith}
use Rattle.sheet.{specs.{Places.Ranged, declared.Memory.Memory}, proofs.{rules.Good.{Good, accepted}, searches.Regions.covers_stands, promises.Runs.{stands_once, range_there}}}
use Rattle.device.specs.{Asked.{Asked, Acts}, MemoryDue.{Write, bytes, bits, ToRead, ToWrite, Open}}

-- a level suffices for a range exactly if it does for each of its bytes
abbrev pub Over : (ℕ → ℕ → Type 0) → Type 0
Over Suffices =
    (s : List ℕ) (m : Memory) (a n o l : ℕ) (r : Ranged s m a n o l) (level : ℕ) → Suffices level l ↔ ((i : ℕ) → i < n → Suffices level (r.at i))

pub over_read : Over ToRead
over_read s m a n o l r level = r.reading level

pub over_write : (w : Write) → Over (ToWrite w)
over_write (bytes m) s u a n o l r level = r.writing level
over_write bits s u a n o l r level = (
  λ h i b. ((r.reading level).0 h.0 i b, (r.writing level).0 h.1 i b),
  λ h. ((r.reading level).1 (λ i b. (h i b).0), (r.writing level).1 (λ i b. (h i b).1)),
)

module _ {x : Asked} {m : Memory} {most : ℕ} {Suffices : ℕ → ℕ → Type 0} (over : Over Suffices) {n a o : ℕ} where
  pub opens : {l level : ℕ} → n ≤ most → Ranged x.sheet m a n o l → Acts x level → Suffices level l → Open x m most Suffices n a o
  opens {level = level} few r acts h =
      record { some = r.some; few = few; level = level; acts = acts; each = λ i b. (r.at i, r.each i b, (over _ _ _ _ _ _ r level).0 h i b) }

  pub opened : Good x.sheet → (q : Open x m most Suffices n a o) → (l : ℕ) × Ranged x.sheet m a n o l × Suffices q.level l
  opened g q =
      let w = range_there g m a n q.some (λ i h. ((q.each i h).1.index, covers_stands (q.each i h).1)) in
      let same : (i : ℕ) (h : i < n) → (w.0 + i ≡ o + i) × (w.2.at i ≡ (q.each i h).0) = λ i h. stands_once (accepted g) (w.2.each i h) (q.each i h).1 in
      let e : w.0 ≡ o = omega (arith, (same 0 q.some).0) in (
        w.1,
        subst (λ (p : ℕ). Ranged x.sheet m a n p w.1) e w.2,
        (over _ _ _ _ _ _ w.2 q.level).1 (λ i h. subst (Suffices q.level) (sym (same i h).1) (q.each i h).2),
      )
