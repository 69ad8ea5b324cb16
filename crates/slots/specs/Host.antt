-- WHAT A HOST DOES: the loop over the pieces of a save; and a medium whose bytes are old or new after a cut.
use Rattle.std.specs.Prelude.{ℕ, suc, ◌≡◌, Bool, List, ◌⊎◌, length, take, get_or, replicate}
use Rattle.octets.specs.Octets.{Octets}
use Rattle.octets.specs.Splice.{splice}
use Rattle.slots.specs.Saving.{WorksAs}
use Rattle.slots.specs.Medium.{Piece, Cut}
use Rattle.slots.specs.declared.Work.{Work}

-- A PIECE OF WORK CARRIED OUT on slot b, `out` being the buffer after the call. An erase makes all bytes 0 or all FFh; where the medium needs none, nothing is done
pub data Carried (w : Work) (out t b : List ℕ) : List ℕ → Type 0 where
  wrote : {b' : List ℕ} → w.work ≡ 1 → b' ≡ splice b w.at (take w.count out) → Carried w out t b b'
  erased : {b' : List ℕ} (v : ℕ) → w.work ≡ 2 → (v ≡ 0) ⊎ (v ≡ 255) → b' ≡ replicate (length b) v → Carried w out t b b'
  spared : {b' : List ℕ} → w.work ≡ 2 → b' ≡ b → Carried w out t b b'
  copied : {b' : List ℕ} → w.work ≡ 3 → b' ≡ splice b w.at t → Carried w out t b b'

-- THE LOOP, from piece k on: a call, its work, until none is left. Where zeros can't be written over what was written, the first piece is the erase
pub data Loops (n : ℕ) (t : List ℕ) : ℕ → List ℕ → List ℕ → Type 0 where
  over : {k : ℕ} {b o o' : List ℕ} {w : Work} → WorksAs k n t (length b) o w o' → w.refusal ≡ 0 → w.work ≡ 0 → Loops n t k b b
  turn : {k : ℕ} {b x b' o o' : List ℕ} {w : Work} → WorksAs k n t (length b) o w o' → Carried w o' t b x → Loops n t (suc k) x b' → Loops n t k b b'
  wiped :
      {b b' o o' : List ℕ} {w : Work} (v : ℕ) → WorksAs 0 n t (length b) o w o' → w.work ≡ 1 → (v ≡ 0) ⊎ (v ≡ 255) → Loops n t 1 (replicate (length b) v) b' →
      Loops n t 0 b b'

-- A MEDIUM OF BYTES: after a cut each byte of a slot is what it was, or what the piece would have made it
pub record Partly (b new b' : List ℕ) : Type 0 where
  pub long : length b' ≡ length b
  pub octets : Octets b'
  pub bytes : (i : ℕ) → (get_or b' i 0 ≡ get_or b i 0) ⊎ (get_or b' i 0 ≡ get_or new i 0)

-- THE LOOP WITH THE POWER LOST, on such a medium: between two pieces, or within one
pub data Halts (n : ℕ) (t : List ℕ) : ℕ → List ℕ → List ℕ → Type 0 where
  between : {k : ℕ} {b : List ℕ} → Halts n t k b b
  inside :
      {k : ℕ} {b x b' o o' : List ℕ} {w : Work} → WorksAs k n t (length b) o w o' → Carried w o' t b x → Partly b x b' → Halts n t k b b'
  after : {k : ℕ} {b x b' o o' : List ℕ} {w : Work} → WorksAs k n t (length b) o w o' → Carried w o' t b x → Halts n t (suc k) x b' → Halts n t k b b'

-- a save that was cut, the mark being set or not
pub data Cuts (ps : List Piece) (b b' : List ℕ) : Type 0 where
  cuts : (set : Bool) → Cut set ps b b' → Cuts ps b b'
