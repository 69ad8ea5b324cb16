-- WHICH NUMBER IS DUE, as plain propositions: of a reading, and of a writing.
use Rattle.std.specs.Prelude.{ℕ, suc, ◌%◌, ◌≤◌, ◌<◌, ◌≡◌, ◌⊎◌, List, length, get_or, ℤ, pos, negsuc, Float}
use Rattle.std.specs.Float.{nan, inf, fin}
use Rattle.points.specs.declared.Datapoint.{Datapoint}
use Rattle.points.specs.declared.Datapoint.TheVariants.{Switch, Byte, Hundredths, Float as Single}

-- the values of type t have w bytes
abbrev pub Wide : ℕ → ℕ → Type 0
Wide t w = ((t ≡ 1) × (w ≡ 1)) ⊎ ((t ≡ 5) × (w ≡ 1)) ⊎ ((t ≡ 9) × (w ≡ 2)) ⊎ ((t ≡ 14) × (w ≡ 4))

-- the bytes 7Fh, FFh
abbrev pub Invalid : List ℕ → Type 0
Invalid b = (get_or b 0 0 ≡ 127) × (get_or b 1 0 ≡ 255)

-- an infinity or a NaN: the seven low bits of the first byte and the top bit of the second are set
abbrev pub Unbounded : List ℕ → Type 0
Unbounded b = (get_or b 0 0 % 128 ≡ 127) × (128 ≤ get_or b 1 0)

-- OF READING THE BYTES b IN TYPE t: the first that they are against, or 0
pub data ReadDue (t : ℕ) (b : List ℕ) : ℕ → Type 0 where
  no_type : (t ≡ 1 → ⊥) → (t ≡ 5 → ⊥) → (t ≡ 9 → ⊥) → (t ≡ 14 → ⊥) → ReadDue t b 25
  wrong_length : (w : ℕ) → Wide t w → (length b ≡ w → ⊥) → ReadDue t b 20
  bits_above : t ≡ 1 → length b ≡ 1 → 2 ≤ get_or b 0 0 → ReadDue t b 21
  invalid : t ≡ 9 → length b ≡ 2 → Invalid b → ReadDue t b 22
  unbounded : t ≡ 14 → length b ≡ 4 → Unbounded b → ReadDue t b 24
  switch : t ≡ 1 → length b ≡ 1 → get_or b 0 0 < 2 → ReadDue t b 0
  byte : t ≡ 5 → length b ≡ 1 → ReadDue t b 0
  hundredths : t ≡ 9 → length b ≡ 2 → (Invalid b → ⊥) → ReadDue t b 0
  float : t ≡ 14 → length b ≡ 4 → (Unbounded b → ⊥) → ReadDue t b 0

-- hundredths above 67,043,328, or below −67,108,864: `negsuc n` is −(n + 1)
abbrev pub OutOfRange : ℤ → Type 0
OutOfRange (pos m) = 67043328 < m
OutOfRange (negsuc n) = 67108864 < suc n

abbrev pub NotFinite : Float → Type 0
NotFinite nan = Unit {0}
NotFinite (inf s) = Unit {0}
NotFinite (fin s m e) = ⊥

-- a datapoint's value has w bytes
abbrev pub Sized : Datapoint → ℕ → Type 0
Sized (Switch on) w = w ≡ 1
Sized (Byte n) w = w ≡ 1
Sized (Hundredths z) w = w ≡ 2
Sized (Single x) w = w ≡ 4

-- nothing of its own is against it
abbrev pub Writable : Datapoint → Type 0
Writable (Switch on) = Unit {0}
Writable (Byte n) = Unit {0}
Writable (Hundredths z) = OutOfRange z → ⊥
Writable (Single x) = NotFinite x → ⊥

-- OF WRITING A DATAPOINT d INTO w BYTES
pub data WriteDue (d : Datapoint) (w : ℕ) : ℕ → Type 0 where
  other_length : (Sized d w → ⊥) → WriteDue d w 20
  out_of_range : (z : ℤ) → d ≡ Hundredths z → w ≡ 2 → OutOfRange z → WriteDue d w 23
  not_finite : (x : Float) → d ≡ Single x → w ≡ 4 → NotFinite x → WriteDue d w 24
  written : Sized d w → Writable d → WriteDue d w 0
