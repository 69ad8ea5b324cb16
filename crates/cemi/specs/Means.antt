-- The same as plain propositions: which meaning is due when.
use Rattle.std.specs.Prelude.{ℕ, ◌+◌, ◌*◌, ◌≤◌, ◌<◌, ◌≡◌, ◌⊎◌, Result, Ok, Err}
use Rattle.cemi.specs.Meaning.{multicast, broadcast, connectionless, connected}
use Rattle.cemi.specs.declared.Frame.{Frame}
use Rattle.cemi.specs.declared.Meaning.{Meaning}
use Rattle.cemi.specs.declared.Meaning.TheVariants.{Data, Connect, Disconnect}
use Rattle.cemi.specs.declared.NoMeaning.{NoMeaning}
use Rattle.cemi.specs.declared.NoMeaning.TheVariants.{Transport, Acknowledgement}

-- the destination is a group, or an individual address
abbrev pub Group : Frame → Type 0
Group f = 128 ≤ f.fields.control2

abbrev pub Individual : Frame → Type 0
Individual f = f.fields.control2 < 128

-- octet 6, of which the top six bits are transport's
abbrev pub octet : Frame → ℕ
octet f = f.fields.transport * 4 + f.low

-- a single octet that acknowledges, positively or negatively
abbrev pub Acknowledges : Frame → Type 0
Acknowledges f = (48 ≤ f.fields.transport) × (2 ≤ f.low)

-- WHAT IS DUE
pub data Means (f : Frame) : Result Meaning NoMeaning → Type 0 where
  to_all : Group f → f.fields.transport ≡ 0 → f.fields.destination ≡ 0 → Means f (Ok (Data broadcast))
  to_some : Group f → f.fields.transport ≡ 0 → (f.fields.destination ≡ 0 → ⊥) → Means f (Ok (Data multicast))
  to_none : Group f → (f.fields.transport ≡ 0 → ⊥) → Means f (Err Transport)
  plain : Individual f → f.fields.transport ≡ 0 → Means f (Ok (Data connectionless))
  numbered : Individual f → 16 ≤ f.fields.transport → f.fields.transport ≤ 31 → Means f (Ok (Data connected))
  connects : Individual f → f.stated ≡ 0 → octet f ≡ 128 → Means f (Ok Connect)
  disconnects : Individual f → f.stated ≡ 0 → octet f ≡ 129 → Means f (Ok Disconnect)
  acknowledges : Individual f → f.stated ≡ 0 → Acknowledges f → Means f (Err Acknowledgement)
  other :
      Individual f →
      (f.fields.transport ≡ 0 → ⊥) →
      ((16 ≤ f.fields.transport) × (f.fields.transport ≤ 31) → ⊥) →
      (f.stated ≡ 0 → (octet f ≡ 128) ⊎ (octet f ≡ 129) ⊎ Acknowledges f → ⊥) →
      Means f (Err Transport)
