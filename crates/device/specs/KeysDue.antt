-- WHAT IS DUE FOR KEYS, offered and written, and for a restart.
use Rattle.std.specs.Prelude.{ℕ, ◌*◌, ◌≤◌, ◌≡◌, true, false, List, []}
use Rattle.octets.specs.Bytes.{bytes_of}
use Rattle.octets.specs.Splice.{splice}
use Rattle.sheet.specs.Layout.{◌of◌}
use Rattle.sheet.specs.Head as head
use Rattle.pdu.specs.Write.{encoded}
use Rattle.pdu.specs.declared.Pdu.TheVariants.{AuthorizeRequest, KeyWrite, Restart, AuthorizeResponse, KeyResponse}
use Rattle.device.specs.Step.{Step}
use Rattle.device.specs.Asked.{Asked, says, says_after, Reads, Acts}

-- the smallest level with the key, else 3
pub data Grants (s : List ℕ) (key : ℕ) : ℕ → Type 0 where
  key0 : head.key 0 of s ≡ key → Grants s key 0
  key1 : (head.key 0 of s ≡ key → ⊥) → head.key 1 of s ≡ key → Grants s key 1
  key2 : (head.key 0 of s ≡ key → ⊥) → (head.key 1 of s ≡ key → ⊥) → head.key 2 of s ≡ key → Grants s key 2
  other : (head.key 0 of s ≡ key → ⊥) → (head.key 1 of s ≡ key → ⊥) → (head.key 2 of s ≡ key → ⊥) → Grants s key 3

pub record KeyWritable (x : Asked) (named : ℕ) : Type 0 where
  pub known : named ≤ 2
  pub level : ℕ
  pub acts : Acts x level
  pub suffices : level ≤ named

-- programming mode is cleared, verify stays
abbrev pub unprogrammed : List ℕ → List ℕ
unprogrammed s = splice s (head.flags).at (bytes_of 1 (head.verify s * 2))

-- THE STEP THAT IS DUE
pub data KeysDue (x : Asked) : Step → Type 0 where
  authorize : (key level : ℕ) → Reads x (AuthorizeRequest key) → Grants x.sheet key level →
      KeysDue x
      record { outcome = 0; answer = encoded (AuthorizeResponse level) []; session = record { opened = x.session.opened; level = level }; sheet = x.sheet; restarts = false }
  key_write : (named key : ℕ) → Reads x (KeyWrite named key) → KeyWritable x named →
      KeysDue x (says_after x (splice x.sheet (head.key named).at (bytes_of 4 key)) (KeyResponse named) [])
  no_key_write : (named key : ℕ) → Reads x (KeyWrite named key) → (KeyWritable x named → ⊥) → KeysDue x (says x 11 (KeyResponse 255) [])
  restart : Reads x Restart →
      KeysDue x record { outcome = 1; answer = []; session = record { opened = false; level = 3 }; sheet = unprogrammed x.sheet; restarts = true }
