-- Carrying a decision out: what it stores, what becomes of the session, what it answers.
use Rattle.std.specs.Prelude.{ℕ, zero, suc, ◌+◌, ◌≡◌, List, [], ◌∷◌, ◌++◌, Bool, true, false, length, get_or, take, drop, replicate}
use Rattle.std.specs.Int.Bits.{bit_and, bit_xor}
use Rattle.octets.specs.Bytes.{bytes_of}
use Rattle.octets.specs.Splice.{splice}
use Rattle.pdu.specs.Write.{encoded}
use Rattle.judge.specs.Session.{weakest}
use Rattle.judge.specs.declared.Session.{Session}
use Rattle.judge.specs.declared.Store.{Store}
use Rattle.judge.specs.declared.Store.TheVariants as store
use Rattle.judge.specs.declared.Turn.{Turn}
use Rattle.judge.specs.declared.Turn.TheVariants.{Stays, Level, Closes}
use Rattle.judge.specs.declared.Answer.{Answer}
use Rattle.judge.specs.declared.Answer.TheVariants as answer

-- f 0, f 1, .., f (n - 1)
unfoldable pub build : ℕ → (ℕ → ℕ) → List ℕ
build zero f = []
build (suc n) f = build n f ++ (f n ∷ [])

-- byte i of a bit write: (old AND a) XOR x, the data d having n AND bytes and then n XOR bytes
unfoldable pub bit_at : List ℕ → ℕ → ℕ → List ℕ → ℕ → ℕ
bit_at s at n d i = bit_xor (bit_and (get_or s (at + i) 0) (get_or d i 0)) (get_or d (n + i) 0)

-- so many zeros, then the data
abbrev pub padded : ℕ → List ℕ → List ℕ
padded zeros d = replicate zeros 0 ++ d

-- the sheet after one store
abbrev pub store_of : List ℕ → List ℕ → Store → List ℕ
store_of s d store.Nothing = s
store_of s d (store.Number at w x) = splice s at (bytes_of w x)
store_of s d (store.Data zeros at) = splice s at (padded zeros d)
store_of s d (store.Bits at n) = splice s at (build n (bit_at s at n d))
store_of s d (store.Fill at n b) = splice s at (replicate n b)

abbrev pub turn_of : Session → Turn → Session
turn_of q Stays = q
turn_of q (Level l) = record { opened = q.opened; level = l }
turn_of q Closes = record { opened = false; level = weakest }

abbrev pub closes : Turn → Bool
closes Stays = false
closes (Level l) = false
closes Closes = true

-- the bytes of an answer, s being the sheet after the stores
abbrev pub answer_of : List ℕ → List ℕ → Answer → List ℕ
answer_of s d answer.Silence = []
answer_of s d (answer.Plain p) = encoded p []
answer_of s d (answer.Number p w x) = encoded p (bytes_of w x)
answer_of s d (answer.Sheet p at n) = encoded p (take n (drop at s))
answer_of s d (answer.Echo p) = encoded p d

-- r bytes of an answer stand in front of the buffer, whose rest is as found
pub record Filled (bytes : List ℕ) (r : ℕ) (out out' : List ℕ) : Type 0 where
  pub count : r ≡ length bytes
  pub holds : out' ≡ splice out 0 bytes
