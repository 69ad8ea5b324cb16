-- WHAT A FRAME IS TO THE DEVICE, as plain propositions: a constructor a case.
-- What a frame says of itself is cemi's: `Standard` (it reads), `Due` (why it does not), `Means` (what it means, of whatever hop count, priority, repeat bit and additional information).
use Rattle.std.specs.Prelude.{ℕ, ◌≡◌, true, false, List, length, Ok, Err}
use Rattle.cemi.specs.Layout.{info_length, stated, ◌of◌}
use Rattle.cemi.specs.Read.{fields_in, frame_in}
use Rattle.cemi.specs.Standard.{Standard, Due}
use Rattle.cemi.specs.Meaning.{multicast, broadcast, connectionless, connected}
use Rattle.cemi.specs.Means.{Group, Individual, Means}
use Rattle.cemi.specs.declared.Meaning.TheVariants as meaning
use Rattle.cemi.specs.declared.NoMeaning.{NoMeaning}
use Rattle.cemi.specs.Refusal.{none_number}
use Rattle.link.specs.Partners.{nobody}
use Rattle.link.specs.Whose.{Partner, NoPlace}
use Rattle.link.specs.declared.Link.{Link}
use Rattle.link.specs.declared.Arrived.{Arrived}
use Rattle.link.specs.declared.Arrived.TheVariants.{Request, Connect, Disconnect, Nothing}

-- the connection of an address: the one whose partner it is; the lower, should it be so of both, which no history of frames gives (`apart`)
pub data Has (k : Link) (a : ℕ) : ℕ → Type 0 where
  first : Partner k 0 a → Has k a 0
  second : (Partner k 0 a → ⊥) → Partner k 1 a → Has k a 1

-- nobody's partner
pub record Stranger (k : Link) (a : ℕ) : Type 0 where
  pub not_first : Partner k 0 a → ⊥
  pub not_second : Partner k 1 a → ⊥

-- the frame's sender and destination
abbrev pub from : List ℕ → ℕ
from b = (fields_in b).source

abbrev pub to : List ℕ → ℕ
to b = (fields_in b).destination

-- the bytes are a standard frame
abbrev pub Reads : List ℕ → Type 0
Reads b = Standard (length b) (info_length b) (fields_in b) (stated of b)

-- A FRAME THAT IS HEARD: to a group or to all, from whomever; or to the device alone, from another
pub data Ours (own : ℕ) (b : List ℕ) : Type 0 where
  shared : Reads b → Group (frame_in b) → Ours own b
  alone : Reads b → Individual (frame_in b) → to b ≡ own → (from b ≡ own → ⊥) → Ours own b

-- WHAT IS DUE for a frame b to the device with the address `own` and the link k
pub data HeardDue (k : Link) (own : ℕ) (b : List ℕ) : Arrived → Type 0 where
  -- no standard frame, 40 to 43; to another device, 60; from itself to itself alone, 65
  unread : (n : ℕ) → (n ≡ 0 → ⊥) → Due (length b) (info_length b) (fields_in b) (stated of b) n → HeardDue k own b (Nothing n nobody)
  elsewhere : Reads b → Individual (frame_in b) → (to b ≡ own → ⊥) → HeardDue k own b (Nothing 60 nobody)
  itself : Reads b → Individual (frame_in b) → to b ≡ own → from b ≡ own → HeardDue k own b (Nothing 65 nobody)
  -- data without a connection, from whomever: a request of nobody's, a partner's too
  to_group : Ours own b → Means (frame_in b) (Ok (meaning.Data multicast)) → HeardDue k own b (Request multicast nobody (to b))
  to_all : Ours own b → Means (frame_in b) (Ok (meaning.Data broadcast)) → HeardDue k own b (Request broadcast nobody (to b))
  plain : Ours own b → Means (frame_in b) (Ok (meaning.Data connectionless)) → HeardDue k own b (Request connectionless nobody (to b))
  -- connected data: a partner's is a request on its connection, whichever that is and whatever its sequence number; a stranger's is 61
  partners :
      (c : ℕ) → Ours own b → Means (frame_in b) (Ok (meaning.Data connected)) → Has k (from b) c → HeardDue k own b (Request connected c (to b))
  strangers : Ours own b → Means (frame_in b) (Ok (meaning.Data connected)) → Stranger k (from b) → HeardDue k own b (Nothing 61 nobody)
  -- a connect: a partner's is of the connection that it has; a stranger gets the first that is closed, or 62
  again : (c : ℕ) → Ours own b → Means (frame_in b) (Ok meaning.Connect) → Has k (from b) c → HeardDue k own b (Connect c)
  first_free :
      Ours own b → Means (frame_in b) (Ok meaning.Connect) → Stranger k (from b) → k.sessions.first.opened ≡ false → HeardDue k own b (Connect 0)
  second_free :
      Ours own b → Means (frame_in b) (Ok meaning.Connect) → Stranger k (from b) → k.sessions.first.opened ≡ true →
      k.sessions.second.opened ≡ false → HeardDue k own b (Connect 1)
  third : Ours own b → Means (frame_in b) (Ok meaning.Connect) → NoPlace k (from b) → HeardDue k own b (Nothing 62 nobody)
  -- a disconnect: a partner's is of its connection, whichever that is; a stranger's is 63
  parts : (c : ℕ) → Ours own b → Means (frame_in b) (Ok meaning.Disconnect) → Has k (from b) c → HeardDue k own b (Disconnect c)
  stranger_parts : Ours own b → Means (frame_in b) (Ok meaning.Disconnect) → Stranger k (from b) → HeardDue k own b (Nothing 63 nobody)
  -- what transport alone deals with, 44 and 45: a partner's with its connection
  control : (e : NoMeaning) (c : ℕ) → Ours own b → Means (frame_in b) (Err e) → Has k (from b) c → HeardDue k own b (Nothing (none_number e) c)
  stranger_control : (e : NoMeaning) → Ours own b → Means (frame_in b) (Err e) → Stranger k (from b) → HeardDue k own b (Nothing (none_number e) nobody)
