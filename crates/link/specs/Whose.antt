-- WHOSE AN EVENT IS, as plain propositions.
use Rattle.std.specs.Prelude.{ℕ, ◌≡◌, true, false, List}
use Rattle.device.specs.Sessions.{session_of}
use Rattle.events.specs.Events.{Event, connect}
use Rattle.link.specs.Partners.{address_at}
use Rattle.link.specs.Net.{Net, source_of}
use Rattle.link.specs.declared.Link.{Link}

-- connection c is open and the address is its partner's
pub record Partner (k : Link) (c a : ℕ) : Type 0 where
  pub «open» : (session_of k.sessions c).opened ≡ true
  pub address : address_at k c ≡ a

-- an event of connection c that a frame b is: its partner's, or the connect of a newcomer to a connection that is closed
pub data Whose (x : Net) (b : List ℕ) (c : ℕ) : Event → Type 0 where
  partner : {e : Event} → Partner x.link c (source_of b) → Whose x b c e
  newcomer : (session_of x.link.sessions c).opened ≡ false → Whose x b c (connect c)

-- both places are taken by others than a
pub record NoPlace (k : Link) (a : ℕ) : Type 0 where
  pub first : k.sessions.first.opened ≡ true
  pub second : k.sessions.second.opened ≡ true
  pub not_first : k.first ≡ a → ⊥
  pub not_second : k.second ≡ a → ⊥

-- TWO OPEN PLACES HAVE TWO ADDRESSES
abbrev pub Apart : Link → Type 0
Apart k = k.sessions.first.opened ≡ true → k.sessions.second.opened ≡ true → k.first ≡ k.second → ⊥
