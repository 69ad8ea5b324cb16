-- WHAT CAN BE LEARNED BY FRAMES: two devices with the same link whose sheets differ in secret bytes alone, and what the same frames bring from both.
use Rattle.std.specs.Prelude.{ℕ, ◌≤◌, ◌≡◌, true, List, [], ◌∷◌}
use Rattle.device.specs.Sessions.{session_of}
use Rattle.history.specs.Secret.{Hide}
use Rattle.link.specs.Serving.{Deed}
use Rattle.link.specs.Net.{Net, Item, net_after}
use Rattle.link.specs.Granted.{level_at}

-- THE SAME BUT FOR SECRETS: the same link, and sheets that are the same but for bytes whose read level is below q
pub record Hides (q : ℕ) (y y' : Net) : Type 0 where
  pub link : y'.link ≡ y.link
  pub sheet : Hide q y.sheet y'.sheet

-- no open connection has a level below q; and so before each item of a history
abbrev pub Weak : ℕ → Net → Type 0
Weak q y = (c : ℕ) → (session_of y.link.sessions c).opened ≡ true → q ≤ level_at y c

abbrev pub NoneBelow : ℕ → Net → List Item → Type 0
NoneBelow q x [] = Unit {0}
NoneBelow q x (i ∷ h) = Weak q (net_after x h) × NoneBelow q x h

-- NOTHING IS TOLD by a frame that is served: number, outcome, connection, the frame that answers, the parts that it names and the link are the same, and the sheets that it leaves still hide q
pub record NothingServed (q : ℕ) (d d' : Deed) : Type 0 where
  pub number : d'.number ≡ d.number
  pub outcome : d'.outcome ≡ d.outcome
  pub connection : d'.connection ≡ d.connection
  pub answer : d'.answer ≡ d.answer
  pub changed : d'.changed ≡ d.changed
  pub link : d'.link ≡ d.link
  pub sheet : Hide q d.sheet d'.sheet
