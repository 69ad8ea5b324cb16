-- BY WHAT RIGHT A FRAME CHANGED A BYTE: whose connection it came on, at which level, and which frame of the same sender gave that level. The newest item stands first.
use Rattle.std.specs.Prelude.{ℕ, ◌≤◌, ◌≡◌, List, [], ◌∷◌, drop}
use Rattle.sheet.specs.Layout.{◌of◌}
use Rattle.sheet.specs.Head as head
use Rattle.device.specs.Sessions.{session_of}
use Rattle.history.specs.Wish.{offer_key, asks}
use Rattle.cemi.specs.Meaning.{connected}
use Rattle.link.specs.Serving.{apdu_of}
use Rattle.link.specs.Net.{Net, source_of, heard_in, Item, frame, press, time_out, give_back, net_after}
use Rattle.link.specs.Whose.{Partner}
use Rattle.link.specs.declared.Arrived.TheVariants.{Request, Connect}

-- the level of a connection
abbrev pub level_at : Net → ℕ → ℕ
level_at y c = (session_of y.link.sessions c).level

-- CONNECTION c WAS TAKEN BY THE ADDRESS a: by a frame of h from a that was heard as a connect of c; and after that frame and after every item since, c was a's
pub record Joined (x : Net) (h : List Item) (c a : ℕ) : Type 0 where
  pub later : ℕ
  pub join : List ℕ
  pub before : List Item
  pub within : drop later h ≡ frame join ∷ before
  pub source : source_of join ≡ a
  pub heard : heard_in (net_after x before) join ≡ Connect c
  pub since : (n : ℕ) → n ≤ later → Partner (net_after x (drop n h)).link c a

-- a frame b from the address a is connected data on connection c, a's, and offers what is then the key of level l
pub record Offered (y : Net) (b : List ℕ) (c a l : ℕ) : Type 0 where
  pub source : source_of b ≡ a
  pub partner : Partner y.link c a
  pub group : ℕ
  pub heard : heard_in y b ≡ Request connected c group
  pub key : asks (apdu_of b) ≡ offer_key (head.key l of y.sheet)

-- THE LEVEL l OF CONNECTION c WAS GIVEN TO THE ADDRESS a: by a frame of h that offered it; and after that frame and after every item since, c was a's and at that level.
-- So no connect came between, which would have set level 3
pub record Granted (x : Net) (h : List Item) (c a l : ℕ) : Type 0 where
  pub later : ℕ
  pub offer : List ℕ
  pub before : List Item
  pub within : drop later h ≡ frame offer ∷ before
  pub offered : Offered (net_after x before) offer c a l
  pub since : (n : ℕ) → n ≤ later → Partner (net_after x (drop n h)).link c a × (level_at (net_after x (drop n h)) c ≡ l)

-- THE RIGHT of an address, after h, to what takes level l: it is the partner of a connection whose level suffices, and that level was given to it
pub record ByRight (x : Net) (h : List Item) (a l : ℕ) : Type 0 where
  pub connection : ℕ
  pub partner : Partner (net_after x h).link connection a
  pub enough : level_at (net_after x h) connection ≤ l
  pub granted : Granted x h connection a (level_at (net_after x h) connection)

-- NO FRAME FROM THE ADDRESS a offers what is then a key of a level up to l, whatever others offer
abbrev pub NoKeyFromIn : Net → ℕ → ℕ → Item → Type 0
NoKeyFromIn y a l (frame b) = source_of b ≡ a → (k : ℕ) → k ≤ l → asks (apdu_of b) ≡ offer_key (head.key k of y.sheet) → ⊥
NoKeyFromIn y a l (press on) = Unit {0}
NoKeyFromIn y a l (time_out c) = Unit {0}
NoKeyFromIn y a l (give_back c n st) = Unit {0}

abbrev pub NoKeyFrom : Net → ℕ → ℕ → List Item → Type 0
NoKeyFrom x a l [] = Unit {0}
NoKeyFrom x a l (i ∷ h) = NoKeyFromIn (net_after x h) a l i × NoKeyFrom x a l h
