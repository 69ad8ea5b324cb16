-- What a frame means, from address type, destination and transport control.
use Rattle.std.specs.Prelude.{ℕ, ◌+◌, ◌*◌, Bool, cond, ◌&&◌, leb, eqb, Result, Ok, Err}
use Rattle.cemi.specs.declared.Frame.{Frame}
use Rattle.cemi.specs.declared.Meaning.{Meaning}
use Rattle.cemi.specs.declared.Meaning.TheVariants.{Data, Connect, Disconnect}
use Rattle.cemi.specs.declared.NoMeaning.{NoMeaning}
use Rattle.cemi.specs.declared.NoMeaning.TheVariants.{Transport, Acknowledgement}
use Rattle.cemi.specs.Refusal.{none_number}

-- the modes, as the device numbers them
abbrev pub multicast : ℕ
multicast = 0

abbrev pub broadcast : ℕ
broadcast = 1

abbrev pub connectionless : ℕ
connectionless = 2

abbrev pub connected : ℕ
connected = 3

-- to a group, transport being t: data to group 0 is broadcast
unfoldable pub to_group : ℕ → ℕ → Result Meaning NoMeaning
to_group t destination = cond (eqb t 0) (cond (eqb destination 0) (Ok (Data broadcast)) (Ok (Data multicast))) (Err Transport)

-- a control, a single octet with transport t and low bits w: connect 80h, disconnect 81h, acknowledgements 11ssss and then 10 or 11
unfoldable pub control : ℕ → ℕ → Result Meaning NoMeaning
control t w =
    cond (eqb (t * 4 + w) 128) (Ok Connect)
    (cond (eqb (t * 4 + w) 129) (Ok Disconnect) (cond (leb 48 t && leb 2 w) (Err Acknowledgement) (Err Transport)))

-- connected data with its sequence number, 010000 to 011111
unfoldable pub numbered : ℕ → Bool
numbered t = leb 16 t && leb t 31

-- to an individual address, with x octets after octet 6: data without connection, connected data, or a control
unfoldable pub to_one : ℕ → ℕ → ℕ → Result Meaning NoMeaning
to_one t w x =
    cond (eqb t 0) (Ok (Data connectionless))
    (cond (numbered t) (Ok (Data connected)) (cond (eqb x 0) (control t w) (Err Transport)))

-- WHAT A FRAME MEANS: bit 7 of control 2 says that the destination is a group
unfoldable pub meaning_of : Frame → Result Meaning NoMeaning
meaning_of f =
    cond (leb 128 f.fields.control2) (to_group f.fields.transport f.fields.destination)
    (to_one f.fields.transport f.low f.stated)

-- a meaning by its number: the mode, 4 connect, 5 disconnect, or the refusal
abbrev pub meaning_number : Result Meaning NoMeaning → ℕ
meaning_number (Ok (Data mode)) = mode
meaning_number (Ok Connect) = 4
meaning_number (Ok Disconnect) = 5
meaning_number (Err e) = none_number e
