-- WRONG LINKS, each refuted: of what it hears something is not due. Assumes nothing.
use Rattle.octets.proofs.Kit.{ℕ, ◌+◌, ◌*◌, ◌≡◌, ap, true, false, cond, ◌&&◌, not, List, [], ◌∷◌, leb, eqb, arith}
use Rattle.octets.specs.Bytes.{num_at}
use Rattle.cemi.specs.{Read.{fields_in, frame_in, standard_of, refusal_of, read_frame}, Meaning.{to_group, control, numbered, to_one, meaning_of}}
use Rattle.judge.specs.declared.Session.{Session}
use Rattle.link.specs.{Partners.{nobody, place_of, free_of, place_for}, Hearing.{for_us, to_itself, on_place, connects, disconnects, meant, from_other, judged, heard_got, heard_of}}
use Rattle.link.specs.{Net.source_of, Due.HeardDue, declared.{Link.Link, Arrived.{Arrived, TheVariants.{Request, Connect, Disconnect, Nothing}}}}
use Rattle.link.proofs.promises.Dues.{heard_only}

-- any way to hear, and one that hears what is due
abbrev pub Hears : Type 0
Hears = Link → ℕ → List ℕ → Arrived

abbrev pub Duly : Hears → Type 0
Duly w = (k : Link) (own : ℕ) (b : List ℕ) → HeardDue k own b (w k own b)

-- what arrived, as a number
unfoldable told : Arrived → ℕ
told (Request mode c group) = 1000 + (mode * 256 + c)
told (Connect c) = 3000 + c
told (Disconnect c) = 4000 + c
told (Nothing n c) = n

-- one frame on which it is another suffices
refuted : (w : Hears) (k : Link) (b : List ℕ) → (told (w k 0x1105 b) ≡ told (heard_of k 0x1105 b) → ⊥) → Duly w → ⊥
refuted w k b n r = n (ap told (heard_only k 0x1105 b (w k 0x1105 b) (r k 0x1105 b)))

-- the device 1105h with two partners, and with none
abbrev at : Session
at = record { opened = true; level = 2 }

abbrev shut : Session
shut = record { opened = false; level = 3 }

abbrev two : Link
two = record { sessions = record { first = at; second = at }; first = 0x11FF; second = 0x1203 }

abbrev none : Link
none = record { sessions = record { first = shut; second = shut }; first = 0; second = 0 }

-- from s t, with control bytes c and e, to d f
abbrev by : ℕ → ℕ → ℕ → ℕ → ℕ → ℕ → ℕ → List ℕ
by c e s t d f octet = 0x29 ∷ 0 ∷ c ∷ e ∷ s ∷ t ∷ d ∷ f ∷ 0 ∷ octet ∷ []

-- GROUP TELEGRAMS WITH HOP COUNT 6 ALONE, so nothing from behind a coupler
abbrev hops_counted : Hears
hops_counted k own b = cond (leb 128 (fields_in b).control2 && not (eqb (fields_in b).control2 0xE0)) (Nothing 60 nobody) (heard_of k own b)

pub hops_counted_lem : Duly hops_counted → ⊥
unfolding told heard_of heard_got judged for_us from_other to_itself meant on_place connects disconnects place_of place_for free_of read_frame refusal_of standard_of meaning_of to_group to_one control numbered num_at
hops_counted_lem = refuted hops_counted two (by 0xB0 0xD0 0x12 0x04 0x08 0x01 0x00) (λ e. let z : 60 ≡ 1255 = e in omega arith)

-- NO DATA AND NO DISCONNECT OF CONNECTION 0
abbrev not_first : Arrived → Arrived
not_first (Request mode c group) = cond (eqb mode 3 && eqb c 0) (Nothing 61 nobody) (Request mode c group)
not_first (Connect c) = Connect c
not_first (Disconnect c) = cond (eqb c 0) (Nothing 63 nobody) (Disconnect c)
not_first (Nothing n c) = Nothing n c

abbrev first_unheard : Hears
first_unheard k own b = not_first (heard_of k own b)

pub first_unheard_lem : Duly first_unheard → ⊥
unfolding told heard_of heard_got judged for_us from_other to_itself meant on_place connects disconnects place_of place_for free_of read_frame refusal_of standard_of meaning_of to_group to_one control numbered num_at
first_unheard_lem = refuted first_unheard two (by 0xB0 0x60 0x11 0xFF 0x11 0x05 0x40) (λ e. let z : 61 ≡ 1768 = e in omega arith)

pub first_kept : Duly first_unheard → ⊥
unfolding told heard_of heard_got judged for_us from_other to_itself meant on_place connects disconnects place_of place_for free_of read_frame refusal_of standard_of meaning_of to_group to_one control numbered num_at
first_kept = refuted first_unheard two (by 0xB0 0x60 0x11 0xFF 0x11 0x05 0x81) (λ e. let z : 63 ≡ 4000 = e in omega arith)

-- A PARTNER'S DATA WITHOUT A CONNECTION AT ITS LEVEL, on its connection
abbrev promotes : ℕ → Arrived → Arrived
promotes place (Request mode c group) = cond (eqb mode 2 && leb place 1) (Request 3 place group) (Request mode c group)
promotes place (Connect c) = Connect c
promotes place (Disconnect c) = Disconnect c
promotes place (Nothing n c) = Nothing n c

abbrev promoted : Hears
promoted k own b = promotes (place_of k (source_of b)) (heard_of k own b)

pub partner_promoted : Duly promoted → ⊥
unfolding told heard_of heard_got judged for_us from_other to_itself meant on_place connects disconnects place_of place_for free_of read_frame refusal_of standard_of meaning_of to_group to_one control numbered num_at
partner_promoted = refuted promoted two (by 0xB0 0x60 0x12 0x03 0x11 0x05 0x03) (λ e. let z : 1769 ≡ 1767 = e in omega arith)

-- THE DEVICE'S OWN ADDRESS AS ANY OTHER
abbrev itself_heard : Hears
itself_heard k own b =
    cond (eqb (source_of b) own && eqb (fields_in b).destination own) (meant k (source_of b) (fields_in b).destination (meaning_of (frame_in b))) (heard_of k own b)

pub itself_heard_lem : Duly itself_heard → ⊥
unfolding told heard_of heard_got judged for_us from_other to_itself meant on_place connects disconnects place_of place_for free_of read_frame refusal_of standard_of meaning_of to_group to_one control numbered num_at
itself_heard_lem = refuted itself_heard none (by 0xB0 0x60 0x11 0x05 0x11 0x05 0x80) (λ e. let z : 3000 ≡ 65 = e in omega arith)

-- NOTHING UNDER THE DEVICE'S OWN ADDRESS, not to all either: programming is lost between two that are factory-new
abbrev own_unheard : Hears
own_unheard k own b = cond (eqb (source_of b) own && leb 128 (fields_in b).control2) (Nothing 65 nobody) (heard_of k own b)

pub own_unheard_lem : Duly own_unheard → ⊥
unfolding told heard_of heard_got judged for_us from_other to_itself meant on_place connects disconnects place_of place_for free_of read_frame refusal_of standard_of meaning_of to_group to_one control numbered num_at
own_unheard_lem = refuted own_unheard none (by 0xB0 0xE0 0x11 0x05 0x00 0x00 0x00) (λ e. let z : 65 ≡ 1511 = e in omega arith)

-- WITH BOTH PLACES FREE THE SECOND FIRST
abbrev second : Arrived → Arrived
second (Request mode c group) = Request mode c group
second (Connect c) = Connect 1
second (Disconnect c) = Disconnect c
second (Nothing n c) = Nothing n c

abbrev second_first : Hears
second_first k own b = cond (not k.sessions.first.opened && not k.sessions.second.opened) (second (heard_of k own b)) (heard_of k own b)

pub second_first_lem : Duly second_first → ⊥
unfolding told heard_of heard_got judged for_us from_other to_itself meant on_place connects disconnects place_of place_for free_of read_frame refusal_of standard_of meaning_of to_group to_one control numbered num_at
second_first_lem = refuted second_first none (by 0xB0 0x60 0x11 0xFF 0x11 0x05 0x80) (λ e. let z : 3001 ≡ 3000 = e in omega arith)

-- LOW PRIORITY UNHEARD
abbrev urgent_alone : Hears
urgent_alone k own b = cond (eqb (fields_in b).control1 0xBC) (Nothing 42 nobody) (heard_of k own b)

pub urgent_alone_lem : Duly urgent_alone → ⊥
unfolding told heard_of heard_got judged for_us from_other to_itself meant on_place connects disconnects place_of place_for free_of read_frame refusal_of standard_of meaning_of to_group to_one control numbered num_at
urgent_alone_lem = refuted urgent_alone two (by 0xBC 0xE0 0x12 0x04 0x08 0x01 0x00) (λ e. let z : 42 ≡ 1255 = e in omega arith)
