-- A FRAME THAT IS REFUSED IS NO EVENT: its number is above that of every frame that reads. Assumes nothing.
use Rattle.octets.proofs.Kit.{ℕ, ◌<◌, ◌≡◌, List, arith}
use Rattle.cemi.specs.{Read.read_frame, Meaning.{meaning_of, meaning_number}, Means.{Means, to_all, to_some, to_none, plain, numbered, connects, disconnects, acknowledges, other}}
use Rattle.cemi.{specs.declared.{Frame.Frame, ReadRefusal.ReadRefusal, Meaning.Meaning, NoMeaning.NoMeaning}, proofs.promises.Understood.means}
use Rattle.std.specs.Prelude.{Result, Err}
use Rattle.tool.specs.FlatFrame.{flat_frame, no_event}

below : (f : Frame) (m : Result Meaning NoMeaning) → Means f m → meaning_number m < no_event
below f m (to_all _ _ _) = omega arith
below f m (to_some _ _ _) = omega arith
below f m (to_none _ _) = omega arith
below f m (plain _ _) = omega arith
below f m (numbered _ _ _) = omega arith
below f m (connects _ _ _) = omega arith
below f m (disconnects _ _ _) = omega arith
below f m (acknowledges _ _ _) = omega arith
below f m (other _ _ _ _) = omega arith

pub no_event_lem : (b : List ℕ) (n : ReadRefusal) (f : Frame) → read_frame b ≡ Err n → meaning_number (meaning_of f) < (flat_frame b).event
unfolding flat_frame
no_event_lem b n f e = rw e (below f (meaning_of f) (means f))
